-- What the question answers (02, Ten): 02's number for each case, and the quanta.
use Rattle.std.specs.Prelude.{Result, Ok, Err}
use Rattle.counts.specs.declared.Quanta.{Quanta}
use Rattle.summary.specs.declared.Unanswered.{Unanswered}
use Rattle.summary.specs.declared.Unanswered.TheVariants.{NoRow, PastCount, NoEntry}
use Rattle.summary.specs.Question.{Reply}

abbrev pub reply_of : Result Quanta Unanswered → Reply
reply_of (Ok quanta) = record { number = 0; quanta = quanta.0 }
reply_of (Err NoRow) = record { number = 36; quanta = 0 }
reply_of (Err PastCount) = record { number = 38; quanta = 0 }
reply_of (Err NoEntry) = record { number = 39; quanta = 0 }
