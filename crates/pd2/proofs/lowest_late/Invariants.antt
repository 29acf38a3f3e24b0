use Rattle.facts.proofs.Some.{NoneYet}
use Rattle.counts.specs.Numbers.{numbers_of}
use Rattle.pd2.specs.Rows.{says_late_in}
use Rattle.pd2.proofs.lowest_late.Given as goal

abbrev pub invariant-loop-i : goal.invariant-loop-i
invariant-loop-i l = NoneYet (says_late_in l.rows (numbers_of l.quanta) l.time.0) l.last l.i
