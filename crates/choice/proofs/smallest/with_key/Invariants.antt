use Rattle.choice.proofs.Inserted.{Moved}
use Rattle.choice.proofs.smallest.with_key.Given as goal

abbrev pub invariant-loop-at : goal.invariant-loop-at
invariant-loop-at l = Moved l.initial.best l.last l.key l.best l.at
