use Rattle.trace.proofs.Search.{Walked}
use Rattle.trace.proofs.walk.Given as goal

abbrev pub invariant-loop : goal.invariant-loop
invariant-loop l = Walked l.trace l.slot l.start l.counter
