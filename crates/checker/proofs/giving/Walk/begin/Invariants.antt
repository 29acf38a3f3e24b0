use Rattle.checker.specs.Walking.{AreKept}
use Rattle.checker.proofs.giving.Walk.begin.Given as goal

abbrev pub invariant-loop-i : goal.invariant-loop-i
invariant-loop-i l = AreKept l.table l.i (λ _. 0) l.walk
