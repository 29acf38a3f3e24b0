use Rattle.cores.proofs.Keeping.{KeptFrom}
use Rattle.cores.proofs.turns.keep.Given as goal

abbrev pub invariant-loop-i : goal.invariant-loop-i
invariant-loop-i l = KeptFrom l.rows l.free l.last l.own l.left l.i
