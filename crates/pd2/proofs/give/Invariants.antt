use Rattle.pd2.proofs.Rows.{GaveBelow}
use Rattle.pd2.proofs.give.Given as goal

abbrev pub invariant-loop-i : goal.invariant-loop-i
invariant-loop-i l = GaveBelow l.marks l.fn.quanta l.given-items l.i
