use Rattle.fields.proofs.Putting.{Put}
use Rattle.fields.proofs.put.Given as goal

abbrev pub invariant-loop-i : goal.invariant-loop-i
invariant-loop-i l = Put l.initial.s l.at l.width l.number l.s l.left l.i
