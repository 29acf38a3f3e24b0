use Rattle.trace.proofs.Writing.{Put}
use Rattle.trace.proofs.put_rows.Given as goal

abbrev pub invariant-loop-i : goal.invariant-loop-i
invariant-loop-i l = Put l.initial.part l.marks l.part l.at l.i
