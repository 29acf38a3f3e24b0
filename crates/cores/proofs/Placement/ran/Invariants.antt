use Rattle.cores.specs.Placement.{row_in}
use Rattle.cores.proofs.Marks.{Marked}
use Rattle.cores.proofs.Placement.ran.Given as goal

abbrev pub invariant-loop-row : goal.invariant-loop-row
invariant-loop-row l = Marked (row_in l.fn.self) 32 l.row-index l.marks
