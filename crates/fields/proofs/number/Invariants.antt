use Rattle.fields.proofs.Reading.{Read}
use Rattle.fields.proofs.number.Given as goal

abbrev pub invariant-loop-i : goal.invariant-loop-i
invariant-loop-i g l = Read l.s l.at g.row.WIDTH l.i l.number
