use Rattle.cores.proofs.Picking.{PickedSoFar}
use Rattle.cores.proofs.turns.picked.Given as goal

abbrev pub invariant-loop-row : goal.invariant-loop-row
invariant-loop-row l = PickedSoFar l.rows l.own l.row-index
