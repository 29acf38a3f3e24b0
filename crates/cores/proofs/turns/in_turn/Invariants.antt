use Rattle.cores.proofs.Placing.{SoFar}
use Rattle.cores.proofs.turns.in_turn.Given as goal

abbrev pub invariant-loop-i : goal.invariant-loop-i
invariant-loop-i l = SoFar l.picked l.kept.own l.kept.left l.rows l.cores l.i l.next
