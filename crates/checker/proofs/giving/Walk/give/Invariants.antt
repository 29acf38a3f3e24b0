use Prim.Native.Nat.{ℕ}
use Rattle.checker.specs.Walking.{CanGiveOn}
use Rattle.checker.proofs.Given.{GaveSoFar}
use Rattle.checker.proofs.giving.Walk.give.Given as goal

abbrev pub invariant-loop-row : goal.invariant-loop-row
invariant-loop-row l = (quanta : ℕ → ℕ) → CanGiveOn l.table l.rows l.slot.0 l.fn.self quanta → GaveSoFar l.table quanta l.rows l.slot l.row-index l.self
