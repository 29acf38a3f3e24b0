use mathlib.Core.Path.{◌≡◌}
use Prim.Native.Nat.{◌+◌, ◌-◌}
use Rattle.windows.specs.Windows.{start}
use Rattle.windows.proofs.Group.{Walking}
use Rattle.windows.proofs.row_subtask.RowSubtask.walked_group_deadline.Given as goal

-- the walk has come to a subtask whose window has begun
abbrev pub invariant-loop-self : goal.invariant-loop-self
invariant-loop-self l =
    let of = l.self in
    Walking of.cost of.period of.origin.0 of.number.0 l.number.0 × (l.start.0 ≡ start of.cost of.period of.origin.0 l.number.0)

abbrev pub decreases-loop-self : goal.decreases-loop-self
decreases-loop-self l = l.self.number.0 + l.self.cost - l.number.0
