use Prim.Native.Nat.{◌+◌, ◌-◌}
use native.Mathlib.Nat.{div-le_self}
use native.Mathlib.Omega.{arith}
use Rattle.checker.proofs.Kept.{kept_at_first}
use Rattle.checker.proofs.giving.Kept.before_first.Goals as goal

pub overflow_add-due : goal.overflow_add-due
overflow_add-due c =
    let row = c.args.row in
    omega (arith, div-le_self (row.period + (row.cost - 1)) row.cost)

pub returns : goal.returns
returns c = kept_at_first c.args.row c.requires
