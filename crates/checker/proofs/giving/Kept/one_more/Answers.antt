use Prim.Native.Nat.{◌+◌}
use native.Mathlib.Nat.{div-le_self}
use native.Mathlib.Omega.{arith}
use Rattle.checker.proofs.Kept.{rest_is_small, due_within_period, kept_one_more}
use Rattle.checker.proofs.giving.Kept.one_more.Goals as goal

pub overflow_add-whole : goal.overflow_add-whole
overflow_add-whole c = omega (arith, rest_is_small c.args.row c.requires.can c.requires.is)

pub overflow_add-due : goal.overflow_add-due
overflow_add-due c =
    let row = c.args.row in
    let kept = c.args.self in
    omega (
      arith,
      c.requires.started,
      rest_is_small row c.requires.can c.requires.is,
      due_within_period row c.requires.can c.requires.is,
      div-le_self (kept.rest + row.period) row.cost,
    )

pub returns : goal.returns
returns c = λ q is. kept_one_more c.args.row c.requires.can is (c.next_start-start.ensures q is)
