use mathlib.Core.Path.{◌∙◌}
use Prim.Native.Nat.{◌-◌, ◌*◌}
use native.Mathlib.Omega.{arith}
use borrow.Author.Tests.{le-ltb}
use Rattle.dispatcher.proofs.Looking.{div_ceil_is, ceil_is_less}
use Rattle.dispatcher.proofs.look.far.Goals as goal

pub returns : goal.returns
returns c =
    let a = c.args in
    let same = c.div_ceil.ensures ∙ div_ceil_is (a.cost - a.rest) (a.period - a.cost) (omega arith) in
    rw (le-ltb (2 * a.cost) a.period c.if-cost-period.false)
    (same, omega (arith, same, ceil_is_less (a.cost - a.rest) (a.period - a.cost) (omega arith)))
