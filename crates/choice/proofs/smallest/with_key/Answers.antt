use Prim.Native.Nat.{◌+◌, ◌-◌}
use mathlib.Core.Path.{◌≡◌}
use native.Mathlib.Omega.{arith}
use Rattle.choice.proofs.Inserted.{dropped_at_once, inserted}
use Rattle.choice.proofs.smallest.with_key.Goals as goal

pub returns-then-best-last : goal.returns-then-best-last
returns-then-best-last c = dropped_at_once _ _ _ c.if-best-last.true

pub returns-then-best-at : goal.returns-then-best-at
returns-then-best-at c =
    let place : c.loop-at.at - 1 + 1 ≡ c.loop-at.at = omega arith in
    rw place (inserted c.loop-at.invariant (λ some. omega (arith, c.loop-at.invariant.first (c.loop-at.at - 1) (omega arith))))

pub returns : goal.returns
returns c =
    let front : c.loop-at.at ≡ 0 = omega arith in
    inserted (rw front at c.loop-at.invariant) (λ some. absurd (omega arith))
