-- The laws of what goes by a number. Assumes nothing.
use Prim.Native.Nat.{ℕ, zero, suc}
use mathlib.Core.Path.{◌≡◌, refl}
use Rattle.facts.specs.Zero.{if0}

-- Where a number is not 0 the second stands.
pub if0_other : {A : Type 0} (number : ℕ) (if_so else : A) → (number ≡ 0 → ⊥) → if0 number if_so else ≡ else
if0_other zero if_so else h = absurd (h refl)
if0_other (suc number) if_so else h = refl
