-- Numbers that never fall. Assumes nothing.
use Prim.Native.Nat.{ℕ, zero, suc, ◌+◌, ◌≤◌, ◌<◌}
use mathlib.Core.Path.{◌≡◌}
use native.Mathlib.Decide.{dec_lt}
use native.Mathlib.Numerals.{add-one}
use native.Mathlib.Omega.{arith}

-- What falls at no step up to n is nowhere before n larger than at n.
pub never_falls : (f : ℕ → ℕ) (n : ℕ) → ((m : ℕ) → m < n → f m ≤ f (m + 1)) → (i : ℕ) → i ≤ n → f i ≤ f n
never_falls f zero step i h = let e : i ≡ 0 = omega arith in rw e (omega arith)
never_falls f (suc n) step i h = go (dec_lt n i) (never_falls f n (λ m l. step m (omega arith)) i) (step n (omega arith))
  where
    go : Dec (n < i) → (i ≤ n → f i ≤ f n) → f n ≤ f (n + 1) → f i ≤ f (suc n)
    go (yes l) rest last = let e : i ≡ suc n = omega arith in rw e (omega arith)
    go (no l) rest last = rw (← add-one n) (omega (arith, rest (omega arith)))
