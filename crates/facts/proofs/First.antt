-- The laws of the lowest number that passes, and of the first place that fits. Assumes nothing.
use mathlib.Core.Path.{◌≡◌, refl, sym, ap, ◌∙◌}
use mathlib.Core.Bool.{Bool, true, false, true≢false}
use Prim.Native.Nat.{ℕ, zero, suc, ◌<◌}
use native.Mathlib.Decide.{dec_lt}
use native.Mathlib.Omega.{arith}
use Rattle.facts.specs.First.{IsFirst, Lowest}

-- There is one lowest number that passes,
pub lowest_is_one : (a : ℕ → Bool) (n i j : ℕ) → Lowest a n i → Lowest a n j → i ≡ j
lowest_is_one a n i j p q = go (dec_lt i j) (dec_lt j i)
  where
    go : Dec (i < j) → Dec (j < i) → i ≡ j
    go (yes l) m = absurd (true≢false (sym (p.passes (omega (arith, q.within))) ∙ q.none_before i l))
    go (no l) (yes m) = absurd (true≢false (sym (q.passes (omega (arith, p.within))) ∙ p.none_before j m))
    go (no l) (no m) = omega arith

-- and tests that agree have the same.
pub same_lowest : (a b : ℕ → Bool) (n i : ℕ) → ((j : ℕ) → j < n → a j ≡ b j) → Lowest a n i → Lowest b n i
same_lowest a b n i same low =
    record {
      within = low.within;
      passes = λ l. sym (same i l) ∙ low.passes l;
      none_before = λ j l. sym (same j (omega (arith, low.within))) ∙ low.none_before j l;
    }

-- There is a lowest number that passes, or the bound.
pub a_lowest : (a : ℕ → Bool) (n : ℕ) → (i : ℕ) × Lowest a n i
a_lowest a zero = (0, record { within = omega arith; passes = λ l. absurd (omega arith); none_before = λ j l. absurd (omega arith) })
a_lowest a (suc n) = let below = a_lowest a n in go (dec_lt below.0 n) (a n) refl below.1
  where
    go : {i : ℕ} → Dec (i < n) → (t : Bool) → a n ≡ t → Lowest a n i → (k : ℕ) × Lowest a (suc n) k
    go {i} (yes l) t e low = (i, record { within = omega arith; passes = λ m. low.passes l; none_before = low.none_before })
    go {i} (no l) true e low = (n, record { within = omega arith; passes = λ m. e; none_before = λ j m. low.none_before j (omega (arith, low.within)) })
    go {i} (no l) false e low = (suc n, record { within = omega arith; passes = λ m. absurd (omega arith); none_before = λ j m. last j m (dec_lt j n) })
      where
        last : (j : ℕ) → j < suc n → Dec (j < n) → a j ≡ false
        last j m (yes k) = low.none_before j (omega (arith, low.within))
        last j m (no k) = ap a {x = j} {y = n} (omega arith) ∙ e

-- There is one first place that fits.
pub first_is_one : (fits : ℕ → Bool) (i a b : ℕ) → IsFirst fits i a → IsFirst fits i b → a ≡ b
first_is_one fits i a b p q = go (dec_lt a b) (dec_lt b a)
  where
    go : Dec (a < b) → Dec (b < a) → a ≡ b
    go (yes l) w = absurd (true≢false (sym p.fit ∙ q.none_before a p.from l))
    go (no l) (yes m) = absurd (true≢false (sym q.fit ∙ p.none_before b q.from m))
    go (no l) (no m) = omega arith
