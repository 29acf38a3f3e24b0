-- Tests that are joined. Assumes nothing.
use mathlib.Core.Path.{◌≡◌, refl, sym, ap, ◌∙◌}
use mathlib.Core.Logic.{◌↔◌, ◌⊎◌, inl, inr}
use mathlib.Core.Bool.{Bool, true, false, not, ◌&&◌, ◌||◌, true≢false, false≢true, not-not}
use Prim.Native.Nat.{ℕ, ◌≤◌, ◌<◌}
use native.Mathlib.Decide.{dec_le, dec_lt}
use native.Mathlib.Omega.{arith}
use borrow.Author.Tests.{lt-ltb, le-ltb, le-leb, lt-leb}
use lib.Dec.{ltb, leb}

-- If both tests hold together, each holds.
pub both : (a b : Bool) → a && b ≡ true → (a ≡ true) × (b ≡ true)
both true b h = (refl, h)
both false b h = absurd (false≢true h)

-- and the other way round.
pub hold_both : {a b : Bool} → a ≡ true → b ≡ true → a && b ≡ true
hold_both p q = rw (p, q)

-- If neither holds, each fails.
pub neither_holds : (a b : Bool) → a || b ≡ false → (a ≡ false) × (b ≡ false)
neither_holds true b h = absurd (true≢false h)
neither_holds false b h = (refl, h)

-- If a test holds, but not without another, the other holds.
pub not_without : (a b : Bool) → a ≡ true → a && not b ≡ false → b ≡ true
not_without a true t f = refl
not_without a false t f = absurd (true≢false (sym (hold_both t refl) ∙ f))

-- Two tests that hold at the same times are the same test.
pub same_test : {a b c d : ℕ} → (a ≤ b) ↔ (c ≤ d) → leb a b ≡ leb c d
same_test {a} {b} {c} {d} h = go (dec_le a b)
  where
    go : Dec (a ≤ b) → leb a b ≡ leb c d
    go (yes l) = le-leb a b l ∙ sym (le-leb c d (h.0 l))
    go (no l) = let n : c ≤ d → ⊥ = λ k. l (h.1 k) in lt-leb a b (omega arith) ∙ sym (lt-leb c d (omega arith))

-- Not below is at or above.
pub not_below : (a b : ℕ) → not (ltb a b) ≡ leb b a
not_below a b = go (dec_lt a b)
  where
    go : Dec (a < b) → not (ltb a b) ≡ leb b a
    go (yes l) = simp (lt-ltb _ _ l, lt-leb _ _ l)
    go (no l) = let h : b ≤ a = omega arith in simp (le-ltb _ _ h, le-leb _ _ h)

-- Below is not at or above.
pub below_is_not : (a b : ℕ) → ltb a b ≡ not (leb b a)
below_is_not a b = sym (not-not (ltb a b)) ∙ ap not (not_below a b)

-- If one of two holds, it is the first or the second.
pub one_of_two : (a b : Bool) → a || b ≡ true → (a ≡ true) ⊎ (b ≡ true)
one_of_two true b h = inl refl
one_of_two false b h = inr h
