-- The lowest row that is late, as it is found among the due times. Assumes nothing.
use Prim.Native.Nat.{ℕ, zero, suc, ◌≤◌, ◌<◌}
use mathlib.Core.Path.{◌≡◌, refl, sym, ap, ◌∙◌}
use mathlib.Core.List.{List, ◌∷◌, []}
use mathlib.Core.Bool.{Bool, true, false, cond}
use native.Mathlib.Decide.{dec_lt}
use native.Mathlib.Omega.{arith}
use borrow.Author.Tests.{lt-ltb, le-ltb}
use lib.Dec.{leb}
use lib.ListN.{length, get_or, take}
use lib.Seq.{length-take-le, get_or-take}
use Rattle.std.proofs.Common.{None, count_by, filter, position}
use Rattle.std.specs.List.{position_or_len}
use Rattle.std.proofs.lemmas.List.Sums.{length-filter, passes_at_first, fails_before_first}
use Rattle.checker.specs.Walking.{IsLowest}

-- If no number passes a filter, each fails the test.
each_fails : (p : ℕ → Bool) (xs : List ℕ) → length (filter p xs) ≡ 0 → (i : ℕ) → i < length xs → p (get_or xs i 0) ≡ false
each_fails p [] none i l = absurd (omega arith)
each_fails p (x ∷ xs) none i l = go (p x) refl none (λ e. each_fails p xs e) i l
  where
    go : (passes : Bool) → p x ≡ passes → length (cond passes (x ∷ filter p xs) (filter p xs)) ≡ 0 →
        (length (filter p xs) ≡ 0 → (i : ℕ) → i < length xs → p (get_or xs i 0) ≡ false) → (i : ℕ) → i < suc (length xs) → p (get_or (x ∷ xs) i 0) ≡ false
    go true e none rest i l = absurd (omega arith)
    go false e none rest zero l = e
    go false e none rest (suc i) l = rest none i (omega arith)

module _ (dues : List ℕ) (end n : ℕ) where
  -- whether the time at a place is up to this one
  abbrev is_due : ℕ → Bool
  is_due i = leb (get_or dues i 0) end

  module _ (long : n ≤ length dues) where
    -- If no time is so, none of the first n is.
    pub none_is_lowest : count_by (λ due. leb due end) dues ≡ 0 → IsLowest is_due n None
    none_is_lowest none =
        record {
          within = omega arith;
          passes = λ l. absurd (omega arith);
          none_before = λ i l. each_fails (λ due. leb due end) dues (length-filter (λ due. leb due end) dues ∙ none) i (omega arith);
        }

    all : length (take n dues) ≡ n
    all = length-take-le n dues long

    at : ℕ
    at = position_or_len (λ due. leb due end) (take n dues)

    none_below : (i : ℕ) → i < n → i < at → is_due i ≡ false
    unfolding at
    none_below i l b = ap (λ due. leb due end) (sym (get_or-take n dues i 0 l)) ∙ fails_before_first (λ due. leb due end) (take n dues) i 0 b

    -- The first of n times that is so stands at the lowest of their places.
    pub first_is_lowest : IsLowest is_due n (position (λ due. leb due end) (take n dues))
    unfolding at
    first_is_lowest = go (dec_lt at n)
      where
        go : Dec (at < n) → IsLowest is_due n (position (λ due. leb due end) (take n dues))
        go (yes h) =
            rw (all, lt-ltb at n h) (
              h,
              record {
                within = omega arith;
                passes = λ _. ap (λ due. leb due end) (sym (get_or-take n dues at 0 h)) ∙ passes_at_first (λ due. leb due end) (take n dues) 0 (rw all h);
                none_before = λ i l. none_below i (omega arith) l;
              },
            )
        go (no h) =
            rw (all, le-ltb at n (omega arith))
            (record { within = omega arith; passes = λ l. absurd (omega arith); none_before = λ i l. none_below i l (omega arith) })
