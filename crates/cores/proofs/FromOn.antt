-- For the code: the numbers of a set from one on. Assumes nothing.
use Prim.Native.Nat.{ℕ, ◌+◌, ◌≤◌, ◌<◌}
use mathlib.Core.Path.{◌≡◌, sym, ap, ◌∙◌}
use mathlib.Core.List.{List, [], ◌∷◌}
use mathlib.Core.Bool.{Bool, true, false}
use native.Mathlib.Numerals.{add-one}
use native.Mathlib.Omega.{arith}
use lib.ListN.{length, get_or, drop, drop_of_length-le}
use lib.Seq.{drop-cons}
use Rattle.facts.specs.Counting.{how_many}
use Rattle.facts.proofs.Counting.{counted_if_passed, uncounted_if_failed, none_counted, counts_grow}
use Rattle.facts.proofs.Listing.{as_many_listed, more_listed, stands_behind}
use Rattle.trace.specs.Record.{marked}
use Rattle.cores.specs.Turns.{from_on}

module _ (marks : List Bool) where
  -- the mark of a number
  abbrev is_marked : ℕ → Bool
  is_marked i = get_or marks i false

  -- From 0 on they are all,
  pub from_0 : from_on marks 0 ≡ marked marks
  unfolding from_on
  from_0 = ap (λ k. drop k (marked marks)) (none_counted is_marked)

  -- and past the end there are none;
  pub none_from : {i : ℕ} → length marks ≤ i → from_on marks i ≡ []
  unfolding from_on
  none_from {i} l = drop_of_length-le (marked marks) {i = how_many is_marked i} (omega (arith, as_many_listed is_marked (length marks), counts_grow is_marked (length marks) i l))

  -- one that is marked is the first of them,
  pub first_from : {i : ℕ} → i < length marks → get_or marks i false ≡ true → from_on marks i ≡ i ∷ from_on marks (i + 1)
  unfolding from_on
  first_from {i} l h =
      drop-cons (marked marks) (how_many is_marked i) 0 (omega (arith, more_listed is_marked i (length marks) l h, as_many_listed is_marked i))
      ∙ rw (stands_behind is_marked (length marks) i 0 l h) (ap (λ k. i ∷ drop k (marked marks)) (sym (add-one (how_many is_marked i)) ∙ sym (counted_if_passed is_marked i h)))

  -- and one that is not marked is none of them.
  pub not_from : (i : ℕ) → get_or marks i false ≡ false → from_on marks i ≡ from_on marks (i + 1)
  unfolding from_on
  not_from i h = ap (λ k. drop k (marked marks)) (sym (uncounted_if_failed is_marked i h))
