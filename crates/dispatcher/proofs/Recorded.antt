-- The laws of writing the numbers of the picked rows, taken from their keys. Assumes nothing.
use Prim.Native.Nat.{ℕ, ◌+◌, ◌%◌, ◌≤◌, ◌<◌}
use mathlib.Core.Path.{◌≡◌, sym, ap, ◌∙◌}
use mathlib.Core.List.{List, [], ◌∷◌, ◌++◌, map, map-append}
use mathlib.Core.Bool.{Bool}
use native.Mathlib.Omega.{arith}
use borrow.Author.Tests.{lt-ltb, le-ltb}
use lib.Dec.{ltb}
use lib.ListN.{length, set, length-append, length-map}
use Rattle.facts.specs.Counting.{those}
use Rattle.facts.proofs.Counting.{counts_grow}
use Rattle.facts.proofs.Listing.{listed_if_passed, unlisted_if_failed, none_listed, more_listed, as_many_listed}
use Rattle.facts.proofs.Filling.{overwritten_one_more}
use Rattle.trace.specs.Record.{with_front}
use Rattle.trace.proofs.Writing.{front_fits}
use Rattle.choice.specs.Keys.{key_in}
use Rattle.dispatcher.specs.Looking.{rows_before}

-- j keys have been gone through, and the numbers of the rows that are picked stand at the front of the part.
pub record PutBefore (part₀ keys : List ℕ) (found first : ℕ) (part : List ℕ) (at j : ℕ) : Type 0 where
  pub place : at ≡ length (rows_before keys j first)
  pub holds : part ≡ with_front part₀ (rows_before keys j first)
  pub within : j ≤ found

module _ (part₀ keys : List ℕ) (found first : ℕ) where
  -- the key at a place lies before the first that is left out, and the number of its row
  abbrev is_before : ℕ → Bool
  is_before j = ltb (key_in keys j) first

  abbrev number : ℕ → ℕ
  number j = key_in keys j % 32

  -- as many rows are picked as keys lie before
  as_many_rows : (j : ℕ) → length (rows_before keys j first) ≡ length (those is_before j)
  as_many_rows j = length-map (those is_before j) number

  -- Writing begins with the part as it is,
  pub putting_begins : PutBefore part₀ keys found first part₀ 0 0
  unfolding with_front
  putting_begins =
      record {
        place = sym (ap (λ l. length (map number l)) (none_listed is_before));
        holds = sym (ap (λ l. with_front part₀ (map number l)) (none_listed is_before));
        within = omega arith;
      }

  module _ {part : List ℕ} {at j : ℕ} (so : PutBefore part₀ keys found first part at j) (l : j < found) where
    -- writes the number of a row that is picked,
    pub puts_picked : key_in keys j < first → length (rows_before keys j first) < length part₀ →
        PutBefore part₀ keys found first (set part at (key_in keys j % 32)) (at + 1) (j + 1)
    unfolding with_front
    puts_picked h room =
        let one : rows_before keys (j + 1) first ≡ rows_before keys j first ++ (number j ∷ []) = ap (map number) (listed_if_passed is_before j (lt-ltb (key_in keys j) first h)) ∙ map-append number (those is_before j) (j ∷ []) in
        record {
          place = ap (λ k. k + 1) so.place ∙ (sym (length-append (rows_before keys j first) (number j ∷ [])) ∙ sym (ap length one));
          holds =
              rw (so.holds, so.place)
              (overwritten_one_more part₀ (rows_before keys j first) (number j) room ∙ sym (ap (with_front part₀) one));
          within = omega arith;
        }

    -- and passes one that is left out.
    pub puts_no_other : first ≤ key_in keys j → PutBefore part₀ keys found first part at (j + 1)
    puts_no_other h =
        let same = ap (map number) (unlisted_if_failed is_before j (le-ltb (key_in keys j) first h)) in
        record { place = so.place ∙ sym (ap length same); holds = so.holds ∙ sym (ap (with_front part₀) same); within = omega arith }

    -- A row that is picked has room in a part that has room for all,
    pub picked_has_place : key_in keys j < first → length (rows_before keys found first) ≤ length part₀ → length (rows_before keys j first) < length part₀
    picked_has_place h room =
        omega (arith, more_listed is_before j found l (lt-ltb (key_in keys j) first h), as_many_rows j, as_many_rows found, room)

  -- and the part keeps its length.
  pub stays_as_long : {part : List ℕ} {at j : ℕ} → PutBefore part₀ keys found first part at j → length (rows_before keys found first) ≤ length part₀ → length part ≡ length part₀
  stays_as_long {j = j} so room =
      let fewer = counts_grow is_before j found so.within in
      let listed = as_many_listed is_before in
      ap length so.holds ∙ front_fits part₀ _ (omega (arith, fewer, listed j, listed found, as_many_rows j, as_many_rows found, room))
