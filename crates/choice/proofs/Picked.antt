-- The rows whose keys lie before the first that is left out are those that are chosen. Assumes nothing.
use Prim.Native.Nat.{ℕ, ◌%◌, ◌≤◌, ◌<◌, min}
use mathlib.Core.Path.{◌≡◌, refl, sym, ap, ◌∙◌}
use mathlib.Core.List.{List}
use mathlib.Core.Bool.{Bool, true, false}
use native.Mathlib.Omega.{arith}
use lib.Dec.{ltb}
use lib.ListN.{length, take, length-take}
use Rattle.std.proofs.lemmas.List.{get_or-take}
use Rattle.facts.specs.Counting.{those}
use Rattle.facts.proofs.Listing.{same_list}
use Rattle.counts.specs.Limits.{most}
use Rattle.table.specs.declared.Row.{Row}
use Rattle.pd2.specs.Order.{Rank, before}
use Rattle.pd2.specs.Picks.{picked}
use Rattle.pd2.specs.Choice.{rank_at, goes_before_by}
use Rattle.choice.specs.Choice.{says_ready_in, chosen}
use Rattle.choice.specs.Keys.{key_for, HasKey, key_of, key_in, KeysAre, FirstLeft}
use Rattle.choice.proofs.KeyOrder.{keys_order_as_pd2, key_ends_with_row}
use Rattle.choice.proofs.Left.{picked_by_key}

-- No two rows have the same key: it ends with the row's number.
keys_are_apart : (x y : Rank) → x.row < 32 → y.row < 32 → (x.row ≡ y.row → ⊥) → key_for x ≡ key_for y → ⊥
keys_are_apart x y few fewer other same = other (sym (key_ends_with_row x few) ∙ (ap (λ key. key % 32) same ∙ key_ends_with_row y fewer))

-- For callers: each ready row has the key of its rank, and any other the largest number.
pub record KeyedBy (rows : List Row) (quanta : List ℕ) (favours : ℕ → Bool) (ready : ℕ → Bool) (key : ℕ → ℕ) (n : ℕ) : Type 0 where
  pub has : (i : ℕ) → i < n → ready i ≡ true → HasKey (rank_at rows quanta favours i)
  pub is : (i : ℕ) → i < n → ready i ≡ true → key i ≡ key_for (rank_at rows quanta favours i)
  pub low : (i : ℕ) → i < n → ready i ≡ true → key i < most
  pub none : (i : ℕ) → i < n → ready i ≡ false → key i ≡ most

-- Then the rows whose keys lie before the first that is left out are those that PD2 picks.
pub picked_before : {rows : List Row} {quanta : List ℕ} {favours : ℕ → Bool} {ready : ℕ → Bool} {key : ℕ → ℕ} {n : ℕ} → KeyedBy rows quanta favours ready key n →
    {k first : ℕ} → FirstLeft key n k first → (i : ℕ) → i < n → ltb (key i) first ≡ picked ready (goes_before_by before rows quanta favours) n k i
picked_before {rows} {quanta} {favours} {ready} {key} {n} keyed =
    picked_by_key ready (goes_before_by before rows quanta favours) key n keyed.none keyed.low by_key apart
  where
    rank : ℕ → Rank
    rank = rank_at rows quanta favours

    by_key : (j i : ℕ) → j < n → i < n → ready j ≡ true → ready i ≡ true → goes_before_by before rows quanta favours j i ≡ ltb (key j) (key i)
    by_key j i lj li hj hi =
        rw (keyed.is j lj hj, keyed.is i li hi) (keys_order_as_pd2 (rank j) (rank i) (keyed.has j lj hj) (keyed.has i li hi))

    apart : (j i : ℕ) → j < i → i < n → ready j ≡ true → ready i ≡ true → key j ≡ key i → ⊥
    apart j i l li hj hi same =
        let lj : j < n = omega arith in
        keys_are_apart (rank j) (rank i) (keyed.has j lj hj).row (keyed.has i li hi).row (λ e. omega arith)
        (sym (keyed.is j lj hj) ∙ (same ∙ keyed.is i li hi))

-- for the function

module _ {rows : List Row} {quanta : List ℕ} {favours : ℕ → Bool} {t : ℕ} {keys : List ℕ} (keyed : KeysAre rows quanta favours t keys) where
  keys_are : KeyedBy rows quanta favours (says_ready_in rows quanta t) (key_in keys) (length rows)
  unfolding key_of
  keys_are =
      record {
        has = keyed.has;
        is = λ i l h. keyed.each i l ∙ rw h refl;
        low = keyed.low;
        none = λ i l h. keyed.each i l ∙ rw h refl;
      }

  pub found_are_picks : {k first : ℕ} → length rows ≤ 32 → length keys ≡ 32 → FirstLeft (key_in keys) (min (length rows) 32) k first →
      those (λ i. ltb (key_in (take (length rows) keys) i) first) (length (take (length rows) keys)) ≡ chosen rows quanta favours t k
  found_are_picks {k} {first} few long left =
      ap (those (λ i. ltb (key_in (take (length rows) keys) i) first)) (length-take (length rows) keys ∙ omega arith)
      ∙ same_list (λ i. ltb (key_in (take (length rows) keys) i) first) (picked (says_ready_in rows quanta t) (goes_before_by before rows quanta favours) (length rows) k) (length rows)
      (λ i l. ap (λ x. ltb x first) (get_or-take (length rows) keys i 0 l) ∙ picked_before keys_are (rw all at left) i l)
    where
      all : min (length rows) 32 ≡ length rows
      all = omega (arith, few)
