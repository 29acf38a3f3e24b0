-- Row numbers that are bad, and those that are not: they are below n and rise. Assumes nothing.
use Prim.Native.Nat.{ℕ, zero, suc, ◌+◌, ◌≤◌, ◌<◌}
use mathlib.Core.Path.{◌≡◌, refl, sym, ap, ◌∙◌}
use mathlib.Core.List.{List, [], ◌∷◌}
use mathlib.Core.Bool.{Bool, true, false, not, ◌||◌, or-false}
use mathlib.Core.Logic.{◌⊎◌, inl, inr}
use native.Mathlib.Decide.{dec_lt}
use native.Mathlib.Numerals.{add-one}
use native.Mathlib.Omega.{arith}
use borrow.Author.Tests.{ltb-true, ltb-false, lt-ltb, le-ltb, not-false}
use lib.Dec.{ltb}
use lib.ListN.{length, get_or, take, drop, length-drop, take-append-drop, drop_of_length-le}
use lib.Seq.{drop-cons, length-take-le, get_or-take, get_or-drop}
use Rattle.facts.specs.Counting.{those}
use Rattle.facts.proofs.Tests.{neither_holds}
use Rattle.facts.proofs.Listing.{listed_pass, listed_rise}
use Rattle.trace.specs.Records.{names}
use Rattle.trace.specs.Shape.{bad_rows, RisingExactly}
use Rattle.trace.proofs.Names.{names_either, not_named}

-- If the first row and those after it are not bad, it is below n and not too low, and they are not bad above it.
not_bad_parts : (n least row : ℕ) (rows : List ℕ) → bad_rows n least (row ∷ rows) ≡ false → (row < n) × (least ≤ row) × (bad_rows n (row + 1) rows ≡ false)
unfolding bad_rows
not_bad_parts n least row rows h =
    let first = neither_holds (not (ltb row n) || ltb row least) (bad_rows n (row + 1) rows) h in
    let each = neither_holds (not (ltb row n)) (ltb row least) first.0 in
    (ltb-true row n (not-false _ each.0), ltb-false row least each.1, first.1)

-- Rising rows below n are not bad,
rising_not_bad : (n least : ℕ) (rows : List ℕ) → ((j : ℕ) → j < length rows → get_or rows j 0 < n) →
    ((i j : ℕ) → i < j → j < length rows → get_or rows i 0 < get_or rows j 0) → (0 < length rows → least ≤ get_or rows 0 0) → bad_rows n least rows ≡ false
unfolding bad_rows
rising_not_bad n least [] below rise low = refl
rising_not_bad n least (row ∷ rows) below rise low =
    rw (
      lt-ltb row n (below 0 (omega arith)),
      le-ltb row least (low (omega arith)),
      rising_not_bad n (row + 1) rows
          (λ j l. below (suc j) (omega arith))
          (λ i j l h. rise (suc i) (suc j) (omega arith) (omega arith))
          (λ l. omega (arith, rise 0 1 (omega arith) (omega arith))),
    )

-- rows that are not bad are below n, and none is lower than the least that may stand first,
not_bad_within : (n least : ℕ) (rows : List ℕ) → bad_rows n least rows ≡ false → (j : ℕ) → j < length rows → (least ≤ get_or rows j 0) × (get_or rows j 0 < n)
not_bad_within n least [] h j l = absurd (omega arith)
not_bad_within n least (row ∷ rows) h zero l = let x = not_bad_parts n least row rows h in (x.1, x.0)
not_bad_within n least (row ∷ rows) h (suc j) l =
    let x = not_bad_parts n least row rows h in
    let rest = not_bad_within n (row + 1) rows x.2 j (omega arith) in
    (omega (arith, x, rest), rest.1)

-- and rise.
not_bad_rises : (n least : ℕ) (rows : List ℕ) → bad_rows n least rows ≡ false → (i j : ℕ) → i < j → j < length rows → get_or rows i 0 < get_or rows j 0
not_bad_rises n least [] h i j b l = absurd (omega arith)
not_bad_rises n least (row ∷ rows) h i zero b l = absurd (omega arith)
not_bad_rises n least (row ∷ rows) h zero (suc j) b l = omega (arith, not_bad_within n (row + 1) rows (not_bad_parts n least row rows h).2 j (omega arith))
not_bad_rises n least (row ∷ rows) h (suc i) (suc j) b l = not_bad_rises n (row + 1) rows (not_bad_parts n least row rows h).2 i j (omega arith) (omega arith)

-- So rows are not bad exactly if they are below n and rise.
pub rising_exactly : RisingExactly
rising_exactly n rows = (
  λ h. (λ j l. (not_bad_within n 0 rows h j l).1, not_bad_rises n 0 rows h),
  λ x. rising_not_bad n 0 rows x.0 x.1 (λ l. omega arith),
)

-- So those that are listed below n are not bad.
pub listed_not_bad : (a : ℕ → Bool) (n : ℕ) → bad_rows n 0 (those a n) ≡ false
listed_not_bad a n = (rising_exactly n (those a n)).1 (λ j l. (listed_pass a n j 0 l).0, λ i j. listed_rise a n i j 0)

-- For callers: rows that are not bad, and what the first of them name.
module _ (rows : List ℕ) (n : ℕ) (rise : bad_rows n 0 rows ≡ false) where
  -- A row that is named is below n,
  pub named_is_below : (j : ℕ) → j < length rows → get_or rows j 0 < n
  named_is_below = ((rising_exactly n rows).0 rise).0

  -- no row behind the j-th is lower,
  none_lower_behind : (j k : ℕ) → j + k < length rows → get_or rows j 0 ≤ get_or rows (j + k) 0
  none_lower_behind j k l = go (dec_lt j (j + k))
    where
      go : Dec (j < j + k) → get_or rows j 0 ≤ get_or rows (j + k) 0
      go (yes b) = omega (arith, ((rising_exactly n rows).0 rise).1 j (j + k) b l)
      go (no b) = omega (arith, ap (λ i. get_or rows i 0) {x = j + k} {y = j} (omega arith))

  -- so what is named below the j-th is among the first j,
  pub named_before : (j : ℕ) → j < length rows → (i : ℕ) → i < get_or rows j 0 → names rows i ≡ names (take j rows) i
  named_before j l i b =
      ap (λ x. names x i) (sym (take-append-drop j rows))
      ∙ (names_either (take j rows) (drop j rows) i ∙ (ap (λ x. names (take j rows) i || x) (not_named (drop j rows) i behind) ∙ or-false (names (take j rows) i)))
    where
      behind : (k : ℕ) → k < length (drop j rows) → get_or (drop j rows) k 0 ≡ i → ⊥
      behind k h e = omega (arith, length-drop j rows, get_or-drop j rows k 0, none_lower_behind j k (omega (arith, length-drop j rows)))

  -- and the j-th is not among them.
  pub not_named_yet : (j : ℕ) → j < length rows → names (take j rows) (get_or rows j 0) ≡ false
  not_named_yet j l = not_named (take j rows) (get_or rows j 0) before
    where
      before : (k : ℕ) → k < length (take j rows) → get_or (take j rows) k 0 ≡ get_or rows j 0 → ⊥
      before k h e =
          let b : k < j = omega (arith, length-take-le j rows (omega arith)) in
          omega (arith, get_or-take j rows k 0 b, ((rising_exactly n rows).0 rise).1 k j b l)

-- For the loop that looks for a bad number: of the first j none is, so what is left tells.
pub record NoneBadYet (rows : List ℕ) (n least j : ℕ) : Type 0 where
  pub within : j ≤ length rows
  pub rest : bad_rows n 0 rows ≡ bad_rows n least (drop j rows)

module _ (rows : List ℕ) (n : ℕ) where
  -- It begins,
  pub badness_begins : NoneBadYet rows n 0 0
  badness_begins = record { within = omega arith; rest = refl }

  module _ {least j row : ℕ} (so : NoneBadYet rows n least j) (l : j < length rows) (here : row ≡ get_or rows j 0) where
    next : drop j rows ≡ row ∷ drop (j + 1) rows
    next = drop-cons rows j 0 l ∙ rw (here, add-one j) refl

    -- a number that is not below n, or does not rise, is bad,
    pub is_bad : (n ≤ row) ⊎ ((row < n) × (row < least)) → true ≡ bad_rows n 0 rows
    unfolding bad_rows
    is_bad (inl h) = sym (so.rest ∙ rw (next, le-ltb row n h) refl)
    is_bad (inr h) = sym (so.rest ∙ rw (next, lt-ltb row n h.0, lt-ltb row least h.1) refl)

    -- and else the loop goes on.
    pub rises_on : row < n → least ≤ row → NoneBadYet rows n (row + 1) (j + 1)
    unfolding bad_rows
    rises_on b h = record { within = omega arith; rest = so.rest ∙ rw (next, lt-ltb row n b, le-ltb row least h) refl }

  -- At the end none is bad.
  pub none_bad : {least j : ℕ} → NoneBadYet rows n least j → length rows ≤ j → false ≡ bad_rows n 0 rows
  unfolding bad_rows
  none_bad {j = j} so h = sym (so.rest ∙ rw (drop_of_length-le rows {i = j} h) refl)

-- The steps of the loop that looks for a bad number.
pub ruleset badness_found = (badness_begins, is_bad, rises_on, none_bad)
