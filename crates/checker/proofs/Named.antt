-- The rows that a record names, if their numbers are not bad. Assumes nothing.
use Prim.Native.Nat.{ℕ, ◌+◌, ◌≤◌, ◌<◌}
use mathlib.Core.Path.{◌≡◌, refl, sym, ap, ◌∙◌}
use mathlib.Core.List.{List}
use mathlib.Core.Bool.{Bool, true, false, not, ◌&&◌, ◌||◌, false≢true, or-true, or-false}
use native.Mathlib.Decide.{ℕ_discrete, dec_lt}
use native.Mathlib.Omega.{arith}
use borrow.Author.Tests.{eq-eqb, ne_eqb}
use lib.ListN.{length, get_or, take, drop, length-drop, take-append-drop}
use lib.Seq.{length-take-le, take_all, get_or-take, get_or-drop}
use Rattle.facts.specs.First.{Lowest}
use Rattle.trace.specs.Records.{names}
use Rattle.trace.proofs.Names.{names_nothing, names_either, named_at, not_named, named_one_more}
use Rattle.checker.specs.Causes.{bad_rows}
use Rattle.checker.specs.Walking.{gave_to}
use Rattle.checker.proofs.Sound.{rising_exactly}

-- For the loop that looks for a named row that fails a test: the first j pass.
pub record PassSoFar (rows : List ℕ) (a : ℕ → Bool) (j : ℕ) : Type 0 where
  pub within : j ≤ length rows
  pub pass : (i : ℕ) → names (take j rows) i ≡ true → a i ≡ true

module _ (rows : List ℕ) (n : ℕ) (rise : bad_rows n 0 rows ≡ false) where
  -- A row that is named is below n,
  pub named_is_below : (j : ℕ) → j < length rows → get_or rows j 0 < n
  named_is_below = ((rising_exactly n rows).0 rise).0

  -- no row behind the j-th is lower,
  none_lower_behind : (j k : ℕ) → j + k < length rows → get_or rows j 0 ≤ get_or rows (j + k) 0
  none_lower_behind j k l = go (dec_lt j (j + k))
    where
      go : Dec (j < j + k) → get_or rows j 0 ≤ get_or rows (j + k) 0
      go (yes b) = omega (arith, ((rising_exactly n rows).0 rise).1 j (j + k) b l)
      go (no b) = omega (arith, ap (λ i. get_or rows i 0) {x = j + k} {y = j} (omega arith))

  -- so what is named below the j-th is among the first j,
  named_before : (j : ℕ) → j < length rows → (i : ℕ) → i < get_or rows j 0 → names rows i ≡ names (take j rows) i
  named_before j l i b =
      ap (λ x. names x i) (sym (take-append-drop j rows))
      ∙ (names_either (take j rows) (drop j rows) i ∙ (ap (λ x. names (take j rows) i || x) (not_named (drop j rows) i behind) ∙ or-false (names (take j rows) i)))
    where
      behind : (k : ℕ) → k < length (drop j rows) → get_or (drop j rows) k 0 ≡ i → ⊥
      behind k h e = omega (arith, length-drop j rows, get_or-drop j rows k 0, none_lower_behind j k (omega (arith, length-drop j rows)))

  -- and the j-th is not among them.
  not_named_yet : (j : ℕ) → j < length rows → names (take j rows) (get_or rows j 0) ≡ false
  not_named_yet j l = not_named (take j rows) (get_or rows j 0) before
    where
      before : (k : ℕ) → k < length (take j rows) → get_or (take j rows) k 0 ≡ get_or rows j 0 → ⊥
      before k h e =
          let b : k < j = omega (arith, length-take-le j rows (omega arith)) in
          omega (arith, get_or-take j rows k 0 b, ((rising_exactly n rows).0 rise).1 k j b l)

  -- the j-th row is among the first j + 1, and any other exactly if it is among the first j
  own_named : (j : ℕ) → j < length rows → names (take (j + 1) rows) (get_or rows j 0) ≡ true
  own_named j l = named_one_more rows j (get_or rows j 0) l ∙ rw (eq-eqb (get_or rows j 0) (get_or rows j 0) refl) (or-true (names (take j rows) (get_or rows j 0)))

  other_named : (j i : ℕ) → j < length rows → (i ≡ get_or rows j 0 → ⊥) → names (take (j + 1) rows) i ≡ names (take j rows) i
  other_named j i l other = named_one_more rows j i l ∙ rw (ne_eqb (get_or rows j 0) i (λ e. other (sym e))) (or-false (names (take j rows) i))

  module _ (a : ℕ → Bool) where
    -- a row that is named and fails
    abbrev fails : ℕ → Bool
    fails i = names rows i && not (a i)

    not_failing : (i : ℕ) (named : Bool) → names rows i ≡ named → (named ≡ true → a i ≡ true) → fails i ≡ false
    not_failing i true e h = rw (e, h refl) refl
    not_failing i false e h = rw e refl

    -- It begins,
    pub passing_begins : PassSoFar rows a 0
    passing_begins = record { within = omega arith; pass = λ i h. absurd (false≢true (sym (names_nothing i) ∙ h)) }

    module _ {j : ℕ} (so : PassSoFar rows a j) (l : j < length rows) where
      -- goes on past a row that passes,
      pub passes_on : a (get_or rows j 0) ≡ true → PassSoFar rows a (j + 1)
      passes_on h = record { within = omega arith; pass = λ i e. at i e (ℕ_discrete i (get_or rows j 0)) }
        where
          at : (i : ℕ) → names (take (j + 1) rows) i ≡ true → Dec (i ≡ get_or rows j 0) → a i ≡ true
          at i e (yes same) = ap a same ∙ h
          at i e (no other) = so.pass i (sym (other_named j i l other) ∙ e)

      -- ends at one that fails, which is the lowest, since they rise,
      pub fails_first : a (get_or rows j 0) ≡ false → Lowest fails n (get_or rows j 0)
      fails_first h =
          record {
            within = omega (arith, named_is_below j l);
            passes = λ _. rw (named, h) refl;
            none_before = λ i b. not_failing i _ (named_before j l i b) (so.pass i);
          }
        where
          named : names rows (get_or rows j 0) ≡ true
          named = named_at rows j l

    -- or at the end, where none does.
    pub none_fails : {j : ℕ} → PassSoFar rows a j → length rows ≤ j → Lowest fails n n
    none_fails {j} so h =
        record {
          within = omega arith;
          passes = λ l. absurd (omega arith);
          none_before = λ i b. not_failing i _ (sym (ap (λ x. names x i) (take_all j rows h))) (so.pass i);
        }

  module _ (quanta : ℕ → ℕ) where
    -- Giving begins with nothing given,
    pub nothing_given : (i : ℕ) → quanta i ≡ gave_to quanta (take 0 rows) i
    nothing_given i = rw (names_nothing i) (omega arith)

    module _ (j : ℕ) (l : j < length rows) where
      -- has not come to the row that is next,
      pub not_given_yet : {row : ℕ} → row ≡ get_or rows j 0 → gave_to quanta (take j rows) row ≡ quanta row
      not_given_yet same = rw (same, not_named_yet j l) (omega arith)

      -- gives it one more,
      pub now_given : {row : ℕ} → row ≡ get_or rows j 0 → quanta row + 1 ≡ gave_to quanta (take (j + 1) rows) row
      now_given same = rw (same, own_named j l) refl

      -- and the others nothing,
      pub others_stay : {row : ℕ} → row ≡ get_or rows j 0 → (i : ℕ) → (i ≡ row → ⊥) → gave_to quanta (take j rows) i ≡ gave_to quanta (take (j + 1) rows) i
      others_stay same i other = rw (other_named j i l (λ e. other (e ∙ sym same))) refl

    -- and ends when all have been given theirs.
    pub all_given : (j : ℕ) → length rows ≤ j → (i : ℕ) → gave_to quanta (take j rows) i ≡ gave_to quanta rows i
    all_given j h i = rw (take_all j rows h) refl
