-- The rows that a list names. Assumes nothing.
use Prim.Native.Nat.{ℕ, zero, suc, ◌+◌, ◌≤◌, ◌<◌}
use mathlib.Core.Path.{◌≡◌, refl, sym, ap, ◌∙◌}
use mathlib.Core.List.{List, [], ◌∷◌, ◌++◌}
use mathlib.Core.Bool.{Bool, true, false, ◌&&◌, ◌||◌, or-true, or-false, or_assoc, and-true, and-false}
use native.Mathlib.Decide.{dec_lt}
use native.Mathlib.Numerals.{add-one}
use native.Mathlib.Omega.{arith}
use borrow.Author.Tests.{lt-ltb, le-ltb, eq-eqb, ne_eqb}
use lib.Dec.{ltb, eqb}
use lib.ListN.{length, get_or, take, get_or-eq_default}
use lib.Seq.{take-suc}
use Rattle.facts.specs.Counting.{those}
use Rattle.facts.proofs.Listing.{none_listed, listed_if_passed, unlisted_if_failed}
use Rattle.trace.specs.Record.{marked}
use Rattle.trace.specs.Records.{names}

-- An empty list names no row,
pub names_nothing : (row : ℕ) → names [] row ≡ false
unfolding names
names_nothing row = refl

-- one row names itself,
pub names_one : (r row : ℕ) → names (r ∷ []) row ≡ eqb r row
unfolding names
names_one r row = or-false (eqb r row)

-- and a longer list names what its parts name.
pub names_either : (a b : List ℕ) (row : ℕ) → names (a ++ b) row ≡ names a row || names b row
unfolding names
names_either [] b row = refl
names_either (x ∷ a) b row = rw (names_either a b row) (sym (or_assoc (eqb x row) (names a row) (names b row)))

-- A row that stands in a list is named,
pub named_at : (rows : List ℕ) (j : ℕ) → j < length rows → names rows (get_or rows j 0) ≡ true
unfolding names
named_at [] j l = absurd (omega arith)
named_at (row ∷ rows) zero l = rw (eq-eqb row row refl) refl
named_at (row ∷ rows) (suc j) l = ap (λ x. eqb row (get_or rows j 0) || x) (named_at rows j (omega arith)) ∙ or-true (eqb row (get_or rows j 0))

-- and one that stands nowhere in it is not.
pub not_named : (rows : List ℕ) (i : ℕ) → ((j : ℕ) → j < length rows → get_or rows j 0 ≡ i → ⊥) → names rows i ≡ false
unfolding names
not_named [] i nowhere = refl
not_named (row ∷ rows) i nowhere = rw (ne_eqb row i (nowhere 0 (omega arith)), not_named rows i (λ j l. nowhere (suc j) (omega arith))) refl

-- The first j + 1 name what the first j name, and the row that stands behind these.
pub named_one_more : (rows : List ℕ) (j i : ℕ) → j < length rows → names (take (j + 1) rows) i ≡ names (take j rows) i || eqb (get_or rows j 0) i
named_one_more rows j i l =
    ap (λ x. names x i) (ap (λ k. take k rows) (add-one j) ∙ take-suc rows j 0 l)
    ∙ (names_either (take j rows) (get_or rows j 0 ∷ []) i ∙ ap (λ b. names (take j rows) i || b) (names_one (get_or rows j 0) i))

-- So the j-th row is among the first j + 1,
pub own_named : (rows : List ℕ) (j : ℕ) → j < length rows → names (take (j + 1) rows) (get_or rows j 0) ≡ true
own_named rows j l = named_one_more rows j (get_or rows j 0) l ∙ rw (eq-eqb (get_or rows j 0) (get_or rows j 0) refl) (or-true (names (take j rows) (get_or rows j 0)))

-- and any other exactly if it is among the first j.
pub other_named : (rows : List ℕ) (j i : ℕ) → j < length rows → (i ≡ get_or rows j 0 → ⊥) → names (take (j + 1) rows) i ≡ names (take j rows) i
other_named rows j i l other = named_one_more rows j i l ∙ rw (ne_eqb (get_or rows j 0) i (λ e. other (sym e))) (or-false (names (take j rows) i))

-- one number more is listed if it passes
one_more_named : (a : ℕ → Bool) (n row : ℕ) (x : Bool) → a n ≡ x → names (those a (n + 1)) row ≡ names (those a n) row || (x && eqb n row)
one_more_named a n row true e = rw (listed_if_passed a n e) (names_either (those a n) (n ∷ []) row ∙ ap (λ b. names (those a n) row || b) (names_one n row))
one_more_named a n row false e = rw (unlisted_if_failed a n e) (sym (or-false (names (those a n) row)))

-- The list of those that pass names a row exactly if it is below the bound and passes.
pub listed_are_named : (a : ℕ → Bool) (n row : ℕ) → names (those a n) row ≡ ltb row n && a row
listed_are_named a zero row = rw (none_listed a, le-ltb row 0 (omega arith)) (names_nothing row)
listed_are_named a (suc n) row =
    rw (← add-one n) (one_more_named a n row (a n) refl ∙ rw (listed_are_named a n row) (go (dec_lt row n) (dec_lt n row)))
  where
    go : Dec (row < n) → Dec (n < row) → (ltb row n && a row) || (a n && eqb n row) ≡ ltb row (n + 1) && a row
    go (yes l) d =
        let k : row < n + 1 = omega arith in
        simp (lt-ltb _ _ l, lt-ltb _ _ k, ne_eqb n row (λ e. omega arith), and-false (a n), or-false (a row))
    go (no l) (yes m) =
        let h : n ≤ row = omega arith in
        let k : n + 1 ≤ row = omega arith in
        simp (le-ltb _ _ h, le-ltb _ _ k, ne_eqb n row (λ e. omega arith), and-false (a n))
    go (no l) (no m) =
        let same : n ≡ row = omega arith in
        let h : row ≤ row = omega arith in
        let k : row < row + 1 = omega arith in
        rw same (simp (le-ltb _ _ h, lt-ltb _ _ k, eq-eqb row row refl, and-true (a row)))

-- The marked rows are named, and no others.
pub marked_are_named : (marks : List Bool) (i : ℕ) → names (marked marks) i ≡ get_or marks i false
marked_are_named marks i = listed_are_named (λ j. get_or marks j false) (length marks) i ∙ go (dec_lt i (length marks))
  where
    go : Dec (i < length marks) → ltb i (length marks) && get_or marks i false ≡ get_or marks i false
    go (yes l) = rw (lt-ltb i (length marks) l) refl
    go (no l) = rw (le-ltb i (length marks) (omega arith)) (sym (get_or-eq_default marks false {n = i} (omega arith)))
