-- What a memory says of rows and cores. Assumes nothing.
use Prim.Native.Nat.{ℕ, ◌≤◌, ◌<◌}
use mathlib.Core.Path.{◌≡◌, refl, sym, ap, ◌∙◌}
use mathlib.Core.List.{List}
use mathlib.Core.Bool.{Bool, true, false, ◌&&◌, true≢false}
use mathlib.Core.Logic.{⊎_elim}
use native.Mathlib.Decide.{dec_lt}
use native.Mathlib.Omega.{arith}
use borrow.Author.Tests.{eqb-true, eq-eqb, ne_eqb}
use lib.Dec.{eqb}
use lib.ListN.{length, get_or}
use lib.Seq.{get_or-take}
use Rattle.facts.specs.Counting.{some}
use Rattle.facts.proofs.Some.{some_or_none, some_if, none_if}
use Rattle.facts.proofs.Loops.{found}
use Rattle.facts.proofs.Tests.{both, hold_both}
use Rattle.table.specs.Limits.{core_limit}
use Rattle.trace.specs.Records.{names}
use Rattle.trace.proofs.Names.{named_at}
use Rattle.cores.specs.declared.Placement.{Placement}
use Rattle.cores.specs.Placement.{places_of, row_in, core_in, rows_placed, ran_on, ran_before}
use Rattle.cores.specs.Cores.{lets_stay, stays, own_core, Apart}
use Rattle.cores.proofs.Naming.{stands_at}

-- If some number passes, one can be named.
pub found_if_some : (a : ℕ → Bool) (n : ℕ) → some a n ≡ true → (i : ℕ) × (i < n) × (a i ≡ true)
found_if_some a n h = ⊎_elim (λ f. f) (λ none. absurd (true≢false (sym h ∙ none_if a n none))) (some_or_none a n)

module _ (last : Placement) where
  -- Where a row ran on a core, a place says so,
  pub place_of : (row core : ℕ) → ran_on last row core ≡ true → (i : ℕ) × (i < places_of last) × (row_in last i ≡ row) × (core_in last i ≡ core)
  place_of row core h =
      let f = found_if_some (λ i. eqb (row_in last i) row && eqb (core_in last i) core) (places_of last) h in
      let two = both (eqb (row_in last f.0) row) (eqb (core_in last f.0) core) f.2 in
      (f.0, f.1, eqb-true _ _ two.0, eqb-true _ _ two.1)

  -- and where a place says so, it did.
  pub ran_there : (i : ℕ) → i < places_of last → ran_on last (row_in last i) (core_in last i) ≡ true
  ran_there i l = some_if _ (places_of last) i l (hold_both (eq-eqb (row_in last i) (row_in last i) refl) (eq-eqb (core_in last i) (core_in last i) refl))

  -- A row that ran on a core ran.
  pub ran_if_on : (row core : ℕ) → ran_on last row core ≡ true → ran_before last row ≡ true
  ran_if_on row core h = let f = place_of row core h in some_if _ (places_of last) f.0 f.1 (eq-eqb (row_in last f.0) row f.2)

  -- Where all its places are there, the rows that ran are those that it names.
  pub ran_is_named : last.count ≤ core_limit → length (rows_placed last) ≡ last.count → (row : ℕ) → ran_before last row ≡ names (rows_placed last) row
  ran_is_named few long row = go (names (rows_placed last) row) refl
    where
      row_at_is : (i : ℕ) → i < last.count → get_or (rows_placed last) i 0 ≡ row_in last i
      row_at_is i l = get_or-take last.count last.rows i 0 l

      go : (t : Bool) → names (rows_placed last) row ≡ t → ran_before last row ≡ t
      go true h =
          let at = stands_at (rows_placed last) row h in
          let there : at.0 < last.count = omega (arith, at.1, long) in
          some_if (λ i. eqb (row_in last i) row) (places_of last) at.0 (omega arith) (eq-eqb _ row (sym (row_at_is at.0 there) ∙ at.2))
      go false h =
          none_if (λ i. eqb (row_in last i) row) (places_of last)
          (λ i l.
          let there : i < last.count = omega arith in
          ne_eqb (row_in last i) row (λ e. true≢false (sym (named_at (rows_placed last) i (omega (arith, long))) ∙ (ap (names (rows_placed last)) (row_at_is i there ∙ e) ∙ h))))

  module _ (free : List ℕ) (row : ℕ) where
    -- the place that gives a row its own core
    own : stays last free row ≡ true → (i : ℕ) × (i < places_of last) × (lets_stay last free row i ≡ true) × (own_core last free row ≡ core_in last i)
    own h =
        let f = found_if_some (lets_stay last free row) (places_of last) h in
        let g = found (lets_stay last free row) (core_in last) {i = 0} {n = places_of last} {m = f.0} (omega arith) (omega (arith, f.1)) f.2 in
        (g.at, omega (arith, f.1, g.within), g.first.fit, g.value)

    -- A row that stays has a core of its own: it is free,
    pub own_is_free : stays last free row ≡ true → names free (own_core last free row) ≡ true
    own_is_free h =
        let f = own h in
        rw f.3 (both (eqb (row_in last f.0) row) (names free (core_in last f.0)) f.2).1

    -- and the row ran there.
    pub own_is_ran_on : stays last free row ≡ true → ran_on last row (own_core last free row) ≡ true
    own_is_ran_on h =
        let f = own h in
        let same : row_in last f.0 ≡ row = eqb-true _ _ (both (eqb (row_in last f.0) row) (names free (core_in last f.0)) f.2).0 in
        ap (λ core. ran_on last row core) f.3 ∙ ap (λ r. ran_on last r (core_in last f.0)) (sym same) ∙ ran_there f.0 f.1

    -- It stays wherever it can.
    pub stays_if_free : (core : ℕ) → names free core ≡ true → ran_on last row core ≡ true → stays last free row ≡ true
    stays_if_free core n h =
        let f = place_of row core h in
        some_if (lets_stay last free row) (places_of last) f.0 f.1 (hold_both (eq-eqb _ _ f.2) (rw f.3 n))

  -- Of a memory whose rows and cores are each in one place:
  module _ (apart : Apart last) where
    -- places of the same number are the same,
    same_place : (key : ℕ → ℕ) → ((i j : ℕ) → i < j → j < places_of last → key i ≡ key j → ⊥) →
        (i j : ℕ) → i < places_of last → j < places_of last → key i ≡ key j → i ≡ j
    same_place key differ i j a b e = go (dec_lt i j) (dec_lt j i)
      where
        go : Dec (i < j) → Dec (j < i) → i ≡ j
        go (yes l) w = absurd (differ i j l b e)
        go (no l) (yes m) = absurd (differ j i m a (sym e))
        go (no l) (no m) = omega arith

    -- so a row ran on one core,
    pub on_one_core : (row core core' : ℕ) → ran_on last row core ≡ true → ran_on last row core' ≡ true → core ≡ core'
    on_one_core row core core' h h' =
        let f = place_of row core h in
        let g = place_of row core' h' in
        let same = same_place (row_in last) apart.rows f.0 g.0 f.1 g.1 (f.2 ∙ sym g.2) in
        sym f.3 ∙ ap (core_in last) same ∙ g.3

    -- and a core had one row.
    pub of_one_row : (row row' core : ℕ) → ran_on last row core ≡ true → ran_on last row' core ≡ true → row ≡ row'
    of_one_row row row' core h h' =
        let f = place_of row core h in
        let g = place_of row' core h' in
        let same = same_place (core_in last) apart.cores f.0 g.0 f.1 g.1 (f.3 ∙ sym g.3) in
        sym f.2 ∙ ap (row_in last) same ∙ g.2
