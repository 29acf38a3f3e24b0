-- The cores that are left: which they are, that they rise, and that they are enough. Assumes nothing.
use Prim.Native.Nat.{ℕ, suc, ◌+◌, ◌≤◌}
use mathlib.Core.Path.{◌≡◌, refl, sym, ◌∙◌}
use mathlib.Core.List.{List, [], ◌∷◌}
use mathlib.Core.Bool.{Bool, true, false, cond, not, ◌||◌, true≢false}
use mathlib.Core.Logic.{⊎_elim}
use native.Mathlib.Omega.{arith}
use lib.ListN.{length}
use Rattle.facts.proofs.Tests.{one_of_two, neither_holds}
use Rattle.trace.specs.Records.{names}
use Rattle.cores.specs.declared.Placement.{Placement}
use Rattle.cores.specs.Placement.{ran_on}
use Rattle.cores.specs.Cores.{stays, wanted, left_over, Apart}
use Rattle.cores.proofs.Naming.{names_first, names_rest, first_or_rest, names_none, holds_not, Rises, rest_rises, first_is_least, tally, tally_none, tally_one, tally_both}
use Rattle.cores.proofs.Memory.{stays_if_free, on_one_core}

module _ (last : Placement) where
  -- A core that nobody wants was no picked row's.
  pub nobody_ran : (rows : List ℕ) (core : ℕ) → wanted last rows core ≡ false → (row : ℕ) → names rows row ≡ true → ran_on last row core ≡ false
  unfolding wanted
  nobody_ran [] core h row n = absurd (names_none row n)
  nobody_ran (r ∷ rows) core h row n =
      let two = neither_holds (ran_on last r core) (wanted last rows core) h in
      ⊎_elim (λ e. rw (← e) two.0) (λ t. nobody_ran rows core two.1 row t) (first_or_rest r row rows n)

  -- A core that is wanted was a picked row's.
  pub somebody_ran : (rows : List ℕ) (core : ℕ) → wanted last rows core ≡ true → (row : ℕ) × (names rows row ≡ true) × (ran_on last row core ≡ true)
  unfolding wanted
  somebody_ran [] core h = absurd (true≢false (sym h))
  somebody_ran (r ∷ rows) core h =
      ⊎_elim
      (λ t. (r, names_first r rows, t))
      (λ t. let f = somebody_ran rows core t in (f.0, names_rest r f.0 rows f.1, f.2))
      (one_of_two (ran_on last r core) (wanted last rows core) h)

  module _ (rows : List ℕ) where
    -- What is left is free,
    pub left_is_free : (free : List ℕ) (core : ℕ) → names (left_over last rows free) core ≡ true → names free core ≡ true
    unfolding left_over
    left_is_free [] core n = n
    left_is_free (c ∷ free) core n = go (wanted last rows c) refl (left_is_free free core)
      where
        go : (t : Bool) → wanted last rows c ≡ t → (names (left_over last rows free) core ≡ true → names free core ≡ true) → names (c ∷ free) core ≡ true
        go true e rest = names_rest c core free (rest (rw e at n))
        go false e rest =
            ⊎_elim (λ s. rw (← s) (names_first c free)) (λ t. names_rest c core free (rest t)) (first_or_rest c core (left_over last rows free) (rw e at n))

    -- wanted by nobody,
    pub left_is_unwanted : (free : List ℕ) (core : ℕ) → names (left_over last rows free) core ≡ true → wanted last rows core ≡ false
    unfolding left_over
    left_is_unwanted [] core n = absurd (names_none core n)
    left_is_unwanted (c ∷ free) core n = go (wanted last rows c) refl (left_is_unwanted free core)
      where
        go : (t : Bool) → wanted last rows c ≡ t → (names (left_over last rows free) core ≡ true → wanted last rows core ≡ false) → wanted last rows core ≡ false
        go true e rest = rest (rw e at n)
        go false e rest = ⊎_elim (λ s. rw (← s) e) rest (first_or_rest c core (left_over last rows free) (rw e at n))

    -- and all that is so is left.
    pub left_if : (free : List ℕ) (core : ℕ) → names free core ≡ true → wanted last rows core ≡ false → names (left_over last rows free) core ≡ true
    unfolding left_over
    left_if [] core n u = n
    left_if (c ∷ free) core n u = go (wanted last rows c) refl (left_if free core)
      where
        go : (t : Bool) → wanted last rows c ≡ t → (names free core ≡ true → wanted last rows core ≡ false → names (left_over last rows free) core ≡ true) →
            names (cond (wanted last rows c) (left_over last rows free) (c ∷ left_over last rows free)) core ≡ true
        go true e rest =
            rw e (⊎_elim (λ s. absurd (true≢false (sym e ∙ rw s u))) (λ t. rest t u) (first_or_rest c core free n))
        go false e rest =
            rw e (⊎_elim (λ s. rw (← s) (names_first c (left_over last rows free))) (λ t. names_rest c core (left_over last rows free) (rest t u)) (first_or_rest c core free n))

    -- It rises if the free cores do.
    pub left_rises : (free : List ℕ) → Rises free → Rises (left_over last rows free)
    unfolding left_over
    left_rises [] r = r
    left_rises (c ∷ free) r = go (wanted last rows c) refl (left_rises free (rest_rises r))
      where
        go : (t : Bool) → wanted last rows c ≡ t → Rises (left_over last rows free) → Rises (cond (wanted last rows c) (left_over last rows free) (c ∷ left_over last rows free))
        go true e rest = rw e rest
        go false e rest = rw e (Rises.next (λ y n. first_is_least r y (left_is_free free y n)) rest)

    -- each free core is left or wanted
    left_or_wanted : (free : List ℕ) → length free ≡ length (left_over last rows free) + tally (wanted last rows) free
    unfolding left_over tally
    left_or_wanted [] = refl
    left_or_wanted (c ∷ free) = go (wanted last rows c) refl (left_or_wanted free)
      where
        go : (t : Bool) → wanted last rows c ≡ t → length free ≡ length (left_over last rows free) + tally (wanted last rows) free →
            suc (length free) ≡ length (cond (wanted last rows c) (left_over last rows free) (c ∷ left_over last rows free)) + (cond (wanted last rows c) 1 0 + tally (wanted last rows) free)
        go true e rest = rw e (omega (arith, rest))
        go false e rest = rw e (omega (arith, rest))

  -- one row more wants no more cores than it ran on
  wanted_by_one_more : (row : ℕ) (rows l : List ℕ) → tally (wanted last (row ∷ rows)) l ≤ tally (ran_on last row) l + tally (wanted last rows) l
  unfolding tally wanted
  wanted_by_one_more row rows [] = omega arith
  wanted_by_one_more row rows (c ∷ l) = go (ran_on last row c) (wanted last rows c) refl refl (wanted_by_one_more row rows l)
    where
      go : (s t : Bool) → ran_on last row c ≡ s → wanted last rows c ≡ t → tally (wanted last (row ∷ rows)) l ≤ tally (ran_on last row) l + tally (wanted last rows) l →
          cond (ran_on last row c || wanted last rows c) 1 0 + tally (wanted last (row ∷ rows)) l
          ≤ cond (ran_on last row c) 1 0 + tally (ran_on last row) l + (cond (wanted last rows c) 1 0 + tally (wanted last rows) l)
      go true true p q rest = rw (p, q) (omega (arith, rest))
      go true false p q rest = rw (p, q) (omega (arith, rest))
      go false true p q rest = rw (p, q) (omega (arith, rest))
      go false false p q rest = rw (p, q) (omega (arith, rest))

  module _ (apart : Apart last) (free : List ℕ) (rises : Rises free) where
    -- a row wants one core if it stays, and else none
    wants_one : (row : ℕ) → tally (ran_on last row) free ≤ cond (stays last free row) 1 0
    wants_one row = go (stays last free row) refl
      where
        go : (t : Bool) → stays last free row ≡ t → tally (ran_on last row) free ≤ cond (stays last free row) 1 0
        go true e = rw e (tally_one (ran_on last row) free rises (on_one_core last apart row))
        go false e =
            let none : tally (ran_on last row) free ≡ 0 =
            tally_none (ran_on last row) free (λ c n. holds_not (ran_on last row c) (λ h. true≢false (sym (stays_if_free last free row c n h) ∙ e))) in
            rw (e, none) (omega arith)

    -- so no more cores are wanted than rows stay
    no_more_wanted : (rows : List ℕ) → tally (wanted last rows) free ≤ tally (stays last free) rows
    unfolding tally
    no_more_wanted [] = omega (arith, nobody)
      where
        nobody : tally (wanted last []) free ≡ 0
        nobody = tally_none (wanted last []) free (λ c n. holds_not (wanted last [] c) (λ h. names_none (somebody_ran [] c h).0 (somebody_ran [] c h).1))
    no_more_wanted (row ∷ rows) = omega (arith, wanted_by_one_more row rows free, wants_one row, no_more_wanted rows)

    -- There is a core for each row that does not stay.
    pub left_is_enough : (rows : List ℕ) → length rows ≤ length free → tally (λ row. not (stays last free row)) rows ≤ length (left_over last rows free)
    left_is_enough rows h = omega (arith, h, left_or_wanted rows free, no_more_wanted rows, tally_both (stays last free) rows)
