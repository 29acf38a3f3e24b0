-- The fewest moves that a placement can have, and who stays where it has no more. Assumes nothing.
use Prim.Native.Nat.{ℕ, zero, suc, ◌+◌, ◌≤◌, ◌<◌}
use mathlib.Core.Path.{◌≡◌, refl, sym, ap, ◌∙◌}
use mathlib.Core.List.{List, [], ◌∷◌}
use mathlib.Core.Bool.{Bool, true, false, cond, not, ◌&&◌, true≢false, and-true, and-false}
use native.Mathlib.Omega.{arith}
use borrow.Author.Tests.{not-false, eqb-true}
use lib.Dec.{eqb}
use lib.ListN.{length, get_or}
use Rattle.trace.specs.Records.{names}
use Rattle.cores.specs.declared.Placement.{Placement}
use Rattle.cores.specs.Placement.{places_of, row_in, core_in, ran_on, ran_before, moved}
use Rattle.cores.specs.Best.{moves}
use Rattle.cores.specs.Cores.{stays, own_core, Apart}
use Rattle.cores.proofs.Naming.{holds_not, tally, tally_none}
use Rattle.cores.proofs.Memory.{found_if_some, ran_there, ran_if_on, own_is_ran_on, stays_if_free, on_one_core}

-- A row that moves in every placement: it ran, and on no core that is free.
abbrev pub must_move : Placement → List ℕ → ℕ → Bool
must_move last free row = not (stays last free row) && ran_before last row

-- Where each core is free on which a row ran, no row must move.
pub none_must_move : (last : Placement) (free : List ℕ) → ((i : ℕ) → i < places_of last → names free (core_in last i) ≡ true) → (rows : List ℕ) → tally (must_move last free) rows ≡ 0
none_must_move last free all rows = tally_none (must_move last free) rows (λ row _. stays_here row (ran_before last row) refl)
  where
    stays_here : (row : ℕ) (t : Bool) → ran_before last row ≡ t → must_move last free row ≡ false
    stays_here row true h =
        let f = found_if_some (λ i. eqb (row_in last i) row) (places_of last) h in
        let ran : ran_on last row (core_in last f.0) ≡ true = ap (λ r. ran_on last r (core_in last f.0)) (sym (eqb-true _ _ f.2)) ∙ ran_there last f.0 f.1 in
        rw (stays_if_free last free row (core_in last f.0) (all f.0 f.1) ran) refl
    stays_here row false h = rw h (and-false (not (stays last free row)))

-- Each of these cores is free.
abbrev pub AllFree : List ℕ → List ℕ → Type 0
AllFree free cores = (i : ℕ) → i < length cores → names free (get_or cores i 0) ≡ true

module _ (last : Placement) (free : List ℕ) where
  -- A row that does not stay moves on every free core, if it ran,
  pub moves_anyway : (row core : ℕ) → stays last free row ≡ false → names free core ≡ true → moved last row core ≡ ran_before last row
  moves_anyway row core e n =
      rw (holds_not (ran_on last row core) (λ h. true≢false (sym (stays_if_free last free row core n h) ∙ e))) (and-true (ran_before last row))

  -- and one that stays does not move on its own core.
  pub moves_not : (row : ℕ) → stays last free row ≡ true → moved last row (own_core last free row) ≡ false
  moves_not row e = rw (own_is_ran_on last free row e) (and-false (ran_before last row))

  -- So every placement has as many moves as rows must move.
  pub at_least : (rows cores : List ℕ) → length cores ≡ length rows → AllFree free cores → tally (must_move last free) rows ≤ moves last rows cores
  unfolding tally moves
  at_least [] cores e f = omega arith
  at_least (row ∷ rows) [] e f = absurd (omega arith)
  at_least (row ∷ rows) (core ∷ cores) e f =
      go (stays last free row) refl (at_least rows cores (omega arith) (λ i l. f (suc i) (omega arith)))
    where
      go : (t : Bool) → stays last free row ≡ t → tally (must_move last free) rows ≤ moves last rows cores →
          cond (must_move last free row) 1 0 + tally (must_move last free) rows ≤ cond (moved last row core) 1 0 + moves last rows cores
      go true s rest = rw s (omega arith)
      go false s rest = rw (s, moves_anyway row core s (f 0 (omega arith))) (omega arith)

  -- what is known of the first row and of the others in a placement that has no more
  record NoMore (row core : ℕ) (rows cores : List ℕ) : Type 0 where
    first : stays last free row ≡ true → moved last row core ≡ false
    rest : moves last rows cores ≤ tally (must_move last free) rows

  module _ (row core : ℕ) (rows cores : List ℕ) where
    no_more : length cores ≡ length rows → AllFree free (core ∷ cores) → moves last (row ∷ rows) (core ∷ cores) ≤ tally (must_move last free) (row ∷ rows) →
        NoMore row core rows cores
    unfolding tally moves
    no_more e f m = go (stays last free row) refl (at_least rows cores e (λ i l. f (suc i) (omega arith)))
      where
        unmoved : (t : Bool) → ◌≡◌ {A = ℕ} (cond t 1 0) 0 → t ≡ false
        unmoved true z = absurd (omega arith)
        unmoved false z = refl

        go : (t : Bool) → stays last free row ≡ t → tally (must_move last free) rows ≤ moves last rows cores → NoMore row core rows cores
        go true s less =
            let all : cond (moved last row core) 1 0 + moves last rows cores ≤ tally (must_move last free) rows = omega (arith, rw s at m) in
            record { first = λ _. unmoved (moved last row core) (omega arith); rest = omega arith }
        go false s less =
            let all : cond (ran_before last row) 1 0 + moves last rows cores ≤ cond (ran_before last row) 1 0 + tally (must_move last free) rows =
            rw (s, moves_anyway row core s (f 0 (omega arith))) at m in
            record { first = λ t. absurd (true≢false (sym t ∙ s)); rest = omega arith }

  module _ (apart : Apart last) where
    -- a row that stays and did not move is on its own core
    own_if_unmoved : (row core : ℕ) → stays last free row ≡ true → moved last row core ≡ false → core ≡ own_core last free row
    own_if_unmoved row core e m =
        on_one_core last apart row core (own_core last free row)
        (not-false (ran_on last row core) (rw (ran_if_on last row (own_core last free row) (own_is_ran_on last free row e)) at m))
        (own_is_ran_on last free row e)

    -- In a placement that has no more moves than that, each row that can stay does.
    pub stay_on_own : (rows cores : List ℕ) → length cores ≡ length rows → AllFree free cores → moves last rows cores ≤ tally (must_move last free) rows →
        (i : ℕ) → i < length cores → stays last free (get_or rows i 0) ≡ true → get_or cores i 0 ≡ own_core last free (get_or rows i 0)
    stay_on_own [] cores e f m i l s = absurd (omega arith)
    stay_on_own (row ∷ rows) [] e f m i l s = absurd (omega arith)
    stay_on_own (row ∷ rows) (core ∷ cores) e f m zero l s = own_if_unmoved row core s ((no_more row core rows cores (omega arith) f m).first s)
    stay_on_own (row ∷ rows) (core ∷ cores) e f m (suc i) l s =
        stay_on_own rows cores (omega arith) (λ i l. f (suc i) (omega arith)) (no_more row core rows cores (omega arith) f m).rest i (omega arith) s
