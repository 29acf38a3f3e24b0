-- The cores that are found are the best, and no others are. Assumes nothing.
use Prim.Native.Nat.{ℕ, suc, ◌≤◌, ◌<◌}
use mathlib.Core.Path.{◌≡◌, refl, sym, ap, ◌∙◌}
use mathlib.Core.List.{List, [], ◌∷◌}
use mathlib.Core.Bool.{true, false, true≢false}
use mathlib.Core.Logic.{◌⊎◌, inl, inr, ⊎_elim}
use native.Mathlib.Decide.{dec_lt}
use native.Mathlib.Omega.{arith}
use lib.ListN.{length, get_or}
use Rattle.trace.specs.Records.{names}
use Rattle.cores.specs.declared.Placement.{Placement}
use Rattle.cores.specs.Best.{IsPlacement, moves, Smaller, IsBest}
use Rattle.cores.specs.Cores.{stays, own_core, wanted, left_over, in_turn, cores_for, Rising, Apart, CoresAreBest}
use Rattle.cores.proofs.Naming.{first_or_rest, stands_at, holds_not, Rises, rises_from_front, rest_rises, first_is_least, tally}
use Rattle.cores.proofs.Memory.{own_is_ran_on, stays_if_free, on_one_core}
use Rattle.cores.proofs.Left.{nobody_ran, somebody_ran, left_is_free, left_is_unwanted, left_if, left_rises, left_is_enough}
use Rattle.cores.proofs.Moves.{must_move, at_least, stay_on_own}
use Rattle.cores.proofs.InTurn.{turn, needed, AllApart, Step, step, as_many, all_free, as_few, NotOwn, all_apart}

-- of two lists only one is the smaller
not_both_smaller : {a b : List ℕ} → Smaller a b → Smaller b a → ⊥
not_both_smaller (Smaller.here l) (Smaller.here m) = omega arith
not_both_smaller (Smaller.here l) (Smaller.later e m) = omega arith
not_both_smaller (Smaller.later e l) (Smaller.here m) = omega arith
not_both_smaller (Smaller.later e l) (Smaller.later f m) = not_both_smaller l m

-- the same, or smaller at the first difference
abbrev Compared : List ℕ → List ℕ → Type 0
Compared a b = (a ≡ b) ⊎ Smaller a b

with_first : {c core : ℕ} {a b : List ℕ} → c ≡ core → Compared a b → Compared (c ∷ a) (core ∷ b)
with_first same (inl t) = inl (rw (same, t))
with_first same (inr t) = inr (Smaller.later same t)

module _ (last : Placement) (free : List ℕ) where
  -- the rows that stay are on their own cores,
  abbrev OnOwn : List ℕ → List ℕ → Type 0
  OnOwn rows cores = (i : ℕ) → i < length cores → stays last free (get_or rows i 0) ≡ true → get_or cores i 0 ≡ own_core last free (get_or rows i 0)

  -- the others on those left
  abbrev OnLeft : List ℕ → List ℕ → List ℕ → Type 0
  OnLeft left rows cores = (i : ℕ) → i < length cores → stays last free (get_or rows i 0) ≡ false → names left (get_or cores i 0) ≡ true

  -- Cores of such rows are the same as those in turn, or larger at the first difference: a row that takes the first that is left has the least.
  compared : (left rows cores : List ℕ) → needed last free rows ≤ length left → Rises left → length cores ≡ length rows → OnOwn rows cores → OnLeft left rows cores →
      AllApart cores → Compared (turn last free left rows) cores
  unfolding in_turn
  compared left [] [] n r e own others distinct = inl refl
  compared left [] (core ∷ cores) n r e own others distinct = absurd (omega arith)
  compared left (row ∷ rows) [] n r e own others distinct = absurd (omega arith)
  compared left (row ∷ rows) (core ∷ cores) n r e own others distinct = go (step last free left row rows n) (λ l. compared l rows cores)
    where
      go : Step last free left row rows →
          ((l : List ℕ) → needed last free rows ≤ length l → Rises l → length cores ≡ length rows → OnOwn rows cores → OnLeft l rows cores → AllApart cores →
          Compared (turn last free l rows) cores) →
          Compared (turn last free left (row ∷ rows)) (core ∷ cores)
      go (Step.staying s t m) rest =
          rw t
          (with_first (sym (own 0 (omega arith) s))
          (rest left m r (omega arith) (λ i l. own (suc i) (omega arith)) (λ i l. others (suc i) (omega arith))
          (λ i j a l. distinct (suc i) (suc j) (omega arith) (omega arith))))
      go (Step.taking c after s d t m) rest = rw t (⊎_elim same larger (first_or_rest c core after (rw d at (others 0 (omega arith) s))))
        where
          risen : Rises (c ∷ after)
          risen = rw d at r

          same : c ≡ core → Compared (c ∷ turn last free after rows) (core ∷ cores)
          same p =
              with_first p
              (rest after m (rest_rises risen) (omega arith) (λ i l. own (suc i) (omega arith))
              (λ i l u.
              ⊎_elim
              (λ z. absurd (distinct 0 (suc i) (omega arith) (omega arith) (sym p ∙ z)))
              (λ z. z)
              (first_or_rest c (get_or cores i 0) after (rw d at (others (suc i) (omega arith) u))))
              (λ i j a l. distinct (suc i) (suc j) (omega arith) (omega arith)))

          larger : names after core ≡ true → Compared (c ∷ turn last free after rows) (core ∷ cores)
          larger h = inr (Smaller.here (first_is_least risen core h))

-- for rows that are no more than the free cores, and a memory whose rows and cores are each in one place
module _ (last : Placement) (apart : Apart last) (free rows : List ℕ) (up : Rising free) (rise : Rising rows) (few : length rows ≤ length free) where
  rises : Rises free
  rises = rises_from_front free up

  rows_rise : Rises rows
  rows_rise = rises_from_front rows rise

  enough : needed last free rows ≤ length (left_over last rows free)
  enough = left_is_enough last apart free rises rows few

  not_own : NotOwn last free (left_over last rows free) rows
  not_own row n s h =
      true≢false
      (sym (own_is_ran_on last free row s)
      ∙ nobody_ran last rows (own_core last free row) (left_is_unwanted last rows free (own_core last free row) h) row n)

  -- what is found is a placement,
  found_placed : IsPlacement free rows (cores_for last free rows)
  unfolding cores_for
  found_placed =
      record {
        one_each = as_many last free (left_over last rows free) rows;
        is_free = all_free last free (left_over last rows free) rows enough (left_is_free last rows free);
        apart = all_apart last free apart (left_over last rows free) rows enough (left_rises last rows free rises) rows_rise not_own;
      }

  pub found_moves : moves last rows (cores_for last free rows) ≡ tally (must_move last free) rows
  unfolding cores_for
  found_moves = as_few last free (left_over last rows free) rows enough (left_is_free last rows free)

  -- no placement has fewer moves,
  found_fewest : (other : List ℕ) → IsPlacement free rows other → moves last rows (cores_for last free rows) ≤ moves last rows other
  found_fewest other p = rw found_moves (at_least last free rows other p.one_each p.is_free)

  -- in one with as few moves the rows that do not stay are on cores that are left, since every other free core has its row,
  others_left : (other : List ℕ) → IsPlacement free rows other → OnOwn last free rows other → OnLeft last free (left_over last rows free) rows other
  others_left other p own i l s = left_if last rows free core (p.is_free i l) (holds_not (wanted last rows core) taken)
    where
      core : ℕ
      core = get_or other i 0

      differ : (a b : ℕ) → a < length other → b < length other → (a ≡ b → ⊥) → get_or other a 0 ≡ get_or other b 0 → ⊥
      differ a b x y n e = go (dec_lt a b) (dec_lt b a)
        where
          go : Dec (a < b) → Dec (b < a) → ⊥
          go (yes h) m = p.apart a b h y e
          go (no h) (yes m) = p.apart b a m x (sym e)
          go (no h) (no m) = n (omega arith)

      taken : wanted last rows core ≡ true → ⊥
      taken w =
          let who = somebody_ran last rows core w in
          let at = stands_at rows who.0 who.1 in
          let here : at.0 < length other = omega (arith, at.1, p.one_each) in
          let stay : stays last free (get_or rows at.0 0) ≡ true = rw at.2 (stays_if_free last free who.0 core (p.is_free i l) who.2) in
          let ran : get_or other at.0 0 ≡ core =
          own at.0 here stay
          ∙ on_one_core last apart (get_or rows at.0 0) (own_core last free (get_or rows at.0 0)) core
          (own_is_ran_on last free (get_or rows at.0 0) stay) (rw at.2 who.2) in
          differ at.0 i here l (λ e. true≢false (sym stay ∙ ap (λ k. stays last free (get_or rows k 0)) e ∙ s)) ran

  -- so it is the same or larger at the first difference,
  found_smallest : (other : List ℕ) → IsPlacement free rows other → moves last rows other ≡ moves last rows (cores_for last free rows) →
      Compared (cores_for last free rows) other
  unfolding cores_for
  found_smallest other p e =
      let own = stay_on_own last free apart rows other p.one_each p.is_free (omega (arith, found_moves)) in
      compared last free (left_over last rows free) rows other enough (left_rises last rows free rises) p.one_each own (others_left other p own) p.apart

  found_best : IsBest last free rows (cores_for last free rows)
  found_best = record { placed = found_placed; fewest = found_fewest; smallest = found_smallest }

  -- and a placement that is as good is what is found.
  best_is_found : (cores : List ℕ) → IsBest last free rows cores → cores ≡ cores_for last free rows
  best_is_found cores b = go (b.smallest (cores_for last free rows) found_placed same) (found_smallest cores b.placed (sym same))
    where
      same : moves last rows (cores_for last free rows) ≡ moves last rows cores
      same = omega (arith, b.fewest (cores_for last free rows) found_placed, found_fewest cores b.placed)

      go : Compared cores (cores_for last free rows) → Compared (cores_for last free rows) cores → cores ≡ cores_for last free rows
      go (inl e) y = e
      go (inr s) (inl e) = sym e
      go (inr s) (inr t) = absurd (not_both_smaller s t)

-- For callers: a list of cores is the best exactly if it is what is answered.
pub cores_are_best : CoresAreBest
cores_are_best last free rows cores apart up rise few =
    (best_is_found last apart free rows up rise few cores, λ e. rw e (found_best last apart free rows up rise few))
