-- For the code: what is wanted, said by the places of the memory, and what is left, said by marks. Assumes nothing.
use Prim.Native.Nat.{ℕ, zero, suc}
use mathlib.Core.Path.{◌≡◌, refl, sym, ap, ◌∙◌}
use mathlib.Core.List.{List, [], ◌∷◌, ◌++◌}
use mathlib.Core.Bool.{Bool, true, false, cond, not, ◌&&◌, true≢false}
use borrow.Author.Tests.{eqb-true, eq-eqb}
use lib.Dec.{eqb}
use Rattle.facts.specs.Counting.{some, those}
use Rattle.facts.proofs.Some.{some_if}
use Rattle.facts.proofs.Tests.{both, hold_both}
use Rattle.trace.specs.Records.{names}
use Rattle.cores.specs.declared.Placement.{Placement}
use Rattle.cores.specs.Placement.{places_of, row_in, core_in, ran_on}
use Rattle.cores.specs.Cores.{wanted, left_over}
use Rattle.cores.proofs.Memory.{found_if_some, place_of, ran_there}
use Rattle.cores.proofs.Left.{nobody_ran, somebody_ran}

-- two tests that each hold where the other does are one
same_if : (s t : Bool) → (s ≡ true → t ≡ true) → (t ≡ true → s ≡ true) → s ≡ t
same_if true t f g = sym (f refl)
same_if false true f g = g refl
same_if false false f g = refl

-- A place has a picked row and this core.
abbrev pub wanted_at : Placement → List ℕ → ℕ → ℕ → Bool
wanted_at last rows core i = names rows (row_in last i) && eqb (core_in last i) core

-- A core is wanted exactly if some place is so.
pub wanted_by_place : (last : Placement) (rows : List ℕ) (core : ℕ) → wanted last rows core ≡ some (wanted_at last rows core) (places_of last)
wanted_by_place last rows core = same_if (wanted last rows core) (some (wanted_at last rows core) (places_of last)) to from
  where
    to : wanted last rows core ≡ true → some (wanted_at last rows core) (places_of last) ≡ true
    to w =
        let who = somebody_ran last rows core w in
        let at = place_of last who.0 core who.2 in
        some_if (wanted_at last rows core) (places_of last) at.0 at.1 (hold_both (ap (names rows) at.2 ∙ who.1) (eq-eqb (core_in last at.0) core at.3))

    from : some (wanted_at last rows core) (places_of last) ≡ true → wanted last rows core ≡ true
    from h = go (wanted last rows core) refl
      where
        go : (t : Bool) → wanted last rows core ≡ t → wanted last rows core ≡ true
        go true e = e
        go false e =
            let f = found_if_some (wanted_at last rows core) (places_of last) h in
            let two = both (names rows (row_in last f.0)) (eqb (core_in last f.0) core) f.2 in
            let there : ran_on last (row_in last f.0) core ≡ true =
            ap (ran_on last (row_in last f.0)) (sym (eqb-true (core_in last f.0) core two.1)) ∙ ran_there last f.0 f.1 in
            absurd (true≢false (sym there ∙ nobody_ran last rows core e (row_in last f.0) two.0))

-- what is left of two lists joined is what is left of each
left_joined : (last : Placement) (rows a b : List ℕ) → left_over last rows (a ++ b) ≡ left_over last rows a ++ left_over last rows b
unfolding left_over
left_joined last rows [] b = refl
left_joined last rows (c ∷ a) b = go (wanted last rows c) (left_joined last rows a b)
  where
    go : (t : Bool) → left_over last rows (a ++ b) ≡ left_over last rows a ++ left_over last rows b →
        cond t (left_over last rows (a ++ b)) (c ∷ left_over last rows (a ++ b)) ≡ cond t (left_over last rows a) (c ∷ left_over last rows a) ++ left_over last rows b
    go true e = e
    go false e = ap (λ l. c ∷ l) e

-- What is left of a set is the set of what is marked and not wanted.
pub left_is_marked : (last : Placement) (rows : List ℕ) (free : ℕ → Bool) (n : ℕ) →
    left_over last rows (those free n) ≡ those (λ core. free core && not (wanted last rows core)) n
unfolding those left_over
left_is_marked last rows free zero = refl
left_is_marked last rows free (suc n) =
    left_joined last rows (those free n) (cond (free n) (n ∷ []) []) ∙ rw (left_is_marked last rows free n) (go (free n) (wanted last rows n) refl)
  where
    go : (s t : Bool) → wanted last rows n ≡ t →
        those (λ core. free core && not (wanted last rows core)) n ++ left_over last rows (cond s (n ∷ []) [])
        ≡ those (λ core. free core && not (wanted last rows core)) n ++ cond (s && not t) (n ∷ []) []
    go true true e = rw e
    go true false e = rw e
    go false t e = refl
