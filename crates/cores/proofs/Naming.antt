-- Lists of numbers: whom they name, that they rise, and how many pass a test. Assumes nothing.
use Prim.Native.Nat.{ℕ, suc, ◌+◌, ◌≤◌, ◌<◌}
use mathlib.Core.Path.{◌≡◌, refl, sym}
use mathlib.Core.List.{List, [], ◌∷◌}
use mathlib.Core.Bool.{Bool, true, false, cond, not, true≢false, or-true}
use mathlib.Core.Logic.{◌⊎◌, inl, inr, ⊎_elim}
use native.Mathlib.Omega.{arith}
use borrow.Author.Tests.{eqb-true, eq-eqb}
use lib.Dec.{eqb}
use lib.ListN.{length, get_or}
use Rattle.facts.proofs.Tests.{one_of_two}
use Rattle.trace.specs.Records.{names}
use Rattle.cores.specs.Cores.{Rising}

-- A list names its first number,
pub names_first : (x : ℕ) (l : List ℕ) → names (x ∷ l) x ≡ true
unfolding names
names_first x l = rw (eq-eqb x x refl)

-- all that its rest names,
pub names_rest : (x y : ℕ) (l : List ℕ) → names l y ≡ true → names (x ∷ l) y ≡ true
unfolding names
names_rest x y l h = rw h (or-true (eqb x y))

-- and no others;
pub first_or_rest : (x y : ℕ) (l : List ℕ) → names (x ∷ l) y ≡ true → (x ≡ y) ⊎ (names l y ≡ true)
unfolding names
first_or_rest x y l h = ⊎_elim (λ e. inl (eqb-true x y e)) inr (one_of_two (eqb x y) (names l y) h)

-- an empty list names nobody.
pub names_none : (y : ℕ) → names [] y ≡ true → ⊥
unfolding names
names_none y h = true≢false (sym h)

-- What is named stands at a place.
pub stands_at : (l : List ℕ) (x : ℕ) → names l x ≡ true → (i : ℕ) × (i < length l) × (get_or l i 0 ≡ x)
stands_at [] x h = absurd (names_none x h)
stands_at (y ∷ l) x h = ⊎_elim (λ e. (0, omega arith, e)) (λ t. next (stands_at l x t)) (first_or_rest y x l h)
  where
    next : (i : ℕ) × (i < length l) × (get_or l i 0 ≡ x) → (i : ℕ) × (i < length (y ∷ l)) × (get_or (y ∷ l) i 0 ≡ x)
    next f = (suc f.0, omega (arith, f.1), f.2)

-- A test that cannot hold does not.
pub holds_not : (t : Bool) → (t ≡ true → ⊥) → t ≡ false
holds_not true h = absurd (h refl)
holds_not false h = refl

-- Rising, said from the front: each number is below all that follow.
pub data Rises : List ℕ → Type 0 where
  end : Rises []
  next : {x : ℕ} {l : List ℕ} → ((y : ℕ) → names l y ≡ true → x < y) → Rises l → Rises (x ∷ l)

-- It is the same as rising from place to place.
pub rises_from_front : (l : List ℕ) → Rising l → Rises l
rises_from_front [] r = Rises.end
rises_from_front (x ∷ l) r = Rises.next above (rises_from_front l (λ i j a b. r (suc i) (suc j) (omega arith) (omega arith)))
  where
    above : (y : ℕ) → names l y ≡ true → x < y
    above y h =
        let at = stands_at l y h in
        rw (← at.2) (r 0 (suc at.0) (omega arith) (omega (arith, at.1)))

-- The rest of what rises, rises,
pub rest_rises : {x : ℕ} {l : List ℕ} → Rises (x ∷ l) → Rises l
rest_rises (Rises.next a r) = r

-- and the first is below it.
pub first_is_least : {x : ℕ} {l : List ℕ} → Rises (x ∷ l) → (y : ℕ) → names l y ≡ true → x < y
first_is_least (Rises.next a r) = a

-- How many numbers of a list pass a test:
unfoldable pub tally : (ℕ → Bool) → List ℕ → ℕ
tally a [] = 0
tally a (x ∷ l) = cond (a x) 1 0 + tally a l

-- none, if each fails;
pub tally_none : (a : ℕ → Bool) (l : List ℕ) → ((x : ℕ) → names l x ≡ true → a x ≡ false) → tally a l ≡ 0
unfolding tally
tally_none a [] h = refl
tally_none a (x ∷ l) h = rw (h x (names_first x l), tally_none a l (λ y n. h y (names_rest x y l n)))

-- one at most, if only one number can pass and the list rises.
pub tally_one : (a : ℕ → Bool) (l : List ℕ) → Rises l → ((x y : ℕ) → a x ≡ true → a y ≡ true → x ≡ y) → tally a l ≤ 1
unfolding tally
tally_one a [] r h = omega arith
tally_one a (x ∷ l) r h = go (a x) refl (tally_one a l (rest_rises r) h)
  where
    go : (t : Bool) → a x ≡ t → tally a l ≤ 1 → cond (a x) 1 0 + tally a l ≤ 1
    go false e rest = rw e (omega arith)
    go true e rest =
        let others : tally a l ≡ 0 = tally_none a l (λ y n. holds_not (a y) (λ p. absurd (omega (arith, first_is_least r y n, h x y e p)))) in
        rw (e, others) (omega arith)

-- Those that pass and those that fail are all.
pub tally_both : (a : ℕ → Bool) (l : List ℕ) → tally (λ x. not (a x)) l + tally a l ≡ length l
unfolding tally
tally_both a [] = refl
tally_both a (x ∷ l) = go (a x) refl (tally_both a l)
  where
    go : (t : Bool) → a x ≡ t → tally (λ x. not (a x)) l + tally a l ≡ length l →
        cond (not (a x)) 1 0 + tally (λ x. not (a x)) l + (cond (a x) 1 0 + tally a l) ≡ suc (length l)
    go false e rest = rw e (omega arith)
    go true e rest = rw e (omega arith)
