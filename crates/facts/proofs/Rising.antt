-- The laws of tests of elements one after the other. Assumes nothing.
use Prim.Native.Nat.{ℕ, zero, suc, ◌+◌, ◌*◌, ◌≤◌, ◌<◌}
use mathlib.Core.Path.{◌≡◌, refl, ap}
use mathlib.Core.List.{List, [], ◌∷◌, map}
use native.Mathlib.Nat.{le_of_suc-le-suc, not-suc-le-zero}
use native.Mathlib.Omega.{arith}
use lib.ListN.{length, get_or}
use Rattle.facts.specs.Findings.{Test, ◌then◌, NoneFound}
use Rattle.facts.specs.Rising.{rising}
use Rattle.facts.specs.Places.{places}
use Rattle.facts.proofs.Findings.{Alike, alike_in_turn, AllSay, none_joined, none_apart, all_joined}

-- for callers

-- Tests of what is read are tests of the places.
pub rising_as_read : {A : Type 0} (tests : ℕ → A → List Test) (above : A → ℕ) (read : ℕ → A) (least : ℕ) (l : List ℕ) →
    rising tests above least (map read l) ≡ rising (λ from i. tests from (read i)) (λ i. above (read i)) least l
unfolding rising
rising_as_read tests above read least [] = refl
rising_as_read tests above read least (i ∷ l) = ap (λ after. tests least (read i) then after) (rising_as_read tests above read (above (read i)) l)

-- Tests at places say what tests of what is read there say, if those at each place do.
pub tested_as_read : {A : Type 0} (tests : ℕ → ℕ → List Test) (after : ℕ → A → List Test) (above : A → ℕ) (read : ℕ → A) (step end : ℕ) →
    ((least i : ℕ) → i + step ≤ end → Alike (tests least i) (after least (read i))) →
    (least from n : ℕ) → from + step * n ≤ end →
    Alike (rising tests (λ i. above (read i)) least (places from step n)) (rising after above least (map read (places from step n)))
unfolding rising places
tested_as_read tests after above read step end each least from zero h = record { same = λ otherwise. refl }
tested_as_read tests after above read step end each least from (suc n) h =
    alike_in_turn (each least from (omega arith)) (λ _. tested_as_read tests after above read step end each (above (read from)) (from + step) n (omega arith))

module _ {A : Type 0} (tests : ℕ → A → List Test) (above : A → ℕ) where
  -- Tests of elements say only such numbers if those of each element do.
  pub rising_say : {such : ℕ → Type 0} → ((least : ℕ) (x : A) → AllSay such (tests least x)) → (least : ℕ) (l : List A) → AllSay such (rising tests above least l)
  unfolding rising
  rising_say each least [] = AllSay.end
  rising_say each least (x ∷ l) = all_joined (each least x) (rising_say each (above x) l)

  -- what is found in the first element and in those after it
  first_passed : (least : ℕ) (x : A) (l : List A) → NoneFound (rising tests above least (x ∷ l)) → NoneFound (tests least x) × NoneFound (rising tests above (above x) l)
  unfolding rising
  first_passed least x l none = none_apart (tests least x) none

  -- Where no element has a fault, each passes its tests.
  pub each_passed : (least : ℕ) (l : List A) → NoneFound (rising tests above least l) → (i : ℕ) (d : A) → i < length l → (from : ℕ) × NoneFound (tests from (get_or l i d))
  each_passed least [] none i d k = absurd (not-suc-le-zero k)
  each_passed least (x ∷ l) none zero d k = (least, (first_passed least x l none).0)
  each_passed least (x ∷ l) none (suc i) d k = each_passed (above x) l (first_passed least x l none).1 i d (le_of_suc-le-suc k)

  -- Elements that pass pass other tests too, if each does.
  pub pass_too : (others : ℕ → A → List Test) (d : A) (least : ℕ) (l : List A) →
      ((j : ℕ) → j < length l → (from : ℕ) → NoneFound (tests from (get_or l j d)) → NoneFound (others from (get_or l j d))) →
      NoneFound (rising tests above least l) → NoneFound (rising others above least l)
  unfolding rising
  pass_too others d least [] each none = none
  pass_too others d least (x ∷ l) each none =
      let first = first_passed least x l none in
      none_joined (each 0 (omega arith) least first.0) (pass_too others d (above x) l (λ j k. each (suc j) (omega arith)) first.1)

  -- where `above` is one more than what has to rise
  module _ (key : A → ℕ) (next : (x : A) → above x ≡ key x + 1) (d : A) where
    -- What rises passes: if each element passes wherever `least` is at most its key, elements that rise strictly have no fault.
    pub risen_pass : (least : ℕ) (l : List A) → ((i : ℕ) → i < length l → (from : ℕ) → from ≤ key (get_or l i d) → NoneFound (tests from (get_or l i d))) →
        ((i j : ℕ) → i < j → j < length l → key (get_or l i d) < key (get_or l j d)) → (0 < length l → least ≤ key (get_or l 0 d)) →
        NoneFound (rising tests above least l)
    unfolding rising
    risen_pass least [] each rise low = NoneFound.end
    risen_pass least (x ∷ l) each rise low =
        none_joined (each 0 (omega arith) least (low (omega arith)))
        (risen_pass (above x) l
        (λ i k. each (suc i) (omega arith))
        (λ i j b k. rise (suc i) (suc j) (omega arith) (omega arith))
        (λ k. omega (arith, next x, rise 0 1 (omega arith) (omega arith))))

    -- And what passes rises, if passing means `least` or more.
    module _ (enough : (least : ℕ) (x : A) → NoneFound (tests least x) → least ≤ key x) where
      at_least : (least : ℕ) (l : List A) → NoneFound (rising tests above least l) → (i : ℕ) → i < length l → least ≤ key (get_or l i d)
      at_least least [] none i k = absurd (not-suc-le-zero k)
      at_least least (x ∷ l) none zero k = enough least x (first_passed least x l none).0
      at_least least (x ∷ l) none (suc i) k =
          let first = first_passed least x l none in
          omega (arith, enough least x first.0, next x, at_least (above x) l first.1 i (le_of_suc-le-suc k))

      pub passed_rise : (least : ℕ) (l : List A) → NoneFound (rising tests above least l) → (i j : ℕ) → i < j → j < length l → key (get_or l i d) < key (get_or l j d)
      passed_rise least [] none i j b k = absurd (not-suc-le-zero k)
      passed_rise least (x ∷ l) none i zero b k = absurd (not-suc-le-zero b)
      passed_rise least (x ∷ l) none zero (suc j) b k =
          omega (arith, next x, at_least (above x) l (first_passed least x l none).1 j (le_of_suc-le-suc k))
      passed_rise least (x ∷ l) none (suc i) (suc j) b k =
          passed_rise (above x) l (first_passed least x l none).1 i j (le_of_suc-le-suc b) (le_of_suc-le-suc k)
