-- Between functions: how far a loop has come. No part of what 01 says.
use Rattle.std.specs.Prelude.{ℕ, ◌+◌, ◌-◌, ◌≤◌, ◌<◌, ◌≡◌, List, Bool, false, length, drop}
use Rattle.facts.specs.First.{at_first, IsFirst}
use Rattle.facts.specs.Findings.{Test, first_found}
use Rattle.facts.specs.Rising.{rising}
use Rattle.facts.specs.Places.{places, padded}

-- A search of the n places from i on has come to j: nothing before j fits, and what is left gives the answer of the whole.
pub record Reached (fits : ℕ → Bool) (gives : ℕ → ℕ) (i n j : ℕ) : Type 0 where
  pub from : i ≤ j
  pub none_before : (k : ℕ) → i ≤ k → k < j → fits k ≡ false
  pub rest : at_first fits gives i n ≡ at_first fits gives j (i + n - j)

-- A search of the n places from i on, of which m fits, gives the value of the first that fits.
pub record Found (fits : ℕ → Bool) (gives : ℕ → ℕ) (i n m : ℕ) : Type 0 where
  pub at : ℕ
  pub first : IsFirst fits i at
  pub within : at ≤ m
  pub value : at_first fits gives i n ≡ gives at

-- A loop over the elements has passed i of them: they have no fault, and what is left gives the fault of all.
pub record Passed {A : Type 0} (tests : ℕ → A → List Test) (above : A → ℕ) (all : List A) (least i : ℕ) : Type 0 where
  pub within : i ≤ length all
  pub rest : first_found 0 (rising tests above 0 all) ≡ first_found 0 (rising tests above least (drop i all))

-- Reading goes from place to place: each is tested, then read into an array. Either the number of the first fault met, or the array.
module _ {A : Type 0} (tests : ℕ → ℕ → List Test) (above : ℕ → ℕ) (read : ℕ → A) (nothing : A) (size from step n : ℕ) where
  pub record ReadAnswer (number : ℕ) (array : List A) : Type 0 where
    pub first : number ≡ first_found 0 (rising tests above 0 (places from step n))
    pub content : number ≡ 0 → array ≡ padded read nothing size from step n

  -- i of the n places have been read
  pub record ReadSoFar (array : List A) (least i : ℕ) : Type 0 where
    pub passed : Passed tests above (places from step n) least i
    pub content : array ≡ padded read nothing size from step i
