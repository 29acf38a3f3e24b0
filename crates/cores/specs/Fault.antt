-- A memory that breaks a state (02, One and Eight).
use Rattle.std.specs.Prelude.{ℕ, ◌≤◌, ◌<◌, ◌≡◌, Bool, true, false, not, ◌||◌, ◌↔◌, ltb, leb, eqb}
use Rattle.facts.specs.Counting.{some}
use Rattle.table.specs.Limits.{core_limit}
use Rattle.cores.specs.declared.Placement.{Placement}
use Rattle.cores.specs.Placement.{places_of, row_in, core_in}
use Rattle.cores.specs.Cores.{Apart}

-- The numbers below n: which numbers are rows, where nothing else is said.
abbrev pub below : ℕ → ℕ → Bool
below n row = ltb row n

-- "a remembered core not below M or given to two rows, or a remembered row not below n or on two cores" (02, One), "or not rising" (02, Eight): place i.
-- Each place counts for itself, so one pair that stands twice is all three. `is_row` says which numbers are rows.
abbrev pub bad_place : Placement → (ℕ → Bool) → ℕ → ℕ → Bool
bad_place last is_row cores i =
    leb cores (core_in last i)
    || some (λ j. eqb (core_in last j) (core_in last i)) i
    || not (is_row (row_in last i))
    || some (λ j. eqb (row_in last j) (row_in last i)) i
    || some (λ j. leb (row_in last i) (row_in last j)) i

-- Some place is so, or the count says more places than there are, or "a count of them above M" (02, Eight).
unfoldable pub misremembers : Placement → (ℕ → Bool) → ℕ → Bool
misremembers last is_row cores = ltb core_limit last.count || ltb cores last.count || some (bad_place last is_row cores) (places_of last)

-- A memory without fault: each core in one place, below M, and the rows rising, below n. So there are no more places than cores.
pub record Remembers (last : Placement) (is_row : ℕ → Bool) (cores : ℕ) : Type 0 where
  pub few : last.count ≤ core_limit
  pub apart : Apart last
  pub rising : (i j : ℕ) → i < j → j < places_of last → row_in last i < row_in last j
  pub core : (i : ℕ) → i < places_of last → core_in last i < cores
  pub row : (i : ℕ) → i < places_of last → is_row (row_in last i) ≡ true

abbrev pub MisremembersOrRemembers : Type 0
MisremembersOrRemembers = (last : Placement) (is_row : ℕ → Bool) (cores : ℕ) → (misremembers last is_row cores ≡ false) ↔ Remembers last is_row cores

abbrev pub NoMoreThanCores : Type 0
NoMoreThanCores = (last : Placement) (is_row : ℕ → Bool) (cores : ℕ) → Remembers last is_row cores → last.count ≤ cores
