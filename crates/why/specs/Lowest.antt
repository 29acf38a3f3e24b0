-- "the lowest-ranked picked row" (02, Two), of any rows and any order: `is_picked i` says that row i is picked, `goes_before j i` that row j goes before
-- row i. Lowest-ranked is the last in the order, whatever its number.
use Rattle.std.specs.Prelude.{ℕ, ◌<◌, ◌≡◌, Bool, true, not, ◌&&◌, ◌↔◌}
use Rattle.facts.specs.Counting.{some}
use Rattle.facts.specs.First.{at_first}
use Rattle.pd2.specs.Picks.{Strict}

module _ (is_picked : ℕ → Bool) (goes_before : ℕ → ℕ → Bool) (n : ℕ) where
  -- It is picked, and every other picked row goes before it.
  pub record LowestPicked (row : ℕ) : Type 0 where
    pub row_is_there : row < n
    pub row_is_picked : is_picked row ≡ true
    pub behind_all : (other : ℕ) → other < n → is_picked other ≡ true → (other ≡ row → ⊥) → goes_before other row ≡ true

  -- The same, computed: the row that is picked and goes before no picked row.
  abbrev pub is_lowest : ℕ → Bool
  is_lowest row = is_picked row && not (some (λ other. is_picked other && goes_before row other) n)

  unfoldable pub lowest_picked : ℕ
  lowest_picked = at_first is_lowest (λ row. row) 0 n

-- Where some row is picked there is one, and only one.
abbrev pub OneLowest : Type 0
OneLowest =
    (is_picked : ℕ → Bool) (goes_before : ℕ → ℕ → Bool) (n row : ℕ) → Strict is_picked goes_before n → some is_picked n ≡ true →
    LowestPicked is_picked goes_before n row ↔ (row ≡ lowest_picked is_picked goes_before n)
