-- Between functions: how the cores are found. Sets are marks, and 32 is no number of a set. No part of what 02 says; that it gives those cores is
-- proved.
use Rattle.std.specs.Prelude.{ℕ, ◌≤◌, ◌<◌, ◌≡◌, List, Bool, true, false, cond, ltb, length, get_or, drop}
use Rattle.facts.specs.Counting.{how_many}
use Rattle.trace.specs.Record.{marked}
use Rattle.trace.specs.Records.{names}
use Rattle.cores.specs.declared.Placement.{Placement}
use Rattle.cores.specs.Sets.{set_limit}
use Rattle.cores.specs.Cores.{stays, own_core, left_over, in_turn}

-- What stands for a row that is not picked, in place of its core.
abbrev pub not_picked : ℕ
not_picked = 33

-- Which rows are picked: 32 for each, as long as it has no core.
pub record Picks (rows own : List ℕ) : Type 0 where
  pub small : (row : ℕ) → names rows row ≡ true → row < length own
  pub says : (row : ℕ) → row < length own → get_or own row 0 ≡ cond (names rows row) set_limit not_picked

-- What the memory says of the picked rows: the own core of each that stays, 32 of each other; and what it leaves of the free cores.
pub record Keeps (rows : List ℕ) (free : List Bool) (last : Placement) (own : List ℕ) (left : List Bool) : Type 0 where
  pub own_core_is : (row : ℕ) → names rows row ≡ true → get_or own row 0 ≡ cond (stays last (marked free) row) (own_core last (marked free) row) set_limit
  pub left_over_is : marked left ≡ left_over last rows (marked free)

-- The cores in turn, by what is kept.
abbrev pub stays_by : List ℕ → ℕ → Bool
stays_by own row = ltb (get_or own row 0) set_limit

abbrev pub in_turn_by : List ℕ → List ℕ → List ℕ → List ℕ
in_turn_by own left rows = in_turn (stays_by own) (λ row. get_or own row 0) left rows

-- The numbers of a set from one on.
unfoldable pub from_on : List Bool → ℕ → List ℕ
from_on marks i = drop (how_many (λ j. get_or marks j false) i) (marked marks)

-- One row's turn: the core that it gets, and from where on cores are left then.
pub record TakesTurn (own : ℕ) (left : List Bool) (next core after : ℕ) : Type 0 where
  pub gets : core ≡ cond (ltb own set_limit) own (get_or (from_on left next) 0 0)
  pub leaves : from_on left after ≡ cond (ltb own set_limit) (from_on left next) (drop 1 (from_on left next))
  pub within : after ≤ set_limit
