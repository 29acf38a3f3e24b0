-- Between functions: what those of this crate ask of a state. No part of what 02 says.
use Rattle.std.specs.Prelude.{ℕ, ◌≤◌, ◌<◌, List, Bool, false, not, ◌&&◌, length, get_or}
use Rattle.dispatcher.specs.declared.State.{State}
use Rattle.dispatcher.specs.State.{rows_in}
use Rattle.dispatcher.specs.Usable.{UsableState}

-- A state, a number of cores and a row of which a reason can be given.
pub record Asked (s : State) (k row : ℕ) : Type 0 where
  pub usable : UsableState s
  pub few : k ≤ 8
  pub row_is_there : row < length (rows_in s)

-- A row that is marked, and no longer with one core fewer.
abbrev pub dropped_from : List Bool → List Bool → ℕ → Bool
dropped_from marks fewer i = get_or marks i false && not (get_or fewer i false)
