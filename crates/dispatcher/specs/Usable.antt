-- Between functions: what those of this crate ask of a state and of its rows. No part of what 01 says. Those that go through the rows are
-- handed the arrays alone: n rows, their quanta and a time.
use Rattle.std.specs.Prelude.{ℕ, ◌≡◌, ◌≤◌, ◌<◌, List, Bool, not, ◌&&◌, ◌||◌, length, take}
use Rattle.counts.specs.declared.Quanta.{Quanta}
use Rattle.counts.specs.Limits.{time_limit}
use Rattle.counts.specs.Numbers.{numbers_of}
use Rattle.table.specs.declared.Row.{Row}
use Rattle.table.specs.Limits.{row_limit}
use Rattle.pd2.specs.Share.{CanBe}
use Rattle.pd2.specs.Choice.{row_at, quanta_at}
use Rattle.choice.specs.Arrays.{InPlace}
use Rattle.dispatcher.specs.declared.State.{State}
use Rattle.dispatcher.specs.State.{time_of}
use Rattle.dispatcher.specs.Broken.{exceeds, outside_share}

-- A row that a table may hold, with quanta and a time within their limits.
pub record UsableRow (row : Row) (q t : ℕ) : Type 0 where
  pub cost : 0 < row.cost
  pub within_period : row.cost ≤ row.period
  pub quanta : q ≤ t
  pub time : t ≤ time_limit

-- Rows that can be asked whether they break a state: each can be, and the time is within the limit.
pub record Testable (rows : List Row) (quanta : List Quanta) (n t : ℕ) : Type 0 where
  pub place : InPlace rows quanta n
  pub each : (i : ℕ) → i < length (take n rows) → CanBe (row_at (take n rows) i)
  pub time : t ≤ time_limit

-- A row that breaks a state: its quanta exceed the time, or it is outside its share and the state is not stopped.
abbrev pub broken_row : Bool → ℕ → Row → ℕ → Bool
broken_row stopped time row q = exceeds time row q || (not stopped && outside_share time row q)

-- Rows that are all usable.
pub record Usable (rows : List Row) (quanta : List Quanta) (n t : ℕ) : Type 0 where
  pub place : InPlace rows quanta n
  pub each : (i : ℕ) → i < length (take n rows) → UsableRow (row_at (take n rows) i) (quanta_at (numbers_of quanta) i) t

-- The same of a state.
abbrev pub UsableState : State → Type 0
UsableState s = Usable s.table.rows s.quanta s.table.n (time_of s)

-- The arrays of a state have all their places.
abbrev pub ArraysLong : State → Type 0
ArraysLong s = (length s.table.rows ≡ row_limit) × (length s.quanta ≡ row_limit)
