-- Between functions: what the helpers ask of a row, its quanta and a time. No part of what 01 says.
use Rattle.std.specs.Prelude.{ℕ, ◌+◌, ◌<◌, ◌≤◌}
use Rattle.windows.specs.Next.{reach}
use Rattle.table.specs.declared.Row.{Row}

-- A row that can be, with quanta and a time within reach, or one past it: the limits are also tested one slot on.
pub record Near (row : Row) (q t : ℕ) : Type 0 where
  pub cost : 0 < row.cost
  pub weight : row.cost ≤ row.period
  pub quanta : q ≤ reach + 1
  pub time : t ≤ reach + 1

-- A row that can be, with quanta within reach, has a next window: windows answers, if the phase is that of a row.
pub record HasWindow (row : Row) (q : ℕ) : Type 0 where
  pub cost : 0 < row.cost
  pub weight : row.cost ≤ row.period
  pub quanta : q ≤ reach
