-- What it means that a trace passes: the words of demand 2. (When it does is stated in crates/demands.)
use Rattle.std.specs.Prelude.{ℕ, ◌+◌, ◌≤◌, ◌<◌, ◌≡◌, List, true, cond, length}
use Rattle.windows.specs.Windows.{start, deadline, job_start}
use Rattle.table.specs.declared.Row.{Row}
use Rattle.table.specs.declared.Table.{Table}
use Rattle.table.specs.Value.{rows_of}
use Rattle.pd2.specs.Ready.{origin_of, is_early_release}
use Rattle.pd2.specs.Choice.{row_at}
use Rattle.trace.specs.Records.{names, slots_in, rows_of_slot, times_named}
use Rattle.trace.specs.Said.{bare}
use Rattle.checker.specs.Check.{trace_said}

-- The trace passes.
abbrev pub Passes : Table → List ℕ → Type 0
Passes table s = trace_said table s ≡ bare 0

-- "Allowed slots: r up to d-1; in an early-release row they begin at its job's start instead": the first allowed slot of subtask i
abbrev pub first_allowed : Row → ℕ → ℕ
first_allowed row i =
    cond (is_early_release row) (job_start row.cost row.period (origin_of row) i) (start row.cost row.period (origin_of row) i)

abbrev pub due : Row → ℕ → ℕ
due row i = deadline row.cost row.period (origin_of row) i

-- Slot t holds subtask i of the row: its record names the row, and i - 1 records before it do.
abbrev pub Holds : List ℕ → ℕ → ℕ → ℕ → Type 0
Holds s row t i = (names (rows_of_slot s t) row ≡ true) × (times_named s row t + 1 ≡ i)

-- "each quantum falls inside its allowed slots, none overdue": each subtask that a slot holds was allowed there, and each whose deadline is at or before the trace's end
-- was given before its deadline.
pub record InWindows (table : Table) (s : List ℕ) : Type 0 where
  pub allowed : (row t i : ℕ) → row < length (rows_of table) → t < slots_in s → Holds s row t i →
      (first_allowed (row_at (rows_of table) row) i ≤ t) × (t < due (row_at (rows_of table) row) i)
  pub none_overdue : (row i : ℕ) → row < length (rows_of table) → 1 ≤ i → due (row_at (rows_of table) row) i ≤ slots_in s →
      i ≤ times_named s row (due (row_at (rows_of table) row) i)
