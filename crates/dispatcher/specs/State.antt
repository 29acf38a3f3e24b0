-- The dispatcher's state (01, "What comes back"): "The dispatcher's state holds the table, the time, a stopped mark and the quanta given to
-- each row"; and (02, One): "The state remembers which row ran on which core in the last slot". That is also what it remembers for Eight: "The state remembers the last
-- slot's rows; fresh, there are none" (02).
use Rattle.std.specs.Prelude.{ℕ, List, Bool, false, length, replicate}
use Rattle.counts.specs.Numbers.{numbers_of}
use Rattle.table.specs.declared.Row.{Row}
use Rattle.table.specs.declared.Table.{Table}
use Rattle.table.specs.Limits.{row_limit}
use Rattle.table.specs.Value.{rows_of}
use Rattle.cores.specs.Placement.{nobody}
use Rattle.cores.specs.Fault.{below}
use Rattle.dispatcher.specs.declared.State.{State}

-- Its rows are those below n, and row i has the quanta at place i: "Places past row n .. are ignored".
abbrev pub rows_in : State → List Row
rows_in s = rows_of s.table

-- Which numbers are rows of the state: those below n. What is said of "a row" of a state asks this, so that it stands in one place.
abbrev pub is_row : State → ℕ → Bool
is_row s = below (length (rows_in s))

abbrev pub quanta_in : State → List ℕ
quanta_in s = numbers_of s.quanta

abbrev pub time_of : State → ℕ
time_of s = s.time.0

-- "A fresh state can be made from any table value: time 0, not stopped, all quanta 0"; "The state remembers which row ran on which core in the last
-- slot; fresh, none."
abbrev pub fresh_of : Table → State
fresh_of t = record { table = t; time = record { 0 = 0 }; stopped = false; quanta = replicate row_limit (record { 0 = 0 }); last = nobody }
