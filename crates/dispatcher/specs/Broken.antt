-- A broken state (01, "What comes back"; 02, One and Eight, for what it remembers and for its format).
use Rattle.std.specs.Prelude.{ℕ, List, Bool, not, ◌&&◌, ◌||◌, ltb, eqb, length}
use Rattle.facts.specs.Counting.{some}
use Rattle.counts.specs.Limits.{time_limit}
use Rattle.table.specs.declared.Row.{Row}
use Rattle.table.specs.Value.{fault_of}
use Rattle.pd2.specs.Share.{within}
use Rattle.pd2.specs.Choice.{row_at, quanta_at}
use Rattle.cores.specs.Fault.{misremembers}
use Rattle.dispatcher.specs.declared.State.{State}
use Rattle.dispatcher.specs.State.{rows_in, is_row, quanta_in, time_of}

-- A question about a row and its quanta, put to row i,
abbrev pub of_row_at : List Row → List ℕ → (Row → ℕ → Bool) → ℕ → Bool
of_row_at rows quanta is i = is (row_at rows i) (quanta_at quanta i)

-- and to row i of a state.
abbrev pub of_row : State → (Row → ℕ → Bool) → ℕ → Bool
of_row s = of_row_at (rows_in s) (quanta_in s)

-- Some row of the state is so.
abbrev pub some_row : State → (Row → ℕ → Bool) → Bool
some_row s is = some (λ i. is_row s i && of_row s is i) (length (rows_in s))

-- "a row's quanta exceed time"
abbrev pub exceeds : ℕ → Row → ℕ → Bool
exceeds time row q = ltb time q

-- "some row is outside its share at its time"
abbrev pub outside_share : ℕ → Row → ℕ → Bool
outside_share time row q = not (within row q time)

-- "A state is broken (30) if its table has a fault 12 to 20 or 22, if time is above 1,000,000,000, if a row's quanta exceed time, or if it is
-- not stopped and some row is outside its share at its time." The time is held to the new limit: "30, 32 and 50 use the new limit" (02, Seven).
-- "30 also for a remembered core not below M or given to two rows, or a remembered row not below n or on two cores" (02, One); "30 also for such a format,
-- for remembered rows not below n or not rising, or a count of them above M" (02, Eight): a format that is neither 1 nor 2 is a fault of the table.
unfoldable pub broken : State → Bool
broken s =
    not (eqb (fault_of s.table) 0)
    || ltb time_limit (time_of s)
    || some_row s (exceeds (time_of s))
    || (not s.stopped && some_row s (outside_share (time_of s)))
    || misremembers s.last (is_row s) s.table.cores
