-- Demand 3: "A well-formed trace passes exactly when, at each time it covers, each row holds at least its exact share rounded down, and at most that share
-- rounded up; for an early-release row the upper limit is the cost of all jobs released before that time. From a fresh start, however many cores each
-- slot had, the dispatcher keeps every row within these limits until it first reports a row late. It reports that exactly when some row is owed a whole
-- quantum."
use Rattle.std.specs.Prelude.{ℕ, ◌+◌, ◌*◌, ◌≤◌, ◌<◌, ◌≡◌, List, Bool, ◌↔◌, length}
use Rattle.table.specs.declared.Table.{Table}
use Rattle.table.specs.Value.{rows_of}
use Rattle.table.specs.Bytes.{table_number, table_in}
use Rattle.pd2.specs.Choice.{row_at, quanta_at}
use Rattle.trace.specs.Records.{slots_in, times_named}
use Rattle.trace.specs.Said.{Said, bare}
use Rattle.dispatcher.specs.declared.State.{State}
use Rattle.dispatcher.specs.State.{quanta_in, time_of, fresh_of}
use Rattle.dispatcher.specs.Slot.{slot_of}
use Rattle.dispatcher.specs.Run.{Step, step_of}
use Rattle.dispatcher.specs.RunKept.{QuantaAreRecords, RecordsStandInTurn}
use Rattle.checker.specs.Check.{check_of}
use Rattle.checker.specs.WellFormed.{WellFormed}
use Rattle.demands.specs.Limits.{since_phase, upper_limit, InLimits}
use Rattle.demands.specs.RunPasses.{WordBytesAreRead, RunPasses}
use Rattle.demands.specs.LongerRuns.{FirstSlotsPass, LongerIsRefused}

-- "A well-formed trace passes exactly when, at each time it covers, each row holds .."; the quanta of a row are the records that name it
abbrev pub PassesInLimits : Type 0
PassesInLimits =
    (table_bytes trace : List ℕ) → table_number table_bytes ≡ 0 → WellFormed (table_in table_bytes) trace →
    let rows = rows_of (table_in table_bytes) in
    (check_of table_bytes trace ≡ bare 0) ↔ ((t i : ℕ) → t ≤ slots_in trace → i < length rows → InLimits (row_at rows i) (times_named trace i t) t)

-- "From a fresh start, however many cores each slot had": the states that steps lead to (a slot is the only step), each with any set of cores, any buffer and
-- any place, as long as none has reported a row late. A slot may also be refused on the way.
pub data FromFresh (table : Table) : State → Type 0 where
  start : FromFresh table (fresh_of table)
  step : (s : State) (x : Step) (buffer : List ℕ) (place : ℕ) → FromFresh table s → ((step_of s x buffer place).said.number ≡ 1 → ⊥) →
      FromFresh table (step_of s x buffer place).state

-- "the dispatcher keeps every row within these limits until it first reports a row late"
abbrev pub KeepsLimits : Type 0
KeepsLimits =
    (table : Table) (s : State) → FromFresh table s → (i : ℕ) → i < length (rows_of table) →
    InLimits (row_at (rows_of table) i) (quanta_at (quanta_in s) i) (time_of s)

-- Row i "is owed a whole quantum": "the named row has e·a - p·q at least p".
abbrev pub IsOwed : Table → State → ℕ → Type 0
IsOwed table s i =
    let row = row_at (rows_of table) i in
    row.period * quanta_at (quanta_in s) i + row.period ≤ row.cost * since_phase row (time_of s)

-- "It reports that exactly when some row is owed a whole quantum." It names the lowest such row and the time, and "at that one the upper limits still hold".
pub record Reports (table : Table) (said : Said) (after : State) : Type 0 where
  pub exactly : (said.number ≡ 1) ↔ ((i : ℕ) × (i < length (rows_of table)) × IsOwed table after i)
  pub names_time : said.number ≡ 1 → said.time ≡ time_of after
  pub names_row : said.number ≡ 1 → (said.row < length (rows_of table)) × IsOwed table after said.row
  pub names_lowest : said.number ≡ 1 → (i : ℕ) → i < said.row → IsOwed table after i → ⊥
  pub uppers_hold : (i : ℕ) → i < length (rows_of table) → quanta_at (quanta_in after) i ≤ upper_limit (row_at (rows_of table) i) (time_of after)

abbrev pub ReportsLate : Type 0
ReportsLate =
    (s : State) (free : List Bool) (buffer : List ℕ) (place : ℕ) → (slot_of s free buffer place).said.number < 2 →
    Reports s.table (slot_of s free buffer place).said (slot_of s free buffer place).state

-- What the records say is what the state says, in a run: step after step into one buffer, one record behind the other. "quanta counts that do not equal the
-- records naming the row" are shut out; and the trace of a run passes the check, or the check names the row and the time that the run named. Of a run that is longer than a trace
-- the first slots pass.
pub record DemandThree : Type 0 where
  pub passes : PassesInLimits
  pub keeps : KeepsLimits
  pub reports : ReportsLate
  pub quanta : (table : Table) (steps : ℕ → Step) (buffer : List ℕ) (place : ℕ) → QuantaAreRecords table steps buffer place
  pub in_turn : (table : Table) (steps : ℕ → Step) (buffer : List ℕ) (place : ℕ) → RecordsStandInTurn table steps buffer place
  pub slot_count_is_read : WordBytesAreRead
  pub run_passes : RunPasses
  pub first_slots_pass : FirstSlotsPass
  pub longer_is_refused : LongerIsRefused
