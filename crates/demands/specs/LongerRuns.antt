-- A run that is longer than a trace: "Each trace still covers at most 1,000,000,000 slots from slot 0" (02, Seven), and a run goes on up to the time limit (`runs_on` of specs/NeverLate.antt).
use Rattle.std.specs.Prelude.{ℕ, ◌^◌, ◌≤◌, ◌<◌, ◌≡◌, List}
use Rattle.table.specs.declared.Table.{Table}
use Rattle.table.specs.Bytes.{table_number}
use Rattle.trace.specs.Records.{first_place, place_of}
use Rattle.trace.specs.Said.{bare}
use Rattle.dispatcher.specs.State.{time_of}
use Rattle.dispatcher.specs.Run.{Step, Run, run}
use Rattle.checker.specs.Causes.{slot_limit}
use Rattle.checker.specs.Check.{trace_said, check_of}
use Rattle.demands.specs.RunPasses.{with_slot_count, IsTraceOf}

-- the first n slots of a run: their count, and behind it their records as they stand in the run's buffer
abbrev pub first_slots : Run → ℕ → List ℕ
first_slots r n = with_slot_count n r.bytes (place_of r.bytes first_place n)

-- The first slots of a run are a trace that passes, if they are no more than a trace covers: so are the first 1,000,000,000 of a longer one. The run's last answer may be any; with 1
-- a row is late at the end of its last slot, which is left out then.
abbrev pub FirstSlotsPass : Type 0
FirstSlotsPass =
    (table : Table) (steps : ℕ → Step) (buffer : List ℕ) (m n : ℕ) →
    let r = run table steps buffer first_place m in
    n ≤ time_of r.state → (r.said.number ≡ 1 → n < time_of r.state) → n ≤ slot_limit → IsTraceOf table n (bare 0) (first_slots r n)

-- More than that are no trace: a count above the limit is refused with 47, whatever stands behind it, as long as four bytes hold it.
pub record IsTooLong (table : Table) (trace : List ℕ) : Type 0 where
  pub checked : trace_said table trace ≡ bare 47
  pub checked_by_bytes : (bytes : List ℕ) → table_number bytes ≡ 0 → check_of bytes trace ≡ bare 47

abbrev pub LongerIsRefused : Type 0
LongerIsRefused = (table : Table) (n : ℕ) (bytes : List ℕ) (next : ℕ) → slot_limit < n → n < 2 ^ 32 → IsTooLong table (with_slot_count n bytes next)
