-- The trace of a run passes the check, or the check names the row and the time that the run named. (A run may be longer than a
-- trace: specs/LongerRuns.antt.)
use Rattle.std.specs.Prelude.{ℕ, ◌^◌, ◌≤◌, ◌<◌, ◌≡◌, List, ◌++◌, take, drop}
use Rattle.fields.specs.Fields.{word, bytes_of}
use Rattle.table.specs.declared.Table.{Table}
use Rattle.table.specs.Bytes.{table_number, table_in}
use Rattle.trace.specs.Records.{first_place, slots_in}
use Rattle.trace.specs.Said.{Said, bare, named}
use Rattle.dispatcher.specs.State.{time_of}
use Rattle.dispatcher.specs.Run.{Step, Run, run}
use Rattle.checker.specs.Causes.{slot_limit}
use Rattle.checker.specs.Check.{trace_said, check_of}
use Rattle.checker.specs.WellFormed.{WellFormed}

-- "Slot count (4 ..)", "Little-endian throughout": a number in four bytes is read as that number.
abbrev pub WordBytesAreRead : Type 0
WordBytesAreRead = (n : ℕ) (rest : List ℕ) → n < 2 ^ 32 → word (bytes_of 4 n ++ rest) 0 ≡ n

-- "The dispatcher writes records only; the count is written by whoever keeps the trace": a count of slots, and behind it the records that stand
-- in a buffer from place 4 up to the next place
abbrev pub with_slot_count : ℕ → List ℕ → ℕ → List ℕ
with_slot_count n bytes next = bytes_of 4 n ++ drop first_place (take next bytes)

-- the trace of a run: its count is the slots that were done
abbrev pub trace_of : Run → List ℕ
trace_of r = with_slot_count (time_of r.state) r.bytes r.place

-- What the check says of the trace of a run whose last answer is `said`: it passes with 0, and with 1 the check answers 45 with the same row and time.
pub record SaysTheSame (said checked : Said) : Type 0 where
  pub passes : said.number ≡ 0 → checked ≡ bare 0
  pub late : said.number ≡ 1 → checked ≡ named 45 said.row said.time

-- A trace of n slots, of a run whose last answer is `said`: it is well formed, and the check says the same as the run, for the table and for any bytes that read as the table.
pub record IsTraceOf (table : Table) (n : ℕ) (said : Said) (trace : List ℕ) : Type 0 where
  pub slots : slots_in trace ≡ n
  pub well_formed : WellFormed table trace
  pub checked : SaysTheSame said (trace_said table trace)
  pub checked_by_bytes : (bytes : List ℕ) → table_number bytes ≡ 0 → table_in bytes ≡ table → SaysTheSame said (check_of bytes trace)

-- "Each trace still covers at most 1,000,000,000 slots from slot 0" (02, Seven): the records of a run whose last answer is 0 or 1, if they are no more than that, with their
-- count in front are a well-formed trace; the checker passes it, or answers 45 with the same row and time as the run's 1.
abbrev pub RunPasses : Type 0
RunPasses =
    (table : Table) (steps : ℕ → Step) (buffer : List ℕ) (m : ℕ) →
    let r = run table steps buffer first_place m in
    r.said.number < 2 → time_of r.state ≤ slot_limit → IsTraceOf table (time_of r.state) r.said (trace_of r)
