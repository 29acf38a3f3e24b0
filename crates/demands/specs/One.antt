-- Demand 1: "Every table, trace, state or number that comes in is answered, with a result or with one of the refusals in document 01, given exactly
-- when that paper says. A refusal hands back the state as it came and writes no byte. Nobody has to check anything before calling."
use Rattle.std.specs.Prelude.{ℕ, ◌+◌, ◌≤◌, ◌<◌, ◌≡◌, List, [], ◌↔◌, ◌⊎◌, Bool, true, false, length, get_or, replicate, Some}
use Rattle.facts.specs.Findings.{FirstFound}
use Rattle.windows.specs.Question.{WindowsAreAnswered}
use Rattle.windows.specs.Windows.{deadline, bit, NextStartIsDLessB}
use Rattle.windows.specs.LeastTime.{WalkGivesLeastTime, LightHasNone}
use Rattle.windows.specs.Next.{next_due, next}
use Rattle.table.specs.declared.Row.{Row}
use Rattle.table.specs.Value.{fault_of}
use Rattle.table.specs.Bytes.{table_number, table_in, reading}
use Rattle.table.specs.Taken.{NumbersAreFirstCauses, NumbersAre10To22, TakenWhereNoCause, PastIsZero}
use Rattle.table.specs.Faultless.{FaultlessExactly, TakenExactly}
use Rattle.pd2.specs.Verdict.{answered}
use Rattle.pd2.specs.Choice.{row_at, quanta_at, pd2_picks}
use Rattle.trace.specs.Record.{record_of}
use Rattle.trace.specs.Said.{Said, bare}
use Rattle.trace.specs.Records.{free_at, place_in, rows_of_slot}
use Rattle.trace.specs.Found.{is_found, part_found, part_begins, FoundIfAllInside}
use Rattle.cores.specs.Sets.{size}
use Rattle.dispatcher.specs.declared.State.{State}
use Rattle.dispatcher.specs.State.{rows_in, quanta_in, time_of}
use Rattle.dispatcher.specs.Broken.{broken}
use Rattle.dispatcher.specs.Slot.{favoured_in, slot_of}
use Rattle.dispatcher.specs.Places.{SlotNumbers, BareUnlessLate, RefusalChangesNothing, FaultAnswers30, PastIsReturned, PastIsIgnored}
use Rattle.checker.specs.Causes.{RisingExactly}
use Rattle.checker.specs.Check.{trace_findings, check_of}
use Rattle.demands.specs.Limits.{InLimits}

-- "with one of the refusals in document 01, given exactly when that paper says", of a window: 50 exactly if e = 0, e is above p (02, Six), or i is not in 1
-- to 1,000,000,000,001 (02, Seven), and else the window;
pub record Windows : Type 0 where
  pub answered : WindowsAreAnswered
  -- "Then the next start is d - b."
  pub next_start : NextStartIsDLessB
  -- D of a heavy row is "the smallest time at or after d that is the deadline of a subtask of this row with b = 0, or ..", and "0 for a light row".
  pub group : WalkGivesLeastTime
  pub light : LightHasNone

-- of the questions about one row that our own functions answer and 01 does not name (`windows::next_due` and its like, `pd2::ready`, `late`, `within`): they say `None` to
-- wild numbers, but never within the limits of 01 and of 02, Seven, and one past them. A time of the next subtask (`of` is `start`, `job_start` or
-- `group_deadline`), or its deadline and bit, is that of subtask q + 1;
pub record NextIs (e p f q : ℕ) : Type 0 where
  pub time : (of : ℕ → ℕ → ℕ → ℕ → ℕ) → next of e p f q ≡ Some (record { 0 = of e p f (q + 1) })
  pub due : next_due e p f q ≡ Some (record { deadline = record { 0 = deadline e p f (q + 1) }; bit = bit e p (q + 1) })

pub record Questions : Type 0 where
  pub row : (row : Row) (q t : ℕ) → 0 < row.cost → row.cost ≤ row.period → q ≤ 1_000_000_000_001 → t ≤ 1_000_000_000_001 → answered row q t ≡ true
  pub next_is : (e p f q : ℕ) → 0 < e → e ≤ p → f ≤ 65_535 → q ≤ 1_000_000_000_001 → NextIs e p f q

-- of a table: 10 to 22, each exactly if its cause is the first met, and 0 exactly if none is. With 0 the table that the bytes hold is handed back;
-- "a table that is taken has 0 in every place past n and past M". "A table refusal yields no table";
pub record Tables : Type 0 where
  pub numbers : NumbersAre10To22
  pub refused : NumbersAreFirstCauses
  pub taken : TakenWhereNoCause
  -- 0 is answered exactly to the bytes of a table as 01 describes it, and a table value has no fault exactly if it is one.
  pub taken_exactly : TakenExactly
  pub faultless_exactly : FaultlessExactly
  pub number : (bytes : List ℕ) → (reading bytes).number ≡ table_number bytes
  pub table : (bytes : List ℕ) → table_number bytes ≡ 0 → (reading bytes).table ≡ table_in bytes
  pub past : PastIsZero
  pub no_table : (bytes : List ℕ) → (table_number bytes ≡ 0 → ⊥) →
      (reading bytes).table ≡ record { format = 0; cycle = 0; cores = 0; boards = replicate 8 0; n = 0; rows = replicate 32 (record { tank = 0; cost = 0; period = 0; phase = 0; kind = 0 }) }

-- "A state is broken (30) if its table has a fault 12 to 20 or 22, if time is above 1,000,000,000, if a row's quanta exceed time, or if it is not stopped and
-- some row is outside its share at its time", with the limit of Seven, "30, 32 and 50 use the new limit" (02): what a state is that is not broken.
pub record NotBroken (s : State) : Type 0 where
  pub table : fault_of s.table ≡ 0
  pub time : time_of s ≤ 1_000_000_000_000
  pub quanta : (i : ℕ) → i < length (rows_in s) → quanta_at (quanta_in s) i ≤ time_of s
  pub shares : s.stopped ≡ false → (i : ℕ) → i < length (rows_in s) → InLimits (row_at (rows_in s) i) (quanta_at (quanta_in s) i) (time_of s)
  -- "30 also for a remembered core not below M or given to two rows, or a remembered row not below n or on two cores" (02, One); there are eight places.
  pub remembered : s.last.count ≤ 8
  pub cores_there : (i : ℕ) → i < s.last.count → get_or s.last.cores i 0 < s.table.cores
  pub cores_apart : (i j : ℕ) → i < j → j < s.last.count → get_or s.last.cores i 0 ≡ get_or s.last.cores j 0 → ⊥
  pub rows_there : (i : ℕ) → i < s.last.count → get_or s.last.rows i 0 < length (rows_in s)
  pub rows_apart : (i j : ℕ) → i < j → j < s.last.count → get_or s.last.rows i 0 ≡ get_or s.last.rows j 0 → ⊥
  -- "30 also for such a format", which is a fault of the table, "for remembered rows not below n or not rising, or a count of them above M" (02, Eight), in both formats
  pub rows_rise : (i j : ℕ) → i < j → j < s.last.count → get_or s.last.rows i 0 < get_or s.last.rows j 0
  pub no_more_than_cores : s.last.count ≤ s.table.cores

abbrev pub BrokenExactly : Type 0
BrokenExactly = (s : State) → (broken s ≡ false) ↔ NotBroken s

-- "Given exactly when", of a slot's refusals, in the order 30, 31, 32, 35, 34: each with what was not met before it; "35 for a set naming a core not below M .. in the
-- place of 33" (02, One). The two causes of 34, a place past the end and too few bytes after it, are one: the record would end past the buffer.
pub record SlotExactly (s : State) (free : List Bool) (buffer : List ℕ) (place number : ℕ) : Type 0 where
  pub is_30 : (number ≡ 30) ↔ (NotBroken s → ⊥)
  pub is_31 : (number ≡ 31) ↔ (NotBroken s × (s.stopped ≡ true))
  pub is_32 : (number ≡ 32) ↔ (NotBroken s × (s.stopped ≡ false) × (time_of s ≡ 1_000_000_000_000))
  pub is_35 : (number ≡ 35)
      ↔ (NotBroken s × (s.stopped ≡ false) × (time_of s < 1_000_000_000_000) × ((core : ℕ) × (get_or free core false ≡ true) × (s.table.cores ≤ core)))
  pub is_34 : (number ≡ 34)
      ↔ (NotBroken s × (s.stopped ≡ false) × (time_of s < 1_000_000_000_000) × ((core : ℕ) → get_or free core false ≡ true → core < s.table.cores)
      × (length buffer < place + 2 + length (pd2_picks (rows_in s) (quanta_in s) (favoured_in s) (time_of s) (size free))))

-- of a slot: 30 to 32, 35 and 34, each exactly if 01 and 02 say so. A fresh state of a table with a fault is answered 30. "Places past row n, and board
-- numbers past M, are ignored and returned as they came";
pub record Slots : Type 0 where
  pub broken_exactly : BrokenExactly
  pub exactly : (s : State) (free : List Bool) (buffer : List ℕ) (place : ℕ) → SlotExactly s free buffer place (slot_of s free buffer place).said.number
  pub numbers : SlotNumbers
  pub faulty : FaultAnswers30
  pub parts : BareUnlessLate
  pub returned : PastIsReturned
  pub ignored : PastIsIgnored

-- of a trace: the table's refusal first, and then 40 to 47, each with its row and time, exactly if its cause is the first met;
pub record Checks : Type 0 where
  pub numbers : (table_bytes trace : List ℕ) →
      let number = (check_of table_bytes trace).number in
      (number ≡ 0) ⊎ ((10 ≤ number) × (number ≤ 22)) ⊎ ((40 ≤ number) × (number ≤ 47))
  pub table_refused : (table_bytes trace : List ℕ) → (table_number table_bytes ≡ 0 → ⊥) → check_of table_bytes trace ≡ bare (table_number table_bytes)
  pub trace_refused : (table_bytes trace : List ℕ) (x : Said) → table_number table_bytes ≡ 0 → (x.number ≡ 0 → ⊥) →
      (check_of table_bytes trace ≡ x) ↔ FirstFound (trace_findings (table_in table_bytes) trace) x
  -- 43 is met exactly where a row number is not below n or does not rise.
  pub rising : RisingExactly
  pub parts : (table_bytes trace : List ℕ) → let said = check_of table_bytes trace in (said.number ≡ 44 → ⊥) → (said.number ≡ 45 → ⊥) → said ≡ bare said.number

-- of a record in a trace: it is found exactly if 01 says so.
pub record Records : Type 0 where
  pub found : FoundIfAllInside
  -- "the record itself, the very bytes inside the lent trace": its k, its c and its rows, from where the record of slot s begins
  pub itself : (trace : List ℕ) (s : ℕ) → is_found trace s ≡ true → part_found trace s ≡ record_of (free_at trace (place_in trace s)) (rows_of_slot trace s)
  pub begins : (trace : List ℕ) (s : ℕ) → is_found trace s ≡ true → part_begins trace s ≡ place_in trace s
  -- "Otherwise the part handed back has length 0 and begins at 0."
  pub nothing : (trace : List ℕ) (s : ℕ) → is_found trace s ≡ false → (part_found trace s ≡ []) × (part_begins trace s ≡ 0)

-- "Nobody has to check anything before calling": no public function has a `requires`, or the gate refuses it; and what each answers is determined, on all
-- inputs (`determined` of specs/All.antt).
pub record DemandOne : Type 0 where
  pub windows : Windows
  pub questions : Questions
  pub tables : Tables
  pub slots : Slots
  pub checks : Checks
  pub records : Records
  -- "A refusal hands back the state as it came and writes no byte": a slot's. (The record writer's is `no_room`, the printer's `too_short` of specs/Meanings.antt, the table writer's `past_stays` of specs/WritingTables.antt.)
  pub hands_back : RefusalChangesNothing
