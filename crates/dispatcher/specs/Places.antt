-- What a slot answers and what it leaves alone (01, "What comes back"; 02, One).
use Rattle.std.specs.Prelude.{ℕ, ◌+◌, ◌≤◌, ◌<◌, ◌≡◌, List, Bool, false, ◌⊎◌, length, take}
use Rattle.table.specs.declared.Table.{Table}
use Rattle.table.specs.Value.{fault_of, boards_of}
use Rattle.pd2.specs.Choice.{quanta_at}
use Rattle.trace.specs.Said.{bare}
use Rattle.cores.specs.Placement.{places_of, row_in, core_in}
use Rattle.dispatcher.specs.declared.State.{State}
use Rattle.dispatcher.specs.State.{rows_in, is_row, quanta_in, time_of, fresh_of}
use Rattle.dispatcher.specs.Slot.{SlotReply, slot_of}

-- A slot answers 0, 1 or a number of 30 to 35 that is not 33.
abbrev pub SlotNumbers : Type 0
SlotNumbers =
    (s : State) (free : List Bool) (buffer : List ℕ) (place : ℕ) →
    let number = (slot_of s free buffer place).said.number in
    (number < 2) ⊎ ((30 ≤ number) × (number ≤ 35) × (number ≡ 33 → ⊥))

-- "In the answers of a slot .. row and time are 0 except with 1 .."
abbrev pub BareUnlessLate : Type 0
BareUnlessLate =
    (s : State) (free : List Bool) (buffer : List ℕ) (place : ℕ) →
    let said = (slot_of s free buffer place).said in
    (said.number ≡ 1 → ⊥) → said ≡ bare said.number

-- "With 30 to 34 the state returns equal and the buffer is untouched", and with 35, which stands in the place of 33.
abbrev pub RefusalChangesNothing : Type 0
RefusalChangesNothing =
    (s : State) (free : List Bool) (buffer : List ℕ) (place : ℕ) → 1 < (slot_of s free buffer place).said.number →
    ((slot_of s free buffer place).state ≡ s) × ((slot_of s free buffer place).bytes ≡ buffer)

-- "if the table has a fault, its first slot answers 30"
abbrev pub FaultAnswers30 : Type 0
FaultAnswers30 = (t : Table) → (fault_of t ≡ 0 → ⊥) → (free : List Bool) (buffer : List ℕ) (place : ℕ) → (slot_of (fresh_of t) free buffer place).said ≡ bare 30

-- "A row gets at most one quantum a slot."
abbrev pub AtMostOneQuantum : Type 0
AtMostOneQuantum =
    (s : State) (free : List Bool) (buffer : List ℕ) (place i : ℕ) →
    quanta_at (quanta_in (slot_of s free buffer place).state) i ≤ quanta_at (quanta_in s) i + 1

-- "Places past row n, and board numbers past M, are .. returned as they came": the table is the same, and so are the quanta past n.
abbrev pub PastIsReturned : Type 0
PastIsReturned =
    (s : State) (free : List Bool) (buffer : List ℕ) (place : ℕ) →
    let after = (slot_of s free buffer place).state in
    (after.table ≡ s.table) × ((i : ℕ) → is_row s i ≡ false → quanta_at (quanta_in after) i ≡ quanta_at (quanta_in s) i)

-- "Places past row n, and board numbers past M, are ignored", and so is what stands past the count of a memory: two states that differ in nothing else get
-- the same answer, the same cores and the same bytes, and then again differ in nothing else.
pub record AlikeBelow (s s' : State) : Type 0 where
  pub format : s.table.format ≡ s'.table.format
  pub cycle : s.table.cycle ≡ s'.table.cycle
  pub cores : s.table.cores ≡ s'.table.cores
  pub boards : boards_of s.table ≡ boards_of s'.table
  pub row_count : s.table.n ≡ s'.table.n
  pub rows : rows_in s ≡ rows_in s'
  pub time : time_of s ≡ time_of s'
  pub stopped : s.stopped ≡ s'.stopped
  pub quanta : take (length (rows_in s)) (quanta_in s) ≡ take (length (rows_in s)) (quanta_in s')
  pub remembered : s.last.count ≡ s'.last.count
  pub last_rows : (i : ℕ) → i < places_of s.last → row_in s.last i ≡ row_in s'.last i
  pub last_cores : (i : ℕ) → i < places_of s.last → core_in s.last i ≡ core_in s'.last i

pub record SameAnswer (a b : SlotReply) : Type 0 where
  pub said : a.said ≡ b.said
  pub placed : a.placed ≡ b.placed
  pub bytes : a.bytes ≡ b.bytes
  pub state : AlikeBelow a.state b.state

abbrev pub PastIsIgnored : Type 0
PastIsIgnored =
    (s s' : State) (free : List Bool) (buffer : List ℕ) (place : ℕ) → AlikeBelow s s' →
    SameAnswer (slot_of s free buffer place) (slot_of s' free buffer place)
