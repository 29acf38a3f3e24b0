-- A core for each picked row (02, One): what a slot answers and remembers, and what stays as it was.
use Rattle.std.specs.Prelude.{ℕ, ◌+◌, ◌<◌, ◌≡◌, List, Bool, true, false, ltb, length, get_or}
use Rattle.pd2.specs.Choice.{pd2_picks, given}
use Rattle.trace.specs.Record.{marked, record_of, with_record}
use Rattle.trace.specs.Records.{names, rows_at}
use Rattle.cores.specs.declared.Placement.{Placement}
use Rattle.cores.specs.Sets.{size, names_past}
use Rattle.cores.specs.Placement.{row_in, places_of, rows_placed, cores_placed, ran_before, nobody}
use Rattle.cores.specs.Best.{moves, IsBest}
use Rattle.dispatcher.specs.declared.State.{State}
use Rattle.dispatcher.specs.State.{rows_in, quanta_in, time_of}
use Rattle.dispatcher.specs.Broken.{broken}
use Rattle.dispatcher.specs.Answer.{done_said}
use Rattle.dispatcher.specs.Slot.{favoured_in, picks_in, late_in, SlotReply, slot_of}

-- With 0 and 1 the rows that are placed are those picked. A list of cores is theirs exactly if it is the best: "The number of moves .. is the fewest any
-- placement can have. Among such placements the answer is the one whose cores, read by rising row number, are smaller at the first difference."
pub record GetsBestCores (s : State) (free : List Bool) (placed : Placement) : Type 0 where
  pub count : placed.count ≡ length (picks_in s (size free))
  pub rows : rows_placed placed ≡ picks_in s (size free)
  pub best : IsBest s.last (marked free) (picks_in s (size free)) (cores_placed placed)
  pub no_other : (cores : List ℕ) → IsBest s.last (marked free) (picks_in s (size free)) cores → cores ≡ cores_placed placed

abbrev pub DoneGetsBestCores : Type 0
DoneGetsBestCores =
    (s : State) (free : List Bool) (buffer : List ℕ) (place : ℕ) → (slot_of s free buffer place).said.number < 2 →
    GetsBestCores s free (slot_of s free buffer place).placed

-- With all cores free no row moves, whoever is picked: each that ran in the slot before can stay.
abbrev pub NoMovesIfAllFree : Type 0
NoMovesIfAllFree =
    (s : State) (free : List Bool) (buffer : List ℕ) (place : ℕ) → ((core : ℕ) → core < s.table.cores → get_or free core false ≡ true) →
    moves s.last (rows_placed (slot_of s free buffer place).placed) (cores_placed (slot_of s free buffer place).placed) ≡ 0

-- "The state remembers which row ran on which core in the last slot": with 0 and 1 this slot's, whole; with a refusal what it came with, and the answer
-- has nobody.
pub record Remembered (s : State) (after : SlotReply) : Type 0 where
  pub done : after.said.number < 2 → after.state.last ≡ after.placed
  pub refused : 1 < after.said.number → (after.state.last ≡ s.last) × (after.placed ≡ nobody)

-- "a row picked in the previous slot" (02, Eight) is one that its record names.
abbrev pub RanIsNamed : Type 0
RanIsNamed =
    (s : State) (free : List Bool) (buffer : List ℕ) (place : ℕ) → (slot_of s free buffer place).said.number < 2 → (row : ℕ) →
    ran_before (slot_of s free buffer place).state.last row ≡ names (rows_at (slot_of s free buffer place).bytes place) row

abbrev pub SlotIsRemembered : Type 0
SlotIsRemembered = (s : State) (free : List Bool) (buffer : List ℕ) (place : ℕ) → Remembered s (slot_of s free buffer place)

-- "k becomes the size of the set; picks, shares and traces stay as they are": 01's sentences on a slot that is done, of a k that is the set's size.
pub record AsWith (s : State) (k : ℕ) (buffer : List ℕ) (place : ℕ) (after : SlotReply) : Type 0 where
  pub bytes : after.bytes ≡ with_record buffer place (record_of k (pd2_picks (rows_in s) (quanta_in s) (favoured_in s) (time_of s) k))
  pub table : after.state.table ≡ s.table
  pub time : time_of after.state ≡ time_of s + 1
  pub quanta : quanta_in after.state ≡ given (names (pd2_picks (rows_in s) (quanta_in s) (favoured_in s) (time_of s) k)) 0 (quanta_in s)
  pub said : after.said ≡ done_said (late_in after.state) (time_of after.state)
  pub stopped : after.state.stopped ≡ ltb 0 (length (late_in after.state))

abbrev pub DoneAsWithItsSize : Type 0
DoneAsWithItsSize =
    (s : State) (free : List Bool) (buffer : List ℕ) (place : ℕ) → (slot_of s free buffer place).said.number < 2 →
    AsWith s (size free) buffer place (slot_of s free buffer place)

-- Which cores they are, and on which cores rows ran, has no part in the rest, nor has the rest of what is remembered in format 1: two states that differ in
-- their memory alone and favour the same rows, neither of them broken, and two sets of one size, both of cores that are there, give everything but the cores
-- alike.
pub record AlikeButMemory (s s' : State) : Type 0 where
  pub table : s.table ≡ s'.table
  pub time : s.time ≡ s'.time
  pub stopped : s.stopped ≡ s'.stopped
  pub quanta : s.quanta ≡ s'.quanta

pub record AlikeButCores (a b : SlotReply) : Type 0 where
  pub said : a.said ≡ b.said
  pub bytes : a.bytes ≡ b.bytes
  pub state : AlikeButMemory a.state b.state

abbrev pub FavourAlike : State → State → Type 0
FavourAlike s s' = (row : ℕ) → favoured_in s row ≡ favoured_in s' row

-- In format 1 nobody is favoured, whatever is remembered (02, Eight: "Tables of format 2 .. end PD2's order differently"),
abbrev pub FormatOneForgets : Type 0
FormatOneForgets = (s : State) → s.table.format ≡ 1 → (row : ℕ) → favoured_in s row ≡ false

-- and two states of one format that remember the same rows favour the same.
abbrev pub RowsDecide : Type 0
RowsDecide =
    (s s' : State) → s.table.format ≡ s'.table.format → s.last.count ≡ s'.last.count →
    ((i : ℕ) → i < places_of s.last → row_in s.last i ≡ row_in s'.last i) → FavourAlike s s'

abbrev pub CoresHaveNoPart : Type 0
CoresHaveNoPart =
    (s s' : State) (free free' : List Bool) (buffer : List ℕ) (place : ℕ) → AlikeButMemory s s' → FavourAlike s s' → broken s ≡ false → broken s' ≡ false →
    size free ≡ size free' → names_past s.table.cores free ≡ false → names_past s.table.cores free' ≡ false →
    AlikeButCores (slot_of s free buffer place) (slot_of s' free' buffer place)
