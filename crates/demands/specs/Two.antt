-- Demand 2: "The rows picked for a slot are those that PD2 picks: as many as there are free cores, or all that are ready if fewer, best first by its
-- order. The trace checker passes a trace exactly when the trace is well formed and each quantum falls inside its allowed slots, none overdue."
use Rattle.std.specs.Prelude.{ℕ, ◌+◌, ◌≤◌, ◌<◌, ◌≡◌, List, Bool, true, false, cond, ◌↔◌, length, get_or}
use Rattle.table.specs.Bytes.{table_number, table_in}
use Rattle.pd2.specs.Order.{Rank, Before, before}
use Rattle.pd2.specs.Picks.{picked, AreBest}
use Rattle.pd2.specs.Choice.{quanta_at, ready_in, goes_before_by, pd2_picks}
use Rattle.choice.specs.Choice.{ChosenAsPd2}
use Rattle.trace.specs.Record.{with_record, record_of}
use Rattle.trace.specs.Records.{free_at, rows_at, names}
use Rattle.trace.specs.Said.{bare}
use Rattle.cores.specs.Sets.{size}
use Rattle.dispatcher.specs.declared.State.{State}
use Rattle.dispatcher.specs.State.{rows_in, quanta_in, time_of}
use Rattle.dispatcher.specs.Slot.{favoured_in, SlotReply, slot_of}
use Rattle.dispatcher.specs.Places.{AtMostOneQuantum}
use Rattle.checker.specs.Check.{check_of}
use Rattle.checker.specs.WellFormed.{WellFormed}
use Rattle.checker.specs.Passes.{InWindows}

-- A slot of state s with k cores free, k being "the size of the set" (02, One), that answers 0 or 1, at a place in a buffer: what it has given back.
pub record Picks (s : State) (k : ℕ) (buffer : List ℕ) (place : ℕ) (after : SlotReply) : Type 0 where
  -- "those that PD2 picks": the record that stands at the place names them, "every other byte is as before",
  pub bytes : after.bytes ≡ with_record buffer place (record_of k (pd2_picks (rows_in s) (quanta_in s) (favoured_in s) (time_of s) k))
  pub size : length after.bytes ≡ length buffer
  pub before_it : (j : ℕ) → j < place → get_or after.bytes j 0 ≡ get_or buffer j 0
  pub behind_it : (j : ℕ) → place + 2 + length (pd2_picks (rows_in s) (quanta_in s) (favoured_in s) (time_of s) k) ≤ j → get_or after.bytes j 0 ≡ get_or buffer j 0
  pub free : free_at after.bytes place ≡ k
  pub rows : rows_at after.bytes place ≡ pd2_picks (rows_in s) (quanta_in s) (favoured_in s) (time_of s) k
  -- they are ready, "as many as there are free cores, or all that are ready if fewer, best first by its order",
  pub picked_rows : (i : ℕ) → i < length (rows_in s) →
      names (rows_at after.bytes place) i ≡ picked (ready_in (rows_in s) (quanta_in s) (time_of s)) (goes_before_by before (rows_in s) (quanta_in s) (favoured_in s)) (length (rows_in s)) k i
  pub best : AreBest (ready_in (rows_in s) (quanta_in s) (time_of s)) (goes_before_by before (rows_in s) (quanta_in s) (favoured_in s)) (length (rows_in s)) k
  pub ready : (i : ℕ) → names (rows_at after.bytes place) i ≡ true → (i < length (rows_in s)) × (ready_in (rows_in s) (quanta_in s) (time_of s) i ≡ true)
  -- "each picked row has one quantum more", and no other (a state has 32 quanta, always), "time is one higher",
  pub quanta : length s.quanta ≡ 32 → (i : ℕ) →
      quanta_at (quanta_in after.state) i ≡ quanta_at (quanta_in s) i + cond (names (rows_at after.bytes place) i) 1 0
  pub time : time_of after.state ≡ time_of s + 1
  -- "with 1 the state is also stopped", and with 0 it is not.
  pub stops : after.said.number ≡ 1 → after.state.stopped ≡ true
  pub runs_on : after.said.number ≡ 0 → after.state.stopped ≡ false

abbrev pub PicksArePd2s : Type 0
PicksArePd2s =
    (s : State) (free : List Bool) (buffer : List ℕ) (place : ℕ) → (slot_of s free buffer place).said.number < 2 →
    Picks s (size free) buffer place (slot_of s free buffer place)

-- "The trace checker passes a trace exactly when the trace is well formed and each quantum falls inside its allowed slots, none overdue": for the bytes
-- of any table and trace.
abbrev pub PassesExactly : Type 0
PassesExactly =
    (table_bytes trace : List ℕ) →
    (check_of table_bytes trace ≡ bare 0)
    ↔ ((table_number table_bytes ≡ 0) × WellFormed (table_in table_bytes) trace × InWindows (table_in table_bytes) trace)

-- "its order": x goes before y by one of the five rules, 01's four and that of 02, Eight, and not otherwise. (That in format 1 they are 01's four: specs/KindTies.antt.)
abbrev pub OrderIsTheRules : Type 0
OrderIsTheRules = (x y : Rank) → (before x y ≡ true) ↔ Before x y

pub record DemandTwo : Type 0 where
  pub order : OrderIsTheRules
  pub picks : PicksArePd2s
  -- `choice::picks`, asked alone, picks as PD2 does wherever every row's question is answered. It picks at most 8: a larger k counts as 8.
  pub alone : ChosenAsPd2
  -- "A row gets at most one quantum a slot", whatever the state.
  pub at_most_one : AtMostOneQuantum
  pub passes : PassesExactly
