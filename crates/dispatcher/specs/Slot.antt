-- One slot (01, "What comes back"; 02, One, for its cores, and Eight, for who is favoured).
use Rattle.std.specs.Prelude.{ℕ, ◌+◌, ◌-◌, List, [], ◌∷◌, Bool, ◌&&◌, ◌||◌, ltb, eqb, length}
use Rattle.facts.specs.Zero.{if0}
use Rattle.facts.specs.Counting.{those}
use Rattle.facts.specs.Findings.{Test, ◌says◌, first_found}
use Rattle.counts.specs.Limits.{time_limit}
use Rattle.counts.specs.Numbers.{counted}
use Rattle.table.specs.declared.Row.{Row}
use Rattle.pd2.specs.Ready.{late}
use Rattle.pd2.specs.Choice.{pd2_picks, given}
use Rattle.trace.specs.Record.{marked, record_of, with_record}
use Rattle.trace.specs.Records.{names}
use Rattle.trace.specs.Said.{Said, bare}
use Rattle.cores.specs.declared.Placement.{Placement}
use Rattle.cores.specs.Sets.{size, names_past}
use Rattle.cores.specs.Placement.{ran_before, nobody}
use Rattle.cores.specs.Cores.{placed_for}
use Rattle.dispatcher.specs.declared.State.{State}
use Rattle.dispatcher.specs.State.{rows_in, is_row, quanta_in, time_of}
use Rattle.dispatcher.specs.Broken.{of_row, broken}
use Rattle.dispatcher.specs.Answer.{done_said}

-- "Tables of format 2 ..: among full ties, a row picked in the previous slot goes first": such a row is favoured. In format 1 none is.
abbrev pub favoured_in : State → ℕ → Bool
favoured_in s row = eqb s.table.format 2 && ran_before s.last row

-- the rows that PD2 picks in a state's slot, with k cores free
abbrev pub picks_in : State → ℕ → List ℕ
picks_in s k = pd2_picks (rows_in s) (quanta_in s) (favoured_in s) (time_of s) k

-- the record of the slot
abbrev pub record_in : State → ℕ → List ℕ
record_in s k = record_of k (picks_in s k)

-- A row is late at a time,
abbrev pub late_at : ℕ → Row → ℕ → Bool
late_at time row q = late row q time

-- and these rows of a state are late at its time, rising.
abbrev pub late_in : State → List ℕ
late_in s = those (λ i. is_row s i && of_row s (late_at (time_of s)) i) (length (rows_in s))

-- "want a core for each picked row": the picked rows and their cores, for a set of free cores; "k becomes the size of the set"
abbrev pub placed_in : State → List Bool → Placement
placed_in s free = placed_for s.last (marked free) (picks_in s (size free))

-- "time is one higher, each picked row has one quantum more"; "The state remembers which row ran on which core in the last slot"
abbrev pub stepped : State → List ℕ → Placement → State
stepped s rows placed =
    record {
      table = s.table;
      time = record { 0 = time_of s + 1 };
      stopped = s.stopped;
      quanta = counted (given (names rows) 0 (quanta_in s));
      last = placed;
    }

-- the state after the slot, before lateness is judged
abbrev pub after_slot : State → List Bool → State
after_slot s free = stepped s (picks_in s (size free)) (placed_in s free)

-- "with 1 the state is also stopped": with some late row
abbrev pub stopped_by : List ℕ → State → State
stopped_by late s = record { table = s.table; time = s.time; stopped = ltb 0 (length late); quanta = s.quanta; last = s.last }

-- "the place is past the buffer's end, or fewer than 2 + c bytes remain after it"
abbrev pub lacks_room : List ℕ → ℕ → ℕ → Bool
lacks_room buffer place c = ltb (length buffer) place || ltb (length buffer - place) (2 + c)

-- "Order for a slot: 30, 31, 32, 33, 34", and "35 for a set naming a core not below M .. in the place of 33" (02, One). 32, "time is already 1,000,000,000", has the limit of Seven: "30, 32 and 50
-- use the new limit" (02).
abbrev pub slot_tests : State → List Bool → List ℕ → ℕ → List Test
slot_tests s free buffer place =
    (broken s says 30)
    ∷ (s.stopped says 31)
    ∷ (eqb (time_of s) time_limit says 32)
    ∷ (names_past s.table.cores free says 35)
    ∷ (lacks_room buffer place (length (picks_in s (size free))) says 34)
    ∷ []

unfoldable pub refusal : State → List Bool → List ℕ → ℕ → ℕ
refusal s free buffer place = first_found 0 (slot_tests s free buffer place)

-- What a slot gives back: the answer, the cores of the picked rows, the state and the buffer.
pub record SlotReply : Type 0 where
  pub said : Said
  pub placed : Placement
  pub state : State
  pub bytes : List ℕ

-- "With 0 and 1 the record stands at the given place in the lent buffer, every other byte is as before": the rows that are late after the step decide which.
abbrev pub done_reply : State → List Bool → List ℕ → ℕ → SlotReply
done_reply s free buffer place =
    let late = late_in (after_slot s free) in
    record {
      said = done_said late (time_of s + 1);
      placed = placed_in s free;
      state = stopped_by late (after_slot s free);
      bytes = with_record buffer place (record_in s (size free));
    }

-- "With 30 to 34 the state returns equal and the buffer is untouched", and with 35, which stands in the place of 33. "In any refused answer each part that no rule names
-- is 0 or empty": its placement has nobody.
abbrev pub slot_by : ℕ → State → List Bool → List ℕ → ℕ → SlotReply
slot_by number s free buffer place =
    let done = done_reply s free buffer place in
    if0 number done (record { said = bare number; placed = nobody; state = s; bytes = buffer })

unfoldable pub slot_of : State → List Bool → List ℕ → ℕ → SlotReply
slot_of s free buffer place = slot_by (refusal s free buffer place) s free buffer place
