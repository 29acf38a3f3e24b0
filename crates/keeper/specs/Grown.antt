-- "Adding a slot at the end of such a trace and to its summary, from a state over its table, raises the count, gives what building afresh gives, and
-- touches no older entry." (02, Ten)
use Rattle.std.specs.Prelude.{ℕ, ◌+◌, ◌<◌, ◌≡◌, List, Bool, ◌↔◌, length, take}
use Rattle.facts.specs.Findings.{FirstFound}
use Rattle.trace.specs.Records.{slots_in}
use Rattle.summary.specs.Summary.{entries_in, summary_of}
use Rattle.summary.specs.Right.{WellFormedOver}
use Rattle.summary.specs.Building.{build_of, built_in}
use Rattle.dispatcher.specs.declared.State.{State}
use Rattle.dispatcher.specs.Slot.{slot_of}
use Rattle.keeper.specs.Adding.{AddReply, add_tests, refused_reply, add_of}

-- The summary of a trace stands at the front of a buffer that may be longer.
abbrev pub Holds : List ℕ → List ℕ → Type 0
Holds summary trace = take (length (summary_of trace)) summary ≡ summary_of trace

-- the trace in what comes back
abbrev pub trace_in : AddReply → List ℕ
trace_in after = take after.used after.buffer

pub record Grown (s : State) (trace summary : List ℕ) (after : AddReply) : Type 0 where
  -- "raises the count,
  pub count : slots_in (trace_in after) ≡ slots_in trace + 1
  -- gives what building afresh gives,
  pub built : build_of s.table (trace_in after) summary ≡ record { number = 0; entries = entries_in (slots_in trace + 1) }
  pub afresh : after.summary ≡ built_in s.table (trace_in after) summary
  -- and touches no older entry"; so that the next slot is added to such a trace, and to its summary, again
  pub older : take (length (summary_of trace)) after.summary ≡ take (length (summary_of trace)) summary
  pub well_formed : WellFormedOver s.table (trace_in after)
  pub holds : Holds after.summary (trace_in after)

abbrev pub AddedIsAfresh : Type 0
AddedIsAfresh =
    (s : State) (free : List Bool) (buffer : List ℕ) (used : ℕ) (summary : List ℕ) → WellFormedOver s.table (take used buffer) → Holds summary (take used buffer) →
    (add_of s free buffer used summary).said.number < 2 → Grown s (take used buffer) summary (add_of s free buffer used summary)

-- The slot that is added is the dispatcher's: its answer, its cores and its state.
pub record AsTheSlot (s : State) (free : List Bool) (buffer : List ℕ) (used : ℕ) (after : AddReply) : Type 0 where
  pub said : after.said ≡ (slot_of s free buffer used).said
  pub placed : after.placed ≡ (slot_of s free buffer used).placed
  pub state : after.state ≡ (slot_of s free buffer used).state

abbrev pub AddedIsSlot : Type 0
AddedIsSlot =
    (s : State) (free : List Bool) (buffer : List ℕ) (used : ℕ) (summary : List ℕ) → (add_of s free buffer used summary).said.number < 2 →
    AsTheSlot s free buffer used (add_of s free buffer used summary)

-- Each refusal is given exactly when its cause is the first met, and changes nothing.
abbrev pub AddRefusalsAreFirstCauses : Type 0
AddRefusalsAreFirstCauses =
    (s : State) (free : List Bool) (buffer : List ℕ) (used : ℕ) (summary : List ℕ) (number : ℕ) → 1 < number →
    ((add_of s free buffer used summary).said.number ≡ number) ↔ FirstFound (add_tests s free buffer used summary) number

abbrev pub AddRefusalChangesNothing : Type 0
AddRefusalChangesNothing =
    (s : State) (free : List Bool) (buffer : List ℕ) (used : ℕ) (summary : List ℕ) → 1 < (add_of s free buffer used summary).said.number →
    add_of s free buffer used summary ≡ refused_reply (add_of s free buffer used summary).said.number s buffer used summary
