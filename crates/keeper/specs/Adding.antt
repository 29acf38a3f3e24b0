-- Adding a slot to a trace and to its summary (02, Ten). The trace is the first `used` bytes of a buffer, and the slot's record goes behind it; an entry that
-- is due goes to its own place in the summary (docs/DECISIONS.md, 143 to 145).
use Rattle.std.specs.Prelude.{ℕ, ◌+◌, ◌*◌, ◌/◌, ◌%◌, List, [], ◌∷◌, Bool, cond, not, ◌&&◌, ◌||◌, leb, eqb, length, take}
use Rattle.std.proofs.lemmas.List.Edits.{sets}
use Rattle.facts.specs.Findings.{Test, ◌says◌, ◌then◌, first_found}
use Rattle.facts.specs.Zero.{if0}
use Rattle.fields.specs.Fields.{bytes_of}
use Rattle.trace.specs.Record.{with_record}
use Rattle.trace.specs.Records.{first_place, slots_in}
use Rattle.trace.specs.Said.{Said, bare}
use Rattle.trace.specs.Shape.{slot_limit, slot_count_cut, extra}
use Rattle.summary.specs.Summary.{spacing, entry_size, entry_of}
use Rattle.summary.specs.Question.{entry_missing, some_outside}
use Rattle.cores.specs.declared.Placement.{Placement}
use Rattle.cores.specs.Sets.{size}
use Rattle.cores.specs.Placement.{nobody}
use Rattle.dispatcher.specs.declared.State.{State}
use Rattle.dispatcher.specs.State.{time_of}
use Rattle.dispatcher.specs.Slot.{record_in, slot_tests, done_reply}

-- 40, "trace ends inside its count or a record" (01)
abbrev pub is_cut : List ℕ → Bool
is_cut trace = slot_count_cut trace || some_outside trace first_place (slots_in trace)

-- 47, "if the count is at its limit or above"
abbrev pub at_limit : ℕ → Bool
at_limit slots = leb slot_limit slots

-- 60, "if bytes follow the records or the state's time is not the count"
abbrev pub not_at_end : State → List ℕ → Bool
not_at_end s trace = extra trace || not (eqb (time_of s) (slots_in trace))

-- "for each multiple of 1,024 up to the slot count": an entry is due at such a time.
abbrev pub is_due : ℕ → Bool
is_due time = eqb (time % spacing) 0

-- 65, "if a due entry has no room"
abbrev pub no_entry_room : List ℕ → ℕ → Bool
no_entry_room summary time = is_due time && entry_missing summary (time / spacing)

-- "for an added slot those of a slot, 40, 47 .., 60 .., then 65 .."
abbrev pub own_tests : State → List ℕ → List ℕ → List Test
own_tests s trace summary =
    (is_cut trace says 40)
    ∷ (at_limit (slots_in trace) says 47)
    ∷ (not_at_end s trace says 60)
    ∷ (no_entry_room summary (slots_in trace + 1) says 65)
    ∷ []

abbrev pub add_tests : State → List Bool → List ℕ → ℕ → List ℕ → List Test
add_tests s free buffer used summary = slot_tests s free buffer used then own_tests s (take used buffer) summary

-- What comes back: the slot's answer, cores and state, the buffer with the trace and how much of it the trace has, and the summary.
pub record AddReply : Type 0 where
  pub said : Said
  pub placed : Placement
  pub state : State
  pub buffer : List ℕ
  pub used : ℕ
  pub summary : List ℕ

-- the record behind the trace, and the count in front
abbrev pub with_slot : State → List Bool → List ℕ → ℕ → ℕ → List ℕ
with_slot s free buffer used slots = sets (with_record buffer used (record_in s (size free))) 0 (bytes_of 4 slots)

abbrev pub used_after : State → List Bool → ℕ → ℕ
used_after s free used = used + length (record_in s (size free))

-- the longer trace: "raises the count"
abbrev pub trace_after : State → List Bool → List ℕ → ℕ → List ℕ
trace_after s free buffer used = take (used_after s free used) (with_slot s free buffer used (slots_in (take used buffer) + 1))

-- an entry at its own place, by its time, if one is due
abbrev pub with_due : List ℕ → ℕ → List ℕ → List ℕ
with_due summary time entry = cond (is_due time) (with_record summary (entry_size * (time / spacing)) entry) summary

-- A slot that is added: what comes back of it is the slot's; the entry that is due is that of the longer trace, counted from slot 0.
abbrev pub added_reply : State → List Bool → List ℕ → ℕ → List ℕ → AddReply
added_reply s free buffer used summary =
    let slots = slots_in (take used buffer) + 1 in
    record {
      said = (done_reply s free buffer used).said;
      placed = (done_reply s free buffer used).placed;
      state = (done_reply s free buffer used).state;
      buffer = with_slot s free buffer used slots;
      used = used_after s free used;
      summary = with_due summary slots (entry_of (trace_after s free buffer used) slots);
    }

-- One that is refused: the number, and everything as it came. "In any refused answer each part that no rule names is 0 or empty" (01).
abbrev pub refused_reply : ℕ → State → List ℕ → ℕ → List ℕ → AddReply
refused_reply number s buffer used summary = record { said = bare number; placed = nobody; state = s; buffer = buffer; used = used; summary = summary }

abbrev pub add_refusal : State → List Bool → List ℕ → ℕ → List ℕ → ℕ
add_refusal s free buffer used summary = first_found 0 (add_tests s free buffer used summary)

unfoldable pub add_of : State → List Bool → List ℕ → ℕ → List ℕ → AddReply
add_of s free buffer used summary =
    let number = add_refusal s free buffer used summary in
    let added = added_reply s free buffer used summary in
    if0 number added (refused_reply number s buffer used summary)
