-- Adding a slot at the end of a trace that is handed in: whatever end that is, the trace itself is not looked at, and of its bytes only the record and the count are
-- written. What this is with the end of another trace follows from the definition; with the end of this trace it is adding with a walk.
use Rattle.std.specs.Prelude.{ℕ, ◌+◌, ◌<◌, ◌≡◌, List, [], ◌∷◌, Bool, not, ◌||◌, ltb, eqb, take}
use Rattle.facts.specs.Findings.{Test, ◌says◌, ◌then◌, first_found}
use Rattle.facts.specs.Zero.{if0}
use Rattle.trace.specs.Raising.{raised}
use Rattle.summary.specs.Summary.{entry_bytes}
use Rattle.cores.specs.Sets.{size}
use Rattle.dispatcher.specs.declared.State.{State}
use Rattle.dispatcher.specs.State.{time_of}
use Rattle.dispatcher.specs.Slot.{picks_in, slot_tests, done_reply}
use Rattle.keeper.specs.declared.End.{End}
use Rattle.keeper.specs.Adding.{at_limit, no_entry_room, AddReply, with_slot, used_after, with_due, refused_reply, add_of}
use Rattle.keeper.specs.Grown.{trace_in}
use Rattle.keeper.specs.End.{EndIs}

-- The tests of an added slot, by the end: 40 where the trace in the buffer is shorter than it, 60 where it is longer.
abbrev pub own_tests_at : End → State → ℕ → List ℕ → List Test
own_tests_at e s used summary =
    (ltb used e.place says 40)
    ∷ (at_limit e.slots says 47)
    ∷ ((ltb e.place used || not (eqb (time_of s) e.slots)) says 60)
    ∷ (no_entry_room summary (e.slots + 1) says 65)
    ∷ []

abbrev pub add_tests_at : End → State → List Bool → List ℕ → ℕ → List ℕ → List Test
add_tests_at e s free buffer used summary = slot_tests s free buffer used then own_tests_at e s used summary

-- the end behind the slot's record
abbrev pub end_after : End → State → List Bool → ℕ → End
end_after e s free used = record { slots = e.slots + 1; place = used_after s free used; quanta = raised (picks_in s (size free)) 0 e.quanta }

-- What comes back, and the end that is handed on.
pub record AddAtReply : Type 0 where
  pub added : AddReply
  pub end : End

abbrev pub added_reply_at : End → State → List Bool → List ℕ → ℕ → List ℕ → AddAtReply
added_reply_at e s free buffer used summary =
    let after = end_after e s free used in
    record {
      added =
          record {
            said = (done_reply s free buffer used).said;
            placed = (done_reply s free buffer used).placed;
            state = (done_reply s free buffer used).state;
            buffer = with_slot s free buffer used after.slots;
            used = after.place;
            summary = with_due summary after.slots (entry_bytes after.place after.quanta);
          };
      end = after;
    }

abbrev pub add_at_refusal : End → State → List Bool → List ℕ → ℕ → List ℕ → ℕ
add_at_refusal e s free buffer used summary = first_found 0 (add_tests_at e s free buffer used summary)

unfoldable pub add_at_of : End → State → List Bool → List ℕ → ℕ → List ℕ → AddAtReply
add_at_of e s free buffer used summary =
    let number = add_at_refusal e s free buffer used summary in
    let added = added_reply_at e s free buffer used summary in
    if0 number added (record { added = refused_reply number s buffer used summary; end = e })

-- Where the end is that of the first `used` bytes, it is `add` on all inputs, and hands back the end of the longer trace; refused, the end that came.
pub record SameAsAdded (e : End) (s : State) (free : List Bool) (buffer : List ℕ) (used : ℕ) (summary : List ℕ) (after : AddAtReply) : Type 0 where
  pub same : after.added ≡ add_of s free buffer used summary
  pub end_is : (add_of s free buffer used summary).said.number < 2 → EndIs (trace_in (add_of s free buffer used summary)) after.end
  pub end_stays : 1 < (add_of s free buffer used summary).said.number → after.end ≡ e

abbrev pub KeptEndAdds : Type 0
KeptEndAdds =
    (e : End) (s : State) (free : List Bool) (buffer : List ℕ) (used : ℕ) (summary : List ℕ) → EndIs (take used buffer) e →
    SameAsAdded e s free buffer used summary (add_at_of e s free buffer used summary)
