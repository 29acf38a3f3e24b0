-- Adding a slot gives what building afresh gives. Assumes nothing.
-- Every older entry is as it was, since the longer trace agrees with the old one; and the one entry that may be due is that of the longer trace.
use Prim.Native.Nat.{ℕ, zero, suc, ◌+◌, ◌*◌, ◌/◌, ◌%◌, ◌≤◌, ◌<◌}
use mathlib.Core.Path.{◌≡◌, refl, sym, ap, ◌∙◌}
use mathlib.Core.List.{List, ◌++◌, append_assoc}
use mathlib.Core.Bool.{Bool, true, false}
use mathlib.Core.Logic.{◌↔◌, ◌⊎◌, inl, inr}
use native.Mathlib.Nat.{div-add-mod}
use native.Mathlib.Decide.{dec_lt}
use native.Mathlib.Numerals.{add-one}
use native.Mathlib.Omega.{arith}
use borrow.Author.Tests.{le-ltb, eqb-true, eqb-false}
use lib.ListN.{length, take, drop, length-take, take-append-drop}
use lib.Seq.{take_at, take-append_seam, length-take-le, drop-drop}
use Rattle.facts.specs.Findings.{first_found}
use Rattle.facts.proofs.Findings.{said_exactly}
use Rattle.facts.specs.Zero.{if0}
use Rattle.pd2.specs.Order.{before}
use Rattle.pd2.specs.Picks.{picked}
use Rattle.pd2.specs.Choice.{ready_in, goes_before_by}
use Rattle.trace.specs.Record.{with_front, with_record}
use Rattle.trace.specs.Records.{past_record, first_place, slots_in, place_in}
use Rattle.trace.specs.Shape.{slot_limit, bad_rows, SoundRecord}
use Rattle.trace.proofs.Records.{stand_from, ends_before}
use Rattle.trace.proofs.Agree.{free_written, count_written, rows_written}
use Rattle.trace.proofs.Agreeing.{sound_too}
use Rattle.trace.proofs.Rising.{listed_not_bad}
use Rattle.summary.specs.Summary.{spacing, entry_size, entry_of, entries_of, entries_in, summary_of}
use Rattle.summary.specs.Right.{WellFormedOver}
use Rattle.summary.specs.Building.{build_of, built_in}
use Rattle.summary.proofs.Summary.{entry_long, entries_long}
use Rattle.summary.proofs.Alike.{same_entries}
use Rattle.summary.proofs.Building.{ill_formed_exactly}
use Rattle.cores.specs.Sets.{size}
use Rattle.cores.proofs.Sets.{size_within}
use Rattle.dispatcher.specs.declared.State.{State}
use Rattle.dispatcher.specs.State.{rows_in, quanta_in, time_of}
use Rattle.dispatcher.specs.Slot.{favoured_in, picks_in, late_in, after_slot}
use Rattle.dispatcher.proofs.Kept.{done_number, goes_back, slot_done}
use Rattle.dispatcher.proofs.Placing.{picks_are_few}
use Rattle.keeper.specs.Adding.{is_due, add_tests, add_refusal, used_after, trace_after, with_due, added_reply, refused_reply, add_of}
use Rattle.keeper.specs.Grown.{Holds, AddedIsAfresh, AddedIsSlot, AddRefusalsAreFirstCauses, AddRefusalChangesNothing}
use Rattle.keeper.proofs.Adding.{Adds, adds, IsAddRefusal, add_refusal_numbers, written, fits, four, place_was, written_long, new_long, new_agrees, old_agrees, places_in, place_stays, count_raised, past_written, place_last}

module _ (s : State) (free : List Bool) (buffer : List ℕ) (used : ℕ) (summary : List ℕ) (A : Adds s free buffer used summary) where
  abbrev was : List ℕ
  was = take used buffer

  abbrev slots : ℕ
  slots = slots_in (take used buffer)

  abbrev new : List ℕ
  new = trace_after s free buffer used

  abbrev rows : List ℕ
  rows = picks_in s (size free)

  abbrev M : ℕ
  M = s.table.cores

  abbrev n : ℕ
  n = length (rows_in s)

  abbrev wrote : List ℕ
  wrote = written s free buffer used summary A

  -- The record that was added is sound,
  sound_written : SoundRecord M n wrote used
  sound_written =
      let room = fits s free buffer used summary A in
      let long = written_long s free buffer used summary A in
      let k = free_written buffer used (size free) rows room in
      let c = count_written buffer used (size free) rows room in
      record {
        head = le-ltb (length wrote) (used + 2) (omega (arith, long, room));
        cores = rw k (le-ltb M (size free) (size_within M free A.goes.there));
        picked = rw (k, c) (le-ltb (size free) (length rows) (picks_are_few s (size free)));
        rows = le-ltb (length wrote) (past_record wrote used) (omega (arith, long, room, c));
        numbers =
            ap (bad_rows n 0) (rows_written buffer used (size free) rows room)
            ∙ listed_not_bad (picked (ready_in (rows_in s) (quanta_in s) (time_of s)) (goes_before_by before (rows_in s) (quanta_in s) (favoured_in s)) n (size free)) n;
      }

  sound_last : SoundRecord M n new used
  sound_last =
      sound_too M n first_place (used_after s free used) new wrote (new_agrees s free buffer used summary A) used (four s free buffer used summary A)
      (omega (arith, past_written s free buffer used summary A)) sound_written

  -- so the longer trace is well formed if the old one was.
  module _ (over : WellFormedOver s.table was) where
    each : (t : ℕ) → Dec (t < slots) → t ≤ slots → SoundRecord M n new (place_in new t)
    each t (yes l) h =
        rw (place_stays s free buffer used summary A t h)
        (sound_too M n first_place used new was (old_agrees s free buffer used summary A) (place_in was t) (stand_from was first_place t)
        (omega (arith, ends_before was first_place t slots l, place_was s free buffer used summary A)) (over.well_formed.records t l))
    each t (no l) h =
        let e : t ≡ slots = omega arith in
        rw (e, place_stays s free buffer used summary A slots (omega arith), place_was s free buffer used summary A) sound_last

    pub still_well_formed : WellFormedOver s.table (trace_after s free buffer used)
    still_well_formed =
        let long = new_long s free buffer used summary A in
        let count = count_raised s free buffer used summary A in
        record {
          taken = over.taken;
          well_formed =
              record {
                slot_count = le-ltb (length new) 4 (omega (arith, long, four s free buffer used summary A));
                limit = le-ltb slot_limit (slots_in new) (omega (arith, count, A.below));
                records = λ t l. each t (dec_lt t slots) (omega (arith, count, l));
                end = le-ltb (place_in new (slots_in new)) (length new) (omega (arith, ap (place_in new) count, place_last s free buffer used summary A, long));
              };
        }

  -- The entries of the times before the new one are as they were,
  entries_stay : (m : ℕ) → m ≤ entries_in slots → entries_of new m ≡ entries_of was m
  entries_stay m l = same_entries used new was (old_agrees s free buffer used summary A) m (λ x h. places_in s free buffer used summary A (spacing * x) (omega arith))

  abbrev after : List ℕ
  after = with_due summary (slots + 1) (entry_of new (slots + 1))

  -- the longer trace's summary
  abbrev whole : List ℕ
  whole = entries_of new (entries_in (slots + 1))

  module _ (holds : Holds summary was) where
    -- What is known of the summary afterwards: it begins with that of the longer trace, what is behind stays, and so does every older entry.
    record Both : Type 0 where
      front : after ≡ with_front summary whole
      room : length whole ≤ length summary
      older : take (length (summary_of was)) after ≡ take (length (summary_of was)) summary

    long : length whole ≡ entry_size * entries_in (slots + 1)
    long = entries_long new (entries_in (slots + 1))

    -- with a due entry: it is the last of the longer trace's, and stands behind the others
    when_due : is_due (slots + 1) ≡ true → Both
    unfolding with_record with_front entries_of
    when_due d =
        let none_left : (slots + 1) % spacing ≡ 0 = eqb-true _ _ d in
        let e = (slots + 1) / spacing in
        let on_time : spacing * e ≡ slots + 1 = omega (arith, div-add-mod (slots + 1) spacing, none_left) in
        let was_many : entries_in slots ≡ e = omega (arith, on_time) in
        let old_long : length (summary_of was) ≡ entry_size * e = entries_long was (entries_in slots) ∙ ap (λ m. entry_size * m) was_many in
        let room = A.room d in
        let entry = entry_of new (slots + 1) in
        let rest = drop (length entry) (drop (entry_size * e) summary) in
        let first : take (entry_size * e) summary ≡ entries_of new e =
        ap (λ n. take n summary) (sym old_long) ∙ (holds ∙ (ap (entries_of was) was_many ∙ sym (entries_stay e (omega (arith, was_many))))) in
        let is : after ≡ take (entry_size * e) summary ++ (entry ++ rest) = rw d refl in
        let all : whole ≡ entries_of new e ++ entry = ap (entries_of new) (add-one e) ∙ ap (λ t. entries_of new e ++ entry_of new t) on_time in
        let behind : rest ≡ drop (length whole) summary =
        drop-drop (length entry) (entry_size * e) summary ∙ ap (λ n. drop n summary) {x = entry_size * e + length entry} {y = length whole} (omega (arith, long, entry_long new (slots + 1))) in
        record {
          front =
              is
              ∙ (ap (λ l. l ++ (entry ++ rest)) first
              ∙ (sym (append_assoc (entries_of new e) entry rest) ∙ (ap (λ l. l ++ rest) (sym all) ∙ ap (λ l. whole ++ l) behind)));
          room = omega (arith, long, room);
          older =
              ap (take (length (summary_of was))) is
              ∙ (take_at (take (entry_size * e) summary) (entry ++ rest) (length (summary_of was)) (length-take-le (entry_size * e) summary (omega (arith, room)) ∙ sym old_long)
              ∙ ap (λ n. take n summary) (sym old_long));
        }

    -- without one there are as many entries as before
    when_not : is_due (slots + 1) ≡ false → Both
    unfolding with_front
    when_not d =
        let some_left : (slots + 1) % spacing ≡ 0 → ⊥ = eqb-false _ _ d in
        let as_many : entries_in (slots + 1) ≡ entries_in slots = omega (arith, some_left) in
        let same : whole ≡ summary_of was = ap (entries_of new) as_many ∙ entries_stay (entries_in slots) (omega arith) in
        let is : after ≡ summary = rw d refl in
        let front : take (length whole) summary ≡ whole = ap (λ l. take (length l) summary) same ∙ (holds ∙ sym same) in
        record {
          front = is ∙ (sym (take-append-drop (length whole) summary) ∙ ap (λ l. l ++ drop (length whole) summary) front);
          room = omega (arith, ap length front, length-take (length whole) summary);
          older = ap (take (length (summary_of was))) is;
        }

    both : Both
    both = go (is_due (slots + 1)) refl
      where
        go : (b : Bool) → is_due (slots + 1) ≡ b → Both
        go true e = when_due e
        go false e = when_not e

-- A slot that nothing refuses is done,
module _ (s : State) (free : List Bool) (buffer : List ℕ) (used : ℕ) (summary : List ℕ) where
  pub is_added : add_refusal s free buffer used summary ≡ 0 → add_of s free buffer used summary ≡ added_reply s free buffer used summary
  unfolding add_of
  is_added e = ap (λ r. if0 r (added_reply s free buffer used summary) (refused_reply r s buffer used summary)) e

  pub is_refused : {r : ℕ} → add_refusal s free buffer used summary ≡ suc r → add_of s free buffer used summary ≡ refused_reply (suc r) s buffer used summary
  unfolding add_of
  is_refused e = ap (λ r. if0 r (added_reply s free buffer used summary) (refused_reply r s buffer used summary)) e

  pub added_number : add_refusal s free buffer used summary ≡ 0 → (add_of s free buffer used summary).said.number < 2
  added_number e = rw (is_added e) (done_number (late_in (after_slot s free)) (time_of s + 1))

  -- and one with a number below 2 was not refused.
  pub added_is_not_refused : (add_of s free buffer used summary).said.number < 2 → add_refusal s free buffer used summary ≡ 0
  unfolding add_of
  added_is_not_refused = go (add_refusal s free buffer used summary) (add_refusal_numbers s free buffer used summary)
    where
      go : (r : ℕ) → (r ≡ 0) ⊎ IsAddRefusal r → (if0 r (added_reply s free buffer used summary) (refused_reply r s buffer used summary)).said.number < 2 → r ≡ 0
      go zero n h = refl
      go (suc r) (inl n) h = n
      go (suc r) (inr n) h = absurd (omega (arith, n.0))

-- What building writes where the trace is well formed and there is room.
built_afresh : (s : State) (trace buffer : List ℕ) → WellFormedOver s.table trace → length (summary_of trace) ≤ length buffer →
    (build_of s.table trace buffer ≡ record { number = 0; entries = entries_in (slots_in trace) }) × (with_front buffer (summary_of trace) ≡ built_in s.table trace buffer)
unfolding build_of built_in first_found
built_afresh s trace buffer over room =
    let well = (ill_formed_exactly s.table trace).1 over in
    let fits = le-ltb (length buffer) (length (summary_of trace)) room in
    (rw (well, fits), rw (well, fits))

-- What is written at the front stands there.
front_holds : (b l : List ℕ) → take (length l) (with_front b l) ≡ l
unfolding with_front
front_holds b l = take-append_seam l (drop (length l) b)

pub added_is_afresh : AddedIsAfresh
added_is_afresh s free buffer used summary over holds h =
    let none = added_is_not_refused s free buffer used summary h in
    let A = adds s free buffer used summary none in
    let count = count_raised s free buffer used summary A in
    let well = still_well_formed s free buffer used summary A over in
    let parts = both s free buffer used summary A holds in
    let trace = trace_after s free buffer used in
    let same : summary_of trace ≡ entries_of trace (entries_in (slots_in (take used buffer) + 1)) = ap (λ n. entries_of trace (entries_in n)) count in
    let front : with_due summary (slots_in (take used buffer) + 1) (entry_of trace (slots_in (take used buffer) + 1)) ≡ with_front summary (summary_of trace) =
    parts.front ∙ ap (with_front summary) (sym same) in
    let room : length (summary_of trace) ≤ length summary = omega (arith, ap length same, parts.room) in
    let afresh = built_afresh s trace summary well room in
    rw (is_added s free buffer used summary none)
    record {
      count = count;
      built = afresh.0 ∙ ap (λ n. record { number = 0; entries = entries_in n }) count;
      afresh = front ∙ afresh.1;
      older = parts.older;
      well_formed = well;
      holds = ap (take (length (summary_of trace))) front ∙ front_holds summary (summary_of trace);
    }

pub added_is_slot : AddedIsSlot
added_is_slot s free buffer used summary h =
    let none = added_is_not_refused s free buffer used summary h in
    let A = adds s free buffer used summary none in
    let slot = slot_done s free buffer used (goes_back s free buffer used A.goes) in
    rw (is_added s free buffer used summary none)
    record { said = sym (ap (λ r. r.said) slot); placed = sym (ap (λ r. r.placed) slot); state = sym (ap (λ r. r.state) slot) }

pub add_refusals_are_first_causes : AddRefusalsAreFirstCauses
unfolding add_of
add_refusals_are_first_causes s free buffer used summary number h =
    let first = said_exactly 0 (add_tests s free buffer used summary) {x = number} (λ z. omega arith) in
    let same = go (add_refusal s free buffer used summary) in
    (λ e. first.0 (same.0 e), λ m. same.1 (first.1 m))
  where
    go : (r : ℕ) → ((if0 r (added_reply s free buffer used summary) (refused_reply r s buffer used summary)).said.number ≡ number) ↔ (r ≡ number)
    go zero = (λ e. absurd (omega (arith, done_number (late_in (after_slot s free)) (time_of s + 1), e, h)), λ e. absurd (omega (arith, e, h)))
    go (suc r) = (λ e. e, λ e. e)

pub add_refusal_changes_nothing : AddRefusalChangesNothing
unfolding add_of
add_refusal_changes_nothing s free buffer used summary h = go (add_refusal s free buffer used summary) h
  where
    go : (r : ℕ) → 1 < (if0 r (added_reply s free buffer used summary) (refused_reply r s buffer used summary)).said.number →
        let a = if0 r (added_reply s free buffer used summary) (refused_reply r s buffer used summary) in
        a ≡ refused_reply a.said.number s buffer used summary
    go zero l = absurd (omega (arith, done_number (late_in (after_slot s free)) (time_of s + 1), l))
    go (suc r) l = refl
