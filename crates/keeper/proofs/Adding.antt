-- What is known where nothing refuses an added slot, and the longer trace then. Assumes nothing.
-- What is written agrees with the old trace from place 4 up to its end, so every older place and count is as it was; the count is read from its own four bytes.
use Prim.Native.Nat.{ℕ, zero, suc, ◌+◌, ◌-◌, ◌*◌, ◌/◌, ◌≤◌, ◌<◌}
use mathlib.Core.Path.{◌≡◌, refl, sym, ap, ◌∙◌}
use mathlib.Core.List.{List, [], ◌++◌}
use mathlib.Core.Bool.{Bool, true, false, true≢false}
use mathlib.Core.Logic.{◌⊎◌}
use native.Mathlib.Decide.{dec_lt}
use native.Mathlib.Numerals.{add-one}
use native.Mathlib.Omega.{arith}
use borrow.Author.Tests.{ltb-false, le-leb}
use lib.ListN.{length, take, drop}
use lib.Seq.{length-sets, length-take-le, take-append-add}
use Rattle.facts.specs.Findings.{NoneFound}
use Rattle.facts.proofs.Findings.{AllSay, in_range, none_exactly, none_apart, none_says_otherwise, otherwise_or_such}
use Rattle.facts.proofs.Some.{each_fails}
use Rattle.facts.proofs.Tests.{neither_holds}
use Rattle.fields.specs.Fields.{bytes_of, shorter}
use Rattle.fields.proofs.Numbers.{bytes_long, written_is_read, fields_are_numbers}
use Rattle.trace.specs.Record.{record_of, with_record}
use Rattle.trace.specs.Records.{past_record, place_of, first_place, slots_in, place_in}
use Rattle.trace.specs.Shape.{slot_limit, extra}
use Rattle.trace.proofs.Records.{places_rise, ends_at_next}
use Rattle.trace.proofs.Agree.{Agree, place_agrees, still_as_long, agrees_before, count_written}
use Rattle.trace.proofs.Agreeing.{agree_on, agree_back, front_agrees, front_stored, behind_stored}
use Rattle.summary.specs.Summary.{spacing, entry_size}
use Rattle.cores.specs.Sets.{size}
use Rattle.dispatcher.specs.declared.State.{State}
use Rattle.dispatcher.specs.Slot.{picks_in, slot_tests, refusal}
use Rattle.dispatcher.proofs.Kept.{Goes, goes}
use Rattle.keeper.specs.Adding.{at_limit, is_due, own_tests, add_tests, add_refusal, with_slot, used_after, trace_after}

-- What is known where nothing refuses an added slot.
pub record Adds (s : State) (free : List Bool) (buffer : List ℕ) (used : ℕ) (summary : List ℕ) : Type 0 where
  pub goes : Goes s free buffer used
  pub counted : 4 ≤ length (take used buffer)
  pub inside : (j : ℕ) → j < slots_in (take used buffer) → past_record (take used buffer) (place_in (take used buffer) j) ≤ length (take used buffer)
  pub below : slots_in (take used buffer) < slot_limit
  pub ends : length (take used buffer) ≤ place_in (take used buffer) (slots_in (take used buffer))
  pub room : is_due (slots_in (take used buffer) + 1) ≡ true → entry_size * ((slots_in (take used buffer) + 1) / spacing + 1) ≤ length summary

-- a number of a refusal of an added slot
abbrev pub IsAddRefusal : ℕ → Type 0
IsAddRefusal number = (30 ≤ number) × (number ≤ 65)

module _ (s : State) (free : List Bool) (buffer : List ℕ) (used : ℕ) (summary : List ℕ) where
  abbrev trace : List ℕ
  trace = take used buffer

  -- Each test has such a number,
  pub all_add_refuse : AllSay IsAddRefusal (add_tests s free buffer used summary)
  all_add_refuse = in_range 30 65 (add_tests s free buffer used summary) refl

  -- so a refusal has one,
  pub add_refusal_numbers : (add_refusal s free buffer used summary ≡ 0) ⊎ IsAddRefusal (add_refusal s free buffer used summary)
  add_refusal_numbers = otherwise_or_such 0 all_add_refuse

  -- and where there is none no test has found anything.
  pub none_refuses : add_refusal s free buffer used summary ≡ 0 → NoneFound (add_tests s free buffer used summary)
  none_refuses = (none_exactly 0 all_add_refuse (λ number. omega (arith, number.0))).0

  -- a test that fails
  not_limit : at_limit (slots_in trace) ≡ false → slots_in trace < slot_limit
  not_limit e = on (dec_lt (slots_in trace) slot_limit)
    where
      on : Dec (slots_in trace < slot_limit) → slots_in trace < slot_limit
      on (yes l) = l
      on (no l) = absurd (true≢false (sym (le-leb slot_limit (slots_in trace) (omega arith)) ∙ e))

  pub adds : add_refusal s free buffer used summary ≡ 0 → Adds s free buffer used summary
  unfolding refusal
  adds h =
      let none = none_apart (slot_tests s free buffer used) (none_refuses h) in
      own (goes s free buffer used (none_says_otherwise 0 none.0)) none.1
    where
      own : Goes s free buffer used → NoneFound (own_tests s trace summary) → Adds s free buffer used summary
      own g (NoneFound.later cut (NoneFound.later limit (NoneFound.later end (NoneFound.later room NoneFound.end)))) =
          let whole = neither_holds (shorter trace 4) _ cut in
          record {
            goes = g;
            counted = ltb-false (length trace) 4 whole.0;
            inside = λ j l. ltb-false (length trace) _ (each_fails _ (slots_in trace) whole.1 j l);
            below = not_limit limit;
            ends = ltb-false (place_in trace (slots_in trace)) (length trace) (neither_holds (extra trace) _ end).0;
            room = λ due. ltb-false (length summary) (entry_size * ((slots_in trace + 1) / spacing + 1)) (rw due at room);
          }

-- Records that all lie inside end inside.
pub end_inside : (b : List ℕ) → 4 ≤ length b → (n : ℕ) → ((j : ℕ) → j < n → past_record b (place_in b j) ≤ length b) → place_in b n ≤ length b
unfolding place_of
end_inside b l zero h = l
end_inside b l (suc n) h = h n (omega arith)

module _ (s : State) (free : List Bool) (buffer : List ℕ) (used : ℕ) (summary : List ℕ) (A : Adds s free buffer used summary) where
  abbrev was : List ℕ
  was = take used buffer

  abbrev slots : ℕ
  slots = slots_in (take used buffer)

  abbrev rows : List ℕ
  rows = picks_in s (size free)

  abbrev pub written : List ℕ
  written = with_record buffer used (record_of (size free) (picks_in s (size free)))

  abbrev used' : ℕ
  used' = used_after s free used

  abbrev new : List ℕ
  new = trace_after s free buffer used

  -- The record has room, behind a trace that ends at the place,
  pub fits : used + length (record_of (size free) (picks_in s (size free))) ≤ length buffer
  fits = A.goes.room

  pub was_long : length (take used buffer) ≡ used
  was_long = length-take-le used buffer (omega (arith, fits))

  pub four : 4 ≤ used
  four = omega (arith, A.counted, was_long)

  pub place_was : place_in (take used buffer) (slots_in (take used buffer)) ≡ used
  place_was = omega (arith, A.ends, was_long, end_inside was A.counted slots A.inside)

  pub written_long : length written ≡ length buffer
  written_long = still_as_long buffer used (size free) rows fits

  count_long : length (bytes_of 4 (slots + 1)) ≡ 4
  count_long = bytes_long 4 (slots + 1)

  after_long : length (with_slot s free buffer used (slots + 1)) ≡ length buffer
  after_long = length-sets written 0 (bytes_of 4 (slots + 1)) ∙ written_long

  -- so the longer trace is as long as it should be.
  pub new_long : length (trace_after s free buffer used) ≡ used_after s free used
  new_long = length-take-le used' (with_slot s free buffer used (slots + 1)) (omega (arith, after_long, fits))

  -- It agrees from place 4 on with what the slot has written,
  pub new_agrees : Agree first_place (used_after s free used) (trace_after s free buffer used) written
  new_agrees =
      let front = behind_stored written (bytes_of 4 (slots + 1)) (omega (arith, count_long, written_long, fits, four)) in
      let here = front_agrees first_place used' (with_slot s free buffer used (slots + 1)) (omega (arith, after_long, fits)) in
      record {
        same = λ i h l. here.same i h l ∙ front.same i (omega (arith, count_long)) (omega (arith, written_long, fits));
        reaches = here.reaches;
        reaches_too = omega (arith, written_long, fits);
      }

  -- and up to the old end with the old trace.
  pub old_agrees : Agree first_place used (trace_after s free buffer used) (take used buffer)
  old_agrees =
      agree_on (agree_on new_agrees (agrees_before buffer used (size free) rows fits first_place) (omega arith))
      (agree_back (front_agrees first_place used buffer (omega (arith, fits)))) (omega arith)

  -- So every place of the old trace stays,
  pub places_in : (t : ℕ) → t ≤ slots_in (take used buffer) → place_in (take used buffer) t ≤ used
  places_in t l = omega (arith, places_rise was first_place t slots l, place_was)

  pub place_stays : (t : ℕ) → t ≤ slots_in (take used buffer) → place_in (trace_after s free buffer used) t ≡ place_in (take used buffer) t
  place_stays t l = place_agrees first_place used new was old_agrees t (places_in t l)

  -- the count is one more,
  pub count_raised : slots_in (trace_after s free buffer used) ≡ slots_in (take used buffer) + 1
  count_raised =
      let count = slots + 1 in
      let rest = drop (length (bytes_of 4 count)) written in
      let far : used' ≡ length (bytes_of 4 count) + (used' - 4) = omega (arith, count_long, four) in
      let split : new ≡ bytes_of 4 count ++ take (used' - 4) rest =
      ap (take used') (front_stored written (bytes_of 4 count) (omega (arith, count_long, written_long, fits, four)))
      ∙ (ap (λ n. take n (bytes_of 4 count ++ rest)) far ∙ take-append-add (bytes_of 4 count) rest (used' - 4)) in
      ap slots_in split ∙ (fields_are_numbers.four _ 0 ∙ written_is_read 4 count (omega (arith, A.below)) [] (take (used' - 4) rest))

  -- the record stands where the old trace ended,
  pub past_written : past_record written used ≡ used_after s free used
  past_written = omega (arith, count_written buffer used (size free) rows fits)

  -- and the longer trace ends behind it.
  pub place_last : place_in (trace_after s free buffer used) (slots_in (take used buffer) + 1) ≡ used_after s free used
  place_last =
      let there : place_in new slots ≡ used = place_stays slots (omega arith) ∙ place_was in
      ap (place_in new) (add-one slots)
      ∙ (sym (ends_at_next new first_place slots)
      ∙ (ap (past_record new) there ∙ omega (arith, new_agrees.same (used + 1) (omega (arith, four)) (omega arith), past_written)))
