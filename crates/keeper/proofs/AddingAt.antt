-- Adding a slot at an end that was kept is adding it with a walk. Assumes nothing.
use Prim.Native.Nat.{ℕ, zero, suc, ◌+◌, ◌≤◌}
use mathlib.Core.Path.{◌≡◌, refl, sym, ap, ap₂, ◌∙◌}
use mathlib.Core.List.{List}
use mathlib.Core.Bool.{Bool, false}
use native.Mathlib.Omega.{arith}
use borrow.Author.Tests.{le-ltb, ltb-false}
use lib.Dec.{ltb}
use lib.ListN.{length, take}
use lib.Seq.{length-take-le}
use Rattle.facts.specs.Findings.{first_found, NoneFound}
use Rattle.facts.specs.Zero.{if0}
use Rattle.facts.proofs.Findings.{Alike, alike_in_turn, none_says_otherwise}
use Rattle.facts.proofs.Some.{none_if, each_fails}
use Rattle.facts.proofs.Tests.{neither_holds}
use Rattle.fields.specs.Fields.{shorter}
use Rattle.trace.specs.Raising.{raised}
use Rattle.trace.specs.Records.{rows_at, past_record, place_of, first_place, slots_in, place_in}
use Rattle.trace.proofs.Records.{ends_before}
use Rattle.trace.proofs.Agree.{rows_agree, rows_written}
use Rattle.summary.specs.Summary.{counts_at, entry_bytes, entry_of}
use Rattle.summary.specs.Question.{some_outside}
use Rattle.summary.proofs.Alike.{same_counts}
use Rattle.summary.proofs.Raised.{raised_is_next}
use Rattle.cores.specs.Sets.{size}
use Rattle.dispatcher.specs.declared.State.{State}
use Rattle.dispatcher.specs.Slot.{picks_in, slot_tests, refusal}
use Rattle.dispatcher.proofs.Kept.{goes}
use Rattle.keeper.specs.declared.End.{End}
use Rattle.keeper.specs.Adding.{is_cut, own_tests, add_refusal, used_after, trace_after, added_reply, refused_reply}
use Rattle.keeper.specs.End.{EndIs}
use Rattle.keeper.specs.AddingAt.{own_tests_at, end_after, add_at_refusal, added_reply_at, add_at_of, SameAsAdded, KeptEndAdds}
use Rattle.keeper.proofs.Adding.{Adds, adds, end_inside, written, fits, four, place_was, new_long, new_agrees, old_agrees, place_stays, count_raised, past_written, place_last}
use Rattle.keeper.proofs.Grown.{is_added, is_refused, added_number, added_is_not_refused}

-- A trace that is not cut ends inside.
module _ (trace : List ℕ) (whole : is_cut trace ≡ false) where
  pub ends_inside : place_in trace (slots_in trace) ≤ length trace
  ends_inside =
      let parts = neither_holds (shorter trace 4) (some_outside trace first_place (slots_in trace)) whole in
      end_inside trace (ltb-false (length trace) 4 parts.0) (slots_in trace)
      (λ j l. ltb-false (length trace) _ (each_fails (λ j. shorter trace (past_record trace (place_of trace first_place j))) (slots_in trace) parts.1 j l))

module _ (e : End) (s : State) (free : List Bool) (buffer : List ℕ) (used : ℕ) (summary : List ℕ) (so : EndIs (take used buffer) e) where
  abbrev trace : List ℕ
  trace = take used buffer

  -- The end's own tests say what those of the trace say, if the trace is as long as the place says.
  own_alike : length trace ≡ used → Alike (own_tests_at e s used summary) (own_tests s trace summary)
  unfolding first_found
  own_alike long =
      let inside : ltb used (place_in trace (slots_in trace)) ≡ false = le-ltb used (place_in trace (slots_in trace)) (omega (arith, ends_inside trace so.whole, long)) in
      record { same = λ otherwise. rw (so.same, inside, so.whole, long) }

  -- Where the slot's own tests find nothing, the place lies inside the buffer.
  inside_buffer : NoneFound (slot_tests s free buffer used) → length trace ≡ used
  unfolding refusal
  inside_buffer none = length-take-le used buffer (omega (arith, (goes s free buffer used (none_says_otherwise 0 none)).room))

  same_refusal : add_at_refusal e s free buffer used summary ≡ add_refusal s free buffer used summary
  same_refusal =
      (alike_in_turn {a = slot_tests s free buffer used} (record { same = λ otherwise. refl }) (λ none. own_alike (inside_buffer none))).same 0

  -- What is known after it.
  module _ (A : Adds s free buffer used summary) where
    abbrev new : List ℕ
    new = trace_after s free buffer used

    abbrev slots : ℕ
    slots = slots_in (take used buffer)

    -- The last record names the rows that were picked,
    rows_last : rows_at new (place_in new slots) ≡ picks_in s (size free)
    rows_last =
        let there : place_in new slots ≡ used = place_stays s free buffer used summary A slots (omega arith) ∙ place_was s free buffer used summary A in
        ap (rows_at new) there
        ∙ (rows_agree first_place (used_after s free used) new (written s free buffer used summary A) (new_agrees s free buffer used summary A) used (four s free buffer used summary A)
        (omega (arith, past_written s free buffer used summary A))
        ∙ rows_written buffer used (size free) (picks_in s (size free)) (fits s free buffer used summary A))

    -- so the counts are those of the longer trace,
    counts_last : raised (picks_in s (size free)) 0 e.quanta ≡ counts_at new (slots + 1)
    counts_last =
        ap (λ q. raised (picks_in s (size free)) 0 q.quanta) so.same
        ∙ (ap (raised (picks_in s (size free)) 0) (sym before)
        ∙ (ap (λ r. raised r 0 (counts_at new slots)) (sym rows_last) ∙ raised_is_next new slots (omega (arith, A.below))))
      where
        before : counts_at new slots ≡ counts_at trace slots
        before = same_counts used new trace (old_agrees s free buffer used summary A) slots (omega (arith, place_was s free buffer used summary A))

    -- the due entry is too,
    same_entry : entry_bytes (used_after s free used) (raised (picks_in s (size free)) 0 e.quanta) ≡ entry_of new (slots + 1)
    same_entry = ap₂ entry_bytes (sym (place_last s free buffer used summary A)) counts_last

    same_done : (added_reply_at e s free buffer used summary).added ≡ added_reply s free buffer used summary
    same_done = rw (same_entry, ap (λ x. x.slots) so.same)

    -- and the end is its end.
    new_end : EndIs new (end_after e s free used)
    new_end =
        let count = count_raised s free buffer used summary A in
        record {
          whole = cut_nowhere;
          same =
              rw (ap (λ x. x.slots) so.same, counts_last, count)
              (ap (λ place. record { slots = slots + 1; place = place; quanta = counts_at new (slots + 1) }) (sym (place_last s free buffer used summary A)));
        }
      where
        long : length new ≡ used_after s free used
        long = new_long s free buffer used summary A

        cut_nowhere : is_cut new ≡ false
        cut_nowhere =
            rw (
              le-ltb (length new) 4 (omega (arith, long, four s free buffer used summary A)),
              none_if (λ j. shorter new (past_record new (place_of new first_place j))) (slots_in new)
                  (λ j l. le-ltb (length new) _ (omega (arith, ends_before new first_place j (slots_in new) l, ap (place_in new) (count_raised s free buffer used summary A), place_last s free buffer used summary A, long))),
            )

pub kept_end_adds : KeptEndAdds
unfolding add_at_of
kept_end_adds e s free buffer used summary so = rw (same_refusal e s free buffer used summary so) (go (add_refusal s free buffer used summary) refl)
  where
    go : (r : ℕ) → add_refusal s free buffer used summary ≡ r →
        SameAsAdded e s free buffer used summary
        (if0 r (added_reply_at e s free buffer used summary) (record { added = refused_reply r s buffer used summary; end = e }))
    go zero z =
        let A = adds s free buffer used summary z in
        record {
          same = same_done e s free buffer used summary so A ∙ sym (is_added s free buffer used summary z);
          end_is = λ h. rw (is_added s free buffer used summary z) (new_end e s free buffer used summary so A);
          end_stays = λ h. absurd (omega (arith, h, added_number s free buffer used summary z));
        }
    go (suc r) z =
        record {
          same = sym (is_refused s free buffer used summary z);
          end_is = λ h. absurd (omega (arith, z, added_is_not_refused s free buffer used summary h));
          end_stays = λ h. refl;
        }
