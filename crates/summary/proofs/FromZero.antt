-- With a right summary a question is answered by what counting from slot 0 gives. Assumes nothing.
use Prim.Native.Nat.{ℕ, ◌+◌, ◌*◌, ◌≤◌, ◌<◌, min}
use mathlib.Core.Path.{◌≡◌, sym, ap, ◌∙◌}
use mathlib.Core.List.{List}
use mathlib.Core.Bool.{false}
use native.Mathlib.Nat.{div-add-mod}
use native.Mathlib.Omega.{arith}
use borrow.Author.Tests.{lt-ltb, le-ltb}
use lib.ListN.{length}
use Rattle.facts.specs.Findings.{first_found}
use Rattle.facts.proofs.Findings.{said_exactly}
use Rattle.facts.proofs.Some.{none_if}
use Rattle.fields.specs.Fields.{shorter}
use Rattle.table.specs.declared.Table.{Table}
use Rattle.table.specs.Limits.{row_limit}
use Rattle.table.specs.Value.{rows_of}
use Rattle.trace.specs.Records.{past_record, place_of, first_place, slots_in, place_in, times_named}
use Rattle.trace.proofs.Onward.{place_from, count_from}
use Rattle.summary.specs.Summary.{spacing, entry_size, entries_in, place_said, quanta_said}
use Rattle.summary.specs.Question.{last_entry, since_entry, entry_missing, exceed_time, some_outside, question_tests, counted_on, reply_to}
use Rattle.summary.specs.Right.{IsRight}
use Rattle.summary.specs.FromZero.{RightCountsFromZero, QuestionRefusalsAreFirstCauses}
use Rattle.summary.proofs.Right.{named_at_most, rows_are_few}

-- A summary that is right, and a time that the trace covers.
module _ (table : Table) (trace summary : List ℕ) (right : IsRight table trace summary) (row t : ℕ) (below : row < length (rows_of table)) (covers : t ≤ slots_in trace) where
  -- the time is so many slots behind the last entry's
  apart : spacing * last_entry t + since_entry t ≡ t
  apart = div-add-mod t spacing

  there : last_entry t < entries_in (slots_in trace)
  there = omega arith

  row_is_there : row < row_limit
  row_is_there = omega (arith, below, rows_are_few table trace right.over)

  -- what the entry says
  place_is_said : place_said summary (last_entry t) ≡ place_in trace (spacing * last_entry t)
  place_is_said = right.is_summary.place (last_entry t) there

  quanta_are_said : quanta_said summary (last_entry t) row ≡ times_named trace row (spacing * last_entry t)
  quanta_are_said = right.is_summary.quanta (last_entry t) row there row_is_there

  -- none of 39's causes is there:
  entry_there : entry_missing summary (last_entry t) ≡ false
  entry_there = le-ltb (length summary) (entry_size * (last_entry t + 1)) (omega (arith, right.is_summary.size, there))

  within_time : exceed_time summary (last_entry t) row ≡ false
  within_time = le-ltb (spacing * last_entry t) (quanta_said summary (last_entry t) row) (omega (arith, quanta_are_said, named_at_most trace row (spacing * last_entry t)))

  all_inside : some_outside trace (place_said summary (last_entry t)) (since_entry t) ≡ false
  all_inside = rw place_is_said (none_if _ (since_entry t) each)
    where
      each : (j : ℕ) → j < since_entry t → shorter trace (past_record trace (place_of trace (place_in trace (spacing * last_entry t)) j)) ≡ false
      each j l =
          rw (← place_from trace first_place (spacing * last_entry t) j)
          (right.over.well_formed.records (spacing * last_entry t + j) (omega (arith, apart, l, covers))).rows

  -- and counting on gives what counting from slot 0 gives.
  counts_on : counted_on trace summary row t ≡ times_named trace row t
  counts_on =
      rw (quanta_are_said, place_is_said)
      (sym (count_from trace first_place row (spacing * last_entry t) (since_entry t)) ∙ ap (times_named trace row) apart)

-- a row below n, for a table that is taken, is one below 32 too
row_of : (n row : ℕ) → n ≤ row_limit → row < n → row < min n row_limit
row_of n row few l = omega arith

pub right_counts_from_zero : RightCountsFromZero
unfolding reply_to first_found
right_counts_from_zero table trace summary row t right =
    let n = length (rows_of table) in
    let few = rows_are_few table trace right.over in
    let well = right.over.well_formed in
    record {
      no_row = λ h. let past : min n row_limit ≤ row = omega arith in rw (le-ltb row (min n row_limit) past);
      past_count = λ below h. rw (lt-ltb row (min n row_limit) (row_of n row few below), well.slot_count, lt-ltb (slots_in trace) t h);
      counted = λ below covers.
          rw (
            lt-ltb row (min n row_limit) (row_of n row few below),
            well.slot_count,
            le-ltb (slots_in trace) t covers,
            entry_there table trace summary right row t below covers,
            within_time table trace summary right row t below covers,
            all_inside table trace summary right row t below covers,
            counts_on table trace summary right row t below covers,
          );
    }

-- Each refusal is given exactly when its cause is the first met.
pub question_refusals_are_first_causes : QuestionRefusalsAreFirstCauses
unfolding reply_to
question_refusals_are_first_causes n trace summary row t number h = said_exactly 0 (question_tests n trace summary row t) h
