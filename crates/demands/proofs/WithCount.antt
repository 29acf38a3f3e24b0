-- Records with their count in front are a well-formed trace: they are those of the buffer, only moved. It passes if they keep all shares. Assumes nothing.
use Prim.Native.Nat.{ℕ, ◌+◌, ◌-◌, ◌≤◌, ◌<◌}
use mathlib.Core.Path.{◌≡◌, sym, ap, ◌∙◌}
use mathlib.Core.List.{List, [], ◌++◌}
use mathlib.Core.Bool.{true}
use native.Mathlib.Omega.{arith}
use borrow.Author.Tests.{le-ltb}
use lib.ListN.{length, get_or, take, drop, length-append, length-drop}
use lib.Seq.{length-take-le, get_or-take, get_or-drop, get_or-append-add}
use Rattle.fields.specs.Fields.{bytes_of}
use Rattle.fields.proofs.Numbers.{written_is_read, fields_are_numbers}
use Rattle.table.specs.declared.Table.{Table}
use Rattle.table.specs.Value.{fault_of, rows_of}
use Rattle.pd2.specs.Share.{within}
use Rattle.pd2.specs.Choice.{row_at}
use Rattle.trace.specs.Records.{free_at, picked_at, past_record, place_of, first_place, slots_in, place_in, times_named, times_named_from}
use Rattle.trace.specs.Said.{Said, bare}
use Rattle.trace.proofs.Records.{places_rise, stand_from, ends_before}
use Rattle.trace.proofs.Agree.{Agree, place_agrees, count_agrees}
use Rattle.dispatcher.proofs.Written.{sound_there, Written}
use Rattle.checker.specs.Causes.{slot_limit, bad_rows}
use Rattle.checker.specs.Check.{trace_said}
use Rattle.checker.specs.WellFormed.{SoundRecord, WellFormed}
use Rattle.checker.proofs.Sound.{listed_not_bad}
use Rattle.checker.proofs.Passes.{passes_in_shares, checked_as_table}
use Rattle.demands.specs.RunPasses.{WordBytesAreRead, with_slot_count, SaysTheSame, IsTraceOf}

-- A number in four bytes is read as that number.
pub word_bytes_are_read : WordBytesAreRead
word_bytes_are_read n rest h = fields_are_numbers.four (bytes_of 4 n ++ rest) 0 ∙ written_is_read 4 n h [] rest

-- The count n is written in front of the n sound records of a buffer.
module _ (table : Table) (n : ℕ) (b : List ℕ) (next : ℕ) (so : Written table first_place n b next) (few : n ≤ slot_limit) where
  abbrev trace : List ℕ
  trace = with_slot_count n b next

  -- the records begin behind the count
  behind_count : first_place ≤ next
  behind_count = omega (arith, stand_from b first_place n, so.place)

  -- The count is read,
  pub slots_are : slots_in trace ≡ n
  slots_are = word_bytes_are_read n (drop first_place (take next b)) (omega arith)

  -- the trace is as long as the buffer up to the next place,
  how_long : length trace ≡ next
  unfolding bytes_of
  how_long =
      length-append (bytes_of 4 n) (drop first_place (take next b))
      ∙ omega (arith, length-drop first_place (take next b), length-take-le next b so.inside, behind_count)

  -- and from place 4 on agrees with it,
  trace_agrees : Agree first_place next trace b
  unfolding bytes_of
  trace_agrees = record { same = same; reaches = omega (arith, how_long); reaches_too = so.inside }
    where
      same : (i : ℕ) → first_place ≤ i → i < next → get_or trace i 0 ≡ get_or b i 0
      same i l h =
          let e : i ≡ first_place + (i - first_place) = omega arith in
          ap (λ j. get_or trace j 0) e
          ∙ (get_or-append-add (bytes_of 4 n) (drop first_place (take next b)) (i - first_place) 0
          ∙ (get_or-drop first_place (take next b) (i - first_place) 0
          ∙ (ap (λ j. get_or (take next b) j 0) (sym e) ∙ get_or-take next b i 0 h)))

  -- so its places are the buffer's,
  place_is : (t : ℕ) → t ≤ n → place_in trace t ≡ place_of b first_place t
  place_is t l = place_agrees first_place next trace b trace_agrees t (omega (arith, places_rise b first_place t n l, so.place))

  -- and so are its counts.
  pub count_is : (row t : ℕ) → t ≤ n → times_named trace row t ≡ times_named_from b first_place row t
  count_is row t l = count_agrees first_place next trace b trace_agrees row t (omega (arith, places_rise b first_place t n l, so.place))

  -- each record is sound,
  sound_record : (t : ℕ) → t < n → SoundRecord table trace (place_in trace t)
  sound_record t l =
      let place = place_of b first_place t in
      let past : past_record b place ≤ next = omega (arith, ends_before b first_place t n l, so.place) in
      let from = stand_from b first_place t in
      let at = sound_there table first_place next trace b trace_agrees place from past (so.each t l) in
      let end : past_record trace place ≤ length trace = omega (arith, how_long, trace_agrees.same (place + 1) (omega arith) (omega arith)) in
      rw (place_is t (omega arith))
      record {
        head = le-ltb (length trace) (place + 2) (omega arith);
        cores = le-ltb table.cores (free_at trace place) at.free;
        picked = le-ltb (free_at trace place) (picked_at trace place) at.picked;
        rows = le-ltb (length trace) (past_record trace place) end;
        numbers = ap (bad_rows (length (rows_of table)) 0) at.rows ∙ listed_not_bad at.listed (length (rows_of table));
      }

  -- So the trace is well formed,
  pub is_well_formed : WellFormed table trace
  is_well_formed =
      record {
        slot_count = le-ltb (length trace) 4 (omega (arith, how_long, behind_count));
        limit = le-ltb slot_limit (slots_in trace) (omega (arith, slots_are));
        records = λ t l. sound_record t (omega (arith, slots_are));
        end = le-ltb (place_in trace (slots_in trace)) (length trace) (omega (arith, ap (place_in trace) slots_are, place_is n (omega arith), how_long, so.place));
      }

  -- and is one of whoever says what the check says.
  pub is_trace_of : {said : Said} → SaysTheSame said (trace_said table trace) → IsTraceOf table n said trace
  is_trace_of says =
      record { slots = slots_are; well_formed = is_well_formed; checked = says; checked_by_bytes = λ bytes e same. rw (checked_as_table table trace bytes e same) says }

  -- If every row is within its share at each time, by the records, it passes.
  pub records_pass : fault_of table ≡ 0 →
      ((t row : ℕ) → t ≤ n → row < length (rows_of table) → within (row_at (rows_of table) row) (times_named_from b first_place row t) t ≡ true) → trace_said table trace ≡ bare 0
  records_pass sound shares =
      (passes_in_shares table trace sound is_well_formed).1 (λ t row k l. rw (count_is row t (omega (arith, slots_are))) (shares t row (omega (arith, slots_are)) l))
