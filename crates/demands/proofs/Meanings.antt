-- The definitions mean what 01 says, in numbers and bytes. Assumes nothing.
use Prim.Native.Nat.{ℕ, ◌+◌, ◌-◌, ◌*◌, ◌/◌, ◌%◌, ◌≤◌}
use mathlib.Core.Path.{◌≡◌, refl, ap, ◌∙◌}
use mathlib.Core.List.{List, [], ◌∷◌, ◌++◌, map, flat_map, append_assoc}
use mathlib.Core.Bool.{Bool, true, false}
use mathlib.Core.Logic.{◌↔◌}
use native.Mathlib.Omega.{arith}
use borrow.Author.Tests.{ltb-false, le-ltb, leb-true, le-leb, lt-leb}
use lib.Dec.{ltb, leb}
use lib.ListN.{length, get_or}
use lib.Seq.{sets}
use Rattle.facts.specs.Rounding.{ceil_div}
use Rattle.facts.specs.First.{Lowest}
use Rattle.facts.proofs.Listing.{lowest_is_first}
use Rattle.facts.proofs.Places.{read_there}
use Rattle.windows.specs.Windows.{start, deadline, bit, window_length, job_start}
use Rattle.table.specs.declared.Row.{Row}
use Rattle.table.specs.declared.Table.{Table}
use Rattle.table.specs.Limits.{core_limit, row_limit}
use Rattle.table.specs.Causes.{zero_row, load}
use Rattle.table.specs.Value.{rows_of}
use Rattle.table.specs.Bytes.{row_in_bytes}
use Rattle.fields.specs.Fields.{byte, bytes_of}
use Rattle.pd2.specs.Ready.{ready, late}
use Rattle.trace.specs.Record.{record_of, marked, with_front}
use Rattle.trace.specs.Records.{place_of, slots_in, place_in, rows_of_slot}
use Rattle.trace.proofs.Names.{marked_are_named}
use Rattle.trace.proofs.Found.{next_begins}
use Rattle.trace.specs.Said.{Said}
use Rattle.dispatcher.specs.declared.State.{State}
use Rattle.checker.specs.Causes.{slot_limit}
use Rattle.checker.specs.WellFormed.{WellFormed}
use Rattle.checker.proofs.Sound.{rising_exactly}
use Rattle.cores.proofs.Means.{ran_on_means, ran_before_means, moves_are}
use Rattle.slots_run.specs.Slots.{slots_from}
use Rattle.desk_run.specs.Run.{entered, run_from}
use Rattle.printer.specs.Text.{text_of}
use Rattle.printer.specs.Buffer.{printed_of, out_after}
use Rattle.demands.proofs.Limits.{in_limits}
use Rattle.demands.specs.Meanings.{WindowMeans, TableMeans, ValueMeans, RowMeans, OrderMeans, Shaped, TraceMeans, NamedMeans, WriteMeans, PrintMeans, SlotsMean, RunMeans, PlaceMeans, Meanings}

window_means : (e p f i : ℕ) → WindowMeans e p f i
unfolding start deadline ceil_div bit window_length job_start
window_means e p f i = record { start_is = refl; deadline_is = refl; bit_is = refl; length_is = refl; job_start_is = refl }

table_means : (s : List ℕ) → TableMeans s
table_means s =
    record {
      format = refl;
      cycle = omega arith;
      cores = refl;
      boards = λ j l. read_there (byte s) 0 core_limit 6 1 0 l ∙ ap (byte s) {x = 6 + 1 * j} {y = 6 + j} (omega arith);
      row_count = refl;
      rows = λ i l.
          read_there (row_in_bytes s) zero_row row_limit (6 + byte s 5 + 1) 9 zero_row l
          ∙ ap (row_in_bytes s) {x = 6 + byte s 5 + 1 + 9 * i} {y = 7 + byte s 5 + 9 * i} (omega arith)
          ∙ fields (7 + byte s 5 + 9 * i);
    }
  where
    -- the second byte of a number stands behind the first
    fields : (at : ℕ) →
        row_in_bytes s at
        ≡ record {
          tank = byte s at + 256 * byte s (at + 1);
          cost = byte s (at + 2) + 256 * byte s (at + 3);
          period = byte s (at + 4) + 256 * byte s (at + 5);
          phase = byte s (at + 6) + 256 * byte s (at + 7);
          kind = byte s (at + 8);
        }
    fields at =
        let on : (n : ℕ) → byte s (at + n + 1) ≡ byte s (at + (n + 1)) = λ n. ap (byte s) {x = at + n + 1} {y = at + (n + 1)} (omega arith) in
        rw (on 2, on 4, on 6) refl

value_means : (t : Table) → ValueMeans t
unfolding load
value_means t = record { rows = refl; boards = refl; no_load = λ cycle. refl; load_is = λ cycle row rows. refl }

-- A test that one number is at or below another, and that it is.
at_most : (a b : ℕ) → (leb a b ≡ true) ↔ (a ≤ b)
at_most a b = (leb-true a b, le-leb a b)

row_means : (row : Row) (q t : ℕ) → RowMeans row q t
unfolding ready late start deadline ceil_div job_start
row_means row q t =
    let e = row.cost in
    let p = row.period in
    let f = row.phase in
    let plain : f + (q + 1 - 1) * p / e ≡ f + q * p / e = ap (λ x. f + x * p / e) {x = q + 1 - 1} {y = q} (omega arith) in
    let released : f + (q + 1 - 1) / e * p ≡ f + q / e * p = ap (λ x. f + x / e * p) {x = q + 1 - 1} {y = q} (omega arith) in
    record {
      ready_plain = λ kind. rw (kind, plain) (at_most (f + q * p / e) t);
      ready_early_release = λ kind. rw (kind, released) (at_most (f + q / e * p) t);
      late_is = at_most (f + ((q + 1) * p + (e - 1)) / e) t;
    }

order_means : (rows : List Row) (quanta : List ℕ) (j i : ℕ) → OrderMeans rows quanta j i
order_means rows quanta j i = record { ready_is = λ t. refl; rank_is = λ row q. refl; favour_is = λ x favoured. refl; goes_before = λ favours. refl }

-- A test that one number is below another fails where it is not.
below_fails : (a b : ℕ) → (ltb a b ≡ false) ↔ (b ≤ a)
below_fails a b = (ltb-false a b, le-ltb a b)

shaped : (s : List ℕ) (table : Table) → WellFormed table s ↔ Shaped table s
shaped s table = (
  λ well.
      record {
        slot_count = (below_fails (length s) 4).0 well.slot_count;
        limit = (below_fails slot_limit (slots_in s)).0 well.limit;
        heads = λ t l. (below_fails (length s) (place_in s t + 2)).0 (well.records t l).head;
        free = λ t l. (below_fails table.cores (get_or s (place_in s t) 0)).0 (well.records t l).cores;
        picked = λ t l. (below_fails (get_or s (place_in s t) 0) (get_or s (place_in s t + 1) 0)).0 (well.records t l).picked;
        whole = λ t l. (below_fails (length s) (place_in s t + 2 + get_or s (place_in s t + 1) 0)).0 (well.records t l).rows;
        rows_below = λ t j l k. ((rising_exactly (length (rows_of table)) (rows_of_slot s t)).0 (well.records t l).numbers).0 j k;
        rows_rise = λ t i j l k m. ((rising_exactly (length (rows_of table)) (rows_of_slot s t)).0 (well.records t l).numbers).1 i j k m;
        end = (below_fails (place_in s (slots_in s)) (length s)).0 well.end;
      },
  λ shape.
      record {
        slot_count = (below_fails (length s) 4).1 shape.slot_count;
        limit = (below_fails slot_limit (slots_in s)).1 shape.limit;
        records = λ t l.
            record {
              head = (below_fails (length s) (place_in s t + 2)).1 (shape.heads t l);
              cores = (below_fails table.cores (get_or s (place_in s t) 0)).1 (shape.free t l);
              picked = (below_fails (get_or s (place_in s t) 0) (get_or s (place_in s t + 1) 0)).1 (shape.picked t l);
              rows = (below_fails (length s) (place_in s t + 2 + get_or s (place_in s t + 1) 0)).1 (shape.whole t l);
              numbers = (rising_exactly (length (rows_of table)) (rows_of_slot s t)).1 (λ j k. shape.rows_below t j l k, λ i j k m. shape.rows_rise t i j l k m);
            };
        end = (below_fails (place_in s (slots_in s)) (length s)).1 shape.end;
      },
)

trace_means : (s : List ℕ) → TraceMeans s
unfolding place_of
trace_means s = record { slots = omega arith; first = refl; next = next_begins s; rows = λ t. refl; well_formed = shaped s }

write_means : (part : List ℕ) (free : ℕ) (marks : List Bool) → WriteMeans part free marks
unfolding with_front
write_means part free marks =
    record {
      names_marked = marked_are_named marks;
      record_is = refl;
      written = λ fits. rw (le-leb (length (record_of free (marked marks))) (length part) fits) (refl, refl);
      no_room = λ short. rw (lt-leb (length (record_of free (marked marks))) (length part) short) (refl, refl);
    }

print_means : (input out : List ℕ) → PrintMeans input out
unfolding printed_of out_after
print_means input out =
    record {
      printed = λ fits. rw (le-leb (length (text_of input)) (length out) fits) (refl, refl);
      too_short = λ short. rw (lt-leb (length (text_of input)) (length out) short) (refl, refl);
    }

named_means : (table : Table) (s : List ℕ) (t i : ℕ) → NamedMeans table s t i
named_means table s t i =
    record {
      early_is = refl;
      late_is = refl;
      lowest_is = λ is l passes none.
          let low : Lowest is (length (rows_of table)) i = record { within = omega arith; passes = λ _. passes; none_before = none } in
          ap (λ rows. get_or rows 0 0) (lowest_is_first is (length (rows_of table)) i low l).1;
    }

slots_mean : (s : State) (k : ℕ) (bytes : List ℕ) → SlotsMean s k bytes
unfolding slots_from
slots_mean s k bytes = record { none = refl; one_more = λ m. refl }

-- Numbers in one byte each are their rests.
one_byte_each : (l : List ℕ) → flat_map (bytes_of 1) l ≡ map (λ n. n % 256) l
unfolding flat_map bytes_of
one_byte_each [] = refl
one_byte_each (n ∷ l) = ap (λ rest. n % 256 ∷ rest) (one_byte_each l)

run_means : (s : State) (list bytes : List ℕ) → RunMeans s list bytes
unfolding run_from entered bytes_of
run_means s list bytes =
    record {
      all = λ table. refl;
      none = refl;
      one_more = λ m. refl;
      entry = λ given at.
          let cores = given.placed.cores in
          let number = bytes_of 1 given.said.number in
          let row = bytes_of 1 given.said.row in
          ap (sets given.bytes (at + 10)) (append_assoc (flat_map (bytes_of 1) cores) number row ∙ ap (λ l. l ++ (number ++ row)) (one_byte_each cores));
    }

place_means : (said : Said) (bytes : List ℕ) → PlaceMeans said bytes
unfolding bytes_of
place_means said bytes = refl

pub meanings : Meanings
meanings =
    record {
      window = window_means;
      table = table_means;
      value = value_means;
      row = row_means;
      share = λ row q t cost weight. in_limits row (record { cost = cost; weight = weight }) q t;
      order = order_means;
      trace = trace_means;
      named = named_means;
      write = write_means;
      print = print_means;
      fresh = λ t. refl;
      memory = λ last. record { ran_on_is = ran_on_means last; ran_before_is = ran_before_means last; moves = moves_are last };
      slots = slots_mean;
      run = run_means;
      place = place_means;
    }
