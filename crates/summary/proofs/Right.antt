-- The summary that a well-formed trace yields, and that there is no other. Assumes nothing.
use Prim.Native.Nat.{ℕ, zero, suc, ◌+◌, ◌*◌, ◌≤◌, ◌<◌}
use mathlib.Core.Path.{◌≡◌, refl, sym, ap, ap₂, ◌∙◌}
use mathlib.Core.List.{List, ◌++◌, map, flat_map}
use mathlib.Core.Bool.{true}
use native.Mathlib.Omega.{arith}
use borrow.Author.Tests.{ltb-false}
use lib.ListN.{length, get_or, take, drop, length-take, length-map, get_or-map}
use lib.Seq.{take-add, take_all, ext_get_or}
use Rattle.facts.specs.Below.{all_below}
use Rattle.facts.specs.Places.{places}
use Rattle.facts.proofs.Counting.{no_more_than_all}
use Rattle.facts.proofs.Filling.{get_d_any}
use Rattle.facts.proofs.Joining.{parts_joined, joined_are_written}
use Rattle.facts.proofs.Places.{how_many_places, place_at}
use Rattle.fields.specs.Fields.{bytes_of, number_at}
use Rattle.fields.proofs.Numbers.{read_is_written}
use Rattle.table.specs.declared.Table.{Table}
use Rattle.table.specs.Limits.{row_limit}
use Rattle.table.specs.Value.{rows_of}
use Rattle.table.proofs.Taken.{sizes_are_within}
use Rattle.trace.specs.Records.{free_at, picked_at, first_place, slots_in, place_of, place_in, times_named, named_in}
use Rattle.trace.specs.Shape.{slot_limit}
use Rattle.summary.specs.Summary.{spacing, entry_size, counts_at, entry_bytes, entry_of, entries_of, entries_in, IsSummary}
use Rattle.summary.specs.Right.{WellFormedOver, YieldedIsSummary, NoOtherIsSummary}
use Rattle.summary.proofs.Summary.{counts_long, count_at, entries_long, place_is_said, quanta_are_said}

-- for callers

-- A row is named no more often than there are records.
pub named_at_most : (trace : List ℕ) (row t : ℕ) → times_named trace row t ≤ t
named_at_most trace row t = no_more_than_all (named_in trace first_place row) t

module _ (table : Table) (trace : List ℕ) (over : WellFormedOver table trace) where
  -- The table has at most 32 rows, and the trace at most 1,000,000,000 slots,
  pub rows_are_few : length (rows_of table) ≤ row_limit
  rows_are_few = omega (arith, length-take table.n table.rows, (sizes_are_within table over.taken).2)

  pub slots_are_few : slots_in trace ≤ slot_limit
  slots_are_few = ltb-false slot_limit (slots_in trace) over.well_formed.limit

  -- and its records are short: no place lies past ten bytes a record.
  pub places_are_near : (t : ℕ) → t ≤ slots_in trace → place_in trace t ≤ 4 + 10 * t
  unfolding place_of
  places_are_near zero l = omega arith
  places_are_near (suc t) l =
      let before = places_are_near t (omega arith) in
      let here = over.well_formed.records t (omega arith) in
      let place = place_in trace t in
      let cores = ltb-false table.cores (free_at trace place) here.cores in
      let rows = ltb-false (free_at trace place) (picked_at trace place) here.picked in
      omega (arith, before, cores, rows, (sizes_are_within table over.taken).1.1)

-- the entries of a trace lie at times that it covers
covered : (slots x : ℕ) → x < entries_in slots → spacing * x ≤ slots
covered slots x l = omega arith

pub yielded_is_summary : YieldedIsSummary
yielded_is_summary table trace over =
    record {
      size = entries_long trace (entries_in (slots_in trace));
      place = λ x l.
          let there = covered (slots_in trace) x l in
          place_is_said trace _ x l (omega (arith, places_are_near table trace over (spacing * x) there, there, slots_are_few table trace over));
      quanta = λ x row l r.
          let there = covered (slots_in trace) x l in
          quanta_are_said trace _ x row l r (λ i. omega (arith, named_at_most trace i (spacing * x), there, slots_are_few table trace over));
    }

-- Bytes that are the summary of a trace are its entries, one behind the other: what is read there is written as it was.
module _ (trace s : List ℕ) (bytes : all_below 256 s ≡ true) (is : IsSummary trace s) where
  -- the counts that entry x says
  abbrev said : ℕ → List ℕ
  said x = map (number_at 4 s) (places (entry_size * x + 8) 4 row_limit)

  said_are_counts : (x : ℕ) → x < entries_in (slots_in trace) → said x ≡ counts_at trace (spacing * x)
  said_are_counts x l = ext_get_or 0 (said x) (counts_at trace (spacing * x)) (long ∙ sym (counts_long trace (spacing * x))) each
    where
      long : length (said x) ≡ row_limit
      long = length-map (places (entry_size * x + 8) 4 row_limit) (number_at 4 s) ∙ how_many_places (entry_size * x + 8) 4 row_limit

      each : (row : ℕ) → row < length (said x) → get_or (said x) row 0 ≡ get_or (counts_at trace (spacing * x)) row 0
      each row h =
          let r : row < row_limit = omega (arith, long) in
          get_d_any (said x) row 0 (number_at 4 s 0) h
          ∙ (get_or-map (number_at 4 s) (places (entry_size * x + 8) 4 row_limit) row 0
          ∙ (ap (number_at 4 s) (place_at (entry_size * x + 8) 4 row_limit row 0 r) ∙ (is.quanta x row l r ∙ sym (count_at trace (spacing * x) row r))))

  entry_there : (x : ℕ) → x < entries_in (slots_in trace) → entry_of trace (spacing * x) ≡ take entry_size (drop (entry_size * x) s)
  unfolding entry_bytes
  entry_there x l =
      let at = entry_size * x in
      let room : at + entry_size ≤ length s = omega (arith, is.size) in
      let place = sym (ap (bytes_of 8) (is.place x l)) ∙ read_is_written s bytes 8 at (omega arith) in
      let counts =
      sym (ap (flat_map (bytes_of 4)) (said_are_counts x l))
      ∙ joined_are_written (bytes_of 4) 4 s (number_at 4 s) (read_is_written s bytes 4) (at + 8) row_limit (omega arith) in
      parts_joined s at 8 128 place counts refl

  front_is_entries : (m : ℕ) → m ≤ entries_in (slots_in trace) → take (entry_size * m) s ≡ entries_of trace m
  unfolding entries_of
  front_is_entries zero l = refl
  front_is_entries (suc m) l =
      ap (λ n. take n s) {x = entry_size * suc m} {y = entry_size * m + entry_size} (omega arith)
      ∙ (take-add (entry_size * m) entry_size s ∙ ap₂ (λ a b. a ++ b) (front_is_entries m (omega arith)) (sym (entry_there m (omega arith))))

pub no_other_is_summary : NoOtherIsSummary
no_other_is_summary table trace summary over bytes is =
    sym (take_all (entry_size * entries_in (slots_in trace)) summary (omega (arith, is.size))) ∙ front_is_entries trace summary bytes is (entries_in (slots_in trace)) (omega arith)
