-- How a slot that is not refused ends: its record stands in the buffer, and names the rows that are picked. Assumes nothing.
use Prim.Native.Nat.{ℕ, ◌+◌, ◌-◌, ◌≤◌, ◌<◌, min}
use mathlib.Core.Path.{◌≡◌, sym, ap, ap₂, ◌∙◌}
use mathlib.Core.List.{List, ◌++◌}
use mathlib.Core.Bool.{Bool, ◌&&◌}
use Rattle.std.specs.Prelude.{Option}
use native.Mathlib.Omega.{arith}
use borrow.Author.Tests.{lt-ltb}
use lib.ListN.{length, take, drop}
use lib.Seq.{length-take-le, get_or-take}
use lib.Dec.{ltb}
use Rattle.facts.specs.Counting.{how_many, those}
use Rattle.facts.proofs.Counting.{same_count}
use Rattle.facts.proofs.Listing.{same_list}
use Rattle.counts.proofs.Numbers.{as_many_numbers}
use Rattle.table.proofs.Taken.{sizes_are_within}
use Rattle.pd2.specs.Picks.{picked}
use Rattle.pd2.specs.Order.{before}
use Rattle.pd2.specs.Choice.{ready_in, goes_before_by}
use Rattle.trace.specs.Record.{record_of, with_front, with_record}
use Rattle.trace.specs.Records.{names, picked_at}
use Rattle.trace.proofs.Agree.{count_written, still_as_long}
use Rattle.trace.proofs.Names.{listed_are_named}
use Rattle.cores.specs.Sets.{size}
use Rattle.cores.proofs.Sets.{size_within}
use Rattle.choice.specs.Keys.{key_in, FirstLeft}
use Rattle.dispatcher.specs.declared.State.{State}
use Rattle.dispatcher.specs.State.{rows_in, quanta_in, time_of}
use Rattle.dispatcher.specs.Slot.{favoured_in, picks_in, record_in, refusal}
use Rattle.dispatcher.specs.Usable.{UsableState}
use Rattle.dispatcher.specs.Looking.{ReadyKeys, rows_before, later_keys, LateRow}
use Rattle.dispatcher.specs.Tests.{Admitted, KeysReady, CanStep}
use Rattle.dispatcher.proofs.Whole.{is_whole}
use Rattle.dispatcher.proofs.Picking.{picks_are_counted, before_are_picks, late_row}
use Rattle.dispatcher.proofs.Kept.{Goes, goes_back, record_names_picks}

-- The keys that were found, lent on alone.
module _ (keys : List ℕ) {found : ℕ} (few : found ≤ length keys) where
  as_long : length (take found keys) ≡ found
  as_long = length-take-le found keys few

  same_keys : (j : ℕ) → j < found → key_in (take found keys) j ≡ key_in keys j
  same_keys j l = get_or-take found keys j 0 l

  pub keys_lent : (s : State) → KeysReady s keys found → KeysReady s (take found keys) (length (take found keys))
  keys_lent s ready = rw as_long (record { few = ready.few; count = ready.count; each = λ j l. same_keys j l ∙ ready.each j l; low = ready.low; has = ready.has })

  pub left_lent : {k first : ℕ} → FirstLeft (key_in keys) found k first → FirstLeft (key_in (take found keys)) (length (take found keys)) k first
  left_lent {k} {first} left =
      rw as_long (record { range = left.range; few = rw (below first) left.few; largest = λ l. rw (below (first + 1)) (left.largest l) })
    where
      below : (v : ℕ) → how_many (λ j. ltb (key_in (take found keys) j) v) found ≡ how_many (λ j. ltb (key_in keys j) v) found
      below v = same_count _ _ found (λ j l. ap (λ key. ltb key v) (same_keys j l))

module _ (s : State) (free : List Bool) (buffer : List ℕ) (place : ℕ) (so : Admitted s free (length buffer) place) where
  -- No test refuses it,
  pub goes_on : Goes s free buffer place
  goes_on =
      record {
        whole = so.whole;
        runs = so.runs;
        time = so.slot_left;
        there = so.there;
        room = omega (arith, so.inside, so.room);
      }

  pub not_refused : refusal s free buffer place ≡ 0
  not_refused = goes_back s free buffer place goes_on

  -- no more than 8 cores are free,
  few_cores : size free ≤ 8
  few_cores = omega (arith, size_within s.table.cores free so.there, (sizes_are_within s.table (is_whole s so.whole).table).1.1)

  -- and so many rows stand behind the head of its record.
  module _ {bytes : List ℕ} (stands : bytes ≡ with_record buffer place (record_in s (size free))) {picked : ℕ} (many : picked ≡ length (picks_in s (size free))) where
    pub rows_inside : place + 2 + picked ≤ length bytes
    rows_inside = omega (arith, many, goes_on.room, ap length stands, still_as_long buffer place (size free) (picks_in s (size free)) goes_on.room)

    pub rows_stand : take (place + 2 + picked - (place + 2)) (drop (place + 2) bytes) ≡ picks_in s (size free)
    rows_stand =
        let few : place + 2 + picked - (place + 2) ≡ picked_at bytes place = omega (arith, many, count) in
        ap (λ n. take n (drop (place + 2) bytes)) few ∙ record_names_picks s free buffer place goes_on stands
      where
        count : picked_at bytes place ≡ length (picks_in s (size free))
        count = ap (λ b. picked_at b place) stands ∙ count_written buffer place (size free) (picks_in s (size free)) goes_on.room

  module _ {keys : List ℕ} {found : ℕ} (ready : ReadyKeys (rows_in s) (quanta_in s) (favoured_in s) (time_of s) keys found) {k : ℕ} (all : k ≡ size free) where
    -- The first key that is left out, as it is asked for,
    pub left_out : {first : ℕ} → FirstLeft (key_in keys) (min found 32) (min k 8) first → FirstLeft (key_in keys) found (size free) first
    left_out left =
        let few : min found 32 ≡ found = omega (arith, ready.few) in
        let cores : min k 8 ≡ size free = omega (arith, all, few_cores) in
        rw (few, cores) at left

    -- the rows that are picked, counted,
    pub as_many_picked : {picked : ℕ} → picked ≡ min k found → picked ≡ length (picks_in s (size free))
    as_many_picked is = is ∙ (ap (λ x. min x found) all ∙ sym (picks_are_counted s (size free) ready))

    module _ {first : ℕ} (left : FirstLeft (key_in keys) found (size free) first) where
      -- and their record.
      pub record_stands : {part : List ℕ} → part ≡ with_front (drop place buffer) (record_of k (rows_before keys found first)) →
          take place buffer ++ part ≡ with_record buffer place (record_in s (size free))
      unfolding with_record
      record_stands is =
          ap (λ part. take place buffer ++ part) (is ∙ ap₂ (λ k rows. with_front (drop place buffer) (record_of k rows)) all (before_are_picks s (size free) ready left))

      -- So the slot can be ended.
      module _ (usable : UsableState s) where
        abbrev is_picked : ℕ → Bool
        is_picked = picked (ready_in (rows_in s) (quanta_in s) (time_of s)) (goes_before_by before (rows_in s) (quanta_in s) (favoured_in s)) (length (rows_in s)) (size free)

        rise : picks_in s (size free) ≡ those (names (picks_in s (size free))) (length (rows_in s))
        rise =
            same_list is_picked (names (picks_in s (size free))) (length (rows_in s))
            (λ i l. sym (listed_are_named is_picked (length (rows_in s)) i ∙ ap (λ b. b && is_picked i) (lt-ltb i (length (rows_in s)) l)))

        pub can_step : {rows : List ℕ} → rows ≡ picks_in s (size free) → (late : Option ℕ) → LateRow keys found first (later_keys (time_of s)) late → CanStep s rows late
        can_step is lowest late =
            rw is
            (record {
              usable = usable;
              slot_left = so.slot_left;
              listed = rise;
              late =
                  late_row s (size free) ready left (is_whole s so.whole) so.runs
                  (omega (arith, as_many_numbers s.quanta, usable.place.few, usable.place.all, usable.place.long))
                  lowest late;
            })
