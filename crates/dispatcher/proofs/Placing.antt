-- The cores that a slot answers are the best, and no memory of them has a fault. Assumes nothing.
use Prim.Native.Nat.{ℕ, ◌≤◌, ◌<◌}
use mathlib.Core.Path.{◌≡◌, refl, sym, ap, ap₂, ◌∙◌}
use mathlib.Core.List.{List}
use mathlib.Core.Bool.{Bool, true, false}
use native.Mathlib.Omega.{arith}
use borrow.Author.Tests.{lt-ltb}
use lib.ListN.{length, get_or}
use lib.Seq.{take_all}
use Rattle.facts.proofs.Listing.{listed_rise, listed_pass}
use Rattle.table.specs.Limits.{core_limit}
use Rattle.table.proofs.Taken.{sizes_are_within}
use Rattle.pd2.specs.Picks.{picked}
use Rattle.pd2.specs.Order.{before}
use Rattle.pd2.specs.Choice.{ready_in, goes_before_by}
use Rattle.pd2.proofs.Picks.{picks_are_best}
use Rattle.pd2.proofs.Choice.{pd2_is_strict}
use Rattle.trace.specs.Record.{marked}
use Rattle.trace.specs.Records.{names}
use Rattle.cores.specs.Sets.{size, names_past}
use Rattle.cores.specs.Placement.{places_of, core_in, rows_placed, cores_placed, placement}
use Rattle.cores.specs.Best.{moves, IsBest}
use Rattle.cores.specs.Cores.{Rising, cores_for}
use Rattle.cores.specs.Fault.{misremembers}
use Rattle.cores.proofs.Moves.{none_must_move}
use Rattle.cores.proofs.Best.{found_moves, cores_are_best}
use Rattle.cores.proofs.Fault.{misremembers_or_remembers}
use Rattle.cores.proofs.Sets.{marked_rise, size_within, free_is_there}
use Rattle.cores.proofs.Placed.{placed_lists, no_fault}
use Rattle.dispatcher.specs.declared.State.{State}
use Rattle.dispatcher.specs.State.{rows_in, is_row, quanta_in, time_of}
use Rattle.dispatcher.specs.Slot.{favoured_in, picks_in, placed_in}
use Rattle.dispatcher.specs.Placed.{GetsBestCores}
use Rattle.dispatcher.proofs.Whole.{Whole}

-- for callers

-- No more rows are picked than there are cores free.
pub picks_are_few : (s : State) (k : ℕ) → length (picks_in s k) ≤ k
picks_are_few s k =
    let rows = rows_in s in
    let best = picks_are_best (ready_in rows (quanta_in s) (time_of s)) (goes_before_by before rows (quanta_in s) (favoured_in s)) (length rows) k (pd2_is_strict rows (quanta_in s) (favoured_in s) (time_of s) (length rows)) in
    omega (arith, best.how_many_picked)

-- Picked rows rise,
picks_rise : (s : State) (k : ℕ) → Rising (picks_in s k)
picks_rise s k i j l m =
    listed_rise (picked (ready_in (rows_in s) (quanta_in s) (time_of s)) (goes_before_by before (rows_in s) (quanta_in s) (favoured_in s)) (length (rows_in s)) k) (length (rows_in s)) i j 0 l m

-- and each is a row of the state.
picks_are_rows : (s : State) (k i : ℕ) → i < length (picks_in s k) → is_row s (get_or (picks_in s k) i 0) ≡ true
picks_are_rows s k i l =
    lt-ltb _ (length (rows_in s))
    (listed_pass (picked (ready_in (rows_in s) (quanta_in s) (time_of s)) (goes_before_by before (rows_in s) (quanta_in s) (favoured_in s)) (length (rows_in s)) k) (length (rows_in s)) i 0 l).0

-- Of a whole state, and a set of cores that are there:
module _ (s : State) (free : List Bool) (whole : Whole s) (there : names_past s.table.cores free ≡ false) where
  abbrev rows : List ℕ
  rows = picks_in s (size free)

  abbrev cores : List ℕ
  cores = cores_for s.last (marked free) rows

  few : length rows ≤ core_limit
  few = omega (arith, picks_are_few s (size free), size_within s.table.cores free there, (sizes_are_within s.table whole.table).1.1)

  -- a list of cores is the best exactly if it is the one that is found,
  exactly : (other : List ℕ) → (IsBest s.last (marked free) rows other → other ≡ cores) × (other ≡ cores → IsBest s.last (marked free) rows other)
  exactly other =
      cores_are_best s.last (marked free) rows other
      ((misremembers_or_remembers s.last (is_row s) s.table.cores).0 whole.memory).apart
      (marked_rise free)
      (picks_rise s (size free))
      (picks_are_few s (size free))

  best : IsBest s.last (marked free) rows cores
  best = (exactly cores).1 refl

  -- there is room for all,
  fits : placed_in s free ≡ placement rows cores
  fits = ap₂ placement (take_all core_limit rows few) (take_all core_limit cores (omega (arith, few, best.placed.one_each)))

  -- so the picked rows are placed on them and on no others,
  pub gets_best_cores : GetsBestCores s free (placed_in s free)
  gets_best_cores =
      rw fits
      (let listed = placed_lists rows cores best.placed.one_each in
      record {
        count = refl;
        rows = listed.0;
        best = rw listed.1 best;
        no_other = λ other is_best. (exactly other).0 is_best ∙ sym listed.1;
      })

  -- none of them moves if each core is free on which a row ran,
  pub no_moves_if_free : ((i : ℕ) → i < places_of s.last → names (marked free) (core_in s.last i) ≡ true) →
      moves s.last (rows_placed (placed_in s free)) (cores_placed (placed_in s free)) ≡ 0
  no_moves_if_free all =
      let listed = placed_lists rows cores best.placed.one_each in
      ap (λ placed. moves s.last (rows_placed placed) (cores_placed placed)) fits
      ∙ (ap₂ (moves s.last) listed.0 listed.1
      ∙ (found_moves s.last ((misremembers_or_remembers s.last (is_row s) s.table.cores).0 whole.memory).apart (marked free) rows (marked_rise free) (picks_rise s (size free)) (picks_are_few s (size free))
      ∙ none_must_move s.last (marked free) all rows))

  -- and what is remembered of it has no fault.
  pub placed_has_no_fault : misremembers (placed_in s free) (is_row s) s.table.cores ≡ false
  placed_has_no_fault =
      rw fits
      (no_fault rows cores (is_row s) s.table.cores
      best.placed.one_each
      few
      (picks_rise s (size free))
      (picks_are_rows s (size free))
      best.placed.apart
      (λ i l. free_is_there s.table.cores free there (get_or cores i 0) (best.placed.is_free i l)))
