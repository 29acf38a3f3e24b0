-- A core for each picked row: what a slot answers and remembers, and what stays as it was. Assumes nothing.
use Prim.Native.Nat.{ℕ, zero, suc, ◌+◌}
use mathlib.Core.Path.{◌≡◌, refl, sym, ap, ap₂, ◌∙◌}
use mathlib.Core.List.{List}
use mathlib.Core.Bool.{Bool, false, ◌&&◌}
use mathlib.Core.Logic.{◌⊎◌, inl, inr}
use native.Mathlib.Omega.{arith}
use lib.Dec.{eqb}
use lib.ListN.{length}
use Rattle.counts.proofs.Numbers.{as_counted}
use Rattle.pd2.specs.Choice.{given}
use Rattle.trace.specs.Record.{record_of, with_record}
use Rattle.trace.specs.Records.{names}
use Rattle.trace.proofs.Names.{marked_are_named}
use Rattle.trace.proofs.Agree.{rows_written}
use Rattle.cores.specs.declared.Placement.{Placement}
use Rattle.cores.specs.Sets.{size, names_past}
use Rattle.cores.specs.Placement.{core_in, rows_placed, cores_placed}
use Rattle.cores.specs.Best.{moves}
use Rattle.cores.proofs.Fault.{misremembers_or_remembers}
use Rattle.cores.proofs.Memory.{ran_is_named}
use Rattle.cores.proofs.Alike.{same_rows_ran}
use Rattle.dispatcher.specs.declared.State.{State}
use Rattle.dispatcher.specs.State.{rows_in, is_row, quanta_in, time_of}
use Rattle.dispatcher.specs.Broken.{broken}
use Rattle.dispatcher.specs.Answer.{done_said}
use Rattle.dispatcher.specs.Slot.{picks_in, placed_in, late_in, stepped, stopped_by, after_slot, refusal, slot_by, slot_of}
use Rattle.dispatcher.specs.Placed.{DoneGetsBestCores, NoMovesIfAllFree, RanIsNamed, Remembered, SlotIsRemembered, DoneAsWithItsSize, AlikeButCores, FavourAlike, FormatOneForgets, RowsDecide, CoresHaveNoPart}
use Rattle.dispatcher.proofs.Favoured.{same_favours}
use Rattle.dispatcher.proofs.Whole.{is_whole}
use Rattle.dispatcher.proofs.Placing.{gets_best_cores, no_moves_if_free, placed_has_no_fault}
use Rattle.dispatcher.proofs.Kept.{IsRefusal, done_number, refusal_numbers, refused_number, goes, slot_done, done_is_not_refused, done_makes_the_step}

-- With 0 and 1 the picked rows have the best cores.
pub done_gets_best_cores : DoneGetsBestCores
done_gets_best_cores s free buffer place h =
    let can = goes s free buffer place (done_is_not_refused s free buffer place h) in
    rw (done_makes_the_step s free buffer place h) (gets_best_cores s free (is_whole s can.whole) can.there)

-- The rows that ran in a slot are those that its record names.
pub ran_is_named_in_record : RanIsNamed
ran_is_named_in_record s free buffer place h row =
    let can = goes s free buffer place (done_is_not_refused s free buffer place h) in
    let placed = gets_best_cores s free (is_whole s can.whole) can.there in
    let few = ((misremembers_or_remembers (placed_in s free) (is_row s) s.table.cores).0 (placed_has_no_fault s free (is_whole s can.whole) can.there)).few in
    rw (done_makes_the_step s free buffer place h)
    (ran_is_named (placed_in s free) few (ap length placed.rows ∙ sym placed.count) row
    ∙ ap (λ rows. names rows row) (placed.rows ∙ sym (rows_written buffer place (size free) (picks_in s (size free)) can.room)))

-- They are remembered; a refusal leaves the memory as it came.
pub slot_is_remembered : SlotIsRemembered
unfolding slot_of
slot_is_remembered s free buffer place = go (refusal s free buffer place) (refusal_numbers s free buffer place)
  where
    go : (r : ℕ) → (r ≡ 0) ⊎ IsRefusal r → Remembered s (slot_by r s free buffer place)
    go zero known = record { done = λ h. refl; refused = λ h. absurd (omega (arith, done_number (late_in (after_slot s free)) (time_of s + 1))) }
    go (suc r) (inl none) = absurd (omega arith)
    go (suc r) (inr known) = record { done = λ h. absurd (omega (arith, known.0)); refused = λ h. (refl, refl) }

-- With all cores free none of them moves; where nobody is placed, nobody does.
pub no_moves_if_all_free : NoMovesIfAllFree
unfolding moves
no_moves_if_all_free s free buffer place all = go (refusal_numbers s free buffer place)
  where
    moved_with : Placement → ℕ
    moved_with placed = moves s.last (rows_placed placed) (cores_placed placed)

    go : (refusal s free buffer place ≡ 0) ⊎ IsRefusal (refusal s free buffer place) → moved_with (slot_of s free buffer place).placed ≡ 0
    go (inl none) =
        let can = goes s free buffer place none in
        let whole = is_whole s can.whole in
        ap (λ reply. moved_with reply.placed) (slot_done s free buffer place none)
        ∙ no_moves_if_free s free whole can.there
        (λ i l. marked_are_named free (core_in s.last i) ∙ all (core_in s.last i) (((misremembers_or_remembers s.last (is_row s) s.table.cores).0 whole.memory).core i l))
    go (inr known) =
        let number = (refused_number s free buffer place (refusal s free buffer place) (omega (arith, known.0))).1 refl in
        ap moved_with ((slot_is_remembered s free buffer place).refused (omega (arith, known.0, number))).1

-- The rest is as 01 says of a k that is the size of the set.
pub done_as_with_its_size : DoneAsWithItsSize
done_as_with_its_size s free buffer place h =
    rw (done_makes_the_step s free buffer place h)
    (record {
      bytes = refl;
      table = refl;
      time = refl;
      quanta = as_counted (given (names (picks_in s (size free))) 0 (quanta_in s));
      said = refl;
      stopped = refl;
    })

-- the state with another memory
abbrev remembering : State → Placement → State
remembering s last = record { table = s.table; time = s.time; stopped = s.stopped; quanta = s.quanta; last = last }

module _ (s : State) (last : Placement) (favour : FavourAlike s (remembering s last)) (free free' : List Bool) (buffer : List ℕ) (place : ℕ) (whole : broken s ≡ false)
    (whole' : broken (remembering s last) ≡ false) (same : size free ≡ size free') (there : names_past s.table.cores free ≡ false)
    (there' : names_past s.table.cores free' ≡ false) where
  same_rows : picks_in s (size free) ≡ picks_in (remembering s last) (size free')
  same_rows = same_favours (rows_in s) (quanta_in s) (λ row _. favour row) (time_of s) (size free) ∙ ap (picks_in (remembering s last)) same

  same_refusal : refusal s free buffer place ≡ refusal (remembering s last) free' buffer place
  unfolding refusal
  same_refusal = rw (whole, whole', there, there', same_rows) refl

  -- the state after these rows were picked, but for its memory
  abbrev after : List ℕ → State
  after rows = stepped s rows last

  alike_by : (number : ℕ) → AlikeButCores (slot_by number s free buffer place) (slot_by number (remembering s last) free' buffer place)
  alike_by zero =
      record {
        said = ap (λ rows. done_said (late_in (after rows)) (time_of s + 1)) same_rows;
        bytes = ap₂ (λ k rows. with_record buffer place (record_of k rows)) same same_rows;
        state = record {
          table = refl;
          time = refl;
          stopped = ap (λ rows. (stopped_by (late_in (after rows)) (after rows)).stopped) same_rows;
          quanta = ap (λ rows. (after rows).quanta) same_rows;
        };
      }
  alike_by (suc number) = record { said = refl; bytes = refl; state = record { table = refl; time = refl; stopped = refl; quanta = refl } }

  alike_slots : AlikeButCores (slot_of s free buffer place) (slot_of (remembering s last) free' buffer place)
  unfolding slot_of
  alike_slots = rw same_refusal (alike_by (refusal (remembering s last) free' buffer place))

-- In format 1 nobody is favoured,
pub format_one_forgets : FormatOneForgets
format_one_forgets s one row = rw one refl

-- and in format 2 the rows that are remembered are.
pub rows_decide : RowsDecide
rows_decide s s' format count rows row = ap₂ (λ format ran. eqb format 2 && ran) format (same_rows_ran s.last s'.last count rows row)

-- Which cores they are, and on which cores rows ran, has no part in the rest.
pub cores_have_no_part : CoresHaveNoPart
cores_have_no_part s s' free free' buffer place alike favour whole whole' same there there' =
    rw built (alike_slots s s'.last (rw built at favour) free free' buffer place whole (rw built at whole') same there there')
  where
    built : s' ≡ remembering s s'.last
    built = rw (alike.table, alike.time, alike.stopped, alike.quanta) refl
