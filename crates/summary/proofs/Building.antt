-- When a trace is not well formed, as one test. Assumes nothing.
use Prim.Native.Nat.{ℕ}
use mathlib.Core.Path.{◌≡◌}
use mathlib.Core.List.{List}
use mathlib.Core.Bool.{false, not}
use borrow.Author.Tests.{eqb-true, eq-eqb, not-false}
use lib.Dec.{eqb}
use lib.ListN.{length}
use Rattle.facts.specs.Counting.{some}
use Rattle.facts.proofs.Some.{none_if, each_fails}
use Rattle.facts.proofs.Tests.{neither_holds}
use Rattle.table.specs.Value.{fault_of, rows_of}
use Rattle.trace.specs.Records.{slots_in, place_in}
use Rattle.trace.specs.Shape.{slot_count_cut, too_long, head_cut, too_many_cores, too_many_rows, rows_cut, bad_row, extra, SoundRecord, WellFormedFor}
use Rattle.summary.specs.Building.{bad_record, bad_trace, IllFormedExactly}

-- for callers

-- A record is not bad exactly if it is sound,
pub sound_if_not_bad : (M n : ℕ) (s : List ℕ) (place : ℕ) → bad_record M n s place ≡ false → SoundRecord M n s place
sound_if_not_bad M n s place h =
    let a = neither_holds _ (bad_row n s place) h in
    let b = neither_holds _ (rows_cut s place) a.0 in
    let c = neither_holds _ (too_many_rows s place) b.0 in
    let d = neither_holds (head_cut s place) (too_many_cores M s place) c.0 in
    record { head = d.0; cores = d.1; picked = c.1; rows = b.1; numbers = a.1 }

pub not_bad_if_sound : (M n : ℕ) (s : List ℕ) (place : ℕ) → SoundRecord M n s place → bad_record M n s place ≡ false
not_bad_if_sound M n s place so = rw (so.head, so.cores, so.picked, so.rows, so.numbers)

-- and a trace exactly if it is well formed.
pub well_if_not_bad : (M n : ℕ) (s : List ℕ) → bad_trace M n s ≡ false → WellFormedFor M n s
unfolding bad_trace
well_if_not_bad M n s h =
    let a = neither_holds _ (extra s) h in
    let b = neither_holds _ (some (λ t. bad_record M n s (place_in s t)) (slots_in s)) a.0 in
    let c = neither_holds (slot_count_cut s) (too_long s) b.0 in
    record {
      slot_count = c.0;
      limit = c.1;
      records = λ t l. sound_if_not_bad M n s (place_in s t) (each_fails (λ t. bad_record M n s (place_in s t)) (slots_in s) b.1 t l);
      end = a.1;
    }

pub not_bad_if_well : (M n : ℕ) (s : List ℕ) → WellFormedFor M n s → bad_trace M n s ≡ false
unfolding bad_trace
not_bad_if_well M n s well =
    rw (
      well.slot_count,
      well.limit,
      none_if (λ t. bad_record M n s (place_in s t)) (slots_in s) (λ t l. not_bad_if_sound M n s (place_in s t) (well.records t l)),
      well.end,
    )

pub ill_formed_exactly : IllFormedExactly
ill_formed_exactly table trace = (
  λ h.
      let a = neither_holds (not (eqb (fault_of table) 0)) _ h in
      record {
        taken = eqb-true (fault_of table) 0 (not-false _ a.0);
        well_formed = well_if_not_bad table.cores (length (rows_of table)) trace a.1;
      },
  λ over. rw (eq-eqb (fault_of table) 0 over.taken, not_bad_if_well table.cores (length (rows_of table)) trace over.well_formed),
)
