-- A trace that is well formed for a table (01, "What comes back"): "A trace is well formed for a table that is taken when its bytes give no cause
-- for 40 to 43, 46 or 47 anywhere, leaving 44 and 45 aside."
use Rattle.std.specs.Prelude.{ℕ, ◌<◌, ◌≡◌, List, false, length}
use Rattle.table.specs.declared.Table.{Table}
use Rattle.table.specs.Value.{rows_of}
use Rattle.trace.specs.Records.{slots_in, place_in}
use Rattle.checker.specs.Causes.{slot_count_cut, too_long, head_cut, too_many_cores, too_many_rows, rows_cut, bad_row, extra}

-- The record at a place gives no cause for 40 to 43.
pub record SoundRecord (table : Table) (s : List ℕ) (place : ℕ) : Type 0 where
  pub head : head_cut s place ≡ false
  pub cores : too_many_cores table.cores s place ≡ false
  pub picked : too_many_rows s place ≡ false
  pub rows : rows_cut s place ≡ false
  pub numbers : bad_row (length (rows_of table)) s place ≡ false

pub record WellFormed (table : Table) (s : List ℕ) : Type 0 where
  pub slot_count : slot_count_cut s ≡ false
  pub limit : too_long s ≡ false
  pub records : (t : ℕ) → t < slots_in s → SoundRecord table s (place_in s t)
  pub end : extra s ≡ false
