-- What is known of a value that the code can hold. Assumes nothing.
use Prim.Native.Nat.{ℕ, zero, suc, ◌^◌, ◌<◌}
use mathlib.Core.Path.{◌≡◌}
use mathlib.Core.List.{List, [], ◌∷◌}
use mathlib.Core.Bool.{true, ◌&&◌}
use native.Mathlib.Nat.{le_of_suc-le-suc, not-suc-le-zero}
use native.Mathlib.Omega.{arith}
use borrow.Author.Tests.{ltb-true}
use lib.Dec.{ltb}
use lib.ListN.{length, get_or}
use Rattle.facts.specs.Below.{all_below}
use Rattle.facts.proofs.Tests.{both}
use Rattle.facts.proofs.Below.{each_below}
use Rattle.table.specs.declared.Row.{Row}
use Rattle.table.specs.declared.Table.{Table}
use Rattle.table.specs.Fits.{row_fits, rows_fit, table_fits}

-- The numbers of a row fit their fields,
pub record RowNumbers (row : Row) : Type 0 where
  pub tank : row.tank < 65_536
  pub cost : row.cost < 65_536
  pub period : row.period < 65_536
  pub phase : row.phase < 65_536
  pub kind : row.kind < 256

pub row_numbers : (row : Row) → row_fits row ≡ true → RowNumbers row
row_numbers row fits =
    let parts = both (all_below 65_536 (row.tank ∷ row.cost ∷ row.period ∷ row.phase ∷ [])) (ltb row.kind 256) fits in
    let below = each_below 65_536 (omega arith) (row.tank ∷ row.cost ∷ row.period ∷ row.phase ∷ []) parts.0 in
    record { tank = below 0; cost = below 1; period = below 2; phase = below 3; kind = ltb-true row.kind 256 parts.1 }

-- each row's,
each_fits : (rows : List Row) → rows_fit rows ≡ true → (i : ℕ) (d : Row) → i < length rows → row_fits (get_or rows i d) ≡ true
unfolding rows_fit
each_fits [] fits i d h = absurd (not-suc-le-zero h)
each_fits (row ∷ rows) fits zero d h = (both (row_fits row) (rows_fit rows) fits).0
each_fits (row ∷ rows) fits (suc i) d h = each_fits rows (both (row_fits row) (rows_fit rows) fits).1 i d (le_of_suc-le-suc h)

-- and those of a table.
pub record TableNumbers (t : Table) : Type 0 where
  pub cycle : t.cycle < 256 ^ 4
  pub format : t.format < 256
  pub cores : t.cores < 256
  pub row_count : t.n < 256
  pub boards : (i : ℕ) → get_or t.boards i 0 < 256
  pub rows : (i : ℕ) (d : Row) → i < length t.rows → row_fits (get_or t.rows i d) ≡ true

pub table_numbers : (t : Table) → table_fits t ≡ true → TableNumbers t
table_numbers t fits =
    let front = both (ltb t.cycle (2 ^ 32) && all_below 256 (t.format ∷ t.cores ∷ t.n ∷ t.boards)) (rows_fit t.rows) fits in
    let sizes = both (ltb t.cycle (2 ^ 32)) (all_below 256 (t.format ∷ t.cores ∷ t.n ∷ t.boards)) front.0 in
    let below = each_below 256 (omega arith) (t.format ∷ t.cores ∷ t.n ∷ t.boards) sizes.1 in
    record {
      cycle = ltb-true t.cycle (2 ^ 32) sizes.0;
      format = below 0;
      cores = below 1;
      row_count = below 2;
      boards = λ i. below (suc (suc (suc i)));
      rows = each_fits t.rows front.1;
    }
