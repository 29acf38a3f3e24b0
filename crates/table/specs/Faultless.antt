-- What a table without fault is, said without the tests (01, "The table, in bytes"; 02, Eight, for the format). The numbers are written out, as 01 has them.
use Rattle.std.specs.Prelude.{ℕ, ◌+◌, ◌*◌, ◌≤◌, ◌<◌, ◌≡◌, List, ◌↔◌, ◌⊎◌, length, get_or}
use Rattle.fields.specs.Fields.{byte}
use Rattle.table.specs.declared.Table.{Table}
use Rattle.table.specs.Causes.{load, zero_row}
use Rattle.table.specs.Value.{fault_of, boards_of, rows_of}
use Rattle.table.specs.Bytes.{table_number, table_in}
use Rattle.table.specs.Taken.{Sound}

-- A faultless table, part by part in 01's words.
pub record Faultless (t : Table) : Type 0 where
  -- "format, 1", or "format 2" (02, Eight)
  pub format : (t.format ≡ 1) ⊎ (t.format ≡ 2)
  -- "cycle L, 1 to 1,000,000"
  pub cycle : (1 ≤ t.cycle) × (t.cycle ≤ 1_000_000)
  -- "core count M, 1 to 8,
  pub cores : (1 ≤ t.cores) × (t.cores ≤ 8)
  -- then M board numbers rising strictly"
  pub boards : (i j : ℕ) → i < j → j < length (boards_of t) → get_or (boards_of t) i 0 < get_or (boards_of t) j 0
  -- "row count n, 0 to 32, then n rows"
  pub row_count : t.n ≤ 32
  -- "tank (2, rising strictly from row to row; 0 is a tank like any other)"
  pub tanks : (i j : ℕ) → i < j → j < length (rows_of t) → (get_or (rows_of t) i zero_row).tank < (get_or (rows_of t) j zero_row).tank
  -- each row: not "e = 0", not "e above p" (02, Six); "Each p divides L."; "kind (1: 0 plain, 1 early release)"
  pub rows : (i : ℕ) → i < length (rows_of t) → Sound t.cycle (get_or (rows_of t) i zero_row)
  -- "The sum of e·(L/p) is at most M·L."
  pub sum : load t.cycle (rows_of t) ≤ t.cores * t.cycle

-- A table value has no fault exactly if it is as 01 says.
abbrev pub FaultlessExactly : Type 0
FaultlessExactly = (t : Table) → (fault_of t ≡ 0) ↔ Faultless t

-- A table in bytes is taken exactly if it is as long as its counts say and is faultless, its format too: format and cycle have 1 and 4 bytes, the cores
-- 1 + M, the rows 1 + 9n. M is at place 5 and n at place 6 + M.
abbrev pub TakenExactly : Type 0
TakenExactly =
    (s : List ℕ) →
    (table_number s ≡ 0) ↔ ((length s ≡ 7 + byte s 5 + 9 * byte s (6 + byte s 5)) × Faultless (table_in s))
