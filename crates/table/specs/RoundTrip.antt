-- A table written and read, and read and written (02, Five).
use Rattle.std.specs.Prelude.{ℕ, ◌≤◌, ◌≡◌, List, ◌++◌, true, length, take, drop}
use Rattle.facts.specs.Below.{all_below}
use Rattle.table.specs.declared.Table.{Table}
use Rattle.table.specs.Fits.{CanBeHeld}
use Rattle.table.specs.Value.{boards_of, rows_of, fault_of}
use Rattle.table.specs.Bytes.{table_number, reading}
use Rattle.table.specs.Writing.{bytes_of_table, writing, buffer_after}

-- "the same table in all places below n and M"
pub record SameBelow (t u : Table) : Type 0 where
  pub format : t.format ≡ u.format
  pub cycle : t.cycle ≡ u.cycle
  pub cores : t.cores ≡ u.cores
  pub boards : boards_of t ≡ boards_of u
  pub row_count : t.n ≡ u.n
  pub rows : rows_of t ≡ rows_of u

-- "What is written reads back as the same table in all places below n and M"
pub record ReadsBack (t : Table) (written : List ℕ) : Type 0 where
  pub taken : (reading written).number ≡ 0
  pub same : SameBelow t (reading written).table

abbrev pub WrittenReadsBack : Type 0
WrittenReadsBack =
    (t : Table) (buffer : List ℕ) → CanBeHeld t → (writing t buffer).number ≡ 0 → ReadsBack t (take (writing t buffer).length (buffer_after t buffer))

-- "what reads back and is written gives the same bytes": into every buffer that has room for them
pub record WritesBack (s buffer : List ℕ) : Type 0 where
  pub said : writing (reading s).table buffer ≡ record { number = 0; length = length s }
  pub bytes : buffer_after (reading s).table buffer ≡ s ++ drop (length s) buffer

abbrev pub ReadIsWrittenBack : Type 0
ReadIsWrittenBack = (s buffer : List ℕ) → all_below 256 s ≡ true → (reading s).number ≡ 0 → length s ≤ length buffer → WritesBack s buffer

-- "a table that the reader would refuse is refused with that number": what the reader would read are the value's own bytes.
abbrev pub RefusedAsTheReaderWould : Type 0
RefusedAsTheReaderWould =
    (t : Table) (buffer : List ℕ) → CanBeHeld t → (table_number (bytes_of_table t) ≡ 0 → ⊥) → (writing t buffer).number ≡ table_number (bytes_of_table t)

-- Of any value, what the reader answers to its bytes is its fault.
abbrev pub ReaderSaysTheSame : Type 0
ReaderSaysTheSame = (t : Table) → CanBeHeld t → table_number (bytes_of_table t) ≡ fault_of t
