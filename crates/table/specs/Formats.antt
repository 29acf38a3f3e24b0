-- "Tables of format 2 keep the bytes of format 1" (02, Eight).
use Rattle.std.specs.Prelude.{ℕ, ◌<◌, ◌≡◌, List, ◌∷◌, get_or, drop}
use Rattle.table.specs.declared.Table.{Table}
use Rattle.table.specs.Value.{fault_of}
use Rattle.table.specs.Bytes.{table_number, table_in}
use Rattle.table.specs.Writing.{bytes_of_table}

-- the same table in another format
abbrev pub in_format : ℕ → Table → Table
in_format format t = record { format = format; cycle = t.cycle; cores = t.cores; boards = t.boards; n = t.n; rows = t.rows }

-- As it is read: whatever stands behind the first byte, with 2 there the same number is answered as with 1, and the table in the bytes is the same but for its format.
pub record ReadsAlike (rest : List ℕ) : Type 0 where
  pub number : table_number (2 ∷ rest) ≡ table_number (1 ∷ rest)
  pub table : table_in (2 ∷ rest) ≡ in_format 2 (table_in (1 ∷ rest))

-- As it is written: the first byte is the format, the others are the same, and the value has the same fault.
pub record WritesAlike (t : Table) : Type 0 where
  pub first : (format : ℕ) → format < 256 → get_or (bytes_of_table (in_format format t)) 0 0 ≡ format
  pub rest : drop 1 (bytes_of_table (in_format 2 t)) ≡ drop 1 (bytes_of_table (in_format 1 t))
  pub fault : fault_of (in_format 2 t) ≡ fault_of (in_format 1 t)

pub record KeepsTheBytes : Type 0 where
  pub read : (rest : List ℕ) → ReadsAlike rest
  pub written : (t : Table) → WritesAlike t
