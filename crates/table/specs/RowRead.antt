-- What reading one row answers (01, "Our forms for each place"): "each row read is an enum of row with cursor or number".
use Rattle.std.specs.Prelude.{ℕ, ◌+◌, List, Result, Ok, Err}
use Rattle.facts.specs.Zero.{if0}
use Rattle.facts.specs.Findings.{first_found}
use Rattle.table.specs.declared.Row.{Row}
use Rattle.table.specs.declared.faults.Fault.{Fault}
use Rattle.table.specs.declared.rows.Cursor.{Cursor}
use Rattle.table.specs.Causes.{zero_row}
use Rattle.table.specs.Reply.{fault_number}
use Rattle.table.specs.Bytes.{row_in_bytes, row_tests_in}

-- A number of 01's table, a row, and the place past it.
pub record RowReply : Type 0 where
  pub number : ℕ
  pub row : Row
  pub past : ℕ

-- 01's number and values for each case: 0 with the row and the place past it, or the number of a fault and no row.
abbrev pub row_reply_of : Result (Row × Cursor) Fault → RowReply
row_reply_of (Ok (row, cursor)) = record { number = 0; row = row; past = cursor.at }
row_reply_of (Err fault) = record { number = fault_number fault; row = zero_row; past = 0 }

-- "a row once all its nine are, and then in the order of the numbers below": by the number of the first fault met, 0 for none, the row and the place past it
abbrev pub row_reply_by : ℕ → Row → ℕ → RowReply
row_reply_by number row past = record { number = number; row = if0 number row zero_row; past = if0 number past 0 }

-- the answer for the row in the nine bytes from place i on
unfoldable pub row_reply : List ℕ → ℕ → ℕ → ℕ → RowReply
row_reply s cycle least i = row_reply_by (first_found 0 (row_tests_in s cycle least i)) (row_in_bytes s i) (i + 9)
