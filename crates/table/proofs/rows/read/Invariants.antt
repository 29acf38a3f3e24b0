use Rattle.std.proofs.Common.{◌≡◌, ◌+◌, ◌*◌, ◌≤◌, length}
use Rattle.facts.specs.Loops.{ReadSoFar}
use Rattle.table.specs.Limits.{row_limit}
use Rattle.table.specs.Causes.{tank_above, zero_row}
use Rattle.table.specs.Bytes.{row_in_bytes, row_tests_in}
use Rattle.table.proofs.Sum.{Added}
use Rattle.table.proofs.rows.read.Given as goal

-- i rows have been read, the cursor stands past them, and they are in the sum
abbrev pub invariant-loop-i : goal.invariant-loop-i
invariant-loop-i l = ReadSoFar (row_tests_in l.bytes l.cycle) (λ k. tank_above (row_in_bytes l.bytes k)) (row_in_bytes l.bytes) zero_row row_limit l.at 9 l.n l.rows l.least l.i
    × (l.cursor.at ≡ l.at + 9 * l.i)
    × Added l.rows l.n l.cycle l.sum l.i
    × (l.cursor.at ≤ length l.bytes)
