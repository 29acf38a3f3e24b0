-- Writing a table (02, Five): "Given a cycle, cores and rows, write the table bytes into a lent buffer."
use Rattle.std.specs.Prelude.{ℕ, length}
use mathlib.Core.List.{List, [], ◌∷◌, ◌++◌, flat_map}
use Rattle.std.proofs.lemmas.List.Edits.{sets}
use Rattle.facts.specs.Zero.{if0}
use Rattle.facts.specs.Findings.{Test, ◌says◌, ◌then◌, first_found}
use Rattle.fields.specs.Fields.{bytes_of, shorter}
use Rattle.table.specs.declared.Row.{Row}
use Rattle.table.specs.declared.Table.{Table}
use Rattle.table.specs.Reply.{Writing}
use Rattle.table.specs.Value.{boards_of, rows_of, value_tests}

-- "A row: tank (2 ..), e (2), p (2), f (2 ..), kind (1 ..)" (01)
unfoldable pub bytes_of_row : Row → List ℕ
bytes_of_row row = bytes_of 2 row.tank ++ bytes_of 2 row.cost ++ bytes_of 2 row.period ++ bytes_of 2 row.phase ++ bytes_of 1 row.kind

-- The bytes of a table, part behind part as in 01's list. What stands past M and past n is not written.
unfoldable pub bytes_of_table : Table → List ℕ
bytes_of_table t =
    -- "format .. | 1"
    bytes_of 1 t.format
    -- "cycle L .. | 4"
    ++ bytes_of 4 t.cycle
    -- "core count M .. then M board numbers .., each a field | 1 + M"
    ++ bytes_of 1 t.cores
    ++ flat_map (bytes_of 1) (boards_of t)
    -- "row count n .. then n rows | 1 + 9n"
    ++ bytes_of 1 t.n
    ++ flat_map bytes_of_row (rows_of t)

-- "Refusals: 12 to 20 in reading order, 22, then 37 if the buffer is too short for exactly the bytes needed"; "11 .. for a table to be written too, ahead
-- of 12" (02, Eight).
abbrev pub write_tests : Table → List ℕ → List Test
write_tests t buffer = value_tests t then (shorter buffer (length (bytes_of_table t)) says 37 ∷ [])

unfoldable pub write_number : Table → List ℕ → ℕ
write_number t buffer = first_found 0 (write_tests t buffer)

-- What is answered: 0 and how many bytes were written, or a refusal. "In any refused answer each part that no rule names is 0 or empty." (01)
abbrev pub writing_of : ℕ → ℕ → Writing
writing_of number many = record { number = number; length = if0 number many 0 }

unfoldable pub writing : Table → List ℕ → Writing
writing t buffer = writing_of (write_number t buffer) (length (bytes_of_table t))

-- What is left in the buffer: the bytes from its first place on, and "the buffer past them stays as it was"; "A refusal .. writes no byte" (demand 1).
unfoldable pub buffer_after : Table → List ℕ → List ℕ
buffer_after t buffer = if0 (write_number t buffer) (sets buffer 0 (bytes_of_table t)) buffer
