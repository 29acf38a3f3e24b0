-- The table in bytes, and what reading them answers (01, "The table, in bytes").
use Rattle.std.specs.Prelude.{ℕ, ◌+◌, ◌*◌, List, [], ◌∷◌, map}
use Rattle.facts.specs.Zero.{if0}
use Rattle.facts.specs.Findings.{Test, ◌then◌, first_found}
use Rattle.facts.specs.Rising.{rising}
use Rattle.facts.specs.Places.{places, padded}
use Rattle.fields.specs.Fields.{byte, half, word}
use Rattle.table.specs.declared.Row.{Row}
use Rattle.table.specs.declared.Table.{Table}
use Rattle.table.specs.Limits.{core_limit, row_limit}
use Rattle.table.specs.Reply.{Reading, no_table}
use Rattle.table.specs.Causes.{cut, format_test, cycle_test, cores_test, board_tests, board_above, row_count_test, row_tests, tank_above, after_test, sum_test, zero_row}

-- Where each part stands: "format", which is 1 or 2 ("Tables of format 2 keep the bytes of format 1": 02, Eight), "cycle L", "core count M .. then M board numbers", "row count n .. then n rows".
abbrev pub format_in : List ℕ → ℕ
format_in s = byte s 0

abbrev pub cycle_in : List ℕ → ℕ
cycle_in s = word s 1

abbrev pub cores_in : List ℕ → ℕ
cores_in s = byte s 5

abbrev pub row_count_place : List ℕ → ℕ
row_count_place s = 6 + cores_in s

abbrev pub row_count_in : List ℕ → ℕ
row_count_in s = byte s (row_count_place s)

abbrev pub rows_place : List ℕ → ℕ
rows_place s = row_count_place s + 1

-- "tank (2 ..), e (2), p (2), f (2 ..), kind (1 ..)": the row in the nine bytes from place i on
abbrev pub row_in_bytes : List ℕ → ℕ → Row
row_in_bytes s i =
    record {
      tank = half s i;
      cost = half s (i + 2);
      period = half s (i + 4);
      phase = half s (i + 6);
      kind = byte s (i + 8);
    }

-- "M board numbers" and "n rows" of nine bytes: where they stand
abbrev pub board_places : List ℕ → List ℕ
board_places s = places 6 1 (cores_in s)

abbrev pub row_places : List ℕ → List ℕ
row_places s = places (rows_place s) 9 (row_count_in s)

-- "M board numbers rising strictly, each a field": the tests of the board number at place i (docs/DECISIONS.md, 21)
abbrev pub board_tests_in : List ℕ → ℕ → ℕ → List Test
board_tests_in s least i = cut s (i + 1) ∷ board_tests least (byte s i)

-- "a row once all its nine are": the tests of the row in the nine bytes from place i on (docs/DECISIONS.md, 22)
abbrev pub row_tests_in : List ℕ → ℕ → ℕ → ℕ → List Test
row_tests_in s cycle least i = cut s (i + 9) ∷ row_tests cycle least (row_in_bytes s i)

abbrev pub boards_tests_in : List ℕ → List Test
boards_tests_in s = rising (board_tests_in s) (λ i. board_above (byte s i)) 0 (board_places s)

abbrev pub rows_tests_in : List ℕ → List Test
rows_tests_in s = rising (row_tests_in s (cycle_in s)) (λ i. tank_above (row_in_bytes s i)) 0 (row_places s)

-- "A field is tested as soon as its bytes are there": format, cycle and core count
abbrev pub head_tests : List ℕ → List Test
head_tests s =
    cut s 1
    ∷ format_test (format_in s)
    ∷ cut s 5
    ∷ cycle_test (cycle_in s)
    ∷ cut s 6
    ∷ cores_test (cores_in s)
    ∷ []

-- the row count
abbrev pub row_count_tests_in : List ℕ → List Test
row_count_tests_in s = cut s (rows_place s) ∷ row_count_test (row_count_in s) ∷ []

-- "after the last row come 21, then 22"
abbrev pub last_tests : List ℕ → List Test
last_tests s =
    after_test s (rows_place s + 9 * row_count_in s)
    ∷ sum_test (cores_in s) (cycle_in s) (map (row_in_bytes s) (row_places s))
    ∷ []

-- "Reading goes from the front .. the first fault met is answered": all the tests, in the order in which they are made.
abbrev pub table_tests : List ℕ → List Test
table_tests s =
    head_tests s
    then boards_tests_in s
    then row_count_tests_in s
    then rows_tests_in s
    then last_tests s

-- the number that is answered
unfoldable pub table_number : List ℕ → ℕ
table_number s = first_found 0 (table_tests s)

-- the table that the bytes hold: "a table that is taken has 0 in every place past n and past M"
abbrev pub table_in : List ℕ → Table
table_in s =
    record {
      format = format_in s;
      cycle = cycle_in s;
      cores = cores_in s;
      boards = padded (byte s) 0 core_limit 6 1 (cores_in s);
      n = row_count_in s;
      rows = padded (row_in_bytes s) zero_row row_limit (rows_place s) 9 (row_count_in s);
    }

-- the answer: 0 with the table, or the number of the first fault met
abbrev pub reading_of : ℕ → Table → Reading
reading_of number table = record { number = number; table = if0 number table no_table }

unfoldable pub reading : List ℕ → Reading
reading s = reading_of (table_number s) (table_in s)
