-- A table value, and its fault: 11 to 20, 22, or 0 (01, "A state is broken (30) if its table has a fault 12 to 20 or 22"; 02, Eight, for 11: "30 also for such a format").
use Rattle.std.specs.Prelude.{ℕ, List, [], ◌∷◌, take}
use Rattle.facts.specs.Findings.{Test, ◌then◌, first_found}
use Rattle.facts.specs.Rising.{rising}
use Rattle.table.specs.declared.Row.{Row}
use Rattle.table.specs.declared.Table.{Table}
use Rattle.table.specs.Causes.{format_test, cycle_test, cores_test, board_tests, board_above, row_count_test, row_tests, tank_above, sum_test}

-- "Places past row n, and board numbers past M, are ignored .."
abbrev pub boards_of : Table → List ℕ
boards_of t = take t.cores t.boards

abbrev pub rows_of : Table → List Row
rows_of t = take t.n t.rows

-- The tests of a table value, in reading order: "11 .. ahead of 12" (02, Eight).
abbrev pub front_tests : Table → List Test
front_tests t = format_test t.format ∷ cycle_test t.cycle ∷ cores_test t.cores ∷ []

abbrev pub boards_tests : Table → List Test
boards_tests t = rising board_tests board_above 0 (boards_of t)

abbrev pub row_count_tests : Table → List Test
row_count_tests t = row_count_test t.n ∷ []

abbrev pub rows_tests : Table → List Test
rows_tests t = rising (row_tests t.cycle) tank_above 0 (rows_of t)

abbrev pub sum_tests : Table → List Test
sum_tests t = sum_test t.cores t.cycle (rows_of t) ∷ []

abbrev pub value_tests : Table → List Test
value_tests t = front_tests t then boards_tests t then row_count_tests t then rows_tests t then sum_tests t

unfoldable pub fault_of : Table → ℕ
fault_of t = first_found 0 (value_tests t)
