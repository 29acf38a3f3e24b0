-- The causes of the refusals 10 to 22 (01, "What comes back"), each once: the test with its number, under 01's words.
use Rattle.std.specs.Prelude.{ℕ, ◌+◌, ◌*◌, ◌/◌, ◌%◌, List, [], ◌∷◌, Bool, not, ◌||◌, ltb, eqb, length}
use Rattle.facts.specs.Findings.{Test, ◌says◌}
use Rattle.fields.specs.Fields.{shorter}
use Rattle.table.specs.declared.Row.{Row}
use Rattle.table.specs.Limits.{cycle_limit, core_limit, row_limit}

-- x is not in low to high
abbrev pub outside : ℕ → ℕ → ℕ → Bool
outside low high x = ltb x low || ltb high x

-- "table ends inside a field or row": a field or row that is to end at place n is not all there (docs/DECISIONS.md, 20)
abbrev pub cut : List ℕ → ℕ → Test
cut s n = shorter s n says 10

-- "11 means neither 1 nor 2" (02, Eight)
abbrev pub format_test : ℕ → Test
format_test format = not (eqb format 1 || eqb format 2) says 11

-- "L outside 1 to 1,000,000"
abbrev pub cycle_test : ℕ → Test
cycle_test cycle = outside 1 cycle_limit cycle says 12

-- "M outside 1 to 8"
abbrev pub cores_test : ℕ → Test
cores_test cores = outside 1 core_limit cores says 13

-- "board numbers not rising": `least` is the lowest that may stand here, one more than the one before, and 0 for the first
-- (docs/DECISIONS.md, 23)
abbrev pub board_tests : ℕ → ℕ → List Test
board_tests least board = ltb board least says 14 ∷ []

abbrev pub board_above : ℕ → ℕ
board_above board = board + 1

-- "n above 32"
abbrev pub row_count_test : ℕ → Test
row_count_test n = ltb row_limit n says 15

-- The tests of a row, "in the order of the numbers". `least` is the lowest tank that may stand here.
abbrev pub row_tests : ℕ → ℕ → Row → List Test
row_tests cycle least row =
    -- "tanks not rising"
    ltb row.tank least says 16
    -- "e = 0"
    ∷ eqb row.cost 0 says 17
    -- "From then on 18 means e above p" (02, Six)
    ∷ ltb row.period row.cost says 18
    -- "p does not divide L"
    ∷ not (eqb (cycle % row.period) 0) says 19
    -- "kind above 1"
    ∷ ltb 1 row.kind says 20
    ∷ []

-- The least tank that may stand after a row.
abbrev pub tank_above : Row → ℕ
tank_above row = row.tank + 1

-- "bytes after the last row", which ends at place n
abbrev pub after_test : List ℕ → ℕ → Test
after_test s n = ltb n (length s) says 21

-- "The sum of e·(L/p)"
unfoldable pub load : ℕ → List Row → ℕ
load cycle [] = 0
load cycle (row ∷ rows) = row.cost * (cycle / row.period) + load cycle rows

-- "sum above M·L"
abbrev pub sum_test : ℕ → ℕ → List Row → Test
sum_test cores cycle rows = ltb (cores * cycle) (load cycle rows) says 22

-- A place that holds no row holds only 0.
abbrev pub zero_row : Row
zero_row = record { tank = 0; cost = 0; period = 0; phase = 0; kind = 0 }
