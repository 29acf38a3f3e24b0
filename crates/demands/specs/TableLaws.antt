-- Laws of the table in bytes (01, "The table, in bytes", "What comes back"): part of specs/Laws.antt.
use Rattle.std.specs.Prelude.{ℕ, List, [], ◌∷◌, ◌++◌, take, drop}
use Rattle.fields.specs.Fields.{bytes_of}
use Rattle.demands.specs.Law.{Law, reads, has_format, has_sizes, has_row, has_board, all_zero}
use Rattle.demands.specs.LawInputs.{front, row_bytes, alike_rows, half_and_third_bytes}

-- a table of two rows 1/6 and a third
abbrev pub three_rows : List ℕ → List ℕ
three_rows third = front 6 (0 ∷ []) ++ (3 ∷ row_bytes 0 1 6 0 0 ++ row_bytes 1 1 6 0 0 ++ third)

-- 10 to 22, each number with an input that gives it, and each limit on both sides
abbrev pub table_laws : List Law
table_laws =
    -- 10, "table ends inside a field or row": nothing there; no whole cycle; no M; not all boards; no n; no whole row
    reads [] 10
    ∷ reads (1 ∷ 6 ∷ 0 ∷ 0 ∷ []) 10
    ∷ reads (1 ∷ 0 ∷ 0 ∷ 0 ∷ []) 10
    ∷ reads (1 ∷ bytes_of 4 6) 10
    ∷ reads (1 ∷ bytes_of 4 6 ++ (2 ∷ 0 ∷ [])) 10
    ∷ reads (front 6 (0 ∷ 1 ∷ [])) 10
    ∷ reads (take 26 half_and_third_bytes) 10
    ∷ reads half_and_third_bytes 0
    -- "11 means neither 1 nor 2" (02, Eight)
    ∷ reads (0 ∷ bytes_of 4 6 ++ (1 ∷ 0 ∷ 0 ∷ [])) 11
    ∷ reads (1 ∷ bytes_of 4 6 ++ (1 ∷ 0 ∷ 0 ∷ [])) 0
    ∷ reads (2 ∷ bytes_of 4 6 ++ (1 ∷ 0 ∷ 0 ∷ [])) 0
    ∷ reads (3 ∷ bytes_of 4 6 ++ (1 ∷ 0 ∷ 0 ∷ [])) 11
    ∷ reads (255 ∷ bytes_of 4 6 ++ (1 ∷ 0 ∷ 0 ∷ [])) 11
    ∷ has_format (1 ∷ bytes_of 4 6 ++ (1 ∷ 0 ∷ 0 ∷ [])) 1
    ∷ has_format (2 ∷ bytes_of 4 6 ++ (1 ∷ 0 ∷ 0 ∷ [])) 2
    ∷ has_format (3 ∷ bytes_of 4 6 ++ (1 ∷ 0 ∷ 0 ∷ [])) 0
    ∷ has_row (2 ∷ drop 1 (three_rows (row_bytes 2 1 6 7 1))) 2 (record { tank = 2; cost = 1; period = 6; phase = 7; kind = 1 })
    -- 12, "L outside 1 to 1,000,000"
    ∷ reads (front 0 (0 ∷ []) ++ (0 ∷ [])) 12
    ∷ reads (front 1 (0 ∷ []) ++ (0 ∷ [])) 0
    ∷ reads (front 1_000_000 (0 ∷ []) ++ (0 ∷ [])) 0
    ∷ reads (front 1_000_001 (0 ∷ []) ++ (0 ∷ [])) 12
    ∷ reads (front 16_777_217 (0 ∷ []) ++ (0 ∷ [])) 12
    -- 13, "M outside 1 to 8"
    ∷ reads (front 6 [] ++ (0 ∷ [])) 13
    ∷ reads (front 6 (0 ∷ 1 ∷ 2 ∷ 3 ∷ 4 ∷ 5 ∷ 6 ∷ 255 ∷ []) ++ (0 ∷ [])) 0
    ∷ reads (front 6 (0 ∷ 1 ∷ 2 ∷ 3 ∷ 4 ∷ 5 ∷ 6 ∷ 7 ∷ 8 ∷ []) ++ (0 ∷ [])) 13
    ∷ reads (1 ∷ bytes_of 4 6 ++ (255 ∷ [])) 13
    -- 14, "board numbers not rising"
    ∷ reads (front 6 (3 ∷ 3 ∷ []) ++ (0 ∷ [])) 14
    ∷ reads (front 6 (1 ∷ 3 ∷ 2 ∷ []) ++ (0 ∷ [])) 14
    ∷ reads (front 6 (255 ∷ 0 ∷ []) ++ (0 ∷ [])) 14
    ∷ reads (front 6 (3 ∷ 4 ∷ []) ++ (0 ∷ [])) 0
    -- 15, "n above 32"
    ∷ reads (front 64 (0 ∷ []) ++ (32 ∷ alike_rows 64 0 32)) 0
    ∷ reads (front 64 (0 ∷ []) ++ (33 ∷ alike_rows 64 0 33)) 15
    ∷ reads (front 6 (0 ∷ []) ++ (255 ∷ [])) 15
    -- 16, "tanks not rising"; "0 is a tank like any other"
    ∷ reads (front 6 (0 ∷ []) ++ (3 ∷ row_bytes 5 1 6 0 0 ++ row_bytes 9 1 6 0 0 ++ row_bytes 7 1 6 0 0)) 16
    ∷ reads (front 6 (0 ∷ []) ++ (2 ∷ row_bytes 65_535 1 3 0 0 ++ row_bytes 0 1 3 0 0)) 16
    ∷ reads (front 6 (0 ∷ []) ++ (2 ∷ row_bytes 7 1 3 0 0 ++ row_bytes 7 1 3 0 0)) 16
    ∷ reads (front 6 (0 ∷ []) ++ (2 ∷ row_bytes 7 1 3 0 0 ++ row_bytes 8 1 3 0 0)) 0
    -- 17, "e = 0"
    ∷ reads (front 6 (0 ∷ []) ++ (1 ∷ row_bytes 0 0 3 0 0)) 17
    ∷ reads (front 6 (0 ∷ []) ++ (2 ∷ row_bytes 0 1 3 0 0 ++ row_bytes 1 0 3 0 0)) 17
    ∷ reads (front 1_000 (0 ∷ []) ++ (1 ∷ row_bytes 0 256 1_000 0 0)) 0
    -- 18, "e above p" (02, Six): e = p is taken
    ∷ reads (front 6 (0 ∷ []) ++ (1 ∷ row_bytes 0 1 1 0 0)) 0
    ∷ reads (front 6 (0 ∷ []) ++ (1 ∷ row_bytes 0 3 3 0 0)) 0
    ∷ reads (front 6 (0 ∷ []) ++ (1 ∷ row_bytes 0 4 3 0 0)) 18
    ∷ reads (front 6 (0 ∷ []) ++ (1 ∷ row_bytes 0 1 0 0 0)) 18
    ∷ reads (front 6 (0 ∷ []) ++ (1 ∷ row_bytes 0 65_535 1 0 0)) 18
    ∷ reads (front 6 (0 ∷ 1 ∷ []) ++ (2 ∷ row_bytes 0 1 3 0 0 ++ row_bytes 1 3 3 0 0)) 0
    ∷ reads (front 6 (0 ∷ 1 ∷ []) ++ (2 ∷ row_bytes 0 1 3 0 0 ++ row_bytes 1 4 3 0 0)) 18
    ∷ reads (front 6 (0 ∷ []) ++ (1 ∷ row_bytes 0 2 3 0 0)) 0
    -- 19, "p does not divide L"
    ∷ reads (front 6 (0 ∷ []) ++ (1 ∷ row_bytes 0 1 4 0 0)) 19
    ∷ reads (front 6 (0 ∷ []) ++ (1 ∷ row_bytes 0 4 4 0 0)) 19
    ∷ reads (front 6 (0 ∷ []) ++ (1 ∷ row_bytes 0 1 12 0 0)) 19
    ∷ reads (front 6 (0 ∷ []) ++ (2 ∷ row_bytes 0 1 3 0 0 ++ row_bytes 1 1 4 0 0)) 19
    -- 20, "kind above 1"
    ∷ reads (front 6 (0 ∷ []) ++ (1 ∷ row_bytes 0 1 3 0 255)) 20
    ∷ reads (front 6 (0 ∷ []) ++ (1 ∷ row_bytes 0 1 3 0 2)) 20
    ∷ reads (front 6 (0 ∷ []) ++ (1 ∷ row_bytes 0 1 3 0 1)) 0
    -- 17 to 20 in a third row
    ∷ reads (three_rows (row_bytes 2 0 6 0 0)) 17
    ∷ reads (three_rows (row_bytes 2 7 6 0 0)) 18
    ∷ reads (three_rows (row_bytes 2 1 4 0 0)) 19
    ∷ reads (three_rows (row_bytes 2 1 6 0 2)) 20
    ∷ has_row (three_rows (row_bytes 2 1 6 7 1)) 2 (record { tank = 2; cost = 1; period = 6; phase = 7; kind = 1 })
    -- 21, "bytes after the last row"
    ∷ reads (half_and_third_bytes ++ (0 ∷ [])) 21
    -- 22, "sum above M·L"; a full box is taken
    ∷ reads (front 6 (0 ∷ []) ++ (2 ∷ row_bytes 0 2 3 0 0 ++ row_bytes 1 1 3 0 0)) 0
    ∷ reads (front 6 (0 ∷ []) ++ (2 ∷ row_bytes 0 2 3 0 0 ++ row_bytes 1 1 2 0 0)) 22
    ∷ reads (front 6 (0 ∷ []) ++ (2 ∷ row_bytes 0 2 3 5 1 ++ row_bytes 1 1 3 4 1)) 0
    ∷ reads (front 3 (0 ∷ 1 ∷ []) ++ (4 ∷ row_bytes 0 2 3 0 0 ++ row_bytes 1 2 3 0 0 ++ row_bytes 2 2 3 0 0 ++ row_bytes 3 1 3 0 0)) 22
    ∷ reads (three_rows (row_bytes 2 6 6 0 0)) 22
    ∷ reads (front 6 (0 ∷ []) ++ (2 ∷ row_bytes 0 6 6 0 0 ++ row_bytes 1 1 6 0 0)) 22
    ∷ reads (front 1 (0 ∷ 1 ∷ 2 ∷ 3 ∷ 4 ∷ 5 ∷ 6 ∷ 7 ∷ []) ++ (8 ∷ alike_rows 1 0 8)) 0
    ∷ reads (front 1 (0 ∷ 1 ∷ 2 ∷ 3 ∷ 4 ∷ 5 ∷ 6 ∷ 7 ∷ []) ++ (9 ∷ alike_rows 1 0 9)) 22
    ∷ reads (front 2 (0 ∷ 1 ∷ 2 ∷ 3 ∷ 4 ∷ 5 ∷ 6 ∷ 7 ∷ []) ++ (16 ∷ alike_rows 2 0 16)) 0
    ∷ reads (front 2 (0 ∷ 1 ∷ 2 ∷ 3 ∷ 4 ∷ 5 ∷ 6 ∷ 7 ∷ []) ++ (17 ∷ alike_rows 2 0 17)) 22
    -- "tank (2 ..), e (2), p (2), f (2 ..), kind (1 ..)": each in its place, the low byte first
    ∷ has_row (front 1_000 (5 ∷ []) ++ (1 ∷ row_bytes 513 258 1_000 1_027 1)) 0 (record { tank = 513; cost = 258; period = 1_000; phase = 1_027; kind = 1 })
    -- "a table that is taken has 0 in every place past n and past M"; "A table refusal yields no table"
    ∷ has_sizes (front 1_000 (5 ∷ []) ++ (1 ∷ row_bytes 513 258 1_000 1_027 1)) 1_000 1 1
    ∷ has_sizes half_and_third_bytes 6 2 2
    ∷ has_row half_and_third_bytes 2 all_zero
    ∷ has_row half_and_third_bytes 31 all_zero
    ∷ has_board half_and_third_bytes 1 1
    ∷ has_board half_and_third_bytes 2 0
    ∷ has_board half_and_third_bytes 7 0
    ∷ has_sizes (half_and_third_bytes ++ (0 ∷ [])) 0 0 0
    ∷ has_row (half_and_third_bytes ++ (0 ∷ [])) 0 all_zero
    ∷ has_row (half_and_third_bytes ++ (0 ∷ [])) 1 all_zero
    ∷ has_board (half_and_third_bytes ++ (0 ∷ [])) 1 0
    ∷ []
