-- Laws of the order of reading, and of table values (01, "The table, in bytes", "What comes back"): part of specs/Laws.antt.
use Rattle.std.specs.Prelude.{List, [], ◌∷◌, ◌++◌, take, replicate}
use Rattle.fields.specs.Fields.{bytes_of}
use Rattle.table.specs.Causes.{zero_row}
use Rattle.table.specs.Formats.{in_format}
use Rattle.demands.specs.Bench.{plain_row, box}
use Rattle.demands.specs.Law.{Law, reads, faulty}
use Rattle.demands.specs.LawInputs.{front, row_bytes, alike_rows, half_and_third}

-- "Reading goes from the front. A field is tested as soon as its bytes are there, a row once all its nine are, and then in the order of the numbers below;
-- after the last row come 21, then 22; the first fault met is answered": inputs with two causes, neighbours in this order
abbrev pub reading_order : List Law
reading_order =
    -- 11 and 10: format 0, and no cycle; 10 alone: format 2, and no cycle
    reads (0 ∷ []) 11
    ∷ reads (2 ∷ []) 10
    -- 11 and 12, 10 and 12: the first bytes of a cycle that is 0
    ∷ reads (0 ∷ bytes_of 4 0) 11
    ∷ reads (1 ∷ 0 ∷ 0 ∷ []) 10
    -- 12 and 10, 12 and 13
    ∷ reads (1 ∷ bytes_of 4 0) 12
    ∷ reads (front 0 [] ++ (0 ∷ [])) 12
    -- 13 and 10, 13 and 14
    ∷ reads (1 ∷ bytes_of 4 6 ++ (9 ∷ [])) 13
    ∷ reads (front 6 (0 ∷ 0 ∷ 0 ∷ 0 ∷ 0 ∷ 0 ∷ 0 ∷ 0 ∷ 0 ∷ []) ++ (0 ∷ [])) 13
    -- 14 and 10: a third board is missing; 14 and 15
    ∷ reads (1 ∷ bytes_of 4 6 ++ (3 ∷ 1 ∷ 1 ∷ [])) 14
    ∷ reads (front 6 (1 ∷ 1 ∷ []) ++ (33 ∷ [])) 14
    -- 15 and 10, 15 and 16
    ∷ reads (front 6 (0 ∷ []) ++ (33 ∷ [])) 15
    ∷ reads (front 64 (0 ∷ []) ++ (33 ∷ row_bytes 5 1 64 0 0 ++ alike_rows 64 5 32)) 15
    -- 10 and 17: a row's nine bytes are not all there
    ∷ reads (front 6 (0 ∷ []) ++ (1 ∷ take 8 (row_bytes 0 0 3 0 0))) 10
    -- 16 and 17, 17 and 19 (no e is both 0 and above p), 18 and 19, 19 and 20
    ∷ reads (front 6 (0 ∷ []) ++ (2 ∷ row_bytes 7 1 3 0 0 ++ row_bytes 7 0 3 0 0)) 16
    ∷ reads (front 6 (0 ∷ []) ++ (1 ∷ row_bytes 0 0 0 0 0)) 17
    ∷ reads (front 6 (0 ∷ []) ++ (1 ∷ row_bytes 0 5 4 0 0)) 18
    ∷ reads (front 6 (0 ∷ []) ++ (1 ∷ row_bytes 0 1 4 0 2)) 19
    -- 20 and then, in the row after it, 16; 20 and 10; 20 and 21
    ∷ reads (front 6 (0 ∷ []) ++ (2 ∷ row_bytes 7 1 3 0 2 ++ row_bytes 7 1 3 0 0)) 20
    ∷ reads (front 6 (0 ∷ []) ++ (2 ∷ row_bytes 7 1 3 0 2)) 20
    ∷ reads (front 6 (0 ∷ []) ++ (1 ∷ row_bytes 7 1 3 0 2 ++ (0 ∷ []))) 20
    -- 21 and 22
    ∷ reads (front 6 (0 ∷ []) ++ (2 ∷ row_bytes 0 2 3 0 0 ++ row_bytes 1 1 2 0 0 ++ (0 ∷ []))) 21
    ∷ []

-- "a fault 12 to 20 or 22" of a table value, in the same order, and 11 "ahead of 12" (02, Eight); "Places past row n, and board numbers past M, are ignored"
abbrev pub value_laws : List Law
value_laws =
    faulty half_and_third 0
    ∷ faulty (in_format 2 half_and_third) 0
    ∷ faulty (in_format 0 half_and_third) 11
    ∷ faulty (in_format 3 half_and_third) 11
    ∷ faulty (in_format 255 half_and_third) 11
    -- 11 and 12
    ∷ faulty (in_format 0 (box 0 2 [])) 11
    ∷ faulty (in_format 2 (box 0 2 [])) 12
    ∷ faulty (box 0 2 []) 12
    ∷ faulty (box 1_000_000 8 []) 0
    ∷ faulty (box 1_000_001 2 []) 12
    ∷ faulty (box 6 0 []) 13
    ∷ faulty (box 6 9 []) 13
    ∷ faulty (record { format = 1; cycle = 6; cores = 2; boards = 4 ∷ 4 ∷ 0 ∷ 0 ∷ 0 ∷ 0 ∷ 0 ∷ 0 ∷ []; n = 0; rows = replicate 32 zero_row }) 14
    ∷ faulty (record { format = 1; cycle = 6; cores = 2; boards = 4 ∷ 5 ∷ 0 ∷ 0 ∷ 0 ∷ 0 ∷ 0 ∷ 0 ∷ []; n = 32; rows = replicate 32 zero_row }) 17
    ∷ faulty (record { format = 1; cycle = 6; cores = 2; boards = 4 ∷ 5 ∷ 0 ∷ 0 ∷ 0 ∷ 0 ∷ 0 ∷ 0 ∷ []; n = 33; rows = replicate 32 zero_row }) 15
    ∷ faulty (record { format = 1; cycle = 6; cores = 2; boards = 4 ∷ 5 ∷ 0 ∷ 0 ∷ 0 ∷ 0 ∷ 0 ∷ 0 ∷ []; n = 1; rows = plain_row 9 1 3 ∷ replicate 31 zero_row }) 0
    ∷ faulty (box 6 2 (plain_row 7 1 3 ∷ plain_row 7 1 3 ∷ [])) 16
    ∷ faulty (box 6 2 (plain_row 0 0 3 ∷ [])) 17
    ∷ faulty (box 6 2 (plain_row 0 3 3 ∷ [])) 0
    ∷ faulty (box 6 2 (plain_row 0 1 4 ∷ [])) 19
    ∷ faulty (box 6 2 (record { tank = 0; cost = 1; period = 3; phase = 0; kind = 2 } ∷ [])) 20
    ∷ faulty (box 6 1 (plain_row 0 2 3 ∷ plain_row 1 1 2 ∷ [])) 22
    ∷ faulty (box 6 2 (plain_row 5 1 6 ∷ plain_row 9 1 6 ∷ plain_row 7 1 6 ∷ [])) 16
    ∷ faulty (box 6 2 (plain_row 0 4 3 ∷ [])) 18
    ∷ faulty (box 6 2 (plain_row 0 1 0 ∷ [])) 18
    ∷ faulty (box 6 2 (plain_row 0 3 3 ∷ plain_row 1 4 3 ∷ [])) 18
    ∷ faulty (box 6 2 (plain_row 0 4 4 ∷ [])) 19
    ∷ faulty (box 6 2 (plain_row 0 3 3 ∷ plain_row 1 6 6 ∷ [])) 0
    ∷ faulty (box 6 2 (plain_row 0 3 3 ∷ plain_row 1 6 6 ∷ plain_row 2 1 6 ∷ [])) 22
    ∷ faulty (box 6 2 (record { tank = 0; cost = 1; period = 3; phase = 0; kind = 255 } ∷ [])) 20
    ∷ faulty (record { format = 1; cycle = 6; cores = 3; boards = 1 ∷ 3 ∷ 2 ∷ 0 ∷ 0 ∷ 0 ∷ 0 ∷ 0 ∷ []; n = 0; rows = replicate 32 zero_row }) 14
    -- 12 and 13, 13 and 14, 14 and 15, 15 and 16, 16 and 17, 17 and 19, 18 and 19, 19 and 20, 20 and 22
    ∷ faulty (box 0 0 []) 12
    ∷ faulty (record { format = 1; cycle = 6; cores = 9; boards = replicate 8 0; n = 0; rows = replicate 32 zero_row }) 13
    ∷ faulty (record { format = 1; cycle = 6; cores = 8; boards = replicate 8 0; n = 33; rows = replicate 32 zero_row }) 14
    ∷ faulty (record { format = 1; cycle = 64; cores = 1; boards = replicate 8 0; n = 33; rows = replicate 32 (plain_row 5 1 64) }) 15
    ∷ faulty (box 6 2 (plain_row 7 1 3 ∷ plain_row 7 0 3 ∷ [])) 16
    ∷ faulty (box 6 2 (plain_row 0 0 0 ∷ [])) 17
    ∷ faulty (box 6 2 (plain_row 0 5 4 ∷ [])) 18
    ∷ faulty (box 6 2 (record { tank = 0; cost = 1; period = 4; phase = 0; kind = 2 } ∷ [])) 19
    ∷ faulty (box 6 1 (plain_row 0 2 3 ∷ record { tank = 1; cost = 1; period = 2; phase = 0; kind = 2 } ∷ [])) 20
    ∷ []
