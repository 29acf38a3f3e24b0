-- Laws of writing tables (02, Five): part of specs/Laws.antt.
use Rattle.std.specs.Prelude.{List, [], ◌∷◌, ◌++◌, map, drop, replicate}
use Rattle.facts.specs.Places.{places}
use Rattle.table.specs.declared.Table.{Table}
use Rattle.table.specs.Causes.{zero_row}
use Rattle.table.specs.Formats.{in_format}
use Rattle.demands.specs.Bench.{plain_row, box}
use Rattle.demands.specs.Law.{Law, writes, no_such_row}
use Rattle.demands.specs.LawInputs.{front, row_bytes, alike_rows, half_and_third, half_and_third_bytes}

-- 8 cores and 32 rows 1/64
abbrev pub full_box : Table
full_box = box 64 8 (map (λ tank. plain_row tank 1 64) (places 0 1 32))

-- a value, the bytes of the buffer; then the number, how many bytes are written, and what the buffer holds
abbrev pub write_laws : List Law
write_laws =
    -- the bytes, from the front of the buffer on; "the buffer past them stays as it was"
    writes half_and_third 27 0 27 half_and_third_bytes
    ∷ writes half_and_third 30 0 27 (half_and_third_bytes ++ (99 ∷ 99 ∷ 99 ∷ []))
    -- "37 if the buffer is too short for exactly the bytes needed"
    ∷ writes half_and_third 26 37 0 (replicate 26 99)
    ∷ writes half_and_third 0 37 0 []
    -- "12 to 20 in reading order, 22, then 37": with room and without
    ∷ writes (box 0 2 []) 9 12 0 (replicate 9 99)
    ∷ writes (box 0 2 []) 0 12 0 []
    ∷ writes (box 1_000_001 2 []) 0 12 0 []
    ∷ writes (box 4_294_967_295 2 []) 9 12 0 (replicate 9 99)
    ∷ writes (box 0 0 []) 0 12 0 []
    ∷ writes (box 6 0 []) 0 13 0 []
    ∷ writes (box 6 9 []) 0 13 0 []
    ∷ writes (box 6 255 []) 0 13 0 []
    ∷ writes (record { format = 1; cycle = 6; cores = 9; boards = replicate 8 0; n = 0; rows = replicate 32 zero_row }) 0 13 0 []
    ∷ writes (record { format = 1; cycle = 6; cores = 2; boards = 4 ∷ 4 ∷ 0 ∷ 0 ∷ 0 ∷ 0 ∷ 0 ∷ 0 ∷ []; n = 33; rows = replicate 32 zero_row }) 0 14 0 []
    ∷ writes (record { format = 1; cycle = 6; cores = 2; boards = 4 ∷ 5 ∷ 0 ∷ 0 ∷ 0 ∷ 0 ∷ 0 ∷ 0 ∷ []; n = 33; rows = replicate 32 zero_row }) 0 15 0 []
    ∷ writes (box 6 2 (plain_row 7 1 3 ∷ plain_row 7 0 3 ∷ [])) 0 16 0 []
    ∷ writes (box 6 2 (plain_row 0 0 0 ∷ [])) 0 17 0 []
    ∷ writes (box 6 2 (plain_row 0 5 4 ∷ [])) 0 18 0 []
    ∷ writes (box 6 2 (record { tank = 0; cost = 1; period = 4; phase = 0; kind = 2 } ∷ [])) 0 19 0 []
    ∷ writes (box 6 1 (plain_row 0 2 3 ∷ record { tank = 1; cost = 1; period = 2; phase = 0; kind = 2 } ∷ [])) 0 20 0 []
    ∷ writes (box 6 1 (plain_row 0 2 3 ∷ plain_row 1 1 2 ∷ [])) 0 22 0 []
    ∷ writes (box 6 1 (plain_row 0 2 3 ∷ plain_row 1 1 2 ∷ [])) 30 22 0 (replicate 30 99)
    -- "11 means neither 1 nor 2, for a table to be written too, ahead of 12" (02, Eight); format 2 is written
    ∷ writes (in_format 2 half_and_third) 27 0 27 (2 ∷ drop 1 half_and_third_bytes)
    ∷ writes (in_format 0 half_and_third) 27 11 0 (replicate 27 99)
    ∷ writes (in_format 3 (box 0 0 [])) 0 11 0 []
    ∷ writes (in_format 255 half_and_third) 0 11 0 []
    -- "18 means e above p" (02, Six): e = p is written
    ∷ writes (box 6 2 (plain_row 0 6 6 ∷ [])) 18 0 18 (front 6 (0 ∷ 1 ∷ []) ++ (1 ∷ row_bytes 0 6 6 0 0))
    -- the most bytes
    ∷ writes full_box 303 0 303 (front 64 (0 ∷ 1 ∷ 2 ∷ 3 ∷ 4 ∷ 5 ∷ 6 ∷ 7 ∷ []) ++ (32 ∷ alike_rows 64 0 32))
    ∷ writes full_box 302 37 0 (replicate 302 99)
    -- the fewest bytes, and what stands past M and n: it is neither judged nor written
    ∷ writes (record { format = 1; cycle = 1; cores = 1; boards = 255 ∷ 7 ∷ 7 ∷ 7 ∷ 7 ∷ 7 ∷ 7 ∷ 7 ∷ []; n = 0; rows = replicate 32 no_such_row }) 9 0 8
    (1 ∷ 1 ∷ 0 ∷ 0 ∷ 0 ∷ 1 ∷ 255 ∷ 0 ∷ 99 ∷ [])
    -- "Little-endian throughout": 1,000,000 is 64, 66, 15, 0, and 50,000 is 80, 195
    ∷ writes (record { format = 1; cycle = 1_000_000; cores = 2; boards = 0 ∷ 9 ∷ 3 ∷ 0 ∷ 0 ∷ 0 ∷ 0 ∷ 0 ∷ []; n = 1; rows = record { tank = 65_534; cost = 259; period = 50_000; phase = 65_535; kind = 1 } ∷ replicate 31 no_such_row }) 18 0 18
    (1 ∷ 64 ∷ 66 ∷ 15 ∷ 0 ∷ 2 ∷ 0 ∷ 9 ∷ 1 ∷ 254 ∷ 255 ∷ 3 ∷ 1 ∷ 80 ∷ 195 ∷ 255 ∷ 255 ∷ 1 ∷ [])
    ∷ []
