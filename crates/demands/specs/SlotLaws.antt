-- Laws of a slot (01, "What comes back", "Share"; 02, One, for 35, and Seven, for the time limit): part of specs/Laws.antt.
use Rattle.std.specs.Prelude.{List, [], ◌∷◌, ◌++◌, true, false, replicate}
use Rattle.table.specs.declared.Row.{Row}
use Rattle.table.specs.declared.Table.{Table}
use Rattle.table.specs.Bytes.{table_in}
use Rattle.table.specs.Example.{example}
use Rattle.trace.specs.Said.{bare, named}
use Rattle.demands.specs.Bench.{plain_row, early_release, box, three_cores}
use Rattle.demands.specs.Law.{Law, slot, leaves}
use Rattle.demands.specs.LawInputs.{rising_rows, state_of, half_and_third, camera_and_other, no_rows}

-- a row of phase 4 and one of early release
abbrev pub later_and_early : Table
later_and_early = box 6 2 (record { tank = 3; cost = 2; period = 3; phase = 4; kind = 0 } ∷ early_release 5 2 6 ∷ [])

-- a row of early release and phase 3, and one of the largest phase
abbrev pub early_later : Row
early_later = record { tank = 0; cost = 2; period = 6; phase = 3; kind = 1 }

abbrev pub far_row : Row
far_row = record { tank = 0; cost = 1; period = 2; phase = 65_535; kind = 0 }

-- one core, and five rows of 1/5
abbrev pub five_fifths : Table
five_fifths = box 5 1 (plain_row 0 1 5 ∷ plain_row 1 1 5 ∷ plain_row 2 1 5 ∷ plain_row 3 1 5 ∷ plain_row 4 1 5 ∷ [])

-- 31 rows of phase 100, and a row 31 of 1/2
abbrev pub many_rows : Table
many_rows =
    record {
      format = 1;
      cycle = 64;
      cores = 8;
      boards = 0 ∷ 1 ∷ 2 ∷ 3 ∷ 4 ∷ 5 ∷ 6 ∷ 7 ∷ [];
      n = 32;
      rows = rising_rows 0 31 ++ (plain_row 31 1 2 ∷ []);
    }

-- a table of one row, with wild places past it and past its one core
abbrev pub wild_past : Table
wild_past =
    record {
      format = 1;
      cycle = 2;
      cores = 1;
      boards = 7 ∷ 7 ∷ 7 ∷ 7 ∷ 7 ∷ 7 ∷ 7 ∷ 7 ∷ [];
      n = 1;
      rows = plain_row 9 1 2 ∷ replicate 31 (record { tank = 0; cost = 9; period = 0; phase = 0; kind = 9 });
    }

-- 0, 1, 30 to 32, 34 and 35 of a slot
abbrev pub slot_laws : List Law
slot_laws =
    -- 0, "done": "the record stands at the given place in the lent buffer, every other byte is as before, time is one higher, each picked row has one quantum
    -- more"; k need not be c
    slot (state_of half_and_third 0 false []) 2 5 1 (bare 0)
    ∷ leaves (state_of half_and_third 0 false []) 2 6 1 (99 ∷ 2 ∷ 2 ∷ 0 ∷ 1 ∷ 99 ∷ []) 1 false (1 ∷ 1 ∷ [])
    ∷ leaves (state_of half_and_third 1 false (1 ∷ 1 ∷ [])) 2 2 0 (2 ∷ 0 ∷ []) 2 false (1 ∷ 1 ∷ [])
    ∷ leaves (state_of half_and_third 0 false []) 1 3 0 (1 ∷ 1 ∷ 0 ∷ []) 1 false (1 ∷ 0 ∷ [])
    ∷ leaves (state_of half_and_third 0 false []) 2 20 9 (replicate 9 99 ++ ((2 ∷ 2 ∷ 0 ∷ 1 ∷ []) ++ replicate 7 99)) 1 false (1 ∷ 1 ∷ [])
    -- "then the lower row number": of rows 3 and 4 row 3; a row that is ready at once
    ∷ leaves (state_of five_fifths 3 false (1 ∷ 1 ∷ 1 ∷ [])) 1 3 0 (1 ∷ 1 ∷ 3 ∷ []) 4 false (1 ∷ 1 ∷ 1 ∷ 1 ∷ 0 ∷ [])
    ∷ leaves (state_of (box 100 1 (plain_row 0 1 100 ∷ [])) 0 false []) 1 3 0 (1 ∷ 1 ∷ 0 ∷ []) 1 false (1 ∷ [])
    -- a row that has not begun at time 100 is not late without a core
    ∷ slot (state_of (box 2 1 (record { tank = 0; cost = 1; period = 2; phase = 200; kind = 0 } ∷ [])) 100 false []) 0 2 0 (bare 0)
    -- 1, "some row is late at the new time; names the lowest such row and that time"; "with 1 the state is also stopped"
    ∷ slot (state_of half_and_third 2 false (1 ∷ 0 ∷ [])) 0 2 0 (named 1 1 3)
    ∷ leaves (state_of half_and_third 2 false (1 ∷ 0 ∷ [])) 0 2 0 (0 ∷ 0 ∷ []) 3 true (1 ∷ 0 ∷ [])
    ∷ slot (state_of half_and_third 5 false (2 ∷ 1 ∷ [])) 0 2 0 (named 1 0 6)
    ∷ slot (state_of many_rows 1 false []) 0 2 0 (named 1 31 2)
    -- "phase f": before it nothing is asked of a row and nothing given, of early release too
    ∷ leaves (state_of (box 6 1 (early_later ∷ [])) 0 false []) 1 2 0 (1 ∷ 0 ∷ []) 1 false (0 ∷ [])
    ∷ leaves (state_of (box 6 1 (early_later ∷ [])) 4 false (1 ∷ [])) 1 3 0 (1 ∷ 1 ∷ 0 ∷ []) 5 false (2 ∷ [])
    ∷ leaves (state_of (box 2 1 (far_row ∷ [])) 65_534 false []) 1 2 0 (1 ∷ 0 ∷ []) 65_535 false (0 ∷ [])
    ∷ leaves (state_of (box 2 1 (far_row ∷ [])) 65_535 false []) 1 3 0 (1 ∷ 1 ∷ 0 ∷ []) 65_536 false (1 ∷ [])
    ∷ leaves (state_of later_and_early 0 false []) 2 3 0 (2 ∷ 1 ∷ 1 ∷ []) 1 false (0 ∷ 1 ∷ [])
    ∷ leaves (state_of later_and_early 3 false (0 ∷ 2 ∷ [])) 2 2 0 (2 ∷ 0 ∷ []) 4 false (0 ∷ 2 ∷ [])
    ∷ leaves (state_of later_and_early 4 false (0 ∷ 2 ∷ [])) 2 3 0 (2 ∷ 1 ∷ 0 ∷ []) 5 false (1 ∷ 2 ∷ [])
    ∷ slot (state_of later_and_early 5 false (0 ∷ 2 ∷ [])) 0 2 0 (named 1 0 6)
    -- "if both have b = 1, larger D": at time 1 row 0 has d 3 and D 4, row 1, of phase 1, has d 3 and D 5
    ∷ leaves (state_of (box 4 2 (plain_row 0 3 4 ∷ record { tank = 1; cost = 3; period = 4; phase = 1; kind = 0 } ∷ [])) 1 false (1 ∷ [])) 1 3 0 (1 ∷ 1 ∷ 1 ∷ []) 2 false (1 ∷ 1 ∷ [])
    -- "if both have b = 1": of two with b = 0 and d 4 the lower row number, though row 1, of weight one half, has D 4 and row 0 has 0
    ∷ leaves (state_of (box 4 1 (plain_row 0 1 4 ∷ plain_row 1 2 4 ∷ [])) 2 false (0 ∷ 1 ∷ [])) 1 3 0 (1 ∷ 1 ∷ 0 ∷ []) 3 false (1 ∷ 1 ∷ [])
    -- a row with e = p (02, Six) has b = 0: of two with d 2 the other goes first, by "b = 1 before b = 0", and the row is late
    ∷ leaves (state_of camera_and_other 1 false (1 ∷ 0 ∷ [])) 1 3 0 (1 ∷ 1 ∷ 1 ∷ []) 2 true (1 ∷ 1 ∷ [])
    ∷ slot (state_of camera_and_other 1 false (1 ∷ 0 ∷ [])) 1 3 0 (named 1 0 2)
    ∷ leaves (state_of camera_and_other 1 false (1 ∷ 0 ∷ [])) 2 4 0 (2 ∷ 2 ∷ 0 ∷ 1 ∷ []) 2 false (2 ∷ 1 ∷ [])
    -- "Places past row n, and board numbers past M, are ignored and returned as they came."
    ∷ leaves (state_of wild_past 0 false (0 ∷ 77 ∷ [])) 1 3 0 (1 ∷ 1 ∷ 0 ∷ []) 1 false (1 ∷ 77 ∷ 0 ∷ [])
    -- 30: "if its table has a fault",
    ∷ slot (state_of (box 6 2 (plain_row 0 0 3 ∷ [])) 0 false []) 1 9 0 (bare 30)
    ∷ slot (state_of (box 6 1 (plain_row 0 2 3 ∷ plain_row 1 1 2 ∷ [])) 1 false (1 ∷ [])) 1 9 0 (bare 30)
    ∷ slot (state_of (box 6 2 (plain_row 0 4 3 ∷ [])) 0 false []) 1 9 0 (bare 30)
    ∷ slot (state_of (box 6 2 (plain_row 0 3 3 ∷ [])) 0 false []) 1 9 0 (bare 0)
    -- "if time is above 1,000,000,000", and 32, "time is already 1,000,000,000", with the limit of Seven, 1,000,000,000,000 (02): also with quanta that fit
    ∷ slot (state_of no_rows 1_000_000_000_001 false []) 1 9 0 (bare 30)
    ∷ slot (state_of no_rows 1_000_000_000_001 true []) 1 9 0 (bare 30)
    ∷ slot (state_of no_rows 1_000_000_000_000 false []) 1 9 0 (bare 32)
    ∷ slot (state_of no_rows 999_999_999_999 false []) 1 9 0 (bare 0)
    ∷ slot (state_of half_and_third 1_000_000_000_001 false (500_000_000_000 ∷ 333_333_333_334 ∷ [])) 2 9 0 (bare 30)
    ∷ slot (state_of half_and_third 1_000_000_000_000 false (500_000_000_000 ∷ 333_333_333_334 ∷ [])) 2 9 0 (bare 32)
    ∷ leaves (state_of half_and_third 999_999_999_999 false (499_999_999_999 ∷ 333_333_333_333 ∷ [])) 2 4 0 (2 ∷ 2 ∷ 0 ∷ 1 ∷ []) 1_000_000_000_000 false (500_000_000_000 ∷ 333_333_333_334 ∷ [])
    -- in the last slots a row is late, or goes first by its deadline, by its group deadline, or by its number, as in any
    ∷ slot (state_of half_and_third 999_999_999_999 false (499_999_999_999 ∷ 333_333_333_333 ∷ [])) 0 9 0 (named 1 0 1_000_000_000_000)
    ∷ leaves (state_of half_and_third 999_999_999_999 false (499_999_999_999 ∷ 333_333_333_333 ∷ [])) 1 3 0 (1 ∷ 1 ∷ 0 ∷ []) 1_000_000_000_000 false (500_000_000_000 ∷ 333_333_333_333 ∷ [])
    ∷ leaves (state_of three_cores 999_999_999_996 false (666_666_666_664 ∷ 666_666_666_664 ∷ 749_999_999_997 ∷ [])) 1 3 0 (1 ∷ 1 ∷ 2 ∷ []) 999_999_999_997 false (666_666_666_664 ∷ 666_666_666_664 ∷ 749_999_999_998 ∷ [])
    ∷ leaves (state_of (table_in example) 999_999_999_999 false (666_666_666_666 ∷ 666_666_666_666 ∷ 666_666_666_666 ∷ [])) 2 4 0 (2 ∷ 2 ∷ 0 ∷ 1 ∷ []) 1_000_000_000_000 false (666_666_666_667 ∷ 666_666_666_667 ∷ 666_666_666_666 ∷ [])
    -- "The time limit rises" (02, Seven): at the limit of 01, past it, and past 32 bits a slot is as any other
    ∷ leaves (state_of half_and_third 1_000_000_000 false (500_000_000 ∷ 333_333_333 ∷ [])) 2 4 0 (2 ∷ 2 ∷ 0 ∷ 1 ∷ []) 1_000_000_001 false (500_000_001 ∷ 333_333_334 ∷ [])
    ∷ slot (state_of no_rows 1_000_000_001 false []) 1 9 0 (bare 0)
    ∷ slot (state_of half_and_third 4_294_967_295 false (2_147_483_647 ∷ 1_431_655_765 ∷ [])) 0 9 0 (named 1 0 4_294_967_296)
    ∷ leaves (state_of half_and_third 4_294_967_296 false (2_147_483_648 ∷ 1_431_655_765 ∷ [])) 2 4 0 (2 ∷ 2 ∷ 0 ∷ 1 ∷ []) 4_294_967_297 false (2_147_483_649 ∷ 1_431_655_766 ∷ [])
    -- "if a row's quanta exceed time" (also of a stopped state),
    ∷ slot (state_of (box 6 1 (early_release 0 3 6 ∷ [])) 1 false (2 ∷ [])) 1 9 0 (bare 30)
    ∷ slot (state_of (box 6 1 (early_release 0 3 6 ∷ [])) 1 true (2 ∷ [])) 1 9 0 (bare 30)
    ∷ slot (state_of half_and_third 4 true (2 ∷ 5 ∷ [])) 1 9 0 (bare 30)
    ∷ slot (state_of (box 6 1 (early_release 0 3 6 ∷ [])) 2 false (2 ∷ [])) 1 9 0 (bare 0)
    -- "or if it is not stopped and some row is outside its share at its time": one quantum too few, just enough, as many as can be, one too many
    ∷ slot (state_of half_and_third 4 false (1 ∷ 1 ∷ [])) 1 9 0 (bare 30)
    ∷ slot (state_of half_and_third 4 false (2 ∷ 1 ∷ [])) 1 9 0 (bare 0)
    ∷ slot (state_of half_and_third 4 false (2 ∷ 2 ∷ [])) 1 9 0 (bare 0)
    ∷ slot (state_of half_and_third 4 false (3 ∷ 2 ∷ [])) 1 9 0 (bare 30)
    ∷ slot (state_of half_and_third 4 false (2 ∷ [])) 1 9 0 (bare 30)
    ∷ slot (state_of (box 6 1 (early_release 0 3 6 ∷ [])) 4 false (1 ∷ [])) 1 9 0 (bare 30)
    ∷ slot (state_of (box 6 1 (early_release 0 3 6 ∷ [])) 6 false (4 ∷ [])) 1 9 0 (bare 30)
    ∷ slot (state_of (box 6 1 (early_release 0 3 6 ∷ [])) 7 false (4 ∷ [])) 1 9 0 (bare 0)
    ∷ slot (state_of (box 6 1 (early_release 0 3 6 ∷ [])) 4 false (3 ∷ [])) 1 9 0 (bare 0)
    ∷ slot (state_of (box 6 1 (early_release 0 3 6 ∷ [])) 4 false (4 ∷ [])) 1 9 0 (bare 30)
    ∷ slot (state_of (box 6 1 (plain_row 0 3 3 ∷ [])) 4 false (3 ∷ [])) 1 9 0 (bare 30)
    ∷ slot (state_of (box 6 1 (plain_row 0 3 3 ∷ [])) 4 false (4 ∷ [])) 1 9 0 (bare 0)
    ∷ slot (state_of (box 6 1 (early_release 0 3 3 ∷ [])) 4 false (3 ∷ [])) 1 9 0 (bare 30)
    ∷ slot (state_of (box 5 1 (record { tank = 0; cost = 5; period = 5; phase = 2; kind = 1 } ∷ [])) 4 false (4 ∷ [])) 1 9 0 (bare 0)
    ∷ slot (state_of (box 5 1 (record { tank = 0; cost = 5; period = 5; phase = 2; kind = 0 } ∷ [])) 4 false (4 ∷ [])) 1 9 0 (bare 30)
    -- 31, "state stopped by an earlier 1": also outside its share
    ∷ slot (state_of half_and_third 4 true (1 ∷ 1 ∷ [])) 1 9 0 (bare 31)
    -- 35, "a set naming a core not below M" (02, One): the first k cores, where k is above M
    ∷ slot (state_of half_and_third 0 false []) 3 9 0 (bare 35)
    ∷ slot (state_of many_rows 0 false []) 8 10 0 (bare 0)
    ∷ slot (state_of many_rows 0 false []) 9 99 0 (bare 35)
    ∷ slot (state_of many_rows 0 false []) 255 99 0 (bare 35)
    -- 34, "the place is past the buffer's end, or fewer than 2 + c bytes remain after it"
    ∷ slot (state_of no_rows 0 false []) 1 2 0 (bare 0)
    ∷ slot (state_of no_rows 0 false []) 1 1 0 (bare 34)
    ∷ slot (state_of half_and_third 0 false []) 2 9 5 (bare 0)
    ∷ slot (state_of half_and_third 0 false []) 2 9 6 (bare 34)
    ∷ slot (state_of half_and_third 0 false []) 2 9 10 (bare 34)
    -- "With 30 to 34 the state returns equal and the buffer is untouched."
    ∷ leaves (state_of half_and_third 0 false []) 2 3 0 (99 ∷ 99 ∷ 99 ∷ []) 0 false (0 ∷ 0 ∷ [])
    -- "Order for a slot: 30, 31, 32, 33, 34", with 35 "in the place of 33": 30 and 31, 31 and 32, 32 and 35, 35 and 34; and 34 where the slot would be late
    ∷ slot (state_of (box 0 1 []) 0 true []) 1 9 0 (bare 30)
    ∷ slot (state_of no_rows 1_000_000_000_000 true []) 1 9 0 (bare 31)
    ∷ slot (state_of no_rows 1_000_000_000_000 false []) 2 9 0 (bare 32)
    ∷ slot (state_of no_rows 0 false []) 2 0 1 (bare 35)
    ∷ slot (state_of half_and_third 2 false (1 ∷ 0 ∷ [])) 0 1 0 (bare 34)
    ∷ []
