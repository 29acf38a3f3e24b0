-- Laws of why a row waits (02, Two): part of specs/Laws.antt.
use Rattle.std.specs.Prelude.{List, [], ◌∷◌, true, false}
use Rattle.table.specs.declared.Table.{Table}
use Rattle.cores.specs.Placement.{placement}
use Rattle.demands.specs.Bench.{plain_row, early_release, box, three_cores}
use Rattle.demands.specs.Law.{Law, explains}
use Rattle.demands.specs.LawInputs.{state_of, remembering, half_and_third, camera_and_other, no_rows}
use Rattle.demands.specs.SlotLaws.{later_and_early, wild_past}

-- In slot 0 both have d 2; b is 0 and 1.
abbrev pub half_and_two_thirds : Table
half_and_two_thirds = box 6 2 (plain_row 0 1 2 ∷ plain_row 1 2 3 ∷ [])

-- In slot 3, with 0 and 2 quanta, both have d 4 and b 0; D is 0 and 4. With the rows turned round D is 4 and 0.
abbrev pub full_core : Table
full_core = box 4 1 (plain_row 0 1 4 ∷ plain_row 1 3 4 ∷ [])

abbrev pub full_core_turned : Table
full_core_turned = box 4 1 (plain_row 0 3 4 ∷ plain_row 1 1 4 ∷ [])

-- In slot 0 rows 0, 1 and 2 have d 2, with b 1, 0 and 1, and D 4 and 3 where b is 1; rows 3 and 4 have d 3 and b 0. So the order is 0, 2, 1, 3, 4.
abbrev pub each_rule : Table
each_rule = box 12 4 (plain_row 0 3 4 ∷ plain_row 1 1 2 ∷ plain_row 2 2 3 ∷ plain_row 3 1 3 ∷ plain_row 4 1 3 ∷ [])

-- a row that is due once in 65,535 slots
abbrev pub seldom : Table
seldom = box 65_535 1 (plain_row 0 1 65_535 ∷ [])

-- state, k and row; then the number, the reason (1 picked, 2 not ready, 3 no core free, 4 passed over), its slot, the row that is named, and the rule (1 deadline,
-- 2 bit, 3 group deadline, 4 row number)
abbrev pub why_laws : List Law
why_laws =
    -- "picked"; "or passed over .. the lowest-ranked picked row and the rule that put it ahead": by its deadline, its bit, its group deadline, its row number
    explains (state_of half_and_third 0 false []) 1 0 0 1 0 0 0
    ∷ explains (state_of half_and_third 0 false []) 1 1 0 4 0 0 1
    ∷ explains (state_of half_and_third 0 false []) 2 1 0 1 0 0 0
    ∷ explains (state_of half_and_two_thirds 0 false []) 1 0 0 4 0 1 2
    ∷ explains (state_of half_and_two_thirds 0 false []) 1 1 0 1 0 0 0
    -- (all three have d 2 and b 1; D is 3, 3 and 4: row 2 goes first, then row 0, then row 1)
    ∷ explains (state_of three_cores 0 false []) 1 0 0 4 0 2 3
    ∷ explains (state_of three_cores 0 false []) 1 1 0 4 0 2 3
    ∷ explains (state_of three_cores 0 false []) 1 2 0 1 0 0 0
    -- lowest-ranked is the last of the picked in the order: row 0, though row 2 is picked too and goes before row 1 by another rule
    ∷ explains (state_of three_cores 0 false []) 2 1 0 4 0 0 4
    ∷ explains (state_of three_cores 0 false []) 2 0 0 1 0 0 0
    ∷ explains (state_of three_cores 0 false []) 3 1 0 1 0 0 0
    -- and not the lowest number: rows 0 and 1 of three that are alike are picked
    ∷ explains (state_of (box 3 2 (plain_row 0 2 3 ∷ plain_row 1 2 3 ∷ plain_row 2 2 3 ∷ [])) 0 false []) 2 2 0 4 0 1 4
    -- a row with e = p (02, Six): in slot 0 it goes first by its deadline, in slot 1 it is due with row 1, whose b is 1; before its phase it is not ready
    ∷ explains (state_of camera_and_other 0 false []) 1 1 0 4 0 0 1
    ∷ explains (state_of camera_and_other 1 false (1 ∷ 0 ∷ [])) 1 0 0 4 0 1 2
    ∷ explains (state_of camera_and_other 1 false (1 ∷ 0 ∷ [])) 2 0 0 1 0 0 0
    ∷ explains (state_of (box 5 1 (record { tank = 0; cost = 5; period = 5; phase = 2; kind = 1 } ∷ [])) 1 false []) 1 0 0 2 2 0 0
    -- "if both have b = 1, larger D": with b = 0 the row number decides, though D differs, whichever is larger
    ∷ explains (state_of full_core 3 false (0 ∷ 2 ∷ [])) 1 1 0 4 0 0 4
    ∷ explains (state_of full_core 3 false (0 ∷ 2 ∷ [])) 1 0 0 1 0 0 0
    ∷ explains (state_of full_core_turned 3 false (2 ∷ 0 ∷ [])) 1 1 0 4 0 0 4
    -- the rule is the first that decides, between the named row and the row that is asked for: row 0 is ahead of row 2, the first that is left out, by its group deadline, of row 1 by
    -- its bit, and of row 3 by its deadline, though its bit and its D are larger too; and so are other rows that are named
    ∷ explains (state_of each_rule 0 false []) 1 2 0 4 0 0 3
    ∷ explains (state_of each_rule 0 false []) 1 1 0 4 0 0 2
    ∷ explains (state_of each_rule 0 false []) 1 3 0 4 0 0 1
    ∷ explains (state_of each_rule 0 false []) 2 1 0 4 0 2 2
    ∷ explains (state_of each_rule 0 false []) 3 4 0 4 0 1 1
    ∷ explains (state_of each_rule 0 false []) 4 4 0 4 0 3 4
    -- "not ready, with the first slot in which it will be": r of its next subtask, also of a row with a phase, also past the time limit
    ∷ explains (state_of half_and_third 1 false (1 ∷ 1 ∷ [])) 2 0 0 2 2 0 0
    ∷ explains (state_of half_and_third 1 false (1 ∷ 1 ∷ [])) 2 1 0 2 3 0 0
    ∷ explains (state_of later_and_early 0 false []) 2 0 0 2 4 0 0
    ∷ explains (state_of seldom 999_999_999_999 false (15_259_022 ∷ [])) 1 0 0 2 1_000_000_006_770 0 0
    ∷ explains (state_of seldom 1_000_000_000 false (15_260 ∷ [])) 1 0 0 2 1_000_064_100 0 0
    -- or the start of the job, of an early-release row: it is ready with it
    ∷ explains (state_of (box 6 1 (early_release 0 2 6 ∷ [])) 1 false (1 ∷ [])) 1 0 0 1 0 0 0
    ∷ explains (state_of (box 6 1 (plain_row 0 2 6 ∷ [])) 1 false (1 ∷ [])) 1 0 0 2 3 0 0
    ∷ explains (state_of (box 6 1 (early_release 0 2 6 ∷ [])) 2 false (2 ∷ [])) 1 0 0 2 6 0 0
    -- "no core free being said only of a ready row with k = 0"
    ∷ explains (state_of three_cores 0 false []) 0 0 0 3 0 0 0
    ∷ explains (state_of three_cores 0 false []) 0 2 0 3 0 0 0
    ∷ explains (state_of half_and_third 1 false (1 ∷ 1 ∷ [])) 0 0 0 2 2 0 0
    ∷ explains (state_of (box 6 1 (early_release 0 2 6 ∷ [])) 1 false (1 ∷ [])) 0 0 0 3 0 0 0
    -- 30, of its memory too (02, One), but not of one without fault; 31; 32; 33, "k above M"; "then 36 for a row number not below n", also where something stands there
    ∷ explains (state_of half_and_third 4 false (3 ∷ 2 ∷ [])) 1 0 30 0 0 0 0
    ∷ explains (remembering (state_of half_and_third 0 false []) (placement (0 ∷ []) (2 ∷ []))) 1 0 30 0 0 0 0
    ∷ explains (remembering (state_of half_and_third 0 false []) (placement (1 ∷ []) (1 ∷ []))) 1 0 0 1 0 0 0
    ∷ explains (state_of half_and_third 4 true (1 ∷ 1 ∷ [])) 1 0 31 0 0 0 0
    ∷ explains (state_of seldom 1_000_000_000_000 false (15_259_022 ∷ [])) 1 0 32 0 0 0 0
    ∷ explains (state_of seldom 1_000_000_000_001 false (15_259_022 ∷ [])) 1 0 30 0 0 0 0
    ∷ explains (state_of half_and_third 0 false []) 3 0 33 0 0 0 0
    ∷ explains (state_of half_and_third 0 false []) 255 0 33 0 0 0 0
    ∷ explains (state_of half_and_third 0 false []) 2 2 36 0 0 0 0
    ∷ explains (state_of half_and_third 0 false []) 0 255 36 0 0 0 0
    ∷ explains (state_of wild_past 0 false (0 ∷ 77 ∷ [])) 1 0 0 1 0 0 0
    ∷ explains (state_of wild_past 0 false (0 ∷ 77 ∷ [])) 1 1 36 0 0 0 0
    -- 30 and 31, 31 and 32, 32 and 33, 33 and 36
    ∷ explains (state_of (box 0 1 []) 0 true []) 1 0 30 0 0 0 0
    ∷ explains (state_of no_rows 1_000_000_000_000 true []) 1 0 31 0 0 0 0
    ∷ explains (state_of no_rows 1_000_000_000_000 false []) 2 0 32 0 0 0 0
    ∷ explains (state_of no_rows 0 false []) 2 0 33 0 0 0 0
    ∷ explains (state_of no_rows 0 false []) 1 0 36 0 0 0 0
    ∷ []
