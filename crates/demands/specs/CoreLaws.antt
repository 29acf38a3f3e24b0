-- Laws of the cores (02, One): part of specs/Laws.antt.
use Rattle.std.specs.Prelude.{ℕ, List, [], ◌∷◌, true, false, replicate}
use Rattle.table.specs.declared.Table.{Table}
use Rattle.trace.specs.Said.{bare, named}
use Rattle.cores.specs.declared.Placement.{Placement}
use Rattle.cores.specs.Placement.{placement}
use Rattle.dispatcher.specs.declared.State.{State}
use Rattle.demands.specs.Bench.{plain_row, early_release, box}
use Rattle.demands.specs.Law.{Law, places, refuses}
use Rattle.demands.specs.LawInputs.{state_of, remembering, set_of}

-- four cores, and three rows of early release that are ready in slots 0 to 2: with three cores free all of them are picked, with one row 0
abbrev pub three_ready : Table
three_ready = box 6 4 (early_release 0 3 6 ∷ early_release 1 3 6 ∷ early_release 2 3 6 ∷ [])

-- one slot after its start, with any memory: most of these states no run of slots comes to, but none of them is broken by that
abbrev pub after_one : List ℕ → List ℕ → State
after_one rows cores = remembering (state_of three_ready 1 false (1 ∷ 1 ∷ 1 ∷ [])) (placement rows cores)

-- eight cores, and eight such rows
abbrev pub eight_ready : Table
eight_ready =
    box 6 8
    (early_release 0 3 6 ∷ early_release 1 3 6 ∷ early_release 2 3 6 ∷ early_release 3 3 6 ∷ early_release 4 3 6 ∷ early_release 5 3 6 ∷ early_release 6 3 6 ∷ early_release 7 3 6 ∷ [])

abbrev pub eight_after : Placement → State
eight_after last = remembering (state_of eight_ready 1 false (replicate 8 1)) last

abbrev pub eight : List ℕ
eight = 0 ∷ 1 ∷ 2 ∷ 3 ∷ 4 ∷ 5 ∷ 6 ∷ 7 ∷ []

-- a memory of all eight places, with a count of its own
abbrev pub counting : ℕ → Placement
counting count = record { count = count; rows = eight; cores = eight }

abbrev pub core_laws : List Law
core_laws =
    -- "fresh, none": all rows are new, "smaller at the first difference"; the free cores need not be the first
    places (state_of three_ready 0 false []) (set_of (0 ∷ 1 ∷ 2 ∷ [])) 10 (bare 0) (0 ∷ 1 ∷ 2 ∷ []) (0 ∷ 1 ∷ 2 ∷ [])
    ∷ places (state_of three_ready 0 false []) (set_of (1 ∷ 2 ∷ 3 ∷ [])) 10 (bare 0) (0 ∷ 1 ∷ 2 ∷ []) (1 ∷ 2 ∷ 3 ∷ [])
    ∷ places (state_of three_ready 0 false []) (set_of (2 ∷ [])) 10 (bare 0) (0 ∷ []) (2 ∷ [])
    -- "the fewest": rows stay where they ran, also where a lower core is free,
    ∷ places (after_one (0 ∷ 1 ∷ 2 ∷ []) (3 ∷ 2 ∷ 1 ∷ [])) (set_of (0 ∷ 1 ∷ 2 ∷ 3 ∷ [])) 10 (bare 0) (0 ∷ 1 ∷ 2 ∷ []) (3 ∷ 2 ∷ 1 ∷ [])
    -- a new row does not take the core of one that stays, nor does one that must move;
    ∷ places (after_one (1 ∷ []) (0 ∷ [])) (set_of (0 ∷ 1 ∷ 2 ∷ [])) 10 (bare 0) (0 ∷ 1 ∷ 2 ∷ []) (1 ∷ 0 ∷ 2 ∷ [])
    ∷ places (after_one (0 ∷ 1 ∷ []) (0 ∷ 1 ∷ [])) (set_of (1 ∷ 2 ∷ 3 ∷ [])) 10 (bare 0) (0 ∷ 1 ∷ 2 ∷ []) (2 ∷ 1 ∷ 3 ∷ [])
    -- the core of a row that is not picked is as free as any: with one core row 0 alone runs;
    ∷ places (after_one (2 ∷ []) (0 ∷ [])) (set_of (0 ∷ [])) 10 (bare 0) (0 ∷ []) (0 ∷ [])
    -- the cores of the memory need not rise; its rows do (02, Eight)
    ∷ places (after_one (0 ∷ 2 ∷ []) (1 ∷ 0 ∷ [])) (set_of (0 ∷ 1 ∷ 3 ∷ [])) 10 (bare 0) (0 ∷ 1 ∷ 2 ∷ []) (1 ∷ 3 ∷ 0 ∷ [])
    ∷ refuses (after_one (2 ∷ 0 ∷ []) (0 ∷ 1 ∷ [])) (set_of (0 ∷ 1 ∷ 3 ∷ [])) 10 30
    -- "The state remembers which row ran on which core in the last slot": a slot that picks nobody leaves nobody, also with 1
    ∷ places (after_one (0 ∷ []) (2 ∷ [])) (set_of []) 10 (bare 0) [] []
    ∷ places (remembering (state_of (box 2 1 (plain_row 0 1 2 ∷ [])) 1 false []) (placement (0 ∷ []) (0 ∷ []))) (set_of []) 10 (named 1 0 2) [] []
    -- "35 for a set naming a core not below M": the core M, and cores past the eight that a box can have, with 8 cores too
    ∷ refuses (after_one (1 ∷ []) (2 ∷ [])) (set_of (0 ∷ 4 ∷ [])) 10 35
    ∷ refuses (state_of (box 6 8 (early_release 0 3 6 ∷ [])) 0 false []) (set_of (0 ∷ 8 ∷ [])) 10 35
    ∷ refuses (state_of (box 6 8 (early_release 0 3 6 ∷ [])) 0 false []) (set_of (31 ∷ [])) 10 35
    ∷ places (state_of (box 6 8 (early_release 0 3 6 ∷ [])) 0 false []) (set_of (7 ∷ [])) 10 (bare 0) (0 ∷ []) (7 ∷ [])
    -- 35 goes before 34, and 31 before 35; without either, 34
    ∷ refuses (after_one (1 ∷ []) (2 ∷ [])) (set_of (4 ∷ [])) 0 35
    ∷ refuses (remembering (state_of three_ready 1 true (1 ∷ 1 ∷ 1 ∷ [])) (placement (1 ∷ []) (2 ∷ []))) (set_of (4 ∷ [])) 10 31
    ∷ refuses (after_one (1 ∷ []) (2 ∷ [])) (set_of (0 ∷ [])) 2 34
    -- "30 also for a remembered core not below M or given to two rows", of a stopped state too,
    ∷ refuses (after_one (0 ∷ []) (4 ∷ [])) (set_of (0 ∷ [])) 10 30
    ∷ places (after_one (0 ∷ []) (3 ∷ [])) (set_of (0 ∷ [])) 10 (bare 0) (0 ∷ []) (0 ∷ [])
    ∷ refuses (after_one (0 ∷ 1 ∷ []) (2 ∷ 2 ∷ [])) (set_of (0 ∷ [])) 10 30
    ∷ refuses (remembering (state_of three_ready 1 true (1 ∷ 1 ∷ 1 ∷ [])) (placement (0 ∷ []) (4 ∷ []))) (set_of (0 ∷ [])) 10 30
    -- "or a remembered row not below n or on two cores"; one pair that stands twice,
    ∷ refuses (after_one (3 ∷ []) (0 ∷ [])) (set_of (0 ∷ [])) 10 30
    ∷ places (after_one (2 ∷ []) (1 ∷ [])) (set_of (0 ∷ [])) 10 (bare 0) (0 ∷ []) (0 ∷ [])
    ∷ refuses (after_one (1 ∷ 1 ∷ []) (0 ∷ 1 ∷ [])) (set_of (0 ∷ [])) 10 30
    ∷ refuses (after_one (0 ∷ 0 ∷ []) (0 ∷ 0 ∷ [])) (set_of (0 ∷ [])) 10 30
    -- eight rows stay in all eight places of a memory, on whichever cores they ran; two of three rows must move, and do not take the core of the third
    ∷ places (eight_after (placement eight (7 ∷ 6 ∷ 5 ∷ 4 ∷ 3 ∷ 2 ∷ 1 ∷ 0 ∷ []))) (set_of eight) 10 (bare 0) eight (7 ∷ 6 ∷ 5 ∷ 4 ∷ 3 ∷ 2 ∷ 1 ∷ 0 ∷ [])
    ∷ places (eight_after (placement (0 ∷ 1 ∷ 2 ∷ []) (6 ∷ 7 ∷ 1 ∷ []))) (set_of (1 ∷ 2 ∷ 3 ∷ [])) 10 (bare 0) (0 ∷ 1 ∷ 2 ∷ []) (2 ∷ 3 ∷ 1 ∷ [])
    -- a count above the eight places, which by themselves have no fault; what stands past the count is ignored
    ∷ places (eight_after (counting 8)) (set_of (0 ∷ [])) 10 (bare 0) (0 ∷ []) (0 ∷ [])
    ∷ refuses (eight_after (counting 9)) (set_of (0 ∷ [])) 10 30
    ∷ refuses (eight_after (counting 255)) (set_of (0 ∷ [])) 10 30
    ∷ places (eight_after (record { count = 1; rows = 0 ∷ replicate 7 99; cores = 2 ∷ replicate 7 99 })) (set_of (0 ∷ 1 ∷ 2 ∷ [])) 10 (bare 0) (0 ∷ 1 ∷ 2 ∷ []) (2 ∷ 0 ∷ 1 ∷ [])
    ∷ []
