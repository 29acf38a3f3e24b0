-- Laws of format 2 (02, Eight): part of specs/Laws.antt.
use Rattle.std.specs.Prelude.{ℕ, List, [], ◌∷◌, true, false}
use Rattle.table.specs.declared.Table.{Table}
use Rattle.table.specs.Formats.{in_format}
use Rattle.trace.specs.Said.{bare, named}
use Rattle.cores.specs.Placement.{placement}
use Rattle.dispatcher.specs.declared.State.{State}
use Rattle.dispatcher.specs.State.{fresh_of}
use Rattle.demands.specs.Bench.{plain_row, early_release, box, three_cores}
use Rattle.demands.specs.Law.{Law, places, refuses, explains}
use Rattle.demands.specs.LawInputs.{state_of, remembering, set_of, half_and_third}
use Rattle.demands.specs.WhyLaws.{half_and_two_thirds, full_core}

-- four rows of 1/2 on two cores
abbrev pub four_halves : Table
four_halves = box 2 2 (plain_row 0 1 2 ∷ plain_row 1 1 2 ∷ plain_row 2 1 2 ∷ plain_row 3 1 2 ∷ [])

-- at time 2, with a quantum each: all have d 4 and b 0, and tie fully
abbrev pub halves_after : ℕ → List ℕ → List ℕ → State
halves_after format rows cores = remembering (state_of (in_format format four_halves) 2 false (1 ∷ 1 ∷ 1 ∷ 1 ∷ [])) (placement rows cores)

-- a table of format 2, with a memory
abbrev pub kind_after : Table → ℕ → List ℕ → List ℕ → State
kind_after table time quanta rows = remembering (state_of (in_format 2 table) time false quanta) (placement rows (0 ∷ []))

abbrev pub kind_laws : List Law
kind_laws =
    -- "among full ties, a row picked in the previous slot goes first, then the lower row number"; in format 1 the lower row number
    places (halves_after 2 (2 ∷ 3 ∷ []) (0 ∷ 1 ∷ [])) (set_of (0 ∷ 1 ∷ [])) 10 (bare 0) (2 ∷ 3 ∷ []) (0 ∷ 1 ∷ [])
    ∷ places (halves_after 1 (2 ∷ 3 ∷ []) (0 ∷ 1 ∷ [])) (set_of (0 ∷ 1 ∷ [])) 10 (bare 0) (0 ∷ 1 ∷ []) (0 ∷ 1 ∷ [])
    ∷ places (halves_after 2 (1 ∷ 3 ∷ []) (1 ∷ 0 ∷ [])) (set_of (0 ∷ 1 ∷ [])) 10 (bare 0) (1 ∷ 3 ∷ []) (1 ∷ 0 ∷ [])
    ∷ places (halves_after 2 (3 ∷ []) (1 ∷ [])) (set_of (0 ∷ 1 ∷ [])) 10 (bare 0) (0 ∷ 3 ∷ []) (0 ∷ 1 ∷ [])
    -- of two that ran the lower, whether its core is free or not
    ∷ places (halves_after 2 (2 ∷ 3 ∷ []) (1 ∷ 0 ∷ [])) (set_of (1 ∷ [])) 10 (bare 0) (2 ∷ []) (1 ∷ [])
    ∷ places (halves_after 2 (2 ∷ 3 ∷ []) (1 ∷ 0 ∷ [])) (set_of (0 ∷ [])) 10 (bare 0) (2 ∷ []) (0 ∷ [])
    -- after a slot that picked nobody, and "fresh, there are none"
    ∷ places (fresh_of (in_format 2 four_halves)) (set_of (0 ∷ 1 ∷ [])) 10 (bare 0) (0 ∷ 1 ∷ []) (0 ∷ 1 ∷ [])
    ∷ places (halves_after 2 [] []) (set_of (0 ∷ 1 ∷ [])) 10 (bare 0) (0 ∷ 1 ∷ []) (0 ∷ 1 ∷ [])
    -- no full tie: the smaller d, b = 1 before b = 0, the larger D go first, whoever ran; of two that tie behind them the one that ran
    ∷ places (kind_after half_and_third 0 [] (1 ∷ [])) (set_of (0 ∷ [])) 10 (bare 0) (0 ∷ []) (0 ∷ [])
    ∷ places (kind_after half_and_two_thirds 0 [] (0 ∷ [])) (set_of (0 ∷ [])) 10 (bare 0) (1 ∷ []) (0 ∷ [])
    ∷ places (kind_after three_cores 0 [] (1 ∷ [])) (set_of (0 ∷ [])) 10 (bare 0) (2 ∷ []) (0 ∷ [])
    ∷ places (kind_after three_cores 0 [] (1 ∷ [])) (set_of (0 ∷ 1 ∷ [])) 10 (bare 0) (1 ∷ 2 ∷ []) (0 ∷ 1 ∷ [])
    -- "if both have b = 1": with b = 0 it is a full tie, though D differs; the row that waits is late then
    ∷ places (kind_after full_core 3 (0 ∷ 2 ∷ []) (1 ∷ [])) (set_of (0 ∷ [])) 10 (named 1 0 4) (1 ∷ []) (0 ∷ [])
    ∷ places (kind_after full_core 3 (0 ∷ 2 ∷ []) []) (set_of (0 ∷ [])) 10 (named 1 1 4) (0 ∷ []) (0 ∷ [])
    -- 30, in both formats: "remembered rows .. not rising, or a count of them above M"; "for such a format", of a stopped state too
    ∷ refuses (halves_after 2 (3 ∷ 2 ∷ []) (0 ∷ 1 ∷ [])) (set_of (0 ∷ [])) 10 30
    ∷ refuses (halves_after 1 (3 ∷ 2 ∷ []) (0 ∷ 1 ∷ [])) (set_of (0 ∷ [])) 10 30
    ∷ refuses (halves_after 1 (2 ∷ 2 ∷ []) (0 ∷ 1 ∷ [])) (set_of (0 ∷ [])) 10 30
    ∷ refuses (halves_after 2 (0 ∷ 1 ∷ 2 ∷ []) (0 ∷ 1 ∷ 1 ∷ [])) (set_of (0 ∷ [])) 10 30
    ∷ refuses (halves_after 0 [] []) (set_of (0 ∷ [])) 10 30
    ∷ refuses (halves_after 3 [] []) (set_of (0 ∷ [])) 10 30
    ∷ refuses (remembering (state_of (in_format 0 four_halves) 2 true (1 ∷ 1 ∷ 1 ∷ 1 ∷ [])) (placement [] [])) (set_of (0 ∷ [])) 10 30
    -- "the list of rules gains 'ran in the slot before'" (5): said where one of the two alone ran; else the row number (4)
    ∷ explains (halves_after 2 (2 ∷ 3 ∷ []) (0 ∷ 1 ∷ [])) 2 0 0 4 0 3 5
    ∷ explains (halves_after 2 (2 ∷ 3 ∷ []) (0 ∷ 1 ∷ [])) 1 3 0 4 0 2 4
    ∷ explains (halves_after 2 (2 ∷ 3 ∷ []) (0 ∷ 1 ∷ [])) 2 2 0 1 0 0 0
    ∷ explains (halves_after 1 (2 ∷ 3 ∷ []) (0 ∷ 1 ∷ [])) 2 2 0 4 0 1 4
    ∷ explains (halves_after 2 (0 ∷ []) (0 ∷ [])) 1 1 0 4 0 0 5
    ∷ explains (halves_after 2 (1 ∷ []) (0 ∷ [])) 2 2 0 4 0 0 4
    ∷ explains (kind_after three_cores 0 [] (1 ∷ [])) 1 1 0 4 0 2 3
    ∷ explains (kind_after three_cores 0 [] (1 ∷ [])) 2 0 0 4 0 1 5
    ∷ explains (kind_after (box 4 2 (early_release 0 1 4 ∷ early_release 1 2 4 ∷ [])) 1 (0 ∷ 1 ∷ []) (1 ∷ [])) 1 0 0 4 0 1 5
    ∷ explains (halves_after 3 [] []) 2 0 30 0 0 0 0
    ∷ explains (halves_after 2 (3 ∷ 2 ∷ []) (0 ∷ 1 ∷ [])) 2 0 30 0 0 0 0
    ∷ []
