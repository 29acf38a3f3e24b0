-- Rows and the core of each (02, One): what a slot answers, and what the state remembers of the slot before.
use Rattle.std.specs.Prelude.{ℕ, ◌-◌, min, List, ◌++◌, Bool, not, ◌&&◌, eqb, length, get_or, take, replicate}
use Rattle.facts.specs.Counting.{some}
use Rattle.facts.specs.Places.{marks_of}
use Rattle.table.specs.Limits.{core_limit, row_limit}
use Rattle.cores.specs.declared.Placement.{Placement}

-- The row at place i, and its core. Places past the count mean nothing.
abbrev pub row_in : Placement → ℕ → ℕ
row_in p i = get_or p.rows i 0

abbrev pub core_in : Placement → ℕ → ℕ
core_in p i = get_or p.cores i 0

-- How many places are looked at: the count, or all eight where it is wild.
abbrev pub places_of : Placement → ℕ
places_of p = min p.count core_limit

-- The rows that are placed, and their cores.
abbrev pub rows_placed : Placement → List ℕ
rows_placed p = take p.count p.rows

abbrev pub cores_placed : Placement → List ℕ
cores_placed p = take p.count p.cores

-- "fresh, none"
abbrev pub nobody : Placement
nobody = record { count = 0; rows = replicate core_limit 0; cores = replicate core_limit 0 }

-- Rows and the core of each as a placement: 0 in every place past them.
abbrev pub filled_up : List ℕ → List ℕ
filled_up l = l ++ replicate (core_limit - length l) 0

abbrev pub placement : List ℕ → List ℕ → Placement
placement rows cores = record { count = length rows; rows = filled_up rows; cores = filled_up cores }

-- "which row ran on which core in the last slot": a row ran on a core,
abbrev pub ran_on : Placement → ℕ → ℕ → Bool
ran_on last row core = some (λ i. eqb (row_in last i) row && eqb (core_in last i) core) (places_of last)

-- a row ran,
abbrev pub ran_before : Placement → ℕ → Bool
ran_before last row = some (λ i. eqb (row_in last i) row) (places_of last)

-- as marks, one for each number that a row may have,
abbrev pub ran_marks : Placement → List Bool
ran_marks last = marks_of (ran_before last) row_limit

-- and "a row picked in this slot and the one before, on another core".
abbrev pub moved : Placement → ℕ → ℕ → Bool
moved last row core = ran_before last row && not (ran_on last row core)
