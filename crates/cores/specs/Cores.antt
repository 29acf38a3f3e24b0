-- The cores that the picked rows get (02, One), as they are found: a row whose core of the last slot is free stays there, and the others take
-- the cores that are left, lowest first. That no placement is better, and none as good, is a theorem.
use Rattle.std.specs.Prelude.{ℕ, ◌≤◌, ◌<◌, ◌≡◌, List, [], ◌∷◌, Bool, false, cond, ◌&&◌, ◌||◌, ◌↔◌, eqb, length, get_or, take, drop}
use Rattle.facts.specs.Counting.{some}
use Rattle.facts.specs.First.{at_first}
use Rattle.table.specs.Limits.{core_limit}
use Rattle.trace.specs.Record.{marked}
use Rattle.trace.specs.Records.{names}
use Rattle.cores.specs.declared.Placement.{Placement}
use Rattle.cores.specs.Sets.{size}
use Rattle.cores.specs.Placement.{places_of, row_in, core_in, rows_placed, cores_placed, placement, ran_on}
use Rattle.cores.specs.Best.{IsBest}

-- Place i of the memory lets a row stay: it has the row, and a core that is free.
abbrev pub lets_stay : Placement → List ℕ → ℕ → ℕ → Bool
lets_stay last free row i = eqb (row_in last i) row && names free (core_in last i)

-- A row stays if some place lets it; its own core is that of the first such place.
abbrev pub stays : Placement → List ℕ → ℕ → Bool
stays last free row = some (lets_stay last free row) (places_of last)

abbrev pub own_core : Placement → List ℕ → ℕ → ℕ
own_core last free row = at_first (lets_stay last free row) (core_in last) 0 (places_of last)

-- Some picked row ran on the core in the last slot.
unfoldable pub wanted : Placement → List ℕ → ℕ → Bool
wanted last [] core = false
wanted last (row ∷ rows) core = ran_on last row core || wanted last rows core

-- the free cores on which no picked row ran
unfoldable pub left_over : Placement → List ℕ → List ℕ → List ℕ
left_over last rows [] = []
left_over last rows (core ∷ free) = let others = left_over last rows free in cond (wanted last rows core) others (core ∷ others)

-- Rows that stay have their own core, and each of the others takes the first that is left. (Where none is left it is 0: no slot asks for that, but
-- whoever calls `place` alone may.)
unfoldable pub in_turn : (ℕ → Bool) → (ℕ → ℕ) → List ℕ → List ℕ → List ℕ
in_turn stays own left [] = []
in_turn stays own left (row ∷ rows) = cond (stays row) (own row) (get_or left 0 0) ∷ in_turn stays own (cond (stays row) left (drop 1 left)) rows

unfoldable pub cores_for : Placement → List ℕ → List ℕ → List ℕ
cores_for last free rows = in_turn (stays last free) (own_core last free) (left_over last rows free) rows

-- The answer, of wild numbers too: there is room for eight rows, and no slot picks more.
abbrev pub placed_for : Placement → List ℕ → List ℕ → Placement
placed_for last free rows = placement (take core_limit rows) (take core_limit (cores_for last free rows))

-- Numbers that rise, as those of a set that are listed.
abbrev pub Rising : List ℕ → Type 0
Rising l = (i j : ℕ) → i < j → j < length l → get_or l i 0 < get_or l j 0

-- A memory of which each row and each core is in one place.
pub record Apart (last : Placement) : Type 0 where
  pub rows : (i j : ℕ) → i < j → j < places_of last → row_in last i ≡ row_in last j → ⊥
  pub cores : (i j : ℕ) → i < j → j < places_of last → core_in last i ≡ core_in last j → ⊥

-- A list of cores is what is answered exactly if it is a placement, no placement has fewer moves, and of those with as few it is the smallest at the
-- first difference: for every memory of which each row and each core is in one place, and no more picked rows than free cores.
abbrev pub CoresAreBest : Type 0
CoresAreBest =
    (last : Placement) (free rows cores : List ℕ) → Apart last → Rising free → Rising rows → length rows ≤ length free →
    IsBest last free rows cores ↔ (cores ≡ cores_for last free rows)

-- So of the answer to a set of marks, asked alone, if there is a free core for each row and there are no more than eight rows.
abbrev pub PlacedAlone : Type 0
PlacedAlone =
    (last : Placement) (free : List Bool) (rows : List ℕ) → Apart last → Rising rows → length rows ≤ size free → length rows ≤ core_limit →
    let placed = placed_for last (marked free) rows in
    (rows_placed placed ≡ rows) × IsBest last (marked free) rows (cores_placed placed)
