-- What a memory, a move and the first k cores mean, place by place. Assumes nothing.
use Prim.Native.Nat.{ℕ, zero, suc, ◌+◌, ◌≤◌, ◌<◌}
use mathlib.Core.Path.{◌≡◌, refl, sym, ap, ap₂, ◌∙◌, subst}
use mathlib.Core.List.{List, [], ◌∷◌}
use mathlib.Core.Bool.{Bool, true, cond}
use mathlib.Core.Logic.{◌↔◌}
use native.Mathlib.Omega.{arith}
use borrow.Author.Tests.{eqb-true, eq-eqb}
use lib.Dec.{eqb}
use lib.ListN.{length, get_or}
use lib.Seq.{take_all}
use Rattle.facts.specs.Counting.{how_many}
use Rattle.facts.proofs.Some.{some_if}
use Rattle.table.specs.Limits.{core_limit}
use Rattle.trace.specs.Record.{marked}
use Rattle.cores.specs.declared.Placement.{Placement}
use Rattle.cores.specs.Placement.{row_in, places_of, rows_placed, cores_placed, placement, ran_on, ran_before, moved}
use Rattle.cores.specs.Best.{moves, IsBest}
use Rattle.cores.specs.Cores.{cores_for, placed_for, PlacedAlone}
use Rattle.cores.proofs.Memory.{found_if_some, place_of, ran_there}
use Rattle.cores.proofs.Sets.{marked_rise}
use Rattle.cores.proofs.Best.{cores_are_best}
use Rattle.cores.proofs.Placed.{placed_lists}

-- for callers

module _ (last : Placement) (few : last.count ≤ core_limit) where
  -- A row ran on a core exactly if some place that is held has both,
  pub ran_on_means : (row core : ℕ) → (ran_on last row core ≡ true) ↔ ((i : ℕ) × (i < last.count) × (get_or last.rows i 0 ≡ row) × (get_or last.cores i 0 ≡ core))
  ran_on_means row core = (
    λ h. let at = place_of last row core h in (at.0, omega (arith, at.1), at.2, at.3),
    λ at. ap₂ (ran_on last) (sym at.2) (sym at.3) ∙ ran_there last at.0 (omega (arith, at.1, few)),
  )

  -- and it ran exactly if some place has the row.
  pub ran_before_means : (row : ℕ) → (ran_before last row ≡ true) ↔ ((i : ℕ) × (i < last.count) × (get_or last.rows i 0 ≡ row))
  ran_before_means row = (
    λ h.
        let at = found_if_some (λ i. eqb (row_in last i) row) (places_of last) h in
        (at.0, omega (arith, at.1), eqb-true (row_in last at.0) row at.2),
    λ at. some_if (λ i. eqb (row_in last i) row) (places_of last) at.0 (omega (arith, at.1, few)) (eq-eqb (row_in last at.0) row at.2),
  )

-- counting from the front
counted_from_front : (a : ℕ → Bool) (n : ℕ) → how_many a (suc n) ≡ cond (a 0) 1 0 + how_many (λ i. a (suc i)) n
unfolding how_many
counted_from_front a zero = omega arith
counted_from_front a (suc n) = ap (λ m. m + cond (a (suc n)) 1 0) (counted_from_front a n) ∙ omega arith

-- The moves of a list of cores are as many as the rows that move.
pub moves_are : (last : Placement) (rows cores : List ℕ) → length cores ≡ length rows →
    moves last rows cores ≡ how_many (λ i. moved last (get_or rows i 0) (get_or cores i 0)) (length rows)
unfolding moves how_many
moves_are last [] cores same = refl
moves_are last (row ∷ rows) [] same = absurd (omega (arith, same))
moves_are last (row ∷ rows) (core ∷ cores) same =
    ap (λ n. cond (moved last row core) 1 0 + n) (moves_are last rows cores (omega (arith, same)))
    ∙ sym (counted_from_front (λ i. moved last (get_or (row ∷ rows) i 0) (get_or (core ∷ cores) i 0)) (length rows))

-- `place`, asked alone: if there is a core for each row, and no more than eight rows, they are placed on the best cores.
pub placed_alone : PlacedAlone
placed_alone last free rows apart rise enough few =
    let best = (cores_are_best last (marked free) rows (cores_for last (marked free) rows) apart (marked_rise free) rise enough).1 refl in
    let fits : placed_for last (marked free) rows ≡ placement rows (cores_for last (marked free) rows) =
    ap₂ placement (take_all core_limit rows few) (take_all core_limit (cores_for last (marked free) rows) (omega (arith, few, best.placed.one_each))) in
    let lists = placed_lists rows (cores_for last (marked free) rows) best.placed.one_each in
    subst (λ placed. (rows_placed placed ≡ rows) × IsBest last (marked free) rows (cores_placed placed)) (sym fits)
    (lists.0, subst (IsBest last (marked free) rows) (sym lists.1) best)
