-- The sum of rows, one row after the other. Assumes nothing.
use mathlib.Core.Path.{◌≡◌, refl, ap, ◌∙◌}
use mathlib.Core.List.{List, [], ◌∷◌, ◌++◌}
use Prim.Native.Nat.{ℕ, suc, ◌+◌, ◌*◌, ◌/◌, ◌≤◌, ◌<◌}
use native.Mathlib.Numerals.{add-one}
use native.Mathlib.Omega.{arith}
use lib.ListN.{length, take, get_or, set, length-set}
use lib.Seq.{take-suc, take-suc-set}
use Rattle.table.specs.Parts.{load_limit}
use Rattle.table.specs.declared.Row.{Row}
use Rattle.table.specs.Causes.{load}

-- for a loop that goes over n rows and adds them up: the sum of the first i, which is far from running over
pub record Added (rows : List Row) (n cycle sum i : ℕ) : Type 0 where
  pub within : i ≤ n
  pub long : n ≤ length rows
  pub small : sum ≤ load_limit * i
  pub first : sum ≡ load cycle (take i rows)

-- At first none is added.
pub added_none : (rows : List Row) (n cycle : ℕ) → n ≤ length rows → Added rows n cycle 0 0
unfolding load
added_none rows n cycle l = record { within = omega arith; long = l; small = omega arith; first = refl }

-- A row behind the others adds its own quanta,
row_behind_adds : (cycle : ℕ) (rows : List Row) (row : Row) → load cycle (rows ++ (row ∷ [])) ≡ load cycle rows + row.cost * (cycle / row.period)
unfolding load
row_behind_adds cycle [] row = omega arith
row_behind_adds cycle (first ∷ rows) row = omega (arith, row_behind_adds cycle rows row)

-- so the quanta of the rows below i + 1 in a cycle are those of the rows below i and those of row i.
pub load_one_more : (cycle : ℕ) (rows : List Row) (i : ℕ) (d : Row) → i < length rows →
    load cycle (take (i + 1) rows) ≡ load cycle (take i rows) + (get_or rows i d).cost * (cycle / (get_or rows i d).period)
load_one_more cycle rows i d h = rw (add-one i, take-suc rows i d h) (row_behind_adds cycle (take i rows) (get_or rows i d))

module _ {rows : List Row} {n cycle sum i : ℕ} (so : Added rows n cycle sum i) (h : i < n) {q : ℕ} (small : q < load_limit) where
  -- One row more, in the array as it then is: its first rows are those added before, and the row.
  added_row : (rows' : List Row) (row : Row) → n ≤ length rows' → take (suc i) rows' ≡ take i rows ++ (row ∷ []) → q ≡ row.cost * (cycle / row.period) →
      Added rows' n cycle (sum + q) (i + 1)
  added_row rows' row l e is =
      record {
        within = omega arith;
        long = l;
        small = omega (arith, so.small);
        first = rw (add-one i, e) (omega (arith, so.first, row_behind_adds cycle (take i rows) row));
      }

  -- The next row stands in the array,
  pub added_next : (d : Row) → q ≡ (get_or rows i d).cost * (cycle / (get_or rows i d).period) → Added rows n cycle (sum + q) (i + 1)
  added_next d = added_row rows (get_or rows i d) so.long (take-suc rows i d (omega (arith, so.long)))

  -- or is put there.
  pub added_put : (row : Row) → q ≡ row.cost * (cycle / row.period) → Added (set rows i row) n cycle (sum + q) (i + 1)
  added_put row = added_row (set rows i row) row (omega (arith, so.long, length-set rows i row)) (take-suc-set rows i row (omega (arith, so.long)))

-- At last all n are.
pub added_all : {rows : List Row} {n cycle sum i : ℕ} → Added rows n cycle sum i → n ≤ i → sum ≡ load cycle (take n rows)
added_all {rows} {n} {cycle} {i = i} so h =
    let same : i ≡ n = omega (arith, so.within) in
    so.first ∙ ap (λ k. load cycle (take k rows)) same
