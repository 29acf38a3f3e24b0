-- What the parts of the writer leave in the buffer, one behind the other. Assumes nothing.
use Prim.Native.Nat.{ℕ, ◌+◌}
use mathlib.Core.Path.{◌≡◌, refl}
use mathlib.Core.List.{List, ◌++◌, flat_map}
use native.Mathlib.Omega.{arith}
use lib.ListN.{length, length-append}
use lib.Seq.{sets}
use Rattle.facts.proofs.Storing.{stored_behind}
use Rattle.facts.proofs.Joining.{joined_long}
use Rattle.fields.specs.Fields.{bytes_of}
use Rattle.fields.proofs.Numbers.{bytes_long}
use Rattle.table.specs.declared.Row.{Row}
use Rattle.table.specs.declared.Table.{Table}
use Rattle.table.specs.Value.{boards_of, rows_of}
use Rattle.table.specs.Writing.{bytes_of_row, bytes_of_table}

module _ (b : List ℕ) where
  -- Format, cycle and core count,
  pub head_stored : (format cycle cores : ℕ) {w₁ w₂ w₃ : List ℕ} → w₁ ≡ sets b 0 (bytes_of 1 format) → w₂ ≡ sets w₁ 1 (bytes_of 4 cycle) →
      w₃ ≡ sets w₂ 5 (bytes_of 1 cores) → w₃ ≡ sets b 0 (bytes_of 1 format ++ bytes_of 4 cycle ++ bytes_of 1 cores)
  unfolding bytes_of
  head_stored format cycle cores p₁ p₂ p₃ =
      stored_behind b (bytes_of 1 format ++ bytes_of 4 cycle) (bytes_of 1 cores) 0 (stored_behind b (bytes_of 1 format) (bytes_of 4 cycle) 0 p₁ refl p₂) refl p₃

  -- what stands first in a row, and a row,
  pub front_stored : (at tank cost period : ℕ) {w₁ w₂ w₃ : List ℕ} → w₁ ≡ sets b at (bytes_of 2 tank) → w₂ ≡ sets w₁ (at + 2) (bytes_of 2 cost) →
      w₃ ≡ sets w₂ (at + 4) (bytes_of 2 period) → w₃ ≡ sets b at (bytes_of 2 tank ++ bytes_of 2 cost ++ bytes_of 2 period)
  unfolding bytes_of
  front_stored at tank cost period p₁ p₂ p₃ =
      stored_behind b (bytes_of 2 tank ++ bytes_of 2 cost) (bytes_of 2 period) at (stored_behind b (bytes_of 2 tank) (bytes_of 2 cost) at p₁ refl p₂) refl p₃

  pub row_stored : (at : ℕ) (row : Row) {w₁ w₂ w₃ : List ℕ} → w₁ ≡ sets b at (bytes_of 2 row.tank ++ bytes_of 2 row.cost ++ bytes_of 2 row.period) →
      w₂ ≡ sets w₁ (at + 6) (bytes_of 2 row.phase) → w₃ ≡ sets w₂ (at + 8) (bytes_of 1 row.kind) → w₃ ≡ sets b at (bytes_of_row row)
  unfolding bytes_of_row bytes_of
  row_stored at row p₁ p₂ p₃ =
      let front = bytes_of 2 row.tank ++ bytes_of 2 row.cost ++ bytes_of 2 row.period in
      let phase = bytes_of 2 row.phase in
      let kind = bytes_of 1 row.kind in
      stored_behind b (front ++ phase) kind at (stored_behind b front phase at p₁ refl p₂) refl p₃

  -- and the whole table.
  pub table_stored : (t : Table) → length (boards_of t) ≡ t.cores → {w₁ w₂ w₃ w₄ : List ℕ} →
      w₁ ≡ sets b 0 (bytes_of 1 t.format ++ bytes_of 4 t.cycle ++ bytes_of 1 t.cores) → w₂ ≡ sets w₁ 6 (flat_map (bytes_of 1) (boards_of t)) →
      w₃ ≡ sets w₂ (6 + t.cores) (bytes_of 1 t.n) → w₄ ≡ sets w₃ (7 + t.cores) (flat_map bytes_of_row (rows_of t)) → w₄ ≡ sets b 0 (bytes_of_table t)
  unfolding bytes_of_table bytes_of
  table_stored t all p₁ p₂ p₃ p₄ =
      let head = bytes_of 1 t.format ++ bytes_of 4 t.cycle ++ bytes_of 1 t.cores in
      let boards = flat_map (bytes_of 1) (boards_of t) in
      let many = joined_long (bytes_of 1) 1 (bytes_long 1) (boards_of t) in
      let q₂ = stored_behind b head boards 0 p₁ refl p₂ in
      let q₃ = stored_behind b (head ++ boards) (bytes_of 1 t.n) 0 q₂ (omega (arith, length-append head boards, many, all)) p₃ in
      stored_behind b (head ++ boards ++ bytes_of 1 t.n) (flat_map bytes_of_row (rows_of t)) 0 q₃
      (omega (arith, length-append (head ++ boards) (bytes_of 1 t.n), length-append head boards, many, all)) p₄
