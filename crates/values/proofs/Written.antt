-- What is left in a buffer where one part is written behind the other. Assumes nothing.
use mathlib.Core.Path.{◌≡◌, refl}
use mathlib.Core.List.{List, ◌++◌, flat_map}
use mathlib.Core.Bool.{Bool, true, false, cond}
use mir.Val.{bool_byte}
use Prim.Native.Nat.{ℕ, ◌+◌}
use native.Mathlib.Omega.{arith}
use lib.ListN.{length, length-append}
use lib.Seq.{sets}
use Rattle.facts.proofs.Storing.{stored_behind}
use Rattle.facts.proofs.Joining.{joined_long}
use Rattle.fields.specs.Fields.{bytes_of}
use Rattle.fields.proofs.Numbers.{bytes_long}
use Rattle.table.specs.declared.Row.{Row}
use Rattle.table.specs.declared.Table.{Table}
use Rattle.table.specs.Writing.{bytes_of_row}
use Rattle.table.proofs.Spelled.{row_is_nine}
use Rattle.cores.specs.declared.Placement.{Placement}
use Rattle.dispatcher.specs.declared.State.{State}
use Rattle.values.specs.Values.{bytes_of_quanta, bytes_of_value, bytes_of_placement, bytes_of_state}

module _ (b : List ℕ) where
  -- a row,
  pub row_written : (at : ℕ) (row : Row) {w₁ w₂ w₃ w₄ w₅ : List ℕ} → w₁ ≡ sets b at (bytes_of 2 row.tank) → w₂ ≡ sets w₁ (at + 2) (bytes_of 2 row.cost) →
      w₃ ≡ sets w₂ (at + 4) (bytes_of 2 row.period) → w₄ ≡ sets w₃ (at + 6) (bytes_of 2 row.phase) → w₅ ≡ sets w₄ (at + 8) (bytes_of 1 row.kind) →
      w₅ ≡ sets b at (bytes_of_row row)
  unfolding bytes_of_row bytes_of
  row_written at row p₁ p₂ p₃ p₄ p₅ =
      let q₂ = stored_behind b (bytes_of 2 row.tank) (bytes_of 2 row.cost) at p₁ refl p₂ in
      let q₃ = stored_behind b (bytes_of 2 row.tank ++ bytes_of 2 row.cost) (bytes_of 2 row.period) at q₂ refl p₃ in
      let q₄ = stored_behind b (bytes_of 2 row.tank ++ bytes_of 2 row.cost ++ bytes_of 2 row.period) (bytes_of 2 row.phase) at q₃ refl p₄ in
      stored_behind b (bytes_of 2 row.tank ++ bytes_of 2 row.cost ++ bytes_of 2 row.period ++ bytes_of 2 row.phase) (bytes_of 1 row.kind) at q₄ refl p₅

  -- a placement,
  pub placement_written : (at : ℕ) (placed : Placement) → length placed.rows ≡ 8 → {w₁ w₂ w₃ : List ℕ} → w₁ ≡ sets b at (bytes_of 1 placed.count) →
      w₂ ≡ sets w₁ (at + 1) (flat_map (bytes_of 1) placed.rows) → w₃ ≡ sets w₂ (at + 9) (flat_map (bytes_of 1) placed.cores) →
      w₃ ≡ sets b at (bytes_of_placement placed)
  placement_written at placed eight p₁ p₂ p₃ =
      let count = bytes_of 1 placed.count in
      let rows = flat_map (bytes_of 1) placed.rows in
      let one = bytes_long 1 placed.count in
      let q₂ = stored_behind b count rows at p₁ (omega (arith, one)) p₂ in
      stored_behind b (count ++ rows) (flat_map (bytes_of 1) placed.cores) at q₂
      (omega (arith, one, length-append count rows, joined_long (bytes_of 1) 1 (bytes_long 1) placed.rows, eight)) p₃

  -- a table value,
  pub value_written : (t : Table) → length t.boards ≡ 8 → {w₁ w₂ w₃ w₄ w₅ w₆ : List ℕ} → w₁ ≡ sets b 0 (bytes_of 1 t.format) → w₂ ≡ sets w₁ 1 (bytes_of 4 t.cycle) →
      w₃ ≡ sets w₂ 5 (bytes_of 1 t.cores) → w₄ ≡ sets w₃ 6 (flat_map (bytes_of 1) t.boards) → w₅ ≡ sets w₄ 14 (bytes_of 1 t.n) →
      w₆ ≡ sets w₅ 15 (flat_map bytes_of_row t.rows) → w₆ ≡ sets b 0 (bytes_of_value t)
  unfolding bytes_of
  value_written t eight p₁ p₂ p₃ p₄ p₅ p₆ =
      let head = bytes_of 1 t.format ++ bytes_of 4 t.cycle ++ bytes_of 1 t.cores in
      let boards = flat_map (bytes_of 1) t.boards in
      let long = joined_long (bytes_of 1) 1 (bytes_long 1) t.boards in
      let q₂ = stored_behind b (bytes_of 1 t.format) (bytes_of 4 t.cycle) 0 p₁ refl p₂ in
      let q₃ = stored_behind b (bytes_of 1 t.format ++ bytes_of 4 t.cycle) (bytes_of 1 t.cores) 0 q₂ refl p₃ in
      let q₄ = stored_behind b head boards 0 q₃ refl p₄ in
      let q₅ = stored_behind b (head ++ boards) (bytes_of 1 t.n) 0 q₄ (omega (arith, length-append head boards, long, eight)) p₅ in
      stored_behind b (head ++ boards ++ bytes_of 1 t.n) (flat_map bytes_of_row t.rows) 0 q₅
      (omega (arith, length-append (head ++ boards) (bytes_of 1 t.n), length-append head boards, long, eight)) p₆

-- which has 303 bytes,
value_long : (t : Table) → length t.boards ≡ 8 → length t.rows ≡ 32 → length (bytes_of_value t) ≡ 303
unfolding bytes_of
value_long t eight thirty_two =
    let head = bytes_of 1 t.format ++ bytes_of 4 t.cycle ++ bytes_of 1 t.cores in
    let boards = flat_map (bytes_of 1) t.boards in
    omega (
      arith,
      length-append (head ++ boards ++ bytes_of 1 t.n) (flat_map bytes_of_row t.rows),
      length-append (head ++ boards) (bytes_of 1 t.n),
      length-append head boards,
      joined_long (bytes_of 1) 1 (bytes_long 1) t.boards,
      joined_long bytes_of_row 9 row_is_nine t.rows,
      eight,
      thirty_two,
    )

-- a mark is 1 or 0,
pub mark_is : (mark : Bool) → bool_byte mark ≡ cond mark 1 0
mark_is true = refl
mark_is false = refl

-- and a state.
pub state_written : (b : List ℕ) (s : State) → length s.table.boards ≡ 8 → length s.table.rows ≡ 32 → length s.quanta ≡ 32 → {w₁ w₂ w₃ w₄ w₅ : List ℕ} →
    w₁ ≡ sets b 0 (bytes_of_value s.table) → w₂ ≡ sets w₁ 303 (bytes_of 8 s.time.0) → w₃ ≡ sets w₂ 311 (bytes_of 1 (cond s.stopped 1 0)) →
    w₄ ≡ sets w₃ 312 (bytes_of_quanta s.quanta) → w₅ ≡ sets w₄ 568 (bytes_of_placement s.last) → w₅ ≡ sets b 0 (bytes_of_state s)
state_written b s eight rows quanta p₁ p₂ p₃ p₄ p₅ =
    let table = bytes_of_value s.table in
    let time = bytes_of 8 s.time.0 in
    let stopped = bytes_of 1 (cond s.stopped 1 0) in
    let given = bytes_of_quanta s.quanta in
    let long = value_long s.table eight rows in
    let timed = bytes_long 8 s.time.0 in
    let marked = bytes_long 1 (cond s.stopped 1 0) in
    let had = joined_long (λ q. bytes_of 8 q.0) 8 (λ q. bytes_long 8 q.0) s.quanta in
    let q₂ = stored_behind b table time 0 p₁ (omega (arith, long)) p₂ in
    let q₃ = stored_behind b (table ++ time) stopped 0 q₂ (omega (arith, long, timed, length-append table time)) p₃ in
    let q₄ = stored_behind b (table ++ time ++ stopped) given 0 q₃ (omega (arith, long, timed, marked, length-append table time, length-append (table ++ time) stopped)) p₄ in
    stored_behind b (table ++ time ++ stopped ++ given) (bytes_of_placement s.last) 0 q₄
    (omega (arith, long, timed, marked, had, quanta, length-append table time, length-append (table ++ time) stopped, length-append (table ++ time ++ stopped) given)) p₅
