-- How the key of a ready row begins, by what its next quantum lacks. Assumes nothing.
use Prim.Native.Nat.{ℕ, ◌+◌, ◌-◌, ◌*◌, ◌/◌, ◌%◌, ◌≤◌, ◌<◌}
use mathlib.Core.Path.{◌≡◌, refl, ap, ◌∙◌}
use mathlib.Core.Bool.{true, cond}
use native.Mathlib.Decide.{dec_lt, ℕ_discrete}
use native.Mathlib.Omega.{arith}
use borrow.Author.Tests.{lt-ltb, le-ltb}
use lib.Dec.{ltb}
use Rattle.facts.specs.Rounding.{ceil_div}
use Rattle.windows.proofs.Windows.{whole_has_bit_0}
use Rattle.windows.proofs.Group.{light_has_none}
use Rattle.windows.proofs.Formula.{whole_lacking, part_lacking, part_behind}
use Rattle.table.specs.declared.Row.{Row}
use Rattle.pd2.specs.Ready.{origin_of, ready}
use Rattle.pd2.specs.Order.{Rank, rank_of}
use Rattle.pd2.specs.Share.{CanBe}
use Rattle.pd2.proofs.Readiness.{ready_is_due_within_period}
use Rattle.choice.specs.Keys.{behind, front_of}

-- For callers: at time t, a slots after the row's origin, its next quantum lacks so much.
module _ (row : Row) (can : CanBe row) (q t a lacking : ℕ) (from : t ≡ origin_of row + a) (sum : (q + 1) * row.period ≡ lacking + a * row.cost) where
  abbrev x : Rank
  x = rank_of row 0 q

  by_parts : {d b far : ℕ} → x.d ≡ d → x.b ≡ b → behind x ≡ far → front_of x ≡ (2 * d + (1 - b)) * 65_536 + (65_535 - far)
  by_parts {d} {b} pd pb pf =
      ap (λ y. (2 * y + (1 - x.b)) * 65_536 + (65_535 - behind x)) pd
      ∙ (ap (λ y. (2 * d + (1 - y)) * 65_536 + (65_535 - behind x)) pb
      ∙ ap (λ y. (2 * d + (1 - b)) * 65_536 + (65_535 - y)) pf)

  -- Where it lacks whole slots, b is 0,
  pub whole_key : lacking % row.cost ≡ 0 → front_of x ≡ (2 * (t + lacking / row.cost) + 1) * 65_536 + 65_535
  whole_key whole =
      let law = whole_lacking row.cost row.period (origin_of row) (q + 1) a lacking can.cost sum whole in
      by_parts {far = 0} (law.0 ∙ omega arith) law.1 (rw law.1 refl)

  -- else b is 1, and D lies behind d if the row is heavy.
  module _ (part : lacking % row.cost ≡ 0 → ⊥) where
    abbrev law : (x.d ≡ origin_of row + a + lacking / row.cost + 1) × (x.b ≡ 1)
    law = part_lacking row.cost row.period (origin_of row) (q + 1) a lacking can.cost sum part

    pub below_one : row.cost < row.period
    below_one = go (dec_lt row.cost row.period)
      where
        go : Dec (row.cost < row.period) → row.cost < row.period
        go (yes l) = l
        go (no l) = absurd (omega (arith, law.1, whole_has_bit_0 row.cost row.period (q + 1) (omega (arith, can.weight))))

    pub how_far : behind x ≡ cond (ltb (2 * row.cost) row.period) 0 (ceil_div (row.cost - lacking % row.cost) (row.period - row.cost))
    how_far = rw law.1 (go (dec_lt (2 * row.cost) row.period))
      where
        go : Dec (2 * row.cost < row.period) →
            x.D - x.d ≡ cond (ltb (2 * row.cost) row.period) 0 (ceil_div (row.cost - lacking % row.cost) (row.period - row.cost))
        go (yes light) = rw (lt-ltb (2 * row.cost) row.period light, light_has_none row.cost row.period (origin_of row) (q + 1) light) (omega arith)
        go (no heavy) =
            let far = part_behind row.cost row.period (origin_of row) (q + 1) a lacking can.cost sum part below_one (omega arith) (omega arith) in
            rw (le-ltb (2 * row.cost) row.period (omega arith)) (omega (arith, far))

    pub part_key : {far : ℕ} → behind x ≡ far → front_of x ≡ (2 * (t + lacking / row.cost) + 2) * 65_536 + (65_535 - far)
    part_key {far} is = by_parts law.0 law.1 is ∙ omega arith

  -- It lacks no more slots than a period has, if the row is ready.
  pub lacks_few_slots : ready row q t ≡ true → lacking / row.cost ≤ row.period
  lacks_few_slots is = go (ℕ_discrete (lacking % row.cost) 0)
    where
      soon : x.d ≤ t + row.period
      soon = ready_is_due_within_period row q t can.cost is

      go : Dec (lacking % row.cost ≡ 0) → lacking / row.cost ≤ row.period
      go (yes whole) = omega (arith, soon, (whole_lacking row.cost row.period (origin_of row) (q + 1) a lacking can.cost sum whole).0)
      go (no part) = omega (arith, soon, (law part).0)
