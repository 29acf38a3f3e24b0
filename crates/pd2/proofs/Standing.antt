-- Whether a row is inside its share and ready, by the products of its share and of what it has had. Assumes nothing.
use Prim.Native.Nat.{ℕ, ◌+◌, ◌*◌, ◌≤◌, ◌<◌}
use mathlib.Core.Path.{◌≡◌, refl, sym, ap, ◌∙◌}
use mathlib.Core.Bool.{Bool, true, false, ◌&&◌}
use native.Mathlib.Nat.{mul-le-mul_right, le_of_mul-le-mul_right, lt_of_mul-lt-mul_right}
use native.Mathlib.Omega.{arith}
use borrow.Author.Tests.{lt-ltb, le-ltb, lt-leb, le-leb}
use lib.Dec.{ltb, leb}
use Rattle.facts.specs.Rounding.{ceil_div}
use Rattle.facts.proofs.Tests.{same_test}
use Rattle.facts.proofs.Rounding.{ceil_between, ceil_is_near}
use Rattle.table.specs.declared.Row.{Row}
use Rattle.pd2.specs.Ready.{origin_of, is_early_release, ready}
use Rattle.pd2.specs.Share.{elapsed, upper_plain, upper_early_release, upper, within, CanBe}
use Rattle.pd2.proofs.Share.{upper_after_quantum_means_ready}
use Rattle.pd2.proofs.Verdicts.{lower_is, upper_plain_is, upper_early_release_is}

-- What is found of a row.
pub record Stands (row : Row) (q t : ℕ) (inside is_ready : Bool) : Type 0 where
  pub share : within row q t ≡ inside
  pub next : ready row q t ≡ is_ready

-- The upper limit, by the kind of row.
module _ (row : Row) (q t : ℕ) where
  upper_of_plain : is_early_release row ≡ false → upper row q t ≡ upper_plain row q t
  unfolding upper
  upper_of_plain plain = rw plain refl

  upper_of_early_release : is_early_release row ≡ true → upper row q t ≡ upper_early_release row q t
  unfolding upper
  upper_of_early_release early = rw early refl

-- At time t the row's share is that of a slots, and one slot on it is that of b.
module _ (row : Row) (can : CanBe row) (q t : ℕ) {a b share had : ℕ} (now : elapsed row t ≡ a) (then : elapsed row (t + 1) ≡ b) (s : share ≡ a * row.cost) (h : had ≡ q * row.period) where
  some : 0 < row.period
  some = omega (arith, can.cost, can.weight)

  share_is : share ≡ elapsed row t * row.cost
  share_is = s ∙ ap (λ x. x * row.cost) (sym now)

  next_is : {r : Bool} → upper row (q + 1) (t + 1) ≡ r → ready row q t ≡ r
  next_is e = sym (upper_after_quantum_means_ready row can q t) ∙ e

  plain_is : upper_plain row q t ≡ ltb had (share + row.period)
  plain_is = sym (upper_plain_is row q t share_is h)

  plain_next : upper_plain row (q + 1) (t + 1) ≡ ltb had (b * row.cost)
  plain_next =
      sym (upper_plain_is row (q + 1) (t + 1) {share = b * row.cost} {had = (q + 1) * row.period} (ap (λ x. x * row.cost) (sym then)) refl)
      ∙ same_test {b = b * row.cost + row.period} {d = b * row.cost} (λ l. omega arith, λ l. omega arith)

  early_is : upper_early_release row q t ≡ leb q (ceil_div a row.period * row.cost)
  early_is = sym (upper_early_release_is row q t (ap (λ x. ceil_div x row.period * row.cost) (sym now)))

  early_next : upper_early_release row (q + 1) (t + 1) ≡ leb (q + 1) (ceil_div b row.period * row.cost)
  early_next = sym (upper_early_release_is row (q + 1) (t + 1) (ap (λ x. ceil_div x row.period * row.cost) (sym then)))

  -- A whole quantum is owed.
  pub owed_is_outside : had + row.period ≤ share → within row q t ≡ false
  owed_is_outside owed = ap (λ x. x && upper row q t) (sym (lower_is row q t share_is h) ∙ le-ltb share (had + row.period) owed)

  module _ (low : share < had + row.period) where
    inside : {r : Bool} → upper row q t ≡ r → within row q t ≡ r
    inside up = ap (λ x. x && upper row q t) (sym (lower_is row q t share_is h) ∙ lt-ltb share (had + row.period) low) ∙ up

    -- A plain row that is ahead of its share
    module _ (plain : is_early_release row ≡ false) where
      plain_stands : {r : Bool} → had < share + row.period → ltb had (b * row.cost) ≡ r → Stands row q t true r
      plain_stands few is =
          record {
            share = inside (upper_of_plain row q t plain ∙ (plain_is ∙ lt-ltb had (share + row.period) few));
            next = next_is (upper_of_plain row (q + 1) (t + 1) plain ∙ (plain_next ∙ is));
          }

      pub ahead_is_ready : had < b * row.cost → had < share + row.period → Stands row q t true true
      ahead_is_ready soon few = plain_stands few (lt-ltb had (b * row.cost) soon)

      pub ahead_waits : b * row.cost ≤ had → had < share + row.period → Stands row q t true false
      ahead_waits later few = plain_stands few (le-ltb had (b * row.cost) later)

      pub ahead_is_outside : share + row.period ≤ had → within row q t ≡ false
      ahead_is_outside more = inside (upper_of_plain row q t plain ∙ (plain_is ∙ le-ltb had (share + row.period) more))

    -- An early-release row, by the cost of the jobs released
    module _ (early : is_early_release row ≡ true) where
      early_stands : {r : Bool} → q ≤ ceil_div a row.period * row.cost → leb (q + 1) (ceil_div b row.period * row.cost) ≡ r → Stands row q t true r
      early_stands few is =
          record {
            share = inside (upper_of_early_release row q t early ∙ (early_is ∙ le-leb q (ceil_div a row.period * row.cost) few));
            next = next_is (upper_of_early_release row (q + 1) (t + 1) early ∙ (early_next ∙ is));
          }

      pub released_is_ready : q ≤ ceil_div a row.period * row.cost → q < ceil_div b row.period * row.cost → Stands row q t true true
      released_is_ready few more = early_stands few (le-leb (q + 1) (ceil_div b row.period * row.cost) (omega arith))

      pub released_waits : q ≤ ceil_div a row.period * row.cost → ceil_div b row.period * row.cost ≤ q → Stands row q t true false
      released_waits few all = early_stands few (lt-leb (q + 1) (ceil_div b row.period * row.cost) (omega arith))

      pub released_is_outside : ceil_div a row.period * row.cost < q → within row q t ≡ false
      released_is_outside more = inside (upper_of_early_release row q t early ∙ (early_is ∙ lt-leb q (ceil_div a row.period * row.cost) more))

    -- A row of either kind that is not ahead is ready.
    pub behind_is_ready : had ≤ share → a < b → Stands row q t true true
    behind_is_ready few on = go (is_early_release row) refl
      where
        more : share < b * row.cost
        more = omega (arith, s, can.cost, mul-le-mul_right {m = a + 1} {n = b} row.cost (omega arith))

        go : (k : Bool) → is_early_release row ≡ k → Stands row q t true true
        go true early =
            let up = mul-le-mul_right {m = a} {n = ceil_div a row.period * row.period} row.cost (ceil_is_near a some).0 in
            let up' = mul-le-mul_right {m = b} {n = ceil_div b row.period * row.period} row.cost (ceil_is_near b some).0 in
            released_is_ready early
            (le_of_mul-le-mul_right {m = q} {n = ceil_div a row.period * row.cost} {k = row.period} (omega (arith, h, s, few, up)) some)
            (lt_of_mul-lt-mul_right row.period {m = q} {n = ceil_div b row.period * row.cost} (omega (arith, h, few, more, up')))
        go false plain = ahead_is_ready plain (omega (arith, few, more)) (omega (arith, few, some))

-- Before its phase a row waits,
module _ (row : Row) (can : CanBe row) (q t : ℕ) (early : t < origin_of row) where
  not_yet : elapsed row t ≡ 0
  not_yet = omega arith

  nor_then : elapsed row (t + 1) ≡ 0
  nor_then = omega arith

  nothing : 0 ≡ 0 * row.cost
  nothing = omega arith

  no_job : ceil_div 0 row.period * row.cost ≡ 0
  no_job = ap (λ x. x * row.cost) (ceil_between 0 row.period 0 (omega (arith, can.cost, can.weight)) (omega arith) (omega (arith, can.cost, can.weight))) ∙ omega arith

  pub waits_for_phase : q ≡ 0 → Stands row q t true false
  waits_for_phase none = go (is_early_release row) refl
    where
      had : q * row.period ≡ 0
      had = ap (λ x. x * row.period) none ∙ omega arith

      low : 0 < q * row.period + row.period
      low = omega (arith, can.cost, can.weight)

      go : (k : Bool) → is_early_release row ≡ k → Stands row q t true false
      go true k = released_waits row can q t not_yet nor_then nothing refl low k (omega (arith, none)) (omega (arith, no_job))
      go false k = ahead_waits row can q t not_yet nor_then nothing refl low k (omega arith) (omega (arith, had, can.cost, can.weight))

  -- and has had nothing.
  pub had_before_phase : (q ≡ 0 → ⊥) → within row q t ≡ false
  had_before_phase some = go (is_early_release row) refl
    where
      had : row.period ≤ q * row.period
      had = omega (arith, mul-le-mul_right {m = 1} {n = q} row.period (omega arith))

      low : 0 < q * row.period + row.period
      low = omega (arith, can.cost, can.weight)

      go : (k : Bool) → is_early_release row ≡ k → within row q t ≡ false
      go true k = released_is_outside row can q t not_yet nor_then nothing refl low k (omega (arith, no_job))
      go false k = ahead_is_outside row can q t not_yet nor_then nothing refl low k (omega (arith, had))
