-- That what the code computes is what the definitions say: no number on the way passes 64 bits. Assumes nothing.
use mathlib.Core.Path.{◌≡◌, ap, ◌∙◌}
use Prim.Native.Nat.{ℕ, ◌+◌, ◌-◌, ◌*◌, ◌/◌, ◌%◌, ◌≤◌, ◌<◌}
use native.Mathlib.Nat.{mul-le-mul, le-pred_of_lt, div-le_self}
use native.Mathlib.Omega.{arith}
use Rattle.counts.specs.Limits.{kept}
use Rattle.windows.specs.Fits.{Fits, furthest, products}
use Rattle.windows.specs.Windows.{start, deadline, bit, job_start}
use Rattle.windows.proofs.Windows.{bit_of_whole, bit_of_part, deadline_of_whole, deadline_of_part}

-- One law for every product of a number of subtasks and the period.
pub product_fits : {n p : ℕ} → n ≤ furthest → p < 65_536 → n * p < products
product_fits {n} h k = omega (arith, mul-le-mul {n₁ = n} h (le-pred_of_lt k))

module _ {e p o i : ℕ} (f : Fits e p o i) {w t : ℕ} (small : w < products) where
  -- a sum that the code makes, w slots after the origin, is exact
  exact : t ≡ kept (o + w / e) → t ≡ o + w / e
  exact h = omega (arith, div-le_self w e, f.origin)

  -- The start, from the product (i - 1)·p.
  pub start_is : w ≡ (i - 1) * p → t ≡ kept (o + w / e) → t ≡ start e p o i
  unfolding start
  start_is q h = exact h ∙ ap (λ x. o + x / e) q

  -- The deadline and the bit, from the product i·p: where e divides it,
  pub end_of_whole : w ≡ i * p → t ≡ kept (o + w / e) → w % e ≡ 0 → (t ≡ deadline e p o i) × (0 ≡ bit e p i)
  end_of_whole q h z =
      let divides : i * p % e ≡ 0 = rw q at z in
      omega (arith, exact h, ap (λ x. x / e) q, deadline_of_whole e p o f.cost i divides, bit_of_whole e p i divides)

  -- and where it does not.
  pub end_of_part : w ≡ i * p → t ≡ kept (o + w / e) → (w % e ≡ 0 → ⊥) → (kept (t + 1) ≡ deadline e p o i) × (1 ≡ bit e p i)
  end_of_part q h z =
      let rest : i * p % e ≡ 0 → ⊥ = λ y. z (ap (λ x. x % e) q ∙ y) in
      omega (arith, exact h, div-le_self w e, f.origin, ap (λ x. x / e) q, deadline_of_part e p o f.cost i rest, bit_of_part e p i rest)

-- The start of the job, from the product of the jobs before it and p.
pub job_start_is : {e p o i w t : ℕ} → Fits e p o i → w < products → w ≡ (i - 1) / e * p → t ≡ kept (o + w) → t ≡ job_start e p o i
unfolding job_start
job_start_is f small q h = omega (arith, f.origin)
