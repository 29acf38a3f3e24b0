-- A promise that gives a count's number determines the count. (A promise that gives a plain number determines it by itself.)
-- Assumes nothing.
use Prim.Native.Nat.{ℕ}
use mathlib.Core.Path.{◌≡◌}
use Rattle.facts.specs.Determined.{Determined}
use Rattle.facts.proofs.Determined.{by_meaning}
use Rattle.counts.specs.declared.Slot.{Slot}
use Rattle.counts.specs.declared.Quanta.{Quanta}
use Rattle.counts.specs.declared.Subtask.{Subtask}

-- For at, later and before.
pub slot_is_determined : (n : ℕ) → Determined {R = Slot} (λ r. r.0 ≡ n)
slot_is_determined n = by_meaning (λ a b q. λ k. record { 0 = q k })

-- For of, one_more and quanta_before.
pub quanta_is_determined : (n : ℕ) → Determined {R = Quanta} (λ r. r.0 ≡ n)
quanta_is_determined n = by_meaning (λ a b q. λ k. record { 0 = q k })

-- For numbered, next and next_subtask.
pub subtask_is_determined : (n : ℕ) → Determined {R = Subtask} (λ r. r.0 ≡ n)
subtask_is_determined n = by_meaning (λ a b q. λ k. record { 0 = q k })
