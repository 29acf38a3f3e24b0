-- What the lower crates answer about a row, and what the functions here make of it. Assumes nothing.
use Prim.Native.Nat.{ℕ, ◌+◌, ◌-◌, ◌*◌, ◌≤◌, ◌<◌}
use mathlib.Core.Path.{◌≡◌, refl, sym, ◌∙◌}
use mathlib.Core.Bool.{Bool, true, false, false≢true}
use mathlib.Core.Logic.{◌⊎◌, inl, inr}
use native.Mathlib.Omega.{arith}
use Rattle.std.specs.Prelude.{Option, Some, None, MatchOption, unwrap_or}
use Rattle.counts.specs.Limits.{most}
use Rattle.windows.specs.declared.times.Due.{Due}
use Rattle.windows.specs.Next.{reach, next_due}
use Rattle.windows.proofs.Windows.{bit_is_0_or_1}
use Rattle.table.specs.declared.Row.{Row}
use Rattle.pd2.specs.Ready.{origin_of, ready}
use Rattle.pd2.specs.Order.{rank_of, with_favour}
use Rattle.pd2.specs.Verdict.{answered}
use Rattle.pd2.specs.Near.{HasWindow}
use Rattle.pd2.proofs.Verdicts.{due_is_said, in_reach, yes_when_answered, yes_is_answered}
use Rattle.pd2.proofs.Readiness.{ready_is_due_within_period}
use Rattle.choice.specs.Choice.{says_ready}
use Rattle.choice.specs.Keys.{behind, DueIs, end_of, key_for, HasKey, key_of, KeyIs}
use Rattle.choice.proofs.KeyOrder.{rank_has_key, behind_fits}

-- A row that is answered to be ready has a window.
pub window_if_ready : (row : Row) (q t : ℕ) → says_ready row q t ≡ true → HasWindow row q
window_if_ready row q t h =
    let numbers = in_reach row q t (yes_is_answered (answered row q t) (ready row q t) h) in
    record { cost = numbers.0; weight = numbers.1; quanta = numbers.2 }

-- Then windows answers when it is due.
pub due_of_ready : (row : Row) (q t : ℕ) → row.phase < 65_536 → says_ready row q t ≡ true → {o : ℕ} {due : Option Due} → o ≡ origin_of row → due ≡ next_due row.cost row.period o q →
    MatchOption due (says_ready row q t ≡ false) (λ due. (says_ready row q t ≡ true) × DueIs row q due.deadline.0 due.bit)
due_of_ready row q t small is_ready same asked =
    let window = window_if_ready row q t is_ready in
    rw (due_is_said row q window small same asked) (is_ready, record { window = window; deadline = refl; bit = refl })

-- That is soon after the latest slot that may be asked for.
pub due_fits : (row : Row) (q t : ℕ) → row.period < 65_536 → says_ready row q t ≡ true → {d b : ℕ} → DueIs row q d b → (d < 2_000_000_000_000) × (b ≤ 1)
due_fits row q t period h {d} {b} due = (omega (arith, due.deadline, numbers.3, ready_is_due_within_period row q t numbers.0 is), go (bit_is_0_or_1 row.cost row.period (q + 1)))
  where
    asked : answered row q t ≡ true
    asked = yes_is_answered (answered row q t) (ready row q t) h

    numbers : (0 < row.cost) × (row.cost ≤ row.period) × (q ≤ reach) × (t ≤ reach)
    numbers = in_reach row q t asked

    is : ready row q t ≡ true
    is = sym (yes_when_answered (ready row q t) asked) ∙ h

    go : ((rank_of row 0 q).b ≡ 0) ⊎ ((rank_of row 0 q).b ≡ 1) → b ≤ 1
    go (inl z) = omega (arith, due.bit, z)
    go (inr z) = omega (arith, due.bit, z)

-- The key of a ready row, by its parts.
pub ready_key : (row : Row) (i q : ℕ) (favoured : Bool) (t : ℕ) → i < 32 → row.cost < 65_536 → says_ready row q t ≡ true → {d b far end key : ℕ} → DueIs row q d b → far ≡ behind (rank_of row 0 q) → end ≡ end_of favoured i →
    (key ≡ ((2 * d + (1 - b)) * 65_536 + (65_535 - far)) * 64 + end) × (key < most) → KeyIs row i q favoured t key
unfolding key_of key_for
ready_key row i q favoured t few cost h due pf pe is =
    record {
      ready = h;
      is = is.0 ∙ rw (h, due.deadline, due.bit, pf, pe) refl;
      low = is.1;
      has = rank_has_key row i q favoured due.window cost few;
    }

-- As a number that stands for it, the key of a row is the largest where it has none.
pub key_or_most : (row : Row) (i q : ℕ) (favoured : Bool) (t : ℕ) (answer : Option ℕ) → MatchOption answer (says_ready row q t ≡ false) (KeyIs row i q favoured t) →
    (unwrap_or answer most ≡ key_of row i q favoured t) × (says_ready row q t ≡ true → (unwrap_or answer most < most) × HasKey (with_favour (rank_of row i q) favoured))
unfolding key_of
key_or_most row i q favoured t None h = (rw h refl, λ e. absurd (false≢true (sym h ∙ e)))
key_or_most row i q favoured t (Some key) h = (h.is, λ e. (h.low, h.has))

-- How far D lies behind d, where the bit is not 0.
module _ (row : Row) (q : ℕ) (cost : row.cost < 65_536) {d b : ℕ} (due : DueIs row q d b) where
  pub asked_behind : {D far : ℕ} → (b ≡ 0 → ⊥) → D ≡ (rank_of row 0 q).D → far ≡ D - d → (far ≡ behind (rank_of row 0 q)) × (far < 65_536)
  asked_behind {D} {far} one p_d is = (same, omega (arith, same, behind_fits (rank_of row 0 q) (rank_has_key row 0 q false due.window cost (omega arith))))
    where
      go : ((rank_of row 0 q).b ≡ 0) ⊎ ((rank_of row 0 q).b ≡ 1) → far ≡ behind (rank_of row 0 q)
      go (inl z) = absurd (one (due.bit ∙ z))
      go (inr z) = is ∙ rw (p_d, due.deadline, z) refl

      same : far ≡ behind (rank_of row 0 q)
      same = go (bit_is_0_or_1 row.cost row.period (q + 1))
