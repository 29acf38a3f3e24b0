-- What request Three of 02 moved: the D of rows of "weight exactly one half". What it was stands in specs/Former.antt.
use Rattle.std.specs.Prelude.{ℕ, ◌+◌, ◌-◌, ◌*◌, ◌≤◌, ◌<◌, ◌≡◌}
use Rattle.windows.specs.Windows.{deadline, bit}
use Rattle.windows.specs.Group.{group_deadline}
use Rattle.windows.specs.Former.{former_group_deadline}
use Rattle.windows.specs.Question.{last_subtask, window_reply}

-- "weight exactly one half"
abbrev pub IsOneHalf : ℕ → ℕ → Type 0
IsOneHalf e p = (0 < e) × (p ≡ 2 * e)

-- It moved from 0 to d, and no other D moved, whatever the numbers.
pub record MovedAtHalf : Type 0 where
  pub was_0 : (e p o i : ℕ) → IsOneHalf e p → former_group_deadline e p o i ≡ 0
  pub is_d : (e p o i : ℕ) → IsOneHalf e p → group_deadline e p o i ≡ deadline e p o i
  pub elsewhere_same : (e p o i : ℕ) → (IsOneHalf e p → ⊥) → group_deadline e p o i ≡ former_group_deadline e p o i
  -- "such a row's b is always 0"
  pub bit_is_0 : (e p i : ℕ) → IsOneHalf e p → bit e p i ≡ 0
  -- So the window question answers of every such row, in numbers: "1/2, i = 1 has D 2".
  pub answer : (e f i : ℕ) → 0 < e → 0 < i → i ≤ last_subtask →
      window_reply e (2 * e) f i ≡ record { number = 0; r = f + 2 * (i - 1); d = f + 2 * i; b = 0; D = f + 2 * i }
