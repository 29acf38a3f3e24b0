-- What the group deadline of a heavy row is (01, "Windows"): the walk gives the least time of its kind.
use Rattle.std.specs.Prelude.{ℕ, ◌+◌, ◌*◌, ◌≤◌, ◌<◌, ◌≡◌, ◌⊎◌, ◌↔◌}
use Rattle.windows.specs.Windows.{deadline, bit, window_length}
use Rattle.windows.specs.Group.{group_deadline}

-- Time t "is the deadline of a subtask of this row with b = 0, or one less than the deadline of a subtask of this row whose window is
-- 3 slots long". That subtask is j.
abbrev pub Marks : ℕ → ℕ → ℕ → ℕ → ℕ → Type 0
Marks e p o j t =
    ((bit e p j ≡ 0) × (t ≡ deadline e p o j)) ⊎ ((window_length e p o j ≡ 3) × (t + 1 ≡ deadline e p o j))

-- "For a heavy row it is the smallest time at or after d that is" so marked.
pub record IsGroupDeadline (e p o i t : ℕ) : Type 0 where
  pub after : deadline e p o i ≤ t
  pub marked : (j : ℕ) × (0 < j) × Marks e p o j t
  pub least : (j u : ℕ) → 0 < j → Marks e p o j u → deadline e p o i ≤ u → t ≤ u

-- Of every heavy row, of weight "at least one half" (02, Three), the walk gives that time and no other, whatever the origin.
abbrev pub WalkGivesLeastTime : Type 0
WalkGivesLeastTime =
    (e p o i t : ℕ) → 0 < e → e ≤ p → p ≤ 2 * e → 0 < i → IsGroupDeadline e p o i t ↔ (t ≡ group_deadline e p o i)

-- "group deadline D: 0 for a light row."
abbrev pub LightHasNone : Type 0
LightHasNone = (e p o i : ℕ) → 2 * e < p → group_deadline e p o i ≡ 0
