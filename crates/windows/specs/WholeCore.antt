-- Rows with e = p (02, Six, "Whole-core rows"). Nothing is defined for them: these are the windows of specs/Windows.antt and the walk of specs/Group.antt, at e = p.
use Rattle.std.specs.Prelude.{ℕ, ◌+◌, ◌-◌, ◌≤◌, ◌<◌, ◌≡◌}
use Rattle.windows.specs.Windows.{start, deadline, bit, window_length}
use Rattle.windows.specs.Group.{group_deadline}
use Rattle.windows.specs.Question.{last_subtask, window_reply}

-- "Such a row has windows of one slot, b = 0, and D = d": subtask i has the slot i - 1 slots after the origin o.
pub record OneSlot (p o i : ℕ) : Type 0 where
  pub starts : start p p o i ≡ o + (i - 1)
  pub ends : deadline p p o i ≡ o + i
  pub one_slot : window_length p p o i ≡ 1
  pub bit_is_0 : bit p p i ≡ 0
  pub group_is_d : group_deadline p p o i ≡ deadline p p o i

pub record WholeCoreRows : Type 0 where
  pub windows : (p o i : ℕ) → 0 < p → 0 < i → OneSlot p o i
  -- So the window question answers of every such row, in numbers.
  pub answer : (p f i : ℕ) → 0 < p → 0 < i → i ≤ last_subtask →
      window_reply p p f i ≡ record { number = 0; r = f + (i - 1); d = f + i; b = 0; D = f + i }
