-- A row's next window, by its origin o and the quanta q it has been given: "Subtask i is next when i-1 quanta have been given."
use Rattle.std.specs.Prelude.{ℕ, ◌+◌, Bool, cond, ◌&&◌, ltb, leb, Option, Some, None}
use Rattle.counts.specs.declared.Slot.{Slot}
use Rattle.windows.specs.declared.times.Due.{Due}
use Rattle.windows.specs.Windows.{deadline, bit}

-- How far a question may reach, 2 to the 40: origins, quanta and times up to here are answered (docs/DECISIONS.md, 11 and 32).
abbrev pub reach : ℕ
reach = 1_099_511_627_776

-- A question about the next window is answered for each row that can be, with an origin and quanta within reach.
abbrev pub next_answered : ℕ → ℕ → ℕ → ℕ → Bool
next_answered e p o q = ltb 0 e && leb e p && leb o reach && leb q reach

-- d and b of the next subtask
unfoldable pub next_due : ℕ → ℕ → ℕ → ℕ → Option Due
next_due e p o q =
    cond (next_answered e p o q) (Some (record { deadline = record { 0 = deadline e p o (q + 1) }; bit = bit e p (q + 1) })) None

-- A time of the next subtask: its `start`, its `job_start` or its `group_deadline`.
unfoldable pub next : (ℕ → ℕ → ℕ → ℕ → ℕ) → ℕ → ℕ → ℕ → ℕ → Option Slot
next time e p o q = cond (next_answered e p o q) (Some (record { 0 = time e p o (q + 1) })) None
