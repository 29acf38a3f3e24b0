-- The window of a subtask (01, "Windows"). e is the row's cost, p its period, o its origin: the time from which its windows are
-- counted, which may be any number (of a row in a table it is the phase f). i numbers the row's subtasks, from 1.
use Rattle.std.specs.Prelude.{ℕ, ◌+◌, ◌-◌, ◌*◌, ◌/◌, ◌%◌, ◌<◌, ◌≡◌, cond, eqb}
use Rattle.facts.specs.Rounding.{ceil_div}

-- "start r = f + floor((i-1)·p/e)"
unfoldable pub start : ℕ → ℕ → ℕ → ℕ → ℕ
start e p o i = o + (i - 1) * p / e

-- "deadline d = f + ceil(i·p/e)"
unfoldable pub deadline : ℕ → ℕ → ℕ → ℕ → ℕ
deadline e p o i = o + ceil_div (i * p) e

-- "bit b = 0 if e divides i·p, else 1"
unfoldable pub bit : ℕ → ℕ → ℕ → ℕ
bit e p i = cond (eqb (i * p % e) 0) 0 1

-- "Then the next start is d - b."
abbrev pub NextStartIsDLessB : Type 0
NextStartIsDLessB = (e p o i : ℕ) → 0 < e → start e p o (i + 1) ≡ deadline e p o i - bit e p i

-- "Allowed slots: r up to d-1": how many slots long the window is
unfoldable pub window_length : ℕ → ℕ → ℕ → ℕ → ℕ
window_length e p o i = deadline e p o i - start e p o i

-- "the start of the job that holds it, f + floor((i-1)/e)·p"
unfoldable pub job_start : ℕ → ℕ → ℕ → ℕ → ℕ
job_start e p o i = o + (i - 1) / e * p
