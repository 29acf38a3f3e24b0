-- Between functions: which numbers the code computes with; no part of what 01 says. Then no sum and no product on the way passes 64 bits.
use Rattle.std.specs.Prelude.{ℕ, ◌+◌, ◌<◌, ◌≤◌}
use Rattle.windows.specs.Next.{reach}

-- The furthest subtask that a walk from one within reach can come to lies in the same job, and a job has fewer than 2 to the 16.
abbrev pub furthest : ℕ
furthest = reach + 65_536

-- 2 to the 62: every product of such a number and a period is below it
abbrev pub products : ℕ
products = 4_611_686_018_427_387_904

-- A question about the next window that is answered, as a record (`next_answered` of Next.antt).
pub record InReach (e p o q : ℕ) : Type 0 where
  pub cost : 0 < e
  pub weight : e ≤ p
  pub origin : o ≤ reach
  pub quanta : q ≤ reach

-- A row that can be, an origin within reach, and a subtask that a walk can come to.
pub record Fits (e p o i : ℕ) : Type 0 where
  pub cost : 0 < e
  pub weight : e ≤ p
  pub period : p < 65_536
  pub origin : o ≤ reach
  pub first : 0 < i
  pub last : i ≤ furthest
