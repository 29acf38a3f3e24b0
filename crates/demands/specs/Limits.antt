-- The limits of a row's quanta, in the words of demand 3 and of 01, "Share": by the row's own numbers alone. (pd2 tests the same in whole numbers, pd2/specs/Share.antt: `share` of
-- specs/Meanings.antt says that the two agree.)
use Rattle.std.specs.Prelude.{ℕ, ◌+◌, ◌-◌, ◌*◌, ◌/◌, ◌≤◌, cond, ltb, eqb}
use Rattle.facts.specs.Rounding.{ceil_div}
use Rattle.facts.specs.Counting.{how_many}
use Rattle.table.specs.declared.Row.{Row}

-- "At time t let a be 0 before f and t - f after."
abbrev pub since_phase : Row → ℕ → ℕ
since_phase row t = t - row.phase

-- "The exact share is e·a/p": rounded down, and rounded up
abbrev pub share_down : Row → ℕ → ℕ
share_down row t = row.cost * since_phase row t / row.period

abbrev pub share_up : Row → ℕ → ℕ
share_up row t = ceil_div (row.cost * since_phase row t) row.period

-- "all jobs released before that time": job j, counted from 0, is released at f + j·p, so that only jobs below t can be
abbrev pub jobs_before : Row → ℕ → ℕ
jobs_before row t = how_many (λ j. ltb (row.phase + j * row.period) t) t

-- "for an early-release row the upper limit is the cost of all jobs released before that time"; "kind (1: 0 plain, 1 early release)"
abbrev pub upper_limit : Row → ℕ → ℕ
upper_limit row t = cond (eqb row.kind 1) (row.cost * jobs_before row t) (share_up row t)

-- A row with q quanta at time t "holds at least its exact share rounded down, and at most that share rounded up".
pub record InLimits (row : Row) (q t : ℕ) : Type 0 where
  pub at_least : share_down row t ≤ q
  pub at_most : q ≤ upper_limit row t
