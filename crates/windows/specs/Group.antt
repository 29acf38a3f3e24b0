-- The group deadline of a subtask (01, "Windows"), as the bench follows it: "walk the row's windows forward and stop at the
-- first that fits". specs/LeastTime.antt says what it is without a walk.
use Rattle.std.specs.Prelude.{ℕ, ◌-◌, ◌*◌, Bool, cond, ◌&&◌, ◌||◌, ltb, leb, eqb}
use Rattle.facts.specs.First.{at_first}
use Rattle.windows.specs.Windows.{deadline, bit, window_length}

-- "001 says heavy is at least one half" (02, Three). What it was before stands in specs/Former.antt.
unfoldable pub heavy : ℕ → ℕ → Bool
heavy e p = leb p (2 * e)

-- The walk from subtask i stops at subtask j if "b = 0", or if j is past i and its "window is 3 slots long". (The length of i's own
-- window does not count: one less than its deadline lies before d. docs/DECISIONS.md, 8. In a heavy row no window with b = 0 is 3 slots
-- long, so the two never meet in one j.)
unfoldable pub stops : ℕ → ℕ → ℕ → ℕ → ℕ → Bool
stops e p o i j = eqb (bit e p j) 0 || (ltb i j && eqb (window_length e p o j) 3)

-- What it then gives: "the deadline of a subtask of this row with b = 0, or one less than the deadline of a subtask of this row
-- whose window is 3 slots long".
unfoldable pub stop_time : ℕ → ℕ → ℕ → ℕ → ℕ
stop_time e p o j = cond (eqb (bit e p j) 0) (deadline e p o j) (deadline e p o j - 1)

-- "group deadline D: 0 for a light row." For a heavy row, the walk from i. Every e-th subtask has b = 0, so e windows are enough
-- (proofs/Group.antt, walk_ends_within_job).
unfoldable pub group_deadline : ℕ → ℕ → ℕ → ℕ → ℕ
group_deadline e p o i = cond (heavy e p) (at_first (stops e p o i) (stop_time e p o) i e) 0
