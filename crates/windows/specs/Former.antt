-- What was before request Three of 02: "001 says heavy is at least one half; we had followed 000." It stands here for comparison alone: no function uses it, and
-- no definition but those that say what was.
use Rattle.std.specs.Prelude.{ℕ, ◌*◌, Bool, cond, ltb}
use Rattle.facts.specs.First.{at_first}
use Rattle.windows.specs.Group.{stops, stop_time}

-- "a row is heavy when e/p is more than one half (000)" (01)
unfoldable pub former_heavy : ℕ → ℕ → Bool
former_heavy e p = ltb p (2 * e)

-- the group deadline by it: the same walk, of fewer rows
unfoldable pub former_group_deadline : ℕ → ℕ → ℕ → ℕ → ℕ
former_group_deadline e p o i = cond (former_heavy e p) (at_first (stops e p o i) (stop_time e p o) i e) 0
