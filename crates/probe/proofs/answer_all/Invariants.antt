use Rattle.std.proofs.Common.{◌-◌, ◌≤◌, length}
use Rattle.probe.proofs.answer_all.Given as goal

abbrev pub invariant-loop-at : goal.invariant-loop-at
invariant-loop-at g l = l.at ≤ length l.requests

abbrev pub decreases-loop-at : goal.decreases-loop-at
decreases-loop-at g l = length l.initial.requests - l.at
