use Rattle.std.specs.Prelude.{◌≡◌, ◌≤◌, ◌<◌, length}
use Rattle.trace.specs.Said.{bare}
use Rattle.checker.specs.Check.{trace_said}
use Rattle.checker.proofs.Traced.{Come}
use Rattle.checker.proofs.check_trace.Given as goal

-- What the check has come to; and, for what is behind the loop, what the whole says if the loop ends there.
abbrev pub invariant-loop-slot : goal.invariant-loop-slot
invariant-loop-slot l = record {
  come : Come l.table l.trace l.slots l.slot l.at l.walk;
  left : l.slots ≤ l.slot → l.at < length l.trace → bare 46 ≡ trace_said l.table l.trace;
  passes : l.slots ≤ l.slot → length l.trace ≤ l.at → bare 0 ≡ trace_said l.table l.trace;
}
