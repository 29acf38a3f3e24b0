use Rattle.desk_run.proofs.Run.{RanSoFar}
use Rattle.desk_run.proofs.zb_run.Given as goal

abbrev pub invariant-loop-done : goal.invariant-loop-done
invariant-loop-done l = RanSoFar l.initial.state l.list l.fn.entries l.state l.entries l.done
