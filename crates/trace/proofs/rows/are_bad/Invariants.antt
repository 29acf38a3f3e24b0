use Rattle.trace.proofs.Rising.{NoneBadYet}
use Rattle.trace.proofs.rows.are_bad.Given as goal

abbrev pub invariant-loop-row : goal.invariant-loop-row
invariant-loop-row l = NoneBadYet l.rows l.n l.least l.row-index
