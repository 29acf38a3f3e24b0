use Rattle.trace.proofs.Raising.{RaisedBy}
use Rattle.trace.proofs.counting.raise_named.Given as goal

abbrev pub invariant-loop-row : goal.invariant-loop-row
invariant-loop-row l = RaisedBy l.rows l.initial.counts l.counted l.counts l.row-index
