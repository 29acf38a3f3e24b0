use Rattle.summary.proofs.Walking.{Walked}
use Rattle.summary.proofs.question.times_named.Given as goal

abbrev pub invariant-loop : goal.invariant-loop
invariant-loop l = Walked l.trace l.from l.row l.m l.at l.times l.counter
