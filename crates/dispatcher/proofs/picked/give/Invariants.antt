use Rattle.dispatcher.proofs.Giving.{Gave}
use Rattle.dispatcher.proofs.picked.give.Given as goal

abbrev pub invariant-loop-row : goal.invariant-loop-row
invariant-loop-row l = Gave l.rows l.initial.quanta l.quanta l.row-index
