use Rattle.facts.proofs.Filling.{Filled}
use Rattle.choice.specs.Choice.{favours_marked}
use Rattle.choice.specs.Keys.{end_of}
use Rattle.dispatcher.proofs.look.ends.Given as goal

abbrev pub invariant-loop-i : goal.invariant-loop-i
invariant-loop-i l = Filled (λ row. end_of (favours_marked l.favoured row) row) 0 0 32 l.i l.ends
