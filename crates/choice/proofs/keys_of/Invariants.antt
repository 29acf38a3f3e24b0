use Rattle.counts.specs.Numbers.{numbers_of}
use Rattle.choice.specs.Choice.{favours_marked}
use Rattle.choice.proofs.Filled.{Keyed}
use Rattle.choice.proofs.keys_of.Given as goal

abbrev pub invariant-loop-i : goal.invariant-loop-i
invariant-loop-i l = Keyed l.rows (numbers_of l.quanta) (favours_marked l.favoured) l.time.0 l.keys l.i
