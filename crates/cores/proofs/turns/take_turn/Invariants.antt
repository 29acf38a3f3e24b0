use mathlib.Core.Path.{◌≡◌}
use Rattle.cores.specs.Turns.{from_on}
use Rattle.cores.proofs.turns.take_turn.Given as goal

abbrev pub invariant-loop-core : goal.invariant-loop-core
invariant-loop-core l = from_on l.left l.next ≡ from_on l.left l.core
