use mathlib.Core.Bool.{false}
use lib.Dec.{ltb}
use Rattle.facts.proofs.Filling.{Filled}
use Rattle.cores.proofs.first.Given as goal

abbrev pub invariant-loop-i : goal.invariant-loop-i
invariant-loop-i l = Filled (λ core. ltb core l.k) false false 32 l.i l.mark-items
