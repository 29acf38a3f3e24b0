use mathlib.Core.Bool.{false}
use lib.Dec.{ltb}
use Rattle.facts.proofs.Filling.{Filled}
use Rattle.choice.specs.Keys.{key_in}
use Rattle.choice.proofs.rows_before.Given as goal

abbrev pub invariant-loop-i : goal.invariant-loop-i
invariant-loop-i l = Filled (λ j. ltb (key_in l.keys j) l.first) false false 32 l.i l.marks
