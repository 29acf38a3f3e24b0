use native.Mathlib.Omega.{arith}
use Rattle.choice.proofs.Left.{smallest_of_none, smallest_of_more}
use Rattle.choice.proofs.smallest.smallest.Goals as goal

pub loop-i-init : goal.loop-i-init
loop-i-init c = smallest_of_none _ 9 _ (omega (arith, c.requires))

pub loop-i-preserved : goal.loop-i-preserved
loop-i-preserved c = smallest_of_more _ _ c.loop-i.invariant c.min.ensures c.with_key.ensures
