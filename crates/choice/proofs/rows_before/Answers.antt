use mathlib.Core.Path.{refl}
use native.Mathlib.Omega.{arith}
use Rattle.facts.proofs.Filling.{filling_begins, fills_one_more}
use Rattle.choice.proofs.Filled.{marks_are}
use Rattle.choice.proofs.rows_before.Goals as goal

pub loop-i-init : goal.loop-i-init
loop-i-init c = filling_begins _ _ _ _

pub loop-i-preserved : goal.loop-i-preserved
loop-i-preserved c = fills_one_more _ _ _ _ c.loop-i.invariant (omega arith) refl

pub returns : goal.returns
returns c = marks_are _ _ _ c.loop-i.invariant (omega arith) c.requires
