use mathlib.Core.Path.{refl}
use Rattle.facts.proofs.Filling.{filling_begins, fills_one_more}
use Rattle.cores.proofs.Sets.{filled_are_first}
use Rattle.cores.proofs.first.Goals as goal

pub loop-i-init : goal.loop-i-init
loop-i-init c = filling_begins _ _ _ _

pub loop-i-preserved : goal.loop-i-preserved
loop-i-preserved c = fills_one_more _ _ _ _ c.loop-i.invariant c.loop-i-test.true refl

pub returns : goal.returns
returns c = filled_are_first _ c.loop-i.invariant c.loop-i-test.false
