use Rattle.std.proofs.Common.{◌∙◌, sym}
use Rattle.summary.proofs.Walking.{walk_begins, walk_on_named, walk_on_other, is_named}
use Rattle.summary.proofs.question.times_named.Goals as goal
use Rattle.summary.proofs.question.times_named.Goals.{then-contains, else-contains}

pub loop-init : goal.loop-init
loop-init c = walk_begins _ _ _ _

pub loop-preserved : goal.loop-preserved
loop-preserved c =
    elim c.if-contains.branch [
      | then-contains w ↦ rw w.times-is (walk_on_named _ _ _ _ c.loop.invariant c.loop-test.true c.in_ok-next.ensures (sym w.if-contains.true ∙ (c.contains.ensures.value ∙ is_named _ _)))
      | else-contains w ↦ rw w.times-is (walk_on_other _ _ _ _ c.loop.invariant c.loop-test.true c.in_ok-next.ensures (sym w.if-contains.false ∙ (c.contains.ensures.value ∙ is_named _ _)))
    ]
