use Rattle.std.proofs.Common.{refl}
use Rattle.trace.proofs.Raising.{raises_on}
use Rattle.trace.proofs.counting.raise_named.Goals as goal

pub loop-row-preserved : goal.loop-row-preserved
loop-row-preserved c = raises_on _ _ c.loop-row.invariant c.loop-row-test.true refl (c.raise_one.ensures.counted_after, c.raise_one.ensures.counts_after)
