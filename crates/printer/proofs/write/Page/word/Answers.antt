use Rattle.std.proofs.Common.{rules}
use Rattle.printer.proofs.Writing.{wrote_one_more}
use Rattle.printer.proofs.write.Page.word.Goals as goal

pub loop-byte-preserved : goal.loop-byte-preserved
loop-byte-preserved c = (search rules, wrote_one_more _ _ c.loop-byte.invariant.1 c.loop-byte-test.true c.byte.ensures.wrote)
