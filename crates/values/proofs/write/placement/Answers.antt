use Rattle.std.proofs.Common.{rules}
use Rattle.values.proofs.Written.{placement_written}
use Rattle.values.proofs.write.placement.Goals as goal

pub returns : goal.returns
returns c = placement_written c.args.bytes.now c.args.at c.args.placed (search rules) c.put.ensures.s_after c.eight.ensures c.eight-2.ensures
