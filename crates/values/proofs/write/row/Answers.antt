use Rattle.values.proofs.Written.{row_written}
use Rattle.values.proofs.write.row.Goals as goal

pub returns : goal.returns
returns c =
    row_written c.args.bytes.now c.args.at c.args.row.now c.put.ensures.s_after c.put-2.ensures.s_after c.put-3.ensures.s_after c.put-4.ensures.s_after c.put-5.ensures.s_after
