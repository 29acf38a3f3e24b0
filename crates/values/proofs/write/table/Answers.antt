use Rattle.std.proofs.Common.{rules}
use Rattle.values.proofs.Written.{value_written}
use Rattle.values.proofs.write.table.Goals as goal

pub returns : goal.returns
returns c =
    value_written c.args.bytes.now c.args.table (search rules) c.put.ensures.s_after c.put-2.ensures.s_after c.put-3.ensures.s_after c.eight.ensures c.put-4.ensures.s_after
    c.rows.ensures
