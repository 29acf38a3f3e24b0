use Rattle.std.proofs.Common.{arith}
use Rattle.trace.proofs.Writing.{record_in_front, is_written}
use Rattle.trace.proofs.write.Goals as goal

pub returns-clause-part_after : goal.returns-clause-part_after
returns-clause-part_after c =
    is_written _ _ (omega (arith, c.if-part-length.false, c.record_length-length.ensures, c.how_many-picked.ensures))
    (record_in_front _ _ _ _ (omega (arith, c.if-part-length.false, c.record_length-length.ensures)) c.how_many-picked.ensures c.put_rows.ensures)
