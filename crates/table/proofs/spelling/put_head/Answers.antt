use Rattle.table.proofs.Parts.{head_stored}
use Rattle.table.proofs.spelling.put_head.Goals as goal

pub returns : goal.returns
returns c =
    let args = c.args in
    head_stored args.buffer.now args.format args.cycle args.cores c.put.ensures.s_after c.put-2.ensures.s_after c.put-3.ensures.s_after
