use Rattle.table.proofs.Parts.{front_stored, row_stored}
use Rattle.table.proofs.spelling.put_row.Goals as goal

pub returns : goal.returns
returns c =
    let row = c.args.row.now in
    let front = front_stored c.args.buffer.now c.args.at row.tank row.cost row.period c.put.ensures.s_after c.put-2.ensures.s_after c.put-3.ensures.s_after in
    row_stored c.args.buffer.now c.args.at row front c.put-4.ensures.s_after c.put-5.ensures.s_after
