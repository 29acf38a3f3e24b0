use Rattle.std.proofs.Common.{◌≡◌, length, arith, rules}
use lib.Seq.{length-take-le}
use Rattle.table.proofs.Parts.{table_stored}
use Rattle.table.proofs.spelling.put.Goals as goal

pub returns : goal.returns
returns c =
    let t = c.args.table.now in
    let eight : length t.boards ≡ 8 = search rules in
    table_stored c.args.buffer.now t (length-take-le t.cores t.boards (omega (arith, c.requires.0, eight)))
    c.put_head.ensures
    c.put_boards.ensures
    c.put.ensures.s_after
    c.put_rows.ensures
