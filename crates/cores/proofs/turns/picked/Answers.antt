use Prim.Native.Nat.{◌<◌}
use borrow.Author.Rules.{rules}
use lib.ListN.{get_or}
use Rattle.cores.proofs.Picking.{picking_begins, picks_one_more, picks_all}
use Rattle.cores.proofs.turns.picked.Goals as goal

pub loop-row-init : goal.loop-row-init
loop-row-init c = picking_begins _

pub loop-row-preserved : goal.loop-row-preserved
loop-row-preserved c =
    let small : get_or c.args.rows.now c.loop-row.row-index 0 < 256 = search rules in
    picks_one_more _ c.loop-row.invariant c.loop-row-test.true small

pub returns : goal.returns
returns c = picks_all _ c.loop-row.invariant c.loop-row-test.false
