use Rattle.std.proofs.Common.{◌<◌, rules, refl}
use Rattle.printer.proofs.Lines.{tanks_begin, tanks_go_on, tanks_end, part_is_named, named_is_row}
use Rattle.printer.proofs.line.tanks.Goals as goal

pub loop-row-init : goal.loop-row-init
loop-row-init c = (refl, tanks_begin _ _ _ _)

pub bounds-rows-row : goal.bounds-rows-row
bounds-rows-row c = named_is_row c.args.entry.now c.requires.1 (part_is_named c.args.entry.now refl) _ c.loop-row-test.true

pub loop-row-preserved : goal.loop-row-preserved
loop-row-preserved c =
    let tank : c.from.result < 65_536 = search rules in
    (search rules, tanks_go_on _ _ _ c.loop-row.invariant.1 c.loop-row-test.true c.from.ensures tank c.spaced.ensures.wrote)

pub returns-clause-wrote : goal.returns-clause-wrote
returns-clause-wrote c =
    tanks_end _ _ c.args.entry.now (part_is_named c.args.entry.now refl) c.requires.1.few c.loop-row.row-index c.loop-row.invariant.1 c.loop-row-test.false c.loop-row.auto.row-index-end
