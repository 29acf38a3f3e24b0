use Rattle.std.proofs.Common.{◌<◌, arith, rules}
use Rattle.printer.specs.Lines.{decimal}
use Rattle.printer.proofs.Decimal.{few_digits}
use Rattle.printer.proofs.Lines.{wrote_line_of_two}
use Rattle.printer.proofs.line.late.Goals as goal

pub last-requires : goal.last-requires
last-requires c =
    omega (arith, c.spaced.ensures.wrote.place, c.word.ensures.wrote.place, few_digits 19 c.args.time (omega (arith, c.ranges.time.fits)), c.requires.0)

pub returns-clause-wrote : goal.returns-clause-wrote
returns-clause-wrote c =
    let row = c.args.row in
    let tank : c.from.result < 65_536 = search rules in
    rw (← c.from.ensures)
    (wrote_line_of_two (decimal c.from.result) c.word.ensures.wrote c.spaced.ensures.wrote c.last.ensures.wrote
    (omega (arith, few_digits 19 c.args.time (omega (arith, c.ranges.time.fits)), few_digits 4 c.from.result (omega (arith, tank)))))
