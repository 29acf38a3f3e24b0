use Rattle.std.proofs.Common.{arith}
use Rattle.printer.specs.Lines.{decimal}
use Rattle.printer.proofs.Decimal.{few_digits}
use Rattle.printer.proofs.Lines.{wrote_line_of_one}
use Rattle.printer.proofs.line.numbered.Goals as goal

pub returns-clause-wrote : goal.returns-clause-wrote
returns-clause-wrote c =
    let n = c.args.number in
    wrote_line_of_one (decimal n) c.word.ensures.wrote c.last.ensures.wrote (omega (arith, few_digits 19 n (omega (arith, c.ranges.number.fits)), c.requires.1))
