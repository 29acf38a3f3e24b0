use Rattle.std.proofs.Common.{arith}
use Rattle.printer.proofs.Decimal.{few_digits}
use Rattle.printer.proofs.Writing.{wrote_on}
use Rattle.printer.proofs.line.last.Goals as goal

pub byte-requires : goal.byte-requires
byte-requires c = omega (arith, c.spaced.ensures.wrote.place, few_digits 19 c.args.number (omega (arith, c.ranges.number.fits)), c.requires)

pub returns-clause-wrote : goal.returns-clause-wrote
returns-clause-wrote c = wrote_on c.spaced.ensures.wrote c.byte.ensures.wrote
