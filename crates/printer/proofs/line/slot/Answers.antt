use Rattle.std.proofs.Common.{arith}
use Rattle.printer.specs.Writing.{rows_in_entry, tanks_of}
use Rattle.printer.proofs.Decimal.{few_digits}
use Rattle.printer.proofs.Lines.{wrote_slot_line}
use Rattle.printer.proofs.line.slot.Goals as goal

pub spaced-requires : goal.spaced-requires
spaced-requires c = omega (arith, c.number.ensures.wrote.place, few_digits 4 c.args.slot c.requires.1.0, c.requires.0)

pub tanks-requires : goal.tanks-requires
tanks-requires c =
    let few_of_k = few_digits 2 c.from.result (omega (arith, c.from.ensures, c.ranges.k.fits)) in
    (omega (arith, c.spaced.ensures.wrote.place, c.number.ensures.wrote.place, few_digits 4 c.args.slot c.requires.1.0, few_of_k, c.requires.0), c.requires.1.1)

pub byte-requires : goal.byte-requires
byte-requires c =
    let few_of_k = few_digits 2 c.from.result (omega (arith, c.from.ensures, c.ranges.k.fits)) in
    let tanks = c.tanks.ensures.wrote in
    omega (arith, tanks.wrote.place, tanks.few, c.spaced.ensures.wrote.place, c.number.ensures.wrote.place, few_digits 4 c.args.slot c.requires.1.0, few_of_k, c.requires.0)

pub returns-clause-wrote : goal.returns-clause-wrote
returns-clause-wrote c =
    wrote_slot_line c.args.slot c.args.k (tanks_of c.args.rows.now (rows_in_entry c.args.entry.now))
    c.number.ensures.wrote (rw c.from.ensures at c.spaced.ensures.wrote) c.tanks.ensures.wrote c.byte.ensures.wrote
    (few_digits 4 c.args.slot c.requires.1.0) (few_digits 2 c.args.k (omega (arith, c.ranges.k.fits)))
