use Rattle.std.proofs.Common.{◌≡◌, Ok, refl, rules}
use Rattle.trace.specs.Said.{named}
use Rattle.dispatcher.specs.declared.Ran.TheVariants.{Late}
use Rattle.printer.proofs.Text.{own_late}
use Rattle.printer.proofs.slots.one.Goals as goal

pub returns-in-Ok-Late-clause-wrote : goal.returns-in-Ok-Late-clause-wrote
returns-in-Ok-Late-clause-wrote c =
    let a = c.args in
    let late = c.in-Ok-Late in
    let is : a.answer ≡ Ok (Late late.row late.time) = search rules in
    rw is
    (own_late a.slot.0 a.k a.rows.now a.entry.now (named 1 late.row late.time.0) refl (rw c.time-in-Ok-Late.ensures at c.slot-in-Ok-Late.ensures.wrote)
    (rw c.time-in-Ok-Late-2.ensures at c.late.ensures.wrote))
