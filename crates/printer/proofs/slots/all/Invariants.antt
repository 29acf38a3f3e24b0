use Rattle.std.proofs.Common.{◌≡◌, ◌-◌}
use Rattle.dispatcher.specs.State.{fresh_of}
use Rattle.printer.specs.Input.{free_in}
use Rattle.printer.proofs.Text.{SlotsSoFar}
use Rattle.printer.proofs.slots.all.Given as goal

abbrev pub invariant-loop : goal.invariant-loop
invariant-loop l =
    (l.page.out.ghost_name ≡ l.initial.page.out.ghost_name)
    × SlotsSoFar (free_in l.input l.table.cores) l.end (fresh_of l.table) l.initial.page.out.now l.initial.page.at l.page.out.now l.page.at l.state (l.end - l.counter)
