use Rattle.std.proofs.Common.{◌≡◌}
use Rattle.printer.proofs.Lines.{TanksSoFar}
use Rattle.printer.proofs.line.tanks.Given as goal

abbrev pub invariant-loop-row : goal.invariant-loop-row
invariant-loop-row l =
    (l.page.out.ghost_name ≡ l.initial.page.out.ghost_name)
    × TanksSoFar l.rows l.row-items l.initial.page.out.now l.initial.page.at l.page.out.now l.page.at l.row-index
