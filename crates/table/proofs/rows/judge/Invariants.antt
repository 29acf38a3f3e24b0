use Rattle.std.proofs.Common.{length}
use Rattle.facts.specs.Loops.{Passed}
use Rattle.table.specs.Causes.{row_tests, tank_above}
use Rattle.table.proofs.Sum.{Added}
use Rattle.table.proofs.rows.judge.Given as goal

-- the rows so far have passed their tests, and are in the sum
abbrev pub invariant-loop-row : goal.invariant-loop-row
invariant-loop-row l = Passed (row_tests l.cycle) tank_above l.rows l.least l.row-index × Added l.rows (length l.rows) l.cycle l.sum l.row-index
