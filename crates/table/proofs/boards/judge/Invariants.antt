use Rattle.facts.specs.Loops.{Passed}
use Rattle.table.specs.Causes.{board_tests, board_above}
use Rattle.table.proofs.boards.judge.Given as goal

abbrev pub invariant-loop-board : goal.invariant-loop-board
invariant-loop-board l = Passed board_tests board_above l.boards l.least l.board-index
