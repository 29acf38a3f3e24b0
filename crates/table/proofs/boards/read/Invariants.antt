use Rattle.facts.specs.Loops.{ReadSoFar}
use Rattle.fields.specs.Fields.{byte}
use Rattle.table.specs.Limits.{core_limit}
use Rattle.table.specs.Causes.{board_above}
use Rattle.table.specs.Bytes.{board_tests_in}
use Rattle.table.proofs.boards.read.Given as goal

abbrev pub invariant-loop-i : goal.invariant-loop-i
invariant-loop-i l = ReadSoFar (board_tests_in l.bytes) (λ k. board_above (byte l.bytes k)) (byte l.bytes) 0 core_limit 6 1 l.m l.boards l.least l.i
