use Rattle.std.proofs.Common.{◌≡◌, take}
use mathlib.Core.List.{flat_map}
use lib.Seq.{sets}
use Rattle.fields.specs.Fields.{bytes_of}
use Rattle.table.proofs.spelling.put_boards.Given as goal

abbrev pub invariant-loop-i : goal.invariant-loop-i
invariant-loop-i l = l.buffer ≡ sets l.initial.buffer 6 (flat_map (bytes_of 1) (take l.i l.boards))
