use Rattle.std.proofs.Common.{◌≡◌, take}
use mathlib.Core.List.{flat_map}
use lib.Seq.{sets}
use Rattle.table.specs.Writing.{bytes_of_row}
use Rattle.table.proofs.spelling.put_rows.Given as goal

abbrev pub invariant-loop-i : goal.invariant-loop-i
invariant-loop-i l = l.buffer ≡ sets l.initial.buffer l.at (flat_map bytes_of_row (take l.i l.rows))
