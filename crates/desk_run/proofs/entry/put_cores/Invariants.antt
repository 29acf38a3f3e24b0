use Rattle.std.proofs.Common.{◌≡◌, take}
use mathlib.Core.List.{flat_map}
use Rattle.std.proofs.lemmas.List.Edits.{sets}
use Rattle.fields.specs.Fields.{bytes_of}
use Rattle.desk_run.proofs.entry.put_cores.Given as goal

abbrev pub invariant-loop-i : goal.invariant-loop-i
invariant-loop-i l = l.entries ≡ sets l.fn.entries l.at (flat_map (bytes_of 1) (take l.i l.cores))
