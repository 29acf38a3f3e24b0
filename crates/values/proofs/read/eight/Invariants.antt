use Rattle.std.proofs.Common.{◌≡◌}
use Rattle.facts.specs.Places.{padded}
use Rattle.fields.specs.Fields.{byte}
use Rattle.values.proofs.read.eight.Given as goal

abbrev pub invariant-loop-i : goal.invariant-loop-i
invariant-loop-i l = l.number-items ≡ padded (byte l.bytes) (0) 8 l.at 1 l.i
