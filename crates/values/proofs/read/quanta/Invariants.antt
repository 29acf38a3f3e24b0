use Rattle.std.proofs.Common.{◌≡◌, slice_index_or}
use Rattle.facts.specs.Places.{padded}
use Rattle.values.proofs.Reading.{quanta_in, none}
use Rattle.values.proofs.read.quanta.Given as goal

abbrev pub invariant-loop-i : goal.invariant-loop-i
invariant-loop-i l = l.given-items ≡ padded (quanta_in l.bytes) (slice_index_or l.initial.given-items 0 none) 32 l.at 8 l.i
