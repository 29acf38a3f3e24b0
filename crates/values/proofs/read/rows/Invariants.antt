use Rattle.std.proofs.Common.{◌≡◌, slice_index_or}
use Rattle.facts.specs.Places.{padded}
use Rattle.table.specs.Bytes.{row_in_bytes}
use Rattle.table.specs.Causes.{zero_row}
use Rattle.values.proofs.read.rows.Given as goal

abbrev pub invariant-loop-i : goal.invariant-loop-i
invariant-loop-i l = l.place-items ≡ padded (row_in_bytes l.bytes) (slice_index_or l.initial.place-items 0 zero_row) 32 l.at 9 l.i
