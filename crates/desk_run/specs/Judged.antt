-- What the desk's command shows of a trace check beside its number.
use Rattle.std.specs.Prelude.{ℕ, List, ◌++◌}
use Rattle.std.proofs.lemmas.List.Edits.{sets}
use Rattle.fields.specs.Fields.{bytes_of}
use Rattle.trace.specs.Said.{Said}

-- The row and the time of what a trace check says, in bytes: a row (1) and a time (8), to the front of a lent buffer; what does not fit is left out.
abbrev pub place_of : Said → List ℕ → List ℕ
place_of said bytes = sets bytes 0 (bytes_of 1 said.row ++ bytes_of 8 said.time)
