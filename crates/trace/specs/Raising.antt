-- Counting who is named: a count for each place of a table, raised by a record that names its row. (02, Ten, keeps such counts: "the quanta of each row".)
use Rattle.std.specs.Prelude.{ℕ, ◌+◌, min, List, [], ◌∷◌, Bool, cond}
use Rattle.trace.specs.Records.{names}

-- A count is a number of four bytes. One that would pass the largest stays there.
abbrev pub count_limit : ℕ
count_limit = 4_294_967_295

-- A record that names a row raises its count by one, however often it does.
abbrev pub raised_if : Bool → ℕ → ℕ
raised_if named q = cond named (min (q + 1) count_limit) q

-- so do the rows of a record with the counts of rows i, i + 1, ..
unfoldable pub raised : List ℕ → ℕ → List ℕ → List ℕ
raised rows i [] = []
raised rows i (q ∷ counts) = raised_if (names rows i) q ∷ raised rows (i + 1) counts
