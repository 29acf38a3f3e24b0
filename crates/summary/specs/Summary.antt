-- The summary of a trace (02, Ten): "Keep a summary beside the trace, one entry for time 0 and for each multiple of 1,024 up to the slot count: the place where
-- the next record begins, and the quanta of each row before it." An entry is the place (8) and a count for each of 32 rows (4 each), little-endian; entry x is that of
-- time 1,024·x and stands at byte 136·x (docs/DECISIONS.md, 137).
use Rattle.std.specs.Prelude.{ℕ, zero, suc, ◌+◌, ◌*◌, ◌/◌, ◌<◌, ◌≡◌, length}
use mathlib.Core.List.{List, [], ◌++◌, map, flat_map}
use Rattle.facts.specs.Places.{places}
use Rattle.fields.specs.Fields.{bytes_of, number_at}
use Rattle.table.specs.Limits.{row_limit}
use Rattle.trace.specs.Records.{slots_in, place_in, times_named}

-- "each multiple of 1,024"
abbrev pub spacing : ℕ
spacing = 1_024

-- how many bytes an entry has: 8 + 32·4
abbrev pub entry_size : ℕ
entry_size = 136

-- "the quanta of each row before it": a count for each of 32 rows, of which those that no record names have 0
unfoldable pub counts_at : List ℕ → ℕ → List ℕ
counts_at trace t = map (λ row. times_named trace row t) (places 0 1 row_limit)

-- an entry in bytes: the place, and the counts behind it
unfoldable pub entry_bytes : ℕ → List ℕ → List ℕ
entry_bytes place counts = bytes_of 8 place ++ flat_map (bytes_of 4) counts

-- the entry of time t: "the place where the next record begins, and the quanta of each row before it"
abbrev pub entry_of : List ℕ → ℕ → List ℕ
entry_of trace t = entry_bytes (place_in trace t) (counts_at trace t)

-- the first m entries
unfoldable pub entries_of : List ℕ → ℕ → List ℕ
entries_of trace zero = []
entries_of trace (suc m) = entries_of trace m ++ entry_of trace (spacing * m)

-- "one entry for time 0 and for each multiple of 1,024 up to the slot count": the count itself included
abbrev pub entries_in : ℕ → ℕ
entries_in slots = slots / spacing + 1

-- the summary that a trace yields
abbrev pub summary_of : List ℕ → List ℕ
summary_of trace = entries_of trace (entries_in (slots_in trace))

-- what entry x of a summary says: the place, and the quanta of a row
abbrev pub place_said : List ℕ → ℕ → ℕ
place_said summary x = number_at 8 summary (entry_size * x)

abbrev pub quanta_said : List ℕ → ℕ → ℕ → ℕ
quanta_said summary x row = number_at 4 summary (entry_size * x + 8 + 4 * row)

-- The summary is that of the trace, said entry by entry: it has as many as the count asks for and no byte more, and each says what is so.
pub record IsSummary (trace summary : List ℕ) : Type 0 where
  pub size : length summary ≡ entry_size * entries_in (slots_in trace)
  pub place : (x : ℕ) → x < entries_in (slots_in trace) → place_said summary x ≡ place_in trace (spacing * x)
  pub quanta : (x row : ℕ) → x < entries_in (slots_in trace) → row < row_limit → quanta_said summary x row ≡ times_named trace row (spacing * x)
