-- The values that stand in the bytes of a request or an answer. "Little-endian throughout." A byte past the end counts as 0.
use Rattle.std.specs.Prelude.{ℕ, ◌+◌, List, cond, eqb, map}
use mathlib.Core.List.{◌++◌, flat_map}
use Rattle.facts.specs.Places.{places}
use Rattle.counts.specs.declared.Quanta.{Quanta}
use Rattle.fields.specs.Fields.{byte, word, number_at, bytes_of}
use Rattle.table.specs.declared.Row.{Row}
use Rattle.table.specs.declared.Table.{Table}
use Rattle.table.specs.Bytes.{row_in_bytes}
use Rattle.table.specs.Writing.{bytes_of_row}
use Rattle.cores.specs.declared.Placement.{Placement}
use Rattle.dispatcher.specs.declared.State.{State}

-- eight numbers of a byte each
abbrev pub eight_in_bytes : List ℕ → ℕ → List ℕ
eight_in_bytes s i = map (byte s) (places i 1 8)

-- 32 rows of nine bytes each
abbrev pub rows_in_bytes : List ℕ → ℕ → List Row
rows_in_bytes s i = map (row_in_bytes s) (places i 9 32)

-- 32 quanta of eight bytes each
abbrev pub quanta_in_bytes : List ℕ → ℕ → List Quanta
quanta_in_bytes s i = map (λ j. record { 0 = number_at 8 s j }) (places i 8 32)

-- A table value has 303 bytes: format (1), L (4), M (1), 8 board numbers (1 each), n (1), 32 rows.
abbrev pub value_in_bytes : List ℕ → ℕ → Table
value_in_bytes s i = record {
  cycle = word s (i + 1);
  cores = byte s (i + 5);
  boards = eight_in_bytes s (i + 6);
  n = byte s (i + 14);
  rows = rows_in_bytes s (i + 15);
  format = byte s i;
}

-- A placement has 17: a count (1), 8 rows (1 each), 8 cores (1 each).
abbrev pub placement_in_bytes : List ℕ → ℕ → Placement
placement_in_bytes s i = record { count = byte s i; rows = eight_in_bytes s (i + 1); cores = eight_in_bytes s (i + 9) }

-- A state has 585: a table value, the time (8), the stopped mark (1), 32 quanta, and the placement that is remembered.
abbrev pub state_in_bytes : List ℕ → ℕ → State
state_in_bytes s i = record {
  table = value_in_bytes s i;
  time = record { 0 = number_at 8 s (i + 303) };
  stopped = eqb (byte s (i + 311)) 1;
  quanta = quanta_in_bytes s (i + 312);
  last = placement_in_bytes s (i + 568);
}

-- The same values, written: part behind part.
abbrev pub bytes_of_quanta : List Quanta → List ℕ
bytes_of_quanta = flat_map (λ quanta. bytes_of 8 quanta.0)

abbrev pub bytes_of_value : Table → List ℕ
bytes_of_value t =
    bytes_of 1 t.format
    ++ bytes_of 4 t.cycle
    ++ bytes_of 1 t.cores
    ++ flat_map (bytes_of 1) t.boards
    ++ bytes_of 1 t.n
    ++ flat_map bytes_of_row t.rows

abbrev pub bytes_of_placement : Placement → List ℕ
bytes_of_placement placed = bytes_of 1 placed.count ++ flat_map (bytes_of 1) placed.rows ++ flat_map (bytes_of 1) placed.cores

abbrev pub bytes_of_state : State → List ℕ
bytes_of_state s =
    bytes_of_value s.table
    ++ bytes_of 8 s.time.0
    ++ bytes_of 1 (cond s.stopped 1 0)
    ++ bytes_of_quanta s.quanta
    ++ bytes_of_placement s.last
