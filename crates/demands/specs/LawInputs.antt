-- Tables, states and bytes that our own table of laws asks about (specs/Laws.antt).
use Rattle.std.specs.Prelude.{ℕ, zero, suc, ◌+◌, ◌-◌, List, [], ◌∷◌, ◌++◌, map, Bool, length, replicate}
use Rattle.facts.specs.Places.{places}
use Rattle.counts.specs.Numbers.{counted}
use Rattle.fields.specs.Fields.{bytes_of}
use Rattle.table.specs.declared.Row.{Row}
use Rattle.table.specs.declared.Table.{Table}
use Rattle.table.specs.Limits.{row_limit}
use Rattle.trace.specs.Records.{names}
use Rattle.cores.specs.declared.Placement.{Placement}
use Rattle.cores.specs.Sets.{set_limit}
use Rattle.cores.specs.Placement.{nobody}
use Rattle.dispatcher.specs.declared.State.{State}
use Rattle.demands.specs.Bench.{plain_row, box}

-- the front of a table: format, cycle, the core count and as many board numbers
abbrev pub front : ℕ → List ℕ → List ℕ
front cycle boards = 1 ∷ bytes_of 4 cycle ++ (length boards ∷ boards)

-- a row in its nine bytes: tank, e, p, f, kind
abbrev pub row_bytes : ℕ → ℕ → ℕ → ℕ → ℕ → List ℕ
row_bytes tank e p f kind = bytes_of 2 tank ++ (bytes_of 2 e ++ (bytes_of 2 p ++ (bytes_of 2 f ++ (kind ∷ []))))

-- n rows 1/p, with tanks rising one by one from the given tank on
unfoldable pub alike_rows : ℕ → ℕ → ℕ → List ℕ
alike_rows p tank zero = []
alike_rows p tank (suc n) = row_bytes tank 1 p 0 0 ++ alike_rows p (tank + 1) n

-- n rows 1/64 of phase 100, with tanks rising one by one from the given tank on
unfoldable pub rising_rows : ℕ → ℕ → List Row
rising_rows tank zero = []
rising_rows tank (suc n) = record { tank = tank; cost = 1; period = 64; phase = 100; kind = 0 } ∷ rising_rows (tank + 1) n

-- a state of a table: its time, its stopped mark, and the first of its quanta; the others are 0, and nobody is remembered
abbrev pub state_of : Table → ℕ → Bool → List ℕ → State
state_of table time stopped quanta =
    record { table = table; time = record { 0 = time }; stopped = stopped; quanta = counted (quanta ++ replicate (row_limit - length quanta) 0); last = nobody }

-- the same with another memory
abbrev pub remembering : State → Placement → State
remembering s last = record { table = s.table; time = s.time; stopped = s.stopped; quanta = s.quanta; last = last }

-- a set that names these cores
abbrev pub set_of : List ℕ → List Bool
set_of cores = map (names cores) (places 0 1 set_limit)

-- two cores; row 0 has 1/2, row 1 has 1/3
abbrev pub half_and_third : Table
half_and_third = box 6 2 (plain_row 0 1 2 ∷ plain_row 1 1 3 ∷ [])

-- two cores; row 0 has e = p, and row 1, of 2/3, has its first deadline where row 0 has its second, with b = 1
abbrev pub camera_and_other : Table
camera_and_other = box 3 2 (plain_row 0 1 1 ∷ plain_row 1 2 3 ∷ [])

-- one core and no rows
abbrev pub no_rows : Table
no_rows = box 1 1 []

-- the same two rows in bytes
abbrev pub half_and_third_bytes : List ℕ
half_and_third_bytes = front 6 (0 ∷ 1 ∷ []) ++ (2 ∷ row_bytes 0 1 2 0 0 ++ row_bytes 1 1 3 0 0)

-- and the camera and the other row
abbrev pub camera_and_other_bytes : List ℕ
camera_and_other_bytes = front 3 (0 ∷ 1 ∷ []) ++ (2 ∷ row_bytes 0 1 1 0 0 ++ row_bytes 1 2 3 0 0)
