-- "Whole-core rows" (02, Six): "The new camera link needs e = p. From then on 18 means e above p. Such a row has windows of one slot, b = 0, and D = d. Demands 2 and 3 read as
-- before with these windows, the sum test included; the bench line for e = 1, p = 1 becomes a taken row." (That the formula of request Four "is used only below weight one"
-- stands in specs/LongWalk.antt.)
use Rattle.std.specs.Prelude.{ℕ, ◌+◌, ◌*◌, ◌≤◌, ◌<◌, ◌≡◌, List, [], ◌∷◌, ◌++◌, true, false, ◌↔◌, eqb, length}
use Rattle.windows.specs.WholeCore.{WholeCoreRows}
use Rattle.table.specs.declared.Row.{Row}
use Rattle.table.specs.declared.Table.{Table}
use Rattle.table.specs.Causes.{load}
use Rattle.table.specs.Value.{fault_of, rows_of}
use Rattle.table.specs.Bytes.{table_number, table_in}
use Rattle.pd2.specs.Ready.{ready, late}
use Rattle.pd2.specs.Choice.{row_at, quanta_at}
use Rattle.trace.specs.Said.{bare, named}
use Rattle.dispatcher.specs.declared.State.{State}
use Rattle.dispatcher.specs.State.{quanta_in, time_of}
use Rattle.demands.specs.Limits.{since_phase, InLimits}
use Rattle.demands.specs.Three.{FromFresh}
use Rattle.demands.specs.Bench.{Line, window, answers, runs, traced, table_read, is, plain_row, early_release, box, all_hold}
use Rattle.demands.specs.LawInputs.{front, row_bytes, camera_and_other}
use Rattle.demands.specs.NeverLate.{WithCores, NeverLateWith}

-- "e = p", of a row that has a cost
abbrev pub IsWholeCore : Row → Type 0
IsWholeCore row = (0 < row.cost) × (row.cost ≡ row.period)

-- "Demands 2 and 3 read as before with these windows": with q quanta such a row, if it is plain, is ready from slot f + q on; it is late as soon as that slot is over; and a plain one is in its limits
-- exactly if it has had a quantum in every slot since its phase. (So has one of early release from a fresh start, as the next two say.)
pub record WindowsOfOneSlot (row : Row) (q t : ℕ) : Type 0 where
  pub ready_is : eqb row.kind 1 ≡ false → (ready row q t ≡ true) ↔ (row.phase + q ≤ t)
  pub late_is : (late row q t ≡ true) ↔ (row.phase + q < t)
  pub limits_are : eqb row.kind 1 ≡ false → InLimits row q t ↔ (q ≡ since_phase row t)

-- Row i has had a quantum in every slot since its phase: as many as there were, since it gets at most one a slot (demand 2), and none before its phase (demand 3).
abbrev pub HasRunInAll : Table → State → ℕ → Type 0
HasRunInAll table s i = quanta_at (quanta_in s) i ≡ since_phase (row_at (rows_of table) i) (time_of s)

-- From a fresh start, however many cores each slot had, a row with e = p, plain or early release, has a core in every slot until a row is first reported late,
abbrev pub KeepsItsCore : Type 0
KeepsItsCore =
    (table : Table) (s : State) → FromFresh table s → (i : ℕ) → i < length (rows_of table) → IsWholeCore (row_at (rows_of table) i) →
    HasRunInAll table s i

-- and always, if every slot has at least c cores and the rows' sum is at most c·L.
abbrev pub AlwaysKeepsItsCore : Type 0
AlwaysKeepsItsCore =
    (table : Table) (c : ℕ) → fault_of table ≡ 0 → load table.cycle (rows_of table) ≤ c * table.cycle → (s : State) → WithCores table c s → (i : ℕ) → i < length (rows_of table) →
    IsWholeCore (row_at (rows_of table) i) → HasRunInAll table s i

-- one core, and one row e/p in a cycle of one slot
abbrev pub one_row : ℕ → ℕ → List ℕ
one_row e p = front 1 (0 ∷ []) ++ (1 ∷ row_bytes 0 e p 0 0)

-- "e = 1, p = 1"
abbrev pub one_camera : List ℕ
one_camera = one_row 1 1

-- two rows with e = p, one of early release and one with a phase, on two cores; and a third
abbrev pub cameras : List ℕ → List ℕ
cameras rows = front 10 (0 ∷ 1 ∷ []) ++ rows

abbrev pub two_cameras : List ℕ
two_cameras = cameras (2 ∷ row_bytes 7 5 5 0 1 ++ row_bytes 9 10 10 3 0)

abbrev pub three_cameras : List ℕ
three_cameras = cameras (3 ∷ row_bytes 7 5 5 0 1 ++ row_bytes 9 10 10 3 0 ++ row_bytes 11 1 1 0 0)

abbrev pub whole_core_lines : List Line
whole_core_lines =
    -- "the bench line for e = 1, p = 1 becomes a taken row"; "e = 0, p = 0: 17" stays, and e above p is 18 where p is 0, too
    table_read one_camera 0
    ∷ table_read (one_row 0 0) 17
    ∷ table_read (one_row 1 0) 18
    ∷ table_read (one_row 2 1) 18
    -- "the sum test included"
    ∷ table_read two_cameras 0
    ∷ table_read three_cameras 22
    -- "windows of one slot, b = 0, and D = d"
    ∷ window 1 1 0 1 0 1 (is 0) (is 1)
    ∷ window 5 5 2 3 4 5 (is 0) (is 5)
    -- It runs in every slot, of early release too, and its trace passes; in one without a core it is late.
    ∷ traced one_camera 1 3 (3 ∷ 0 ∷ 0 ∷ 0 ∷ 1 ∷ 1 ∷ 0 ∷ 1 ∷ 1 ∷ 0 ∷ 1 ∷ 1 ∷ 0 ∷ [])
    ∷ runs (box 6 1 (early_release 0 3 3 ∷ [])) 7 (0 ∷ 1 ∷ 2 ∷ 3 ∷ 4 ∷ 5 ∷ 6 ∷ [])
    ∷ answers (box 1 1 (plain_row 0 1 1 ∷ [])) (0 ∷ []) (named 1 0 1)
    -- With too few cores "b = 1 before b = 0" holds against it: in slot 1 both are due at 2, and the other goes first. With both cores nobody is late.
    ∷ answers camera_and_other (1 ∷ []) (bare 0)
    ∷ answers camera_and_other (1 ∷ 1 ∷ []) (named 1 0 2)
    ∷ answers camera_and_other (1 ∷ 2 ∷ []) (bare 0)
    ∷ []

pub record WholeCore : Type 0 where
  pub windows : WholeCoreRows
  pub one_slot : (row : Row) (q t : ℕ) → IsWholeCore row → WindowsOfOneSlot row q t
  pub keeps_its_core : KeepsItsCore
  pub always_keeps_its_core : AlwaysKeepsItsCore
  -- Tables with such rows are taken and full, and with all their cores never late.
  pub camera_taken : table_number one_camera ≡ 0
  pub camera_never_late : NeverLateWith (table_in one_camera) 1
  pub cameras_full : load (table_in two_cameras).cycle (rows_of (table_in two_cameras)) ≡ (table_in two_cameras).cores * (table_in two_cameras).cycle
  pub cameras_never_late : NeverLateWith (table_in two_cameras) 2
  pub lines : all_hold whole_core_lines ≡ true
