-- What the reader, the fault of a value and the writer answer is determined by 01's numbers and values. Assumes nothing.
use Prim.Native.Nat.{ℕ}
use mathlib.Core.Path.{◌≡◌, refl, sym, ◌∙◌}
use mathlib.Core.List.{List}
use mathlib.Core.Bool.{cond}
use lib.Dec.{eqb}
use Rattle.std.proofs.Common.{Option, None, Some, Result, Ok, Err}
use Rattle.facts.specs.Determined.{Determined, TellsApart}
use Rattle.facts.proofs.Determined.{by_meaning, by_way_back}
use Rattle.table.specs.declared.Table.{Table}
use Rattle.table.specs.declared.faults.Fault.{Fault}
use Rattle.table.specs.declared.faults.Fault.TheVariants.{Ends, Format, Cycle, Cores, Boards, RowCount, Tanks, Cost, Weight, Period, Kind, After, Sum}
use Rattle.table.specs.declared.faults.Unwritten.{Unwritten}
use Rattle.table.specs.declared.faults.Unwritten.TheVariants.{Faulty, NoRoom}
use Rattle.table.specs.Reply.{Reading, Writing, reply_of, fault_said, written_of}
use Rattle.table.specs.Bytes.{reading}
use Rattle.table.specs.Value.{fault_of}
use Rattle.table.specs.Writing.{writing, buffer_after}

-- the fault of a number,
fault_for : ℕ → Fault
fault_for n =
    cond (eqb n 10) Ends
    (cond (eqb n 11) Format
    (cond (eqb n 12) Cycle
    (cond (eqb n 13) Cores
    (cond (eqb n 14) Boards
    (cond (eqb n 15) RowCount
    (cond (eqb n 16) Tanks
    (cond (eqb n 17) Cost
    (cond (eqb n 18) Weight
    (cond (eqb n 19) Period
    (cond (eqb n 20) Kind
    (cond (eqb n 21) After Sum)))))))))))

-- and the answers of what they say
read_for : Reading → Result Table Fault
read_for x = cond (eqb x.number 0) (Ok x.table) (Err (fault_for x.number))

fault_told : ℕ → Option Fault
fault_told n = cond (eqb n 0) None (Some (fault_for n))

written_for : Writing → Result ℕ Unwritten
written_for x = cond (eqb x.number 0) (Ok x.length) (Err (cond (eqb x.number 37) NoRoom (Faulty (fault_for x.number))))

read_back : (a : Result Table Fault) → read_for (reply_of a) ≡ a
unfolding read_for fault_for
read_back (Ok table) = refl
read_back (Err Ends) = refl
read_back (Err Format) = refl
read_back (Err Cycle) = refl
read_back (Err Cores) = refl
read_back (Err Boards) = refl
read_back (Err RowCount) = refl
read_back (Err Tanks) = refl
read_back (Err Cost) = refl
read_back (Err Weight) = refl
read_back (Err Period) = refl
read_back (Err Kind) = refl
read_back (Err After) = refl
read_back (Err Sum) = refl

told_back : (a : Option Fault) → fault_told (fault_said a) ≡ a
unfolding fault_told fault_for
told_back None = refl
told_back (Some Ends) = refl
told_back (Some Format) = refl
told_back (Some Cycle) = refl
told_back (Some Cores) = refl
told_back (Some Boards) = refl
told_back (Some RowCount) = refl
told_back (Some Tanks) = refl
told_back (Some Cost) = refl
told_back (Some Weight) = refl
told_back (Some Period) = refl
told_back (Some Kind) = refl
told_back (Some After) = refl
told_back (Some Sum) = refl

written_back : (a : Result ℕ Unwritten) → written_for (written_of a) ≡ a
unfolding written_for fault_for
written_back (Ok many) = refl
written_back (Err NoRoom) = refl
written_back (Err (Faulty Ends)) = refl
written_back (Err (Faulty Format)) = refl
written_back (Err (Faulty Cycle)) = refl
written_back (Err (Faulty Cores)) = refl
written_back (Err (Faulty Boards)) = refl
written_back (Err (Faulty RowCount)) = refl
written_back (Err (Faulty Tanks)) = refl
written_back (Err (Faulty Cost)) = refl
written_back (Err (Faulty Weight)) = refl
written_back (Err (Faulty Period)) = refl
written_back (Err (Faulty Kind)) = refl
written_back (Err (Faulty After)) = refl
written_back (Err (Faulty Sum)) = refl

-- Two answers that say the same are one answer,
pub readings_tell_apart : TellsApart reply_of
readings_tell_apart = by_way_back read_for read_back

pub faults_tell_apart : TellsApart fault_said
faults_tell_apart = by_way_back fault_told told_back

pub writings_tell_apart : TellsApart written_of
writings_tell_apart = by_way_back written_for written_back

-- so the promises of `read`, `fault` and `write` determine theirs.
pub read_is_determined : (bytes : List ℕ) → Determined {R = Result Table Fault} (λ r. reply_of r ≡ reading bytes)
read_is_determined bytes = by_meaning readings_tell_apart

pub fault_is_determined : (t : Table) → Determined {R = Option Fault} (λ r. fault_said r ≡ fault_of t)
fault_is_determined t = by_meaning faults_tell_apart

pub write_is_determined : (t : Table) (buffer : List ℕ) →
    Determined {R = Result ℕ Unwritten × List ℕ} (λ r. (written_of r.0 ≡ writing t buffer) × (r.1 ≡ buffer_after t buffer))
write_is_determined t buffer a b p q = λ z. (by_meaning writings_tell_apart a.0 b.0 p.0 q.0 z, (p.1 ∙ sym q.1) z)
