-- The promises determine what they speak of. Assumes nothing.
use Prim.Native.Nat.{ℕ}
use mathlib.Core.Path.{◌≡◌, refl}
use mathlib.Core.List.{List}
use mathlib.Core.Bool.{cond}
use lib.Dec.{eqb}
use Rattle.std.proofs.Common.{Result, Ok, Err}
use Rattle.facts.specs.Determined.{Determined, TellsApart}
use Rattle.facts.proofs.Determined.{by_meaning, by_way_back}
use Rattle.table.specs.declared.faults.Fault.{Fault}
use Rattle.table.specs.declared.faults.Fault.TheVariants.{Ends, Format, Cycle, Cores, Boards, RowCount, Tanks, Cost, Weight, Period, Kind, After, Sum}
use Rattle.trace.specs.Said.{Said}
use Rattle.checker.specs.declared.Finding.{Finding}
use Rattle.checker.specs.declared.Finding.TheVariants.{Table, Cut, TooManyCores, TooManyRows, BadRow, Early, Late, Extra, TooLong}
use Rattle.checker.specs.Answer.{said_by, said_of}
use Rattle.checker.specs.Check.{check_of}

-- the refusal of a table with a number
fault_for : ℕ → Fault
fault_for n =
    cond (eqb n 10) Ends
    (cond (eqb n 11) Format
    (cond (eqb n 12) Cycle
    (cond (eqb n 13) Cores
    (cond (eqb n 14) Boards
    (cond (eqb n 15) RowCount
    (cond (eqb n 16) Tanks
    (cond (eqb n 17) Cost
    (cond (eqb n 18) Weight
    (cond (eqb n 19) Period
    (cond (eqb n 20) Kind
    (cond (eqb n 21) After Sum)))))))))))

-- the finding of a number, row and time
finding_for : Said → Finding
finding_for x =
    cond (eqb x.number 40) Cut
    (cond (eqb x.number 41) TooManyCores
    (cond (eqb x.number 42) TooManyRows
    (cond (eqb x.number 43) BadRow
    (cond (eqb x.number 44) (Early x.row (record { 0 = x.time }))
    (cond (eqb x.number 45) (Late x.row (record { 0 = x.time }))
    (cond (eqb x.number 46) Extra
    (cond (eqb x.number 47) TooLong (Table (fault_for x.number)))))))))

-- the answer of them
answer_for : Said → Result (Unit {0}) Finding
answer_for x = cond (eqb x.number 0) (Ok tt) (Err (finding_for x))

back : (a : Result (Unit {0}) Finding) → answer_for (said_of a) ≡ a
unfolding answer_for finding_for fault_for
back (Ok tt) = refl
back (Err (Table Ends)) = refl
back (Err (Table Format)) = refl
back (Err (Table Cycle)) = refl
back (Err (Table Cores)) = refl
back (Err (Table Boards)) = refl
back (Err (Table RowCount)) = refl
back (Err (Table Tanks)) = refl
back (Err (Table Cost)) = refl
back (Err (Table Weight)) = refl
back (Err (Table Period)) = refl
back (Err (Table Kind)) = refl
back (Err (Table After)) = refl
back (Err (Table Sum)) = refl
back (Err Cut) = refl
back (Err TooManyCores) = refl
back (Err TooManyRows) = refl
back (Err BadRow) = refl
back (Err (Early row slot)) = refl
back (Err (Late row time)) = refl
back (Err Extra) = refl
back (Err TooLong) = refl

-- Two answers with one number, row and time are one answer,
pub answers_tell_apart : TellsApart said_of
answers_tell_apart = by_way_back answer_for back

-- so two findings that say the same are one,
pub findings_tell_apart : TellsApart said_by
findings_tell_apart a b e =
    let same : ◌≡◌ {A = Result (Unit {0}) Finding} (Err a) (Err b) = answers_tell_apart (Err a) (Err b) e in cc

-- and the promise of `check` determines its answer.
pub check_is_determined : (bytes s : List ℕ) → Determined {R = Result (Unit {0}) Finding} (λ r. said_of r ≡ check_of bytes s)
check_is_determined bytes s = by_meaning answers_tell_apart
