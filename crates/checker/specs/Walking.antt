-- Between functions: what those of this crate promise one another. No part of what 01 says.
use Rattle.std.specs.Prelude.{ℕ, ◌+◌, ◌-◌, ◌*◌, ◌%◌, ◌≤◌, ◌<◌, ◌≡◌, List, Bool, false, cond, not, ◌&&◌, length, get_or, set, Option, MatchOption, Result, MatchResult}
use Rattle.counts.specs.declared.Slot.{Slot}
use Rattle.facts.specs.First.{Lowest}
use Rattle.facts.specs.Findings.{FirstFound, NoneFound}
use Rattle.table.specs.declared.Row.{Row}
use Rattle.table.specs.declared.Table.{Table}
use Rattle.table.specs.Limits.{row_limit}
use Rattle.table.specs.Value.{fault_of, rows_of}
use Rattle.pd2.specs.Ready.{ready}
use Rattle.pd2.specs.Share.{CanBe}
use Rattle.pd2.specs.Choice.{row_at}
use Rattle.trace.specs.Records.{names, place_in, times_named}
use Rattle.checker.specs.declared.Finding.{Finding}
use Rattle.checker.specs.declared.Finding.TheVariants.{Early}
use Rattle.checker.specs.declared.giving.Kept.{Kept}
use Rattle.checker.specs.declared.giving.Walk.{Walk}
use Rattle.checker.specs.Answer.{said_by}
use Rattle.checker.specs.Causes.{slot_limit, bad_rows}
use Rattle.checker.specs.Check.{record_findings}
use Rattle.checker.specs.Passes.{first_allowed, due}

-- A table without fault, whose rows stand in their array.
pub record CanCheck (table : Table) : Type 0 where
  pub sound : fault_of table ≡ 0
  pub few : table.n ≤ row_limit
  pub all : length (rows_of table) ≡ table.n

-- What is left over where i·p/e is rounded up, as `deadline` does it: by dividing i·p + e - 1.
abbrev pub rest_of : Row → ℕ → ℕ
rest_of row i = (i * row.period + (row.cost - 1)) % row.cost

-- What is kept of a row that has been given q quanta: from when on its next subtask may be given, what is left over, and when it is due.
pub record IsKept (row : Row) (q : ℕ) (kept : Kept) : Type 0 where
  pub starts : kept.start ≡ first_allowed row (q + 1)
  pub rests : kept.rest ≡ rest_of row (q + 1)
  pub dues : kept.due ≡ due row (q + 1)

-- What the walk keeps of the row at a place,
abbrev pub kept_at : Walk → ℕ → Kept
kept_at walk i = record { start = get_or walk.starts i 0; rest = get_or walk.rests i 0; due = get_or walk.dues i 0 }

-- the walk that keeps this there,
abbrev pub with_kept : Walk → ℕ → Kept → Walk
with_kept walk i kept = record { starts = set walk.starts i kept.start; rests = set walk.rests i kept.rest; dues = set walk.dues i kept.due }

-- and one that has a place for each row and keeps there what is kept of the first n of them.
pub record AreKept (table : Table) (n : ℕ) (quanta : ℕ → ℕ) (walk : Walk) : Type 0 where
  pub long : (length walk.starts ≡ row_limit) × (length walk.rests ≡ row_limit) × (length walk.dues ≡ row_limit)
  pub each : (i : ℕ) → i < n → IsKept (row_at (rows_of table) i) (quanta i) (kept_at walk i)

-- Before slot 0 nothing has been given.
abbrev pub NothingGiven : Table → Walk → Type 0
NothingGiven table walk = AreKept table (length (rows_of table)) (λ _. 0) walk

-- What is kept of a row can be moved on: it is that of some quanta, and the row has started in a slot of a trace.
pub record CanStep (row : Row) (kept : Kept) : Type 0 where
  pub can : CanBe row
  pub quanta : ℕ
  pub is : IsKept row quanta kept
  pub started : kept.start ≤ slot_limit

-- The check has come to slot t: the place is that of its record, and what is kept is that of the records before it, by how many name each row.
pub record Reached (table : Table) (s : List ℕ) (t at : ℕ) (walk : Walk) : Type 0 where
  pub place : at ≡ place_in s t
  pub inside : at ≤ length s
  pub kept : AreKept table (length (rows_of table)) (λ i. times_named s i t) walk

-- The record of slot t can be judged.
pub record CanJudge (table : Table) (s : List ℕ) (t at : ℕ) (walk : Walk) : Type 0 where
  pub can : CanCheck table
  pub reached : Reached table s t at walk
  pub time : t < slot_limit

-- What a record leads to: nothing is found in it and the walk goes behind it, or the first that is found ends the check.
pub record Walked (table : Table) (s : List ℕ) (t : ℕ) (walk : Walk) (at : ℕ) : Type 0 where
  pub none : NoneFound (record_findings table s t)
  pub reached : Reached table s (t + 1) at walk

abbrev pub Leads : Table → List ℕ → ℕ → Walk → Result ℕ Finding → Type 0
Leads table s t walk result = MatchResult result (Walked table s t walk) (λ finding. FirstFound (record_findings table s t) (said_by finding))

-- Row i is among the rows named, and is not ready in slot t with the quanta that it has been given.
abbrev pub is_early : Table → (ℕ → ℕ) → List ℕ → ℕ → ℕ → Bool
is_early table quanta rows t i = names rows i && not (ready (row_at (rows_of table) i) (quanta i) t)

-- Those quanta, and one more for each row that is named.
abbrev pub gave_to : (ℕ → ℕ) → List ℕ → ℕ → ℕ
gave_to quanta rows i = quanta i + cond (names rows i) 1 0

-- Rows can be given quanta in slot t: they rise, and what is kept is that of so many quanta.
pub record CanGiveOn (table : Table) (rows : List ℕ) (t : ℕ) (walk : Walk) (quanta : ℕ → ℕ) : Type 0 where
  pub can : CanCheck table
  pub rise : bad_rows (length (rows_of table)) 0 rows ≡ false
  pub kept : AreKept table (length (rows_of table)) quanta walk
  pub time : t < slot_limit

abbrev pub CanGive : Table → List ℕ → ℕ → Walk → Type 0
CanGive table rows t walk = (quanta : ℕ → ℕ) × CanGiveOn table rows t walk quanta

-- What giving leads to: no row is early, and what is kept is that of one quantum more for each row that is named;
pub record GaveAll (table : Table) (quanta : ℕ → ℕ) (rows : List ℕ) (t : ℕ) (walk : Walk) : Type 0 where
  pub none : Lowest (is_early table quanta rows t) (length (rows_of table)) (length (rows_of table))
  pub kept : AreKept table (length (rows_of table)) (gave_to quanta rows) walk

-- or the lowest row that is early.
pub record FoundEarly (table : Table) (quanta : ℕ → ℕ) (rows : List ℕ) (slot : Slot) (finding : Finding) : Type 0 where
  pub row : ℕ
  pub is : finding ≡ Early row slot
  pub below : row < length (rows_of table)
  pub lowest : Lowest (is_early table quanta rows slot.0) (length (rows_of table)) row

abbrev pub Gave : Table → List ℕ → Slot → Walk → Result (Unit {0}) Finding → Walk → Type 0
Gave table rows slot before result after =
    (quanta : ℕ → ℕ) →
    CanGiveOn table rows slot.0 before quanta →
    MatchResult result (λ _. GaveAll table quanta rows slot.0 after) (FoundEarly table quanta rows slot)

-- The lowest number below n that passes a test; none where none does.
abbrev pub IsLowest : (ℕ → Bool) → ℕ → Option ℕ → Type 0
IsLowest test n result = MatchOption result (Lowest test n n) (λ i. (i < n) × Lowest test n i)
