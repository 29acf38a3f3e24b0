-- "One core held back" (02, Nine): "Since the link stack moved onto the box, the slot printer's assumption of all M cores is wrong. Slots past the k list now use
-- M - 1, and 1 if M is 1. The night bench must write its k list in full and print as before. 01's listing gets a k list of three 2s."
use Rattle.std.specs.Prelude.{ℕ, ◌+◌, ◌-◌, ◌*◌, ◌≤◌, ◌<◌, ◌≡◌, List, ◌++◌, false, length, take, Result}
use Rattle.fields.specs.Fields.{byte}
use Rattle.table.specs.declared.Table.{Table}
use Rattle.table.specs.Causes.{load}
use Rattle.table.specs.Value.{fault_of, rows_of}
use Rattle.table.specs.Bytes.{table_number, table_in}
use Rattle.dispatcher.specs.declared.State.{State}
use Rattle.dispatcher.specs.State.{time_of}
use Rattle.printer.specs.declared.TooShort.{TooShort}
use Rattle.printer.specs.Input.{table_bytes, slots_asked, list_length, list_place, held_back, free_in, unfit}
use Rattle.printer.specs.Lines.{end_line, late_line, input_line}
use Rattle.printer.specs.Text.{text_with, text_of}
use Rattle.printer.specs.Buffer.{length_of}
use Rattle.printer.specs.FullList.{FullListPrintsAsBefore, WrittenInFullPrintsAsBefore}
use Rattle.printer.specs.Example.{ExampleIsPrinted, UnlistedIsPrinted, UnlistedWasPrinted}
use Rattle.demands.specs.Promises.{printer·print}
use Rattle.demands.specs.Inputs.{CanPrint}
use Rattle.demands.specs.TooFew.{WithAtMost, late_by, NoPhaseAfter, LateWithTooFew}

-- "Slots past the k list now use M - 1, and 1 if M is 1"; the others use the k that is listed.
pub record Uses (s : List ℕ) (M slot : ℕ) : Type 0 where
  pub listed : slot < list_length s → free_in s M slot ≡ byte s (list_place s + slot)
  pub past : list_length s ≤ slot → 1 < M → free_in s M slot ≡ M - 1
  pub past_of_1 : list_length s ≤ slot → M ≡ 1 → free_in s M slot ≡ 1

-- What a planner must know: how much load the box carries. A text ends in a line:
abbrev pub EndsIn : List ℕ → List ℕ → Type 0
EndsIn text last = (before : List ℕ) × (text ≡ before ++ last)

-- if a table is taken, and each slot has at least c of its cores free, and the rows' sum is at most c·L, the listing ends in `end N`: nobody is late.
abbrev pub EndsIfEnoughAreFree : Type 0
EndsIfEnoughAreFree =
    (s : List ℕ) (c : ℕ) → unfit s ≡ false → table_number (table_bytes s) ≡ 0 →
    let table = table_in (table_bytes s) in
    ((slot : ℕ) → slot < slots_asked s → (c ≤ free_in s table.cores slot) × (free_in s table.cores slot ≤ table.cores)) →
    load table.cycle (rows_of table) ≤ c * table.cycle → EndsIn (text_of s) (end_line (slots_asked s))

-- So without a k list, if the rows' sum is at most (M - 1)·L, or L if M is 1.
abbrev pub HeldBackCarries : Type 0
HeldBackCarries =
    (s : List ℕ) → unfit s ≡ false → table_number (table_bytes s) ≡ 0 → list_length s ≡ 0 →
    let table = table_in (table_bytes s) in
    load table.cycle (rows_of table) ≤ held_back table.cores * table.cycle → EndsIn (text_of s) (end_line (slots_asked s))

-- And no more (specs/TooFew.antt): a full box of more than one core is late with one held back,
abbrev pub FullBoxIsLate : Type 0
FullBoxIsLate =
    (table : Table) (F : ℕ) → fault_of table ≡ 0 → 1 < table.cores → load table.cycle (rows_of table) ≡ table.cores * table.cycle → NoPhaseAfter table F →
    (s : State) → WithAtMost table (held_back table.cores) s → time_of s < late_by table.cycle (held_back table.cores) F

-- and its listing, if it is long enough, ends in `late T TANK`: so does that of any table whose sum is above c·L, if no slot has more than c cores free.
abbrev pub LateIfTooFewAreFree : Type 0
LateIfTooFewAreFree =
    (s : List ℕ) (c F : ℕ) → unfit s ≡ false → table_number (table_bytes s) ≡ 0 →
    let table = table_in (table_bytes s) in
    ((slot : ℕ) → slot < slots_asked s → free_in s table.cores slot ≤ c) →
    c * table.cycle < load table.cycle (rows_of table) → NoPhaseAfter table F → late_by table.cycle c F ≤ slots_asked s →
    (time : ℕ) × (tank : ℕ) × EndsIn (text_of s) (late_line time tank)

-- Who prints keeps the promise of `print`; it gives back how long the text is, and the buffer.
abbrev pub Printer : Type 0
Printer = List ℕ → List ℕ → Result ℕ TooShort × List ℕ

abbrev pub IsPrinter : Printer → Type 0
IsPrinter print = (input out : List ℕ) → CanPrint input out → printer·print input out (print input out).0 (print input out).1

-- what it has written
abbrev pub written_by : Result ℕ TooShort × List ℕ → List ℕ
written_by r = take (length_of r.0) r.1

-- Shut out are: one whose slots past the k list use all cores, one that uses none there of a single one, one that uses one there of any number, and one
-- that takes no input without its k list in full.
abbrev pub UsesPast : (ℕ → ℕ) → Printer → Type 0
UsesPast past print = (input out : List ℕ) → CanPrint input out → length (text_with past input) ≤ length out → written_by (print input out) ≡ text_with past input

abbrev pub NeedsFullList : Printer → Type 0
NeedsFullList print =
    (input out : List ℕ) → CanPrint input out → list_length input < slots_asked input → length (text_of input) ≤ length out → written_by (print input out) ≡ input_line

pub record PrintersShutOut : Type 0 where
  -- "the slot printer's assumption of all M cores is wrong",
  pub all_cores_past_the_list : (print : Printer) → IsPrinter print → UsesPast (λ M. M) print → ⊥
  -- ".. and 1 if M is 1",
  pub no_core_of_one : (print : Printer) → IsPrinter print → UsesPast (λ M. M - 1) print → ⊥
  pub one_core_for_all : (print : Printer) → IsPrinter print → UsesPast (λ M. 1) print → ⊥
  -- and lists that are not in full are still taken
  pub needs_full_list : (print : Printer) → IsPrinter print → NeedsFullList print → ⊥

pub record HeldBack : Type 0 where
  pub uses : (s : List ℕ) (M slot : ℕ) → Uses s M slot
  -- "The night bench must write its k list in full and print as before."
  pub full_list : FullListPrintsAsBefore
  pub written_in_full : WrittenInFullPrintsAsBefore
  -- "01's listing gets a k list of three 2s"; without one, as it was, it now ends in a late row
  pub listing : ExampleIsPrinted
  pub unlisted : UnlistedIsPrinted
  pub unlisted_before : UnlistedWasPrinted
  pub ends : EndsIfEnoughAreFree
  pub carries : HeldBackCarries
  pub late_with_too_few : LateWithTooFew
  pub full_box_late : FullBoxIsLate
  pub late : LateIfTooFewAreFree
  pub shut_out : PrintersShutOut
