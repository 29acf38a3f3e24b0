-- "For every answer that is an enum, a definition states this paper's number and values for each of the enum's cases" (01, "Our forms for each place"):
-- what each case says, written out. (The row that is read is a result inside `table`: table/specs/RowRead.antt.)
use Rattle.std.specs.Prelude.{ℕ, ◌≡◌, Bool, true, false, Some, None, Ok, Err}
use Rattle.counts.specs.declared.Slot.{Slot}
use Rattle.windows.specs.Question.{reply_of}
use Rattle.pd2.specs.Verdict.{is_yes, verdict}
use Rattle.trace.specs.declared.NoRoom.{NoRoom}
use Rattle.trace.specs.Record.{stored_number}
use Rattle.trace.specs.Said.{bare, named}
use Rattle.trace.specs.Search.{some_length}
use Rattle.dispatcher.specs.declared.Ran.TheVariants as ran
use Rattle.dispatcher.specs.declared.Refusal.TheVariants as slot
use Rattle.dispatcher.specs.declared.Refusal.{Refusal}
use Rattle.dispatcher.specs.Answer.{said_of, refusal_number, number_of}
use Rattle.why.specs.declared.Rule.{Rule}
use Rattle.why.specs.declared.Rule.TheVariants as rule
use Rattle.why.specs.declared.Reason.TheVariants as why
use Rattle.why.specs.declared.Refusal.TheVariants as unsaid
use Rattle.why.specs.Answer.{rule_place, told, told_of}
use Rattle.table.specs.declared.faults.Fault.{Fault}
use Rattle.table.specs.declared.faults.Fault.TheVariants as fault
use Rattle.table.specs.declared.Table.{Table}
use Rattle.table.specs.declared.faults.Unwritten.TheVariants as unwritten
use Rattle.table.specs.Reply.{no_table, fault_number, reply_of as table_reply_of, fault_said, written_of}
use Rattle.checker.specs.declared.Finding.TheVariants as check
use Rattle.checker.specs.Answer as checked
use Rattle.printer.specs.declared.TooShort.{TooShort}
use Rattle.printer.specs.Buffer.{length_of}

-- a window
pub record WindowCases : Type 0 where
  pub window : (r d D : Slot) (b : ℕ) → reply_of (Some (record { start = r; deadline = d; bit = b; group = D })) ≡ record { number = 0; r = r.0; d = d.0; b = b; D = D.0 }
  pub refused : reply_of None ≡ record { number = 50; r = 0; d = 0; b = 0; D = 0 }

-- the writer of a record, and how long one is that is read: one that is cut has no length
pub record StoredCases : Type 0 where
  pub written : stored_number (Ok tt) ≡ 0
  pub no_room : (reason : NoRoom) → stored_number (Err reason) ≡ 34
  pub is_cut : some_length 0 ≡ None

-- a slot: "names the lowest such row and that time"
pub record SlotCases : Type 0 where
  pub done : said_of (Ok ran.InTime) ≡ bare 0
  pub late : (row : ℕ) (time : Slot) → said_of (Ok (ran.Late row time)) ≡ named 1 row time.0
  pub broken : said_of (Err slot.Broken) ≡ bare 30
  pub stopped : said_of (Err slot.Stopped) ≡ bare 31
  pub at_limit : said_of (Err slot.AtLimit) ≡ bare 32
  pub no_such_core : said_of (Err slot.NoSuchCore) ≡ bare 35
  pub no_room : said_of (Err slot.NoRoom) ≡ bare 34
  pub not_refused : number_of None ≡ 0
  pub refused : (refusal : Refusal) → number_of (Some refusal) ≡ refusal_number refusal

-- why a row waits: number, reason, slot, row and rule. "picked; not ready, with the first slot in which it will be; no core free; or passed over", in this order,
-- and for the last "the lowest-ranked picked row and the rule that put it ahead (deadline, bit, group deadline, row number)" (02, Two)
pub record WhyCases : Type 0 where
  pub picked : told_of (Ok why.Picked) ≡ told 0 1 0 0 0
  pub not_ready : (until : Slot) → told_of (Ok (why.NotReady until)) ≡ told 0 2 until.0 0 0
  pub no_core_free : told_of (Ok why.NoCoreFree) ≡ told 0 3 0 0 0
  pub passed_over : (by : ℕ) (r : Rule) → told_of (Ok (why.PassedOver by r)) ≡ told 0 4 0 by (rule_place r)
  pub deadline : rule_place rule.Deadline ≡ 1
  pub bit : rule_place rule.Bit ≡ 2
  pub group_deadline : rule_place rule.GroupDeadline ≡ 3
  pub row_number : rule_place rule.RowNumber ≡ 4
  pub ran_before_is : rule_place rule.RanBefore ≡ 5
  pub broken : told_of (Err unsaid.Broken) ≡ told 30 0 0 0 0
  pub stopped : told_of (Err unsaid.Stopped) ≡ told 31 0 0 0 0
  pub at_limit : told_of (Err unsaid.AtLimit) ≡ told 32 0 0 0 0
  pub too_many_cores : told_of (Err unsaid.TooManyCores) ≡ told 33 0 0 0 0
  pub no_such_row : told_of (Err unsaid.NoSuchRow) ≡ told 36 0 0 0 0

-- the reader of a table, the fault of a value, and the writer: 0 with what is handed back, or a refusal with nothing
pub record TableAnswerCases : Type 0 where
  pub taken : (table : Table) → table_reply_of (Ok table) ≡ record { number = 0; table = table }
  pub refused : (f : Fault) → table_reply_of (Err f) ≡ record { number = fault_number f; table = no_table }
  pub no_fault : fault_said None ≡ 0
  pub fault_is : (f : Fault) → fault_said (Some f) ≡ fault_number f
  pub written : (many : ℕ) → written_of (Ok many) ≡ record { number = 0; length = many }
  pub faulty : (f : Fault) → written_of (Err (unwritten.Faulty f)) ≡ record { number = fault_number f; length = 0 }
  pub no_room : written_of (Err unwritten.NoRoom) ≡ record { number = 37; length = 0 }

-- a check: the table's refusals,
pub record TableCases : Type 0 where
  pub ends : fault_number fault.Ends ≡ 10
  pub format : fault_number fault.Format ≡ 11
  pub cycle : fault_number fault.Cycle ≡ 12
  pub cores : fault_number fault.Cores ≡ 13
  pub boards : fault_number fault.Boards ≡ 14
  pub row_count : fault_number fault.RowCount ≡ 15
  pub tanks : fault_number fault.Tanks ≡ 16
  pub cost : fault_number fault.Cost ≡ 17
  pub weight : fault_number fault.Weight ≡ 18
  pub period : fault_number fault.Period ≡ 19
  pub kind : fault_number fault.Kind ≡ 20
  pub after : fault_number fault.After ≡ 21
  pub sum : fault_number fault.Sum ≡ 22

-- and the trace's: "(row, slot)", "(row, time)"
pub record CheckCases : Type 0 where
  pub passed : checked.said_of (Ok tt) ≡ bare 0
  pub table : TableCases
  pub refused : (f : Fault) → checked.said_of (Err (check.Table f)) ≡ bare (fault_number f)
  pub cut : checked.said_of (Err check.Cut) ≡ bare 40
  pub too_many_cores : checked.said_of (Err check.TooManyCores) ≡ bare 41
  pub too_many_rows : checked.said_of (Err check.TooManyRows) ≡ bare 42
  pub bad_row : checked.said_of (Err check.BadRow) ≡ bare 43
  pub early : (row : ℕ) (slot : Slot) → checked.said_of (Err (check.Early row slot)) ≡ named 44 row slot.0
  pub late : (row : ℕ) (time : Slot) → checked.said_of (Err (check.Late row time)) ≡ named 45 row time.0
  pub extra : checked.said_of (Err check.Extra) ≡ bare 46
  pub too_long : checked.said_of (Err check.TooLong) ≡ bare 47

-- and those of our own that are no answers of 01: what is said of one row, and how long a text is.
-- (The cases of `next_due` and its like stand in `next_is` of demand 1.)
pub record OwnCases : Type 0 where
  pub yes : verdict true true ≡ Some true
  pub no : verdict true false ≡ Some false
  pub unanswered : (holds : Bool) → verdict false holds ≡ None
  pub yes_is : is_yes (Some true) ≡ true
  pub no_is : is_yes (Some false) ≡ false
  pub unanswered_is : is_yes None ≡ false
  pub text : (length : ℕ) → length_of (Ok length) ≡ length
  pub too_short : (reason : TooShort) → length_of (Err reason) ≡ 0

pub record Cases : Type 0 where
  pub windows : WindowCases
  pub tables : TableAnswerCases
  pub stored : StoredCases
  pub slots : SlotCases
  pub why : WhyCases
  pub checks : CheckCases
  pub own : OwnCases
