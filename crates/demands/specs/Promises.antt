-- The promise of every public function, crate by crate, as its contract says it: which results it allows. A slice that is lent stands for the bytes
-- it holds at the call; where a function writes, `_new` has those it holds afterwards. The gate compares each with the contract in the source.
use Rattle.std.specs.Prelude.{ℕ, ◌+◌, ◌-◌, ◌≤◌, min, ◌≡◌, List, Bool, Option, Result, length, take}
use Rattle.std.proofs.lemmas.List.Edits.{sets}
use Rattle.std.specs.Borrow.{Bor}
use Rattle.facts.specs.First.{Lowest}
use Rattle.counts.specs.declared.Slot.{Slot}
use Rattle.counts.specs.declared.Quanta.{Quanta}
use Rattle.counts.specs.declared.Subtask.{Subtask}
use Rattle.counts.specs.Limits.{kept}
use Rattle.counts.specs.Numbers.{numbers_of}
use Rattle.fields.specs.Fields.{byte, half, word, bytes_of, number_at}
use Rattle.windows.specs.declared.times.Window.{Window}
use Rattle.windows.specs.declared.times.Due.{Due}
use Rattle.windows.specs.Windows.{start, job_start}
use Rattle.windows.specs.Group.{group_deadline}
use Rattle.windows.specs.Question.{reply_of, window_reply}
use Rattle.windows.specs.Next.{next_due, next}
use Rattle.table.specs.declared.Row.{Row}
use Rattle.table.specs.declared.Table.{Table}
use Rattle.table.specs.declared.faults.Fault.{Fault}
use Rattle.table.specs.declared.faults.Unwritten.{Unwritten}
use Rattle.table.specs.Reply.{fault_number, reply_of as table_reply_of, fault_said, written_of}
use Rattle.table.specs.Bytes.{table_number, reading, row_in_bytes}
use Rattle.table.specs.Value.{fault_of}
use Rattle.table.specs.Writing.{writing, buffer_after}
use Rattle.pd2.specs.Ready.{origin_of, ready, late}
use Rattle.pd2.specs.Share.{within}
use Rattle.pd2.specs.Verdict.{is_yes, answered, verdict}
use Rattle.pd2.specs.Rows.{GaveMarked, says_late_in}
use Rattle.trace.specs.declared.NoRoom.{NoRoom}
use Rattle.trace.specs.declared.Misshape.{Misshape}
use Rattle.trace.specs.Said.{bare}
use Rattle.trace.specs.Records.{rows_at}
use Rattle.trace.specs.Search.{length_inside, some_length}
use Rattle.trace.specs.Shaped.{shaped_of, shape_of}
use Rattle.trace.specs.Raising.{raised}
use Rattle.trace.specs.Record.{record_of, marked, stored_number, write_number, part_after}
use Rattle.trace.specs.Found.{part_found, part_begins}
use Rattle.summary.specs.declared.Unanswered.{Unanswered}
use Rattle.summary.specs.Counted.{reply_of as quanta_reply_of}
use Rattle.summary.specs.Question.{reply_to}
use Rattle.choice.specs.Choice.{favours_marked, chosen}
use Rattle.choice.specs.Keys.{key_in, FirstLeft}
use Rattle.cores.specs.declared.Placement.{Placement}
use Rattle.cores.specs.Sets.{size, names_past, first_cores}
use Rattle.cores.specs.Placement.{nobody, ran_marks}
use Rattle.cores.specs.Cores.{placed_for}
use Rattle.cores.specs.Fault.{below, misremembers}
use Rattle.dispatcher.specs.declared.State.{State}
use Rattle.dispatcher.specs.declared.Refusal.{Refusal}
use Rattle.dispatcher.specs.declared.Ran.{Ran}
use Rattle.dispatcher.specs.declared.Told.{Told}
use Rattle.dispatcher.specs.declared.Outcome.{Outcome}
use Rattle.dispatcher.specs.State.{time_of, fresh_of}
use Rattle.dispatcher.specs.Answer.{number_of, said_of, said_by}
use Rattle.dispatcher.specs.Slot.{slot_of, refusal}
use Rattle.dispatcher.specs.Favoured.{favoured_marks}
use Rattle.dispatcher.specs.Broken.{broken}
use Rattle.why.specs.declared.Reason.{Reason}
use Rattle.why.specs.declared.Refusal.{Refusal as WhyRefusal}
use Rattle.why.specs.declared.Told.{Told as ToldWhy}
use Rattle.why.specs.Answer.{told_of}
use Rattle.why.specs.Why.{why_of}
use Rattle.checker.specs.declared.Finding.{Finding}
use Rattle.checker.specs.Answer as checked
use Rattle.checker.specs.Check.{check_of}
use Rattle.values.specs.Values.{rows_in_bytes, quanta_in_bytes, value_in_bytes, state_in_bytes, bytes_of_quanta, bytes_of_value, bytes_of_placement, bytes_of_state}
use Rattle.printer.specs.declared.TooShort.{TooShort}
use Rattle.printer.specs.Limits.{text_limit}
use Rattle.printer.specs.Text.{text_of}
use Rattle.printer.specs.Buffer.{length_of, printed_of, out_after}
use Rattle.slots_run.specs.Slots.{slots_from}
use Rattle.desk_run.specs.Run.{ran}
use Rattle.desk_run.specs.Judged.{place_of}

-- counts::Slot::at
abbrev pub counts·Slot·at : ℕ → Slot → Type 0
counts·Slot·at time r = r.0 ≡ time

-- counts::Slot::time
abbrev pub counts·Slot·time : Slot → ℕ → Type 0
counts·Slot·time self r = r ≡ self.0

-- counts::Slot::later
abbrev pub counts·Slot·later : Slot → ℕ → Slot → Type 0
counts·Slot·later self slots r = r.0 ≡ kept (self.0 + slots)

-- counts::Slot::before
abbrev pub counts·Slot·before : Slot → Slot → Type 0
counts·Slot·before self r = r.0 ≡ self.0 - 1

-- counts::Slot::since
abbrev pub counts·Slot·since : Slot → Slot → ℕ → Type 0
counts·Slot·since self origin r = r ≡ self.0 - origin.0

-- counts::Quanta::of
abbrev pub counts·Quanta·of : ℕ → Quanta → Type 0
counts·Quanta·of count r = r.0 ≡ count

-- counts::Quanta::count
abbrev pub counts·Quanta·count : Quanta → ℕ → Type 0
counts·Quanta·count self r = r ≡ self.0

-- counts::Quanta::one_more
abbrev pub counts·Quanta·one_more : Quanta → Quanta → Type 0
counts·Quanta·one_more self r = r.0 ≡ kept (self.0 + 1)

-- counts::Quanta::next_subtask
abbrev pub counts·Quanta·next_subtask : Quanta → Subtask → Type 0
counts·Quanta·next_subtask self r = r.0 ≡ kept (self.0 + 1)

-- counts::Subtask::numbered
abbrev pub counts·Subtask·numbered : ℕ → Subtask → Type 0
counts·Subtask·numbered number r = r.0 ≡ number

-- counts::Subtask::number
abbrev pub counts·Subtask·number : Subtask → ℕ → Type 0
counts·Subtask·number self r = r ≡ self.0

-- counts::Subtask::next
abbrev pub counts·Subtask·next : Subtask → Subtask → Type 0
counts·Subtask·next self r = r.0 ≡ kept (self.0 + 1)

-- counts::Subtask::quanta_before
abbrev pub counts·Subtask·quanta_before : Subtask → Quanta → Type 0
counts·Subtask·quanta_before self r = r.0 ≡ self.0 - 1

-- fields::byte
abbrev pub fields·byte : List ℕ → ℕ → ℕ → Type 0
fields·byte s at r = r ≡ byte s at

-- fields::half
abbrev pub fields·half : List ℕ → ℕ → ℕ → Type 0
fields·half s at r = r ≡ half s at

-- fields::word
abbrev pub fields·word : List ℕ → ℕ → ℕ → Type 0
fields·word s at r = r ≡ word s at

-- fields::long
abbrev pub fields·long : List ℕ → ℕ → ℕ → Type 0
fields·long s at r = r ≡ number_at 8 s at

-- fields::put
abbrev pub fields·put : List ℕ → ℕ → ℕ → ℕ → ℕ → List ℕ → Type 0
fields·put s at width number r s_new = (r ≡ min width (length s - at)) × (s_new ≡ sets s at (bytes_of width number))

-- windows::window
abbrev pub windows·window : ℕ → ℕ → ℕ → Subtask → Option Window → Type 0
windows·window e p f i r = reply_of r ≡ window_reply e p f i.0

-- windows::window_by_walk
abbrev pub windows·window_by_walk : ℕ → ℕ → ℕ → Subtask → Option Window → Type 0
windows·window_by_walk e p f i r = reply_of r ≡ window_reply e p f i.0

-- windows::next_due
abbrev pub windows·next_due : ℕ → ℕ → Slot → Quanta → Option Due → Type 0
windows·next_due e p origin given r = r ≡ next_due e p origin.0 given.0

-- windows::next_start
abbrev pub windows·next_start : ℕ → ℕ → Slot → Quanta → Option Slot → Type 0
windows·next_start e p origin given r = r ≡ next start e p origin.0 given.0

-- windows::next_job_start
abbrev pub windows·next_job_start : ℕ → ℕ → Slot → Quanta → Option Slot → Type 0
windows·next_job_start e p origin given r = r ≡ next job_start e p origin.0 given.0

-- windows::next_group_deadline
abbrev pub windows·next_group_deadline : ℕ → ℕ → Slot → Quanta → Option Slot → Type 0
windows·next_group_deadline e p origin given r = r ≡ next group_deadline e p origin.0 given.0

-- table::Fault::number
abbrev pub table·Fault·number : Fault → ℕ → Type 0
table·Fault·number self r = r ≡ fault_number self

-- table::read
abbrev pub table·read : List ℕ → Result Table Fault → Type 0
table·read bytes r = table_reply_of r ≡ reading bytes

-- table::fault
abbrev pub table·fault : Table → Option Fault → Type 0
table·fault table r = fault_said r ≡ fault_of table

-- table::write
abbrev pub table·write : Table → List ℕ → Result ℕ Unwritten → List ℕ → Type 0
table·write table buffer r buffer_new = (written_of r ≡ writing table buffer) × (buffer_new ≡ buffer_after table buffer)

-- pd2::is_yes
abbrev pub pd2·is_yes : Option Bool → Bool → Type 0
pd2·is_yes verdict r = r ≡ is_yes verdict

-- pd2::origin
abbrev pub pd2·origin : Row → Slot → Type 0
pd2·origin row r = r.0 ≡ origin_of row

-- pd2::ready
abbrev pub pd2·ready : Row → Quanta → Slot → Option Bool → Type 0
pd2·ready row given slot r = r ≡ verdict (answered row given.0 slot.0) (ready row given.0 slot.0)

-- pd2::late
abbrev pub pd2·late : Row → Quanta → Slot → Option Bool → Type 0
pd2·late row given time r = r ≡ verdict (answered row given.0 time.0) (late row given.0 time.0)

-- pd2::within
abbrev pub pd2·within : Row → Quanta → Slot → Option Bool → Type 0
pd2·within row given time r = r ≡ verdict (answered row given.0 time.0) (within row given.0 time.0)

-- pd2::give
abbrev pub pd2·give : List Quanta → List Bool → List Quanta → Type 0
pd2·give quanta marks r = GaveMarked marks quanta r

-- pd2::lowest_late
abbrev pub pd2·lowest_late : List Row → List Quanta → ℕ → Slot → ℕ → Type 0
pd2·lowest_late rows quanta n time r = Lowest (says_late_in rows (numbers_of quanta) time.0) (min n 32) r

-- trace::write
abbrev pub trace·write : List ℕ → ℕ → List Bool → Result (Unit {0}) NoRoom → List ℕ → Type 0
trace·write part free marks r part_new = (stored_number r ≡ write_number part (record_of free (marked marks))) × (part_new ≡ part_after part (record_of free (marked marks)))

-- trace::record; `trace_ptr` is where the lent trace lies: a block of memory, and a place in it
abbrev pub trace·record : List ℕ → ℕ × ℕ → Slot → Bor (List ℕ) → Type 0
trace·record trace trace_ptr slot r = (r.now ≡ part_found trace slot.0) × ((r.ref_ptr.0 ≡ trace_ptr.0) × (r.ref_ptr.1 ≡ trace_ptr.1 + part_begins trace slot.0))

-- trace::begins
abbrev pub trace·begins : List ℕ → Slot → ℕ → Type 0
trace·begins trace slot r = r ≡ part_begins trace slot.0

-- trace::length_inside
abbrev pub trace·length_inside : List ℕ → ℕ → Option ℕ → Type 0
trace·length_inside trace start r = r ≡ some_length (length_inside trace start)

-- trace::shape
abbrev pub trace·shape : ℕ → ℕ → List ℕ → ℕ → Result ℕ Misshape → Type 0
trace·shape cores n trace at r = shaped_of r ≡ shape_of cores n trace at

-- trace::raise
abbrev pub trace·raise : List ℕ → ℕ → List ℕ → List ℕ → Type 0
trace·raise trace place counts counts_new = counts_new ≡ raised (rows_at trace place) 0 counts

-- summary::quanta_before
abbrev pub summary·quanta_before : ℕ → List ℕ → List ℕ → ℕ → Slot → Result Quanta Unanswered → Type 0
summary·quanta_before n trace summary row time r = quanta_reply_of r ≡ reply_to n trace summary row time.0

-- choice::picks
abbrev pub choice·picks : List Row → List Quanta → List Bool → ℕ → Slot → ℕ → List Bool → Type 0
choice·picks rows quanta favoured n time k r =
    (length r ≡ 32) × (marked r ≡ chosen (take n rows) (numbers_of quanta) (favours_marked favoured) time.0 (min k 8))

-- choice::first_left
abbrev pub choice·first_left : List ℕ → ℕ → ℕ → ℕ → Type 0
choice·first_left keys n k r = FirstLeft (key_in keys) (min n 32) (min k 8) r

-- cores::Placement::nobody
abbrev pub cores·Placement·nobody : Placement → Type 0
cores·Placement·nobody r = r ≡ nobody

-- cores::Placement::is_faulty
abbrev pub cores·Placement·is_faulty : Placement → ℕ → ℕ → Bool → Type 0
cores·Placement·is_faulty self cores n r = r ≡ misremembers self (below n) cores

-- cores::Placement::ran
abbrev pub cores·Placement·ran : Placement → List Bool → Type 0
cores·Placement·ran self r = r ≡ ran_marks self

-- cores::how_many
abbrev pub cores·how_many : List Bool → ℕ → Type 0
cores·how_many free r = (r ≡ size free) × (r ≤ 32)

-- cores::names_past
abbrev pub cores·names_past : List Bool → ℕ → Bool → Type 0
cores·names_past free cores r = r ≡ names_past cores free

-- cores::first
abbrev pub cores·first : ℕ → List Bool → Type 0
cores·first k r = r ≡ first_cores k

-- cores::place
abbrev pub cores·place : List ℕ → List Bool → Placement → Placement → Type 0
cores·place rows free last r = r ≡ placed_for last (marked free) rows

-- dispatcher::Told::of
abbrev pub dispatcher·Told·of : Result Ran Refusal → Told → Type 0
dispatcher·Told·of answer r = said_by r ≡ said_of answer

-- dispatcher::State::fresh
abbrev pub dispatcher·State·fresh : Table → State → Type 0
dispatcher·State·fresh table r = r ≡ fresh_of table

-- dispatcher::State::is_broken
abbrev pub dispatcher·State·is_broken : State → Bool → Type 0
dispatcher·State·is_broken self r = r ≡ broken self

-- dispatcher::State::favoured
abbrev pub dispatcher·State·favoured : State → List Bool → Type 0
dispatcher·State·favoured self r = r ≡ favoured_marks self

-- dispatcher::State::slot
abbrev pub dispatcher·State·slot : State → List Bool → List ℕ → ℕ → Outcome → List ℕ → Type 0
dispatcher·State·slot self free buffer place r buffer_new =
    (said_of r.answer ≡ (slot_of self free buffer place).said)
    × (r.placed ≡ (slot_of self free buffer place).placed)
    × (r.state ≡ (slot_of self free buffer place).state)
    × (buffer_new ≡ (slot_of self free buffer place).bytes)

-- dispatcher::State::refusal
abbrev pub dispatcher·State·refusal : State → List Bool → List ℕ → ℕ → Option Refusal → Type 0
dispatcher·State·refusal self free buffer place r = number_of r ≡ refusal self free buffer place

-- why::Told::of
abbrev pub why·Told·of : Result Reason WhyRefusal → ToldWhy → Type 0
why·Told·of answer r = r ≡ told_of answer

-- why::of_row
abbrev pub why·of_row : State → ℕ → ℕ → Result Reason WhyRefusal → Type 0
why·of_row state k row r = r ≡ why_of state k row

-- checker::Finding::from_fault
abbrev pub checker·Finding·from_fault : Fault → Finding → Type 0
checker·Finding·from_fault fault r = checked.said_by r ≡ bare (fault_number fault)

-- checker::Finding::from_misshape
abbrev pub checker·Finding·from_misshape : Misshape → Finding → Type 0
checker·Finding·from_misshape misshape r = checked.said_by r ≡ bare (checked.shape_said misshape)

-- checker::check
abbrev pub checker·check : List ℕ → List ℕ → Result (Unit {0}) Finding → Type 0
checker·check table trace r = checked.said_of r ≡ check_of table trace

-- checker::number
abbrev pub checker·number : Result (Unit {0}) Finding → ℕ → Type 0
checker·number answer r = r ≡ (checked.said_of answer).number

-- values::row
abbrev pub values·row : List ℕ → Row → Type 0
values·row bytes r = r ≡ row_in_bytes bytes 0

-- values::rows
abbrev pub values·rows : List ℕ → List Row → Type 0
values·rows bytes r = r ≡ rows_in_bytes bytes 0

-- values::quanta
abbrev pub values·quanta : List ℕ → List Quanta → Type 0
values·quanta bytes r = r ≡ quanta_in_bytes bytes 0

-- values::table
abbrev pub values·table : List ℕ → Table → Type 0
values·table bytes r = r ≡ value_in_bytes bytes 0

-- values::state
abbrev pub values·state : List ℕ → State → Type 0
values·state bytes r = r ≡ state_in_bytes bytes 0

-- values::put_quanta
abbrev pub values·put_quanta : List ℕ → List Quanta → List ℕ → Type 0
values·put_quanta bytes quanta bytes_new = bytes_new ≡ sets bytes 0 (bytes_of_quanta quanta)

-- values::put_table
abbrev pub values·put_table : List ℕ → Table → List ℕ → Type 0
values·put_table bytes table bytes_new = bytes_new ≡ sets bytes 0 (bytes_of_value table)

-- values::put_placement
abbrev pub values·put_placement : List ℕ → Placement → List ℕ → Type 0
values·put_placement bytes placed bytes_new = bytes_new ≡ sets bytes 0 (bytes_of_placement placed)

-- values::put_state
abbrev pub values·put_state : List ℕ → State → List ℕ → Type 0
values·put_state bytes state bytes_new = bytes_new ≡ sets bytes 0 (bytes_of_state state)

-- firmware::zb_table_check
abbrev pub firmware·zb_table_check : List ℕ → ℕ → Type 0
firmware·zb_table_check table r = r ≡ table_number table

-- firmware::zb_trace_check
abbrev pub firmware·zb_trace_check : List ℕ → List ℕ → ℕ → Type 0
firmware·zb_trace_check table trace r = r ≡ (check_of table trace).number

-- printer::length
abbrev pub printer·length : Result ℕ TooShort → ℕ → Type 0
printer·length printed r = r ≡ length_of printed

-- printer::print
abbrev pub printer·print : List ℕ → List ℕ → Result ℕ TooShort → List ℕ → Type 0
printer·print input out r out_new = (r ≡ printed_of input out) × (out_new ≡ out_after input out) × (length (text_of input) ≤ text_limit)

-- slots_run::zb_slots
abbrev pub slots_run·zb_slots : List ℕ → ℕ → ℕ → List ℕ → ℕ → List ℕ → Type 0
slots_run·zb_slots table k slots entry r entry_new =
    (r ≡ time_of (slots_from (fresh_of (reading table).table) k entry slots).state)
    × (entry_new ≡ (slots_from (fresh_of (reading table).table) k entry slots).bytes)

-- desk_run::zb_run
abbrev pub desk_run·zb_run : List ℕ → List ℕ → List ℕ → ℕ → List ℕ → Type 0
desk_run·zb_run table list entries r entries_new = (r ≡ time_of (ran table list entries).state) × (entries_new ≡ (ran table list entries).bytes)

-- desk_run::zb_judge
abbrev pub desk_run·zb_judge : List ℕ → List ℕ → List ℕ → ℕ → List ℕ → Type 0
desk_run·zb_judge table trace place r place_new = (r ≡ (check_of table trace).number) × (place_new ≡ place_of (check_of table trace) place)
