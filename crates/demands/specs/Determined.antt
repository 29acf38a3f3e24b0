-- Any two results that a promise allows are equal (01, "What the statements must say"): state, buffer and refused answers included.
use Rattle.std.specs.Prelude.{ℕ, List, Bool, Option, Result}
use Rattle.facts.specs.Determined.{Determined}
use Rattle.counts.specs.declared.Slot.{Slot}
use Rattle.counts.specs.declared.Quanta.{Quanta}
use Rattle.counts.specs.declared.Subtask.{Subtask}
use Rattle.table.specs.declared.Row.{Row}
use Rattle.table.specs.declared.Table.{Table}
use Rattle.table.specs.declared.faults.Fault.{Fault}
use Rattle.table.specs.declared.faults.Unwritten.{Unwritten}
use Rattle.trace.specs.declared.NoRoom.{NoRoom}
use Rattle.trace.specs.declared.Misshape.{Misshape}
use Rattle.cores.specs.declared.Placement.{Placement}
use Rattle.dispatcher.specs.declared.State.{State}
use Rattle.dispatcher.specs.declared.Refusal.{Refusal}
use Rattle.dispatcher.specs.declared.Ran.{Ran}
use Rattle.dispatcher.specs.declared.Outcome.{Outcome}
use Rattle.why.specs.declared.Reason.{Reason}
use Rattle.why.specs.declared.Refusal.{Refusal as WhyRefusal}
use Rattle.checker.specs.declared.Finding.{Finding}
use Rattle.printer.specs.declared.TooShort.{TooShort}
use Rattle.demands.specs.Promises.{counts·Slot·at, counts·Slot·time, counts·Slot·later, counts·Slot·before, counts·Slot·since, counts·Quanta·of, counts·Quanta·count, counts·Quanta·one_more, counts·Quanta·next_subtask, counts·Subtask·numbered, counts·Subtask·number, counts·Subtask·next, counts·Subtask·quanta_before, fields·byte, fields·half, fields·word, fields·long, fields·put, windows·window, windows·window_by_walk, windows·next_due, windows·next_start, windows·next_job_start, windows·next_group_deadline, table·Fault·number, table·read, table·fault, table·write, pd2·is_yes, pd2·origin, pd2·ready, pd2·late, pd2·within, pd2·give, pd2·lowest_late, trace·write, trace·record, trace·begins, trace·length_inside, trace·shape, trace·raise, summary·quanta_before, choice·picks, choice·first_left, cores·Placement·nobody, cores·Placement·is_faulty, cores·Placement·ran, cores·how_many, cores·names_past, cores·first, cores·place, dispatcher·Told·of, dispatcher·State·fresh, dispatcher·State·is_broken, dispatcher·State·favoured, dispatcher·State·slot, dispatcher·State·refusal, why·Told·of, why·of_row, checker·Finding·from_fault, checker·Finding·from_misshape, checker·check, checker·number, values·row, values·rows, values·quanta, values·table, values·state, values·put_quanta, values·put_table, values·put_placement, values·put_state, firmware·zb_table_check, firmware·zb_trace_check, printer·length, printer·print, slots_run·zb_slots, desk_run·zb_run, desk_run·zb_judge}

pub record EveryPromiseDetermines : Type 0 where
  pub counts_slot_at : (time : ℕ) → Determined (counts·Slot·at time)
  pub counts_slot_time : (self : Slot) → Determined (counts·Slot·time self)
  pub counts_slot_later : (self : Slot) (slots : ℕ) → Determined (counts·Slot·later self slots)
  pub counts_slot_before : (self : Slot) → Determined (counts·Slot·before self)
  pub counts_slot_since : (self origin : Slot) → Determined (counts·Slot·since self origin)
  pub counts_quanta_of : (count : ℕ) → Determined (counts·Quanta·of count)
  pub counts_quanta_count : (self : Quanta) → Determined (counts·Quanta·count self)
  pub counts_quanta_one_more : (self : Quanta) → Determined (counts·Quanta·one_more self)
  pub counts_quanta_next_subtask : (self : Quanta) → Determined (counts·Quanta·next_subtask self)
  pub counts_subtask_numbered : (number : ℕ) → Determined (counts·Subtask·numbered number)
  pub counts_subtask_number : (self : Subtask) → Determined (counts·Subtask·number self)
  pub counts_subtask_next : (self : Subtask) → Determined (counts·Subtask·next self)
  pub counts_subtask_quanta_before : (self : Subtask) → Determined (counts·Subtask·quanta_before self)
  pub fields_byte : (s : List ℕ) (at : ℕ) → Determined (fields·byte s at)
  pub fields_half : (s : List ℕ) (at : ℕ) → Determined (fields·half s at)
  pub fields_word : (s : List ℕ) (at : ℕ) → Determined (fields·word s at)
  pub fields_long : (s : List ℕ) (at : ℕ) → Determined (fields·long s at)
  pub fields_put : (s : List ℕ) (at width number : ℕ) → Determined {R = ℕ × List ℕ} (λ r. fields·put s at width number r.0 r.1)
  pub windows_window : (e p f : ℕ) (i : Subtask) → Determined (windows·window e p f i)
  pub windows_window_by_walk : (e p f : ℕ) (i : Subtask) → Determined (windows·window_by_walk e p f i)
  pub windows_next_due : (e p : ℕ) (origin : Slot) (given : Quanta) → Determined (windows·next_due e p origin given)
  pub windows_next_start : (e p : ℕ) (origin : Slot) (given : Quanta) → Determined (windows·next_start e p origin given)
  pub windows_next_job_start : (e p : ℕ) (origin : Slot) (given : Quanta) → Determined (windows·next_job_start e p origin given)
  pub windows_next_group_deadline : (e p : ℕ) (origin : Slot) (given : Quanta) → Determined (windows·next_group_deadline e p origin given)
  pub table_fault_number : (self : Fault) → Determined (table·Fault·number self)
  pub table_read : (bytes : List ℕ) → Determined (table·read bytes)
  pub table_fault : (table : Table) → Determined (table·fault table)
  pub table_write : (table : Table) (buffer : List ℕ) → Determined {R = Result ℕ Unwritten × List ℕ} (λ r. table·write table buffer r.0 r.1)
  pub pd2_is_yes : (verdict : Option Bool) → Determined (pd2·is_yes verdict)
  pub pd2_origin : (row : Row) → Determined (pd2·origin row)
  pub pd2_ready : (row : Row) (given : Quanta) (slot : Slot) → Determined (pd2·ready row given slot)
  pub pd2_late : (row : Row) (given : Quanta) (time : Slot) → Determined (pd2·late row given time)
  pub pd2_within : (row : Row) (given : Quanta) (time : Slot) → Determined (pd2·within row given time)
  pub pd2_give : (quanta : List Quanta) (marks : List Bool) → Determined (pd2·give quanta marks)
  pub pd2_lowest_late : (rows : List Row) (quanta : List Quanta) (n : ℕ) (time : Slot) → Determined (pd2·lowest_late rows quanta n time)
  pub trace_write : (part : List ℕ) (free : ℕ) (marks : List Bool) → Determined {R = Result (Unit {0}) NoRoom × List ℕ} (λ r. trace·write part free marks r.0 r.1)
  pub trace_record : (trace : List ℕ) (trace_ptr : ℕ × ℕ) (slot : Slot) → Determined (trace·record trace trace_ptr slot)
  pub trace_begins : (trace : List ℕ) (slot : Slot) → Determined (trace·begins trace slot)
  pub trace_length_inside : (trace : List ℕ) (start : ℕ) → Determined (trace·length_inside trace start)
  pub trace_shape : (cores n : ℕ) (trace : List ℕ) (at : ℕ) → Determined (trace·shape cores n trace at)
  pub trace_raise : (trace : List ℕ) (place : ℕ) (counts : List ℕ) → Determined (trace·raise trace place counts)
  pub summary_quanta_before : (n : ℕ) (trace summary : List ℕ) (row : ℕ) (time : Slot) → Determined (summary·quanta_before n trace summary row time)
  pub choice_picks : (rows : List Row) (quanta : List Quanta) (favoured : List Bool) (n : ℕ) (time : Slot) (k : ℕ) → Determined (choice·picks rows quanta favoured n time k)
  pub choice_first_left : (keys : List ℕ) (n k : ℕ) → Determined (choice·first_left keys n k)
  pub cores_placement_nobody : Determined cores·Placement·nobody
  pub cores_placement_is_faulty : (self : Placement) (cores n : ℕ) → Determined (cores·Placement·is_faulty self cores n)
  pub cores_placement_ran : (self : Placement) → Determined (cores·Placement·ran self)
  pub cores_how_many : (free : List Bool) → Determined (cores·how_many free)
  pub cores_names_past : (free : List Bool) (cores : ℕ) → Determined (cores·names_past free cores)
  pub cores_first : (k : ℕ) → Determined (cores·first k)
  pub cores_place : (rows : List ℕ) (free : List Bool) (last : Placement) → Determined (cores·place rows free last)
  pub dispatcher_told_of : (answer : Result Ran Refusal) → Determined (dispatcher·Told·of answer)
  pub dispatcher_state_fresh : (table : Table) → Determined (dispatcher·State·fresh table)
  pub dispatcher_state_is_broken : (self : State) → Determined (dispatcher·State·is_broken self)
  pub dispatcher_state_favoured : (self : State) → Determined (dispatcher·State·favoured self)
  pub dispatcher_state_slot : (self : State) (free : List Bool) (buffer : List ℕ) (place : ℕ) → Determined {R = Outcome × List ℕ} (λ r. dispatcher·State·slot self free buffer place r.0 r.1)
  pub dispatcher_state_refusal : (self : State) (free : List Bool) (buffer : List ℕ) (place : ℕ) → Determined (dispatcher·State·refusal self free buffer place)
  pub why_told_of : (answer : Result Reason WhyRefusal) → Determined (why·Told·of answer)
  pub why_of_row : (state : State) (k row : ℕ) → Determined (why·of_row state k row)
  pub checker_finding_from_fault : (fault : Fault) → Determined (checker·Finding·from_fault fault)
  pub checker_finding_from_misshape : (misshape : Misshape) → Determined (checker·Finding·from_misshape misshape)
  pub checker_check : (table trace : List ℕ) → Determined (checker·check table trace)
  pub checker_number : (answer : Result (Unit {0}) Finding) → Determined (checker·number answer)
  pub values_row : (bytes : List ℕ) → Determined (values·row bytes)
  pub values_rows : (bytes : List ℕ) → Determined (values·rows bytes)
  pub values_quanta : (bytes : List ℕ) → Determined (values·quanta bytes)
  pub values_table : (bytes : List ℕ) → Determined (values·table bytes)
  pub values_state : (bytes : List ℕ) → Determined (values·state bytes)
  pub values_put_quanta : (bytes : List ℕ) (quanta : List Quanta) → Determined (values·put_quanta bytes quanta)
  pub values_put_table : (bytes : List ℕ) (table : Table) → Determined (values·put_table bytes table)
  pub values_put_placement : (bytes : List ℕ) (placed : Placement) → Determined (values·put_placement bytes placed)
  pub values_put_state : (bytes : List ℕ) (state : State) → Determined (values·put_state bytes state)
  pub firmware_zb_table_check : (table : List ℕ) → Determined (firmware·zb_table_check table)
  pub firmware_zb_trace_check : (table trace : List ℕ) → Determined (firmware·zb_trace_check table trace)
  pub printer_length : (printed : Result ℕ TooShort) → Determined (printer·length printed)
  pub printer_print : (input out : List ℕ) → Determined {R = Result ℕ TooShort × List ℕ} (λ r. printer·print input out r.0 r.1)
  pub slots_run_zb_slots : (table : List ℕ) (k slots : ℕ) (entry : List ℕ) → Determined {R = ℕ × List ℕ} (λ r. slots_run·zb_slots table k slots entry r.0 r.1)
  pub desk_run_zb_run : (table list entries : List ℕ) → Determined {R = ℕ × List ℕ} (λ r. desk_run·zb_run table list entries r.0 r.1)
  pub desk_run_zb_judge : (table trace place : List ℕ) → Determined {R = ℕ × List ℕ} (λ r. desk_run·zb_judge table trace place r.0 r.1)
