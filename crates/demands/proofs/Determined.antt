-- Any two results that a promise allows are equal: by the law that stands beside each. Assumes nothing.
use Prim.Native.Nat.{min}
use lib.ListN.{take}
use mathlib.Core.Path.{sym, ◌∙◌}
use Rattle.facts.proofs.Determined.{by_meaning, by_value, both_by_value}
use Rattle.counts.proofs.Determined.{slot_is_determined, quanta_is_determined, subtask_is_determined}
use Rattle.windows.proofs.Question.{window_is_determined}
use Rattle.windows.proofs.Next.{next_due_is_determined}
use Rattle.table.proofs.Determined as tables
use Rattle.pd2.specs.Ready.{origin_of}
use Rattle.pd2.proofs.Rows.{give_is_determined, lowest_late_is_determined}
use Rattle.trace.proofs.Determined.{write_is_determined, reference_is_determined, shape_is_determined}
use Rattle.summary.proofs.Determined.{question_is_determined}
use Rattle.counts.specs.Numbers.{numbers_of}
use Rattle.choice.specs.Choice.{favours_marked, chosen}
use Rattle.choice.specs.Keys.{key_in}
use Rattle.choice.proofs.Chosen.{picks_are_determined}
use Rattle.choice.proofs.Left.{first_left_is_determined}
use Rattle.dispatcher.proofs.Determined as dispatcher
use Rattle.checker.proofs.Determined.{findings_tell_apart, check_is_determined}
use Rattle.printer.proofs.Buffer.{print_is_determined}
use Rattle.demands.specs.Determined.{EveryPromiseDetermines}

pub every_promise_determines : EveryPromiseDetermines
every_promise_determines =
    record {
      counts_slot_at = λ time. slot_is_determined _;
      counts_slot_time = λ self. by_value;
      counts_slot_later = λ self slots. slot_is_determined _;
      counts_slot_before = λ self. slot_is_determined _;
      counts_slot_since = λ self origin. by_value;
      counts_quanta_of = λ count. quanta_is_determined _;
      counts_quanta_count = λ self. by_value;
      counts_quanta_one_more = λ self. quanta_is_determined _;
      counts_quanta_next_subtask = λ self. subtask_is_determined _;
      counts_subtask_numbered = λ number. subtask_is_determined _;
      counts_subtask_number = λ self. by_value;
      counts_subtask_next = λ self. subtask_is_determined _;
      counts_subtask_quanta_before = λ self. quanta_is_determined _;
      fields_byte = λ s at. by_value;
      fields_half = λ s at. by_value;
      fields_word = λ s at. by_value;
      fields_long = λ s at. by_value;
      fields_put = λ s at width number. both_by_value;
      windows_window = λ e p f i. window_is_determined e p f i.0;
      windows_window_by_walk = λ e p f i. window_is_determined e p f i.0;
      windows_next_due = λ e p origin given. next_due_is_determined e p origin.0 given.0;
      windows_next_start = λ e p origin given. by_value;
      windows_next_job_start = λ e p origin given. by_value;
      windows_next_group_deadline = λ e p origin given. by_value;
      table_fault_number = λ self. by_value;
      table_read = λ bytes. tables.read_is_determined bytes;
      table_fault = λ table. tables.fault_is_determined table;
      table_write = λ table buffer. tables.write_is_determined table buffer;
      pd2_is_yes = λ verdict. by_value;
      pd2_origin = λ row. slot_is_determined (origin_of row);
      pd2_ready = λ row given slot. by_value;
      pd2_late = λ row given time. by_value;
      pd2_within = λ row given time. by_value;
      pd2_give = λ quanta marks. give_is_determined marks quanta;
      pd2_lowest_late = λ rows quanta n time. lowest_late_is_determined rows quanta (min n 32) time.0;
      trace_write = λ part free marks. write_is_determined part free marks;
      trace_record = λ trace at slot. reference_is_determined (record { ref_ptr = at; now = trace }) slot.0;
      trace_begins = λ trace slot. by_value;
      trace_length_inside = λ trace start. by_value;
      trace_shape = λ cores n trace at. shape_is_determined cores n trace at;
      trace_raise = λ trace place counts. by_value;
      summary_quanta_before = λ n trace summary row time. question_is_determined n trace summary row time.0;
      choice_picks = λ rows quanta favoured n time k. picks_are_determined (chosen (take n rows) (numbers_of quanta) (favours_marked favoured) time.0 (min k 8));
      choice_first_left = λ keys n k. first_left_is_determined (key_in keys) (min n 32) (min k 8);
      cores_placement_nobody = by_value;
      cores_placement_is_faulty = λ self cores n. by_value;
      cores_placement_ran = λ self. by_value;
      cores_how_many = λ free a b p q. p.0 ∙ sym q.0;
      cores_names_past = λ free cores. by_value;
      cores_first = λ k. by_value;
      cores_place = λ rows free last. by_value;
      dispatcher_told_of = λ answer. dispatcher.told_is_determined answer;
      dispatcher_state_fresh = λ table. dispatcher.fresh_is_determined table;
      dispatcher_state_is_broken = λ self. by_value;
      dispatcher_state_favoured = λ self. by_value;
      dispatcher_state_slot = λ self free buffer place a b p q.
          dispatcher.slot_is_determined self free buffer place a b (p.0, (p.1, (p.2, p.3))) (q.0, (q.1, (q.2, q.3)));
      dispatcher_state_refusal = λ self free buffer place. dispatcher.refusal_is_determined;
      why_told_of = λ answer. by_value;
      why_of_row = λ state k row. by_value;
      checker_finding_from_fault = λ fault. by_meaning findings_tell_apart;
      checker_finding_from_misshape = λ misshape. by_meaning findings_tell_apart;
      checker_check = λ table trace. check_is_determined table trace;
      checker_number = λ answer. by_value;
      values_row = λ bytes. by_value;
      values_rows = λ bytes. by_value;
      values_quanta = λ bytes. by_value;
      values_table = λ bytes. by_value;
      values_state = λ bytes. by_value;
      values_put_quanta = λ bytes quanta. by_value;
      values_put_table = λ bytes table. by_value;
      values_put_placement = λ bytes placed. by_value;
      values_put_state = λ bytes state. by_value;
      firmware_zb_table_check = λ table. by_value;
      firmware_zb_trace_check = λ table trace. by_value;
      printer_length = λ printed. by_value;
      printer_print = λ input out a b p q. print_is_determined input out a b (p.0, p.1) (q.0, q.1);
      slots_run_zb_slots = λ table k slots entry. both_by_value;
      desk_run_zb_run = λ table list entries. both_by_value;
      desk_run_zb_judge = λ table trace place. both_by_value;
    }
