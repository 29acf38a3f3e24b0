-- What is shut out: each by an example, computed. Assumes nothing.
use Rattle.std.proofs.Common.{Ok}
use Prim.Native.Nat.{ℕ, ◌+◌, ◌-◌, ◌*◌, ◌/◌, ◌<◌}
use mathlib.Core.Path.{◌≡◌, refl, sym, ap, ◌∙◌}
use mathlib.Core.List.{List, [], ◌∷◌, flat_map}
use mathlib.Core.Bool.{Bool, true, false, ◌&&◌, true≢false}
use native.Mathlib.Omega.{arith}
use lib.ListN.{length, get_or, take, replicate}
use Rattle.facts.specs.Rounding.{ceil_div}
use Rattle.facts.specs.First.{at_first}
use Rattle.facts.specs.Counting.{some, how_many, those}
use Rattle.facts.specs.Findings.{first_found}
use Rattle.facts.specs.Rising.{rising}
use Rattle.facts.specs.Places.{places, padded}
use Rattle.facts.specs.Below.{all_below}
use Rattle.fields.specs.Fields.{bytes_of}
use Rattle.counts.specs.declared.Subtask.{Subtask}
use Rattle.windows.specs.Windows.{start, deadline, bit, window_length, job_start}
use Rattle.windows.specs.Group.{heavy, stops, stop_time, group_deadline}
use Rattle.windows.specs.Question.{window_reply}
use Rattle.windows.specs.Formula.{gaps, formula}
use Rattle.table.specs.Causes.{load}
use Rattle.table.specs.Value.{fault_of, rows_of}
use Rattle.table.specs.Bytes.{table_number, table_in, reading}
use Rattle.table.specs.Example.{example}
use Rattle.table.specs.Fits.{rows_fit}
use Rattle.table.specs.Writing.{bytes_of_row, bytes_of_table, write_number, writing, buffer_after}
use Rattle.pd2.specs.Ready.{ready, late}
use Rattle.pd2.specs.Share.{lower, upper}
use Rattle.pd2.specs.Order.{before}
use Rattle.pd2.specs.Picks.{picked}
use Rattle.pd2.specs.Choice.{row_at, given}
use Rattle.trace.specs.Record.{marked, with_front, with_record}
use Rattle.trace.specs.Records.{place_of, rows_at, names}
use Rattle.trace.specs.Said.{bare, named}
use Rattle.trace.proofs.Names.{named_at}
use Rattle.cores.specs.Sets.{first_cores}
use Rattle.cores.specs.Placement.{cores_placed, placement}
use Rattle.dispatcher.specs.declared.State.{State}
use Rattle.dispatcher.specs.State.{rows_in, time_of, fresh_of}
use Rattle.cores.specs.Fault.{misremembers}
use Rattle.cores.specs.Cores.{wanted, left_over, in_turn, cores_for}
use Rattle.dispatcher.specs.Broken.{broken}
use Rattle.dispatcher.specs.Slot.{picks_in, SlotReply, refusal, slot_of}
use Rattle.why.specs.declared.Rule.TheVariants.{GroupDeadline, RowNumber}
use Rattle.why.specs.declared.Reason.TheVariants.{NotReady, PassedOver}
use Rattle.why.specs.Rules.{rule_for}
use Rattle.why.specs.Lowest.{lowest_picked}
use Rattle.why.specs.Reasons.{goes_before}
use Rattle.why.specs.Answer.{rule_place, told_of}
use Rattle.why.specs.Why.{ready_from, reason_of, why_of}
use Rattle.checker.specs.Causes.{bad_rows}
use Rattle.checker.specs.Check.{records_findings, trace_said, check_of}
use Rattle.demands.specs.Bench.{example_trace, three_cores, box}
use Rattle.demands.specs.LawInputs.{state_of}
use Rattle.demands.specs.WholeCore.{one_row, one_camera}
use Rattle.demands.specs.Inputs.{Bytes, CanAskWindow, Possible, CanAsk, CanWrite}
use Rattle.demands.specs.ShutOut.{Dispatcher, IsDispatcher, number_of, rows_written, GivesAsRecorded, ShutOutOf, Explainer, IsExplainer, ShutOutOfWhy, Answerer, IsAnswerer, ShutOutOfWindow, ShutOut, Writer, IsWriter, ShutOutOfWriting}
use Rattle.demands.proofs.Two.{picks_are_pd2s}

-- 01's example: slot 0 and slot 1 of a fresh state with both cores free, each into ten bytes
abbrev blank : List ℕ
blank = replicate 10 0

abbrev both_cores : List Bool
both_cores = first_cores 2

abbrev slot0 : SlotReply
slot0 = slot_of (fresh_of (table_in example)) both_cores blank 0

abbrev slot1 : SlotReply
slot1 = slot_of slot0.state both_cores blank 0

-- slot 1 once more, if in slot 0 rows 0 and 1 had run on cores 1 and 0: row 0 stays on core 1
abbrev after_swap : State
after_swap =
    let s = slot0.state in
    record { table = s.table; time = s.time; stopped = s.stopped; quanta = s.quanta; last = placement (0 ∷ 1 ∷ []) (1 ∷ 0 ∷ []) }

abbrev swapped : SlotReply
swapped = slot_of after_swap both_cores blank 0

-- its trace with rows 0 and 1 again in slot 1: then row 2 has had nothing by time 2
abbrev late_trace : List ℕ
late_trace = 3 ∷ 0 ∷ 0 ∷ 0 ∷ 2 ∷ 2 ∷ 0 ∷ 1 ∷ 2 ∷ 2 ∷ 0 ∷ 1 ∷ 2 ∷ 2 ∷ 1 ∷ 2 ∷ []

record Computed : Type 0 where
  taken : table_number example ≡ 0
  read : (reading example).number ≡ 0
  said0 : slot0.said ≡ bare 0
  rows0 : rows_at slot0.bytes 0 ≡ 0 ∷ 1 ∷ []
  time0 : time_of slot0.state ≡ 1
  again : (slot_of (fresh_of slot0.state.table) both_cores blank 0).bytes ≡ slot0.bytes
  said1 : slot1.said ≡ bare 0
  rows1 : rows_at slot1.bytes 0 ≡ 0 ∷ 2 ∷ []
  cores0 : cores_placed slot0.placed ≡ 0 ∷ 1 ∷ []
  remembered0 : slot0.state.last.count ≡ 2
  cores_swapped : cores_placed swapped.placed ≡ 1 ∷ 0 ∷ []
  said_swapped : swapped.said ≡ bare 0
  can_swapped : Possible after_swap both_cores blank 0
  lowest_two : take (length (rows_at swapped.bytes 0)) (marked both_cores) ≡ 0 ∷ 1 ∷ []
  passes : check_of example example_trace ≡ bare 0
  late : check_of example late_trace ≡ named 45 2 2
  bytes : Bytes example
  trace_bytes : Bytes example_trace
  late_bytes : Bytes late_trace
  can0 : Possible (fresh_of (table_in example)) both_cores blank 0
  can1 : Possible slot0.state both_cores blank 0
  can_again : Possible (fresh_of slot0.state.table) both_cores blank 0

computed : Computed
unfolding all_below rows_fit ceil_div at_first how_many those first_found rising places padded start deadline bit window_length job_start heavy stops stop_time group_deadline load fault_of table_number reading ready late lower upper before picked given with_front with_record place_of names misremembers wanted left_over in_turn cores_for broken refusal slot_of bad_rows records_findings trace_said check_of
computed =
    record {
      taken = refl;
      read = refl;
      said0 = refl;
      rows0 = refl;
      time0 = refl;
      again = refl;
      said1 = refl;
      rows1 = refl;
      cores0 = refl;
      remembered0 = refl;
      cores_swapped = refl;
      said_swapped = refl;
      can_swapped = record { table = record { numbers = refl; boards = refl; rows = refl }; quanta = refl; counts = refl; last_rows = refl; last_cores = refl; remembered = refl; marks = refl; bytes = refl };
      lowest_two = refl;
      passes = refl;
      late = refl;
      bytes = refl;
      trace_bytes = refl;
      late_bytes = refl;
      can0 = record { table = record { numbers = refl; boards = refl; rows = refl }; quanta = refl; counts = refl; last_rows = refl; last_cores = refl; remembered = refl; marks = refl; bytes = refl };
      can1 = record { table = record { numbers = refl; boards = refl; rows = refl }; quanta = refl; counts = refl; last_rows = refl; last_cores = refl; remembered = refl; marks = refl; bytes = refl };
      can_again = record { table = record { numbers = refl; boards = refl; rows = refl }; quanta = refl; counts = refl; last_rows = refl; last_cores = refl; remembered = refl; marks = refl; bytes = refl };
    }

-- "e = 1, p = 1" is taken (02, Six), and e = 2, p = 1 is not.
abbrev above_one : List ℕ
above_one = one_row 2 1

record Cameras : Type 0 where
  bytes : Bytes one_camera
  taken : table_number one_camera ≡ 0
  read : (reading one_camera).number ≡ 0
  has_row : 0 < length (rows_of (table_in one_camera))
  whole : (row_at (rows_of (table_in one_camera)) 0).cost ≡ (row_at (rows_of (table_in one_camera)) 0).period
  above_bytes : Bytes above_one
  above_refused : table_number above_one ≡ 18
  above_read : (reading above_one).number ≡ 18

cameras : Cameras
unfolding all_below bytes_of first_found rising places padded load table_number reading
cameras = record { bytes = refl; taken = refl; read = refl; has_row = omega arith; whole = refl; above_bytes = refl; above_refused = refl; above_read = refl }

-- A dispatcher answers and writes in the example's slots 0 and 1 what the definition says.
module _ (slot : Dispatcher) (is : IsDispatcher slot) where
  abbrev fresh : State
  fresh = fresh_of (table_in example)

  number0 : number_of (slot fresh both_cores blank 0) ≡ 0
  number0 = ap (λ x. x.number) ((is fresh both_cores blank 0 computed.can0).0 ∙ computed.said0)

  rows0 : rows_written (slot fresh both_cores blank 0) 0 ≡ 0 ∷ 1 ∷ []
  rows0 = ap (λ b. rows_at b 0) (is fresh both_cores blank 0 computed.can0).3 ∙ computed.rows0

  number1 : number_of (slot slot0.state both_cores blank 0) ≡ 0
  number1 = ap (λ x. x.number) ((is slot0.state both_cores blank 0 computed.can1).0 ∙ computed.said1)

  rows1 : rows_written (slot slot0.state both_cores blank 0) 0 ≡ 0 ∷ 2 ∷ []
  rows1 = ap (λ b. rows_at b 0) (is slot0.state both_cores blank 0 computed.can1).3 ∙ computed.rows1

  -- slot 0 once more, from a fresh state of the table that slot 0 gave back
  rows_again : rows_written (slot (fresh_of slot0.state.table) both_cores blank 0) 0 ≡ 0 ∷ 1 ∷ []
  rows_again = ap (λ b. rows_at b 0) ((is (fresh_of slot0.state.table) both_cores blank 0 computed.can_again).3 ∙ computed.again) ∙ computed.rows0

  cores0 : cores_placed (slot fresh both_cores blank 0).0.placed ≡ cores_placed slot0.placed
  cores0 = ap cores_placed (is fresh both_cores blank 0 computed.can0).1

  number_swapped : number_of (slot after_swap both_cores blank 0) ≡ 0
  number_swapped = ap (λ x. x.number) ((is after_swap both_cores blank 0 computed.can_swapped).0 ∙ computed.said_swapped)

  cores_swapped : cores_placed (slot after_swap both_cores blank 0).0.placed ≡ 1 ∷ 0 ∷ []
  cores_swapped = ap cores_placed (is after_swap both_cores blank 0 computed.can_swapped).1 ∙ computed.cores_swapped

  -- two rows run then, and the two lowest free cores are 0 and 1
  lowest : take (length (rows_written (slot after_swap both_cores blank 0) 0)) (marked both_cores) ≡ 0 ∷ 1 ∷ []
  lowest = ap (λ b. take (length (rows_at b 0)) (marked both_cores)) (is after_swap both_cores blank 0 computed.can_swapped).3 ∙ computed.lowest_two

  names1 : names (0 ∷ 1 ∷ []) 1 ≡ true
  names1 = named_at (0 ∷ 1 ∷ []) 1 (omega arith)

  -- Lists of rows are told apart by their second row, or 7 where there is none.
  second : List ℕ → ℕ
  second rows = get_or rows 1 7

  gives_as_recorded : GivesAsRecorded slot
  gives_as_recorded s free buffer place can done i =
      let so = is s free buffer place can in
      let picks = picks_are_pd2s s free buffer place (omega (arith, done, ap (λ x. x.number) so.0)) in
      rw (so.2, so.3) (picks.quanta can.quanta i)

  shut_out_of : ShutOutOf slot
  unfolding second
  shut_out_of =
      record {
        refuses_all = λ h. omega (arith, number0, h fresh both_cores blank 0 computed.can0);
        picks_nobody = λ h. let z : ◌≡◌ {A = ℕ} 1 7 = ap second (sym rows0 ∙ h fresh both_cores blank 0 computed.can0 (omega (arith, number0))) in omega arith;
        always_row_0 = λ h. let z : ◌≡◌ {A = ℕ} 1 0 = h fresh both_cores blank 0 computed.can0 (omega (arith, number0)) 1 (ap (λ rows. names rows 1) rows0 ∙ names1) in omega arith;
        changes_nothing = λ h.
            let z : ◌≡◌ {A = ℕ} 1 0 = sym (ap time_of (is fresh both_cores blank 0 computed.can0).2 ∙ computed.time0) ∙ ap time_of (h fresh both_cores blank 0 computed.can0 number0).0 in
            omega arith;
        repeats_slot_0 = λ h. let z : ◌≡◌ {A = ℕ} 2 1 = ap second (sym rows1 ∙ (h slot0.state both_cores blank 0 computed.can1 (omega (arith, number1)) ∙ rows_again)) in omega arith;
        gives_as_recorded = gives_as_recorded;
        places_nobody = λ h.
            let z : ◌≡◌ {A = ℕ} 1 7 = ap second (sym (cores0 ∙ computed.cores0) ∙ h fresh both_cores blank 0 computed.can0 (omega (arith, number0))) in
            omega arith;
        lowest_in_turn = λ h.
            let z : ◌≡◌ {A = ℕ} 0 1 = ap second (sym cores_swapped ∙ (h after_swap both_cores blank 0 computed.can_swapped (omega (arith, number_swapped)) ∙ lowest)) in
            omega arith;
        remembers_nothing = λ h.
            let z : ◌≡◌ {A = ℕ} 2 0 = sym (ap (λ x. x.last.count) (is fresh both_cores blank 0 computed.can0).2 ∙ computed.remembered0) ∙ h fresh both_cores blank 0 computed.can0 (omega (arith, number0)) in
            omega arith;
      }

-- Why rows wait, in 01's example and in a box of three heavy rows.
record WhyComputed : Type 0 where
  can_ask : CanAsk (fresh_of (table_in example)) 2 2
  third : why_of (fresh_of (table_in example)) 2 2 ≡ Ok (PassedOver 1 RowNumber)
  first_picked : get_or (picks_in (fresh_of (table_in example)) 2) 0 0 ≡ 0
  behind_first : some (λ other. names (picks_in (fresh_of (table_in example)) 2) other && goes_before (fresh_of (table_in example)) other 1) (length (rows_in (fresh_of (table_in example)))) ≡ true
  can_ask_heavy : CanAsk (state_of three_cores 0 false []) 1 0
  heavy_first : why_of (state_of three_cores 0 false []) 1 0 ≡ Ok (PassedOver 2 GroupDeadline)
  can_ask_later : CanAsk (state_of (table_in example) 2 false (2 ∷ 1 ∷ 1 ∷ [])) 2 0
  later : why_of (state_of (table_in example) 2 false (2 ∷ 1 ∷ 1 ∷ [])) 2 0 ≡ Ok (NotReady (record { 0 = 3 }))

why_computed : WhyComputed
unfolding all_below rows_fit ceil_div at_first how_many those first_found rising places padded start deadline bit window_length job_start heavy stops stop_time group_deadline load fault_of table_number reading ready late lower upper before picked names misremembers broken rule_for lowest_picked ready_from reason_of why_of
why_computed =
    record {
      can_ask = record { state = record { table = record { numbers = refl; boards = refl; rows = refl }; quanta = refl; counts = refl; last_rows = refl; last_cores = refl; remembered = refl; marks = refl; bytes = refl }; numbers = refl };
      third = refl;
      first_picked = refl;
      behind_first = refl;
      can_ask_heavy = record { state = record { table = record { numbers = refl; boards = refl; rows = refl }; quanta = refl; counts = refl; last_rows = refl; last_cores = refl; remembered = refl; marks = refl; bytes = refl }; numbers = refl };
      heavy_first = refl;
      can_ask_later = record { state = record { table = record { numbers = refl; boards = refl; rows = refl }; quanta = refl; counts = refl; last_rows = refl; last_cores = refl; remembered = refl; marks = refl; bytes = refl }; numbers = refl };
      later = refl;
    }

-- Answers are told apart by the numbers that they say.
shut_out_of_why : (explain : Explainer) → IsExplainer explain → ShutOutOfWhy explain
shut_out_of_why explain is =
    let c = why_computed in
    let third = is (fresh_of (table_in example)) 2 2 c.can_ask ∙ c.third in
    let heavy_first = is (state_of three_cores 0 false []) 1 0 c.can_ask_heavy ∙ c.heavy_first in
    let later = is (state_of (table_in example) 2 false (2 ∷ 1 ∷ 1 ∷ [])) 2 0 c.can_ask_later ∙ c.later in
    record {
      explains_nothing = λ h. h (fresh_of (table_in example)) 2 2 c.can_ask (ap (λ a. (told_of a).number) third);
      says_picked = λ h.
          let z : ◌≡◌ {A = ℕ} 4 1 = sym (ap (λ a. (told_of a).reason) third) ∙ ap (λ a. (told_of a).reason) (h (fresh_of (table_in example)) 2 2 c.can_ask (ap (λ a. (told_of a).number) third)) in
          omega arith;
      names_lowest_number = λ h. let z : ◌≡◌ {A = ℕ} 1 0 = h (fresh_of (table_in example)) 2 2 1 RowNumber c.can_ask third ∙ c.first_picked in omega arith;
      names_the_best = λ h. true≢false (sym c.behind_first ∙ h (fresh_of (table_in example)) 2 2 1 RowNumber c.can_ask third);
      knows_one_rule = λ h. let z : ◌≡◌ {A = ℕ} 3 4 = ap rule_place (h (state_of three_cores 0 false []) 1 0 2 GroupDeadline c.can_ask_heavy heavy_first) in omega arith;
      says_now = λ h. let z : ◌≡◌ {A = ℕ} 3 2 = h (state_of (table_in example) 2 false (2 ∷ 1 ∷ 1 ∷ [])) 2 0 (record { 0 = 3 }) c.can_ask_later later in omega arith;
    }

-- Four windows: "1/2, i = 1 has D 2"; 2/3 with phase 4, i = 1, has 7; 8/11, i = 3, has 8; 1/1, i = 1, has 1.
abbrev nth : ℕ → Subtask
nth i = record { 0 = i }

record Asked : Type 0 where
  can_ask_half : CanAskWindow 1 2 0 (nth 1)
  half : window_reply 1 2 0 1 ≡ record { number = 0; r = 0; d = 2; b = 0; D = 2 }
  can_ask_phase : CanAskWindow 2 3 4 (nth 1)
  phase : window_reply 2 3 4 1 ≡ record { number = 0; r = 4; d = 6; b = 1; D = 7 }
  by_whole_d : formula 2 3 4 6 ≡ 10
  can_ask_own : CanAskWindow 8 11 0 (nth 3)
  own : window_reply 8 11 0 3 ≡ record { number = 0; r = 2; d = 5; b = 1; D = 8 }
  can_ask_whole : CanAskWindow 1 1 0 (nth 1)
  whole : window_reply 1 1 0 1 ≡ record { number = 0; r = 0; d = 1; b = 0; D = 1 }

asked : Asked
unfolding all_below ceil_div at_first start deadline bit window_length heavy stops stop_time group_deadline window_reply gaps formula
asked =
    record {
      can_ask_half = refl;
      half = refl;
      can_ask_phase = refl;
      phase = refl;
      by_whole_d = refl;
      can_ask_own = refl;
      own = refl;
      can_ask_whole = refl;
      whole = refl;
    }

shut_out_of_window : (window : Answerer) → IsAnswerer window → ShutOutOfWindow window
shut_out_of_window window is =
    let half = is 1 2 0 (nth 1) asked.can_ask_half ∙ asked.half in
    let phase = is 2 3 4 (nth 1) asked.can_ask_phase ∙ asked.phase in
    let own = is 8 11 0 (nth 3) asked.can_ask_own ∙ asked.own in
    let whole = is 1 1 0 (nth 1) asked.can_ask_whole ∙ asked.whole in
    record {
      half_is_light = λ h. omega (arith, ap (λ reply. reply.D) half, h 1 0 (nth 1) asked.can_ask_half);
      phase_left_in = λ h.
          let wrong = h 2 3 4 (nth 1) asked.can_ask_phase (omega arith) (omega arith) (ap (λ reply. reply.number) phase) ∙ ap (λ reply. formula 2 3 4 reply.d) phase in
          omega (arith, ap (λ reply. reply.D) phase, wrong, asked.by_whole_d);
      rounds_down = λ h.
          let wrong = h 2 3 4 (nth 1) asked.can_ask_phase (omega arith) (omega arith) (ap (λ reply. reply.number) phase) ∙ ap (λ reply. 4 + (reply.d - 4) * (3 - 2) / 3 * 3 / (3 - 2)) phase in
          omega (arith, ap (λ reply. reply.D) phase, wrong);
      own_window_counts = λ h.
          let long : _ ≡ _ = ap (λ reply. reply.d) own ∙ sym (ap (λ reply. reply.r + 3) own) in
          let wrong = h 8 11 0 (nth 3) asked.can_ask_own (omega arith) (omega arith) (ap (λ reply. reply.number) own) long in
          omega (arith, ap (λ reply. reply.D) own, ap (λ reply. reply.d) own, wrong);
      whole_core_refused = λ h. omega (arith, ap (λ reply. reply.number) whole, h 1 0 (nth 1) asked.can_ask_whole);
      whole_core_is_light = λ h. omega (arith, ap (λ reply. reply.D) whole, h 1 0 (nth 1) asked.can_ask_whole);
    }

-- 01's example is written into 40 bytes and into 36, and not into 35; a value whose cycle is 0 is refused.
abbrev lent : ℕ → List ℕ
lent bytes = replicate bytes 238

record Wrote : Type 0 where
  can_40 : CanWrite (table_in example) (lent 40)
  said_40 : (writing (table_in example) (lent 40)).number ≡ 0
  first_40 : get_or (buffer_after (table_in example) (lent 40)) 0 0 ≡ 1
  last_40 : get_or (buffer_after (table_in example) (lent 40)) 36 1 ≡ 238
  can_36 : CanWrite (table_in example) (lent 36)
  said_36 : (writing (table_in example) (lent 36)).number ≡ 0
  can_35 : CanWrite (table_in example) (lent 35)
  said_35 : writing (table_in example) (lent 35) ≡ record { number = 37; length = 0 }
  can_faulty : CanWrite (box 0 2 []) (lent 40)
  said_faulty : (writing (box 0 2 []) (lent 40)).number ≡ 12

wrote : Wrote
unfolding all_below rows_fit flat_map first_found rising places padded load bytes_of bytes_of_row bytes_of_table write_number writing buffer_after
wrote =
    record {
      can_40 = record { table = record { numbers = refl; boards = refl; rows = refl }; bytes = refl };
      said_40 = refl;
      first_40 = refl;
      last_40 = refl;
      can_36 = record { table = record { numbers = refl; boards = refl; rows = refl }; bytes = refl };
      said_36 = refl;
      can_35 = record { table = record { numbers = refl; boards = refl; rows = refl }; bytes = refl };
      said_35 = refl;
      can_faulty = record { table = record { numbers = refl; boards = refl; rows = refl }; bytes = refl };
      said_faulty = refl;
    }

shut_out_of_writing : (write : Writer) → IsWriter write → ShutOutOfWriting write
unfolding padded places
shut_out_of_writing write is =
    let t = table_in example in
    let is_40 = is t (lent 40) wrote.can_40 in
    let done = ap (λ x. x.number) is_40.0 ∙ wrote.said_40 in
    record {
      writes_no_table = λ h. h t (lent 40) wrote.can_40 done;
      judges_nothing = λ h.
          let said = ap (λ x. x.number) (is (box 0 2 []) (lent 40) wrote.can_faulty).0 ∙ wrote.said_faulty in
          let z : ◌≡◌ {A = ℕ} 0 12 = sym (h (box 0 2 []) (lent 40) wrote.can_faulty (omega arith)) ∙ said in
          omega arith;
      writes_nothing = λ h.
          let z : ◌≡◌ {A = ℕ} 1 238 = sym (ap (λ l. get_or l 0 0) is_40.1 ∙ wrote.first_40) ∙ ap (λ l. get_or l 0 0) (h t (lent 40) wrote.can_40 done) in
          omega arith;
      pads_the_rest = λ h.
          let z : ◌≡◌ {A = ℕ} 238 0 = sym (ap (λ l. get_or l 36 1) is_40.1 ∙ wrote.last_40) ∙ h t (lent 40) wrote.can_40 done 36 (omega arith) (omega arith) in
          omega arith;
      asks_for_more = λ h. h t (lent 36) wrote.can_36 refl (ap (λ x. x.number) (is t (lent 36) wrote.can_36).0 ∙ wrote.said_36);
      says_what_it_would = λ h.
          let said = (is t (lent 35) wrote.can_35).0 ∙ wrote.said_35 in
          let z : ◌≡◌ {A = ℕ} 0 36 = sym (ap (λ x. x.length) said) ∙ h t (lent 35) wrote.can_35 (ap (λ x. x.number) said) in
          omega arith;
    }

-- What the definitions say of the example and of the two traces, said of a number that is equal.
module _ {number : ℕ} where
  takes : number ≡ table_number example → number ≡ 0
  takes e = e ∙ computed.taken

  passes : number ≡ (check_of example example_trace).number → number ≡ 0
  passes e = e ∙ ap (λ x. x.number) computed.passes

  is_late : number ≡ (check_of example late_trace).number → number ≡ 0 → ⊥
  is_late e none = omega (arith, e ∙ ap (λ x. x.number) computed.late, none)

pub shut_out : ShutOut
shut_out =
    let b = computed.bytes in
    let t = computed.trace_bytes in
    let l = computed.late_bytes in
    record {
      reader = λ read is none. none example b (ap (λ r. r.number) (is example b) ∙ computed.read);
      takes_no_whole_core = λ read is none. none one_camera cameras.bytes 0 cameras.has_row cameras.whole (ap (λ r. r.number) (is one_camera cameras.bytes) ∙ cameras.read);
      takes_any_cost = λ read is none. none above_one cameras.above_bytes (ap (λ r. r.number) (is above_one cameras.above_bytes) ∙ cameras.above_read);
      dispatcher = shut_out_of;
      why = shut_out_of_why;
      window = shut_out_of_window;
      writing = shut_out_of_writing;
      always_passes = λ check is always. is_late (ap (λ x. x.number) (is example late_trace b l)) (always example late_trace b l computed.taken);
      never_passes = λ check is never. never example example_trace b t (passes (ap (λ x. x.number) (is example example_trace b t)));
      board_takes_none = λ check is none. none example b (takes (is example b));
      board_takes_no_whole_core = λ check is none. none one_camera cameras.bytes 0 cameras.has_row cameras.whole (is one_camera cameras.bytes ∙ cameras.taken);
      board_takes_any_cost = λ check is none. none above_one cameras.above_bytes (is above_one cameras.above_bytes ∙ cameras.above_refused);
      board_always_passes = λ check is always. is_late (is example late_trace b l) (always example late_trace b l computed.taken);
      board_never_passes = λ check is never. never example example_trace b t (passes (is example example_trace b t));
    }
