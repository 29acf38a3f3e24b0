-- One core held back. Assumes nothing.
use Prim.Native.Nat.{ℕ, zero, suc, ◌+◌, ◌-◌, ◌*◌, ◌≤◌, ◌<◌}
use mathlib.Core.Path.{◌≡◌, refl, sym, ap, ◌∙◌}
use mathlib.Core.List.{List, [], ◌∷◌, ◌++◌, append_assoc}
use mathlib.Core.Bool.{false}
use native.Mathlib.Decide.{dec_lt}
use native.Mathlib.Nat.{mul-le-mul_right}
use native.Mathlib.Omega.{arith}
use borrow.Author.Tests.{le-ltb, le-leb}
use lib.ListN.{length, get_or, take, replicate, length-replicate}
use lib.Seq.{take-append_seam}
use Rattle.facts.specs.Below.{all_below}
use Rattle.facts.specs.Rounding.{ceil_div}
use Rattle.facts.specs.First.{at_first}
use Rattle.facts.specs.Counting.{how_many, those}
use Rattle.facts.specs.Findings.{first_found}
use Rattle.facts.specs.Rising.{rising}
use Rattle.facts.specs.Places.{places, padded}
use Rattle.counts.specs.Limits.{time_limit}
use Rattle.fields.specs.Fields.{bytes_of}
use Rattle.windows.specs.Windows.{start, deadline, bit, window_length, job_start}
use Rattle.windows.specs.Group.{heavy, stops, stop_time, group_deadline}
use Rattle.table.specs.declared.Table.{Table}
use Rattle.table.specs.Causes.{load}
use Rattle.table.specs.Value.{fault_of, rows_of}
use Rattle.table.specs.Bytes.{reading, table_number, table_in}
use Rattle.table.proofs.Taken.{number_read, table_read, taken_value_has_no_fault, sizes_are_within, sum_is_within}
use Rattle.pd2.specs.Ready.{ready, late}
use Rattle.pd2.specs.Share.{lower, upper}
use Rattle.pd2.specs.Choice.{given}
use Rattle.pd2.specs.Order.{before}
use Rattle.pd2.specs.Picks.{picked}
use Rattle.trace.specs.Record.{with_front, with_record}
use Rattle.trace.specs.Records.{names}
use Rattle.cores.specs.Sets.{size, first_cores}
use Rattle.cores.specs.Fault.{misremembers}
use Rattle.cores.specs.Cores.{wanted, left_over, in_turn, cores_for}
use Rattle.cores.proofs.Sets.{first_cores_are_k}
use Rattle.cores.proofs.Past.{there_exactly}
use Rattle.dispatcher.specs.declared.State.{State}
use Rattle.dispatcher.specs.State.{time_of, fresh_of}
use Rattle.dispatcher.specs.Broken.{broken}
use Rattle.dispatcher.specs.Slot.{refusal, slot_of}
use Rattle.dispatcher.specs.Run.{Step}
use Rattle.dispatcher.proofs.Kept.{done_makes_the_step}
use Rattle.printer.specs.Input.{table_bytes, slots_asked, list_length, held_back, listed_or, unfit}
use Rattle.printer.specs.Lines.{header, slot_line, end_line, late_line, digits_by, decimal, spaced}
use Rattle.printer.specs.Text.{record_buffer, asked_of, tank_of, tanks_in, slot_text, slots_text, all_slots, text_with, text_of}
use Rattle.printer.specs.Buffer.{length_of, printed_of, out_after}
use Rattle.printer.specs.FullList.{input_of}
use Rattle.printer.specs.Example.{unlisted_input}
use Rattle.printer.proofs.Input.{is_fit, free_listed, free_past, held_back_of_few, held_back_of_more}
use Rattle.printer.proofs.Buffer.{text_of_taken}
use Rattle.printer.proofs.FullList.{full_list_prints_as_before, written_in_full_prints_as_before}
use Rattle.printer.proofs.Example.{example_is_printed, unlisted_is_printed, unlisted_was_printed}
use Rattle.demands.specs.LawInputs.{front}
use Rattle.demands.specs.Inputs.{CanPrint}
use Rattle.demands.specs.NeverLate.{WithCores}
use Rattle.demands.specs.TooFew.{WithAtMost, late_by, NoPhaseAfter}
use Rattle.demands.specs.HeldBack.{Uses, EndsIn, EndsIfEnoughAreFree, HeldBackCarries, FullBoxIsLate, LateIfTooFewAreFree, Printer, IsPrinter, written_by, UsesPast, PrintersShutOut, HeldBack}
use Rattle.demands.proofs.Three.{done_with_room}
use Rattle.demands.proofs.NeverLate.{never_late}
use Rattle.demands.proofs.TooFew.{given_so_far, late_with_too_few}

uses : (s : List ℕ) (M slot : ℕ) → Uses s M slot
uses s M slot =
    record {
      listed = λ l. sym (free_listed s (held_back M) l);
      past = λ l more. sym (held_back_of_more M more ∙ free_past s (held_back M) l);
      past_of_1 = λ l one. sym (free_past s (held_back M) l) ∙ ap held_back one;
    }

-- It is never more than all cores.
held_back_is_within : (M : ℕ) → held_back M ≤ M
held_back_is_within M = go (dec_lt M 2)
  where
    go : Dec (M < 2) → held_back M ≤ M
    go (yes l) = omega (arith, held_back_of_few M l)
    go (no l) = omega (arith, held_back_of_more M (omega arith))

-- The listing of a table that has its cores free in each of n slots.
module _ (table : Table) (c : ℕ) (sound : fault_of table ≡ 0) (few : load table.cycle (rows_of table) ≤ c * table.cycle) (free : ℕ → ℕ) (n : ℕ) (short : n ≤ time_limit)
    (enough : (slot : ℕ) → slot < n → (c ≤ free slot) × (free slot ≤ table.cores)) where
  -- Each slot is done, and its line is followed by those of the slots after it.
  slots_end : (slot left : ℕ) (s : State) → slot + left ≡ n → time_of s ≡ slot → WithCores table c s → EndsIn (slots_text free slot s left) (end_line n)
  unfolding slots_text
  slots_end slot zero s count time from = ([], ap end_line {x = slot} {y = n} (omega arith))
  slots_end slot (suc left) s count time from =
      let k = free slot in
      let cores = enough slot (omega arith) in
      let most = (sizes_are_within table sound).1.1 in
      let first = first_cores_are_k table.cores k most in
      let has : c ≤ size (first_cores k) = omega (arith, first.size_is (omega (arith, cores.1, most)), cores.0) in
      let own = (there_exactly table.cores (first_cores k)).0 (first.past ∙ le-ltb table.cores k cores.1) in
      let said = (never_late.some_cores table c sound few).always_0 s from (first_cores k) record_buffer 0 has own (omega (arith, time)) (omega (arith, length-replicate {A = ℕ} 10 0)) in
      let number : (asked_of s k).said.number ≡ 0 = ap (λ x. x.number) said in
      let after = ap (λ x. time_of x.state) (done_makes_the_step s (first_cores k) record_buffer 0 (omega (arith, number))) in
      let rest = slots_end (slot + 1) left (asked_of s k).state (omega arith) (after ∙ ap (λ t. t + 1) time) (WithCores.step s (Step.slot (first_cores k)) record_buffer 0 from has) in
      let line = slot_line slot k (tanks_in s k) in (
        line ++ rest.0,
        ap (λ m. slot_text m slot k s (asked_of s k).said (slots_text free (slot + 1) (asked_of s k).state left)) number
            ∙ (ap (λ l. line ++ l) rest.1 ∙ sym (append_assoc line rest.0 (end_line n))),
      )

-- What its slots end in, the whole listing of a table that is taken ends in.
behind_header : (s : List ℕ) → unfit s ≡ false → table_number (table_bytes s) ≡ 0 → {last : List ℕ} → EndsIn (all_slots held_back s (fresh_of (table_in (table_bytes s)))) last → EndsIn (text_of s) last
behind_header s fit taken {last} ends = (
  header ++ ends.0,
  sym (text_of_taken held_back s fit (number_read (table_bytes s) ∙ taken))
      ∙ (ap (λ t. header ++ all_slots held_back s (fresh_of t)) (table_read (table_bytes s) taken)
      ∙ (ap (λ l. header ++ l) ends.1 ∙ sym (append_assoc header ends.0 last))),
)

ends_if_enough_are_free : EndsIfEnoughAreFree
ends_if_enough_are_free s c fit taken enough few =
    let table = table_in (table_bytes s) in
    behind_header s fit taken
    (slots_end table c (taken_value_has_no_fault (table_bytes s) taken) few (listed_or s (held_back table.cores)) (slots_asked s) (omega (arith, (is_fit s fit).slots)) enough 0 (slots_asked s) (fresh_of table) (omega arith) refl WithCores.start)

held_back_carries : HeldBackCarries
held_back_carries s fit taken none few =
    let M = (table_in (table_bytes s)).cores in
    ends_if_enough_are_free s (held_back M) fit taken
    (λ slot l. let k = free_past s (held_back M) {slot = slot} (omega (arith, none)) in (omega (arith, k), omega (arith, k, held_back_is_within M)))
    few

full_box_is_late : FullBoxIsLate
full_box_is_late table F sound several full begun =
    let more : held_back table.cores + 1 ≤ table.cores = omega (arith, held_back_of_more table.cores several) in
    late_with_too_few table (held_back table.cores) F sound (omega (arith, mul-le-mul_right table.cycle more, full, (sizes_are_within table sound).0.0)) begun

-- The listing of a table that has at most c of its cores free in each of n slots, and needs more.
module _ (table : Table) (c F : ℕ) (sound : fault_of table ≡ 0) (full : c * table.cycle < load table.cycle (rows_of table)) (begun : NoPhaseAfter table F) (free : ℕ → ℕ) (n : ℕ) (short : n ≤ time_limit)
    (long : late_by table.cycle c F ≤ n) (most : (slot : ℕ) → slot < n → free slot ≤ c) where
  -- No slot has more cores free than the table has,
  fewer : c < table.cores
  fewer = go (dec_lt c table.cores)
    where
      go : Dec (c < table.cores) → c < table.cores
      go (yes l) = l
      go (no l) = let all : table.cores ≤ c = omega arith in absurd (omega (arith, mul-le-mul_right table.cycle all, full, sum_is_within table sound))

  -- so each slot is done;
  is_done : (slot : ℕ) (s : State) → slot < n → time_of s ≡ slot → WithAtMost table c s → (asked_of s (free slot)).said.number < 2
  is_done slot s l time from =
      let there = (first_cores_are_k table.cores (free slot) (sizes_are_within table sound).1.1).past ∙ le-ltb table.cores (free slot) (omega (arith, most slot l, fewer)) in
      done_with_room table s (first_cores (free slot)) record_buffer 0 sound (given_so_far table c sound s from).known there (omega (arith, time, short)) (omega (arith, length-replicate {A = ℕ} 10 0))

  -- and one of them reports a row late, since nobody comes to the last time without that.
  slots_late : (slot left : ℕ) (s : State) → slot + left ≡ n → time_of s ≡ slot → WithAtMost table c s → (late_at : ℕ) × (tank : ℕ) × EndsIn (slots_text free slot s left) (late_line late_at tank)
  unfolding slots_text
  slots_late slot zero s count time from = absurd (omega (arith, late_with_too_few table c F sound full begun s from))
  slots_late slot (suc left) s count time from =
      go (asked_of s (free slot)).said.number refl
      (λ none.
      let few = (sizes_are_within table sound).1.1 in
      let mine = most slot (omega arith) in
      let after = ap (λ x. time_of x.state) (done_makes_the_step s (first_cores (free slot)) record_buffer 0 (omega (arith, none))) in
      slots_late (slot + 1) left (asked_of s (free slot)).state (omega arith) (after ∙ ap (λ t. t + 1) time)
      (WithAtMost.step s (Step.slot (first_cores (free slot))) record_buffer 0 from (omega (arith, (first_cores_are_k table.cores (free slot) few).size_is (omega (arith, mine, fewer, few)), mine)) (λ one. omega (arith, none, one))))
    where
      line : List ℕ
      line = slot_line slot (free slot) (tanks_in s (free slot))

      go : (number : ℕ) → number ≡ (asked_of s (free slot)).said.number →
          ((asked_of s (free slot)).said.number ≡ 0 → (late_at : ℕ) × (tank : ℕ) × EndsIn (slots_text free (slot + 1) (asked_of s (free slot)).state left) (late_line late_at tank)) →
          (late_at : ℕ) × (tank : ℕ) × EndsIn (slot_text number slot (free slot) s (asked_of s (free slot)).said (slots_text free (slot + 1) (asked_of s (free slot)).state left)) (late_line late_at tank)
      go zero e rest =
          let later = rest (sym e) in
          (later.0, later.1, (line ++ later.2.0, ap (λ l. line ++ l) later.2.1 ∙ sym (append_assoc line later.2.0 (late_line later.0 later.1))))
      go (suc zero) e rest = ((asked_of s (free slot)).said.time, tank_of s (asked_of s (free slot)).said.row, (line, refl))
      go (suc (suc number)) e rest = absurd (omega (arith, e, is_done slot s (omega arith) time from))

late_if_too_few_are_free : LateIfTooFewAreFree
late_if_too_few_are_free s c F fit taken most full begun long =
    let table = table_in (table_bytes s) in
    let rest = slots_late table c F (taken_value_has_no_fault (table_bytes s) taken) full begun (listed_or s (held_back table.cores)) (slots_asked s) (omega (arith, (is_fit s fit).slots)) long most 0 (slots_asked s) (fresh_of table) (omega arith) refl WithAtMost.start in
    (rest.0, rest.1, behind_header s fit taken rest.2)

-- Inputs on which the wrong printers differ: one slot of no rows, on one core and on eight; and a buffer.
abbrev blank : List ℕ
blank = replicate 64 0

abbrev idle_on : List ℕ → List ℕ
idle_on boards = input_of (front 1 boards ++ (0 ∷ [])) 1 []

abbrev on_one : List ℕ
on_one = idle_on (0 ∷ [])

abbrev on_eight : List ℕ
on_eight = idle_on (0 ∷ 1 ∷ 2 ∷ 3 ∷ 4 ∷ 5 ∷ 6 ∷ 7 ∷ [])

-- The k of slot 0 stands behind the header of 16 bytes and behind `0 `. '0' is 48.
abbrev k_shown : List ℕ → ℕ
k_shown text = get_or text 18 0

record Computed : Type 0 where
  unlisted_can : CanPrint unlisted_input blank
  unlisted_short : list_length unlisted_input < slots_asked unlisted_input
  one_can : CanPrint on_one blank
  one_long : length (text_of on_one) ≡ 26
  one_k : k_shown (text_of on_one) ≡ 49
  none_long : length (text_with (λ M. M - 1) on_one) ≡ 26
  none_k : k_shown (text_with (λ M. M - 1) on_one) ≡ 48
  eight_can : CanPrint on_eight blank
  eight_long : length (text_of on_eight) ≡ 26
  eight_k : k_shown (text_of on_eight) ≡ 55
  single_long : length (text_with (λ M. 1) on_eight) ≡ 26
  single_k : k_shown (text_with (λ M. 1) on_eight) ≡ 49

computed : Computed
unfolding all_below ceil_div at_first how_many those first_found rising places padded start deadline bit window_length job_start heavy stops stop_time group_deadline load fault_of table_number reading ready late lower upper before picked given with_front with_record names misremembers wanted left_over in_turn cores_for broken refusal slot_of listed_or unfit digits_by decimal spaced slots_text text_with bytes_of
computed =
    record {
      unlisted_can = record { read = refl; written = refl };
      unlisted_short = omega arith;
      one_can = record { read = refl; written = refl };
      one_long = refl;
      one_k = refl;
      none_long = refl;
      none_k = refl;
      eight_can = record { read = refl; written = refl };
      eight_long = refl;
      eight_k = refl;
      single_long = refl;
      single_k = refl;
    }

module _ (print : Printer) (is : IsPrinter print) where
  -- A printer writes the text where there is room for it,
  has_written : (input out : List ℕ) → CanPrint input out → length (text_of input) ≤ length out → written_by (print input out) ≡ text_of input
  unfolding printed_of out_after
  has_written input out can room =
      let promise = is input out can in
      ap (λ p. take (length_of p) (print input out).1) promise.0
      ∙ (ap (take (length_of (printed_of input out))) promise.1 ∙ rw (le-leb (length (text_of input)) (length out) room) (take-append_seam (text_of input) _))

  -- so one whose slots past the list use `past` would have to write the same text.
  one_text : (past : ℕ → ℕ) (input : List ℕ) → UsesPast past print → CanPrint input blank → length (text_of input) ≤ 64 → length (text_with past input) ≤ 64 → text_of input ≡ text_with past input
  one_text past input uses_past can room room_past = sym (has_written input blank can room) ∙ uses_past input blank can room_past

printers_shut_out : PrintersShutOut
unfolding spaced
printers_shut_out =
    record {
      all_cores_past_the_list = λ print is wrong.
          let same = one_text print is (λ M. M) unlisted_input wrong computed.unlisted_can (omega (arith, ap length unlisted_is_printed)) (omega (arith, ap length unlisted_was_printed)) in
          omega (arith, ap k_shown (sym unlisted_is_printed ∙ (same ∙ unlisted_was_printed)));
      no_core_of_one = λ print is wrong.
          let same = one_text print is (λ M. M - 1) on_one wrong computed.one_can (omega (arith, computed.one_long)) (omega (arith, computed.none_long)) in
          omega (arith, ap k_shown same, computed.one_k, computed.none_k);
      one_core_for_all = λ print is wrong.
          let same = one_text print is (λ M. 1) on_eight wrong computed.eight_can (omega (arith, computed.eight_long)) (omega (arith, computed.single_long)) in
          omega (arith, ap k_shown same, computed.eight_k, computed.single_k);
      needs_full_list = λ print is wrong.
          let room : length (text_of unlisted_input) ≤ 64 = omega (arith, ap length unlisted_is_printed) in
          let same = sym (has_written print is unlisted_input blank computed.unlisted_can room) ∙ wrong unlisted_input blank computed.unlisted_can computed.unlisted_short room in
          omega (arith, ap (λ text. get_or text 0 0) (sym unlisted_is_printed ∙ same));
    }

pub one_core_held_back : HeldBack
one_core_held_back =
    record {
      uses = uses;
      full_list = full_list_prints_as_before;
      written_in_full = written_in_full_prints_as_before;
      listing = example_is_printed;
      unlisted = unlisted_is_printed;
      unlisted_before = unlisted_was_printed;
      ends = ends_if_enough_are_free;
      carries = held_back_carries;
      late_with_too_few = late_with_too_few;
      full_box_late = full_box_is_late;
      late = late_if_too_few_are_free;
      shut_out = printers_shut_out;
    }
