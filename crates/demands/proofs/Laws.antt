-- Our own table, computed from the definitions. Assumes nothing.
use mathlib.Core.Path.{◌≡◌, refl}
use mathlib.Core.List.{List, [], ◌∷◌, ◌++◌, flat_map}
use mathlib.Core.Bool.{true}
use Rattle.facts.specs.Rounding.{ceil_div}
use Rattle.facts.specs.First.{at_first}
use Rattle.facts.specs.Counting.{how_many, those}
use Rattle.facts.specs.Findings.{first_found}
use Rattle.facts.specs.Rising.{rising}
use Rattle.facts.specs.Places.{places, padded}
use Rattle.windows.specs.Windows.{start, deadline, bit, window_length, job_start}
use Rattle.windows.specs.Group.{heavy, stops, stop_time, group_deadline}
use Rattle.windows.specs.Question.{window_reply}
use Rattle.table.specs.Causes.{load}
use Rattle.table.specs.Value.{fault_of}
use Rattle.table.specs.Bytes.{table_number, reading}
use Rattle.pd2.specs.Ready.{ready, late}
use Rattle.pd2.specs.Share.{lower, upper}
use Rattle.pd2.specs.Order.{before}
use Rattle.pd2.specs.Picks.{picked}
use Rattle.pd2.specs.Choice.{given}
use Rattle.trace.specs.Record.{with_front, with_record}
use Rattle.trace.specs.Records.{place_of, names}
use Rattle.trace.specs.Found.{is_found}
use Rattle.cores.specs.Fault.{misremembers}
use Rattle.cores.specs.Cores.{wanted, left_over, in_turn, cores_for}
use Rattle.dispatcher.specs.Broken.{broken}
use Rattle.dispatcher.specs.Slot.{refusal, slot_of}
use Rattle.why.specs.Rules.{rule_for}
use Rattle.why.specs.Lowest.{lowest_picked}
use Rattle.why.specs.Why.{ready_from, reason_of, why_of}
use Rattle.checker.specs.Causes.{bad_rows}
use Rattle.checker.specs.Check.{records_findings, trace_said, check_of}
use Rattle.printer.specs.Input.{listed_or, unfit}
use Rattle.printer.specs.Lines.{digits_by, decimal, spaced}
use Rattle.printer.specs.Text.{slots_text, text_with}
use Rattle.fields.specs.Fields.{bytes_of}
use Rattle.table.specs.Writing.{bytes_of_row, bytes_of_table, write_number, writing, buffer_after}
use Rattle.demands.specs.Bench.{same}
use Rattle.facts.proofs.Tests.{both, hold_both}
use Rattle.demands.specs.Law.{Law, law_holds, all_laws_hold}
use Rattle.demands.specs.LawInputs.{alike_rows, rising_rows}
use Rattle.demands.specs.TableLaws.{table_laws}
use Rattle.demands.specs.ReadingLaws.{reading_order, value_laws}
use Rattle.demands.specs.WriteLaws.{write_laws}
use Rattle.demands.specs.SlotLaws.{slot_laws}
use Rattle.demands.specs.CoreLaws.{core_laws}
use Rattle.demands.specs.WhyLaws.{why_laws}
use Rattle.demands.specs.KindLaws.{kind_laws}
use Rattle.demands.specs.TraceLaws.{part_laws, trace_laws}
use Rattle.demands.specs.PrinterLaws.{idle_slots, printer_laws}
use Rattle.demands.specs.Laws.{window_laws, LawsHold}

-- Laws that hold in two lists hold in both together.
both_hold : (a b : List Law) → all_laws_hold a ≡ true → all_laws_hold b ≡ true → all_laws_hold (a ++ b) ≡ true
unfolding all_laws_hold
both_hold [] b p q = q
both_hold (law ∷ a) b p q = let x = both (law_holds law) (all_laws_hold a) p in hold_both x.0 (both_hold a b x.1 q)

-- Each part is computed.
window_laws_hold : all_laws_hold window_laws ≡ true
unfolding ceil_div at_first how_many those first_found rising places padded start deadline bit window_length job_start heavy stops stop_time group_deadline window_reply load fault_of table_number reading ready late lower upper before picked given with_front with_record place_of names is_found misremembers wanted left_over in_turn cores_for broken refusal slot_of bad_rows records_findings trace_said check_of listed_or unfit digits_by decimal spaced slots_text text_with bytes_of same all_laws_hold alike_rows rising_rows idle_slots
window_laws_hold = refl

table_laws_hold : all_laws_hold table_laws ≡ true
unfolding ceil_div at_first how_many those first_found rising places padded start deadline bit window_length job_start heavy stops stop_time group_deadline window_reply load fault_of table_number reading ready late lower upper before picked given with_front with_record place_of names is_found misremembers wanted left_over in_turn cores_for broken refusal slot_of bad_rows records_findings trace_said check_of listed_or unfit digits_by decimal spaced slots_text text_with bytes_of same all_laws_hold alike_rows rising_rows idle_slots
table_laws_hold = refl

reading_laws_hold : all_laws_hold reading_order ≡ true
unfolding ceil_div at_first how_many those first_found rising places padded start deadline bit window_length job_start heavy stops stop_time group_deadline window_reply load fault_of table_number reading ready late lower upper before picked given with_front with_record place_of names is_found misremembers wanted left_over in_turn cores_for broken refusal slot_of bad_rows records_findings trace_said check_of listed_or unfit digits_by decimal spaced slots_text text_with bytes_of same all_laws_hold alike_rows rising_rows idle_slots
reading_laws_hold = refl

value_laws_hold : all_laws_hold value_laws ≡ true
unfolding ceil_div at_first how_many those first_found rising places padded start deadline bit window_length job_start heavy stops stop_time group_deadline window_reply load fault_of table_number reading ready late lower upper before picked given with_front with_record place_of names is_found misremembers wanted left_over in_turn cores_for broken refusal slot_of bad_rows records_findings trace_said check_of listed_or unfit digits_by decimal spaced slots_text text_with bytes_of same all_laws_hold alike_rows rising_rows idle_slots
value_laws_hold = refl

write_laws_hold : all_laws_hold write_laws ≡ true
unfolding flat_map first_found rising places load bytes_of bytes_of_row bytes_of_table write_number writing buffer_after same all_laws_hold alike_rows
write_laws_hold = refl

slot_laws_hold : all_laws_hold slot_laws ≡ true
unfolding ceil_div at_first how_many those first_found rising places padded start deadline bit window_length job_start heavy stops stop_time group_deadline window_reply load fault_of table_number reading ready late lower upper before picked given with_front with_record place_of names is_found misremembers wanted left_over in_turn cores_for broken refusal slot_of bad_rows records_findings trace_said check_of listed_or unfit digits_by decimal spaced slots_text text_with bytes_of same all_laws_hold alike_rows rising_rows idle_slots
slot_laws_hold = refl

core_laws_hold : all_laws_hold core_laws ≡ true
unfolding ceil_div at_first how_many those first_found rising places padded start deadline bit window_length job_start heavy stops stop_time group_deadline window_reply load fault_of table_number reading ready late lower upper before picked given with_front with_record place_of names is_found misremembers wanted left_over in_turn cores_for broken refusal slot_of bad_rows records_findings trace_said check_of listed_or unfit digits_by decimal spaced slots_text text_with bytes_of same all_laws_hold alike_rows rising_rows idle_slots
core_laws_hold = refl

why_laws_hold : all_laws_hold why_laws ≡ true
unfolding ceil_div at_first how_many those first_found rising start deadline bit window_length job_start heavy stops stop_time group_deadline load fault_of ready lower upper before picked names misremembers broken rule_for lowest_picked ready_from reason_of why_of all_laws_hold
why_laws_hold = refl

kind_laws_hold : all_laws_hold kind_laws ≡ true
unfolding ceil_div at_first how_many those first_found rising places padded start deadline bit window_length job_start heavy stops stop_time group_deadline window_reply load fault_of table_number reading ready late lower upper before picked given with_front with_record place_of names is_found misremembers wanted left_over in_turn cores_for broken refusal slot_of bad_rows records_findings trace_said check_of listed_or unfit digits_by decimal spaced slots_text text_with bytes_of same all_laws_hold alike_rows rising_rows idle_slots rule_for lowest_picked ready_from reason_of why_of
kind_laws_hold = refl

part_laws_hold : all_laws_hold part_laws ≡ true
unfolding ceil_div at_first how_many those first_found rising places padded start deadline bit window_length job_start heavy stops stop_time group_deadline window_reply load fault_of table_number reading ready late lower upper before picked given with_front with_record place_of names is_found misremembers wanted left_over in_turn cores_for broken refusal slot_of bad_rows records_findings trace_said check_of listed_or unfit digits_by decimal spaced slots_text text_with bytes_of same all_laws_hold alike_rows rising_rows idle_slots
part_laws_hold = refl

trace_laws_hold : all_laws_hold trace_laws ≡ true
unfolding ceil_div at_first how_many those first_found rising places padded start deadline bit window_length job_start heavy stops stop_time group_deadline window_reply load fault_of table_number reading ready late lower upper before picked given with_front with_record place_of names is_found misremembers wanted left_over in_turn cores_for broken refusal slot_of bad_rows records_findings trace_said check_of listed_or unfit digits_by decimal spaced slots_text text_with bytes_of same all_laws_hold alike_rows rising_rows idle_slots
trace_laws_hold = refl

printer_laws_hold : all_laws_hold printer_laws ≡ true
unfolding ceil_div at_first how_many those first_found rising places padded start deadline bit window_length job_start heavy stops stop_time group_deadline window_reply load fault_of table_number reading ready late lower upper before picked given with_front with_record place_of names is_found misremembers wanted left_over in_turn cores_for broken refusal slot_of bad_rows records_findings trace_said check_of listed_or unfit digits_by decimal spaced slots_text text_with bytes_of same all_laws_hold alike_rows rising_rows idle_slots
printer_laws_hold = refl

pub laws_hold : LawsHold
laws_hold =
    both_hold window_laws _ window_laws_hold
    (both_hold table_laws _ table_laws_hold
    (both_hold reading_order _ reading_laws_hold
    (both_hold value_laws _ value_laws_hold (both_hold write_laws _ write_laws_hold (both_hold slot_laws _ slot_laws_hold (both_hold core_laws _ core_laws_hold (both_hold why_laws _ why_laws_hold (both_hold kind_laws _ kind_laws_hold (both_hold part_laws _ part_laws_hold (both_hold trace_laws _ trace_laws_hold printer_laws_hold))))))))))
