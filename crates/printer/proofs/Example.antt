-- 01's example, computed from the definitions. Assumes nothing.
use mathlib.Core.Path.{◌≡◌, refl}
use Rattle.facts.specs.Rounding.{ceil_div}
use Rattle.facts.specs.First.{at_first}
use Rattle.facts.specs.Counting.{how_many, those}
use Rattle.facts.specs.Findings.{first_found}
use Rattle.facts.specs.Rising.{rising}
use Rattle.facts.specs.Places.{places, padded}
use Rattle.windows.specs.Windows.{start, deadline, bit, window_length, job_start}
use Rattle.windows.specs.Group.{heavy, stops, stop_time, group_deadline}
use Rattle.table.specs.Causes.{load}
use Rattle.table.specs.Value.{fault_of}
use Rattle.table.specs.Bytes.{table_number, reading}
use Rattle.pd2.specs.Ready.{ready, late}
use Rattle.pd2.specs.Share.{lower, upper}
use Rattle.pd2.specs.Order.{before}
use Rattle.pd2.specs.Picks.{picked}
use Rattle.pd2.specs.Choice.{given}
use Rattle.trace.specs.Record.{with_front, with_record}
use Rattle.trace.specs.Records.{names}
use Rattle.cores.specs.Fault.{misremembers}
use Rattle.cores.specs.Cores.{wanted, left_over, in_turn, cores_for}
use Rattle.dispatcher.specs.Broken.{broken}
use Rattle.dispatcher.specs.Slot.{refusal, slot_of}
use Rattle.printer.specs.Input.{listed_or, unfit}
use Rattle.printer.specs.Lines.{digits_by, decimal, spaced}
use Rattle.printer.specs.Text.{slots_text, text_with, text_of}
use Rattle.printer.specs.FullList.{text_before}
use Rattle.printer.specs.Example.{ExampleIsPrinted, example_text, unlisted_input, unlisted_text}

pub example_is_printed : ExampleIsPrinted
unfolding start deadline bit window_length job_start ceil_div heavy stops stop_time at_first group_deadline how_many those first_found rising places padded load fault_of table_number reading ready late lower upper before picked given with_front with_record names misremembers wanted left_over in_turn cores_for broken refusal slot_of listed_or unfit digits_by decimal spaced slots_text text_with
example_is_printed = refl

pub unlisted_is_printed : text_of unlisted_input ≡ unlisted_text
unfolding start deadline bit window_length job_start ceil_div heavy stops stop_time at_first group_deadline how_many those first_found rising places padded load fault_of table_number reading ready late lower upper before picked given with_front with_record names misremembers wanted left_over in_turn cores_for broken refusal slot_of listed_or unfit digits_by decimal spaced slots_text text_with
unlisted_is_printed = refl

pub unlisted_was_printed : text_before unlisted_input ≡ example_text
unfolding start deadline bit window_length job_start ceil_div heavy stops stop_time at_first group_deadline how_many those first_found rising places padded load fault_of table_number reading ready late lower upper before picked given with_front with_record names misremembers wanted left_over in_turn cores_for broken refusal slot_of listed_or unfit digits_by decimal spaced slots_text text_with
unlisted_was_printed = refl
