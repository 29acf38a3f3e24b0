-- The bench values, computed from the definitions. Assumes nothing.
use mathlib.Core.Path.{refl}
use Rattle.facts.specs.Rounding.{ceil_div}
use Rattle.facts.specs.First.{at_first}
use Rattle.facts.specs.Counting.{how_many, those}
use Rattle.facts.specs.Findings.{first_found}
use Rattle.facts.specs.Rising.{rising}
use Rattle.facts.specs.Places.{places, padded}
use Rattle.windows.specs.Windows.{start, deadline, bit, window_length, job_start}
use Rattle.windows.specs.Group.{heavy, stops, stop_time, group_deadline}
use Rattle.windows.specs.Question.{window_reply}
use Rattle.table.specs.Causes.{load}
use Rattle.table.specs.Value.{fault_of}
use Rattle.table.specs.Bytes.{table_number}
use Rattle.pd2.specs.Ready.{ready, late}
use Rattle.pd2.specs.Share.{lower, upper}
use Rattle.pd2.specs.Order.{before}
use Rattle.pd2.specs.Picks.{picked}
use Rattle.pd2.specs.Choice.{given}
use Rattle.trace.specs.Record.{with_front, with_record}
use Rattle.trace.specs.Records.{place_of, names}
use Rattle.cores.specs.Fault.{misremembers}
use Rattle.cores.specs.Cores.{wanted, left_over, in_turn, cores_for}
use Rattle.dispatcher.specs.Broken.{broken}
use Rattle.dispatcher.specs.Slot.{refusal, slot_of}
use Rattle.dispatcher.specs.Run.{run}
use Rattle.checker.specs.Causes.{bad_rows}
use Rattle.checker.specs.Check.{records_findings, trace_said, check_of}
use Rattle.fields.specs.Fields.{bytes_of}
use Rattle.demands.specs.Bench.{same, all_hold, BenchHolds}

pub bench_holds : BenchHolds
unfolding ceil_div at_first how_many those first_found rising places padded start deadline bit window_length job_start heavy stops stop_time group_deadline window_reply load fault_of table_number ready late lower upper before picked given with_front with_record place_of names misremembers wanted left_over in_turn cores_for broken refusal slot_of run bad_rows records_findings trace_said check_of bytes_of same all_hold
bench_holds = refl
