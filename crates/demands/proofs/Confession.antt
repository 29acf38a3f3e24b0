-- The mistake and its cure, computed from the definitions. Assumes nothing.
use mathlib.Core.Path.{refl}
use Rattle.facts.specs.Rounding.{ceil_div}
use Rattle.facts.specs.First.{at_first}
use Rattle.facts.specs.Counting.{how_many, those}
use Rattle.windows.specs.Windows.{start, deadline, bit, window_length, job_start}
use Rattle.windows.specs.Group.{heavy, stops, stop_time, group_deadline}
use Rattle.pd2.specs.Ready.{ready, late}
use Rattle.pd2.specs.Order.{before}
use Rattle.pd2.specs.Picks.{picked}
use Rattle.pd2.specs.Choice.{given}
use Rattle.pd2.specs.Courses.{quanta_by}
use Rattle.demands.specs.Confession.{Confession}

pub confession : Confession
unfolding start deadline bit window_length job_start ceil_div heavy stops stop_time at_first group_deadline how_many those ready late before picked given quanta_by
confession = record { bit_left_out_row_is_late = refl; by_pd2 = refl }
