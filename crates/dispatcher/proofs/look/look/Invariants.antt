use mathlib.Core.Bool.{false}
use lib.ListN.{length}
use Rattle.facts.proofs.Some.{NoneYet}
use Rattle.dispatcher.specs.Broken.{of_row_at}
use Rattle.dispatcher.specs.Usable.{broken_row}
use Rattle.dispatcher.specs.State.{rows_in, quanta_in, time_of}
use Rattle.dispatcher.proofs.Found.{Found}
use Rattle.dispatcher.proofs.look.look.Given as goal

abbrev pub invariant-loop-i : goal.invariant-loop-i
invariant-loop-i l = NoneYet (of_row_at (rows_in l.state) (quanta_in l.state) (broken_row false (time_of l.state))) (length (rows_in l.state)) l.i
    × Found (rows_in l.state) (quanta_in l.state) l.ends (time_of l.state) l.ready l.found l.i
