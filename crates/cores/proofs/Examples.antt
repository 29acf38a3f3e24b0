-- The examples, computed from the definitions. Assumes nothing.
use mathlib.Core.Path.{refl}
use Rattle.facts.specs.Counting.{how_many}
use Rattle.facts.specs.First.{at_first}
use Rattle.trace.specs.Records.{names}
use Rattle.cores.specs.Best.{moves}
use Rattle.cores.specs.Cores.{wanted, left_over, in_turn, cores_for}
use Rattle.cores.specs.Examples.{Examples}

-- Each example is what the definitions give.
pub examples : Examples
unfolding how_many at_first names moves wanted left_over in_turn cores_for
examples =
    record {
      new_row_does_not_move = refl;
      moved_to_another = refl;
      staying_goes_first = refl;
      lowest_is_taken = refl;
      moving_leaves_stayers = refl;
    }
