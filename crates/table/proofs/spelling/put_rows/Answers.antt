use Rattle.std.proofs.Common.{refl, ap, ◌∙◌, List, arith}
use mathlib.Core.List.{flat_map}
use lib.Seq.{sets}
use Rattle.std.proofs.lemmas.List.{take_all}
use Rattle.facts.proofs.Joining.{joined_stored}
use Rattle.table.specs.declared.Row.{Row}
use Rattle.table.specs.Causes.{zero_row}
use Rattle.table.specs.Writing.{bytes_of_row}
use Rattle.table.proofs.Spelled.{row_is_nine}
use Rattle.table.proofs.spelling.put_rows.Goals as goal

pub loop-i-init : goal.loop-i-init
unfolding flat_map
loop-i-init c = refl

pub loop-i-preserved : goal.loop-i-preserved
loop-i-preserved c =
    joined_stored bytes_of_row 9 row_is_nine c.args.rows.now c.loop-i.i zero_row c.args.buffer.now c.args.at (omega arith) c.loop-i.invariant refl c.put_row.ensures

pub returns : goal.returns
returns c = c.loop-i.invariant ∙ ap (λ (l : List Row). sets c.args.buffer.now c.args.at (flat_map bytes_of_row l)) (take_all c.loop-i.i c.args.rows.now c.loop-i-test.false)
