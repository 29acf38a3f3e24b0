use Rattle.std.proofs.Common.{refl, ap, ◌∙◌, ℕ, List, arith}
use mathlib.Core.List.{flat_map}
use lib.Seq.{sets}
use Rattle.std.proofs.lemmas.List.{take_all}
use Rattle.facts.proofs.Joining.{joined_stored}
use Rattle.fields.specs.Fields.{bytes_of}
use Rattle.fields.proofs.Numbers.{bytes_long}
use Rattle.table.proofs.spelling.put_boards.Goals as goal

pub loop-i-init : goal.loop-i-init
unfolding flat_map
loop-i-init c = refl

pub loop-i-preserved : goal.loop-i-preserved
loop-i-preserved c =
    joined_stored (bytes_of 1) 1 (bytes_long 1) c.args.boards.now c.loop-i.i 0 c.args.buffer.now 6 (omega arith) c.loop-i.invariant (omega arith) c.put.ensures.s_after

pub returns : goal.returns
returns c = c.loop-i.invariant ∙ ap (λ (l : List ℕ). sets c.args.buffer.now 6 (flat_map (bytes_of 1) l)) (take_all c.loop-i.i c.args.boards.now c.loop-i-test.false)
