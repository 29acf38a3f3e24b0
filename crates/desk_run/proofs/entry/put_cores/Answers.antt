use Rattle.std.proofs.Common.{arith, refl, ap, ◌∙◌}
use mathlib.Core.List.{flat_map}
use Rattle.std.proofs.Math.Seq.{take_all}
use Rattle.std.proofs.lemmas.List.Edits.{sets}
use Rattle.facts.proofs.Joining.{joined_stored}
use Rattle.fields.specs.Fields.{bytes_of}
use Rattle.fields.proofs.Numbers.{bytes_long}
use Rattle.desk_run.proofs.entry.put_cores.Goals as goal

pub loop-i-init : goal.loop-i-init
unfolding flat_map
loop-i-init c = refl

pub loop-i-preserved : goal.loop-i-preserved
loop-i-preserved c =
    joined_stored (bytes_of 1) 1 (bytes_long 1) c.args.cores.now c.loop-i.i 0 c.args.entries.now c.args.at (omega arith) c.loop-i.invariant (omega arith) c.put.ensures.s_after

pub returns : goal.returns
returns c =
    let all = take_all c.loop-i.i c.args.cores.now (omega arith) in
    c.loop-i.invariant ∙ ap (λ l. sets c.args.entries.now c.args.at (flat_map (bytes_of 1) l)) all
