use Rattle.std.proofs.Common.{◌≡◌, arith, ap, ◌∙◌, length, rules, refl, ◌≤◌}
use lib.Seq.{take_all}
use mathlib.Core.List.{flat_map}
use Rattle.std.proofs.lemmas.List.Edits.{sets}
use Rattle.facts.proofs.Joining.{joined_stored}
use Rattle.fields.specs.Fields.{bytes_of}
use Rattle.fields.proofs.Numbers.{bytes_long}
use Rattle.values.proofs.write.eight.Goals as goal

pub loop-i-init : goal.loop-i-init
unfolding flat_map
loop-i-init c = refl

pub loop-i-preserved : goal.loop-i-preserved
loop-i-preserved c =
    let long : length c.args.numbers.now ≡ 8 = search rules in
    joined_stored (bytes_of 1) 1 (bytes_long 1) c.args.numbers.now c.loop-i.i 0 c.args.bytes.now c.args.at (omega (arith, long, c.loop-i-test.true)) c.loop-i.invariant (omega arith) c.put.ensures.s_after

pub returns : goal.returns
returns c =
    let long : length c.args.numbers.now ≡ 8 = search rules in
    let all : length c.args.numbers.now ≤ c.loop-i.i = omega (arith, long, c.loop-i-test.false) in
    c.loop-i.invariant ∙ ap (λ items. sets c.args.bytes.now c.args.at (flat_map (bytes_of 1) items)) (take_all c.loop-i.i c.args.numbers.now all)
