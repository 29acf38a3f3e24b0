use Rattle.std.proofs.Common.{◌≡◌, arith, ap, ◌∙◌, length, rules, refl, ◌≤◌, ◌+◌, ◌*◌}
use lib.Seq.{take_all}
use mathlib.Core.List.{flat_map}
use Rattle.std.proofs.lemmas.List.Edits.{sets}
use Rattle.facts.proofs.Joining.{joined_stored}
use Rattle.fields.specs.Fields.{bytes_of}
use Rattle.fields.proofs.Numbers.{bytes_long}
use Rattle.values.proofs.Reading.{none}
use Rattle.values.proofs.write.quanta.Goals as goal

pub loop-i-init : goal.loop-i-init
unfolding flat_map
loop-i-init c = refl

pub loop-i-preserved : goal.loop-i-preserved
loop-i-preserved c =
    let long : length c.args.quanta.now ≡ 32 = search rules in
    joined_stored (λ quanta. bytes_of 8 quanta.0) 8 (λ quanta. bytes_long 8 quanta.0) c.args.quanta.now c.loop-i.i none c.args.bytes.now c.args.at (omega (arith, long, c.loop-i-test.true)) c.loop-i.invariant refl (c.put.ensures.s_after ∙ ap (λ n. sets c.loop-i.bytes (c.args.at + 8 * c.loop-i.i) (bytes_of 8 n)) c.count.ensures)

pub returns : goal.returns
returns c =
    let long : length c.args.quanta.now ≡ 32 = search rules in
    let all : length c.args.quanta.now ≤ c.loop-i.i = omega (arith, long, c.loop-i-test.false) in
    c.loop-i.invariant ∙ ap (λ items. sets c.args.bytes.now c.args.at (flat_map (λ quanta. bytes_of 8 quanta.0) items)) (take_all c.loop-i.i c.args.quanta.now all)
