use Rattle.std.proofs.Common.{◌≡◌, arith, ap, ◌∙◌, ◌+◌, ◌*◌}
use lib.ListN.{set}
use Rattle.facts.specs.Places.{padded}
use Rattle.facts.proofs.Places.{nothing_read, one_more_read}
use Rattle.values.proofs.Reading.{all_are_read}
use Rattle.fields.specs.Fields.{byte}
use Rattle.values.proofs.read.eight.Goals as goal

pub loop-i-init : goal.loop-i-init
loop-i-init c = nothing_read (byte c.args.bytes.now) 0 8 c.args.at 1

pub loop-i-preserved : goal.loop-i-preserved
loop-i-preserved c =
    let read = padded (byte c.args.bytes.now) 0 8 c.args.at 1 c.loop-i.i in
    ap (λ items. set items c.loop-i.i c.byte.result) c.loop-i.invariant
    ∙ (ap (set read c.loop-i.i) (c.byte.ensures ∙ ap (byte c.args.bytes.now) {x = c.args.at + c.loop-i.i} {y = c.args.at + 1 * c.loop-i.i} (omega arith)) ∙ one_more_read (byte c.args.bytes.now) 0 8 c.args.at 1 c.loop-i-test.true)

pub returns : goal.returns
returns c =
    let all : c.loop-i.i ≡ 8 = omega (arith, c.loop-i-test.false, c.loop-i.auto.i-end) in
    c.loop-i.invariant ∙ (ap (padded (byte c.args.bytes.now) 0 8 c.args.at 1) all ∙ all_are_read (byte c.args.bytes.now) 0 8 c.args.at 1)
