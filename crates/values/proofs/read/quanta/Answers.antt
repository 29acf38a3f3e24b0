use Rattle.std.proofs.Common.{◌≡◌, arith, ap, ◌∙◌}
use lib.ListN.{set}
use Rattle.facts.specs.Places.{padded}
use Rattle.facts.proofs.Places.{nothing_read, one_more_read}
use Rattle.values.proofs.Reading.{all_are_read}
use Rattle.values.proofs.Reading.{quanta_in}
use Rattle.values.proofs.read.quanta.Goals as goal

pub loop-i-init : goal.loop-i-init
loop-i-init c = nothing_read (quanta_in c.args.bytes.now) c.of-quanta.result 32 c.args.at 8

pub loop-i-preserved : goal.loop-i-preserved
loop-i-preserved c =
    let read = padded (quanta_in c.args.bytes.now) c.of-quanta.result 32 c.args.at 8 c.loop-i.i in
    ap (λ items. set items c.loop-i.i c.of.result) c.loop-i.invariant
    ∙ (ap (set read c.loop-i.i) (λ z. record { 0 = (c.of.ensures ∙ c.long.ensures) z }) ∙ one_more_read (quanta_in c.args.bytes.now) c.of-quanta.result 32 c.args.at 8 c.loop-i-test.true)

pub returns : goal.returns
returns c =
    let all : c.loop-i.i ≡ 32 = omega (arith, c.loop-i-test.false, c.loop-i.auto.i-end) in
    c.loop-i.invariant ∙ (ap (padded (quanta_in c.args.bytes.now) c.of-quanta.result 32 c.args.at 8) all ∙ all_are_read (quanta_in c.args.bytes.now) c.of-quanta.result 32 c.args.at 8)
