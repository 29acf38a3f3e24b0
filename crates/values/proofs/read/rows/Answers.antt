use Rattle.std.proofs.Common.{◌≡◌, arith, ap, ◌∙◌}
use lib.ListN.{set}
use Rattle.facts.specs.Places.{padded}
use Rattle.facts.proofs.Places.{nothing_read, one_more_read}
use Rattle.values.proofs.Reading.{all_are_read}
use Rattle.table.specs.Bytes.{row_in_bytes}
use Rattle.values.proofs.read.rows.Goals as goal

pub loop-i-init : goal.loop-i-init
loop-i-init c = nothing_read (row_in_bytes c.args.bytes.now) c.row-rows.result 32 c.args.at 9

pub loop-i-preserved : goal.loop-i-preserved
loop-i-preserved c =
    let read = padded (row_in_bytes c.args.bytes.now) c.row-rows.result 32 c.args.at 9 c.loop-i.i in
    ap (λ items. set items c.loop-i.i c.row.result) c.loop-i.invariant
    ∙ (ap (set read c.loop-i.i) c.row.ensures ∙ one_more_read (row_in_bytes c.args.bytes.now) c.row-rows.result 32 c.args.at 9 c.loop-i-test.true)

pub returns : goal.returns
returns c =
    let all : c.loop-i.i ≡ 32 = omega (arith, c.loop-i-test.false, c.loop-i.auto.i-end) in
    c.loop-i.invariant ∙ (ap (padded (row_in_bytes c.args.bytes.now) c.row-rows.result 32 c.args.at 9) all ∙ all_are_read (row_in_bytes c.args.bytes.now) c.row-rows.result 32 c.args.at 9)
