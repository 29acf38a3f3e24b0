use Rattle.std.proofs.Common.{◌≡◌, arith, ap, ◌∙◌, length, rules, refl, ◌≤◌}
use lib.Seq.{take_all}
use mathlib.Core.List.{flat_map}
use Rattle.std.proofs.lemmas.List.Edits.{sets}
use Rattle.facts.proofs.Joining.{joined_stored}
use Rattle.table.specs.Causes.{zero_row}
use Rattle.table.specs.Writing.{bytes_of_row}
use Rattle.table.proofs.Spelled.{row_is_nine}
use Rattle.values.proofs.write.rows.Goals as goal

pub loop-i-init : goal.loop-i-init
unfolding flat_map
loop-i-init c = refl

pub loop-i-preserved : goal.loop-i-preserved
loop-i-preserved c =
    let long : length c.args.rows.now ≡ 32 = search rules in
    joined_stored bytes_of_row 9 row_is_nine c.args.rows.now c.loop-i.i zero_row c.args.bytes.now c.args.at (omega (arith, long, c.loop-i-test.true)) c.loop-i.invariant refl c.row.ensures

pub returns : goal.returns
returns c =
    let long : length c.args.rows.now ≡ 32 = search rules in
    let all : length c.args.rows.now ≤ c.loop-i.i = omega (arith, long, c.loop-i-test.false) in
    c.loop-i.invariant ∙ ap (λ items. sets c.args.bytes.now c.args.at (flat_map bytes_of_row items)) (take_all c.loop-i.i c.args.rows.now all)
