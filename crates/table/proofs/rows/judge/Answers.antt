use Rattle.std.proofs.Common.{get_or, length, refl, sym, ◌∙◌, arith}
use Rattle.std.proofs.lemmas.Result.{err_from_is_err_and}
use Rattle.std.proofs.lemmas.List.{take_all}
use Rattle.facts.proofs.Loops.{none_passed, all_passed, stops_at_fault, one_more_passed}
use Rattle.table.specs.Causes.{zero_row}
use Rattle.table.proofs.Numbers.{is_fault, none_met, row_says}
use Rattle.table.proofs.Sum.{added_none, added_next, added_all}
use Rattle.table.proofs.rows.judge.Goals as goal

pub loop-row-init : goal.loop-row-init
loop-row-init c = (none_passed _ _ _, added_none _ _ _ (omega arith))

pub returns-in_err-judge : goal.returns-in_err-judge
returns-in_err-judge c =
    let told = c.in_err-judge.ensures in
    let handed = err_from_is_err_and c.from_residual.result c.from_residual.ensures.1 in
    rw (handed.1, handed.2) (told ∙ sym (stops_at_fault _ _ _ c.loop-row.invariant.0 (omega arith) zero_row refl (λ z. is_fault _ (told ∙ z))))

pub loop-row-preserved : goal.loop-row-preserved
loop-row-preserved c =
    let quanta = c.quanta-sum.ensures in
    let row = get_or c.args.rows.now c.loop-row.row-index zero_row in
    let passed = none_met (row_says c.args.cycle c.loop-row.least row) (sym c.in_ok-judge.ensures) in (
      rw c.above-least.ensures (one_more_passed _ _ _ c.loop-row.invariant.0 (omega arith) zero_row refl passed),
      added_next c.loop-row.invariant.1 (omega arith) quanta.1 zero_row quanta.0,
    )

pub returns : goal.returns
returns c =
    let inv = c.loop-row.invariant in
    (sym (all_passed _ _ _ inv.0 (omega arith)), rw (← take_all (length c.args.rows.now) c.args.rows.now (omega arith)) (added_all inv.1 (omega arith)))
