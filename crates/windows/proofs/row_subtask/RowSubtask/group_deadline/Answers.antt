use mathlib.Core.Path.{sym, ◌∙◌}
use native.Mathlib.Omega.{arith}
use Rattle.windows.proofs.Group.{said_light, said_heavy}
use Rattle.windows.proofs.Half.{bit_0_ends_at_once}
use Rattle.windows.proofs.Formula.{rest_product_fits, gaps_product_fits, below_one, formula_is}
use Rattle.windows.proofs.row_subtask.RowSubtask.group_deadline.Goals as goal

pub returns-then-is_light : goal.returns-then-is_light
returns-then-is_light c = c.at.ensures ∙ sym (said_light _ _ c.is_light.ensures c.if-is_light.true _ _)

pub returns-then-due-eq0 : goal.returns-then-due-eq0
returns-then-due-eq0 c =
    let half = said_heavy _ _ c.is_light.ensures c.if-is_light.false in
    c.due-due.ensures.deadline ∙ sym (bit_0_ends_at_once _ _ _ _ c.args.self.fits.cost half (sym c.due-due.ensures.bit ∙ c.if-due-eq0.true))

pub portion-gaps-requires-clause-product : goal.portion-gaps-requires-clause-product
portion-gaps-requires-clause-product c =
    let half = said_heavy _ _ c.is_light.ensures c.if-is_light.false in
    rest_product_fits c.args.self.fits c.requires half (omega arith)

pub portion-requires-clause-product : goal.portion-requires-clause-product
portion-requires-clause-product c =
    let half = said_heavy _ _ c.is_light.ensures c.if-is_light.false in
    gaps_product_fits c.args.self.fits c.requires half (omega arith) c.portion-gaps.ensures

pub portion-requires-clause-some : goal.portion-requires-clause-some
portion-requires-clause-some c = omega (arith, below_one c.args.self.fits (λ z. c.if-due-eq0.false (c.due-due.ensures.bit ∙ z)))

pub returns : goal.returns
returns c =
    let half = said_heavy _ _ c.is_light.ensures c.if-is_light.false in
    let below = below_one c.args.self.fits (λ z. c.if-due-eq0.false (c.due-due.ensures.bit ∙ z)) in
    formula_is c.args.self.fits c.requires half {d = c.since.result} (omega arith) below c.portion-gaps.ensures c.portion.ensures c.later.ensures
