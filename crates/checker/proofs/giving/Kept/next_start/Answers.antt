use mathlib.Core.Path.{◌≡◌, sym, ◌∙◌}
use mathlib.Core.Bool.{true, false}
use native.Mathlib.Omega.{arith}
use borrow.Author.Tests.{eq-eqb, ne_eqb}
use Rattle.pd2.specs.Ready.{is_early_release}
use Rattle.checker.proofs.Kept.{rest_is_small, due_after_start, plain_starts_when_due, plain_starts_before, early_starts_next_job, early_starts_same_job}
use Rattle.checker.proofs.giving.Kept.next_start.Goals as goal

pub returns-then-self-end : goal.returns-then-self-end
returns-then-self-end c =
    let is-early : is_early_release c.args.row ≡ true = eq-eqb _ _ c.if-row-eq1.true in
    λ q kept. sym c.if-self-end.true ∙ early_starts_next_job c.args.row c.requires.can kept is-early c.if-self-end.true

pub returns-then-row-eq1 : goal.returns-then-row-eq1
returns-then-row-eq1 c =
    let is-early : is_early_release c.args.row ≡ true = eq-eqb _ _ c.if-row-eq1.true in
    λ q kept. early_starts_same_job c.args.row c.requires.can kept is-early c.if-self-end.false

pub overflow_add-self : goal.overflow_add-self
overflow_add-self c = omega (arith, rest_is_small c.args.row c.requires.can c.requires.is)

pub returns-then-self-row : goal.returns-then-self-row
returns-then-self-row c =
    let is_plain : is_early_release c.args.row ≡ false = ne_eqb _ _ c.if-row-eq1.false in
    λ q kept. plain_starts_when_due c.args.row c.requires.can kept is_plain c.if-self-row.true

pub overflow_sub-result : goal.overflow_sub-result
overflow_sub-result c = omega (arith, due_after_start c.args.row c.requires.can c.requires.is)

pub returns : goal.returns
returns c =
    let is_plain : is_early_release c.args.row ≡ false = ne_eqb _ _ c.if-row-eq1.false in
    λ q kept. plain_starts_before c.args.row c.requires.can kept is_plain c.if-self-row.false
