use mathlib.Core.Path.{◌≡◌, sym, ◌∙◌}
use native.Mathlib.Omega.{arith}
use borrow.Author.Rules.{rules}
use lib.ListN.{length}
use Rattle.cores.proofs.Keeping.{keeping_begins, keeps_place, skips_place, keeps_all}
use Rattle.cores.proofs.turns.keep.Goals as goal

pub loop-i-init : goal.loop-i-init
loop-i-init c =
    let long : length c.picked-own.result ≡ 256 = search rules in
    keeping_begins _ _ _ c.told-free long c.picked-own.ensures c.min-count.ensures

-- A place that is kept has a core,
pub overflow_cast-left : goal.overflow_cast-left
overflow_cast-left c =
    let kept = keeps_place c.args.rows.now c.args.free.now c.args.last.now c.told-free c.loop-i.invariant c.loop-i-test.true c.may_stay.ensures.1 (sym c.may_stay.ensures.0 ∙ c.if-may_stay.true) in
    omega (arith, kept.0)

pub bounds-left-core : goal.bounds-left-core
bounds-left-core c =
    (keeps_place c.args.rows.now c.args.free.now c.args.last.now c.told-free c.loop-i.invariant c.loop-i-test.true c.may_stay.ensures.1 (sym c.may_stay.ensures.0 ∙ c.if-may_stay.true)).0

-- which is its row's own from there on.
pub loop-i-preserved-then-may_stay : goal.loop-i-preserved-then-may_stay
loop-i-preserved-then-may_stay c =
    (keeps_place c.args.rows.now c.args.free.now c.args.last.now c.told-free c.loop-i.invariant c.loop-i-test.true c.may_stay.ensures.1 (sym c.may_stay.ensures.0 ∙ c.if-may_stay.true)).1

pub loop-i-preserved : goal.loop-i-preserved
loop-i-preserved c = skips_place _ _ _ c.told-free c.loop-i.invariant c.loop-i-test.true c.may_stay.ensures.1 (sym c.may_stay.ensures.0 ∙ c.if-may_stay.false)

pub returns : goal.returns
returns c = keeps_all _ _ _ c.told-free c.loop-i.invariant c.loop-i-test.false
