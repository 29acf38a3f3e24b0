use Rattle.checker.proofs.Given.{giving_begins, next_fits, early_is_lowest, next_can_step, gives_next, all_gave}
use Rattle.checker.proofs.giving.Walk.give.Goals as goal

pub loop-row-init : goal.loop-row-init
loop-row-init c = λ quanta can. giving_begins _ _ _ _ can

pub kept-kept-requires : goal.kept-kept-requires
kept-kept-requires c = next_fits _ _ _ _ c.requires.1 _ c.loop-row-test.true

pub returns-then-time-kept : goal.returns-then-time-kept
returns-then-time-kept c = λ quanta can. early_is_lowest _ _ _ _ can _ c.loop-row-test.true (c.loop-row.invariant quanta can) c.time-time.ensures c.kept-kept.ensures c.if-time-kept.true

pub bounds-table-i : goal.bounds-table-i
bounds-table-i c = next_fits _ _ _ _ c.requires.1 _ c.loop-row-test.true

pub one_more-requires : goal.one_more-requires
one_more-requires c =
    let can = c.requires.1 in
    next_can_step _ _ _ _ can _ c.loop-row-test.true (c.loop-row.invariant _ can) c.time-time.ensures c.kept-kept.ensures c.if-time-kept.false _

pub keep-requires : goal.keep-requires
keep-requires c = next_fits _ _ _ _ c.requires.1 _ c.loop-row-test.true

pub loop-row-preserved : goal.loop-row-preserved
loop-row-preserved c = λ quanta can.
    gives_next _ _ _ _ can _ c.loop-row-test.true (c.loop-row.invariant quanta can) c.time-time.ensures c.kept-kept.ensures c.if-time-kept.false _ c.one_more.ensures c.keep.ensures

pub returns : goal.returns
returns c = λ quanta can. all_gave _ _ _ _ can (c.loop-row.invariant quanta can) c.loop-row-test.false
