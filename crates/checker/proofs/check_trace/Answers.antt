use native.Mathlib.Omega.{arith}
use borrow.Author.Rules.{rules}
use Rattle.checker.specs.Walking.{Walked}
use Rattle.checker.proofs.Traced.{slot_count_is_cut, is_too_long, check_begins, record_can_be_judged, error_says, check_goes_on, bytes_are_left, trace_passes}
use Rattle.checker.proofs.check_trace.Goals as goal

pub returns-then-trace-lt4 : goal.returns-then-trace-lt4
returns-then-trace-lt4 c = slot_count_is_cut _ _ c.if-trace-lt4.true

pub returns-then-slots-gt-SLOT_LIMIT : goal.returns-then-slots-gt-SLOT_LIMIT
returns-then-slots-gt-SLOT_LIMIT c = is_too_long _ _ c.if-trace-lt4.false (omega (arith, c.if-slots-gt-SLOT_LIMIT.true, c.word-slots.ensures))

pub loop-slot-init : goal.loop-slot-init
loop-slot-init c =
    let come = check_begins _ _ c.if-trace-lt4.false c.word-slots.ensures c.if-slots-gt-SLOT_LIMIT.false c.begin-walk.ensures in
    record { come = come; left = bytes_are_left _ _ come; passes = trace_passes _ _ come }

pub judge-requires : goal.judge-requires
judge-requires c = record_can_be_judged _ _ c.loop-slot.invariant.come c.loop-slot-test.true c.requires c.at.ensures

pub returns-in_err-at : goal.returns-in_err-at
returns-in_err-at c =
    error_says _ _ c.loop-slot.invariant.come c.loop-slot-test.true c.at.ensures c.from_residual.result c.in_err-at.field-0.0 c.from_residual.ensures.1 (search rules)

pub loop-slot-preserved : goal.loop-slot-preserved
loop-slot-preserved c =
    let walked : Walked c.args.table.now c.args.trace.now c.at.result.0 c.judge.new.walk c.in_ok-at.at = search rules in
    let come = check_goes_on _ _ c.loop-slot.invariant.come c.loop-slot-test.true c.at.ensures walked in
    record { come = come; left = bytes_are_left _ _ come; passes = trace_passes _ _ come }
