use Rattle.std.proofs.lemmas.Result.{err_from_is_err_and}
use Rattle.checker.proofs.Checked.{refusal_is_said, taken_can_be_checked, trace_decides}
use Rattle.checker.proofs.check.Goals as goal

pub returns-in_err-table : goal.returns-in_err-table
returns-in_err-table c =
    let p = err_from_is_err_and c.from_residual.result c.from_residual.ensures.1 in
    rw (p.1, p.2) (refusal_is_said _ _ _ c.in_err-table.ensures)

pub check_trace-requires : goal.check_trace-requires
check_trace-requires c = taken_can_be_checked _ c.args.trace.now c.in_ok-table.ensures

pub returns : goal.returns
returns c = trace_decides _ _ c.in_ok-table.ensures c.check_trace.ensures
