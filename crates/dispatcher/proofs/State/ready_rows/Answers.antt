use mathlib.Core.Path.{sym, ◌∙◌}
use native.Mathlib.Omega.{arith}
use Rattle.dispatcher.proofs.BrokenBy.{by_fault, by_time, testable, by_rows}
use Rattle.dispatcher.proofs.Judging.{faultless, faulty, so_far, by_last, keys_found}
use Rattle.dispatcher.proofs.State.ready_rows.Goals as goal

pub returns-then-is_some : goal.returns-then-is_some
returns-then-is_some c =
    let s = c.args.self.now in
    sym (by_fault s (faulty s.table c.fault.result c.fault.ensures c.is_some.ensures c.if-is_some.true))

pub returns-then-time-gt-TIME_LIMIT : goal.returns-then-time-gt-TIME_LIMIT
returns-then-time-gt-TIME_LIMIT c =
    let s = c.args.self.now in
    let no_fault = faultless s.table c.fault.result c.fault.ensures c.is_some.ensures c.if-is_some.false in
    sym (by_time s no_fault (omega (arith, c.if-time-gt-TIME_LIMIT.true, c.time.ensures)))

pub look-requires : goal.look-requires
look-requires c =
    let s = c.args.self.now in
    let no_fault = faultless s.table c.fault.result c.fault.ensures c.is_some.ensures c.if-is_some.false in
    let sound = so_far s no_fault c.time.ensures c.if-time-gt-TIME_LIMIT.false c.requires.0 in
    (testable s no_fault sound.arrays sound.in_time, c.requires.1)

pub returns-in_err-found : goal.returns-in_err-found
returns-in_err-found c =
    let s = c.args.self.now in
    let no_fault = faultless s.table c.fault.result c.fault.ensures c.is_some.ensures c.if-is_some.false in
    let sound = so_far s no_fault c.time.ensures c.if-time-gt-TIME_LIMIT.false c.requires.0 in
    rw c.from_residual.ensures (sym (by_rows s no_fault sound.in_time c.in_err-found.ensures))

pub returns-then-is_faulty : goal.returns-then-is_faulty
returns-then-is_faulty c =
    let s = c.args.self.now in
    let no_fault = faultless s.table c.fault.result c.fault.ensures c.is_some.ensures c.if-is_some.false in
    let sound = so_far s no_fault c.time.ensures c.if-time-gt-TIME_LIMIT.false c.requires.0 in
    sym (by_last sound c.in_ok-found.ensures.0 c.is_faulty.ensures) ∙ c.if-is_faulty.true

pub returns : goal.returns
returns c =
    let s = c.args.self.now in
    let no_fault = faultless s.table c.fault.result c.fault.ensures c.is_some.ensures c.if-is_some.false in
    let sound = so_far s no_fault c.time.ensures c.if-time-gt-TIME_LIMIT.false c.requires.0 in
    (sym (by_last sound c.in_ok-found.ensures.0 c.is_faulty.ensures) ∙ c.if-is_faulty.false, λ runs. keys_found sound (c.in_ok-found.ensures.1 runs))
