use mathlib.Core.Path.{sym}
use native.Mathlib.Omega.{arith}
use Rattle.std.proofs.lemmas.Result.{err_from_is_err_and}
use Rattle.dispatcher.proofs.Refused.{no_room}
use Rattle.dispatcher.proofs.Judging.{found_whole, refused_as_broken, counted}
use Rattle.dispatcher.proofs.State.cause.Goals as goal
use Rattle.dispatcher.proofs.State.cause.Goals.{then-len-place-via-then-len-place, then-len-place-via-else-len-place+then-len-place-2}

pub returns-in_err-found : goal.returns-in_err-found
returns-in_err-found c =
    let a = c.args in
    let p = err_from_is_err_and c.from_residual.result c.from_residual.ensures.1 in
    rw (p.1, p.2) (refused_as_broken a.self.now _ c.ready_rows.result c.ready_rows.ensures c.ok_or.ensures.value c.in_err-found.was a.free a.len a.place)

pub runs_on-requires : goal.runs_on-requires
runs_on-requires c = (found_whole c.args.self.now _ c.ready_rows.result c.ready_rows.ensures c.ok_or.ensures.value c.in_ok-found.was).0

pub returns-in_err-runs_on : goal.returns-in_err-runs_on
returns-in_err-runs_on c =
    let p = err_from_is_err_and c.from_residual-in_err-runs_on.result c.from_residual-in_err-runs_on.ensures.1 in
    rw (p.1, p.2) (λ buffer long. c.in_err-runs_on.ensures.met buffer c.args.place)

pub returns-then-len-place : goal.returns-then-len-place
returns-then-len-place c =
    let a = c.args in
    let found = found_whole a.self.now _ c.ready_rows.result c.ready_rows.ensures c.ok_or.ensures.value c.in_ok-found.was in
    let can = c.in_ok-runs_on.ensures in
    let count = counted a.self.now a.free (found.1 can.runs) c.picked_of-picked.ensures c.how_many.ensures.0 in
    elim c.then-len-place.branch [
      | then-len-place-via-then-len-place w ↦
          λ buffer long. sym (no_room a.self.now a.free buffer a.place found.0 can.runs can.slot_left can.there (omega (arith, w.if-len-place.true)))
      | then-len-place-via-else-len-place+then-len-place-2 w ↦
          λ buffer long. sym (no_room a.self.now a.free buffer a.place found.0 can.runs can.slot_left can.there (omega (arith, w.if-len-place-2.true, w.if-len-place.false)))
    ]

pub returns : goal.returns
returns c =
    let a = c.args in
    let found = found_whole a.self.now _ c.ready_rows.result c.ready_rows.ensures c.ok_or.ensures.value c.in_ok-found.was in
    let can = c.in_ok-runs_on.ensures in
    let count = counted a.self.now a.free (found.1 can.runs) c.picked_of-picked.ensures c.how_many.ensures.0 in (
      record { whole = found.0; runs = can.runs; slot_left = can.slot_left; there = can.there; inside = c.if-len-place.false; room = omega (arith, c.if-len-place-2.false) },
      found.1 can.runs,
    )
