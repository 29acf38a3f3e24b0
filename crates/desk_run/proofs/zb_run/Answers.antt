use Rattle.std.proofs.Common.{arith, ap, ◌∙◌, ◌<◌}
use Rattle.table.specs.Reply.{Reading}
use Rattle.table.proofs.Zeros.{taken_or_zeros}
use Rattle.dispatcher.specs.State.{fresh_of, time_of}
use Rattle.desk_run.specs.Run.{slots_run}
use Rattle.desk_run.proofs.Run.{run_begins, run_goes_on, run_ends}
use Rattle.desk_run.proofs.zb_run.Goals as goal

pub loop-done-init : goal.loop-done-init
loop-done-init c = run_begins _ _ _

pub loop-done-preserved : goal.loop-done-preserved
loop-done-preserved c =
    let is-asked-for : c.loop-done.done < slots_run c.args.list.now c.args.entries.now = omega arith in
    run_goes_on _ _ _ c.loop-done.invariant is-asked-for c.run_slot-state.ensures.value c.run_slot-state.ensures.entries_after c.run_slot-state.auto.entries

pub returns : goal.returns
returns c =
    let taken = taken_or_zeros c.read.result c.unwrap_or_default.ensures ∙ ap (λ (x : Reading). x.table) c.read.ensures in
    let start = c.fresh-state.ensures ∙ ap fresh_of taken in
    let left = rw start at (run_ends _ _ _ c.loop-done.invariant (omega arith)) in
    record { value = c.time.ensures ∙ ap time_of left.0; entries_after = left.1 }
