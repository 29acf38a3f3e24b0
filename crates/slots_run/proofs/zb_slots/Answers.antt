use Rattle.std.proofs.Common.{◌≡◌, ap, ◌∙◌, arith}
use Rattle.table.proofs.Zeros.{taken_or_zeros}
use Rattle.table.specs.Reply.{Reading}
use Rattle.dispatcher.specs.State.{fresh_of, time_of}
use Rattle.slots_run.proofs.Slots.{slots_begin, slots_go_on, slots_end}
use Rattle.slots_run.proofs.zb_slots.Goals as goal

pub loop-init : goal.loop-init
loop-init c = slots_begin _ _ _

pub loop-preserved : goal.loop-preserved
loop-preserved c =
    let given = rw c.first-free.ensures at c.slot.ensures in
    slots_go_on _ _ _ c.loop.invariant given.state_value given.buffer_after

pub returns : goal.returns
returns c =
    let taken = taken_or_zeros c.read.result c.unwrap_or_default.ensures ∙ ap (λ (x : Reading). x.table) c.read.ensures in
    let start = c.fresh-state.ensures ∙ ap fresh_of taken in
    let all : c.loop.counter ≡ c.args.slots = omega arith in
    let left = rw start at (slots_end _ _ _ c.loop.invariant all) in
    record { value = c.time.ensures ∙ ap time_of left.state; after = left.bytes }
