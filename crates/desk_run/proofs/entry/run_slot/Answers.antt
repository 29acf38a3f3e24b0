use Rattle.std.proofs.Common.{◌∙◌}
use Rattle.cores.specs.Sets.{first_cores}
use Rattle.dispatcher.specs.Slot.{slot_of}
use Rattle.desk_run.proofs.Run.{entry_is_there}
use Rattle.desk_run.proofs.entry.run_slot.Goals as goal

pub returns-clause-entries_after : goal.returns-clause-entries_after
returns-clause-entries_after c =
    let gives = rw c.first.ensures at c.slot-outcome.ensures in
    entry_is_there (slot_of c.args.state (first_cores c.args.k) c.args.entries.now c.args.at) c.args.at (c.of-told.ensures ∙ gives.answer_value) gives.placed_value gives.buffer_after
    c.put_reply.ensures
