use Rattle.slots_run.proofs.Slots.{SlotsSoFar}
use Rattle.slots_run.proofs.zb_slots.Given as goal

abbrev pub invariant-loop : goal.invariant-loop
invariant-loop l = SlotsSoFar l.initial.state l.k l.fn.entry l.state l.entry l.counter
