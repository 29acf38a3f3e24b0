-- Half is heavy, and no pick changes. Assumes nothing.
use mathlib.Core.Path.{◌∙◌}
use lib.ListN.{length}
use Rattle.windows.proofs.Half.{moved_at_half}
use Rattle.pd2.proofs.Half.{same_picks, no_pick_changes}
use Rattle.choice.specs.Choice.{says_ready_in}
use Rattle.cores.specs.Sets.{size}
use Rattle.dispatcher.specs.State.{rows_in, quanta_in, time_of}
use Rattle.dispatcher.specs.Slot.{favoured_in}
use Rattle.demands.specs.HalfIsHeavy.{NoSlotPicksOthers, HalfIsHeavy}
use Rattle.demands.proofs.Two.{picks_are_pd2s}

no_slot_picks_others : NoSlotPicksOthers
no_slot_picks_others s k = no_pick_changes.picks (rows_in s) (quanta_in s) (favoured_in s) (time_of s) k

pub half_is_heavy : HalfIsHeavy
half_is_heavy =
    record {
      moved = moved_at_half;
      picks = no_pick_changes;
      slots = no_slot_picks_others;
      records = λ s free buffer place done. (picks_are_pd2s s free buffer place done).rows ∙ no_slot_picks_others s (size free);
      choice = λ rows quanta favours t k. same_picks (says_ready_in rows quanta t) rows quanta favours (length rows) k;
    }
