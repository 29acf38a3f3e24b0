-- The reason that is computed, case by case. Assumes nothing.
use Prim.Native.Nat.{ℕ}
use mathlib.Core.Path.{◌≡◌}
use mathlib.Core.Bool.{true, false}
use borrow.Author.Tests.{eq-eqb, ne_eqb}
use Rattle.trace.specs.Records.{names}
use Rattle.dispatcher.specs.declared.State.{State}
use Rattle.dispatcher.specs.State.{time_of}
use Rattle.dispatcher.specs.Slot.{picks_in}
use Rattle.why.specs.declared.Reason.TheVariants.{Picked, NotReady, NoCoreFree, PassedOver}
use Rattle.why.specs.Rules.{rule_for}
use Rattle.why.specs.Reasons.{is_ready, rank_in}
use Rattle.why.specs.Why.{ready_from_in, lowest_in, reason_of}

module _ (s : State) (k row : ℕ) where
  pub when_named : names (picks_in s k) row ≡ true → reason_of s k row ≡ Picked
  unfolding reason_of
  when_named e = rw e

  module _ (unnamed : names (picks_in s k) row ≡ false) where
    pub when_unready : is_ready s row (time_of s) ≡ false → reason_of s k row ≡ NotReady (record { 0 = ready_from_in s row })
    unfolding reason_of
    when_unready f = rw (unnamed, f)

    pub when_no_core : is_ready s row (time_of s) ≡ true → k ≡ 0 → reason_of s k row ≡ NoCoreFree
    unfolding reason_of
    when_no_core f z = rw (unnamed, f, eq-eqb k 0 z)

    pub when_passed_over : is_ready s row (time_of s) ≡ true → (k ≡ 0 → ⊥) → reason_of s k row ≡ PassedOver (lowest_in s k) (rule_for (rank_in s (lowest_in s k)) (rank_in s row))
    unfolding reason_of
    when_passed_over f z = rw (unnamed, f, ne_eqb k 0 z)
