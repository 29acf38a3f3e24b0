-- What the lower crates answer about a usable row. Assumes nothing.
use Prim.Native.Nat.{ℕ, ◌≤◌, ◌<◌, min}
use mathlib.Core.Path.{◌≡◌, ◌∙◌}
use mathlib.Core.List.{List}
use mathlib.Core.Bool.{true}
use native.Mathlib.Omega.{arith}
use lib.ListN.{length, get_or, take}
use Rattle.counts.specs.declared.Quanta.{Quanta}
use Rattle.table.specs.declared.Row.{Row}
use Rattle.pd2.specs.Verdict.{answered}
use Rattle.pd2.proofs.Verdicts.{answered_in_reach}
use Rattle.choice.specs.Choice.{favours_marked, chosen}
use Rattle.pd2.proofs.Choice.{row_there}
use Rattle.counts.proofs.Numbers.{number_there}
use Rattle.choice.proofs.Chosen.{chosen_as_pd2}
use Rattle.dispatcher.specs.declared.State.{State}
use Rattle.dispatcher.specs.State.{rows_in, quanta_in, time_of}
use Rattle.dispatcher.specs.Slot.{picks_in}
use Rattle.dispatcher.specs.Favoured.{favoured_marks}
use Rattle.dispatcher.proofs.Favoured.{picks_by_marks}
use Rattle.dispatcher.specs.Usable.{UsableRow, Usable, UsableState}

-- A question about a usable row is answered.
pub can_be_asked : {row : Row} {q t : ℕ} → UsableRow row q t → answered row q t ≡ true
can_be_asked {row} {q} {t} u =
    answered_in_reach row q t (record { cost = u.cost; weight = u.within_period }) (omega (arith, u.quanta, u.time)) (omega (arith, u.time))

-- Row i of usable rows, as the code reads it.
module _ {rows : List Row} {quanta : List Quanta} {n t : ℕ} (u : Usable rows quanta n t) {i : ℕ} (l : i < length (take n rows)) (r : Row) (q : Quanta) where
  there : i < length quanta
  there = omega (arith, u.place.few, u.place.all, u.place.long)

  -- It is usable.
  pub usable_there : UsableRow (get_or rows i r) (get_or quanta i q).0 t
  usable_there = rw (row_there rows n i r l, number_there quanta i q there) (u.each i l)

-- The rows that are chosen of a usable state, by the marks of those that are favoured, are those that PD2 picks.
pub state_chosen_as_pd2 : (s : State) (k : ℕ) → UsableState s → k ≤ 8 → chosen (rows_in s) (quanta_in s) (favours_marked (favoured_marks s)) (time_of s) (min k 8) ≡ picks_in s k
state_chosen_as_pd2 s k u few =
    let all : min k 8 ≡ k = omega arith in
    rw all
    (chosen_as_pd2 (rows_in s) (quanta_in s) (favours_marked (favoured_marks s)) (time_of s) k (λ i l. can_be_asked (u.each i l))
    ∙ picks_by_marks s k (omega (arith, u.place.few, u.place.all)))
