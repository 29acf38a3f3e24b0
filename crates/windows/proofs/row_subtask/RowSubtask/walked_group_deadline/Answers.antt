use mathlib.Core.Path.{◌≡◌, sym, ◌∙◌}
use mathlib.Core.Logic.{⊎_elim}
use Prim.Native.Nat.{ℕ, ◌+◌, ◌≤◌}
use native.Mathlib.Omega.{arith}
use Rattle.windows.specs.Fits.{Fits}
use Rattle.windows.specs.Next.{reach}
use Rattle.windows.specs.Windows.{bit, window_length}
use Rattle.windows.proofs.Windows.{bit_is_0_or_1, next_start_is_deadline_less_bit}
use Rattle.windows.proofs.Group.{Walking, said_light, said_heavy, walk_begins, walk_is_near, ends_by_bit, ends_by_length, walks_on}
use Rattle.windows.proofs.row_subtask.RowSubtask.walked_group_deadline.Goals as goal
use Rattle.windows.proofs.row_subtask.RowSubtask.walked_group_deadline.Goals.{else-number-via-then-number+else-since-eq3, else-number-via-else-number}

-- what the calls at a j of the walk ask
fits_on_walk : {e p o i j : ℕ} → Fits e p o i → i ≤ reach + 1 → Walking e p o i j → Fits e p o j
fits_on_walk f within walking =
    let near = walk_is_near _ _ _ _ _ f.cost walking in
    record {
      cost = f.cost;
      weight = f.weight;
      period = f.period;
      origin = f.origin;
      first = omega arith;
      last = omega arith;
    }

pub returns-then-is_light : goal.returns-then-is_light
returns-then-is_light c = c.at.ensures ∙ sym (said_light _ _ c.is_light.ensures c.if-is_light.true _ _)

pub loop-self-init : goal.loop-self-init
loop-self-init c = (walk_begins _ _ _ _, c.start-start.ensures)

pub invariant_of-here : goal.invariant_of-here
invariant_of-here c = record { fits = fits_on_walk c.args.self.fits c.requires c.loop-self.invariant.0 }

pub loop-self-smaller : goal.loop-self-smaller
loop-self-smaller c =
    let fits = fits_on_walk c.args.self.fits c.requires c.loop-self.invariant.0 in
    let next_is : c.next-number.result.0 ≡ c.loop-self.number.0 + 1 = omega arith in
    omega (arith, next_is, walk_is_near _ _ _ _ _ fits.cost c.loop-self.invariant.0)

pub loop-self-preserved : goal.loop-self-preserved
unfolding window_length
loop-self-preserved c =
    let fits = fits_on_walk c.args.self.fits c.requires c.loop-self.invariant.0 in
    let no-bit : bit c.args.self.cost c.args.self.period c.loop-self.number.0 ≡ 0 → ⊥ = λ z. c.if-due-eq0.false (c.due-due.ensures.bit ∙ z) in
    let next_is : c.next-number.result.0 ≡ c.loop-self.number.0 + 1 = omega arith in
    let args = c.args.self in
    let next_start = next_start_is_deadline_less_bit args.cost args.period args.origin.0 fits.cost c.loop-self.number.0 in
    let one = bit_is_0_or_1 args.cost args.period c.loop-self.number.0 in
    rw next_is (
      walks_on _ _ _ _ _ fits.cost c.loop-self.invariant.0 no-bit
          (elim c.else-number.branch [
            | else-number-via-then-number+else-since-eq3 w ↦ λ l k. w.if-since-eq3.false (omega arith)
            | else-number-via-else-number w ↦ λ l k. omega arith
          ]),
      ⊎_elim (λ z. absurd (no-bit z)) (λ b. omega arith) one,
    )

pub returns-then-due-eq0 : goal.returns-then-due-eq0
returns-then-due-eq0 c =
    let fits = fits_on_walk c.args.self.fits c.requires c.loop-self.invariant.0 in
    let half = said_heavy _ _ c.is_light.ensures c.if-is_light.false in
    c.due-due.ensures.deadline
    ∙ ends_by_bit _ _ _ _ _ fits.cost c.loop-self.invariant.0 half (sym c.due-due.ensures.bit ∙ c.if-due-eq0.true)

pub returns-then-since-eq3 : goal.returns-then-since-eq3
unfolding window_length
returns-then-since-eq3 c =
    let fits = fits_on_walk c.args.self.fits c.requires c.loop-self.invariant.0 in
    let half = said_heavy _ _ c.is_light.ensures c.if-is_light.false in
    let no-bit : bit c.args.self.cost c.args.self.period c.loop-self.number.0 ≡ 0 → ⊥ = λ z. c.if-due-eq0.false (c.due-due.ensures.bit ∙ z) in
    omega (
      arith,
      ends_by_length _ _ _ _ _ fits.cost c.loop-self.invariant.0 half no-bit (omega arith)
          (omega (arith, c.due-due.ensures.deadline)),
    )
