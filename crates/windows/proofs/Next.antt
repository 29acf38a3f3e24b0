-- What the answers about a next window mean. Assumes nothing.
use Rattle.std.specs.Prelude.{Option, Some, None}
use mathlib.Core.Path.{◌≡◌, refl, sym}
use mathlib.Core.Bool.{true, false}
use Prim.Native.Nat.{ℕ, ◌+◌}
use borrow.Author.Tests.{lt-ltb, le-leb}
use Rattle.facts.specs.Determined.{Determined}
use Rattle.facts.proofs.Determined.{by_value}
use Rattle.counts.specs.declared.Slot.{Slot}
use Rattle.windows.specs.declared.times.Due.{Due}
use Rattle.windows.specs.Windows.{deadline, bit}
use Rattle.windows.specs.Next.{next_answered, next_due, next}
use Rattle.windows.specs.Fits.{InReach}

-- within reach is answered
in_reach_is_answered : {e p o q : ℕ} → InReach e p o q → next_answered e p o q ≡ true
in_reach_is_answered r =
    simp (lt-ltb _ _ r.cost, le-leb _ _ r.weight, le-leb _ _ r.origin, le-leb _ _ r.quanta)

-- for callers

-- A question within reach is answered, with the time of the next subtask,
pub next_in_reach : (time : ℕ → ℕ → ℕ → ℕ → ℕ) {e p o q : ℕ} → InReach e p o q → next time e p o q ≡ Some (record { 0 = time e p o (q + 1) })
unfolding next
next_in_reach time r = rw (in_reach_is_answered r)

-- or with its deadline and bit.
pub due_in_reach : {e p o q : ℕ} → InReach e p o q → next_due e p o q ≡ Some (record { deadline = record { 0 = deadline e p o (q + 1) }; bit = bit e p (q + 1) })
unfolding next_due
due_in_reach r = rw (in_reach_is_answered r)

-- for the functions

-- What an answered question gives is the answer: a time of the subtask (e', p', o', i) that the code makes of the question,
module _ (e p o q : ℕ) {e' p' o' i : ℕ} (y : true ≡ next_answered e p o q) (as_asked : (e' ≡ e) × (p' ≡ p) × (o' ≡ o) × (i ≡ q + 1)) where
  pub answers : (time : ℕ → ℕ → ℕ → ℕ → ℕ) {s : Slot} → s.0 ≡ time e' p' o' i → next time e p o q ≡ Some s
  unfolding next
  answers time {s} h = let same : time e p o (q + 1) ≡ s.0 = cc in rw (sym y, same) refl

  -- or its deadline and bit.
  pub answers_due : {due : Due} → due.deadline.0 ≡ deadline e' p' o' i → due.bit ≡ bit e' p' i → next_due e p o q ≡ Some due
  unfolding next_due
  answers_due {due} d b =
      let deadline_is : deadline e p o (q + 1) ≡ due.deadline.0 = cc in
      let bit_is : bit e p (q + 1) ≡ due.bit = cc in
      rw (sym y, deadline_is, bit_is) refl

-- A question that is not answered is answered so.
module _ (e p o q : ℕ) (n : false ≡ next_answered e p o q) where
  pub answers_not : (time : ℕ → ℕ → ℕ → ℕ → ℕ) → next time e p o q ≡ None
  unfolding next
  answers_not time = rw (sym n) refl

  pub answers_not_due : next_due e p o q ≡ None
  unfolding next_due
  answers_not_due = rw (sym n) refl

-- The promises of the functions give the answer itself, so they determine it.
pub next_due_is_determined : (e p o q : ℕ) → Determined {R = Option Due} (λ r. r ≡ next_due e p o q)
next_due_is_determined e p o q = by_value

-- For next_start, next_job_start and next_group_deadline.
pub next_is_determined : (time : ℕ → ℕ → ℕ → ℕ → ℕ) (e p o q : ℕ) → Determined {R = Option Slot} (λ r. r ≡ next time e p o q)
next_is_determined time e p o q = by_value
