-- The laws of ready and late. Assumes nothing.
use Prim.Native.Nat.{ℕ, ◌+◌, ◌≤◌, ◌<◌}
use mathlib.Core.Path.{◌≡◌, refl, sym, ◌∙◌}
use mathlib.Core.Bool.{Bool, true, false, cond}
use native.Mathlib.Omega.{arith}
use borrow.Author.Tests.{le-leb, lt-leb, leb-true, leb-false}
use lib.Dec.{leb}
use Rattle.windows.specs.Windows.{start, deadline, job_start}
use Rattle.windows.proofs.Windows.{window_has_a_slot, deadline_rises, job_starts_first, deadline_is_within_job}
use Rattle.table.specs.declared.Row.{Row}
use Rattle.pd2.specs.Ready.{origin_of, is_early_release, ready_early_release, ready_plain, ready, late}

-- for callers

module _ (row : Row) (q t : ℕ) where
  -- A row is ready from the start of its next window on, or of the job that holds it if it is early release,
  pub ready_from_start :
      ready row q t
      ≡ leb (cond (is_early_release row) (job_start row.cost row.period (origin_of row) (q + 1)) (start row.cost row.period (origin_of row) (q + 1))) t
  unfolding ready
  ready_from_start = go (is_early_release row)
    where
      go : (is_early : Bool) →
          cond is_early (ready_early_release row q t) (ready_plain row q t)
          ≡ leb (cond is_early (job_start row.cost row.period (origin_of row) (q + 1)) (start row.cost row.period (origin_of row) (q + 1))) t
      go true = refl
      go false = refl

  -- so it is ready where the window has started, since a job starts no later than its windows.
  pub started_is_ready : 0 < row.cost → start row.cost row.period (origin_of row) (q + 1) ≤ t → ready row q t ≡ true
  started_is_ready he l =
      ready_from_start ∙ le-leb _ t (go (is_early_release row))
    where
      go : (is_early : Bool) → cond is_early (job_start row.cost row.period (origin_of row) (q + 1)) (start row.cost row.period (origin_of row) (q + 1)) ≤ t
      go true = omega (arith, job_starts_first row.cost row.period (origin_of row) he (q + 1))
      go false = l

  -- A row is late from its next deadline on,
  pub late_from_deadline : late row q t ≡ leb (deadline row.cost row.period (origin_of row) (q + 1)) t
  unfolding late
  late_from_deadline = refl

  -- and not before it.
  pub not_late_before_deadline : t < deadline row.cost row.period (origin_of row) (q + 1) → late row q t ≡ false
  not_late_before_deadline l = late_from_deadline ∙ lt-leb _ t l

  -- A row is ready only from its origin on.
  pub ready_is_past_origin : ready row q t ≡ true → origin_of row ≤ t
  unfolding start job_start
  ready_is_past_origin h = go (is_early_release row) (leb-true _ t (sym ready_from_start ∙ h))
    where
      go : (is_early : Bool) → cond is_early (job_start row.cost row.period (origin_of row) (q + 1)) (start row.cost row.period (origin_of row) (q + 1)) ≤ t →
          origin_of row ≤ t
      go true l = omega (arith, l)
      go false l = omega (arith, l)

  -- A row that is ready is due within a period.
  pub ready_is_due_within_period : 0 < row.cost → ready row q t ≡ true → deadline row.cost row.period (origin_of row) (q + 1) ≤ t + row.period
  ready_is_due_within_period he h = go (is_early_release row) (leb-true _ t (sym ready_from_start ∙ h))
    where
      go : (is_early : Bool) → cond is_early (job_start row.cost row.period (origin_of row) (q + 1)) (start row.cost row.period (origin_of row) (q + 1)) ≤ t →
          deadline row.cost row.period (origin_of row) (q + 1) ≤ t + row.period
      go true l = omega (arith, l, deadline_is_within_job row.cost row.period (origin_of row) he {i = q + 1} (omega arith))
      go false l =
          omega (arith, l, job_starts_first row.cost row.period (origin_of row) he (q + 1), deadline_is_within_job row.cost row.period (origin_of row) he {i = q + 1} (omega arith))

  -- A row that is late at the end of a slot, and gets no quantum in it, was ready in it.
  pub late_was_ready : 0 < row.cost → row.cost ≤ row.period → late row q (t + 1) ≡ true → ready row q t ≡ true
  unfolding late
  late_was_ready he hp h =
      let due = leb-true _ (t + 1) h in
      started_is_ready he (omega (arith, due, window_has_a_slot row.cost row.period (origin_of row) he (omega arith) {i = q + 1} (omega arith)))

-- One that gets a quantum is not, if it was not late before.
pub given_is_not_late : (row : Row) (q t : ℕ) → 0 < row.cost → row.cost ≤ row.period → late row q t ≡ false → late row (q + 1) (t + 1) ≡ false
unfolding late
given_is_not_late row q t he hp h =
    lt-leb _ (t + 1)
    (omega (arith, leb-false _ t h, deadline_rises row.cost row.period (origin_of row) he hp {i = q + 1} {j = q + 1 + 1} (omega arith)))
