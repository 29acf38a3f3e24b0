-- What is kept of the rows while a trace is walked. Assumes nothing.
use Prim.Native.Nat.{ℕ, ◌+◌, ◌-◌, ◌*◌, ◌/◌, ◌%◌, ◌≤◌, ◌<◌}
use mathlib.Core.Path.{◌≡◌, sym, ap, subst, ◌∙◌}
use mathlib.Core.Bool.{Bool, true, false, cond}
use native.Mathlib.Nat.{mod-lt}
use native.Mathlib.Decide.{ℕ_discrete}
use native.Mathlib.Omega.{arith}
use lib.Dec.{leb}
use lib.ListN.{length, get_or, length-set}
use lib.Seq.{get_or-set_same, get_or-set_other}
use Rattle.windows.specs.Windows.{start, job_start}
use Rattle.windows.proofs.Windows.{window_has_a_slot, job_starts_first, deadline_is_within_job}
use Rattle.windows.proofs.Steps.{first_start, first_job_start, first_deadline, next_deadline, next_rest, next_start_of_whole, next_start_of_part, next_job_starts, job_goes_on}
use Rattle.table.specs.declared.Row.{Row}
use Rattle.table.specs.declared.Table.{Table}
use Rattle.table.specs.Limits.{row_limit}
use Rattle.table.specs.Value.{rows_of}
use Rattle.pd2.specs.Ready.{origin_of, is_early_release, ready}
use Rattle.pd2.specs.Share.{CanBe}
use Rattle.pd2.specs.Choice.{row_at}
use Rattle.pd2.proofs.Readiness.{ready_from_start}
use Rattle.pd2.proofs.Share.{row_can_be}
use Rattle.pd2.proofs.Choice.{row_there}
use Rattle.checker.specs.declared.giving.Kept.{Kept}
use Rattle.checker.specs.declared.giving.Walk.{Walk}
use Rattle.checker.specs.Passes.{first_allowed, due}
use Rattle.checker.specs.Walking.{CanCheck, IsKept, AreKept, kept_at, with_kept}

-- A row of the table is one that can be, as it is read from its array.
pub read_row_can_be : (table : Table) → CanCheck table → (i : ℕ) → i < length (rows_of table) → (d : Row) → CanBe (get_or table.rows i d)
read_row_can_be table can i l d = rw (row_there table.rows table.n i d l) (row_can_be table can.sound i l)

-- The first allowed slot of a subtask lies between the start of its job and that of its window.
allowed_between : (row : Row) → CanBe row → (i : ℕ) →
    (job_start row.cost row.period (origin_of row) i ≤ first_allowed row i) × (first_allowed row i ≤ start row.cost row.period (origin_of row) i)
allowed_between row can i = go (is_early_release row)
  where
    go : (is_early : Bool) →
        let allowed = cond is_early (job_start row.cost row.period (origin_of row) i) (start row.cost row.period (origin_of row) i) in
        (job_start row.cost row.period (origin_of row) i ≤ allowed) × (allowed ≤ start row.cost row.period (origin_of row) i)
    go true = (omega arith, job_starts_first row.cost row.period (origin_of row) can.cost i)
    go false = (job_starts_first row.cost row.period (origin_of row) can.cost i, omega arith)

-- What is kept of a row that has been given nothing.
pub kept_at_first : (row : Row) → CanBe row →
    IsKept row 0 (record { start = row.phase; rest = (row.period + (row.cost - 1)) % row.cost; due = row.phase + (row.period + (row.cost - 1)) / row.cost })
kept_at_first row can =
    record {
      starts = sym (go (is_early_release row));
      rests = ap (λ x. (x + (row.cost - 1)) % row.cost) {x = row.period} {y = 1 * row.period} (omega arith);
      dues = sym (first_deadline row.cost row.period (origin_of row) can.cost);
    }
  where
    go : (is_early : Bool) → cond is_early (job_start row.cost row.period (origin_of row) 1) (start row.cost row.period (origin_of row) 1) ≡ row.phase
    go true = first_job_start row.cost row.period (origin_of row) can.cost
    go false = first_start row.cost row.period (origin_of row) can.cost

-- A row is ready from the start that is kept on.
pub ready_from_kept : (row : Row) {q : ℕ} {kept : Kept} → IsKept row q kept → (t : ℕ) → ready row q t ≡ leb kept.start t
ready_from_kept row {q} is t = ready_from_start row q t ∙ ap (λ x. leb x t) (sym is.starts)

module _ (row : Row) (can : CanBe row) {q : ℕ} {kept : Kept} (is : IsKept row q kept) where
  -- Of a row less than e is left over,
  pub rest_is_small : kept.rest < row.cost
  rest_is_small = omega (arith, is.rests, mod-lt ((q + 1) * row.period + (row.cost - 1)) can.cost)

  -- it is due after its start,
  pub due_after_start : kept.start < kept.due
  due_after_start =
      omega (arith, is.starts, is.dues, (allowed_between row can (q + 1)).1, window_has_a_slot row.cost row.period (origin_of row) can.cost (omega (arith, can.cost, can.weight)) {i = q + 1} (omega arith))

  -- and at most one period after it.
  pub due_within_period : kept.due ≤ kept.start + row.period
  due_within_period =
      omega (arith, is.starts, is.dues, (allowed_between row can (q + 1)).0, deadline_is_within_job row.cost row.period (origin_of row) can.cost {i = q + 1} (omega arith))

  -- The next subtask of a plain row starts where this one is due, if all but one of e is left over,
  pub plain_starts_when_due : is_early_release row ≡ false → kept.rest + 1 ≡ row.cost → kept.due ≡ first_allowed row (q + 1 + 1)
  plain_starts_when_due plain most =
      rw plain
      (is.dues ∙ sym (next_start_of_whole row.cost row.period (origin_of row) can.cost (q + 1) (ap (λ x. x + 1) (sym is.rests) ∙ most)))

  -- else a slot before that;
  pub plain_starts_before : is_early_release row ≡ false → (kept.rest + 1 ≡ row.cost → ⊥) → kept.due - 1 ≡ first_allowed row (q + 1 + 1)
  plain_starts_before plain less =
      rw plain
      (ap (λ x. x - 1) is.dues
      ∙ sym (next_start_of_part row.cost row.period (origin_of row) can.cost (q + 1) (λ most. less (ap (λ x. x + 1) is.rests ∙ most))))

  -- that of an early-release row starts with the next job, if this one is due where its job ends,
  pub early_starts_next_job : is_early_release row ≡ true → kept.due ≡ kept.start + row.period → kept.due ≡ first_allowed row (q + 1 + 1)
  early_starts_next_job early last =
      let same = rw early at is.starts in
      rw early
      (is.dues
      ∙ sym (next_job_starts row.cost row.period (origin_of row) can.cost can.weight {i = q + 1} (omega arith) (omega (arith, same, is.dues))))

  -- else with the same.
  pub early_starts_same_job : is_early_release row ≡ true → (kept.due ≡ kept.start + row.period → ⊥) → kept.start ≡ first_allowed row (q + 1 + 1)
  early_starts_same_job early other =
      let same = rw early at is.starts in
      rw early
      (same
      ∙ sym (job_goes_on row.cost row.period (origin_of row) can.cost can.weight {i = q + 1} (omega arith) (λ last. other (omega (arith, same, is.dues)))))

  -- One quantum more: what is left over is divided on.
  pub kept_one_more : {next : ℕ} → next ≡ first_allowed row (q + 1 + 1) →
      IsKept row (q + 1) (record { start = next; rest = (kept.rest + row.period) % row.cost; due = kept.due + (kept.rest + row.period) / row.cost })
  kept_one_more starts =
      record {
        starts = starts;
        rests = ap (λ x. (x + row.period) % row.cost) is.rests ∙ sym (next_rest row.cost row.period (origin_of row) can.cost (q + 1));
        dues =
            ap (λ x. x + (kept.rest + row.period) / row.cost) is.dues
            ∙ (ap (λ x. due row (q + 1) + (x + row.period) / row.cost) is.rests
            ∙ sym (next_deadline row.cost row.period (origin_of row) can.cost (q + 1)));
      }

-- What is kept is that of other quanta too, if they are the same.
pub same_kept : (table : Table) (n : ℕ) {quanta quanta' : ℕ → ℕ} {walk : Walk} → ((i : ℕ) → i < n → quanta i ≡ quanta' i) →
    AreKept table n quanta walk → AreKept table n quanta' walk
same_kept table n {walk = walk} same so =
    record {
      long = so.long;
      each = λ i l. subst (λ q. IsKept (row_at (rows_of table) i) q (kept_at walk i)) (same i l) (so.each i l);
    }

-- What is kept of one row is stored at its place, and the others stay.
pub one_kept : (table : Table) (m n : ℕ) {quanta quanta' : ℕ → ℕ} {walk : Walk} → AreKept table m quanta walk →
    (row : ℕ) → row < row_limit → {kept : Kept} → IsKept (row_at (rows_of table) row) (quanta' row) kept →
    ((i : ℕ) → i < n → (i ≡ row → ⊥) → (i < m) × (quanta i ≡ quanta' i)) → AreKept table n quanta' (with_kept walk row kept)
one_kept table m n {quanta} {quanta'} {walk} so row fits {kept} here others =
    record {
      long = (length-set walk.starts row kept.start ∙ so.long.0, length-set walk.rests row kept.rest ∙ so.long.1, length-set walk.dues row kept.due ∙ so.long.2);
      each = λ i l. at i l (ℕ_discrete i row);
    }
  where
    at : (i : ℕ) → i < n → Dec (i ≡ row) → IsKept (row_at (rows_of table) i) (quanta' i) (kept_at (with_kept walk row kept) i)
    at i l (yes same) =
        rw (
          same,
          get_or-set_same walk.starts row kept.start 0 (omega (arith, so.long)),
          get_or-set_same walk.rests row kept.rest 0 (omega (arith, so.long)),
          get_or-set_same walk.dues row kept.due 0 (omega (arith, so.long)),
        )
        here
    at i l (no other) =
        rw (
          get_or-set_other walk.starts row i kept.start 0 other,
          get_or-set_other walk.rests row i kept.rest 0 other,
          get_or-set_other walk.dues row i kept.due 0 other,
          ← (others i l other).1,
        )
        (so.each i (others i l other).0)
