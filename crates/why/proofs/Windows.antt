-- For the functions: what is said of a row's next window. Assumes nothing.
use Prim.Native.Nat.{ℕ, ◌+◌, ◌<◌}
use mathlib.Core.Path.{◌≡◌, refl, sym}
use borrow.Author.Tests.{eq-eqb, ne_eqb}
use Rattle.std.specs.Prelude.{Some}
use Rattle.windows.specs.Windows.{start, job_start}
use Rattle.windows.specs.Next.{next_due}
use Rattle.table.specs.declared.Row.{Row}
use Rattle.pd2.specs.Ready.{origin_of}
use Rattle.pd2.specs.Order.{rank_of}
use Rattle.pd2.specs.Near.{HasWindow}
use Rattle.pd2.proofs.Verdicts.{due_is_said}
use Rattle.why.specs.Why.{ready_from}

-- From when on a row is ready, for each kind of row.
module _ (row : Row) (q : ℕ) where
  pub early_release_from : row.kind ≡ 1 → job_start row.cost row.period (origin_of row) (q + 1) ≡ ready_from row q
  unfolding ready_from
  early_release_from e = sym (rw (eq-eqb row.kind 1 e) refl)

  pub plain_from : (row.kind ≡ 1 → ⊥) → start row.cost row.period (origin_of row) (q + 1) ≡ ready_from row q
  unfolding ready_from
  plain_from e = sym (rw (ne_eqb row.kind 1 e) refl)

-- The next window of a row that has one is answered, by what the order looks at.
pub due_is : (row : Row) (q o : ℕ) → HasWindow row q → row.phase < 65_536 → o ≡ origin_of row →
    next_due row.cost row.period o q ≡ Some (record { deadline = record { 0 = (rank_of row 0 q).d }; bit = (rank_of row 0 q).b })
due_is row q o has small same = due_is_said row q has small same refl
