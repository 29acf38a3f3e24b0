-- When a trace passes, and what is answered where it does not: of a table value. crates/demands says it of the bytes of a table. Assumes nothing.
use Prim.Native.Nat.{ℕ, zero, suc, ◌+◌, ◌≤◌, ◌<◌}
use mathlib.Core.Path.{◌≡◌, refl, ap}
use mathlib.Core.List.{List}
use mathlib.Core.Bool.{true}
use mathlib.Core.Logic.{◌↔◌, ◌⊎◌, inl, inr, ⊎_elim}
use native.Mathlib.Omega.{arith}
use lib.ListN.{length}
use Rattle.facts.specs.Findings.{FirstFound}
use Rattle.facts.proofs.Findings.{said_exactly}
use Rattle.table.specs.declared.Table.{Table}
use Rattle.table.specs.Value.{fault_of, rows_of}
use Rattle.table.specs.Bytes.{table_number, table_in}
use Rattle.pd2.specs.Share.{within}
use Rattle.pd2.specs.Choice.{row_at}
use Rattle.trace.specs.Records.{slots_in, times_named}
use Rattle.trace.specs.Said.{Said, bare}
use Rattle.checker.specs.Check.{trace_findings, trace_said, check_by, check_of}
use Rattle.checker.specs.WellFormed.{WellFormed}
use Rattle.checker.specs.Passes.{Passes, InWindows}
use Rattle.checker.proofs.Said.{passes_or_says}
use Rattle.checker.proofs.Sound.{passes_exactly}
use Rattle.checker.proofs.Rows.{within_after, within_was_ready, within_not_late, in_time_is_allowed, in_time_is_held, allowed_was_ready, held_not_late}

-- An answer with a number is what the first cause that is met says.
pub numbers_are_first_found : (table : Table) (s : List ℕ) (x : Said) → (x.number ≡ 0 → ⊥) → (trace_said table s ≡ x) ↔ FirstFound (trace_findings table s) x
unfolding trace_said
numbers_are_first_found table s x numbered =
    said_exactly (bare 0) (trace_findings table s) (λ e. numbered (ap (λ y. y.number) e))

-- The table is judged first: its refusal is answered, and else what the trace says.
pub judges_table_first : (bytes s : List ℕ) →
    ((table_number bytes ≡ 0 → ⊥) → check_of bytes s ≡ bare (table_number bytes)) × (table_number bytes ≡ 0 → check_of bytes s ≡ trace_said (table_in bytes) s)
unfolding check_of
judges_table_first bytes s = go (table_number bytes)
  where
    go : (n : ℕ) → ((n ≡ 0 → ⊥) → check_by n bytes s ≡ bare n) × (n ≡ 0 → check_by n bytes s ≡ trace_said (table_in bytes) s)
    go zero = (λ other. absurd (other refl), λ e. refl)
    go (suc n) = (λ other. refl, λ e. absurd (omega arith))

-- Of a trace no other number is answered than 0 and 40 to 47,
pub trace_numbers : (table : Table) (s : List ℕ) → let number = (trace_said table s).number in (number ≡ 0) ⊎ ((40 ≤ number) × (number ≤ 47))
trace_numbers table s = ⊎_elim (λ passes. inl (ap (λ x. x.number) passes)) (λ says. inr says.range) (passes_or_says table s)

-- and row and time are 0 except with 44 and 45.
pub bare_unless_named : (table : Table) (s : List ℕ) →
    let said = trace_said table s in
    (said.number ≡ 44 → ⊥) → (said.number ≡ 45 → ⊥) → said ≡ bare said.number
bare_unless_named table s not_44 not_45 =
    ⊎_elim (λ passes. rw passes) (λ says. says.bare_else not_44 not_45) (passes_or_says table s)

-- A trace passes exactly if it is well formed, each quantum falls inside its allowed slots, and none is overdue.
pub passes_in_windows : (table : Table) (s : List ℕ) → fault_of table ≡ 0 → Passes table s ↔ (WellFormed table s × InWindows table s)
passes_in_windows table s sound = (
  λ passes.
      let known = (passes_exactly table s).0 passes in (
        known.0,
        record {
          allowed = λ row t i l k. in_time_is_allowed table s sound row l t i (λ u m. known.1 u (omega arith));
          none_overdue = λ row i l one k. in_time_is_held table s sound row l i (λ t m. known.1 t (omega arith));
        },
      ),
  λ known. (passes_exactly table s).1 (
    known.0,
    λ t k. record {
      readied = λ row l. allowed_was_ready table s sound row l known.1 t k;
      none_late = λ row l. held_not_late table s sound row l known.1 (t + 1) (omega arith);
    },
  ),
)

-- A well-formed trace passes exactly if each row is within its share at each time.
pub passes_in_shares : (table : Table) (s : List ℕ) → fault_of table ≡ 0 → WellFormed table s →
    Passes table s ↔ ((t row : ℕ) → t ≤ slots_in s → row < length (rows_of table) → within (row_at (rows_of table) row) (times_named s row t) t ≡ true)
passes_in_shares table s sound well = (
  λ passes t row k l. within_after table s sound row l t (λ u m. ((passes_exactly table s).0 passes).1 u (omega arith)),
  λ shares. (passes_exactly table s).1 (
    well,
    λ t k. record {
      readied = λ row l. within_was_ready table s sound row l t (shares (t + 1) row (omega arith) l);
      none_late = λ row l. within_not_late table s sound row l (t + 1) (shares (t + 1) row (omega arith) l);
    },
  ),
)

-- Bytes that read as a table are checked as the table is.
pub checked_as_table : (table : Table) (s bytes : List ℕ) → table_number bytes ≡ 0 → table_in bytes ≡ table → check_of bytes s ≡ trace_said table s
unfolding check_of
checked_as_table table s bytes e same = rw e (ap (λ t. trace_said t s) same)
