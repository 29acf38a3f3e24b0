-- The table is judged first. Assumes nothing.
use Prim.Native.Nat.{ℕ, zero, suc}
use mathlib.Core.Path.{◌≡◌, refl, sym, ap, ◌∙◌}
use mathlib.Core.List.{List}
use native.Mathlib.Omega.{arith}
use lib.Seq.{length-take-le}
use Rattle.std.specs.Prelude.{Ok, Err}
use Rattle.table.specs.declared.Table.{Table}
use Rattle.table.specs.declared.faults.Fault.{Fault}
use Rattle.table.specs.Bytes.{table_number, table_in, reading}
use Rattle.table.specs.Reply.{fault_number, reply_of}
use Rattle.table.proofs.Numbers.{is_fault}
use Rattle.table.proofs.Taken.{number_read, table_read, taken_value_has_no_fault, sizes_are_within, places_are_there}
use Rattle.trace.specs.Said.{Said, bare}
use Rattle.checker.specs.Check.{trace_said, check_by, check_of}
use Rattle.checker.specs.Walking.{CanCheck}

module _ (bytes s : List ℕ) where
  -- A refusal of the table is answered without reading the trace.
  pub refusal_is_said : (fault : Fault) → reply_of (Err fault) ≡ reading bytes → bare (fault_number fault) ≡ check_of bytes s
  unfolding check_of
  refusal_is_said fault read =
      let number : fault_number fault ≡ table_number bytes = ap (λ r. r.number) read ∙ number_read bytes in
      rw (← number) (go (fault_number fault) (is_fault fault))
    where
      go : (n : ℕ) → (n ≡ 0 → ⊥) → bare n ≡ check_by n bytes s
      go zero other = absurd (other refl)
      go (suc n) other = refl

  module _ {table : Table} (taken : reply_of (Ok table) ≡ reading bytes) where
    none : table_number bytes ≡ 0
    none = sym (ap (λ r. r.number) taken ∙ number_read bytes)

    table_is : table ≡ table_in bytes
    table_is = ap (λ r. r.table) taken ∙ table_read bytes none

    -- A table that was read can be checked against,
    pub taken_can_be_checked : CanCheck table
    taken_can_be_checked =
        rw table_is
        (let sound = taken_value_has_no_fault bytes none in
        let few = (sizes_are_within (table_in bytes) sound).2 in
        record { sound = sound; few = few; all = length-take-le _ _ (omega (arith, few, (places_are_there bytes none).1)) })

    -- and then the trace decides.
    pub trace_decides : {x : Said} → x ≡ trace_said table s → x ≡ check_of bytes s
    unfolding check_of
    trace_decides e = e ∙ (ap (λ table. trace_said table s) table_is ∙ sym (ap (λ n. check_by n bytes s) none))
