-- What the check says of a trace: 40 to 47, and nothing else. Assumes nothing.
use Prim.Native.Nat.{ℕ, zero, suc, ◌+◌, ◌≤◌}
use mathlib.Core.Path.{◌≡◌, refl}
use mathlib.Core.List.{List}
use mathlib.Core.Logic.{◌↔◌, ◌⊎◌}
use native.Mathlib.Omega.{arith}
use Rattle.facts.specs.Findings.{NoneFound}
use Rattle.facts.proofs.Findings.{AllSay, all_joined, otherwise_or_such, none_exactly}
use Rattle.table.specs.declared.Table.{Table}
use Rattle.trace.specs.Records.{slots_in}
use Rattle.trace.specs.Said.{Said, bare, named}
use Rattle.checker.specs.Check.{record_findings, records_findings, trace_findings, trace_said}
use Rattle.checker.specs.Passes.{Passes}

-- what may be said of a trace: a number of 40 to 47, and row and time are 0 except with 44 and 45
pub record Sayable (x : Said) : Type 0 where
  pub range : (40 ≤ x.number) × (x.number ≤ 47)
  pub bare_else : (x.number ≡ 44 → ⊥) → (x.number ≡ 45 → ⊥) → x ≡ bare x.number

-- A number alone can be said,
alone : (k : ℕ) → 40 ≤ k → k ≤ 47 → Sayable (bare k)
alone k l h = record { range = (l, h); bare_else = λ a b. refl }

-- 44 with any row and time,
with_44 : (row time : ℕ) → Sayable (named 44 row time)
with_44 row time = record { range = (omega arith, omega arith); bare_else = λ a b. absurd (a refl) }

-- and so can 45.
with_45 : (row time : ℕ) → Sayable (named 45 row time)
with_45 row time = record { range = (omega arith, omega arith); bare_else = λ a b. absurd (b refl) }

module _ (table : Table) (s : List ℕ) where
  -- All that is looked for in a record says such a thing,
  record_says : (t : ℕ) → AllSay Sayable (record_findings table s t)
  record_says t =
      AllSay.next (alone 40 (omega arith) (omega arith))
      (AllSay.next (alone 41 (omega arith) (omega arith))
      (AllSay.next (alone 42 (omega arith) (omega arith))
      (AllSay.next (alone 40 (omega arith) (omega arith))
      (AllSay.next (alone 43 (omega arith) (omega arith))
      (AllSay.next (with_44 _ t) (AllSay.next (with_45 _ (t + 1)) AllSay.end))))))

  -- in records,
  records_say : (t m : ℕ) → AllSay Sayable (records_findings table s t m)
  unfolding records_findings
  records_say t zero = AllSay.end
  records_say t (suc m) = all_joined (record_says t) (records_say (t + 1) m)

  -- and in a trace,
  trace_says : AllSay Sayable (trace_findings table s)
  trace_says =
      AllSay.next (alone 40 (omega arith) (omega arith))
      (AllSay.next (alone 47 (omega arith) (omega arith))
      (all_joined (records_say 0 (slots_in s)) (AllSay.next (alone 46 (omega arith) (omega arith)) AllSay.end)))

  -- so a trace passes or is answered with such a thing,
  pub passes_or_says : (trace_said table s ≡ bare 0) ⊎ Sayable (trace_said table s)
  unfolding trace_said
  passes_or_says = otherwise_or_such (bare 0) trace_says

  -- and it passes exactly if nothing is found in it.
  pub passes_where_none_found : Passes table s ↔ NoneFound (trace_findings table s)
  unfolding trace_said
  passes_where_none_found = none_exactly (bare 0) trace_says (λ says. omega (arith, says.range.0))
