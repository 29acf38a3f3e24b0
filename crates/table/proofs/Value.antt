-- The faults of a table value, part by part. Assumes nothing.
use mathlib.Core.Path.{◌≡◌, refl, sym, ap, ◌∙◌}
use mathlib.Core.Bool.{true, false}
use mathlib.Core.Logic.{◌⊎◌, inl, inr}
use Prim.Native.Nat.{ℕ, ◌*◌, ◌≤◌}
use borrow.Author.Tests.{le-ltb, ltb-false, eqb-true, not-false}
use lib.Dec.{ltb, eqb}
use Rattle.facts.specs.Findings.{first_found, NoneFound}
use Rattle.facts.proofs.Tests.{neither_holds, one_of_two}
use Rattle.facts.proofs.Findings.{none_says_otherwise, none_joined, in_range}
use Rattle.facts.specs.Zero.{if0}
use Rattle.facts.proofs.Zero.{if0_other}
use Rattle.table.specs.declared.faults.Fault.{Fault}
use Rattle.table.specs.Reply.{fault_number}
use Rattle.table.proofs.Numbers.{is_fault, in_turn, boards_say, rows_say}
use Rattle.table.specs.declared.Table.{Table}
use Rattle.table.specs.Limits.{cycle_limit, core_limit, row_limit}
use Rattle.table.specs.Causes.{load, outside, format_test}
use Rattle.table.specs.Value.{rows_of, front_tests, boards_tests, row_count_tests, rows_tests, sum_tests, fault_of}

-- What is not outside is between.
not_outside : {low high x : ℕ} → outside low high x ≡ false → (low ≤ x) × (x ≤ high)
not_outside {low} {high} {x} e =
    let each = neither_holds (ltb x low) (ltb high x) e in
    (ltb-false x low each.0, ltb-false high x each.1)

-- A format that passes its test is 1 or 2.
known_format : (format : ℕ) → (format_test format).cause ≡ false → (format ≡ 1) ⊎ (format ≡ 2)
known_format format e = go (one_of_two (eqb format 1) (eqb format 2) (not-false _ e))
  where
    go : (eqb format 1 ≡ true) ⊎ (eqb format 2 ≡ true) → (format ≡ 1) ⊎ (format ≡ 2)
    go (inl one) = inl (eqb-true format 1 one)
    go (inr two) = inr (eqb-true format 2 two)

-- The fault of a value, part after part: what a part says, or where it says nothing what the parts behind it say.
pub fault_in_turn : (t : Table) →
    let front = first_found 0 (front_tests t) in
    let boards = first_found 0 (boards_tests t) in
    let count = first_found 0 (row_count_tests t) in
    let rows = first_found 0 (rows_tests t) in
    fault_of t ≡ if0 front (if0 boards (if0 count (if0 rows (first_found 0 (sum_tests t)) rows) count) boards) front
unfolding fault_of
fault_in_turn t =
    let front = first_found 0 (front_tests t) in
    let boards = first_found 0 (boards_tests t) in
    let count = first_found 0 (row_count_tests t) in
    in_turn (in_range 10 22 (front_tests t) refl) _
    ∙ ap (λ k. if0 front k front) (in_turn (boards_say t) _
    ∙ ap (λ k. if0 boards k boards) (in_turn (in_range 10 22 (row_count_tests t) refl) _
    ∙ ap (λ k. if0 count k count) (in_turn (rows_say t) _)))

-- A fault of the rows is the first where nothing before them has one.
pub rows_decide : (t : Table) (fault : Fault) → 0 ≡ first_found 0 (front_tests t) → 0 ≡ first_found 0 (boards_tests t) → 0 ≡ first_found 0 (row_count_tests t) →
    fault_number fault ≡ first_found 0 (rows_tests t) → fault_number fault ≡ fault_of t
rows_decide t fault front boards count rows =
    rw (fault_in_turn t, sym front, sym boards, sym count) (rw (sym rows) (sym (if0_other (fault_number fault) (first_found 0 (sum_tests t)) (fault_number fault) (is_fault fault))))

module _ (t : Table) where
  -- What is known past the front: the format is 1 or 2, and the cycle and the core count are between their limits.
  pub front_passed : NoneFound (front_tests t) →
      ((t.format ≡ 1) ⊎ (t.format ≡ 2)) × ((1 ≤ t.cycle) × (t.cycle ≤ cycle_limit)) × ((1 ≤ t.cores) × (t.cores ≤ core_limit))
  front_passed (NoneFound.later format (NoneFound.later cycle (NoneFound.later cores NoneFound.end))) =
      (known_format t.format format, not_outside cycle, not_outside cores)

  module _ (front : NoneFound (front_tests t)) (boards : NoneFound (boards_tests t)) (count : t.n ≤ row_limit) (rows : NoneFound (rows_tests t)) where
    -- A value has no fault if no part of it has one.
    pub no_fault : {sum : ℕ} → sum ≡ load t.cycle (rows_of t) → ltb (t.cores * t.cycle) sum ≡ false → 0 ≡ fault_of t
    unfolding fault_of
    no_fault sum_is h =
        sym
        (none_says_otherwise 0
        (none_joined front
        (none_joined boards
        (none_joined (NoneFound.later (le-ltb row_limit t.n count) NoneFound.end) (none_joined rows (NoneFound.later (rw sum_is at h) NoneFound.end))))))
