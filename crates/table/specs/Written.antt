-- When a table is written, and what the buffer then holds (02, Five).
use Rattle.std.specs.Prelude.{ℕ, ◌+◌, ◌*◌, ◌≤◌, ◌<◌, ◌≡◌, List, ◌↔◌, ◌⊎◌, length, get_or}
use Rattle.facts.specs.Findings.{FirstFound}
use Rattle.table.specs.declared.Table.{Table}
use Rattle.table.specs.Fits.{CanBeHeld}
use Rattle.table.specs.Value.{fault_of}
use Rattle.table.specs.Faultless.{Faultless}
use Rattle.table.specs.Writing.{write_tests, writing, buffer_after}

-- Each number is answered exactly when its cause is the first met; `write_tests` has all the causes.
abbrev pub WriteNumbersAreFirstCauses : Type 0
WriteNumbersAreFirstCauses = (t : Table) (buffer : List ℕ) (k : ℕ) → (k ≡ 0 → ⊥) → ((writing t buffer).number ≡ k) ↔ FirstFound (write_tests t buffer) k

-- "Refusals: 12 to 20 .., 22, then 37", and 11 (02, Eight): no others, and so neither 10 nor 21.
abbrev pub WriteNumbers : Type 0
WriteNumbers =
    (t : Table) (buffer : List ℕ) →
    let number = (writing t buffer).number in
    (number ≡ 0) ⊎ ((11 ≤ number) × (number ≤ 20)) ⊎ (number ≡ 22) ⊎ (number ≡ 37)

-- "exactly the bytes needed": format and cycle have 1 + 4, the cores 1 + M, the rows 1 + 9n (01, "The table, in bytes").
abbrev pub bytes_needed : Table → ℕ
bytes_needed t = 7 + t.cores + 9 * t.n

-- 0 and 37 said without the tests: a table as 01 describes it is written exactly if the buffer has the bytes needed, and is answered 37 exactly if it has not.
-- Of any other value the fault is answered, whatever the buffer has.
pub record WriteExactly (t : Table) (buffer : List ℕ) (number : ℕ) : Type 0 where
  pub is_0 : (number ≡ 0) ↔ (Faultless t × (bytes_needed t ≤ length buffer))
  pub is_37 : (number ≡ 37) ↔ (Faultless t × (length buffer < bytes_needed t))
  pub fault : (Faultless t → ⊥) → number ≡ fault_of t

abbrev pub WrittenExactly : Type 0
WrittenExactly = (t : Table) (buffer : List ℕ) → CanBeHeld t → WriteExactly t buffer (writing t buffer).number

-- How many bytes are written is said.
abbrev pub LengthIsSaid : Type 0
LengthIsSaid = (t : Table) (buffer : List ℕ) → CanBeHeld t → (writing t buffer).number ≡ 0 → (writing t buffer).length ≡ bytes_needed t

-- "the buffer past them stays as it was": past the length that is said, which with a refusal is 0, so that then the whole buffer does.
pub record Stays (t : Table) (buffer : List ℕ) : Type 0 where
  pub long : length (buffer_after t buffer) ≡ length buffer
  pub past : (i d : ℕ) → (writing t buffer).length ≤ i → get_or (buffer_after t buffer) i d ≡ get_or buffer i d
  pub refused : ((writing t buffer).number ≡ 0 → ⊥) → ((writing t buffer).length ≡ 0) × (buffer_after t buffer ≡ buffer)

abbrev pub PastStays : Type 0
PastStays = (t : Table) (buffer : List ℕ) → Stays t buffer
