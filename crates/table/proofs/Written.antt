-- When a table is written, and what the buffer then holds. Assumes nothing.
use Prim.Native.Nat.{ℕ, ◌+◌, ◌-◌, ◌≤◌, ◌<◌}
use mathlib.Core.Path.{◌≡◌, refl, sym, ap, ◌∙◌}
use mathlib.Core.List.{List, ◌++◌}
use mathlib.Core.Logic.{◌⊎◌, inl, inr}
use native.Mathlib.Decide.{ℕ_discrete, dec_lt}
use native.Mathlib.Omega.{arith}
use borrow.Author.Tests.{lt-ltb, le-ltb}
use lib.ListN.{length, get_or, drop}
use lib.Seq.{sets, sets-eq, length-sets, length-take-le, get_or-append-add, get_or-drop}
use Rattle.facts.specs.Zero.{if0}
use Rattle.facts.specs.Findings.{first_found, FirstFound, NoneFound}
use Rattle.facts.proofs.Zero.{if0_other}
use Rattle.facts.proofs.Findings.{AllSay, all_joined, said_exactly, otherwise_or_such, none_joined, none_says_otherwise, first_is_said, first_behind, decides}
use Rattle.facts.proofs.Rising.{rising_say}
use Rattle.table.specs.declared.Row.{Row}
use Rattle.table.specs.declared.Table.{Table}
use Rattle.table.specs.Reply.{Writing}
use Rattle.table.specs.Limits.{core_limit, row_limit}
use Rattle.table.specs.Causes.{board_tests, board_above, row_tests, tank_above}
use Rattle.table.specs.Value.{boards_of, rows_of, value_tests, fault_of}
use Rattle.table.specs.Fits.{CanBeHeld}
use Rattle.table.specs.Writing.{bytes_of_table, write_tests, write_number, writing, buffer_after}
use Rattle.table.specs.Written.{bytes_needed, WriteNumbersAreFirstCauses, WriteNumbers, WrittenExactly, LengthIsSaid, Stays, PastStays}
use Rattle.table.proofs.Numbers.{value_says, none_met}
use Rattle.table.proofs.Taken.{sizes_are_within}
use Rattle.table.proofs.Faultless.{faultless_exactly}
use Rattle.table.proofs.Spelled.{table_is_long}

-- for the function `write`

-- How many bytes a table within its limits has.
pub bytes_needed_is : (t : Table) → length t.boards ≡ core_limit → length t.rows ≡ row_limit → t.cores ≤ core_limit → t.n ≤ row_limit →
    length (bytes_of_table t) ≡ bytes_needed t
bytes_needed_is t boards rows few_cores few_rows =
    omega (
      arith,
      table_is_long t,
      length-take-le t.cores t.boards (omega arith),
      length-take-le t.n t.rows (omega arith),
    )

module _ (t : Table) (buffer : List ℕ) where
  -- the number is the fault of the value, where it has one,
  number_by_fault : {k : ℕ} → k ≡ fault_of t → (k ≡ 0 → ⊥) → k ≡ write_number t buffer
  unfolding write_number fault_of
  number_by_fault e f = decides 0 (value_tests t) _ e f

  pub number_is_fault : {k : ℕ} → k ≡ fault_of t → (k ≡ 0 → ⊥) → k ≡ (writing t buffer).number
  unfolding writing
  number_is_fault e f = number_by_fault e f

  module _ (none : fault_of t ≡ 0) where
    value_passes : NoneFound (value_tests t)
    unfolding fault_of
    value_passes = none_met (value_says t) none

    -- else 37 where its bytes do not fit,
    number_by_room : length buffer < length (bytes_of_table t) → 37 ≡ write_number t buffer
    unfolding write_number
    number_by_room short = sym (first_is_said 0 (first_behind value_passes (FirstFound.here (lt-ltb (length buffer) (length (bytes_of_table t)) short))))

    -- and 0 where they do.
    pub done_if_fits : length (bytes_of_table t) ≤ length buffer → (writing t buffer).number ≡ 0
    unfolding write_number writing
    done_if_fits fits =
        none_says_otherwise 0 (none_joined value_passes (NoneFound.later (le-ltb (length buffer) (length (bytes_of_table t)) fits) NoneFound.end))

  -- A refusal has its number and nothing else, and leaves the buffer,
  refused_by : {k : ℕ} → k ≡ write_number t buffer → (k ≡ 0 → ⊥) → (◌≡◌ {A = Writing} (record { number = k; length = 0 }) (writing t buffer)) × (buffer ≡ buffer_after t buffer)
  unfolding writing buffer_after
  refused_by {k} e f = (
    λ z. record { number = e z; length = (sym (if0_other k (length (bytes_of_table t)) 0 f) ∙ ap (λ n. if0 n (length (bytes_of_table t)) 0) e) z },
    sym (if0_other k (sets buffer 0 (bytes_of_table t)) buffer f) ∙ ap (λ n. if0 n (sets buffer 0 (bytes_of_table t)) buffer) e,
  )

  -- by the fault of the value,
  pub by_fault : {k : ℕ} → k ≡ fault_of t → (k ≡ 0 → ⊥) → (◌≡◌ {A = Writing} (record { number = k; length = 0 }) (writing t buffer)) × (buffer ≡ buffer_after t buffer)
  by_fault e f = refused_by (number_by_fault e f) f

  -- or since the buffer is too short;
  pub by_room : fault_of t ≡ 0 → length buffer < length (bytes_of_table t) → (◌≡◌ {A = Writing} (record { number = 37; length = 0 }) (writing t buffer)) × (buffer ≡ buffer_after t buffer)
  by_room none short = refused_by (number_by_room none short) (λ z. omega arith)

  -- and else the table is written.
  pub is_written : fault_of t ≡ 0 → length (bytes_of_table t) ≤ length buffer → {n : ℕ} → n ≡ length (bytes_of_table t) → {after : List ℕ} → after ≡ sets buffer 0 (bytes_of_table t) →
      (◌≡◌ {A = Writing} (record { number = 0; length = n }) (writing t buffer)) × (after ≡ buffer_after t buffer)
  unfolding writing buffer_after
  is_written none fits same e = let done = done_if_fits none fits in rw (done, same, e) (refl, refl)

-- for callers

-- bytes that are stored from the first place on stand in front of the rest
stored_in_front : (buffer bytes : List ℕ) → length bytes ≤ length buffer → sets buffer 0 bytes ≡ bytes ++ drop (length bytes) buffer
stored_in_front buffer bytes fits =
    sets-eq bytes buffer 0 (omega arith) ∙ ap (λ k. bytes ++ drop k buffer) {x = 0 + length bytes} {y = length bytes} (omega arith)

-- What is known where a table is written: it has no fault, its bytes fit, and they stand at the front of the buffer.
pub record Done (t : Table) (buffer : List ℕ) : Type 0 where
  pub none : fault_of t ≡ 0
  pub fits : length (bytes_of_table t) ≤ length buffer
  pub long : (writing t buffer).length ≡ length (bytes_of_table t)
  pub bytes : buffer_after t buffer ≡ bytes_of_table t ++ drop (length (bytes_of_table t)) buffer

pub written_if_done : (t : Table) (buffer : List ℕ) → (writing t buffer).number ≡ 0 → Done t buffer
unfolding writing buffer_after
written_if_done t buffer done = go (ℕ_discrete (fault_of t) 0) (dec_lt (length buffer) (length (bytes_of_table t)))
  where
    go : Dec (fault_of t ≡ 0) → Dec (length buffer < length (bytes_of_table t)) → Done t buffer
    go (no fault) _ = absurd (fault (number_by_fault t buffer refl fault ∙ done))
    go (yes none) (yes short) = absurd (omega (arith, number_by_room t buffer none short ∙ done))
    go (yes none) (no long) =
        let fits : length (bytes_of_table t) ≤ length buffer = omega arith in
        record {
          none = none;
          fits = fits;
          long = rw done;
          bytes = rw done (stored_in_front buffer (bytes_of_table t) fits);
        }

-- A refusal by its number: the length that is said is 0, and the buffer stays.
refusal_leaves : (t : Table) (buffer : List ℕ) → ((writing t buffer).number ≡ 0 → ⊥) → ((writing t buffer).length ≡ 0) × (buffer_after t buffer ≡ buffer)
unfolding writing buffer_after
refusal_leaves t buffer f =
    let number = write_number t buffer in
    (if0_other number (length (bytes_of_table t)) 0 f, if0_other number (sets buffer 0 (bytes_of_table t)) buffer f)

pub past_stays : PastStays
past_stays t buffer = go (ℕ_discrete (writing t buffer).number 0)
  where
    go : Dec ((writing t buffer).number ≡ 0) → Stays t buffer
    go (no refused) =
        let leaves = refusal_leaves t buffer refused in
        record { long = ap length leaves.1; past = λ i d h. ap (λ l. get_or l i d) leaves.1; refused = λ _. leaves }
    go (yes done) =
        let written = written_if_done t buffer done in
        let bytes = bytes_of_table t in
        record {
          long = ap length written.bytes ∙ (sym (ap length (stored_in_front buffer bytes written.fits)) ∙ length-sets buffer 0 bytes);
          past = λ i d h.
              let same : i ≡ length bytes + (i - length bytes) = omega (arith, written.long, h) in
              ap (λ l. get_or l i d) written.bytes
              ∙ (ap (λ k. get_or (bytes ++ drop (length bytes) buffer) k d) same
              ∙ (get_or-append-add bytes (drop (length bytes) buffer) (i - length bytes) d
              ∙ (get_or-drop (length bytes) buffer (i - length bytes) d ∙ ap (λ k. get_or buffer k d) (sym same))));
          refused = λ refused. absurd (refused done);
        }

pub write_numbers_are_first_causes : WriteNumbersAreFirstCauses
unfolding writing write_number
write_numbers_are_first_causes t buffer k h = said_exactly 0 (write_tests t buffer) h

-- the numbers that a writer's tests say
abbrev Such : ℕ → Type 0
Such k = ((11 ≤ k) × (k ≤ 20)) ⊎ ((k ≡ 22) ⊎ (k ≡ 37))

pub write_numbers : WriteNumbers
unfolding writing write_number
write_numbers t buffer = otherwise_or_such 0 all
  where
    low : (k : ℕ) → 11 ≤ k → k ≤ 20 → Such k
    low k from to = inl (from, to)

    rows : (least : ℕ) (row : Row) → AllSay Such (row_tests t.cycle least row)
    rows least row =
        AllSay.next (low 16 (omega arith) (omega arith))
        (AllSay.next (low 17 (omega arith) (omega arith))
        (AllSay.next (low 18 (omega arith) (omega arith))
        (AllSay.next (low 19 (omega arith) (omega arith)) (AllSay.next (low 20 (omega arith) (omega arith)) AllSay.end))))

    all : AllSay Such (write_tests t buffer)
    all =
        all_joined
        (all_joined
        (AllSay.next (low 11 (omega arith) (omega arith))
        (AllSay.next (low 12 (omega arith) (omega arith)) (AllSay.next (low 13 (omega arith) (omega arith)) AllSay.end)))
        (all_joined (rising_say board_tests board_above (λ least board. AllSay.next (low 14 (omega arith) (omega arith)) AllSay.end) 0 (boards_of t))
        (all_joined (AllSay.next (low 15 (omega arith) (omega arith)) AllSay.end)
        (all_joined (rising_say (row_tests t.cycle) tank_above rows 0 (rows_of t)) (AllSay.next (inr (inl refl)) AllSay.end)))))
        (AllSay.next (inr (inr refl)) AllSay.end)

-- The answer said without the tests.
module _ (t : Table) (can : CanBeHeld t) where
  needed : fault_of t ≡ 0 → length (bytes_of_table t) ≡ bytes_needed t
  needed none = let sizes = sizes_are_within t none in bytes_needed_is t can.boards can.rows sizes.1.1 sizes.2

  module _ (buffer : List ℕ) where
    abbrev number : ℕ
    number = (writing t buffer).number

    -- 37 is not the fault of a value
    no_value_says_37 : fault_of t ≡ 37 → ⊥
    unfolding fault_of
    no_value_says_37 e = go (otherwise_or_such 0 (value_says t))
      where
        go : (first_found 0 (value_tests t) ≡ 0) ⊎ ((10 ≤ first_found 0 (value_tests t)) × (first_found 0 (value_tests t) ≤ 22)) → ⊥
        go (inl none) = omega (arith, none, e)
        go (inr some) = omega (arith, some.1, e)

    short_if_37 : number ≡ 37 → (fault_of t ≡ 0) × (length buffer < length (bytes_of_table t))
    unfolding writing
    short_if_37 e = go (ℕ_discrete (fault_of t) 0) (dec_lt (length buffer) (length (bytes_of_table t)))
      where
        go : Dec (fault_of t ≡ 0) → Dec (length buffer < length (bytes_of_table t)) → (fault_of t ≡ 0) × (length buffer < length (bytes_of_table t))
        go (no fault) _ = absurd (no_value_says_37 (number_by_fault t buffer refl fault ∙ e))
        go (yes none) (yes short) = (none, short)
        go (yes none) (no long) = absurd (omega (arith, e, done_if_fits t buffer none (omega arith)))

pub written_exactly : WrittenExactly
unfolding writing
written_exactly t buffer can =
    record {
      is_0 = (
        λ done. let written = written_if_done t buffer done in ((faultless_exactly t).0 written.none, omega (arith, written.fits, needed t can written.none)),
        λ so. let none = (faultless_exactly t).1 so.0 in done_if_fits t buffer none (omega (arith, so.1, needed t can none)),
      );
      is_37 = (
        λ e. let short = short_if_37 t can buffer e in ((faultless_exactly t).0 short.0, omega (arith, short.1, needed t can short.0)),
        λ so. let none = (faultless_exactly t).1 so.0 in sym (number_by_room t buffer none (omega (arith, so.1, needed t can none))),
      );
      fault = λ not. sym (number_by_fault t buffer refl (λ none. not ((faultless_exactly t).0 none)));
    }

pub length_is_said : LengthIsSaid
length_is_said t buffer can done = let written = written_if_done t buffer done in written.long ∙ needed t can written.none
