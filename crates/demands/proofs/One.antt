-- Demand 1. Assumes nothing.
use Prim.Native.Nat.{ℕ, ◌≤◌}
use mathlib.Core.Path.{◌≡◌, refl, sym, ◌∙◌}
use mathlib.Core.List.{List}
use mathlib.Core.Logic.{◌⊎◌, inl, inr, ⊎_elim}
use native.Mathlib.Decide.{ℕ_discrete}
use native.Mathlib.Omega.{arith}
use Rattle.windows.proofs.Question.{windows_are_answered}
use Rattle.windows.proofs.Windows.{next_start_is_d_less_b}
use Rattle.windows.proofs.LeastTime.{walk_gives_least_time}
use Rattle.windows.proofs.Group.{light_has_none}
use Rattle.windows.specs.Fits.{InReach}
use Rattle.windows.proofs.Next.{next_in_reach, due_in_reach}
use Rattle.table.specs.Bytes.{table_number, table_in}
use Rattle.table.proofs.Taken.{number_read, table_read, numbers_are_first_causes, numbers_are_10_to_22, taken_where_no_cause, no_table_read, past_is_zero}
use Rattle.table.proofs.Faultless.{taken_exactly, faultless_exactly}
use Rattle.pd2.proofs.Verdicts.{answered_in_reach}
use Rattle.trace.specs.Said.{bare}
use Rattle.trace.proofs.Found.{found_if_all_inside, part_is_record}
use Rattle.dispatcher.proofs.Kept.{refusal_changes_nothing, fault_answers_30}
use Rattle.dispatcher.proofs.Places.{slot_numbers, bare_unless_late, past_is_returned, past_is_ignored}
use Rattle.checker.specs.Check.{trace_said, check_of}
use Rattle.checker.proofs.Passes.{numbers_are_first_found, judges_table_first, trace_numbers, bare_unless_named}
use Rattle.checker.proofs.Sound.{rising_exactly}
use Rattle.demands.specs.One.{Questions, Tables, Slots, Checks, DemandOne}
use Rattle.demands.proofs.Refusals.{broken_exactly, slot_exactly}

-- Numbers up to one past the time limit are within reach.
questions : Questions
questions =
    record {
      row = λ row q t cost weight few soon. answered_in_reach row q t (record { cost = cost; weight = weight }) (omega arith) (omega arith);
      next_is = λ e p f q cost weight near few.
          let reached : InReach e p f q = record { cost = cost; weight = weight; origin = omega arith; quanta = omega arith } in
          record { time = λ of. next_in_reach of reached; due = due_in_reach reached };
    }

tables : Tables
tables =
    record {
      numbers = numbers_are_10_to_22;
      refused = numbers_are_first_causes;
      taken = taken_where_no_cause;
      taken_exactly = taken_exactly;
      faultless_exactly = faultless_exactly;
      number = number_read;
      table = table_read;
      past = past_is_zero;
      no_table = no_table_read;
    }

slots : Slots
slots =
    record {
      broken_exactly = broken_exactly;
      exactly = slot_exactly;
      numbers = slot_numbers;
      faulty = fault_answers_30;
      parts = bare_unless_late;
      returned = past_is_returned;
      ignored = past_is_ignored;
    }

-- The check of bytes: where the table is taken, what is said of its trace; else the table's number.
module _ (bytes s : List ℕ) where
  trace_says : table_number bytes ≡ 0 → check_of bytes s ≡ trace_said (table_in bytes) s
  trace_says = (judges_table_first bytes s).1

  table_says : (table_number bytes ≡ 0 → ⊥) → check_of bytes s ≡ bare (table_number bytes)
  table_says = (judges_table_first bytes s).0

  check_numbers :
      let number = (check_of bytes s).number in
      (number ≡ 0) ⊎ ((10 ≤ number) × (number ≤ 22)) ⊎ ((40 ≤ number) × (number ≤ 47))
  check_numbers = go (ℕ_discrete (table_number bytes) 0)
    where
      go : Dec (table_number bytes ≡ 0) →
          let number = (check_of bytes s).number in
          (number ≡ 0) ⊎ ((10 ≤ number) × (number ≤ 22)) ⊎ ((40 ≤ number) × (number ≤ 47))
      go (yes e) = rw (trace_says e) (⊎_elim inl (λ r. inr (inr r)) (trace_numbers (table_in bytes) s))
      go (no n) = rw (table_says n) (⊎_elim (λ e. absurd (n e)) (λ r. inr (inl r)) (numbers_are_10_to_22 bytes))

  check_parts : ((check_of bytes s).number ≡ 44 → ⊥) → ((check_of bytes s).number ≡ 45 → ⊥) → check_of bytes s ≡ bare (check_of bytes s).number
  check_parts = go (ℕ_discrete (table_number bytes) 0)
    where
      go : Dec (table_number bytes ≡ 0) → ((check_of bytes s).number ≡ 44 → ⊥) → ((check_of bytes s).number ≡ 45 → ⊥) → check_of bytes s ≡ bare (check_of bytes s).number
      go (yes e) = rw (trace_says e) (bare_unless_named (table_in bytes) s)
      go (no n) = rw (table_says n) (λ a b. refl)

checks : Checks
checks =
    record {
      numbers = check_numbers;
      table_refused = table_says;
      trace_refused = λ bytes s x e nonzero.
          let means = numbers_are_first_found (table_in bytes) s x nonzero in
          (λ h. means.0 (sym (trace_says bytes s e) ∙ h), λ first. trace_says bytes s e ∙ means.1 first);
      rising = rising_exactly;
      parts = check_parts;
    }

pub demand_one : DemandOne
demand_one =
    record {
      questions = questions;
      windows = record { answered = windows_are_answered; next_start = next_start_is_d_less_b; group = walk_gives_least_time; light = light_has_none };
      tables = tables;
      slots = slots;
      checks = checks;
      records = record { found = found_if_all_inside; itself = part_is_record; begins = λ trace s h. rw h refl; nothing = λ trace s h. (rw h, rw h) };
      hands_back = refusal_changes_nothing;
    }
