-- What is known of an input. Assumes nothing.
use Prim.Native.Nat.{ℕ, zero, suc, ◌+◌, ◌-◌, ◌≤◌, ◌<◌}
use mathlib.Core.Path.{◌≡◌, refl}
use mathlib.Core.List.{List}
use mathlib.Core.Bool.{false, ◌||◌}
use native.Mathlib.Omega.{arith}
use borrow.Author.Tests.{lt-ltb, le-ltb, eq-eqb, ne_eqb, ltb-false, eqb-true, not-false}
use lib.Dec.{ltb}
use lib.ListN.{length}
use Rattle.facts.proofs.Tests.{neither_holds}
use Rattle.fields.specs.Fields.{byte}
use Rattle.printer.specs.Limits.{input_limit, run_limit}
use Rattle.printer.specs.Input.{slots_asked, list_length, list_place, listed_or, held_back, wrong_length, beyond_limit, above_limit, unfit}

-- An input that is taken.
pub record Fit (s : List ℕ) : Type 0 where
  pub long : length s ≡ list_place s + list_length s
  pub slots : slots_asked s ≤ run_limit

module _ (s : List ℕ) where
  -- An input within the limits and as long as its parts say is not fit only for its count of k values.
  pub listed_unfit : length s ≡ list_place s + list_length s → length s ≤ input_limit → slots_asked s ≤ run_limit → ltb (slots_asked s) (list_length s) ≡ unfit s
  unfolding unfit
  listed_unfit long few h =
      rw (eq-eqb (length s) (list_place s + list_length s) long, le-ltb input_limit (length s) few, le-ltb run_limit (slots_asked s) h)

  -- What is known where all have passed.
  pub is_fit : unfit s ≡ false → Fit s
  unfolding unfit
  is_fit h =
      let above = neither_holds (wrong_length s || beyond_limit s) (above_limit s) h in
      let lengths = neither_holds (wrong_length s) (beyond_limit s) above.0 in
      record {
        long = eqb-true (length s) (list_place s + list_length s) (not-false _ lengths.0);
        slots = ltb-false run_limit (slots_asked s) (neither_holds (ltb run_limit (slots_asked s)) (ltb (slots_asked s) (list_length s)) above.1).0;
      }

  -- A slot within the k list has its k,
  pub free_listed : (past : ℕ) {slot : ℕ} → slot < list_length s → byte s (list_place s + slot) ≡ listed_or s past slot
  unfolding listed_or
  free_listed past {slot} h = rw (lt-ltb slot (list_length s) h)

  -- and one past it what such slots use.
  pub free_past : (past : ℕ) {slot : ℕ} → list_length s ≤ slot → past ≡ listed_or s past slot
  unfolding listed_or
  free_past past {slot} h = rw (le-ltb slot (list_length s) h)

-- for callers

-- One core is held back, but not the only one.
pub held_back_of_few : (cores : ℕ) → cores < 2 → cores ≡ held_back cores
held_back_of_few zero h = refl
held_back_of_few (suc zero) h = refl
held_back_of_few (suc (suc cores)) h = absurd (omega arith)

pub held_back_of_more : (cores : ℕ) → 2 ≤ cores → cores - 1 ≡ held_back cores
held_back_of_more cores h = rw (ne_eqb cores 1 (λ e. omega (arith, h, e)))
