-- For the code: the picked rows, marked one after the other. Assumes nothing.
use Prim.Native.Nat.{ℕ, ◌+◌, ◌≤◌, ◌<◌}
use mathlib.Core.Path.{◌≡◌, refl, sym, ap, ◌∙◌}
use mathlib.Core.List.{List}
use mathlib.Core.Bool.{true, cond, or-true, or-false}
use mathlib.Core.Logic.{⊎_elim}
use native.Mathlib.Decide.{ℕ_discrete}
use native.Mathlib.Omega.{arith}
use borrow.Author.Tests.{eq-eqb, ne_eqb, eqb-true}
use lib.Dec.{eqb}
use lib.ListN.{length, get_or, take, set, replicate, length-set, length-replicate, get_or-replicate}
use lib.Seq.{take_all, get_or-set_same, get_or-set_other}
use Rattle.facts.proofs.Tests.{one_of_two}
use Rattle.trace.specs.Records.{names}
use Rattle.trace.proofs.Names.{names_nothing, named_one_more}
use Rattle.cores.specs.Sets.{set_limit}
use Rattle.cores.specs.Turns.{not_picked, Picks}
use Rattle.cores.proofs.Naming.{names_none}

-- The first i rows are marked.
pub record PickedSoFar (rows own : List ℕ) (i : ℕ) : Type 0 where
  pub within : i ≤ length rows
  pub long : length own ≡ 256
  pub marks : Picks (take i rows) own

module _ (rows : List ℕ) where
  -- It begins with no row,
  pub picking_begins : PickedSoFar rows (replicate 256 33) 0
  picking_begins =
      let long = length-replicate {A = ℕ} 256 33 in
      record {
        within = omega arith;
        long = long;
        marks = record {
          small = λ row h. absurd (names_none row h);
          says = λ row l. get_or-replicate 256 row 33 0 (omega (arith, long)) ∙ ap (λ t. cond t set_limit not_picked) (sym (names_nothing row));
        };
      }

  -- marks one row more,
  pub picks_one_more : {own : List ℕ} {i : ℕ} → PickedSoFar rows own i → i < length rows → get_or rows i 0 < 256 → PickedSoFar rows (set own (get_or rows i 0) 32) (i + 1)
  picks_one_more {own} {i} so l low =
      record { within = omega arith; long = longer ∙ so.long; marks = record { small = small; says = λ row h. says row (omega (arith, longer)) (ℕ_discrete here row) } }
    where
      here : ℕ
      here = get_or rows i 0

      longer : length (set own here 32) ≡ length own
      longer = length-set own here 32

      small : (row : ℕ) → names (take (i + 1) rows) row ≡ true → row < length (set own here 32)
      small row h =
          rw longer
          (⊎_elim
          (so.marks.small row)
          (λ e. omega (arith, eqb-true here row e, low, so.long))
          (one_of_two (names (take i rows) row) (eqb here row) (sym (named_one_more rows i row l) ∙ h)))

      says : (row : ℕ) → row < length own → Dec (here ≡ row) → get_or (set own here 32) row 0 ≡ cond (names (take (i + 1) rows) row) set_limit not_picked
      says row h (yes e) =
          rw (← e, named_one_more rows i here l, eq-eqb here here refl, or-true (names (take i rows) here)) (get_or-set_same own here 32 0 (omega (arith, so.long)))
      says row h (no n) =
          rw (named_one_more rows i row l, ne_eqb here row n, or-false (names (take i rows) row))
          (get_or-set_other own here row 32 0 (λ e. n (sym e)) ∙ so.marks.says row h)

  -- and ends with all.
  pub picks_all : {own : List ℕ} {i : ℕ} → PickedSoFar rows own i → length rows ≤ i → Picks rows own
  picks_all {i = i} so h = rw (take_all i rows h) at so.marks
