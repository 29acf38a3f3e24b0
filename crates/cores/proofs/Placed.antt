-- Rows and cores as a placement: what it lists, and that it is a memory without fault. Assumes nothing.
use Prim.Native.Nat.{ℕ, ◌≤◌, ◌<◌}
use mathlib.Core.Path.{◌≡◌, refl, sym, ◌∙◌}
use mathlib.Core.List.{List, []}
use mathlib.Core.Bool.{Bool, true, false}
use native.Mathlib.Omega.{arith}
use lib.ListN.{length, get_or, get_or-append}
use lib.Seq.{take-append_seam, take_at}
use Rattle.table.specs.Limits.{core_limit}
use Rattle.cores.specs.Placement.{row_in, core_in, rows_placed, cores_placed, nobody, placement}
use Rattle.cores.specs.Cores.{Rising}
use Rattle.cores.specs.Fault.{misremembers}
use Rattle.cores.proofs.Fault.{misremembers_or_remembers}

-- For callers: a placement lists the rows and the cores of which it is made.
pub placed_lists : (rows cores : List ℕ) → length cores ≡ length rows → (rows_placed (placement rows cores) ≡ rows) × (cores_placed (placement rows cores) ≡ cores)
placed_lists rows cores same = (take-append_seam rows _, take_at cores _ (length rows) same)

-- For callers: rows that rise, each a row, on cores that differ, each of them there, are a memory without fault.
pub no_fault : (rows cores : List ℕ) (is_row : ℕ → Bool) (m : ℕ) → length cores ≡ length rows → length rows ≤ core_limit → Rising rows →
    ((i : ℕ) → i < length rows → is_row (get_or rows i 0) ≡ true) → ((i j : ℕ) → i < j → j < length cores → get_or cores i 0 ≡ get_or cores j 0 → ⊥) →
    ((i : ℕ) → i < length cores → get_or cores i 0 < m) → misremembers (placement rows cores) is_row m ≡ false
no_fault rows cores is_row m same few rise row_is_there differ is_core =
    (misremembers_or_remembers (placement rows cores) is_row m).1
    (record {
      few = few;
      apart = record {
        rows = λ i j l h e. let b : j < length rows = omega arith in omega (arith, rise i j l b, row_at_is i (omega arith), row_at_is j b);
        cores = λ i j l h e. let b : j < length cores = omega arith in differ i j l b (sym (core_at i (omega arith)) ∙ e ∙ core_at j b);
      };
      rising = λ i j l h. let b : j < length rows = omega arith in omega (arith, rise i j l b, row_at_is i (omega arith), row_at_is j b);
      core = λ i l. rw (core_at i (omega arith)) (is_core i (omega arith));
      row = λ i l. rw (row_at_is i (omega arith)) (row_is_there i (omega arith));
    })
  where
    row_at_is : (i : ℕ) → i < length rows → row_in (placement rows cores) i ≡ get_or rows i 0
    row_at_is i l = get_or-append rows _ 0 i l

    core_at : (i : ℕ) → i < length cores → core_in (placement rows cores) i ≡ get_or cores i 0
    core_at i l = get_or-append cores _ 0 i l

-- For callers: so is one of nobody.
pub nobody_is_remembered : (is_row : ℕ → Bool) (m : ℕ) → misremembers nobody is_row m ≡ false
nobody_is_remembered is_row m =
    no_fault [] [] is_row m refl (omega arith) (λ i j l h. absurd (omega arith)) (λ i l. absurd (omega arith)) (λ i j l h e. omega arith) (λ i l. absurd (omega arith))
