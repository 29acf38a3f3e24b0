-- Who is favoured in a slot. Assumes nothing.
use Prim.Native.Nat.{ℕ, ◌≤◌, ◌<◌}
use mathlib.Core.Path.{◌≡◌, refl, sym, ap, ◌∙◌}
use mathlib.Core.List.{List}
use mathlib.Core.Bool.{Bool, false}
use native.Mathlib.Omega.{arith}
use borrow.Author.Tests.{eq-eqb, ne_eqb}
use lib.ListN.{length, replicate, length-replicate, get_or-replicate}
use Rattle.facts.proofs.Listing.{same_list, listed_pass}
use Rattle.facts.proofs.Places.{marks_long, mark_at, are_marks}
use Rattle.table.specs.declared.Row.{Row}
use Rattle.table.specs.Limits.{row_limit}
use Rattle.pd2.specs.Order.{before}
use Rattle.pd2.specs.Choice.{ready_in, goes_before_by, pd2_picks}
use Rattle.pd2.proofs.Picks.{same_picked}
use Rattle.choice.specs.Choice.{favours_marked}
use Rattle.cores.specs.Placement.{ran_before, ran_marks}
use Rattle.dispatcher.specs.declared.State.{State}
use Rattle.dispatcher.specs.State.{rows_in, quanta_in, time_of}
use Rattle.dispatcher.specs.Slot.{favoured_in}
use Rattle.dispatcher.specs.Favoured.{favoured_marks, PicksByMarks}
use Rattle.dispatcher.specs.Looking.{key_at, ReadyKeys}

-- Where the same rows are favoured,
module _ (rows : List Row) (quanta : List ℕ) {favours favours' : ℕ → Bool} (same : (row : ℕ) → row < length rows → favours row ≡ favours' row) where
  -- the same are picked,
  pub same_favours : (t k : ℕ) → pd2_picks rows quanta favours t k ≡ pd2_picks rows quanta favours' t k
  same_favours t k =
      same_list _ _ (length rows)
      (same_picked (ready_in rows quanta t) (ready_in rows quanta t) (goes_before_by before rows quanta favours) (goes_before_by before rows quanta favours') (length rows) k
      (λ i l. refl)
      (λ i j l m. rw (same i l, same j m) refl))

  -- and the keys are the same.
  pub same_keys : {t : ℕ} {keys : List ℕ} {found : ℕ} → ReadyKeys rows quanta favours t keys found → ReadyKeys rows quanta favours' t keys found
  same_keys {t} {keys} {found} so =
      record {
        few = so.few;
        count = so.count;
        each = λ j l. so.each j l ∙ alike _ (listed_pass (ready_in rows quanta t) (length rows) j 0 (omega (arith, so.count))).0;
        low = λ i l h. rw (sym (alike i l)) (so.low i l h);
        has = λ i l h. rw (sym (same i l)) (so.has i l h);
      }
    where
      alike : (i : ℕ) → i < length rows → key_at rows quanta favours i ≡ key_at rows quanta favours' i
      alike i l = rw (same i l) refl

-- The marks of a state say of each row whether it is favoured,
pub favour_at : (s : State) → length (rows_in s) ≤ row_limit → (row : ℕ) → row < length (rows_in s) → favours_marked (favoured_marks s) row ≡ favoured_in s row
favour_at s few row l = mark_at (favoured_in s) row_limit row (omega arith)

-- so with them the same rows are picked,
pub picks_by_marks : PicksByMarks
picks_by_marks s k few = same_favours (rows_in s) (quanta_in s) (favour_at s few) (time_of s) k

-- and the keys are the same.
pub keys_by_marks : (s : State) → length (rows_in s) ≤ row_limit → {marks : List Bool} → marks ≡ favoured_marks s → {keys : List ℕ} {found : ℕ} →
    ReadyKeys (rows_in s) (quanta_in s) (favours_marked marks) (time_of s) keys found → ReadyKeys (rows_in s) (quanta_in s) (favoured_in s) (time_of s) keys found
keys_by_marks s few same = same_keys (rows_in s) (quanta_in s) (λ row l. ap (λ marks. favours_marked marks row) same ∙ favour_at s few row l)

-- for the function

-- In format 2 they are those that ran,
pub kind_marks : (s : State) → s.table.format ≡ 2 → ran_marks s.last ≡ favoured_marks s
kind_marks s two =
    are_marks (favoured_in s) row_limit (marks_long (ran_before s.last) row_limit)
    (λ row l. mark_at (ran_before s.last) row_limit row l ∙ rw (eq-eqb s.table.format 2 two) refl)

-- and else there are none.
pub no_marks : (s : State) → (s.table.format ≡ 2 → ⊥) → replicate 32 false ≡ favoured_marks s
no_marks s other =
    are_marks (favoured_in s) row_limit (length-replicate 32 false)
    (λ row l. get_or-replicate 32 row false false l ∙ rw (ne_eqb s.table.format 2 other) refl)
