-- That rows are chosen as PD2 picks, and that the promise of `picks` determines the marks. Assumes nothing.
use Prim.Native.Nat.{ℕ, ◌<◌, min}
use mathlib.Core.Path.{◌≡◌, refl, sym, ap, ◌∙◌}
use mathlib.Core.List.{List}
use mathlib.Core.Bool.{Bool, false, ◌&&◌}
use native.Mathlib.Decide.{dec_lt}
use native.Mathlib.Omega.{arith}
use borrow.Author.Tests.{lt-ltb}
use lib.ListN.{length, get_or, take}
use lib.Seq.{take_all, ext_get_or}
use Rattle.facts.specs.Determined.{Determined}
use Rattle.facts.proofs.Listing.{same_list}
use Rattle.table.specs.declared.Row.{Row}
use Rattle.pd2.specs.Order.{before}
use Rattle.pd2.specs.Picks.{picked}
use Rattle.pd2.specs.Choice.{ready_in, goes_before_by}
use Rattle.pd2.proofs.Picks.{same_picked}
use Rattle.pd2.proofs.Verdicts.{yes_when_answered}
use Rattle.trace.specs.Record.{marked}
use Rattle.trace.specs.Records.{names}
use Rattle.trace.proofs.Names.{listed_are_named}
use Rattle.choice.specs.Choice.{says_ready_in, ChosenAsPd2}

-- for callers

-- Where every row is answered, the rows that are chosen are those that PD2 picks.
pub chosen_as_pd2 : ChosenAsPd2
chosen_as_pd2 rows quanta favours t k all =
    same_list (picked (says_ready_in rows quanta t) goes_before n k) (picked (ready_in rows quanta t) goes_before n k) n
    (same_picked (says_ready_in rows quanta t) (ready_in rows quanta t) goes_before goes_before n k (λ i l. yes_when_answered (ready_in rows quanta t i) (all i l)) (λ i j l m. refl))
  where
    n : ℕ
    n = length rows

    goes_before : ℕ → ℕ → Bool
    goes_before = goes_before_by before rows quanta favours

-- Marks that name the same rows are the same,
same_marks : (a b : List Bool) → length a ≡ length b → marked a ≡ marked b → a ≡ b
same_marks a b long same = ext_get_or false a b long each
  where
    named : (l : List Bool) (i : ℕ) → i < length l → names (marked l) i ≡ get_or l i false
    named l i m = listed_are_named (λ j. get_or l j false) (length l) i ∙ ap (λ x. x && get_or l i false) (lt-ltb i (length l) m)

    each : (i : ℕ) → i < length a → get_or a i false ≡ get_or b i false
    each i m = sym (named a i m) ∙ (ap (λ rows. names rows i) same ∙ named b i (omega (arith, long)))

-- so the promise of `picks` determines them.
pub picks_are_determined : (picks : List ℕ) → Determined {R = List Bool} (λ r. (length r ≡ 32) × (marked r ≡ picks))
picks_are_determined picks a b p q = same_marks a b (p.0 ∙ sym q.0) (p.1 ∙ sym q.1)

-- for the function

-- No more rows are taken than there are.
pub no_more_than_all : (rows : List Row) (n : ℕ) → length rows ≡ 32 → take (min n 32) rows ≡ take n rows
no_more_than_all rows n many = go (dec_lt n 32)
  where
    go : Dec (n < 32) → take (min n 32) rows ≡ take n rows
    go (yes l) = let same : min n 32 ≡ n = omega arith in ap (λ m. take m rows) same
    go (no l) = take_all (min n 32) rows (omega arith) ∙ sym (take_all n rows (omega arith))
