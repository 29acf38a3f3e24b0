-- Two traces that agree have the same entries. Assumes nothing.
use Prim.Native.Nat.{ℕ, zero, suc, ◌*◌, ◌≤◌, ◌<◌}
use mathlib.Core.Path.{◌≡◌, refl, sym, ap₂, ◌∙◌}
use mathlib.Core.List.{List, ◌++◌}
use native.Mathlib.Omega.{arith}
use lib.ListN.{length, get_or}
use lib.Seq.{ext_get_or}
use Rattle.trace.specs.Records.{first_place, place_in}
use Rattle.trace.proofs.Agree.{Agree, place_agrees, count_agrees}
use Rattle.summary.specs.Summary.{spacing, counts_at, entry_bytes, entry_of, entries_of}
use Rattle.summary.proofs.Summary.{counts_long, count_at}

-- Traces that agree up to the place of a time have the same counts,
module _ (end : ℕ) (a b : List ℕ) (agree : Agree first_place end a b) where
  pub same_counts : (t : ℕ) → place_in b t ≤ end → counts_at a t ≡ counts_at b t
  same_counts t l = ext_get_or 0 (counts_at a t) (counts_at b t) (counts_long a t ∙ sym (counts_long b t)) each
    where
      each : (row : ℕ) → row < length (counts_at a t) → get_or (counts_at a t) row 0 ≡ get_or (counts_at b t) row 0
      each row h = count_at a t row (omega (arith, counts_long a t)) ∙ (count_agrees first_place end a b agree row t l ∙ sym (count_at b t row (omega (arith, counts_long a t))))

  -- the same entry,
  pub same_entry : (t : ℕ) → place_in b t ≤ end → entry_of a t ≡ entry_of b t
  same_entry t l = ap₂ (λ place counts. entry_bytes place counts) (place_agrees first_place end a b agree t l) (same_counts t l)

  -- and the same entries up to it.
  pub same_entries : (m : ℕ) → ((x : ℕ) → x < m → place_in b (spacing * x) ≤ end) → entries_of a m ≡ entries_of b m
  unfolding entries_of
  same_entries zero h = refl
  same_entries (suc m) h = ap₂ (λ x y. x ++ y) (same_entries m (λ x l. h x (omega arith))) (same_entry (spacing * m) (h m (omega arith)))
