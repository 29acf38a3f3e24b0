-- No pick changes. Assumes nothing.
-- The order asks for D only where both bits are 1; the two group deadlines differ only at weight one half, and there the bit is 0.
use Prim.Native.Nat.{ℕ, ◌+◌}
use mathlib.Core.Path.{◌≡◌, refl, sym, ◌∙◌}
use mathlib.Core.List.{List}
use mathlib.Core.Bool.{Bool}
use native.Mathlib.Decide.{ℕ_discrete}
use native.Mathlib.Omega.{arith}
use borrow.Author.Tests.{eq-eqb, ne_eqb}
use lib.ListN.{length}
use Rattle.windows.proofs.Half.{moved_at_half}
use Rattle.table.specs.declared.Row.{Row}
use Rattle.pd2.specs.Ready.{origin_of}
use Rattle.pd2.specs.Order.{Rank, rank_of, before}
use Rattle.pd2.specs.Picks.{picks}
use Rattle.pd2.specs.Choice.{row_at, quanta_at, ready_in, goes_before_by}
use Rattle.pd2.specs.Half.{with_group, former_group_of, went_before, NoPickChanges}

-- Other group deadlines change nothing if they are the same wherever the bit is 1.
only_bit_1_is_asked : (x y : Rank) (D E : ℕ) → (x.b ≡ 1 → x.D ≡ D) → (y.b ≡ 1 → y.D ≡ E) → before x y ≡ before (with_group x D) (with_group y E)
unfolding before
only_bit_1_is_asked x y D E same_x same_y = go (ℕ_discrete x.b 1) (ℕ_discrete y.b 1)
  where
    go : Dec (x.b ≡ 1) → Dec (y.b ≡ 1) → before x y ≡ before (with_group x D) (with_group y E)
    go (yes one) (yes also) = rw (same_x one, same_y also) refl
    go (yes one) (no none) = rw (eq-eqb x.b 1 one, ne_eqb y.b 1 none, ne_eqb x.b y.b (λ e. none (sym e ∙ one))) refl
    go (no none) _ = rw (ne_eqb x.b 1 none) refl

-- Where its bit is 1, a row's group deadline is what it was.
same_at_bit_1 : (row : Row) (i q : ℕ) → (rank_of row i q).b ≡ 1 → (rank_of row i q).D ≡ former_group_of row q
same_at_bit_1 row i q one =
    moved_at_half.elsewhere_same row.cost row.period (origin_of row) (q + 1)
    (λ half. omega (arith, one, moved_at_half.bit_is_0 row.cost row.period (q + 1) half))

-- So a row goes before another exactly if it did,
same_order : (rows : List Row) (quanta : List ℕ) (favours : ℕ → Bool) (j i : ℕ) → goes_before_by before rows quanta favours j i ≡ went_before rows quanta favours j i
same_order rows quanta favours j i =
    only_bit_1_is_asked _ _ _ _ (same_at_bit_1 (row_at rows j) j (quanta_at quanta j)) (same_at_bit_1 (row_at rows i) i (quanta_at quanta i))

-- and the same rows are picked, whoever is ready.
pub same_picks : (ready : ℕ → Bool) (rows : List Row) (quanta : List ℕ) (favours : ℕ → Bool) (n k : ℕ) →
    picks ready (goes_before_by before rows quanta favours) n k ≡ picks ready (went_before rows quanta favours) n k
same_picks ready rows quanta favours n k = λ z. picks ready (λ j i. same_order rows quanta favours j i z) n k

pub no_pick_changes : NoPickChanges
no_pick_changes = record { order = same_order; picks = λ rows quanta favours t k. same_picks (ready_in rows quanta t) rows quanta favours (length rows) k }
