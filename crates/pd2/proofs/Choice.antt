-- PD2's order is strict among the rows of a table; what giving does; where rows stand. Assumes nothing.
use Prim.Native.Nat.{ℕ, zero, suc, ◌+◌, ◌≤◌, ◌<◌}
use mathlib.Core.Path.{◌≡◌, refl, sym, ap, ◌∙◌}
use mathlib.Core.List.{List, [], ◌∷◌}
use mathlib.Core.Bool.{Bool, true, false, cond}
use mathlib.Core.Logic.{inl, inr, ⊎_elim}
use native.Mathlib.Nat.{le_of_suc-le-suc, not-suc-le-zero}
use native.Mathlib.Omega.{arith}
use lib.ListN.{length, get_or, take, length-take}
use lib.Seq.{get_or-take}
use Rattle.facts.proofs.Filling.{get_d_any}
use Rattle.windows.specs.Windows.{bit}
use Rattle.windows.proofs.Windows.{bit_is_0_or_1}
use Rattle.table.specs.declared.Row.{Row}
use Rattle.table.specs.Causes.{zero_row}
use Rattle.pd2.specs.Order.{Rank, before}
use Rattle.pd2.specs.Choice.{row_at, quanta_at, rank_at, given, Pd2IsStrict}
use Rattle.pd2.proofs.Order.{order_is_irreflexive, order_is_transitive, order_is_total, before_means_rule}

-- a test that would make a row go before itself fails
not_itself : (x : Rank) → before x x ≡ false
not_itself x = go (before x x) refl
  where
    go : (t : Bool) → before x x ≡ t → before x x ≡ false
    go true e = absurd (order_is_irreflexive ((before_means_rule x x).0 e))
    go false e = e

bit_is_small : (row : Row) (q : ℕ) → bit row.cost row.period (q + 1) ≤ 1
bit_is_small row q =
    ⊎_elim (λ z. omega (arith, z)) (λ z. omega (arith, z)) (bit_is_0_or_1 row.cost row.period (q + 1))

pub pd2_is_strict : Pd2IsStrict
pd2_is_strict rows quanta favours t n =
    record {
      irreflexive = λ i _. not_itself (rank i);
      transitive = λ i j k _ _ _ p q.
          (before_means_rule (rank i) (rank k)).1
          (order_is_transitive ((before_means_rule (rank i) (rank j)).0 p) ((before_means_rule (rank j) (rank k)).0 q));
      total = λ i j l _ _ _.
          ⊎_elim
          (λ b. inl ((before_means_rule (rank i) (rank j)).1 b))
          (λ b. inr ((before_means_rule (rank j) (rank i)).1 b))
          (order_is_total (rank i) (rank j) (bit_is_small (row_at rows i) (quanta_at quanta i)) (bit_is_small (row_at rows j) (quanta_at quanta j)) (λ e. omega arith));
    }
  where
    rank : ℕ → Rank
    rank = rank_at rows quanta favours

-- Giving keeps the places,
pub how_many_given : (is_picked : ℕ → Bool) (i : ℕ) (quanta : List ℕ) → length (given is_picked i quanta) ≡ length quanta
unfolding given
how_many_given is_picked i [] = refl
how_many_given is_picked i (q ∷ quanta) = ap suc (how_many_given is_picked (i + 1) quanta)

-- and each picked row has one quantum more.
pub given_at : (is_picked : ℕ → Bool) (i : ℕ) (quanta : List ℕ) (j : ℕ) → j < length quanta →
    quanta_at (given is_picked i quanta) j ≡ quanta_at quanta j + cond (is_picked (i + j)) 1 0
unfolding given
given_at is_picked i [] j h = absurd (not-suc-le-zero h)
given_at is_picked i (q ∷ quanta) zero h = ap (λ k. q + cond (is_picked k) 1 0) {x = i} {y = i + 0} (omega arith)
given_at is_picked i (q ∷ quanta) (suc j) h =
    given_at is_picked (i + 1) quanta j (le_of_suc-le-suc h)
    ∙ ap (λ k. quanta_at quanta j + cond (is_picked k) 1 0) {x = i + 1 + j} {y = i + suc j} (omega arith)

-- Giving to the places in front is giving to all, seen in front.
pub given_in_front : (is_picked : ℕ → Bool) (n i : ℕ) (quanta : List ℕ) → take n (given is_picked i quanta) ≡ given is_picked i (take n quanta)
unfolding given
given_in_front is_picked zero i quanta = refl
given_in_front is_picked (suc n) i [] = refl
given_in_front is_picked (suc n) i (q ∷ quanta) = ap (λ rest. (q + cond (is_picked i) 1 0) ∷ rest) (given_in_front is_picked n (i + 1) quanta)

-- The first n rows stand in their array.
pub row_there : (rows : List Row) (n i : ℕ) (d : Row) → i < length (take n rows) → get_or rows i d ≡ row_at (take n rows) i
row_there rows n i d l =
    get_d_any rows i d zero_row (omega (arith, length-take n rows)) ∙ sym (get_or-take n rows i zero_row (omega (arith, length-take n rows)))
