-- The k smallest keys, and the first that is left out. Assumes nothing.
use Prim.Native.Nat.{ℕ, ◌+◌, ◌≤◌, ◌<◌, min}
use mathlib.Core.Path.{◌≡◌, refl, sym, ap, ◌∙◌}
use mathlib.Core.List.{List}
use mathlib.Core.Bool.{Bool, true, false, ◌&&◌}
use mathlib.Core.Logic.{◌⊎◌, inl, inr}
use native.Mathlib.Decide.{dec_lt}
use native.Mathlib.Omega.{arith}
use lib.Dec.{ltb, eqb}
use lib.ListN.{length, take, replicate, get_or-replicate, length-take}
use Rattle.std.proofs.lemmas.List.{get_or-take}
use borrow.Author.Tests.{lt-ltb, le-ltb, eq-eqb, ltb-true, eqb-true}
use Rattle.facts.specs.Counting.{how_many}
use Rattle.facts.specs.Determined.{Determined}
use Rattle.facts.proofs.Counting.{none_counted, uncounted_if_failed, same_count, how_many_never, counts_grow, counted_one_more, no_more_than_all, counts_no_more, counts_fewer, counts_together, counts_one_at_most}
use Rattle.counts.specs.Limits.{most}
use Rattle.pd2.specs.Picks.{ahead, picked}
use Rattle.pd2.proofs.Picks.{picked_if_few_ahead, unready_is_not_picked}
use Rattle.choice.specs.Keys.{key_in, FirstLeft, Smallest, Spare, OneKeyMore}
use Rattle.choice.proofs.Inserted.{all_lower}

module _ (key : ℕ → ℕ) where
  -- Of no keys, the smallest are the largest number throughout,
  pub smallest_of_none : (size k : ℕ) → k ≤ size → Smallest key 0 k (replicate size most)
  smallest_of_none size k fits =
      record {
        rises = λ i j h l. omega (arith, each i (omega arith), each j (omega arith));
        counts = λ v h.
            let none = same_count (λ j. ltb (key_in (replicate size most) j) v) (λ j. false) k
            (λ i l. ap (λ x. ltb x v) (each i (omega arith)) ∙ le-ltb most v h) in
            omega (arith, none, how_many_never k, none_counted (λ i. ltb (key i) v));
      }
    where
      each : (i : ℕ) → i < size → key_in (replicate size most) i ≡ most
      each i l = get_or-replicate size i most 0 l

  -- While there are fewer keys than places, one place is free.
  spare : (k : ℕ) {i : ℕ} {best : List ℕ} → Smallest key i (k + 1) best → {last : ℕ} → last ≡ min i k → Spare (k + 1) best last
  spare k {i} {best} so {last} is = go (dec_lt i k) (dec_lt (key_in best last) most)
    where
      go : Dec (i < k) → Dec (key_in best last < most) → Spare (k + 1) best last
      go (no l) d = inl (omega arith)
      go (yes l) (no h) = inr (omega arith, omega arith)
      go (yes l) (yes h) =
          let all = all_lower best most (last + 1) (key_in best last) (λ j m. so.rises j last (omega arith) (omega arith)) h in
          let grow = counts_grow (λ j. ltb (key_in best j) most) (last + 1) (k + 1) (omega arith) in
          absurd (omega (arith, all, grow, so.counts most (omega arith), no_more_than_all (λ j. ltb (key j) most) i))

  -- Each key is one more.
  pub smallest_of_more : (k : ℕ) {i : ℕ} {best after : List ℕ} {last : ℕ} → Smallest key i (k + 1) best → last ≡ min i k → OneKeyMore best last (key i) after →
      Smallest key (i + 1) (k + 1) after
  smallest_of_more k {i} so is more =
      let with = more (k + 1) so.rises (spare k so is) in
      record {
        rises = with.rises;
        counts = λ v h. omega (arith, with.counts v h, so.counts v h, counted_one_more (λ i. ltb (key i) v) i);
      }

  -- The one behind the k smallest is the first that is left out,
  pub first_behind : (k : ℕ) {n : ℕ} {best : List ℕ} → Smallest key n (k + 1) best → key_in best k ≤ most → FirstLeft key n k (key_in best k)
  first_behind k {n} {best} so range =
      let first = key_in best k in
      let skips = uncounted_if_failed (λ j. ltb (key_in best j) first) k (le-ltb first first (omega arith)) in
      record {
        range = range;
        few = omega (arith, skips, no_more_than_all (λ j. ltb (key_in best j) first) k, so.counts first range);
        largest = λ low.
            let all = all_lower best (first + 1) (k + 1) first (λ i l. so.rises i k (omega arith) (omega arith)) (omega arith) in
            omega (arith, all, so.counts (first + 1) (omega arith));
      }

  -- and where there are no more than k, none is.
  pub none_left : {n k : ℕ} → n ≤ k → FirstLeft key n k most
  none_left {n} few = record { range = omega arith; few = omega (arith, no_more_than_all (λ j. ltb (key j) most) n); largest = λ l. absurd (omega arith) }

-- Of the keys at the front of an array the same is left out.
pub left_in_front : (keys : List ℕ) (n k : ℕ) {m j first : ℕ} → FirstLeft (key_in (take m keys)) (length (take m keys)) j first → m ≡ min n 32 → j ≡ min k 8 → length keys ≡ 32 →
    FirstLeft (key_in keys) (min n 32) (min k 8) first
left_in_front keys n k {m} {j} {first} so some cores long =
    record { range = so.range; few = omega (arith, so.few, front first); largest = λ l. omega (arith, so.largest l, front (first + 1)) }
  where
    front : (v : ℕ) → how_many (λ i. ltb (key_in (take m keys) i) v) (length (take m keys)) ≡ how_many (λ i. ltb (key_in keys i) v) (min n 32)
    front v =
        ap (how_many (λ i. ltb (key_in (take m keys) i) v)) (length-take m keys ∙ omega arith)
        ∙ same_count (λ i. ltb (key_in (take m keys) i) v) (λ i. ltb (key_in keys i) v) (min n 32) (λ i l. ap (λ x. ltb x v) (get_or-take m keys i 0 (omega arith)))

-- There is one such number alone.
pub first_left_is_determined : (key : ℕ → ℕ) (n k : ℕ) → Determined {R = ℕ} (FirstLeft key n k)
first_left_is_determined key n k a b p q = go (dec_lt a b) (dec_lt b a)
  where
    apart : {a b : ℕ} → FirstLeft key n k a → FirstLeft key n k b → a < b → ⊥
    apart {a} {b} p q l =
        let more = counts_no_more (λ j. ltb (key j) (a + 1)) (λ j. ltb (key j) b) n (λ j m e. lt-ltb (key j) b (omega (arith, ltb-true (key j) (a + 1) e))) in
        omega (arith, more, p.largest (omega (arith, q.range)), q.few)

    go : Dec (a < b) → Dec (b < a) → a ≡ b
    go (yes l) d = absurd (apart p q l)
    go (no l) (yes m) = absurd (apart q p m)
    go (no l) (no m) = omega arith

-- Each row has a key, the largest number if it is not ready, and no two that are ready have the same.
module _
    (ready : ℕ → Bool) (goes_before : ℕ → ℕ → Bool) (key : ℕ → ℕ) (n : ℕ)
    (unready : (i : ℕ) → i < n → ready i ≡ false → key i ≡ most)
    (is_ready : (i : ℕ) → i < n → ready i ≡ true → key i < most)
    (by_key : (j i : ℕ) → j < n → i < n → ready j ≡ true → ready i ≡ true → goes_before j i ≡ ltb (key j) (key i))
    (apart : (j i : ℕ) → j < i → i < n → ready j ≡ true → ready i ≡ true → key j ≡ key i → ⊥) where
  -- as many are ahead of a ready row as have smaller keys
  ahead_is : (i : ℕ) → i < n → ready i ≡ true → ahead ready goes_before n i ≡ how_many (λ j. ltb (key j) (key i)) n
  ahead_is i l h = same_count (λ j. ready j && goes_before j i) (λ j. ltb (key j) (key i)) n (λ j m. go j m (ready j) refl)
    where
      go : (j : ℕ) → j < n → (x : Bool) → ready j ≡ x → ready j && goes_before j i ≡ ltb (key j) (key i)
      go j m true e = rw (e, by_key j i m l e h)
      go j m false e = rw e (sym (le-ltb (key j) (key i) (omega (arith, unready j m e, is_ready i l h))))

  -- The picked rows are those whose keys lie before the first that is left out.
  pub picked_by_key : {k first : ℕ} → FirstLeft key n k first → (i : ℕ) → i < n → ltb (key i) first ≡ picked ready goes_before n k i
  picked_by_key {k} {first} left i l = go (ready i) refl (dec_lt (key i) first)
    where
      go : (x : Bool) → ready i ≡ x → Dec (key i < first) → ltb (key i) first ≡ picked ready goes_before n k i
      go false e d =
          le-ltb (key i) first (omega (arith, unready i l e, left.range)) ∙ sym (unready_is_not_picked ready goes_before n k i e)
      go true e (yes low) =
          let fewer = counts_fewer (λ j. ltb (key j) (key i)) (λ j. ltb (key j) first) n i l
          (λ j m less. lt-ltb (key j) first (omega (arith, ltb-true (key j) (key i) less))) (le-ltb (key i) (key i) (omega arith)) (lt-ltb (key i) first low) in
          lt-ltb (key i) first low
          ∙ sym (picked_if_few_ahead ready goes_before n k i e ∙ lt-ltb (ahead ready goes_before n i) k (omega (arith, ahead_is i l e, fewer, left.few)))
      go true e (no high) =
          let near = is_ready i l e in
          let together = counts_together (λ j. ltb (key j) (first + 1)) (λ j. ltb (key j) (key i)) (λ j. eqb (key j) (key i)) n (λ j m less. split j (ltb-true (key j) (first + 1) less) (dec_lt (key j) (key i))) in
          let one = counts_one_at_most (λ j. eqb (key j) (key i)) n
          (λ j m a b p q. twice j m a b (eqb-true (key j) (key i) p) (eqb-true (key m) (key i) q)) in
          le-ltb (key i) first (omega arith)
          ∙ sym (picked_if_few_ahead ready goes_before n k i e ∙ le-ltb (ahead ready goes_before n i) k (omega (arith, ahead_is i l e, together, one, left.largest (omega arith))))
        where
          split : (j : ℕ) → key j < first + 1 → Dec (key j < key i) → (ltb (key j) (key i) ≡ true) ⊎ (eqb (key j) (key i) ≡ true)
          split j less (yes a) = inl (lt-ltb (key j) (key i) a)
          split j less (no a) = inr (eq-eqb (key j) (key i) (omega arith))

          -- a row with the key of a ready one is ready
          ready_too : (j : ℕ) → j < n → key j ≡ key i → ready j ≡ true
          ready_too j m same = here (ready j) refl
            where
              here : (x : Bool) → ready j ≡ x → ready j ≡ true
              here true e' = e'
              here false e' = absurd (omega (arith, unready j m e', is_ready i l e))

          twice : (j m : ℕ) → j < m → m < n → key j ≡ key i → key m ≡ key i → ⊥
          twice j m a b p q = apart j m a b (ready_too j (omega arith) p) (ready_too m b q) (omega arith)
