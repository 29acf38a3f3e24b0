-- The lowest-ranked picked row: there is one, only one, and it is found. Assumes nothing.
use Prim.Native.Nat.{ℕ, zero, suc, ◌-◌, ◌≤◌, ◌<◌}
use mathlib.Core.Path.{◌≡◌, refl, sym, ap, ◌∙◌}
use mathlib.Core.Bool.{Bool, true, false, not, ◌&&◌, true≢false}
use mathlib.Core.Logic.{◌⊎◌, inl, inr, ⊎_elim}
use native.Mathlib.Decide.{ℕ_discrete, dec_lt}
use native.Mathlib.Omega.{arith}
use borrow.Author.Tests.{not-true}
use Rattle.facts.specs.Counting.{some, how_many}
use Rattle.facts.proofs.Counting.{counts_no_more}
use Rattle.facts.proofs.Some.{some_or_none, none_if, each_fails}
use Rattle.facts.proofs.Loops.{found}
use Rattle.facts.proofs.Tests.{both, hold_both, not_without}
use Rattle.pd2.specs.Picks.{picked, Strict}
use Rattle.pd2.proofs.Picks.{picked_is_ready, picked_has_few_ahead, left_out, fewer_ahead, as_many_as_can_be}
use Rattle.why.specs.Lowest.{LowestPicked, is_lowest, lowest_picked, OneLowest}

-- a number below m + 1 is below m, or m
last_or_not : (other m : ℕ) → other < suc m → (other < m) ⊎ (other ≡ m)
last_or_not other m h = go (dec_lt other m)
  where
    go : Dec (other < m) → (other < m) ⊎ (other ≡ m)
    go (yes y) = inl y
    go (no y) = inr (omega arith)

module _ (is_picked : ℕ → Bool) (goes_before : ℕ → ℕ → Bool) (n : ℕ) (order : Strict is_picked goes_before n) where
  -- Of two picked rows one goes before the other,
  pub one_before : (i j : ℕ) → i < n → j < n → (i ≡ j → ⊥) → is_picked i ≡ true → is_picked j ≡ true → (goes_before i j ≡ true) ⊎ (goes_before j i ≡ true)
  one_before i j a b differ p q = go (dec_lt i j) (dec_lt j i)
    where
      go : Dec (i < j) → Dec (j < i) → (goes_before i j ≡ true) ⊎ (goes_before j i ≡ true)
      go (yes l) w = order.total i j l b p q
      go (no l) (yes m) = ⊎_elim inr inl (order.total j i m a q p)
      go (no l) (no m) = absurd (differ (omega arith))

  -- and not the other before it too.
  pub not_both_ways : (i j : ℕ) → i < n → j < n → goes_before i j ≡ true → goes_before j i ≡ true → ⊥
  not_both_ways i j a b p q = true≢false (sym (order.transitive i j i a b a p q) ∙ order.irreflexive i a)

  -- the lowest of the picked rows below m
  record Below (m i : ℕ) : Type 0 where
    low : i < m
    is_in : is_picked i ≡ true
    behind : (other : ℕ) → other < m → is_picked other ≡ true → (other ≡ i → ⊥) → goes_before other i ≡ true

  abbrev NoneOrLowest : ℕ → Type 0
  NoneOrLowest m = ((i : ℕ) → i < m → is_picked i ≡ false) ⊎ ((i : ℕ) × Below m i)

  -- row m is not picked: nothing changes
  passes : (m : ℕ) → is_picked m ≡ false → NoneOrLowest m → NoneOrLowest (suc m)
  passes m e (inl none) = inl (λ i h. ⊎_elim (none i) (λ s. ap is_picked s ∙ e) (last_or_not i m h))
  passes m e (inr (i, b)) =
      inr (
        i,
        record {
          low = omega (arith, b.low);
          is_in = b.is_in;
          behind = λ other h p d. ⊎_elim (λ y. b.behind other y p d) (λ s. absurd (true≢false (sym p ∙ ap is_picked s ∙ e))) (last_or_not other m h);
        },
      )

  -- row m is picked: it is the lowest, or the one before stays
  takes : (m : ℕ) → m < n → is_picked m ≡ true → NoneOrLowest m → Below (suc m) m ⊎ ((i : ℕ) × Below (suc m) i)
  takes m l e (inl none) =
      inl (record { low = omega arith; is_in = e; behind = λ other h p d. ⊎_elim (λ y. absurd (true≢false (sym p ∙ none other y))) (λ s. absurd (d s)) (last_or_not other m h) })
  takes m l e (inr (i, b)) = ⊎_elim lower stays (one_before i m (omega (arith, b.low)) l (λ s. omega (arith, b.low, s)) b.is_in e)
    where
      after : goes_before i m ≡ true → (other : ℕ) → other < m → is_picked other ≡ true → Dec (other ≡ i) → goes_before other m ≡ true
      after t other y p (yes s) = rw s t
      after t other y p (no s) = order.transitive other i m (omega arith) (omega (arith, b.low)) l (b.behind other y p s) t

      lower : goes_before i m ≡ true → Below (suc m) m ⊎ ((j : ℕ) × Below (suc m) j)
      lower t = inl (record { low = omega arith; is_in = e; behind = λ other h p d. ⊎_elim (λ y. after t other y p (ℕ_discrete other i)) (λ s. absurd (d s)) (last_or_not other m h) })

      stays : goes_before m i ≡ true → Below (suc m) m ⊎ ((j : ℕ) × Below (suc m) j)
      stays t = inr (i, record { low = omega (arith, b.low); is_in = b.is_in; behind = λ other h p d. ⊎_elim (λ y. b.behind other y p d) (λ s. rw s t) (last_or_not other m h) })

  lowest_below : (m : ℕ) → m ≤ n → NoneOrLowest m
  lowest_below zero l = inl (λ i h. absurd (omega arith))
  lowest_below (suc m) l = go (is_picked m) refl (lowest_below m (omega arith))
    where
      go : (t : Bool) → is_picked m ≡ t → NoneOrLowest m → NoneOrLowest (suc m)
      go false e so = passes m e so
      go true e so = inr (⊎_elim (λ b. (m, b)) (λ b. b) (takes m l e so))

  a_lowest : some is_picked n ≡ true → (i : ℕ) × LowestPicked is_picked goes_before n i
  a_lowest h =
      ⊎_elim (λ none. absurd (true≢false (sym h ∙ none_if is_picked n none)))
      (λ f. (f.0, record { row_is_there = f.1.low; row_is_picked = f.1.is_in; behind_all = f.1.behind }))
      (lowest_below n (omega arith))

  one_alone : (i j : ℕ) → LowestPicked is_picked goes_before n i → LowestPicked is_picked goes_before n j → i ≡ j
  one_alone i j p q = go (ℕ_discrete i j)
    where
      go : Dec (i ≡ j) → i ≡ j
      go (yes s) = s
      go (no s) =
          absurd
          (not_both_ways i j p.row_is_there q.row_is_there
          (q.behind_all i p.row_is_there p.row_is_picked s) (p.behind_all j q.row_is_there q.row_is_picked (λ t. s (sym t))))

  -- the lowest passes the test,
  tested : (i : ℕ) → LowestPicked is_picked goes_before n i → is_lowest is_picked goes_before n i ≡ true
  tested i p = hold_both p.row_is_picked (rw (none_if (λ other. is_picked other && goes_before i other) n nobody))
    where
      nobody : (other : ℕ) → other < n → is_picked other && goes_before i other ≡ false
      nobody other l = go (is_picked other && goes_before i other) refl
        where
          go : (t : Bool) → is_picked other && goes_before i other ≡ t → is_picked other && goes_before i other ≡ false
          go false e = e
          go true e =
              let two = both (is_picked other) (goes_before i other) e in
              absurd
              (not_both_ways i other p.row_is_there l two.1
              (p.behind_all other l two.0 (λ s. true≢false (sym two.1 ∙ ap (goes_before i) s ∙ order.irreflexive i p.row_is_there))))

  -- and what passes the test is the lowest
  lowest_if_tested : (i : ℕ) → i < n → is_lowest is_picked goes_before n i ≡ true → LowestPicked is_picked goes_before n i
  lowest_if_tested i l h =
      let two = both (is_picked i) (not (some (λ other. is_picked other && goes_before i other) n)) h in
      let none = each_fails (λ other. is_picked other && goes_before i other) n (not-true (some (λ other. is_picked other && goes_before i other) n) two.1) in
      record {
        row_is_there = l;
        row_is_picked = two.0;
        behind_all = λ other m p d.
            ⊎_elim (λ t. t) (λ t. absurd (true≢false (sym (hold_both p t) ∙ none other m))) (one_before other i m l d p two.0);
      }

pub one_lowest : OneLowest
unfolding lowest_picked
one_lowest is_picked goes_before n row order h =
    let some_one = a_lowest is_picked goes_before n order h in
    let search = found (is_lowest is_picked goes_before n) (λ i. i) {i = 0} {n = n} {m = some_one.0} (omega arith) (omega (arith, some_one.1.row_is_there)) (tested is_picked goes_before n order some_one.0 some_one.1) in
    let there = lowest_if_tested is_picked goes_before n order search.at (omega (arith, search.within, some_one.1.row_is_there)) search.first.fit in
    ((λ p. one_alone is_picked goes_before n order row search.at p there ∙ sym search.value), λ e. rw (e ∙ search.value) there)

-- for the functions

-- The code has the picks with k cores and with one fewer.
module _ (ready : ℕ → Bool) (goes_before : ℕ → ℕ → Bool) (n k : ℕ) (order : Strict ready goes_before n) where
  -- PD2's order is strict among the picked rows too, since they are ready.
  pub strict_among_picked : Strict (picked ready goes_before n k) goes_before n
  strict_among_picked =
      record {
        irreflexive = order.irreflexive;
        transitive = order.transitive;
        total = λ i j l h p q. order.total i j l h (picked_is_ready ready goes_before n k i p) (picked_is_ready ready goes_before n k j q);
      }

  -- A row that is picked with k cores and not with one fewer has k - 1 ahead, so every other picked row goes before it.
  pub dropped_is_lowest : (i : ℕ) → i < n → picked ready goes_before n k i ≡ true → picked ready goes_before n (k - 1) i ≡ false →
      LowestPicked (picked ready goes_before n k) goes_before n i
  dropped_is_lowest i l p out =
      record {
        row_is_there = l;
        row_is_picked = p;
        behind_all = λ other m q d. ⊎_elim (λ t. t) (λ t. absurd (too_many other m q t)) (one_before _ goes_before n strict_among_picked other i m l d q p);
      }
    where
      too_many : (other : ℕ) → other < n → picked ready goes_before n k other ≡ true → goes_before i other ≡ true → ⊥
      too_many other m q t =
          let r = picked_is_ready ready goes_before n k i p in
          omega (
            arith,
            left_out ready goes_before n (k - 1) i r out,
            fewer_ahead ready goes_before n order.irreflexive order.transitive i other l m r t,
            picked_has_few_ahead ready goes_before n k other q,
          )

  -- There is one if a ready row is left out and k is not 0: with one core fewer, fewer are picked.
  pub one_is_dropped : 0 < k → (row : ℕ) → row < n → ready row ≡ true → picked ready goes_before n k row ≡ false →
      (i : ℕ) × (i < n) × (picked ready goes_before n k i && not (picked ready goes_before n (k - 1) i) ≡ true)
  one_is_dropped some_core row l r out = ⊎_elim (λ x. x) (λ none. absurd (too_few none)) (some_or_none (λ i. picked ready goes_before n k i && not (picked ready goes_before n (k - 1) i)) n)
    where
      many : k ≤ how_many ready n
      many =
          omega (
            arith,
            left_out ready goes_before n k row r out,
            counts_no_more (λ j. ready j && goes_before j row) ready n (λ j m t. (both (ready j) (goes_before j row) t).0),
          )

      too_few : ((i : ℕ) → i < n → picked ready goes_before n k i && not (picked ready goes_before n (k - 1) i) ≡ false) → ⊥
      too_few none =
          omega (
            arith,
            many,
            as_many_as_can_be ready goes_before n order k,
            as_many_as_can_be ready goes_before n order (k - 1),
            counts_no_more (picked ready goes_before n k) (picked ready goes_before n (k - 1)) n (λ i m p. not_without _ _ p (none i m)),
          )
