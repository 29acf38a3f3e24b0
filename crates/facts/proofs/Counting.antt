-- The laws of counting below a bound. Assumes nothing.
use Prim.Native.Nat.{ℕ, zero, suc, ◌+◌, ◌≤◌, ◌<◌}
use mathlib.Core.Path.{◌≡◌, refl, sym, ap, ◌∙◌}
use mathlib.Core.Bool.{Bool, true, false, cond, ◌||◌, true≢false}
use mathlib.Core.Logic.{◌⊎◌, inl, inr}
use native.Mathlib.Decide.{dec_lt}
use native.Mathlib.Numerals.{add-one}
use native.Mathlib.Omega.{arith}
use borrow.Author.Tests.{lt-ltb, le-ltb}
use lib.Dec.{ltb}
use Rattle.facts.specs.Counting.{how_many}
use Rattle.facts.proofs.Growing.{never_falls}

-- What passes is counted,
pub counted_if_passed : (a : ℕ → Bool) (n : ℕ) → a n ≡ true → how_many a (n + 1) ≡ how_many a n + 1
unfolding how_many
counted_if_passed a n h = rw (add-one n, h)

-- what fails is not,
pub uncounted_if_failed : (a : ℕ → Bool) (n : ℕ) → a n ≡ false → how_many a (n + 1) ≡ how_many a n
unfolding how_many
uncounted_if_failed a n h = rw (add-one n, h) (omega arith)

-- and below 0 there is nothing to count.
pub none_counted : (a : ℕ → Bool) → how_many a 0 ≡ 0
unfolding how_many
none_counted a = refl

-- So one number more is counted if it passes.
pub counted_one_more : (a : ℕ → Bool) (n : ℕ) → how_many a (n + 1) ≡ how_many a n + cond (a n) 1 0
counted_one_more a n = go (a n) refl
  where
    go : (t : Bool) → a n ≡ t → how_many a (n + 1) ≡ how_many a n + cond t 1 0
    go true e = counted_if_passed a n e
    go false e = uncounted_if_failed a n e ∙ omega arith

-- Tests that agree below the bound count the same.
pub same_count : (a b : ℕ → Bool) (n : ℕ) → ((i : ℕ) → i < n → a i ≡ b i) → how_many a n ≡ how_many b n
unfolding how_many
same_count a b zero h = refl
same_count a b (suc n) h =
    rw (same_count a b n (λ i l. h i (omega arith)), h n (omega arith))

-- There are no fewer below a larger bound.
pub counts_grow : (a : ℕ → Bool) (i n : ℕ) → i ≤ n → how_many a i ≤ how_many a n
counts_grow a i n = never_falls (how_many a) n (λ m l. omega (arith, counted_one_more a m)) i

-- Nothing passes a test that never holds.
pub how_many_never : (n : ℕ) → how_many (λ i. false) n ≡ 0
unfolding how_many
how_many_never zero = refl
how_many_never (suc n) = rw (how_many_never n) (omega arith)

-- If what passes one test passes one of two others, there are no more of them than of those two together.
pub counts_together : (a b c : ℕ → Bool) (n : ℕ) → ((i : ℕ) → i < n → a i ≡ true → (b i ≡ true) ⊎ (c i ≡ true)) →
    how_many a n ≤ how_many b n + how_many c n
unfolding how_many
counts_together a b c zero h = omega arith
counts_together a b c (suc n) h = go (a n) (b n) (c n) refl refl refl (counts_together a b c n (λ i l. h i (omega arith)))
  where
    go : (x y z : Bool) → a n ≡ x → b n ≡ y → c n ≡ z → how_many a n ≤ how_many b n + how_many c n →
        how_many a n + cond (a n) 1 0 ≤ how_many b n + cond (b n) 1 0 + (how_many c n + cond (c n) 1 0)
    go true true z p q r k = rw (p, q) (omega arith)
    go true false true p q r k = rw (p, q, r) (omega arith)
    go true false false p q r k = absurd (neither (h n (omega arith) p))
      where
        neither : (b n ≡ true) ⊎ (c n ≡ true) → ⊥
        neither (inl t) = true≢false (sym t ∙ q)
        neither (inr t) = true≢false (sym t ∙ r)
    go false y z p q r k = rw p (omega arith)

-- If what passes one test passes another, there are no more of the first,
pub counts_no_more : (a b : ℕ → Bool) (n : ℕ) → ((i : ℕ) → i < n → a i ≡ true → b i ≡ true) → how_many a n ≤ how_many b n
counts_no_more a b n h = omega (arith, counts_together a b (λ i. false) n (λ i l t. inl (h i l t)), how_many_never n)

-- and fewer, if some number passes the second alone.
pub counts_fewer : (a b : ℕ → Bool) (n i : ℕ) → i < n → ((j : ℕ) → j < n → a j ≡ true → b j ≡ true) → a i ≡ false → b i ≡ true → how_many a n < how_many b n
counts_fewer a b zero i l h p q = absurd (omega arith)
counts_fewer a b (suc n) i l h p q =
    rw (← add-one n) (here (dec_lt i n) (λ k. counts_fewer a b n i k (λ j m. h j (omega arith)) p q))
  where
    inside : how_many a n < how_many b n → (x y : Bool) → a n ≡ x → b n ≡ y → how_many a (n + 1) < how_many b (n + 1)
    inside k false y e f = omega (arith, uncounted_if_failed a n e, counts_grow b n (n + 1) (omega arith))
    inside k true true e f = omega (arith, counted_if_passed a n e, counted_if_passed b n f)
    inside k true false e f = absurd (true≢false (sym (h n (omega arith) e) ∙ f))

    here : Dec (i < n) → (i < n → how_many a n < how_many b n) → how_many a (n + 1) < how_many b (n + 1)
    here (yes k) rest = inside (rest k) (a n) (b n) refl refl
    here (no k) rest =
        let same : i ≡ n = omega arith in
        omega (
          arith,
          uncounted_if_failed a n (ap a (sym same) ∙ p),
          counted_if_passed b n (ap b (sym same) ∙ q),
          counts_no_more a b n (λ j m. h j (omega arith)),
        )

-- If no two numbers pass, at most one does.
pub counts_one_at_most : (a : ℕ → Bool) (n : ℕ) → ((i j : ℕ) → i < j → j < n → a i ≡ true → a j ≡ true → ⊥) → how_many a n ≤ 1
unfolding how_many
counts_one_at_most a zero h = omega arith
counts_one_at_most a (suc n) h = go (a n) refl (counts_one_at_most a n (λ i j l k. h i j l (omega arith)))
  where
    go : (x : Bool) → a n ≡ x → how_many a n ≤ 1 → how_many a n + cond (a n) 1 0 ≤ 1
    go true e rest =
        let none = counts_no_more a (λ i. false) n (λ i l t. absurd (h i n l (omega arith) t e)) in
        rw e (omega (arith, how_many_never n))
    go false e rest = rw e (omega arith)

-- Two tests that do not hold together: as many pass one of them as pass each.
pub counts_apart : (a b c : ℕ → Bool) (n : ℕ) → ((i : ℕ) → i < n → c i ≡ a i || b i) → ((i : ℕ) → i < n → a i ≡ true → b i ≡ false) →
    how_many c n ≡ how_many a n + how_many b n
unfolding how_many
counts_apart a b c zero either apart = refl
counts_apart a b c (suc n) either apart =
    go (a n) (b n) refl refl (counts_apart a b c n (λ i l. either i (omega arith)) (λ i l. apart i (omega arith)))
  where
    go : (x y : Bool) → a n ≡ x → b n ≡ y → how_many c n ≡ how_many a n + how_many b n → how_many c (suc n) ≡ how_many a (suc n) + how_many b (suc n)
    go true true p q e = absurd (true≢false (sym q ∙ apart n (omega arith) p))
    go true false p q e = rw (either n (omega arith), p, q, e) (omega arith)
    go false true p q e = rw (either n (omega arith), p, q, e) (omega arith)
    go false false p q e = rw (either n (omega arith), p, q, e) (omega arith)

-- Of the numbers below n, as many are below c as c says, if c is no more than n.
pub how_many_below : (c n : ℕ) → c ≤ n → how_many (λ i. ltb i c) n ≡ c
unfolding how_many
how_many_below c zero h = omega arith
how_many_below c (suc n) h = go (dec_lt n c) (how_many_below c n)
  where
    all : (c n : ℕ) → n ≤ c → how_many (λ i. ltb i c) n ≡ n
    all c zero l = refl
    all c (suc n) l = rw (all c n (omega arith), lt-ltb n c (omega arith)) (omega arith)

    go : Dec (n < c) → (c ≤ n → how_many (λ i. ltb i c) n ≡ c) → how_many (λ i. ltb i c) n + cond (ltb n c) 1 0 ≡ c
    go (yes l) rest = rw (all c n (omega arith), lt-ltb n c l) (omega arith)
    go (no l) rest = rw (rest (omega arith), le-ltb n c (omega arith)) (omega arith)

-- Of n numbers no more than n pass,
pub no_more_than_all : (a : ℕ → Bool) (n : ℕ) → how_many a n ≤ n
no_more_than_all a n = omega (arith, counts_no_more a (λ i. ltb i n) n (λ i l h. lt-ltb i n l), how_many_below n n (omega arith))

-- and just n if each does.
pub all_counted : (a : ℕ → Bool) (n : ℕ) → ((i : ℕ) → i < n → a i ≡ true) → how_many a n ≡ n
all_counted a n h = same_count a (λ i. ltb i n) n (λ i l. h i l ∙ sym (lt-ltb i n l)) ∙ how_many_below n n (omega arith)

-- For a loop that counts: i of the n numbers have been tested.
pub record Counted (a : ℕ → Bool) (n count i : ℕ) : Type 0 where
  pub number : count ≡ how_many a i
  pub few : count ≤ i
  pub within : i ≤ n

module _ (a : ℕ → Bool) (n : ℕ) where
  -- It begins,
  pub counting_begins : Counted a n 0 0
  counting_begins = record { number = sym (none_counted a); few = omega arith; within = omega arith }

  module _ {count i : ℕ} (so : Counted a n count i) (l : i < n) where
    -- counts what passes,
    pub counts_passed : a i ≡ true → Counted a n (count + 1) (i + 1)
    counts_passed h =
        record { number = ap (λ k. k + 1) so.number ∙ sym (counted_if_passed a i h); few = omega (arith, so.few); within = omega arith }

    -- passes over what fails,
    pub skips_failed : a i ≡ false → Counted a n count (i + 1)
    skips_failed h = record { number = so.number ∙ sym (uncounted_if_failed a i h); few = omega (arith, so.few); within = omega arith }

  -- and ends with the count of all.
  pub counted_all : {count i : ℕ} → Counted a n count i → n ≤ i → count ≡ how_many a n
  counted_all so h = so.number ∙ ap (how_many a) (omega (arith, so.within))
