-- Whether some number below a bound passes, and the search for the lowest that does. Assumes nothing.
use Prim.Native.Nat.{ℕ, ◌+◌, ◌≤◌, ◌<◌}
use mathlib.Core.Path.{◌≡◌, refl, sym, ap, ◌∙◌}
use mathlib.Core.Bool.{Bool, true, false, ◌&&◌, ◌||◌, true≢false, Bool-discrete, or-true}
use mathlib.Core.Logic.{◌⊎◌, inl, inr, ⊎_elim}
use native.Mathlib.Decide.{dec_lt}
use native.Mathlib.Omega.{arith}
use borrow.Author.Tests.{lt-ltb, le-ltb}
use Rattle.facts.specs.Counting.{how_many, some}
use Rattle.facts.specs.First.{Lowest}
use Rattle.facts.proofs.Search.{some_below}
use Rattle.facts.proofs.Counting.{counted_if_passed, same_count, counts_grow, how_many_never}

-- Some number below n passes, or none does.
pub some_or_none : (a : ℕ → Bool) (n : ℕ) → ((i : ℕ) × (i < n) × (a i ≡ true)) ⊎ ((i : ℕ) → i < n → a i ≡ false)
some_or_none a n = ⊎_elim inl (λ none. inr (λ i l. fails (a i) refl (none i l))) (some_below (λ i. a i ≡ true) (λ i. Bool-discrete (a i) true) n)
  where
    fails : {i : ℕ} (t : Bool) → a i ≡ t → (a i ≡ true → ⊥) → a i ≡ false
    fails true e never = absurd (never e)
    fails false e never = e

-- If one passes, some do,
pub some_if : (a : ℕ → Bool) (n i : ℕ) → i < n → a i ≡ true → some a n ≡ true
some_if a n i l h = lt-ltb 0 (how_many a n) (omega (arith, counts_grow a (i + 1) n (omega arith), counted_if_passed a i h))

-- and if none passes, none do,
pub none_if : (a : ℕ → Bool) (n : ℕ) → ((i : ℕ) → i < n → a i ≡ false) → some a n ≡ false
none_if a n h = le-ltb 0 (how_many a n) (omega (arith, same_count a (λ i. false) n h, how_many_never n))

-- and the other way round.
pub each_fails : (a : ℕ → Bool) (n : ℕ) → some a n ≡ false → (i : ℕ) → i < n → a i ≡ false
each_fails a n h i l = go (a i) refl
  where
    go : (x : Bool) → a i ≡ x → a i ≡ false
    go true e = absurd (true≢false (sym (some_if a n i l e) ∙ h))
    go false e = e

-- Some pass one of two tests exactly if some pass the first, or some the second,
pub some_either : (a b : ℕ → Bool) (n : ℕ) → some (λ i. a i || b i) n ≡ some a n || some b n
some_either a b n = go (some_or_none a n) (some_or_none b n)
  where
    either : ℕ → Bool
    either i = a i || b i

    go : ((i : ℕ) × (i < n) × (a i ≡ true)) ⊎ ((i : ℕ) → i < n → a i ≡ false) → ((i : ℕ) × (i < n) × (b i ≡ true)) ⊎ ((i : ℕ) → i < n → b i ≡ false) →
        some either n ≡ some a n || some b n
    go (inl x) y = some_if either n x.0 x.1 (rw x.2 refl) ∙ sym (rw (some_if a n x.0 x.1 x.2) refl)
    go (inr x) (inl y) =
        some_if either n y.0 y.1 (rw y.2 (or-true (a y.0))) ∙ sym (rw (none_if a n x, some_if b n y.0 y.1 y.2) refl)
    go (inr x) (inr y) = none_if either n (λ i l. rw (x i l, y i l) refl) ∙ sym (rw (none_if a n x, none_if b n y) refl)

-- and some pass a test that is made on a condition exactly if the condition holds and some pass it.
pub some_where : (c : Bool) (a : ℕ → Bool) (n : ℕ) → some (λ i. c && a i) n ≡ c && some a n
some_where true a n = refl
some_where false a n = none_if (λ i. false) n (λ i l. refl)

-- For a loop that looks for the lowest that passes: none of the first i does.
pub record NoneYet (a : ℕ → Bool) (n i : ℕ) : Type 0 where
  pub none : (j : ℕ) → j < i → a j ≡ false
  pub within : i ≤ n

module _ (a : ℕ → Bool) (n : ℕ) where
  -- It begins,
  pub looking_begins : NoneYet a n 0
  looking_begins = record { none = λ j l. absurd (omega arith); within = omega arith }

  -- goes on past what fails,
  pub looks_on : {i : ℕ} → NoneYet a n i → i < n → a i ≡ false → NoneYet a n (i + 1)
  looks_on {i} so l h = record { none = λ j m. at j m (dec_lt j i); within = omega arith }
    where
      at : (j : ℕ) → j < i + 1 → Dec (j < i) → a j ≡ false
      at j m (yes k) = so.none j k
      at j m (no k) = let e : j ≡ i = omega arith in ap a e ∙ h

  -- ends at what passes,
  pub found_lowest : {i : ℕ} → NoneYet a n i → i < n → a i ≡ true → Lowest a n i
  found_lowest so l h = record { within = so.within; passes = λ m. h; none_before = so.none }

  -- or at the end, where none does.
  pub found_none : {i : ℕ} → NoneYet a n i → n ≤ i → Lowest a n n
  found_none so h = record { within = omega arith; passes = λ m. absurd (omega arith); none_before = λ j l. so.none j (omega arith) }

  pub none_at_all : {i : ℕ} → NoneYet a n i → n ≤ i → some a n ≡ false
  none_at_all so h = none_if a n (λ j l. so.none j (omega arith))
