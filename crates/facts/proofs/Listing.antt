-- The laws of listing what passes below a bound. Assumes nothing.
use Prim.Native.Nat.{ℕ, zero, suc, ◌+◌, ◌≤◌, ◌<◌}
use mathlib.Core.Path.{◌≡◌, refl, sym, ap, ◌∙◌}
use mathlib.Core.List.{List, [], ◌∷◌, ◌++◌, append-nil}
use mathlib.Core.Bool.{Bool, true, false, cond}
use native.Mathlib.Decide.{dec_lt}
use native.Mathlib.Numerals.{add-one}
use native.Mathlib.Omega.{arith}
use lib.Dec.{ltb}
use lib.ListN.{length, get_or, length-append, get_or-append}
use lib.Seq.{get_or-append_seam}
use Rattle.facts.specs.Counting.{how_many, those, some}
use Rattle.facts.specs.First.{Lowest}
use Rattle.facts.proofs.Counting.{counted_if_passed, counts_grow}

-- What passes is listed,
pub listed_if_passed : (a : ℕ → Bool) (n : ℕ) → a n ≡ true → those a (n + 1) ≡ those a n ++ (n ∷ [])
unfolding those
listed_if_passed a n h = rw (add-one n, h)

-- what fails is not,
pub unlisted_if_failed : (a : ℕ → Bool) (n : ℕ) → a n ≡ false → those a (n + 1) ≡ those a n
unfolding those
unlisted_if_failed a n h = rw (add-one n, h) (append-nil (those a n))

-- and below 0 there is nothing to list.
pub none_listed : (a : ℕ → Bool) → those a 0 ≡ []
unfolding those
none_listed a = refl

-- As many are listed as are counted.
pub as_many_listed : (a : ℕ → Bool) (n : ℕ) → length (those a n) ≡ how_many a n
unfolding those how_many
as_many_listed a zero = refl
as_many_listed a (suc n) =
    length-append (those a n) _ ∙ rw (as_many_listed a n) (go (a n))
  where
    go : (t : Bool) → how_many a n + length (cond t (n ∷ []) []) ≡ how_many a n + cond t 1 0
    go true = refl
    go false = refl

-- One that passes has a place in the list: below a bound that lies beyond it more are listed than below itself.
pub more_listed : (a : ℕ → Bool) (i n : ℕ) → i < n → a i ≡ true → length (those a i) < length (those a n)
more_listed a i n l h =
    let grow = counts_grow a (i + 1) n (omega arith) in
    omega (arith, grow, counted_if_passed a i h, as_many_listed a i, as_many_listed a n)

-- Some pass exactly if the list of those that do is not empty.
pub some_listed : (a : ℕ → Bool) (n : ℕ) → ltb 0 (length (those a n)) ≡ some a n
some_listed a n = ap (ltb 0) (as_many_listed a n)

-- what is listed below n + 1: what is listed below n, and n itself if it passes
module _ (a : ℕ → Bool) (n j d : ℕ) where
  listed_before : j < length (those a n) → get_or (those a (suc n)) j d ≡ get_or (those a n) j d
  unfolding those
  listed_before l = get_or-append (those a n) (cond (a n) (n ∷ []) []) d j l

  listed_last : length (those a n) ≤ j → j < length (those a (suc n)) → (get_or (those a (suc n)) j d ≡ n) × (a n ≡ true) × (j ≡ length (those a n))
  unfolding those
  listed_last l h = go (a n) refl
    where
      go : (t : Bool) → a n ≡ t → (get_or (those a n ++ cond (a n) (n ∷ []) []) j d ≡ n) × (a n ≡ true) × (j ≡ length (those a n))
      go true e =
          let one : length (those a n ++ (n ∷ [])) ≡ length (those a n) + 1 = length-append (those a n) (n ∷ []) in
          let same : j ≡ length (those a n) = omega (arith, rw e at h) in
          (rw (e, same) (get_or-append_seam (those a n) n [] d), e, same)
      go false e = absurd (omega (arith, (rw e at h), length-append (those a n) []))

-- What is listed lies below the bound and passes,
pub listed_pass : (a : ℕ → Bool) (n j d : ℕ) → j < length (those a n) → (get_or (those a n) j d < n) × (a (get_or (those a n) j d) ≡ true)
unfolding those
listed_pass a zero j d h = absurd (omega arith)
listed_pass a (suc n) j d h = go (dec_lt j (length (those a n))) (listed_pass a n j d)
  where
    go : Dec (j < length (those a n)) → (j < length (those a n) → (get_or (those a n) j d < n) × (a (get_or (those a n) j d) ≡ true)) →
        (get_or (those a (suc n)) j d < suc n) × (a (get_or (those a (suc n)) j d) ≡ true)
    go (yes l) rest = let x = rest l in rw (listed_before a n j d l) (omega (arith, x.0), x.1)
    go (no l) rest = let x = listed_last a n j d (omega arith) h in rw x.0 (omega arith, x.1)

-- and rises.
pub listed_rise : (a : ℕ → Bool) (n i j d : ℕ) → i < j → j < length (those a n) → get_or (those a n) i d < get_or (those a n) j d
unfolding those
listed_rise a zero i j d l h = absurd (omega arith)
listed_rise a (suc n) i j d l h = go (dec_lt j (length (those a n))) (listed_rise a n i j d l)
  where
    go : Dec (j < length (those a n)) → (j < length (those a n) → get_or (those a n) i d < get_or (those a n) j d) → get_or (those a (suc n)) i d < get_or (those a (suc n)) j d
    go (yes k) rest = rw (listed_before a n i d (omega arith), listed_before a n j d k) (rest k)
    go (no k) rest =
        let last = listed_last a n j d (omega arith) h in
        let before : i < length (those a n) = omega (arith, last.2) in
        rw (last.0, listed_before a n i d before) (listed_pass a n i d before).0

-- In the list of those that pass a number stands behind as many as pass below it,
pub stands_behind : (a : ℕ → Bool) (n i d : ℕ) → i < n → a i ≡ true → get_or (those a n) (how_many a i) d ≡ i
unfolding those
stands_behind a zero i d l h = absurd (omega arith)
stands_behind a (suc n) i d l h = go (dec_lt i n) (stands_behind a n i d)
  where
    go : Dec (i < n) → (i < n → a i ≡ true → get_or (those a n) (how_many a i) d ≡ i) → get_or (those a n ++ cond (a n) (n ∷ []) []) (how_many a i) d ≡ i
    go (yes m) rest =
        get_or-append (those a n) (cond (a n) (n ∷ []) []) d (how_many a i) (omega (arith, more_listed a i n m h, as_many_listed a i)) ∙ rest m h
    go (no m) rest =
        let same : i ≡ n = omega arith in
        let last : how_many a i ≡ length (those a n) = omega (arith, ap (how_many a) same, as_many_listed a n) in
        rw (ap a (sym same) ∙ h, last) (get_or-append_seam (those a n) n [] d ∙ sym same)

-- and so the one at a place has as many below it as the place says.
pub as_many_below : (a : ℕ → Bool) (n j d : ℕ) → j < length (those a n) → how_many a (get_or (those a n) j d) ≡ j
unfolding those
as_many_below a zero j d h = absurd (omega arith)
as_many_below a (suc n) j d h = go (dec_lt j (length (those a n))) (as_many_below a n j d)
  where
    go : Dec (j < length (those a n)) → (j < length (those a n) → how_many a (get_or (those a n) j d) ≡ j) → how_many a (get_or (those a (suc n)) j d) ≡ j
    go (yes l) rest = rw (listed_before a n j d l) (rest l)
    go (no l) rest = let x = listed_last a n j d (omega arith) h in rw x.0 (sym (as_many_listed a n) ∙ sym x.2)

-- Tests that agree below the bound list the same.
pub same_list : (a b : ℕ → Bool) (n : ℕ) → ((i : ℕ) → i < n → a i ≡ b i) → those a n ≡ those b n
unfolding those
same_list a b zero h = refl
same_list a b (suc n) h = rw (same_list a b n (λ i l. h i (omega arith)), h n (omega arith))

-- What fails from n on is not listed.
pub list_ends : (a b : ℕ → Bool) (n more : ℕ) → ((i : ℕ) → i < n → a i ≡ b i) → ((i : ℕ) → n ≤ i → i < n + more → a i ≡ false) → those a (n + more) ≡ those b n
list_ends a b n zero same fails = ap (those a) {x = n + 0} {y = n} (omega arith) ∙ same_list a b n same
list_ends a b n (suc more) same fails =
    ap (those a) {x = n + suc more} {y = n + more + 1} (omega arith)
    ∙ (unlisted_if_failed a (n + more) (fails (n + more) (omega arith) (omega arith)) ∙ list_ends a b n more same (λ i l h. fails i l (omega arith)))

-- nothing is listed by a test that never holds
never_listed : (n : ℕ) → those (λ i. false) n ≡ []
unfolding those
never_listed zero = refl
never_listed (suc n) = rw (never_listed n)

-- The lowest that passes stands first in the list,
pub lowest_is_first : (a : ℕ → Bool) (n i : ℕ) → Lowest a n i → i < n → (rest : List ℕ) × (those a n ≡ i ∷ rest)
unfolding those
lowest_is_first a zero i low l = absurd (omega arith)
lowest_is_first a (suc n) i low l = go (dec_lt i n) (lowest_is_first a n i)
  where
    at_end : i ≡ n → those a n ++ cond (a n) (n ∷ []) [] ≡ i ∷ []
    at_end e =
        let before : those a n ≡ [] = same_list a (λ j. false) n (λ j k. low.none_before j (omega arith)) ∙ never_listed n in
        let here : a n ≡ true = sym (ap a e) ∙ low.passes l in
        rw (before, here, e)

    go : Dec (i < n) → (Lowest a n i → i < n → (rest : List ℕ) × (those a n ≡ i ∷ rest)) → (rest : List ℕ) × (those a (suc n) ≡ i ∷ rest)
    go (yes k) rec =
        let r = rec record { within = omega arith; passes = λ m. low.passes l; none_before = low.none_before } k in
        (r.0 ++ cond (a n) (n ∷ []) [], ap (λ x. x ++ cond (a n) (n ∷ []) []) r.1)
    go (no k) rec = ([], at_end (omega arith))

-- and where none passes the list is empty.
pub none_is_listed : (a : ℕ → Bool) (n : ℕ) → ((i : ℕ) → i < n → a i ≡ false) → those a n ≡ []
none_is_listed a n h = same_list a (λ i. false) n h ∙ never_listed n
