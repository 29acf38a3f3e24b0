-- Of those that pass one test, those that pass another: counted, listed and looked for by their places in the list. Assumes nothing.
use Prim.Native.Nat.{ℕ, zero, suc, ◌+◌, ◌<◌}
use mathlib.Core.Path.{◌≡◌, refl, sym, ap, ◌∙◌}
use mathlib.Core.List.{List, [], ◌∷◌, ◌++◌, map, append-nil, map-append}
use mathlib.Core.Bool.{Bool, true, false, cond, ◌&&◌, true≢false}
use native.Mathlib.Decide.{dec_lt}
use native.Mathlib.Omega.{arith}
use borrow.Author.Tests.{lt-ltb, le-ltb}
use lib.Dec.{ltb}
use lib.ListN.{length, get_or, length-append, get_or-append}
use lib.Seq.{get_or-append_seam}
use Rattle.facts.specs.Counting.{how_many, those}
use Rattle.facts.specs.First.{Lowest}
use Rattle.facts.proofs.Counting.{counted_if_passed, counts_grow, same_count, counted_one_more}
use Rattle.facts.proofs.Tests.{hold_both}
use Rattle.facts.proofs.Filling.{same_of_all}
use Rattle.facts.proofs.Listing.{listed_if_passed, unlisted_if_failed, as_many_listed, more_listed, same_list, listed_pass, stands_behind, as_many_below}

-- The places of a list at which a test is passed: how many they are, and what stands there,
module _ (p : ℕ → Bool) (d : ℕ) where
  abbrev count_in : List ℕ → ℕ
  count_in l = how_many (λ j. p (get_or l j d)) (length l)

  abbrev list_in : List ℕ → List ℕ
  list_in l = map (λ j. get_or l j d) (those (λ j. p (get_or l j d)) (length l))

  -- with one more at the end.
  module _ (l : List ℕ) (x : ℕ) where
    longer : length (l ++ (x ∷ [])) ≡ length l + 1
    longer = length-append l (x ∷ [])

    front : (j : ℕ) → j < length l → p (get_or (l ++ (x ∷ [])) j d) ≡ p (get_or l j d)
    front j m = ap p (get_or-append l (x ∷ []) d j m)

    end : p (get_or (l ++ (x ∷ [])) (length l) d) ≡ p x
    end = ap p (get_or-append_seam l x [] d)

    one_more_counted : count_in (l ++ (x ∷ [])) ≡ count_in l + cond (p x) 1 0
    one_more_counted =
        let last = counted_one_more (λ j. p (get_or (l ++ (x ∷ [])) j d)) (length l) in
        let same = same_count (λ j. p (get_or (l ++ (x ∷ [])) j d)) (λ j. p (get_or l j d)) (length l) front in
        ap (how_many (λ j. p (get_or (l ++ (x ∷ [])) j d))) longer ∙ omega (arith, rw end at last, same)

    one_more_listed : list_in (l ++ (x ∷ [])) ≡ list_in l ++ cond (p x) (x ∷ []) []
    one_more_listed = rw longer (go (p x) refl)
      where
        all : List ℕ
        all = l ++ (x ∷ [])

        inside : ℕ → Bool
        inside j = p (get_or all j d)

        same : map (λ j. get_or all j d) (those inside (length l)) ≡ list_in l
        same =
            same_of_all (λ j. get_or all j d) (λ j. get_or l j d) 0 (those inside (length l))
            (λ j m. get_or-append l (x ∷ []) d (get_or (those inside (length l)) j 0) (listed_pass inside (length l) j 0 m).0)
            ∙ ap (map (λ j. get_or l j d)) (same_list inside (λ j. p (get_or l j d)) (length l) front)

        go : (t : Bool) → p x ≡ t → map (λ j. get_or all j d) (those inside (length l + 1)) ≡ list_in l ++ cond (p x) (x ∷ []) []
        go true e =
            rw (listed_if_passed inside (length l) (end ∙ e), e)
            (map-append (λ j. get_or all j d) (those inside (length l)) (length l ∷ [])
            ∙ (ap (λ y. map (λ j. get_or all j d) (those inside (length l)) ++ (y ∷ [])) (get_or-append_seam l x [] d) ∙ ap (λ y. y ++ (x ∷ [])) same))
        go false e = rw (unlisted_if_failed inside (length l) (end ∙ e), e) (same ∙ sym (append-nil (list_in l)))

module _ (a p : ℕ → Bool) (d : ℕ) where
  -- the one at a place passes the other test
  abbrev pub there : ℕ → ℕ → Bool
  there n j = p (get_or (those a n) j d)

  -- As many are counted by their places as by themselves,
  pub counted_by_place : (n : ℕ) → how_many (there n) (length (those a n)) ≡ how_many (λ i. a i && p i) n
  unfolding those how_many
  counted_by_place zero = refl
  counted_by_place (suc n) = go (a n) refl (counted_by_place n)
    where
      go : (t : Bool) → a n ≡ t → count_in p d (those a n) ≡ how_many (λ i. a i && p i) n →
          count_in p d (those a n ++ cond (a n) (n ∷ []) []) ≡ how_many (λ i. a i && p i) n + cond (a n && p n) 1 0
      go true e rest = rw e (one_more_counted p d (those a n) n ∙ ap (λ x. x + cond (p n) 1 0) rest)
      go false e rest = rw e (ap (count_in p d) (append-nil (those a n)) ∙ (rest ∙ omega arith))

  -- and the same are listed.
  pub listed_by_place : (n : ℕ) → map (λ j. get_or (those a n) j d) (those (there n) (length (those a n))) ≡ those (λ i. a i && p i) n
  unfolding those
  listed_by_place zero = refl
  listed_by_place (suc n) = go (a n) refl (listed_by_place n)
    where
      go : (t : Bool) → a n ≡ t → list_in p d (those a n) ≡ those (λ i. a i && p i) n →
          list_in p d (those a n ++ cond (a n) (n ∷ []) []) ≡ those (λ i. a i && p i) n ++ cond (a n && p n) (n ∷ []) []
      go true e rest = rw e (one_more_listed p d (those a n) n ∙ ap (λ x. x ++ cond (p n) (n ∷ []) []) rest)
      go false e rest = rw e (ap (list_in p d) (append-nil (those a n)) ∙ (rest ∙ sym (append-nil (those (λ i. a i && p i) n))))

  -- The lowest place is that of the lowest.
  pub lowest_by_place : (n j : ℕ) → Lowest (there n) (length (those a n)) j → Lowest (λ i. a i && p i) n (cond (ltb j (length (those a n))) (get_or (those a n) j d) n)
  lowest_by_place n j low = go (dec_lt j (length (those a n)))
    where
      -- nothing before it passes both
      none : (i : ℕ) → i < n → how_many a i < j → a i && p i ≡ false
      none i l before = at (a i) (p i) refl refl
        where
          at : (x y : Bool) → a i ≡ x → p i ≡ y → a i && p i ≡ false
          at false y e f = rw e refl
          at true false e f = rw (e, f) refl
          at true true e f =
              let fails = low.none_before (how_many a i) before in
              absurd (true≢false (sym f ∙ (ap p (sym (stands_behind a n i d l e)) ∙ fails)))

      go : Dec (j < length (those a n)) → Lowest (λ i. a i && p i) n (cond (ltb j (length (those a n))) (get_or (those a n) j d) n)
      go (yes l) =
          let is = listed_pass a n j d l in
          rw (lt-ltb j (length (those a n)) l)
          (record {
            within = omega (arith, is.0);
            passes = λ m. hold_both is.1 (low.passes l);
            none_before = λ i m. first i m (a i) refl;
          })
        where
          first : (i : ℕ) → i < get_or (those a n) j d → (x : Bool) → a i ≡ x → a i && p i ≡ false
          first i m true e =
              let is = listed_pass a n j d l in
              let more = counts_grow a (i + 1) (get_or (those a n) j d) (omega arith) in
              none i (omega (arith, is.0)) (omega (arith, more, counted_if_passed a i e, as_many_below a n j d l))
          first i m false e = rw e refl
      go (no l) =
          rw (le-ltb j (length (those a n)) (omega arith))
          (record { within = omega arith; passes = λ m. absurd (omega arith); none_before = λ i m. last i m (a i) refl })
        where
          last : (i : ℕ) → i < n → (x : Bool) → a i ≡ x → a i && p i ≡ false
          last i m true e = none i m (omega (arith, more_listed a i n m e, as_many_listed a i))
          last i m false e = rw e refl
