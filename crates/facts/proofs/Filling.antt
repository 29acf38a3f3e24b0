-- Filling from the front, one place a turn. Assumes nothing.
use mathlib.Core.Path.{◌≡◌, refl, sym, ap, ◌∙◌}
use mathlib.Core.List.{List, [], ◌∷◌, ◌++◌, map}
use Prim.Native.Nat.{ℕ, zero, suc, ◌+◌, ◌-◌, ◌≤◌, ◌<◌}
use native.Mathlib.Nat.{le_of_suc-le-suc, not-suc-le-zero}
use native.Mathlib.Numerals.{add-one}
use native.Mathlib.Omega.{arith}
use native.Mathlib.Decide.{dec_lt}
use lib.ListN.{length, get_or, drop, set, replicate, length-append, length-set, length-replicate, get_or-replicate}
use lib.Seq.{set_at, append_snoc, drop-cons, get_or-set_same, get_or-set_other}

-- One turn of n - i is left more than after it.
pub one_left_more : {i n : ℕ} → i < n → n - i ≡ suc (n - (i + 1))
one_left_more h = omega arith

-- An array of n places, of which the first are p and the rest z, with v stored behind p: whatever its elements are.
pub filled_one_more : {A : Type 0} (p : List A) (n i : ℕ) (z v : A) → length p ≡ i → i < n →
    set (p ++ replicate (n - i) z) i v ≡ (p ++ (v ∷ [])) ++ replicate (n - (i + 1)) z
filled_one_more p n i z v l h =
    ap (λ k. set (p ++ replicate k z) i v) (one_left_more h)
    ∙ (set_at p z (replicate (n - (i + 1)) z) v i l ∙ sym (append_snoc p v (replicate (n - (i + 1)) z)))

-- A list whose first elements are l and whose others are as they were in p, with v stored behind l.
pub overwritten_one_more : {A : Type 0} (p l : List A) (v : A) → length l < length p →
    set (l ++ drop (length l) p) (length l) v ≡ (l ++ (v ∷ [])) ++ drop (length (l ++ (v ∷ []))) p
overwritten_one_more p l v h =
    ap (λ rest. set (l ++ rest) (length l) v) (drop-cons p (length l) v h)
    ∙ (set_at l (get_or p (length l) v) (drop (suc (length l)) p) v (length l) refl
    ∙ (sym (append_snoc l v (drop (suc (length l)) p)) ∙ ap (λ k. (l ++ (v ∷ [])) ++ drop k p) (sym (add-one (length l)) ∙ sym (length-append l (v ∷ [])))))

-- An array of so many places, filled up to place i: there it has the values of f, and from there on z.
pub record Filled {A : Type 0} (f : ℕ → A) (z d : A) (size i : ℕ) (l : List A) : Type 0 where
  pub long : length l ≡ size
  pub first : (j : ℕ) → j < i → get_or l j d ≡ f j
  pub rest : (j : ℕ) → i ≤ j → j < size → get_or l j d ≡ z

module _ {A : Type 0} (f : ℕ → A) (z d : A) (size : ℕ) where
  -- It begins with nothing filled,
  pub filling_begins : Filled f z d size 0 (replicate size z)
  filling_begins =
      record {
        long = length-replicate size z;
        first = λ j l. absurd (omega arith);
        rest = λ j h l. get_or-replicate size j z d l;
      }

  -- and one place more is filled.
  pub fills_one_more : {i : ℕ} {l : List A} {v : A} → Filled f z d size i l → i < size → v ≡ f i → Filled f z d size (i + 1) (set l i v)
  fills_one_more {i} {l} {v} so h e =
      record {
        long = length-set l i v ∙ so.long;
        first = λ j k. here j k (dec_lt j i);
        rest = λ j k m. get_or-set_other l i j v d (λ same. omega arith) ∙ so.rest j (omega arith) m;
      }
    where
      here : (j : ℕ) → j < i + 1 → Dec (j < i) → get_or (set l i v) j d ≡ f j
      here j k (yes m) = get_or-set_other l i j v d (λ same. omega arith) ∙ so.first j m
      here j k (no m) =
          let same : j ≡ i = omega arith in
          ap (λ x. get_or (set l i v) x d) same ∙ (get_or-set_same l i v d (omega (arith, so.long)) ∙ (e ∙ ap f (sym same)))

-- A place that is there does not depend on what would stand past the end.
pub get_d_any : {A : Type 0} (l : List A) (i : ℕ) (d d' : A) → i < length l → get_or l i d ≡ get_or l i d'
get_d_any [] i d d' h = absurd (not-suc-le-zero h)
get_d_any (x ∷ l) zero d d' h = refl
get_d_any (x ∷ l) (suc i) d d' h = get_d_any l i d d' (le_of_suc-le-suc h)

-- What is the same at each place is the same of all.
pub same_of_all : {A B : Type 0} (f g : A → B) (d : A) (l : List A) → ((j : ℕ) → j < length l → f (get_or l j d) ≡ g (get_or l j d)) → map f l ≡ map g l
same_of_all f g d [] h = refl
same_of_all f g d (x ∷ l) h =
    ap (λ y. y ∷ map f l) (h 0 (omega arith)) ∙ ap (λ r. g x ∷ r) (same_of_all f g d l (λ j m. h (suc j) (omega arith)))
