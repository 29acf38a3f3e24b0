-- Elements of so many bytes each, one behind the other: `flat_map` of the library. Assumes nothing.
use Prim.Native.Nat.{ℕ, zero, suc, ◌+◌, ◌*◌, ◌≤◌, ◌<◌}
use mathlib.Core.Path.{◌≡◌, refl, sym, ap, ◌∙◌}
use mathlib.Core.List.{List, [], ◌∷◌, ◌++◌, map, flat_map, append-nil, append_assoc}
use native.Mathlib.Numerals.{add-one}
use native.Mathlib.Omega.{arith}
use lib.ListN.{length, get_or, take, drop, length-append}
use lib.Seq.{sets, take-suc, take-add, length-take-le, drop-drop}
use Rattle.facts.specs.Places.{places}
use Rattle.facts.proofs.Storing.{stored_behind}

-- for callers

-- Two parts of a list, the second right behind the first, are one part.
pub parts_joined : {A : Type 0} (s : List A) (i n k : ℕ) {l m : List A} {j : ℕ} → l ≡ take n (drop i s) → m ≡ take k (drop j s) → j ≡ i + n →
    l ++ m ≡ take (n + k) (drop i s)
parts_joined s i n k p q e =
    rw (p, q, e) (ap (λ l. take n (drop i s) ++ take k l) (sym (drop-drop n i s)) ∙ sym (take-add n k (drop i s)))

module _ {A B : Type 0} (of : A → List B) (width : ℕ) where
  -- one more stands behind those before it
  joined_one_more : (l : List A) (x : A) → flat_map of (l ++ (x ∷ [])) ≡ flat_map of l ++ of x
  unfolding flat_map
  joined_one_more [] x = append-nil (of x)
  joined_one_more (y ∷ l) x = ap (λ rest. of y ++ rest) (joined_one_more l x) ∙ sym (append_assoc (of y) (flat_map of l) (of x))

  module _ (wide : (x : A) → length (of x) ≡ width) where
    -- They are as long as all of them together.
    pub joined_long : (l : List A) → length (flat_map of l) ≡ width * length l
    unfolding flat_map
    joined_long [] = omega arith
    joined_long (x ∷ l) = length-append (of x) (flat_map of l) ∙ omega (arith, wide x, joined_long l)

    -- A loop that stores one after the other has stored one more.
    pub joined_stored : (l : List A) (i : ℕ) (d : A) (b : List B) (at : ℕ) {first second : List B} {next : ℕ} → i < length l → first ≡ sets b at (flat_map of (take i l)) →
        next ≡ at + width * i → second ≡ sets first next (of (get_or l i d)) → second ≡ sets b at (flat_map of (take (i + 1) l))
    joined_stored l i d b at h p n q =
        let long = joined_long (take i l) ∙ ap (λ k. width * k) (length-take-le i l (omega arith)) in
        let one_more = ap (λ k. flat_map of (take k l)) (add-one i) ∙ (ap (flat_map of) (take-suc l i d h) ∙ joined_one_more (take i l) (get_or l i d)) in
        stored_behind b (flat_map of (take i l)) (of (get_or l i d)) at p (n ∙ ap (λ k. at + k) (sym long)) q ∙ ap (sets b at) (sym one_more)

    -- If each that is good is read as it was wherever it stands, all are, one behind the other.
    pub joined_are_read : (read : List B → ℕ → A) (good : A → Type 0) →
        ((front rest : List B) (x : A) → good x → read (front ++ (of x ++ rest)) (length front) ≡ x) →
        (front rest : List B) (l : List A) (d : A) → ((i : ℕ) → i < length l → good (get_or l i d)) → {from : ℕ} → from ≡ length front →
        map (read (front ++ (flat_map of l ++ rest))) (places from width (length l)) ≡ l
    unfolding flat_map places
    joined_are_read read good each front rest [] d all e = refl
    joined_are_read read good each front rest (x ∷ l) d all {from} e =
        let others = flat_map of l ++ rest in
        let here : front ++ ((of x ++ flat_map of l) ++ rest) ≡ front ++ (of x ++ others) = ap (λ m. front ++ m) (append_assoc (of x) (flat_map of l) rest) in
        let next : from + width ≡ length (front ++ of x) = omega (arith, length-append front (of x), wide x) in
        let first : read (front ++ (of x ++ others)) from ≡ x = rw e (each front others x (all 0 (omega arith))) in
        let later = joined_are_read read good each (front ++ of x) rest l d (λ i h. all (suc i) (omega arith)) next in
        ap (λ s. map (read s) (from ∷ places (from + width) width (length l))) here
        ∙ (ap (λ y. y ∷ map (read (front ++ (of x ++ others))) (places (from + width) width (length l))) first
        ∙ ap (λ m. x ∷ m) (ap (λ s. map (read s) (places (from + width) width (length l))) (sym (append_assoc front (of x) others)) ∙ later))

  -- If each that is read is written as it was, all are.
  pub joined_are_written : (s : List B) (read : ℕ → A) → ((i : ℕ) → i + width ≤ length s → of (read i) ≡ take width (drop i s)) →
      (from n : ℕ) → from + width * n ≤ length s → flat_map of (map read (places from width n)) ≡ take (width * n) (drop from s)
  unfolding flat_map places
  joined_are_written s read each from zero h = ap (λ k. take k (drop from s)) {x = 0} {y = width * 0} (omega arith)
  joined_are_written s read each from (suc n) h =
      parts_joined s from width (width * n) (each from (omega arith)) (joined_are_written s read each (from + width) n (omega arith)) refl
      ∙ ap (λ k. take k (drop from s)) {x = width + width * n} {y = width * suc n} (omega arith)
