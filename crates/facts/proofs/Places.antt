-- The laws of places. Assumes nothing.
use mathlib.Core.Path.{◌≡◌, refl, sym, ap, ◌∙◌}
use mathlib.Core.List.{List, [], ◌∷◌, ◌++◌, map}
use mathlib.Core.Bool.{Bool, false}
use Prim.Native.Nat.{ℕ, zero, suc, ◌+◌, ◌-◌, ◌*◌, ◌≤◌, ◌<◌}
use native.Mathlib.Nat.{le_of_suc-le-suc, not-suc-le-zero}
use native.Mathlib.Numerals.{add-one}
use native.Mathlib.Omega.{arith}
use lib.ListN.{length, get_or, set, take, replicate, length-append, length-replicate, length-map, get_or-replicate, get_or-map}
use lib.Seq.{take_at, get_or-take, get_or-append-add, ext_get_or}
use Rattle.facts.specs.Places.{places, marks_of, padded}
use Rattle.facts.proofs.Filling.{filled_one_more, get_d_any}

-- for callers

-- There are n places,
pub how_many_places : (from step n : ℕ) → length (places from step n) ≡ n
unfolding places
how_many_places from step zero = refl
how_many_places from step (suc n) = ap suc (how_many_places (from + step) step n)

-- and place i is i steps from the first.
pub place_at : (from step n i d : ℕ) → i < n → get_or (places from step n) i d ≡ from + step * i
unfolding places
place_at from step zero i d h = absurd (not-suc-le-zero h)
place_at from step (suc n) zero d h = omega arith
place_at from step (suc n) (suc i) d h = place_at (from + step) step n i d (le_of_suc-le-suc h) ∙ omega arith

-- Marks: one for each number below n,
module _ (is : ℕ → Bool) (n : ℕ) where
  pub marks_long : length (marks_of is n) ≡ n
  marks_long = length-map (places 0 1 n) is ∙ how_many_places 0 1 n

  -- which says what is so of the number,
  pub mark_at : (i : ℕ) → i < n → get_or (marks_of is n) i false ≡ is i
  mark_at i l =
      get_d_any (marks_of is n) i false (is 0) (rw marks_long l)
      ∙ (get_or-map is (places 0 1 n) i 0 ∙ ap is (place_at 0 1 n i 0 l ∙ omega arith))

  -- and no others do.
  pub are_marks : {marks : List Bool} → length marks ≡ n → ((i : ℕ) → i < n → get_or marks i false ≡ is i) → marks ≡ marks_of is n
  are_marks {marks} long says = ext_get_or false marks (marks_of is n) (long ∙ sym marks_long) (λ i l. let m : i < n = omega (arith, long) in says i m ∙ sym (mark_at i m))

module _ {A : Type 0} (read : ℕ → A) (nothing : A) (size from step : ℕ) where
  -- what is read at one place more
  read_one_more : (from n : ℕ) → map read (places from step (suc n)) ≡ map read (places from step n) ++ (read (from + step * n) ∷ [])
  unfolding places
  read_one_more from zero = ap (λ k. read k ∷ []) {x = from} {y = from + step * 0} (omega arith)
  read_one_more from (suc n) =
      ap (λ l. read from ∷ l) (read_one_more (from + step) n)
      ∙ ap (λ k. read from ∷ (map read (places (from + step) step n) ++ (read k ∷ []))) {x = from + step + step * n} {y = from + step * suc n} (omega arith)

  how_many_read : (n : ℕ) → length (map read (places from step n)) ≡ n
  how_many_read n = length-map (places from step n) read ∙ how_many_places from step n

  -- An array in which nothing was read yet.
  pub nothing_read : replicate size nothing ≡ padded read nothing size from step 0
  unfolding padded places
  nothing_read = ap (λ k. replicate k nothing) {x = size} {y = size - 0} (omega arith)

  -- One element more is read into it.
  pub one_more_read : {i : ℕ} → i < size → set (padded read nothing size from step i) i (read (from + step * i)) ≡ padded read nothing size from step (i + 1)
  unfolding padded
  one_more_read {i} h =
      filled_one_more (map read (places from step i)) size i nothing (read (from + step * i)) (how_many_read i) h
      ∙ rw (add-one i, read_one_more from i)

  -- The first n are what was read,
  pub first_are_read : (n : ℕ) → take n (padded read nothing size from step n) ≡ map read (places from step n)
  unfolding padded
  first_are_read n = take_at (map read (places from step n)) _ n (how_many_read n)

  -- each where it stands,
  pub read_there : {n i : ℕ} (d : A) → i < n → get_or (padded read nothing size from step n) i d ≡ read (from + step * i)
  read_there {n} {i} d l =
      sym (get_or-take n (padded read nothing size from step n) i d l)
      ∙ (ap (λ array. get_or array i d) (first_are_read n)
      ∙ (get_d_any (map read (places from step n)) i d (read 0) (omega (arith, how_many_read n))
      ∙ (get_or-map read (places from step n) i 0 ∙ ap read (place_at from step n i 0 l))))

  -- the others are nothing,
  pub others_are_nothing : {n i : ℕ} (d : A) → n ≤ i → i < size → get_or (padded read nothing size from step n) i d ≡ nothing
  unfolding padded
  others_are_nothing {n} {i} d h l =
      ap (λ k. get_or (map read (places from step n) ++ replicate (size - n) nothing) k d) {x = i} {y = length (map read (places from step n)) + (i - n)} (omega (arith, how_many_read n))
      ∙ get_or-append-add (map read (places from step n)) (replicate (size - n) nothing) (i - n) d
      ∙ get_or-replicate (size - n) (i - n) nothing d (omega arith)

  -- and there are as many as the array has places.
  pub how_many_padded : {n : ℕ} → n ≤ size → length (padded read nothing size from step n) ≡ size
  unfolding padded
  how_many_padded {n} h =
      length-append (map read (places from step n)) _ ∙ omega (arith, how_many_read n, length-replicate (size - n) nothing)
