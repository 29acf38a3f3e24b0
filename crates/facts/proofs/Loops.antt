-- The laws of loops. Assumes nothing.
use Prim.Native.Nat.{ℕ, zero, suc, ◌+◌, ◌-◌, ◌*◌, ◌≤◌, ◌<◌}
use mathlib.Core.Path.{◌≡◌, refl, sym, ap, ◌∙◌}
use mathlib.Core.List.{List, ◌∷◌}
use mathlib.Core.Bool.{Bool, true, false, true≢false}
use native.Mathlib.Decide.{dec_lt}
use native.Mathlib.Numerals.{add-one}
use native.Mathlib.Omega.{arith}
use lib.ListN.{length, drop, get_or, set, replicate, drop_of_length-le}
use lib.Seq.{drop-cons}
use Rattle.facts.specs.First.{at_first}
use Rattle.facts.specs.Findings.{Test, first_found, NoneFound}
use Rattle.facts.specs.Rising.{rising}
use Rattle.facts.specs.Places.{places, padded}
use Rattle.facts.specs.Loops.{Reached, Found, Passed, ReadAnswer, ReadSoFar}
use Rattle.facts.proofs.Findings.{none_says_otherwise, after_none, decides}
use Rattle.facts.proofs.Places.{how_many_places, place_at, nothing_read, one_more_read}

module _ (fits : ℕ → Bool) (gives : ℕ → ℕ) where
  -- a search of one place or more stops where the place fits
  stops : (j : ℕ) {n m : ℕ} → n ≡ suc m → fits j ≡ true → at_first fits gives j n ≡ gives j
  unfolding at_first
  stops j s f = rw (s, f)

  -- and goes on where it does not
  passes : (j : ℕ) {n m : ℕ} → n ≡ suc m → fits j ≡ false → at_first fits gives j n ≡ at_first fits gives (j + 1) m
  unfolding at_first
  passes j s f = rw (s, f)

  -- for callers: a loop that searches

  -- A search begins where it stands.
  pub begins : (i n : ℕ) → Reached fits gives i n i
  begins i n =
      record {
        from = omega arith;
        none_before = λ k l h. absurd (omega arith);
        rest = ap (λ m. at_first fits gives i m) {x = n} {y = i + n - i} (omega arith);
      }

  module _ {i n j : ℕ} (r : Reached fits gives i n j) where
    -- It has not passed a place that fits.
    pub not_past : {m : ℕ} → i ≤ m → fits m ≡ true → j ≤ m
    not_past {m} l f = go (dec_lt m j)
      where
        go : Dec (m < j) → j ≤ m
        go (yes h) = absurd (true≢false (sym f ∙ r.none_before m l h))
        go (no h) = omega arith

    left : j < i + n → i + n - j ≡ suc (i + n - (j + 1))
    left h = omega (arith, r.from)

    -- Where it meets a place that fits, that place gives the answer.
    pub stops_here : j < i + n → fits j ≡ true → at_first fits gives i n ≡ gives j
    stops_here h f = r.rest ∙ stops j (left h) f

    -- Where the place does not fit, it goes on to the next.
    pub goes_on : j < i + n → fits j ≡ false → Reached fits gives i n (j + 1)
    goes_on h f =
        record {
          from = omega (arith, r.from);
          none_before = λ k l b. before k l b (dec_lt k j);
          rest = r.rest ∙ passes j (left h) f;
        }
      where
        before : (k : ℕ) → i ≤ k → k < j + 1 → Dec (k < j) → fits k ≡ false
        before k l b (yes y) = r.none_before k l y
        before k l b (no y) = ap fits {x = k} {y = j} (omega arith) ∙ f

  -- from j on, with k places left
  found_from : (i n m : ℕ) → i ≤ m → m < i + n → fits m ≡ true →
      (k j : ℕ) → j + k ≡ i + n → Reached fits gives i n j → Found fits gives i n m
  found_from i n m l h f zero j e r = absurd (omega (arith, not_past r l f))
  found_from i n m l h f (suc k) j e r = here (fits j) refl (found_from i n m l h f k (j + 1) (omega arith))
    where
      here : (b : Bool) → fits j ≡ b → (Reached fits gives i n (j + 1) → Found fits gives i n m) → Found fits gives i n m
      here true y later =
          record {
            at = j;
            first = record { from = r.from; fit = y; none_before = r.none_before };
            within = not_past r l f;
            value = stops_here r (omega arith) y;
          }
      here false y later = later (goes_on r (omega arith) y)

  -- For callers: if some place m of the n fits, the search gives the value of the first that does.
  pub found : {i n m : ℕ} → i ≤ m → m < i + n → fits m ≡ true → Found fits gives i n m
  found {i} {n} {m} l h f = found_from i n m l h f n i refl (begins i n)

-- for a loop over elements, whatever they are

module _ {A : Type 0} (tests : ℕ → A → List Test) (above : A → ℕ) (all : List A) where
  -- It begins,
  pub none_passed : Passed tests above all 0 0
  none_passed = record { within = omega arith; rest = refl }

  -- at the end there is no fault,
  pub all_passed : {least i : ℕ} → Passed tests above all least i → length all ≤ i → first_found 0 (rising tests above 0 all) ≡ 0
  unfolding rising
  all_passed {i = i} so h = so.rest ∙ rw (drop_of_length-le all {i = i} h) (none_says_otherwise 0 NoneFound.end)

  module _ {least i : ℕ} (so : Passed tests above all least i) (h : i < length all) (d : A) {x : A} (here : x ≡ get_or all i d) where
    next : drop i all ≡ x ∷ drop (i + 1) all
    next = drop-cons all i d h ∙ rw (here, add-one i)

    -- a fault of the element that is tested is the fault of all,
    pub stops_at_fault : (first_found 0 (tests least x) ≡ 0 → ⊥) → first_found 0 (rising tests above 0 all) ≡ first_found 0 (tests least x)
    unfolding rising
    stops_at_fault f = so.rest ∙ rw next (sym (decides 0 (tests least x) _ refl f))

    -- and else it goes on.
    pub one_more_passed : NoneFound (tests least x) → Passed tests above all (above x) (i + 1)
    unfolding rising
    one_more_passed f = record { within = omega arith; rest = so.rest ∙ rw next (after_none 0 _ f) }

-- for a loop that reads from place to place, whatever is read

module _ {A : Type 0} (tests : ℕ → ℕ → List Test) (above : ℕ → ℕ) (read : ℕ → A) (nothing : A) (size from step n : ℕ) where
  -- It begins with an array of nothing,
  pub reading_begins : {array : List A} → array ≡ replicate size nothing → ReadSoFar tests above read nothing size from step n array 0 0
  reading_begins e = record { passed = none_passed tests above _; content = e ∙ nothing_read read nothing size from step }

  -- ends without a fault,
  pub reading_ends : {array : List A} {least i : ℕ} → ReadSoFar tests above read nothing size from step n array least i → n ≤ i →
      ReadAnswer tests above read nothing size from step n 0 array
  reading_ends {i = i} so h =
      let many = how_many_places from step n in
      let same : i ≡ n = omega (arith, so.passed.within) in
      record {
        first = sym (all_passed tests above _ so.passed (omega arith));
        content = λ _. so.content ∙ ap (λ k. padded read nothing size from step k) same;
      }

  module _ {array : List A} {least i place : ℕ} (so : ReadSoFar tests above read nothing size from step n array least i) (h : i < n) (here : place ≡ from + step * i) where
    in_list : i < length (places from step n)
    in_list = omega (arith, how_many_places from step n)

    in_place : place ≡ get_or (places from step n) i 0
    in_place = here ∙ sym (place_at from step n i 0 h)

    -- ends at a fault,
    pub reading_stops : {number : ℕ} → number ≡ first_found 0 (tests least place) → (number ≡ 0 → ⊥) → ReadAnswer tests above read nothing size from step n number array
    reading_stops e f =
        record {
          first = e ∙ sym (stops_at_fault tests above _ so.passed in_list 0 in_place (λ z. f (e ∙ z)));
          content = λ z. absurd (f z);
        }

    -- or goes on with one more read.
    pub reading_goes_on : i < size → NoneFound (tests least place) → {v : A} → v ≡ read place → {above_it : ℕ} → above_it ≡ above place →
        ReadSoFar tests above read nothing size from step n (set array i v) above_it (i + 1)
    reading_goes_on l f e a =
        record {
          passed = rw a (one_more_passed tests above _ so.passed in_list 0 in_place f);
          content = rw (so.content, e, here) (one_more_read read nothing size from step l);
        }
