-- For the code: what a memory keeps, found from its last place to its first. Assumes nothing.
use Prim.Native.Nat.{ℕ, zero, suc, ◌+◌, ◌-◌, ◌≤◌, ◌<◌}
use mathlib.Core.Path.{◌≡◌, refl, sym, ap, ◌∙◌}
use mathlib.Core.List.{List}
use mathlib.Core.Bool.{Bool, true, false, cond, not, ◌&&◌, ◌||◌, true≢false, or-true, or-false, or_assoc, and-true, and-false}
use native.Mathlib.Decide.{dec_lt, ℕ_discrete}
use native.Mathlib.Nat.{add-zero, sub-zero}
use native.Mathlib.Omega.{arith}
use borrow.Author.Tests.{eq-eqb, ne_eqb}
use lib.Dec.{ltb, eqb}
use lib.ListN.{length, get_or, set, length-set, get_or-eq_default}
use lib.Seq.{get_or-set_same, get_or-set_other}
use Rattle.facts.specs.Counting.{some, those}
use Rattle.facts.specs.First.{at_first}
use Rattle.facts.proofs.Counting.{uncounted_if_failed}
use Rattle.facts.proofs.Some.{some_if, none_if}
use Rattle.facts.proofs.Listing.{same_list}
use Rattle.facts.proofs.Tests.{both, hold_both}
use Rattle.trace.specs.Record.{marked}
use Rattle.trace.specs.Records.{names}
use Rattle.trace.proofs.Names.{marked_are_named}
use Rattle.cores.specs.declared.Placement.{Placement}
use Rattle.cores.specs.Placement.{places_of, row_in, core_in}
use Rattle.cores.specs.Sets.{set_limit}
use Rattle.cores.specs.Cores.{lets_stay, stays, own_core, wanted, left_over}
use Rattle.cores.specs.Turns.{not_picked, Picks, Keeps}
use Rattle.cores.proofs.Wanted.{wanted_at, wanted_by_place, left_is_marked}

-- Whether one of the n numbers i, i + 1, .. passes.
unfoldable pub some_from : (ℕ → Bool) → ℕ → ℕ → Bool
some_from a i zero = false
some_from a i (suc n) = a i || some_from a (i + 1) n

-- some pass below i + 1 exactly if some pass below i, or i does
some_one_more : (a : ℕ → Bool) (i : ℕ) → some a (i + 1) ≡ some a i || a i
some_one_more a i = go (a i) refl
  where
    go : (t : Bool) → a i ≡ t → some a (i + 1) ≡ some a i || a i
    go true e = some_if a (i + 1) i (omega arith) e ∙ sym (rw e (or-true (some a i)))
    go false e = ap (ltb 0) (uncounted_if_failed a i e) ∙ sym (rw e (or-false (some a i)))

some_below_or_from : (a : ℕ → Bool) (i n : ℕ) → some a i || some_from a i n ≡ some a (i + n)
unfolding some_from
some_below_or_from a i zero = or-false (some a i) ∙ ap (some a) (sym (add-zero i))
some_below_or_from a i (suc n) =
    sym (or_assoc (some a i) (a i) (some_from a (i + 1) n))
    ∙ ap (λ t. t || some_from a (i + 1) n) (sym (some_one_more a i))
    ∙ some_below_or_from a (i + 1) n
    ∙ ap (some a) {x = i + 1 + n} {y = i + suc n} (omega arith)

some_from_0 : (a : ℕ → Bool) (n : ℕ) → some_from a 0 n ≡ some a n
some_from_0 a n =
    ap (λ t. t || some_from a 0 n) (sym (none_if a 0 (λ i l. absurd (omega arith))))
    ∙ some_below_or_from a 0 n
    ∙ ap (some a) {x = 0 + n} {y = n} (omega arith)

-- a number that is marked is one of the marks'
in_marks : (marks : List Bool) (i : ℕ) → get_or marks i false ≡ true → i < length marks
in_marks marks i h = go (dec_lt i (length marks))
  where
    go : Dec (i < length marks) → i < length marks
    go (yes l) = l
    go (no l) = absurd (true≢false (sym h ∙ get_or-eq_default marks false {n = i} (omega arith)))

-- By the places from i on: the own core of each picked row, 32 for none,
abbrev pub own_from : List Bool → Placement → ℕ → ℕ → ℕ
own_from free last row i =
    cond (some_from (lets_stay last (marked free) row) i (places_of last - i)) (at_first (lets_stay last (marked free) row) (core_in last) i (places_of last - i)) 32

-- and whether a core is free, and none of these places has it with a picked row.
abbrev pub left_from : List ℕ → List Bool → Placement → ℕ → ℕ → Bool
left_from rows free last core i = get_or free core false && not (some_from (wanted_at last rows core) i (places_of last - i))

-- The loop over the places has come down to i.
pub record KeptFrom (rows : List ℕ) (free : List Bool) (last : Placement) (own : List ℕ) (left : List Bool) (i : ℕ) : Type 0 where
  pub within : i ≤ places_of last
  pub own_long : length own ≡ 256
  pub left_long : length left ≡ 32
  pub small : (row : ℕ) → names rows row ≡ true → row < 256
  pub picked : (row : ℕ) → row < 256 → not (eqb (get_or own row 0) not_picked) ≡ names rows row
  pub own_so_far : (row : ℕ) → names rows row ≡ true → get_or own row 0 ≡ own_from free last row i
  pub left_so_far : (core : ℕ) → get_or left core false ≡ left_from rows free last core i

-- One place more, from the front.
module _ (rows : List ℕ) (free : List Bool) (last : Placement) (i : ℕ) (l : 0 < i) (all : i ≤ places_of last) where
  one_more : places_of last - (i - 1) ≡ suc (places_of last - i)
  one_more = omega arith

  same : i - 1 + 1 ≡ i
  same = omega arith

  some_from_is : (a : ℕ → Bool) → some_from a (i - 1) (places_of last - (i - 1)) ≡ a (i - 1) || some_from a i (places_of last - i)
  unfolding some_from
  some_from_is a = rw one_more (ap (λ k. a (i - 1) || some_from a k (places_of last - i)) same)

  first_from : (a : ℕ → Bool) →
      at_first a (core_in last) (i - 1) (places_of last - (i - 1)) ≡ cond (a (i - 1)) (core_in last (i - 1)) (at_first a (core_in last) i (places_of last - i))
  unfolding at_first
  first_from a = rw one_more (ap (λ k. cond (a (i - 1)) (core_in last (i - 1)) (at_first a (core_in last) k (places_of last - i))) same)

  -- a row that the place lets stay has its core, and for another row nothing changes
  own_here : (row : ℕ) → lets_stay last (marked free) row (i - 1) ≡ true → own_from free last row (i - 1) ≡ core_in last (i - 1)
  own_here row h = rw (some_from_is (lets_stay last (marked free) row), first_from (lets_stay last (marked free) row), h)

  own_not_here : (row : ℕ) → lets_stay last (marked free) row (i - 1) ≡ false → own_from free last row (i - 1) ≡ own_from free last row i
  own_not_here row h = rw (some_from_is (lets_stay last (marked free) row), first_from (lets_stay last (marked free) row), h)

  -- a core that the place has with a picked row is not left, and for another core nothing changes
  left_here : (core : ℕ) → wanted_at last rows core (i - 1) ≡ true → left_from rows free last core (i - 1) ≡ false
  left_here core h = rw (some_from_is (wanted_at last rows core), h) (and-false (get_or free core false))

  left_not_here : (core : ℕ) → wanted_at last rows core (i - 1) ≡ false → left_from rows free last core (i - 1) ≡ left_from rows free last core i
  left_not_here core h = rw (some_from_is (wanted_at last rows core), h)

module _ (rows : List ℕ) (free : List Bool) (last : Placement) (free_long : length free ≡ 32) where
  -- It begins with no place,
  pub keeping_begins : {own : List ℕ} {i : ℕ} → length own ≡ 256 → Picks rows own → i ≡ places_of last → KeptFrom rows free last own free i
  unfolding some_from
  keeping_begins {own} {i} long marks e =
      let none : places_of last - i ≡ 0 = omega arith in
      record {
        within = omega arith;
        own_long = long;
        left_long = free_long;
        small = λ row h. omega (arith, marks.small row h, long);
        picked = λ row l. rw (marks.says row (omega (arith, long))) (told (names rows row));
        own_so_far = λ row h. marks.says row (marks.small row h) ∙ rw (h, none);
        left_so_far = λ core. rw none (sym (and-true (get_or free core false)));
      }
    where
      told : (t : Bool) → not (eqb (cond t set_limit not_picked) not_picked) ≡ t
      told true = refl
      told false = refl

  module _ {own : List ℕ} {left : List Bool} {i : ℕ} (so : KeptFrom rows free last own left i) (l : 0 < i) (low : row_in last (i - 1) < 256) where
    abbrev row : ℕ
    row = row_in last (i - 1)

    abbrev core : ℕ
    core = core_in last (i - 1)

    -- takes a place whose row is picked and whose core is free,
    pub keeps_place : not (eqb (get_or own row 0) not_picked) && get_or free core false ≡ true →
        (core < 32) × KeptFrom rows free last (set own row core) (set left core false) (i - 1)
    keeps_place h = (
      core_low,
      record {
        within = omega (arith, so.within);
        own_long = length-set own row core ∙ so.own_long;
        left_long = length-set left core false ∙ so.left_long;
        small = so.small;
        picked = λ r p. picked_at r p (ℕ_discrete row r);
        own_so_far = λ r p. own_at r p (ℕ_discrete row r);
        left_so_far = λ c. left_at c (ℕ_discrete core c);
      },
    )
      where
        two : (names rows row ≡ true) × (get_or free core false ≡ true)
        two = both (names rows row) (get_or free core false) (ap (λ t. t && get_or free core false) (sym (so.picked row low)) ∙ h)

        core_low : core < 32
        core_low = omega (arith, in_marks free core two.1, free_long)

        picked_at : (r : ℕ) → r < 256 → Dec (row ≡ r) → not (eqb (get_or (set own row core) r 0) not_picked) ≡ names rows r
        picked_at r p (yes e) =
            rw (← e, get_or-set_same own row core 0 (omega (arith, low, so.own_long)), ne_eqb core not_picked (λ same. omega (arith, core_low)), two.0)
        picked_at r p (no n) = rw (get_or-set_other own row r core 0 (λ e. n (sym e))) (so.picked r p)

        own_at : (r : ℕ) → names rows r ≡ true → Dec (row ≡ r) → get_or (set own row core) r 0 ≡ own_from free last r (i - 1)
        own_at r p (yes e) =
            rw (← e)
            (get_or-set_same own row core 0 (omega (arith, low, so.own_long))
            ∙ sym (own_here rows free last i l so.within row (hold_both (eq-eqb row row refl) (marked_are_named free core ∙ two.1))))
        own_at r p (no n) =
            get_or-set_other own row r core 0 (λ e. n (sym e))
            ∙ so.own_so_far r p
            ∙ sym (own_not_here rows free last i l so.within r (ap (λ t. t && names (marked free) core) (ne_eqb row r n)))

        left_at : (c : ℕ) → Dec (core ≡ c) → get_or (set left core false) c false ≡ left_from rows free last c (i - 1)
        left_at c (yes e) =
            rw (← e)
            (get_or-set_same left core false false (omega (arith, core_low, so.left_long))
            ∙ sym (left_here rows free last i l so.within core (hold_both two.0 (eq-eqb core core refl))))
        left_at c (no n) =
            get_or-set_other left core c false false (λ e. n (sym e))
            ∙ so.left_so_far c
            ∙ sym (left_not_here rows free last i l so.within c (ap (λ t. names rows row && t) (ne_eqb core c n) ∙ and-false (names rows row)))

    -- passes over any other,
    pub skips_place : not (eqb (get_or own row 0) not_picked) && get_or free core false ≡ false → KeptFrom rows free last own left (i - 1)
    skips_place h =
        record {
          within = omega (arith, so.within);
          own_long = so.own_long;
          left_long = so.left_long;
          small = so.small;
          picked = so.picked;
          own_so_far = λ r p. so.own_so_far r p ∙ sym (own_not_here rows free last i l so.within r (stays_not r p (ℕ_discrete row r)));
          left_so_far = λ c. so.left_so_far c ∙ sym (left_at c (ℕ_discrete core c) (names rows row) refl);
        }
      where
        not_free : names rows row ≡ true → get_or free core false ≡ false
        not_free p = ap (λ t. t && get_or free core false) (sym (so.picked row low ∙ p)) ∙ h

        stays_not : (r : ℕ) → names rows r ≡ true → Dec (row ≡ r) → lets_stay last (marked free) r (i - 1) ≡ false
        stays_not r p (yes e) = ap (λ t. eqb row r && t) (marked_are_named free core ∙ not_free (ap (names rows) e ∙ p)) ∙ and-false (eqb row r)
        stays_not r p (no n) = ap (λ t. t && names (marked free) core) (ne_eqb row r n)

        left_at : (c : ℕ) → Dec (core ≡ c) → (t : Bool) → names rows row ≡ t → left_from rows free last c (i - 1) ≡ left_from rows free last c i
        left_at c (no n) t p =
            left_not_here rows free last i l so.within c (ap (λ t. names rows row && t) (ne_eqb core c n) ∙ and-false (names rows row))
        left_at c (yes e) false p = left_not_here rows free last i l so.within c (ap (λ t. t && eqb core c) p)
        left_at c (yes e) true p = rw (ap (λ k. get_or free k false) (sym e) ∙ not_free p)

  -- and ends with what the whole memory keeps.
  pub keeps_all : {own : List ℕ} {left : List Bool} {i : ℕ} → KeptFrom rows free last own left i → i ≤ 0 → Keeps rows free last own left
  keeps_all {own} {left} {i} so end = record { own_core_is = own_is; left_over_is = left_is }
    where
      first : i ≡ 0
      first = omega arith

      own_is : (row : ℕ) → names rows row ≡ true → get_or own row 0 ≡ cond (stays last (marked free) row) (own_core last (marked free) row) 32
      own_is row h =
          so.own_so_far row h
          ∙ ap (own_from free last row) first
          ∙ rw (sub-zero (places_of last), some_from_0 (lets_stay last (marked free) row) (places_of last))

      left_at : (core : ℕ) → get_or left core false ≡ get_or free core false && not (wanted last rows core)
      left_at core =
          so.left_so_far core
          ∙ ap (left_from rows free last core) first
          ∙ rw (sub-zero (places_of last), some_from_0 (wanted_at last rows core) (places_of last), wanted_by_place last rows core)

      left_is : marked left ≡ left_over last rows (marked free)
      left_is =
          same_list (λ core. get_or left core false) (λ core. get_or free core false && not (wanted last rows core)) (length left) (λ core _. left_at core)
          ∙ ap (those (λ core. get_or free core false && not (wanted last rows core))) (so.left_long ∙ sym free_long)
          ∙ sym (left_is_marked last rows (λ core. get_or free core false) (length free))
