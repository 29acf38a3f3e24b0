-- The shape of a record: what its tests say, and what is answered of it. Assumes nothing.
use Prim.Native.Nat.{ℕ, ◌+◌, ◌≤◌, ◌<◌}
use mathlib.Core.Path.{◌≡◌, refl, sym, ap, subst, ◌∙◌}
use mathlib.Core.List.{List, [], ◌∷◌}
use mathlib.Core.Bool.{Bool, true, false}
use mathlib.Core.Logic.{◌↔◌, ◌⊎◌, inl, inr}
use native.Mathlib.Omega.{arith}
use borrow.Author.Tests.{lt-ltb, le-ltb, ltb-false}
use lib.Dec.{ltb}
use lib.ListN.{length, take, drop}
use Rattle.facts.specs.Zero.{if0}
use Rattle.facts.specs.Findings.{first_found, FirstFound, NoneFound}
use Rattle.facts.proofs.Zero.{if0_other}
use Rattle.facts.proofs.Findings.{AllSay, none_says_otherwise, first_is_said, first_is_such, none_or_first}
use Rattle.trace.specs.Records.{free_at, picked_at, past_record}
use Rattle.trace.specs.Found.{Inside}
use Rattle.trace.specs.Said.{Said, bare}
use Rattle.trace.specs.Shape.{too_long, bad_rows, bad_row, shape_at, SoundRecord}
use Rattle.trace.specs.Shaped.{shape_number, shape_of}

-- what may be said of a shape: a number of 40 to 43 alone
record Sayable (x : Said) : Type 0 where
  range : (40 ≤ x.number) × (x.number ≤ 43)
  alone : x ≡ bare x.number

sayable : (k : ℕ) → 40 ≤ k → k ≤ 43 → Sayable (bare k)
sayable k l h = record { range = (l, h); alone = refl }

-- for callers

module _ (M n : ℕ) (s : List ℕ) (place : ℕ) where
  -- Nothing is found in the shape of a record exactly if it is sound.
  pub none_in_shape : NoneFound (shape_at M n s place) ↔ SoundRecord M n s place
  none_in_shape = (
    to,
    λ sound.
        NoneFound.later sound.head
        (NoneFound.later sound.cores (NoneFound.later sound.picked (NoneFound.later sound.rows (NoneFound.later sound.numbers NoneFound.end)))),
  )
    where
      to : NoneFound (shape_at M n s place) → SoundRecord M n s place
      to (NoneFound.later a (NoneFound.later b (NoneFound.later c (NoneFound.later d (NoneFound.later e NoneFound.end))))) =
          record { head = a; cores = b; picked = c; rows = d; numbers = e }

  -- A sound record lies inside.
  pub sound_is_inside : SoundRecord M n s place → Inside s place
  sound_is_inside sound = record { front = ltb-false (length s) (place + 2) sound.head; whole = ltb-false (length s) (past_record s place) sound.rows }

  -- all that is looked for says such a thing
  shape_says : AllSay Sayable (shape_at M n s place)
  shape_says =
      AllSay.next (sayable 40 (omega arith) (omega arith))
      (AllSay.next (sayable 41 (omega arith) (omega arith))
      (AllSay.next (sayable 42 (omega arith) (omega arith))
      (AllSay.next (sayable 40 (omega arith) (omega arith)) (AllSay.next (sayable 43 (omega arith) (omega arith)) AllSay.end))))

  -- What is found first is a number of 40 to 43 alone.
  pub shape_numbers : {x : Said} → FirstFound (shape_at M n s place) x → (40 ≤ x.number) × (x.number ≤ 43) × (x ≡ bare x.number)
  shape_numbers first = let such = first_is_such shape_says first in (such.range.0, such.range.1, such.alone)

  -- Where nothing is found the number is 0,
  none_is_0 : NoneFound (shape_at M n s place) → shape_number M n s place ≡ 0
  none_is_0 none = ap (λ x. x.number) (none_says_otherwise (bare 0) none)

  -- and else that of what is found first.
  first_is_number : {x : Said} → FirstFound (shape_at M n s place) x → shape_number M n s place ≡ x.number
  first_is_number first = ap (λ x. x.number) (first_is_said (bare 0) first)

  -- The number of the answer is 0 exactly if the record is sound.
  pub sound_exactly : ((shape_of M n s place).number ≡ 0) ↔ SoundRecord M n s place
  unfolding shape_of
  sound_exactly = (λ e. none_in_shape.0 (go e (none_or_first (shape_at M n s place))), λ sound. none_is_0 (none_in_shape.1 sound))
    where
      go : shape_number M n s place ≡ 0 → NoneFound (shape_at M n s place) ⊎ ((x : Said) × FirstFound (shape_at M n s place) x) → NoneFound (shape_at M n s place)
      go e (inl none) = none
      go e (inr one) = absurd (omega (arith, (shape_numbers one.1).0, first_is_number one.1))

  -- With 0 comes the place behind the record,
  pub sound_goes_behind : (shape_of M n s place).number ≡ 0 → (shape_of M n s place).next ≡ past_record s place
  unfolding shape_of
  sound_goes_behind e = ap (λ k. if0 k (past_record s place) 0) e

  module _ (other : (shape_of M n s place).number ≡ 0 → ⊥) where
    -- and a number other than 0 is what is found first,
    pub number_is_first : FirstFound (shape_at M n s place) (bare (shape_of M n s place).number)
    unfolding shape_of
    number_is_first = go (none_or_first (shape_at M n s place))
      where
        go : NoneFound (shape_at M n s place) ⊎ ((x : Said) × FirstFound (shape_at M n s place) x) → FirstFound (shape_at M n s place) (bare (shape_number M n s place))
        go (inl none) = absurd (other (none_is_0 none))
        go (inr one) = subst (FirstFound (shape_at M n s place)) ((shape_numbers one.1).2 ∙ ap bare (sym (first_is_number one.1))) one.1

    -- which is one of 40 to 43,
    pub number_is_40_to_43 : (40 ≤ (shape_of M n s place).number) × ((shape_of M n s place).number ≤ 43)
    number_is_40_to_43 = let numbers = shape_numbers number_is_first in (numbers.0, numbers.1)

    -- and with it comes no place.
    pub refused_goes_nowhere : (shape_of M n s place).next ≡ 0
    unfolding shape_of
    refused_goes_nowhere = if0_other (shape_number M n s place) (past_record s place) 0 other

  -- For `shape`: what is found first is answered,
  found_is_answered : (k : ℕ) → 40 ≤ k → FirstFound (shape_at M n s place) (bare k) → record { number = k; next = 0 } ≡ shape_of M n s place
  unfolding shape_of
  found_is_answered k numbered first =
      let is = first_is_number first in
      rw is (sym (ap (λ next. record { number = k; next = next }) (if0_other k (past_record s place) 0 (λ e. omega arith))))

  -- Its tests, in turn: two bytes are missing,
  pub head_is_cut : length s < place + 2 → record { number = 40; next = 0 } ≡ shape_of M n s place
  head_is_cut h = found_is_answered 40 (omega arith) (FirstFound.here (lt-ltb (length s) (place + 2) h))

  module _ (head : place + 2 ≤ length s) where
    head_there : ltb (length s) (place + 2) ≡ false
    head_there = le-ltb (length s) (place + 2) head

    -- more cores are free than there are,
    pub cores_are_too_many : M < free_at s place → record { number = 41; next = 0 } ≡ shape_of M n s place
    cores_are_too_many h = found_is_answered 41 (omega arith) (FirstFound.later head_there (FirstFound.here (lt-ltb M (free_at s place) h)))

    module _ (cores : free_at s place ≤ M) where
      enough : ltb M (free_at s place) ≡ false
      enough = le-ltb M (free_at s place) cores

      -- more rows are named than cores are free,
      pub rows_are_too_many : free_at s place < picked_at s place → record { number = 42; next = 0 } ≡ shape_of M n s place
      rows_are_too_many h =
          found_is_answered 42 (omega arith)
          (FirstFound.later head_there (FirstFound.later enough (FirstFound.here (lt-ltb (free_at s place) (picked_at s place) h))))

      module _ (few : picked_at s place ≤ free_at s place) where
        fit : ltb (free_at s place) (picked_at s place) ≡ false
        fit = le-ltb (free_at s place) (picked_at s place) few

        -- the rows are missing,
        pub rows_are_cut : length s < past_record s place → record { number = 40; next = 0 } ≡ shape_of M n s place
        rows_are_cut h =
            found_is_answered 40 (omega arith)
            (FirstFound.later head_there (FirstFound.later enough (FirstFound.later fit (FirstFound.here (lt-ltb (length s) (past_record s place) h)))))

        module _ (rows : past_record s place ≤ length s) {c : ℕ} (all : c ≡ picked_at s place) {bad : Bool} (as_judged : bad ≡ bad_rows n 0 (take c (drop (place + 2) s))) where
          there : ltb (length s) (past_record s place) ≡ false
          there = le-ltb (length s) (past_record s place) rows

          named : bad ≡ bad_row n s place
          named = as_judged ∙ ap (λ k. bad_rows n 0 (take k (drop (place + 2) s))) all

          -- or they are named wrongly;
          pub rows_are_bad : bad ≡ true → record { number = 43; next = 0 } ≡ shape_of M n s place
          rows_are_bad h =
              found_is_answered 43 (omega arith)
              (FirstFound.later head_there
              (FirstFound.later enough (FirstFound.later fit (FirstFound.later there (FirstFound.here (sym named ∙ h))))))

          -- else the record is sound.
          pub record_is_sound : bad ≡ false → {next : ℕ} → next ≡ past_record s place → record { number = 0; next = next } ≡ shape_of M n s place
          unfolding shape_of
          record_is_sound h {next} e =
              let sound : SoundRecord M n s place = record { head = head_there; cores = enough; picked = fit; rows = there; numbers = sym named ∙ h } in
              let is = none_is_0 (none_in_shape.1 sound) in
              rw (is, e) refl

-- What `shape` meets, in turn.
pub ruleset shape_found = (head_is_cut, cores_are_too_many, rows_are_too_many, rows_are_cut, rows_are_bad, record_is_sound)

-- Worked values, computed from the definitions: a count of four bytes may be above its limit,
count_above_the_limit : too_long (255 ∷ 255 ∷ 255 ∷ 255 ∷ []) ≡ true
count_above_the_limit = refl

-- a record of rows 0 and 2 is sound for 2 cores and 3 rows, and ends at 4,
two_rows : shape_of 2 3 (2 ∷ 2 ∷ 0 ∷ 2 ∷ []) 0 ≡ record { number = 0; next = 4 }
unfolding shape_of first_found bad_rows
two_rows = refl

-- of rows that are bad and cut the cut is met first,
cut_before_bad : shape_of 2 3 (2 ∷ 2 ∷ 9 ∷ []) 0 ≡ record { number = 40; next = 0 }
unfolding shape_of first_found bad_rows
cut_before_bad = refl

-- and from the end on the trace is cut.
cut_at_the_end : shape_of 2 3 [] 0 ≡ record { number = 40; next = 0 }
unfolding shape_of first_found bad_rows
cut_at_the_end = refl
