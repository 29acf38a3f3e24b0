-- The laws of what is found first. Assumes nothing.
use Prim.Native.Nat.{ℕ, ◌≤◌}
use mathlib.Core.Path.{◌≡◌, refl, sym, ap, subst, ◌∙◌}
use mathlib.Core.List.{List, [], ◌∷◌}
use mathlib.Core.Bool.{Bool, true, false, cond, ◌&&◌}
use mathlib.Core.Logic.{◌↔◌, ◌⊎◌, inl, inr}
use lib.Dec.{leb}
use borrow.Author.Tests.{leb-true}
use Rattle.facts.specs.Findings.{Finding, Test, ◌then◌, first_found, FirstFound, NoneFound}
use Rattle.facts.proofs.Tests.{both}

-- Whatever is found, what is said is such.
pub data AllSay {A : Type 0} (such : A → Type 0) : List (Finding A) → Type 0 where
  end : AllSay such []
  next : {f : Finding A} {fs : List (Finding A)} → such f.answer → AllSay such fs → AllSay such (f ∷ fs)

-- Every test has a number from lo to hi.
abbrev pub ranged : ℕ → ℕ → List Test → Bool
ranged lo hi [] = true
ranged lo hi (t ∷ ts) = (leb lo t.answer && leb t.answer hi) && ranged lo hi ts

-- for callers

module _ {A : Type 0} (otherwise : A) where
  -- Where no cause is there nothing is said,
  pub none_says_otherwise : {fs : List (Finding A)} → NoneFound fs → first_found otherwise fs ≡ otherwise
  unfolding first_found
  none_says_otherwise NoneFound.end = refl
  none_says_otherwise (NoneFound.later c rest) = rw c (none_says_otherwise rest)

  -- and what the first says is said.
  pub first_is_said : {fs : List (Finding A)} {x : A} → FirstFound fs x → first_found otherwise fs ≡ x
  unfolding first_found
  first_is_said (FirstFound.here c) = rw c
  first_is_said (FirstFound.later c rest) = rw c (first_is_said rest)

  -- What is said, and is not otherwise, is what the first says,
  pub said_is_first : (fs : List (Finding A)) {x : A} → (x ≡ otherwise → ⊥) → first_found otherwise fs ≡ x → FirstFound fs x
  unfolding first_found
  said_is_first [] other e = absurd (other (sym e))
  said_is_first (f ∷ fs) {x} other e = go f.cause refl e (said_is_first fs other)
    where
      go : (c : Bool) → f.cause ≡ c → cond c f.answer (first_found otherwise fs) ≡ x → (first_found otherwise fs ≡ x → FirstFound fs x) → FirstFound (f ∷ fs) x
      go true h e rest = subst (FirstFound (f ∷ fs)) e (FirstFound.here h)
      go false h e rest = FirstFound.later h (rest e)

  -- exactly.
  pub said_exactly : (fs : List (Finding A)) {x : A} → (x ≡ otherwise → ⊥) → (first_found otherwise fs ≡ x) ↔ FirstFound fs x
  said_exactly fs other = (said_is_first fs other, first_is_said)

  -- What comes after is asked only if nothing was found before.
  pub after_none : {a : List (Finding A)} (b : List (Finding A)) → NoneFound a → first_found otherwise (a then b) ≡ first_found otherwise b
  unfolding first_found
  after_none b NoneFound.end = refl
  after_none b (NoneFound.later c rest) = rw c (after_none b rest)

-- Either none is found, or one is the first.
pub none_or_first : {A : Type 0} (fs : List (Finding A)) → NoneFound fs ⊎ ((x : A) × FirstFound fs x)
none_or_first {A = A} [] = inl NoneFound.end
none_or_first {A = A} (f ∷ fs) = go f.cause refl (none_or_first fs)
  where
    go : (c : Bool) → f.cause ≡ c → NoneFound fs ⊎ ((x : A) × FirstFound fs x) → NoneFound (f ∷ fs) ⊎ ((x : A) × FirstFound (f ∷ fs) x)
    go true h rest = inr (f.answer, FirstFound.here h)
    go false h (inl none) = inl (NoneFound.later h none)
    go false h (inr one) = inr (one.0, FirstFound.later h one.1)

-- Nothing is found in joined lists exactly if nothing is in each.
pub none_joined : {A : Type 0} {a b : List (Finding A)} → NoneFound a → NoneFound b → NoneFound (a then b)
none_joined NoneFound.end q = q
none_joined (NoneFound.later c rest) q = NoneFound.later c (none_joined rest q)

pub none_apart : {A : Type 0} (a : List (Finding A)) {b : List (Finding A)} → NoneFound (a then b) → NoneFound a × NoneFound b
none_apart [] p = (NoneFound.end, p)
none_apart (f ∷ a) (NoneFound.later c rest) = let r = none_apart a rest in (NoneFound.later c r.0, r.1)

-- What is found first in a list is first with more behind it,
pub first_in_front : {A : Type 0} {a : List (Finding A)} {x : A} (b : List (Finding A)) → FirstFound a x → FirstFound (a then b) x
first_in_front b (FirstFound.here c) = FirstFound.here c
first_in_front b (FirstFound.later c rest) = FirstFound.later c (first_in_front b rest)

-- and with a list before it in which nothing is found.
pub first_behind : {A : Type 0} {a b : List (Finding A)} {x : A} → NoneFound a → FirstFound b x → FirstFound (a then b) x
first_behind NoneFound.end first = first
first_behind (NoneFound.later c rest) first = FirstFound.later c (first_behind rest first)

-- What is said decides, whatever comes after.
pub decides : {A : Type 0} (otherwise : A) (a b : List (Finding A)) {x : A} → x ≡ first_found otherwise a → (x ≡ otherwise → ⊥) →
    x ≡ first_found otherwise (a then b)
decides otherwise a b e other = sym (first_is_said otherwise (first_in_front b (said_is_first otherwise a other (sym e))))

-- for lists that say the same, whatever is said where nothing is found

pub record Alike {A : Type 0} (a b : List (Finding A)) : Type 0 where
  pub same : (otherwise : A) → first_found otherwise a ≡ first_found otherwise b

module _ {A : Type 0} where
  -- A cause that is not there says nothing.
  pub alike_without : {f : Finding A} {fs : List (Finding A)} → f.cause ≡ false → Alike (f ∷ fs) fs
  unfolding first_found
  alike_without c = record { same = λ otherwise. rw c }

  -- what is said by lists one after the other
  in_turn : (otherwise : A) (a b : List (Finding A)) → first_found otherwise (a then b) ≡ first_found (first_found otherwise b) a
  unfolding first_found
  in_turn otherwise [] b = refl
  in_turn otherwise (f ∷ a) b = ap (cond f.cause f.answer) (in_turn otherwise a b)

  -- Joined lists say the same if the first do, and those after them where nothing is found before.
  pub alike_in_turn : {a b c d : List (Finding A)} → Alike a b → (NoneFound b → Alike c d) → Alike (a then c) (b then d)
  alike_in_turn {a} {b} {c} {d} same later =
      record { same = λ otherwise. in_turn otherwise a c ∙ (same.same (first_found otherwise c) ∙ go otherwise (none_or_first b)) }
    where
      go : (otherwise : A) → NoneFound b ⊎ ((x : A) × FirstFound b x) → first_found (first_found otherwise c) b ≡ first_found otherwise (b then d)
      go otherwise (inl none) = none_says_otherwise (first_found otherwise c) none ∙ ((later none).same otherwise ∙ sym (after_none otherwise d none))
      go otherwise (inr one) = first_is_said (first_found otherwise c) one.1 ∙ sym (first_is_said otherwise (first_in_front d one.1))

-- for lists that say only such things

module _ {A : Type 0} {such : A → Type 0} where
  -- Joined lists do if both do.
  pub all_joined : {a b : List (Finding A)} → AllSay such a → AllSay such b → AllSay such (a then b)
  all_joined AllSay.end q = q
  all_joined (AllSay.next x p) q = AllSay.next x (all_joined p q)

  -- What is found first is such.
  pub first_is_such : {fs : List (Finding A)} {x : A} → AllSay such fs → FirstFound fs x → such x
  first_is_such AllSay.end first = elim first [ ]
  first_is_such (AllSay.next x p) (FirstFound.here c) = x
  first_is_such (AllSay.next x p) (FirstFound.later c first) = first_is_such p first

  module _ (otherwise : A) {fs : List (Finding A)} (all : AllSay such fs) where
    -- What is said is otherwise, or such.
    pub otherwise_or_such : (first_found otherwise fs ≡ otherwise) ⊎ such (first_found otherwise fs)
    otherwise_or_such = go (none_or_first fs)
      where
        go : NoneFound fs ⊎ ((x : A) × FirstFound fs x) → (first_found otherwise fs ≡ otherwise) ⊎ such (first_found otherwise fs)
        go (inl none) = inl (none_says_otherwise otherwise none)
        go (inr one) = inr (subst such (sym (first_is_said otherwise one.1)) (first_is_such all one.1))

    -- And if otherwise is not such, it is said exactly where no cause is there.
    pub none_exactly : (such otherwise → ⊥) → (first_found otherwise fs ≡ otherwise) ↔ NoneFound fs
    none_exactly other = (λ e. go e (none_or_first fs), none_says_otherwise otherwise)
      where
        go : first_found otherwise fs ≡ otherwise → NoneFound fs ⊎ ((x : A) × FirstFound fs x) → NoneFound fs
        go e (inl none) = none
        go e (inr one) = absurd (other (subst such (sym (first_is_said otherwise one.1) ∙ e) (first_is_such all one.1)))

-- Tests whose numbers are from lo to hi say only such numbers.
pub in_range : (lo hi : ℕ) (ts : List Test) → ranged lo hi ts ≡ true → AllSay (λ k. (lo ≤ k) × (k ≤ hi)) ts
in_range lo hi [] r = AllSay.end
in_range lo hi (t ∷ ts) r =
    let parts = both (leb lo t.answer && leb t.answer hi) (ranged lo hi ts) r in
    let bounds = both (leb lo t.answer) (leb t.answer hi) parts.0 in
    AllSay.next (leb-true lo t.answer bounds.0, leb-true t.answer hi bounds.1) (in_range lo hi ts parts.1)

-- Nothing is found in five lists that are joined: nothing is in each.
pub none_in_five : {A : Type 0} (a b c d : List (Finding A)) {e : List (Finding A)} → NoneFound (a then b then c then d then e) →
    NoneFound a × NoneFound b × NoneFound c × NoneFound d × NoneFound e
none_in_five a b c d none =
    let x₁ = none_apart a none in
    let x₂ = none_apart b x₁.1 in
    let x₃ = none_apart c x₂.1 in
    let x₄ = none_apart d x₃.1 in
    (x₁.0, x₂.0, x₃.0, x₄.0, x₄.1)
