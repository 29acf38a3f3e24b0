-- Causes that are looked for one after the other, each with what is then said: "the first fault met is answered".
use Rattle.std.specs.Prelude.{ℕ, ◌≡◌, List, [], ◌∷◌, ◌++◌, Bool, true, false, cond}

infix 70 ◌says◌
infixr 60 ◌then◌
-- A cause, and what is said where it is there.
pub record Finding (A : Type 0) : Type 0 where
  pub cause : Bool
  pub answer : A

abbrev pub ◌says◌ : {A : Type 0} → Bool → A → Finding A
cause says answer = record { cause = cause; answer = answer }

-- A test: a cause with the number of a fault. 0 is none.
abbrev pub Test : Type 0
Test = Finding ℕ

-- Those that are looked for first, and those after them.
abbrev pub ◌then◌ : {A : Type 0} → List (Finding A) → List (Finding A) → List (Finding A)
first then after = first ++ after

-- What the first cause that is there says; `otherwise` where none is.
unfoldable pub first_found : {A : Type 0} → A → List (Finding A) → A
first_found otherwise [] = otherwise
first_found otherwise (f ∷ fs) =
    let later = first_found otherwise fs in
    cond f.cause f.answer later

-- The same, said case by case: x is what the first cause that is there says.
pub data FirstFound {A : Type 0} : List (Finding A) → A → Type 0 where
  here : {f : Finding A} {fs : List (Finding A)} → f.cause ≡ true → FirstFound (f ∷ fs) f.answer
  later : {f : Finding A} {fs : List (Finding A)} {x : A} → f.cause ≡ false → FirstFound fs x → FirstFound (f ∷ fs) x

-- No cause is there.
pub data NoneFound {A : Type 0} : List (Finding A) → Type 0 where
  end : NoneFound []
  later : {f : Finding A} {fs : List (Finding A)} → f.cause ≡ false → NoneFound fs → NoneFound (f ∷ fs)
