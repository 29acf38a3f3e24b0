-- What is read of a request besides values.
use Rattle.std.specs.Prelude.{ℕ, ◌+◌, ◌/◌, ◌%◌, ◌^◌, ◌<◌, ◌≡◌, List, Bool, false, eqb, get_or}
use Rattle.fields.specs.Fields.{half, word, number_at}
use Rattle.probe.specs.declared.answers.Question.{Question}

-- A window question: e (2), p (2), f (2), i (8).
pub record QuestionAt (s : List ℕ) (at : ℕ) (asked : Question) : Type 0 where
  pub cost : asked.e ≡ half s at
  pub period : asked.p ≡ half s (at + 2)
  pub phase : asked.f ≡ half s (at + 4)
  pub subtask : asked.i.0 ≡ number_at 8 s (at + 6)

-- A set (4): bit c is core c.
abbrev pub SetAt : List ℕ → ℕ → List Bool → Type 0
SetAt s i marks = (core : ℕ) → core < 32 → get_or marks core false ≡ eqb (word s i / 2 ^ core % 2) 1
