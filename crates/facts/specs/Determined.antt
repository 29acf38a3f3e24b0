-- When a promise determines what it speaks of.
use Rattle.std.specs.Prelude.{◌≡◌}

-- A promise says of each result whether it is allowed. It determines the result if any two allowed results are equal.
abbrev pub Determined : {R : Type 0} → (R → Type 0) → Type 0
Determined {R} allowed = (a b : R) → allowed a → allowed b → a ≡ b

-- A meaning tells all results apart if two results of one meaning are equal.
abbrev pub TellsApart : {R M : Type 0} → (R → M) → Type 0
TellsApart {R} meaning = (a b : R) → meaning a ≡ meaning b → a ≡ b
