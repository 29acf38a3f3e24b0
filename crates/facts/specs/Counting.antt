-- Counting and listing the numbers below a bound that pass a test.
use Rattle.std.specs.Prelude.{ℕ, zero, suc, ◌+◌, List, [], ◌∷◌, ◌++◌, Bool, cond, ltb}

-- how many pass
unfoldable pub how_many : (ℕ → Bool) → ℕ → ℕ
how_many test zero = 0
how_many test (suc n) = how_many test n + cond (test n) 1 0

-- whether one passes
abbrev pub some : (ℕ → Bool) → ℕ → Bool
some test n = ltb 0 (how_many test n)

-- those that pass, rising
unfoldable pub those : (ℕ → Bool) → ℕ → List ℕ
those test zero = []
those test (suc n) = those test n ++ cond (test n) (n ∷ []) []
