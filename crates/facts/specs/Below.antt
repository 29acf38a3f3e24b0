-- Numbers that are all below a bound, as bytes are below 256.
use Rattle.std.specs.Prelude.{ℕ, List, [], ◌∷◌, Bool, true, ◌&&◌, ltb}

unfoldable pub all_below : ℕ → List ℕ → Bool
all_below top [] = true
all_below top (x ∷ xs) = ltb x top && all_below top xs
