-- Tests of elements one after the other, where something has to rise.
use Rattle.std.specs.Prelude.{ℕ, List, [], ◌∷◌}
use Rattle.facts.specs.Findings.{Test, ◌then◌}

-- Each element is tested with the least that may stand in its place, and `above` it is the least that may stand in the next.
unfoldable pub rising : {A : Type 0} → (ℕ → A → List Test) → (A → ℕ) → ℕ → List A → List Test
rising tests above least [] = []
rising tests above least (x ∷ xs) = tests least x then rising tests above (above x) xs
