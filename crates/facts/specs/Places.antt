-- Places that stand a step apart, and what is read there; marks.
use Rattle.std.specs.Prelude.{ℕ, zero, suc, ◌+◌, ◌-◌, List, [], ◌∷◌, ◌++◌, map, Bool, replicate}

-- n places: from, from + step, ..
unfoldable pub places : ℕ → ℕ → ℕ → List ℕ
places from step zero = []
places from step (suc n) = from ∷ places (from + step) step n

-- A mark for each number below n.
abbrev pub marks_of : (ℕ → Bool) → ℕ → List Bool
marks_of is n = map is (places 0 1 n)

-- An array of so many elements: what is read at n places, and then nothing more.
unfoldable pub padded : {A : Type 0} → (ℕ → A) → A → ℕ → ℕ → ℕ → ℕ → List A
padded read nothing size from step n = map read (places from step n) ++ replicate (size - n) nothing
