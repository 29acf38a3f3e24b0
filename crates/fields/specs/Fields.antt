-- Fields in bytes: "Little-endian throughout." A byte past the end counts as 0; that a field's bytes are there is another question.
use Rattle.std.specs.Prelude.{ℕ, zero, suc, ◌+◌, ◌*◌, ◌/◌, ◌%◌, List, [], ◌∷◌, Bool, ltb, length, get_or}

-- the byte at place i
abbrev pub byte : List ℕ → ℕ → ℕ
byte s i = get_or s i 0

-- the number in the two bytes from place i on
abbrev pub half : List ℕ → ℕ → ℕ
half s i = byte s i + 256 * byte s (i + 1)

-- the number in the four bytes from place i on
abbrev pub word : List ℕ → ℕ → ℕ
word s i = half s i + 65_536 * half s (i + 2)

-- a number in so many bytes, whatever their count: what does not fit into them is left out
unfoldable pub bytes_of : ℕ → ℕ → List ℕ
bytes_of zero n = []
bytes_of (suc width) n = n % 256 ∷ bytes_of width (n / 256)

-- the number in so many bytes from place i on; `half` and `word` are those of two and of four
unfoldable pub number_at : ℕ → List ℕ → ℕ → ℕ
number_at zero s i = 0
number_at (suc width) s i = byte s i + 256 * number_at width s (i + 1)

-- the bytes end before place n
abbrev pub shorter : List ℕ → ℕ → Bool
shorter s n = ltb (length s) n
