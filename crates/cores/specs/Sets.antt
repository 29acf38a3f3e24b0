-- Sets of cores (02, One): "which cores are free, as a set of cores, numbered 0 to M - 1 in board order". A set has a mark for each of the
-- numbers 0 to 31, so that it can also name cores that are not there.
use Rattle.std.specs.Prelude.{ℕ, ◌≤◌, ◌<◌, ◌≡◌, List, Bool, false, ◌&&◌, ltb, leb, length, get_or}
use Rattle.facts.specs.Counting.{some}
use Rattle.facts.specs.Places.{marks_of}
use Rattle.trace.specs.Record.{marked}

-- how many numbers a set can name
abbrev pub set_limit : ℕ
set_limit = 32

-- "k becomes the size of the set"
abbrev pub size : List Bool → ℕ
size free = length (marked free)

-- "a set naming a core not below M"
abbrev pub names_past : ℕ → List Bool → Bool
names_past cores free = some (λ core. get_or free core false && leb cores core) (length free)

-- "the printer's k means the first k cores"
abbrev pub first_cores : ℕ → List Bool
first_cores k = marks_of (λ core. ltb core k) set_limit

-- "or a printer's k above M": the first k cores are those below k; they name one past M exactly if k is above M, and else there are k of them.
pub record FirstAre (cores k : ℕ) : Type 0 where
  pub marks : (core : ℕ) → core < set_limit → get_or (first_cores k) core false ≡ ltb core k
  pub past : names_past cores (first_cores k) ≡ ltb cores k
  pub size_is : k ≤ set_limit → size (first_cores k) ≡ k

abbrev pub FirstCoresAreK : Type 0
FirstCoresAreK = (cores k : ℕ) → cores ≤ 8 → FirstAre cores k
