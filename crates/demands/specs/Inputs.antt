-- What a program can be called with. A definition speaks of every list and every number; the statements of what is shut out speak of those alone that
-- can be: a byte is below 256, a slice has fewer than 2 to the 63 of them, an array has its length, and each number fits its type.
use Rattle.std.specs.Prelude.{ℕ, ◌^◌, ◌≡◌, List, [], ◌∷◌, ◌++◌, Bool, true, ◌&&◌, ltb, length}
use Rattle.facts.specs.Below.{all_below}
use Rattle.counts.specs.declared.Subtask.{Subtask}
use Rattle.table.specs.declared.Table.{Table}
use Rattle.table.specs.Fits.{CanBeHeld}
use Rattle.cores.specs.Sets.{first_cores}
use Rattle.dispatcher.specs.declared.State.{State}
use Rattle.dispatcher.specs.State.{quanta_in, time_of}

-- bytes of a slice
abbrev pub Bytes : List ℕ → Type 0
Bytes s = all_below 256 s && ltb (length s) (2 ^ 63) ≡ true

-- A window can be asked for so: e, p and f of two bytes each, and a number i of 64 bits.
abbrev pub CanAskWindow : ℕ → ℕ → ℕ → Subtask → Type 0
CanAskWindow e p f i = all_below 65_536 (e ∷ p ∷ f ∷ []) && ltb i.0 (2 ^ 64) ≡ true

-- A slot can be asked so: the state holds 8 board numbers, 32 rows, 32 quanta, and a memory of 8 places in bytes; time, quanta and place are numbers of 64
-- bits, and a set has 32 marks.
pub record Possible (s : State) (free : List Bool) (buffer : List ℕ) (place : ℕ) : Type 0 where
  pub table : CanBeHeld s.table
  pub quanta : length s.quanta ≡ 32
  pub counts : all_below (2 ^ 64) (place ∷ time_of s ∷ quanta_in s) ≡ true
  pub last_rows : length s.last.rows ≡ 8
  pub last_cores : length s.last.cores ≡ 8
  pub remembered : all_below 256 (s.last.count ∷ s.last.rows ++ s.last.cores) ≡ true
  pub marks : length free ≡ 32
  pub bytes : Bytes buffer

-- Why a row waits can be asked so: of a state of which a slot can be asked, here one with the first k cores and no buffer, with a k and a row in one byte each.
pub record CanAsk (s : State) (k row : ℕ) : Type 0 where
  pub state : Possible s (first_cores k) [] 0
  pub numbers : all_below 256 (k ∷ row ∷ []) ≡ true

-- A table can be written so: a value as its types allow it, into a slice of bytes.
pub record CanWrite (t : Table) (buffer : List ℕ) : Type 0 where
  pub table : CanBeHeld t
  pub bytes : Bytes buffer

-- A listing can be asked for so: an input and a buffer, both slices of bytes.
pub record CanPrint (input out : List ℕ) : Type 0 where
  pub read : Bytes input
  pub written : Bytes out
