-- What a slot or a check says: a number of 01's table, a row and a time.
use Rattle.std.specs.Prelude.{ℕ}

pub record Said : Type 0 where
  pub number : ℕ
  pub row : ℕ
  pub time : ℕ

-- "In the answers of a slot and of the checker, row and time are 0 except with 1, 44 and 45."
abbrev pub bare : ℕ → Said
bare number = record { number = number; row = 0; time = 0 }

-- with 1, 44 and 45: the number, the row and the time
abbrev pub named : ℕ → ℕ → ℕ → Said
named number row time = record { number = number; row = row; time = time }
