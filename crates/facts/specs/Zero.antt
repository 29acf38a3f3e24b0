-- What goes by a number of 01's table, where 0 is no fault, or a slot that is done.
use Rattle.std.specs.Prelude.{ℕ, zero, suc}

-- If the number is 0 the first, and else the second.
abbrev pub if0 : {A : Type 0} → ℕ → A → A → A
if0 zero if_so else = if_so
if0 (suc number) if_so else = else

-- If the number is 0 the first, if it is 1 the second, and else the third.
abbrev pub if01 : {A : Type 0} → ℕ → A → A → A → A
if01 zero if_zero if_one else = if_zero
if01 (suc zero) if_zero if_one else = if_one
if01 (suc (suc number)) if_zero if_one else = else
