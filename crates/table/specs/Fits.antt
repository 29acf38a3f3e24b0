-- What a value of the code can hold: its types say that each number fits its field, and that each array has its places.
use Rattle.std.specs.Prelude.{◌^◌, ◌≡◌, List, [], ◌∷◌, Bool, true, ◌&&◌, ltb, length}
use Rattle.facts.specs.Below.{all_below}
use Rattle.table.specs.declared.Row.{Row}
use Rattle.table.specs.declared.Table.{Table}
use Rattle.table.specs.Limits.{core_limit, row_limit}

-- rows: a tank, e, p and f of two bytes each, and a kind of one
abbrev pub row_fits : Row → Bool
row_fits row = all_below 65_536 (row.tank ∷ row.cost ∷ row.period ∷ row.phase ∷ []) && ltb row.kind 256

unfoldable pub rows_fit : List Row → Bool
rows_fit [] = true
rows_fit (row ∷ rows) = row_fits row && rows_fit rows

-- a table value: L of four bytes, the format, M, n and the board numbers of one each
abbrev pub table_fits : Table → Bool
table_fits t = ltb t.cycle (2 ^ 32) && all_below 256 (t.format ∷ t.cores ∷ t.n ∷ t.boards) && rows_fit t.rows

-- its numbers fit, and it has 8 places for board numbers and 32 for rows
pub record CanBeHeld (t : Table) : Type 0 where
  pub numbers : table_fits t ≡ true
  pub boards : length t.boards ≡ core_limit
  pub rows : length t.rows ≡ row_limit
