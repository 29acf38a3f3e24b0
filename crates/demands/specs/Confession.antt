-- "the bit of PD2 was once left out because nothing on the bench changed. On a full box a job slipped past its window" (the demands): on a full box of three cores,
-- with the bit left out of the order, a row slips past its window.
use Rattle.std.specs.Prelude.{◌≡◌, List, [], ◌∷◌, map}
use Rattle.table.specs.declared.Row.{Row}
use Rattle.pd2.specs.Order.{before}
use Rattle.pd2.specs.Courses.{plain, late_by, bit_left_out}

-- 2/3, 2/3, 5/6 and 5/6 take all of three cores.
abbrev pub full_box : List Row
full_box = plain 2 3 ∷ plain 2 3 ∷ plain 5 6 ∷ plain 5 6 ∷ []

-- Row 3 is late at time 6.
abbrev pub BitLeftOutRowIsLate : Type 0
BitLeftOutRowIsLate = late_by bit_left_out full_box 3 6 ≡ 3 ∷ []

-- By PD2's order nobody is late at any time of the cycle.
abbrev pub ByPd2NobodyIsLate : Type 0
ByPd2NobodyIsLate = map (late_by before full_box 3) (0 ∷ 1 ∷ 2 ∷ 3 ∷ 4 ∷ 5 ∷ 6 ∷ []) ≡ [] ∷ [] ∷ [] ∷ [] ∷ [] ∷ [] ∷ [] ∷ []

pub record Confession : Type 0 where
  pub bit_left_out_row_is_late : BitLeftOutRowIsLate
  pub by_pd2 : ByPd2NobodyIsLate
