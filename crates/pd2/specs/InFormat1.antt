-- In format 1 PD2's order is 01's, as if there were no fifth rule (02, Eight: "Tables of format 2 .. end PD2's order differently").
use Rattle.std.specs.Prelude.{◌<◌, ◌≡◌, ◌↔◌}
use Rattle.pd2.specs.Order.{Rank, Before}

-- "Order (001): smaller d; then b = 1 before b = 0; if both have b = 1, larger D; then the lower row number": 01's four rules.
pub data BeforeIn01 (x y : Rank) : Type 0 where
  by_deadline : x.d < y.d → BeforeIn01 x y
  by_bit : x.d ≡ y.d → x.b ≡ 1 → y.b ≡ 0 → BeforeIn01 x y
  by_group : x.d ≡ y.d → x.b ≡ 1 → y.b ≡ 1 → y.D < x.D → BeforeIn01 x y
  by_row : x.d ≡ y.d → x.b ≡ y.b → (x.b ≡ 1 → x.D ≡ y.D) → x.row < y.row → BeforeIn01 x y

-- Where both rows are favoured or neither is, as it is of any two in format 1, these rules decide.
abbrev pub AlikeIsIn01 : Type 0
AlikeIsIn01 = (x y : Rank) → x.favoured ≡ y.favoured → Before x y ↔ BeforeIn01 x y
