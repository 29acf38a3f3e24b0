-- PD2's order (01, "Who is ready, and who goes first"; 02, Eight, for tables of format 2).
use Rattle.std.specs.Prelude.{ℕ, ◌+◌, ◌<◌, ◌≡◌, Bool, true, false, not, ◌&&◌, ◌||◌, ltb, eqb}
use Rattle.std.specs.Bool.{beq}
use Rattle.windows.specs.Windows.{deadline, bit}
use Rattle.windows.specs.Group.{group_deadline}
use Rattle.table.specs.declared.Row.{Row}
use Rattle.pd2.specs.Ready.{origin_of}

-- What the order looks at: d, b and D of a row's next subtask, whether the row is favoured, and the row's number.
pub record Rank : Type 0 where
  pub d : ℕ
  pub b : ℕ
  pub D : ℕ
  pub favoured : Bool
  pub row : ℕ

-- The rank of row i with q quanta, where it is not favoured,
abbrev pub rank_of : Row → ℕ → ℕ → Rank
rank_of row i q =
    record {
      d = deadline row.cost row.period (origin_of row) (q + 1);
      b = bit row.cost row.period (q + 1);
      D = group_deadline row.cost row.period (origin_of row) (q + 1);
      favoured = false;
      row = i;
    }

-- and where it may be. "Tables of format 2": "a row picked in the previous slot" is favoured; in format 1 nobody is.
abbrev pub with_favour : Rank → Bool → Rank
with_favour x favoured = record { d = x.d; b = x.b; D = x.D; favoured = favoured; row = x.row }

-- "full ties": the same d and the same b, and the same D where it is asked for.
pub record FullTie (x y : Rank) : Type 0 where
  pub deadline : x.d ≡ y.d
  pub bit : x.b ≡ y.b
  pub group : x.b ≡ 1 → x.D ≡ y.D

-- "Order (001): smaller d; then b = 1 before b = 0; if both have b = 1, larger D; then the lower row number"; in format 2 "among full ties, a row picked
-- in the previous slot goes first, then the lower row number". x goes before y by one of five rules.
pub data Before (x y : Rank) : Type 0 where
  by_deadline : x.d < y.d → Before x y
  by_bit : x.d ≡ y.d → x.b ≡ 1 → y.b ≡ 0 → Before x y
  by_group : x.d ≡ y.d → x.b ≡ 1 → y.b ≡ 1 → y.D < x.D → Before x y
  by_favour : FullTie x y → x.favoured ≡ true → y.favoured ≡ false → Before x y
  by_row : FullTie x y → x.favoured ≡ y.favoured → x.row < y.row → Before x y

-- The same as tests, rule by rule.
abbrev pub bit_decides : Rank → Rank → Bool
bit_decides x y = eqb x.b 1 && eqb y.b 0

abbrev pub group_decides : Rank → Rank → Bool
group_decides x y = eqb x.b 1 && eqb y.b 1 && ltb y.D x.D

-- what a full tie asks beside the same d
abbrev pub tied_behind : Rank → Rank → Bool
tied_behind x y = eqb x.b y.b && (not (eqb x.b 1) || eqb x.D y.D)

abbrev pub favour_decides : Rank → Rank → Bool
favour_decides x y = tied_behind x y && x.favoured && not y.favoured

abbrev pub row_decides : Rank → Rank → Bool
row_decides x y = tied_behind x y && beq x.favoured y.favoured && ltb x.row y.row

unfoldable pub before : Rank → Rank → Bool
before x y = ltb x.d y.d || (eqb x.d y.d && (bit_decides x y || group_decides x y || favour_decides x y || row_decides x y))
