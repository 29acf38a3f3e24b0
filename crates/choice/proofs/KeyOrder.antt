-- The order of the keys is PD2's order. Assumes nothing.
use Prim.Native.Nat.{ℕ, ◌+◌, ◌-◌, ◌*◌, ◌%◌, ◌≤◌, ◌<◌}
use mathlib.Core.Path.{◌≡◌, refl, sym, ◌∙◌}
use mathlib.Core.Bool.{Bool, true, false, not, ◌&&◌, ◌||◌, beq}
use mathlib.Core.Logic.{◌⊎◌, inl, inr}
use native.Mathlib.Nat.{div-add-mod', mod-lt}
use native.Mathlib.Decide.{dec_lt}
use native.Mathlib.Omega.{arith}
use borrow.Author.Tests.{lt-ltb, le-ltb, eq-eqb, ne_eqb}
use lib.Dec.{ltb, leb}
use Rattle.facts.proofs.Tests.{same_test}
use Rattle.windows.proofs.Windows.{bit_is_0_or_1}
use Rattle.windows.proofs.Formula.{group_deadline_is_near}
use Rattle.table.specs.declared.Row.{Row}
use Rattle.pd2.specs.Order.{Rank, rank_of, with_favour, before, bit_decides, group_decides, favour_decides, row_decides}
use Rattle.pd2.specs.Ready.{origin_of}
use Rattle.pd2.specs.Near.{HasWindow}
use Rattle.pd2.proofs.Order.{sooner_goes_first, later_does_not, other_rules_decide}
use Rattle.choice.specs.Keys.{behind, front_of, end_of, key_for, HasKey, KeysOrderAsPd2}

-- For callers: D lies no further behind d than 16 bits can say,
pub behind_fits : (x : Rank) → HasKey x → behind x < 65_536
behind_fits x has = go has.bit
  where
    near : (x.D ≡ 0) ⊎ ((x.d < x.D) × (x.D < x.d + 65_536)) → x.D - x.d < 65_536
    near (inl none) = omega arith
    near (inr some) = omega arith

    go : (x.b ≡ 0) ⊎ (x.b ≡ 1) → behind x < 65_536
    go (inl b) = rw b (omega arith)
    go (inr b) = rw b (near (has.group b))

-- and where it is larger, it lies further behind.
further : (d D D' : ℕ) → (D ≡ 0) ⊎ ((d < D) × (D < d + 65_536)) → D' < D → D' - d < D - d
further d D D' (inl none) l = absurd (omega arith)
further d D D' (inr some) l = omega arith

-- For callers: a key ends below 64,
pub end_fits : (favoured : Bool) (row : ℕ) → row < 32 → end_of favoured row < 64
end_fits true row l = omega arith
end_fits false row l = omega arith

-- and by its end the favoured row goes first, then the lower.
ends_order : (f g : Bool) (row other : ℕ) → row < 32 → other < 32 →
    (f && not g) || (beq f g && ltb row other) ≡ ltb (end_of f row) (end_of g other)
ends_order true true row other l m = refl
ends_order true false row other l m = sym (lt-ltb row (32 + other) (omega arith))
ends_order false true row other l m = sym (le-ltb (32 + row) other (omega arith))
ends_order false false row other l m = same_test {b = other} {d = 32 + other} (λ h. omega arith, λ h. omega arith)

-- A key by its parts,
abbrev key : ℕ → ℕ → ℕ → ℕ → ℕ
key d b far end = ((2 * d + (1 - b)) * 65_536 + (65_535 - far)) * 64 + end

-- of which the front ones count first: where they differ, the others do not matter.
module _ (d b far end d' b' far' end' : ℕ) (hb : b ≤ 1) (hb' : b' ≤ 1) (he : end < 64) (he' : end' < 64) where
  by_deadline : d < d' → key d b far end < key d' b' far' end'
  by_deadline l = omega arith

  by_bit : d ≡ d' → b' < b → key d b far end < key d' b' far' end'
  by_bit same l = omega arith

  by_group : d ≡ d' → b ≡ b' → far < 65_536 → far' < far → key d b far end < key d' b' far' end'
  by_group same equal fits l = omega arith

  by_end : d ≡ d' → b ≡ b' → far ≡ far' → ltb end end' ≡ ltb (key d b far end) (key d' b' far' end')
  by_end same equal alike = same_test {b = end'} {d = key d' b' far' end'} (λ l. omega arith, λ l. omega arith)

at_most_1 : {b : ℕ} → (b ≡ 0) ⊎ (b ≡ 1) → b ≤ 1
at_most_1 (inl z) = omega arith
at_most_1 (inr z) = omega arith

-- The four rules of one deadline, by the bits.
module _ (x y : Rank) where
  abbrev rules : Bool
  rules = bit_decides x y || group_decides x y || favour_decides x y || row_decides x y

  -- the last two of them
  abbrev last : Bool
  last = (x.favoured && not y.favoured) || (beq x.favoured y.favoured && ltb x.row y.row)

  at_00 : x.b ≡ 0 → y.b ≡ 0 → rules ≡ last
  at_00 p q = rw (p, q) refl

  at_01 : x.b ≡ 0 → y.b ≡ 1 → rules ≡ false
  at_01 p q = rw (p, q) refl

  at_10 : x.b ≡ 1 → y.b ≡ 0 → rules ≡ true
  at_10 p q = rw (p, q) refl

  -- the larger D goes first
  at_11 : x.b ≡ 1 → y.b ≡ 1 → y.D < x.D → rules ≡ true
  at_11 p q l = rw (p, q, lt-ltb y.D x.D l) refl

  at_11_less : x.b ≡ 1 → y.b ≡ 1 → x.D < y.D → rules ≡ false
  at_11_less p q l = rw (p, q, le-ltb y.D x.D (omega arith), ne_eqb x.D y.D (λ e. omega arith)) refl

  at_11_even : x.b ≡ 1 → y.b ≡ 1 → x.D ≡ y.D → rules ≡ last
  at_11_even p q e = rw (p, q, le-ltb y.D x.D (omega arith), eq-eqb x.D y.D e) refl

module _ (x y : Rank) (hx : HasKey x) (hy : HasKey y) where
  abbrev end_x : ℕ
  end_x = end_of x.favoured x.row

  abbrev end_y : ℕ
  end_y = end_of y.favoured y.row

  abbrev key_x : ℕ
  key_x = key x.d x.b (behind x) end_x

  abbrev key_y : ℕ
  key_y = key y.d y.b (behind y) end_y

  bx : x.b ≤ 1
  bx = at_most_1 hx.bit

  by : y.b ≤ 1
  by = at_most_1 hy.bit

  ex : end_x < 64
  ex = end_fits x.favoured x.row hx.row

  ey : end_y < 64
  ey = end_fits y.favoured y.row hy.row

  -- where the rest is the same, the ends decide
  by_ends : x.d ≡ y.d → x.b ≡ y.b → behind x ≡ behind y → last x y ≡ ltb key_x key_y
  by_ends same equal alike =
      ends_order x.favoured y.favoured x.row y.row hx.row hy.row
      ∙ by_end x.d x.b (behind x) end_x y.d y.b (behind y) end_y bx by ex ey same equal alike

  -- where both bits are 1, the further D goes first
  by_groups : x.d ≡ y.d → x.b ≡ 1 → y.b ≡ 1 → rules x y ≡ ltb key_x key_y
  by_groups same p q = go (dec_lt y.D x.D) (dec_lt x.D y.D)
    where
      far_x : behind x ≡ x.D - x.d
      far_x = rw p refl

      far_y : behind y ≡ y.D - y.d
      far_y = rw q refl

      go : Dec (y.D < x.D) → Dec (x.D < y.D) → rules x y ≡ ltb key_x key_y
      go (yes l) m =
          let more = further x.d x.D y.D (hx.group p) l in
          let less : key_x < key_y = by_group x.d x.b (behind x) end_x y.d y.b (behind y) end_y bx by ex ey same (p ∙ sym q) (behind_fits x hx) (omega (arith, far_x, far_y, more)) in
          at_11 x y p q l ∙ sym (lt-ltb key_x key_y less)
      go (no l) (yes m) =
          let more = further y.d y.D x.D (hy.group q) m in
          let less : key_y < key_x = by_group y.d y.b (behind y) end_y x.d x.b (behind x) end_x by bx ey ex (sym same) (q ∙ sym p) (behind_fits y hy) (omega (arith, far_x, far_y, more)) in
          at_11_less x y p q m ∙ sym (le-ltb key_x key_y (omega arith))
      go (no l) (no m) = let even : x.D ≡ y.D = omega arith in at_11_even x y p q even ∙ by_ends same (p ∙ sym q) (omega (arith, far_x, far_y))

  by_bits : x.d ≡ y.d → (x.b ≡ 0) ⊎ (x.b ≡ 1) → (y.b ≡ 0) ⊎ (y.b ≡ 1) → rules x y ≡ ltb key_x key_y
  by_bits same (inl p) (inl q) = at_00 x y p q ∙ by_ends same (p ∙ sym q) (rw (p, q) refl)
  by_bits same (inl p) (inr q) =
      let less : key_y < key_x = by_bit y.d y.b (behind y) end_y x.d x.b (behind x) end_x by bx ey ex (sym same) (omega arith) in
      at_01 x y p q ∙ sym (le-ltb key_x key_y (omega arith))
  by_bits same (inr p) (inl q) =
      let less : key_x < key_y = by_bit x.d x.b (behind x) end_x y.d y.b (behind y) end_y bx by ex ey same (omega arith) in
      at_10 x y p q ∙ sym (lt-ltb key_x key_y less)
  by_bits same (inr p) (inr q) = by_groups same p q

  by_keys : before x y ≡ ltb key_x key_y
  by_keys = go (dec_lt x.d y.d) (dec_lt y.d x.d)
    where
      go : Dec (x.d < y.d) → Dec (y.d < x.d) → before x y ≡ ltb key_x key_y
      go (yes l) m =
          let less : key_x < key_y = by_deadline x.d x.b (behind x) end_x y.d y.b (behind y) end_y bx by ex ey l in
          sooner_goes_first x y l ∙ sym (lt-ltb key_x key_y less)
      go (no l) (yes m) =
          let less : key_y < key_x = by_deadline y.d y.b (behind y) end_y x.d x.b (behind x) end_x by bx ey ex m in
          later_does_not x y m ∙ sym (le-ltb key_x key_y (omega arith))
      go (no l) (no m) = let same : x.d ≡ y.d = omega arith in other_rules_decide x y same ∙ by_bits same hx.bit hy.bit

pub keys_order_as_pd2 : KeysOrderAsPd2
unfolding key_for
keys_order_as_pd2 x y hx hy = by_keys x y hx hy

-- The rank of a row that has a next window has a key, whether it is favoured or not.
pub rank_has_key : (row : Row) (i q : ℕ) (favoured : Bool) → HasWindow row q → row.cost < 65_536 → i < 32 → HasKey (with_favour (rank_of row i q) favoured)
rank_has_key row i q favoured has cost few =
    record {
      bit = bit_is_0_or_1 row.cost row.period (q + 1);
      group = λ one. near (group_deadline_is_near row.cost row.period (origin_of row) (q + 1) has.cost has.weight (omega arith) one);
      row = few;
    }
  where
    x : Rank
    x = rank_of row i q

    near : (x.D ≡ 0) ⊎ ((x.d < x.D) × (x.D < x.d + row.cost)) → (x.D ≡ 0) ⊎ ((x.d < x.D) × (x.D < x.d + 65_536))
    near (inl none) = inl none
    near (inr some) = inr (some.0, omega (arith, some.1))

-- A key ends with its row's number, if not favoured with 32 more,
ends_with : (front : ℕ) (favoured : Bool) (row : ℕ) → row < 32 → (front * 64 + end_of favoured row) % 32 ≡ row
ends_with front true row few =
    let rest = mod-lt (front * 64 + row) {m = 32} (omega arith) in
    omega (arith, div-add-mod' (front * 64 + row) 32)
ends_with front false row few =
    let rest = mod-lt (front * 64 + (32 + row)) {m = 32} (omega arith) in
    omega (arith, div-add-mod' (front * 64 + (32 + row)) 32)

-- For callers: so that the row is found again.
pub key_ends_with_row : (x : Rank) → x.row < 32 → key_for x % 32 ≡ x.row
unfolding key_for
key_ends_with_row x few = ends_with (front_of x) x.favoured x.row few

-- and begins with its deadline: those of the deadlines up to t + 1 lie before this number.
pub key_begins_with_deadline : (x : Rank) → HasKey x → (t : ℕ) → ltb (key_for x) ((2 * t + 4) * 4_194_304) ≡ leb x.d (t + 1)
unfolding key_for
key_begins_with_deadline x has t =
    let low = at_most_1 has.bit in
    let end = end_fits x.favoured x.row has.row in
    same_test {b = (2 * t + 4) * 4_194_304} {d = t + 1} (λ l. omega (arith, low, end), λ l. omega (arith, low, end))
