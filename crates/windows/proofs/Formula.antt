-- The formula gives what the walk gives. Assumes nothing.
-- Up to d, counted from the origin, the row has i quanta; the other slots, g = d - i of them, are as many quanta of a row of weight (p - e)/p, and the times
-- that 01 marks are that row's deadlines. So its g-th deadline, D, is the least marked time at or after d, which is what the walk gives (W7).
use mathlib.Core.Path.{◌≡◌, refl, sym, ap, ◌∙◌}
use mathlib.Core.Logic.{◌⊎◌, inl, inr}
use Prim.Native.Nat.{ℕ, ◌+◌, ◌-◌, ◌*◌, ◌/◌, ◌%◌, ◌≤◌, ◌<◌}
use native.Mathlib.Nat.{div-add-mod', mod-lt, mul-mod_left, mul-le-mul_left, mul-le-mul_right, le_of_mul-le-mul_right, lt_of_mul-lt-mul_right}
use native.Mathlib.Decide.{ℕ_discrete, dec_lt}
use native.Mathlib.Omega.{arith}
use Rattle.facts.specs.Rounding.{ceil_div}
use Rattle.facts.proofs.Rounding.{ceil_between, ceil_is_enough, below_ceil_falls_short, ceil_is_near, floor_is_near}
use Rattle.counts.specs.Limits.{kept}
use Rattle.windows.specs.Windows.{start, deadline, bit, window_length}
use Rattle.windows.specs.Group.{group_deadline}
use Rattle.windows.specs.LeastTime.{Marks, IsGroupDeadline}
use Rattle.windows.specs.Formula.{gaps, formula, group_by_formula, FormulaGivesWalk, AnswersByFormula}
use Rattle.windows.specs.Fits.{Fits, products}
use Rattle.windows.specs.Next.{reach}
use Rattle.windows.proofs.Windows.{bit_of_whole, bit_is_0_or_1, bit_zero_divides, whole_has_bit_0, step, deadline_of_whole, window_spans, deadline_between, start_between, deadline_parts, start_parts, due_between}
use Rattle.windows.proofs.Group.{light_has_none}
use Rattle.windows.proofs.LeastTime.{walk_gives_least_time}
use Rattle.windows.proofs.Question.{fit_says, windows_are_answered}
use Rattle.windows.proofs.Fits.{product_fits}

-- A row of weight one half or more and below one, with p = e + c; its subtask i is due d slots after the origin o.
module _ (e p c o i d : ℕ) (he : 0 < e) (hc : 0 < c) (whole : p ≡ e + c) (half : c ≤ e) (hi : 0 < i) (enough : i * p ≤ d * e) (near : d * e < i * p + e) where
  split : (x : ℕ) → x * p ≡ x * e + x * c
  split x = ap (λ y. x * y) whole ∙ omega arith

  some : (x : ℕ) → 0 < x → c ≤ x * c
  some x h = omega (arith, mul-le-mul_right {m = 1} {n = x} c h)

  past : i < d
  past = lt_of_mul-lt-mul_right e {m = i} {n = d} (omega (arith, split i, some i hi))

  abbrev g : ℕ
  g = ceil_div (d * c) p

  -- the other slots up to d, times p
  others : (d - i) * p + i * p ≡ d * e + d * c
  others =
      let sum : (d - i + i) * p ≡ d * p = ap (λ x. x * p) {x = d - i + i} {y = d} (omega (arith, past)) in
      omega (arith, split d)

  -- g is their number,
  gaps_are_others : g ≡ d - i
  gaps_are_others = ceil_between (d * c) p (d - i) (omega arith) (omega (arith, others)) (omega (arith, others))

  g_times_p : g * p + i * p ≡ d * e + d * c
  g_times_p = ap (λ x. x * p + i * p) gaps_are_others ∙ others

  -- and D is the deadline of the g-th.
  abbrev D : ℕ
  D = ceil_div (g * p) c

  D-near : (g * p ≤ D * c) × (D * c < g * p + c)
  D-near = ceil_is_near (g * p) hc

  after : d ≤ D
  after = le_of_mul-le-mul_right {m = d} {n = D} {k = c} (omega (arith, g_times_p, D-near)) hc

  -- the subtask that marks it
  abbrev at : ℕ
  at = D - g

  at_times_p : at * p + g * p ≡ D * e + D * c
  at_times_p =
      let more = lt_of_mul-lt-mul_right c {m = g} {n = D + 1} (omega (arith, split g, D-near)) in
      let sum : (at + g) * p ≡ D * p = ap (λ x. x * p) {x = at + g} {y = D} (omega arith) in
      omega (arith, split D)

  first : 0 < at
  first = lt_of_mul-lt-mul_right p {m = 0} {n = at} (omega (arith, at_times_p, D-near, mul-le-mul_right {m = 1} {n = D} e (omega (arith, after, past))))

  three_long : 1 < D → start e p o at ≡ o + (D - 2) → deadline e p o at ≡ o + (D + 1) → window_length e p o at ≡ 3
  unfolding window_length
  three_long two begins ends = omega (arith, begins, ends)

  -- Its window ends at D, with bit 0; or it is 3 slots long, and ends one slot later.
  marks : Marks e p o at (o + D)
  marks = go (ℕ_discrete (at * p) (D * e))
    where
      go : Dec (at * p ≡ D * e) → Marks e p o at (o + D)
      go (yes same) =
          inl (bit_of_whole e p at (ap (λ x. x % e) same ∙ mul-mod_left D e), sym (deadline_between e p o at he D (omega arith) (omega arith)))
      go (no other) =
          let ends = deadline_between e p o at he (D + 1) (omega (arith, at_times_p, D-near)) (omega (arith, at_times_p, D-near)) in
          let two : 1 < D = lt_of_mul-lt-mul_right e {m = 1} {n = D} (omega (arith, step p at first, at_times_p, D-near)) in
          let less : (D - 2) * e + 2 * e ≡ D * e = sym (omega (arith, ap (λ x. x * e) {x = D} {y = D - 2 + 2} (omega arith))) in
          let begins = start_between e p o at (D - 2) (omega (arith, step p at first, at_times_p, D-near)) (omega (arith, step p at first, at_times_p, D-near)) in
          inr (three_long two begins ends, omega (arith, ends))

  -- No time from d on is marked sooner: one marked by subtask j, v slots after the origin, has v - j other slots before it, and those are at least g.
  least : (j u : ℕ) → 0 < j → Marks e p o j u → o + d ≤ u → o + D ≤ u
  least j u hj m du = go m
    where
      v : ℕ
      v = u - o

      -- by the products around it
      by : v * e ≤ j * p → j * p < v * e + c → o + D ≤ u
      by low high =
          let less : j < v = lt_of_mul-lt-mul_right e {m = j} {n = v} (omega (arith, split j, some j hj)) in
          let sum : (v - j + j) * p ≡ v * p = ap (λ x. x * p) {x = v - j + j} {y = v} (omega arith) in
          let later = mul-le-mul_right {m = d} {n = v} c (omega arith) in
          let more = lt_of_mul-lt-mul_right p {m = g} {n = v - j + 1} (omega (arith, split v, g_times_p)) in
          let few = mul-le-mul_right {m = g} {n = v - j} p (omega arith) in
          let x = (ceil_is_enough {a = g * p} {b = c} {x = v} hc).1 (omega (arith, split v)) in
          omega arith

      go : Marks e p o j u → o + D ≤ u
      go (inl (b, at_d)) =
          let divides = bit_zero_divides e p j b in
          let v_is : v ≡ j * p / e = omega (arith, deadline_of_whole e p o he j divides) in
          let even : v * e ≡ j * p = ap (λ x. x * e) v_is ∙ omega (arith, div-add-mod' (j * p) e, divides) in
          by (omega arith) (omega arith)
      go (inr (w, at_d)) =
          let begins = start_parts e p o j in
          let ends = deadline_parts e p o j in
          let s = (j - 1) * p / e in
          let spans = window_spans e p o he (omega arith) hj in
          let v_is : v * e ≡ (s + 2) * e = ap (λ x. x * e) {x = v} {y = s + 2} (omega arith) in
          let end_is : ceil_div (j * p) e * e ≡ (v + 1) * e = ap (λ x. x * e) {x = ceil_div (j * p) e} {y = v + 1} (omega arith) in
          by (omega (arith, ceil_is_near (j * p) he)) (omega (arith, floor_is_near ((j - 1) * p) he, step p j hj))

  is_group_deadline : deadline e p o i ≡ o + d → IsGroupDeadline e p o i (o + D)
  is_group_deadline due =
      record {
        after = omega (arith, due, after);
        marked = (at, first, marks);
        least = λ j u hj m du. least j u hj m (omega (arith, due));
      }

pub formula_gives_walk : FormulaGivesWalk
unfolding group_by_formula formula gaps
formula_gives_walk e p o i he below half hi =
    let d = deadline e p o i - o in
    let around = due_between e p o i he d refl in
    (walk_gives_least_time e p o i _ he (omega arith) half hi).0
    (is_group_deadline e p (p - e) o i d he (omega arith) (omega arith) (omega arith) hi around.0 around.1 (omega (arith, deadline_parts e p o i)))

pub answers_by_formula : AnswersByFormula
answers_by_formula e p f i below half fit =
    let range = fit_says e p i fit in
    (windows_are_answered e p f i).if_fit fit ∙ rw (formula_gives_walk e p f i range.0 below half range.2) refl

-- For callers: how far D lies behind d. Where d is o + x, and x·e is s above i·p, it takes one short division.
pub group_deadline_behind : (e p o i x s : ℕ) → 0 < e → e < p → p ≤ 2 * e → 0 < i → i * p + s ≡ x * e → s < e →
    group_deadline e p o i ≡ o + x + ceil_div s (p - e)
unfolding group_by_formula formula gaps
group_deadline_behind e p o i x s he below half hi sum few =
    let d_is = deadline_between e p o i he x (omega arith) (omega arith) in
    let due : deadline e p o i - o ≡ x = omega (arith, d_is) in
    let product = g_times_p e p (p - e) o i x he (omega arith) (omega arith) (omega arith) hi (omega arith) (omega arith) in
    let near = ceil_is_near s {b = p - e} (omega arith) in
    let behind = ceil_between (ceil_div (x * (p - e)) p * p) (p - e) (x + ceil_div s (p - e)) (omega arith) (omega arith) (omega arith) in
    sym (formula_gives_walk e p o i he below half hi)
    ∙ (ap (λ y. o + ceil_div (ceil_div (y * (p - e)) p * p) (p - e)) due
    ∙ omega (arith, behind))

-- Where the bit is 1, D is 0, or past d and less than e slots behind it.
pub group_deadline_is_near : (e p o i : ℕ) → 0 < e → e ≤ p → 0 < i → bit e p i ≡ 1 →
    (group_deadline e p o i ≡ 0) ⊎ ((deadline e p o i < group_deadline e p o i) × (group_deadline e p o i < deadline e p o i + e))
group_deadline_is_near e p o i he weight hi one = go (dec_lt (2 * e) p)
  where
    go : Dec (2 * e < p) → (group_deadline e p o i ≡ 0) ⊎ ((deadline e p o i < group_deadline e p o i) × (group_deadline e p o i < deadline e p o i + e))
    go (yes light) = inl (light_has_none e p o i light)
    go (no heavy) =
        let x = deadline e p o i - o in
        let around = due_between e p o i he x refl in
        let s = x * e - i * p in
        let part : 0 < s = more (ℕ_discrete (i * p) (x * e)) around in
        let below : e < p = under (dec_lt e p) in
        let behind = group_deadline_behind e p o i x s he below (omega arith) hi (omega arith) (omega arith) in
        let few = (ceil_is_enough {a = s} {b = p - e} {x = s} (omega arith)).1 (omega (arith, mul-le-mul_left {m = 1} {n = p - e} s (omega arith))) in
        let some = (below_ceil_falls_short {a = s} {b = p - e} {x = 0} (omega arith)).1 (omega arith) in
        inr (omega (arith, behind, deadline_parts e p o i), omega (arith, behind, deadline_parts e p o i))
      where
        more : Dec (i * p ≡ (deadline e p o i - o) * e) → (i * p ≤ (deadline e p o i - o) * e) × ((deadline e p o i - o) * e < i * p + e) →
            0 < (deadline e p o i - o) * e - i * p
        more (yes same) a =
            absurd (omega (arith, one, bit_of_whole e p i (ap (λ x. x % e) same ∙ mul-mod_left (deadline e p o i - o) e)))
        more (no other) a = omega arith

        under : Dec (e < p) → e < p
        under (yes l) = l
        under (no l) = absurd (omega (arith, one, whole_has_bit_0 e p i (omega arith)))

-- For callers: d, b and D by what is lacking. After a slots from the origin i quanta lack so much of their share, times e.
module _ (e p o i a lacking : ℕ) (he : 0 < e) (sum : i * p ≡ lacking + a * e) where
  abbrev slots : ℕ
  slots = a + lacking / e

  product : slots * e + lacking % e ≡ i * p
  product = omega (arith, div-add-mod' lacking e)

  pub whole_lacking : lacking % e ≡ 0 → (deadline e p o i ≡ o + a + lacking / e) × (bit e p i ≡ 0)
  whole_lacking none = (
    deadline_between e p o i he slots (omega (arith, product)) (omega (arith, product)) ∙ omega arith,
    bit_of_whole e p i (ap (λ x. x % e) {x = i * p} {y = slots * e} (omega (arith, product)) ∙ mul-mod_left slots e),
  )

  module _ (part : lacking % e ≡ 0 → ⊥) where
    rest : lacking % e < e
    rest = mod-lt lacking he

    over : i * p + (e - lacking % e) ≡ (slots + 1) * e
    over = omega (arith, product, rest)

    due : deadline e p o i ≡ o + (slots + 1)
    due = deadline_between e p o i he (slots + 1) (omega (arith, over)) (omega (arith, over, rest, part))

    pub part_lacking : (deadline e p o i ≡ o + a + lacking / e + 1) × (bit e p i ≡ 1)
    part_lacking = (due ∙ omega arith, go (bit_is_0_or_1 e p i))
      where
        go : (bit e p i ≡ 0) ⊎ (bit e p i ≡ 1) → bit e p i ≡ 1
        go (inr one) = one
        go (inl none) =
            let even = bit_zero_divides e p i none in
            let same : i * p / e ≡ slots + 1 = omega (arith, due, deadline_of_whole e p o he i even) in
            absurd (part (omega (arith, ap (λ x. x * e) same, div-add-mod' (i * p) e, even, over, rest)))

    pub part_behind : e < p → p ≤ 2 * e → 0 < i → group_deadline e p o i ≡ deadline e p o i + ceil_div (e - lacking % e) (p - e)
    part_behind below half hi =
        group_deadline_behind e p o i (slots + 1) (e - lacking % e) he below half hi over (omega (arith, part, rest)) ∙ omega (arith, due)

-- for the function

-- Past the test of the bit the row is below weight one.
pub below_one : {e p o i : ℕ} → Fits e p o i → (bit e p i ≡ 0 → ⊥) → e < p
below_one {e} {p} {o} {i} fits one = go (dec_lt e p)
  where
    go : Dec (e < p) → e < p
    go (yes l) = l
    go (no l) = absurd (one (whole_has_bit_0 e p i (omega (arith, fits.weight))))

module _ {e p o i : ℕ} (fits : Fits e p o i) (near : i ≤ reach + 1) (half : p ≤ 2 * e) {d : ℕ} (due : d ≡ deadline e p o i - o) where
  -- p - e is at most e, so d·(p-e) is at most d·e, and that is below (i+1)·p.
  rest_is_near : d * (p - e) < (i + 1) * p
  rest_is_near =
      let few = mul-le-mul_left {m = p - e} {n = e} d (omega arith) in
      omega (arith, due_between e p o i fits.cost d due, fits.weight)

  -- The products of the formula fit 64 bits: this one,
  pub rest_product_fits : d * (p - e) < products
  rest_product_fits = omega (arith, rest_is_near, product_fits {n = i + 1} {p = p} (omega (arith, near)) fits.period)

  -- and g·p, which is less than p above it.
  pub gaps_product_fits : {g : ℕ} → g ≡ ceil_div (d * (p - e)) p → g * p < products
  gaps_product_fits {g} is =
      let same : g * p ≡ ceil_div (d * (p - e)) p * p = ap (λ x. x * p) is in
      let rounds = ceil_is_near (d * (p - e)) {b = p} (omega (arith, fits.cost, fits.weight)) in
      omega (arith, rest_is_near, product_fits {n = i + 2} {p = p} (omega (arith, near)) fits.period)

  -- Below weight one the formula gives its group deadline.
  module _ (below : e < p) where
    pub formula_is : {g slots t : ℕ} → g ≡ ceil_div (d * (p - e)) p → slots ≡ ceil_div (g * p) (p - e) → t ≡ kept (o + slots) → t ≡ group_deadline e p o i
    unfolding group_by_formula formula gaps
    formula_is {g} {slots} {t} g_is slots_are t_is =
        let near = ceil_is_near (g * p) {b = p - e} (omega arith) in
        let few : slots * 1 ≤ slots * (p - e) = mul-le-mul_left {m = 1} {n = p - e} slots (omega arith) in
        let same : slots * (p - e) ≡ ceil_div (g * p) (p - e) * (p - e) = ap (λ x. x * (p - e)) slots_are in
        let exact : t ≡ o + slots = omega (arith, gaps_product_fits g_is, fits.origin, fits.period) in
        exact
        ∙ ap (λ x. o + x) (slots_are ∙ ap (λ x. ceil_div (x * p) (p - e)) (g_is ∙ ap (λ x. ceil_div (x * (p - e)) p) due))
        ∙ formula_gives_walk e p o i fits.cost below half fits.first
