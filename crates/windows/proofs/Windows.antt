-- The laws of windows, for every origin and every time. Assumes nothing.
use mathlib.Core.Path.{◌≡◌, refl, ap, ◌∙◌}
use mathlib.Core.Logic.{◌⊎◌, inl, inr}
use Prim.Native.Nat.{ℕ, ◌+◌, ◌-◌, ◌*◌, ◌/◌, ◌%◌, ◌≤◌, ◌<◌}
use native.Mathlib.Nat.{div-eq_of_lt-le, div-eq_of_eq-mul_left, div-lt_iff_lt-mul, le-div_iff_mul-le, div-mul-le_self, lt-div-mul-add, mul-le-mul_left, mul-le-mul_right, mul-mod_left}
use native.Mathlib.Decide.{ℕ_discrete, dec_lt}
use native.Mathlib.Omega.{arith}
use borrow.Author.Tests.{eq-eqb, ne_eqb}
use Rattle.facts.specs.Rounding.{ceil_div}
use Rattle.facts.proofs.Rounding.{ceil_is_enough, below_ceil_falls_short, floor_is_near, ceil_is_near, ceil_between, ceil_of_whole, ceil_of_part}
use Rattle.windows.specs.Windows.{start, deadline, bit, NextStartIsDLessB, window_length, job_start}

-- "A job is e quanta in a row": the last subtask of the job that holds subtask i
unfoldable pub last_of_job : ℕ → ℕ → ℕ
last_of_job e i = ceil_div i e * e

-- for callers

-- A subtask's deadline is at most its number of periods from the origin.
pub deadline_is_near : (e p o i : ℕ) → 0 < e → deadline e p o i ≤ o + i * p
unfolding deadline
deadline_is_near e p o i h =
    let few = (ceil_is_enough {a = i * p} {b = e} {x = i * p} h).1 (omega (arith, mul-le-mul_left {m = 1} {n = e} (i * p) h)) in
    omega arith

-- The bit is 0 where e divides i·p,
pub bit_of_whole : (e p i : ℕ) → i * p % e ≡ 0 → bit e p i ≡ 0
unfolding bit
bit_of_whole e p i h = simp (eq-eqb _ _ h)

-- and 1 where it does not.
pub bit_of_part : (e p i : ℕ) → (i * p % e ≡ 0 → ⊥) → bit e p i ≡ 1
unfolding bit
bit_of_part e p i h = simp (ne_eqb _ _ h)

-- So it is one or the other.
pub bit_is_0_or_1 : (e p i : ℕ) → (bit e p i ≡ 0) ⊎ (bit e p i ≡ 1)
bit_is_0_or_1 e p i = go (ℕ_discrete (i * p % e) 0)
  where
    go : Dec (i * p % e ≡ 0) → (bit e p i ≡ 0) ⊎ (bit e p i ≡ 1)
    go (yes h) = inl (bit_of_whole e p i h)
    go (no h) = inr (bit_of_part e p i h)

-- A bit of 0 says that e divides i·p.
pub bit_zero_divides : (e p i : ℕ) → bit e p i ≡ 0 → i * p % e ≡ 0
bit_zero_divides e p i b = go (ℕ_discrete (i * p % e) 0)
  where
    go : Dec (i * p % e ≡ 0) → i * p % e ≡ 0
    go (yes h) = h
    go (no h) = absurd (omega (arith, b, bit_of_part e p i h))

-- Where p is a multiple of e, so is i·p,
multiple_divides : (e p k i : ℕ) → p ≡ k * e → i * p % e ≡ 0
multiple_divides e p k i multiple = ap (λ x. x % e) {x = i * p} {y = i * k * e} (ap (λ x. i * x) multiple ∙ omega arith) ∙ mul-mod_left (i * k) e

-- and the row has bit 0 throughout: one of weight one half has,
pub multiple_has_bit_0 : (e p k i : ℕ) → p ≡ k * e → bit e p i ≡ 0
multiple_has_bit_0 e p k i multiple = bit_of_whole e p i (multiple_divides e p k i multiple)

-- and one of weight one.
pub whole_has_bit_0 : (e p i : ℕ) → p ≡ e → bit e p i ≡ 0
whole_has_bit_0 e p i whole = multiple_has_bit_0 e p 1 i (omega arith)

-- The last subtask of a job has bit 0,
pub bit_at_job_end : (e p i : ℕ) → bit e p (last_of_job e i) ≡ 0
unfolding last_of_job
bit_at_job_end e p i =
    let q = ceil_div i e in
    bit_of_whole e p (q * e) (ap (λ x. x % e) {x = q * e * p} {y = q * p * e} (omega arith) ∙ mul-mod_left (q * p) e)

-- (i - 1)·p and i·p are p apart
pub step : (p i : ℕ) → 0 < i → i * p ≡ (i - 1) * p + p
step p i h = let same : i * p ≡ (i - 1 + 1) * p = ap (λ x. x * p) {x = i} {y = i - 1 + 1} (omega arith) in omega arith

-- and is fewer than e subtasks on.
pub job_end_is_near : (e i : ℕ) → 0 < e → (i ≤ last_of_job e i) × (last_of_job e i < i + e)
unfolding last_of_job
job_end_is_near e i h = ceil_is_near i h

module _ (e p o : ℕ) (he : 0 < e) where
  -- A deadline is i·p/e rounded down where e divides i·p, and one more where it does not.
  pub deadline_of_whole : (i : ℕ) → i * p % e ≡ 0 → deadline e p o i ≡ o + i * p / e
  unfolding deadline
  deadline_of_whole i h = omega (arith, ceil_of_whole (i * p) he h)

  pub deadline_of_part : (i : ℕ) → (i * p % e ≡ 0 → ⊥) → deadline e p o i ≡ o + i * p / e + 1
  unfolding deadline
  deadline_of_part i h = omega (arith, ceil_of_part (i * p) he h)

  -- Where p is k·e, windows are k slots long, one behind the other.
  pub start_of_multiple : (k i : ℕ) → p ≡ k * e → start e p o i ≡ o + k * (i - 1)
  unfolding start
  start_of_multiple k i multiple =
      let same : (i - 1) * p ≡ k * (i - 1) * e = ap (λ x. (i - 1) * x) multiple ∙ omega arith in
      let whole : (i - 1) * p / e ≡ k * (i - 1) = div-eq_of_eq-mul_left he same in
      omega arith

  pub deadline_of_multiple : (k i : ℕ) → p ≡ k * e → deadline e p o i ≡ o + k * i
  deadline_of_multiple k i multiple =
      let same : i * p ≡ k * i * e = ap (λ x. i * x) multiple ∙ omega arith in
      let whole : i * p / e ≡ k * i = div-eq_of_eq-mul_left he same in
      omega (arith, deadline_of_whole i (multiple_divides e p k i multiple))

  -- W1 as a sum.
  pub next_start_is_deadline_less_bit : (i : ℕ) → start e p o (i + 1) + bit e p i ≡ deadline e p o i
  unfolding start
  next_start_is_deadline_less_bit i = go (ℕ_discrete (i * p % e) 0)
    where
      same : (i + 1 - 1) * p / e ≡ i * p / e
      same = ap (λ x. x * p / e) {x = i + 1 - 1} {y = i} (omega arith)

      go : Dec (i * p % e ≡ 0) → start e p o (i + 1) + bit e p i ≡ deadline e p o i
      go (yes h) = omega (arith, same, bit_of_whole e p i h, deadline_of_whole i h)
      go (no h) = omega (arith, same, bit_of_part e p i h, deadline_of_part i h)

  -- W2: deadlines rise strictly,
  pub deadline_rises : e ≤ p → {i j : ℕ} → i < j → deadline e p o i < deadline e p o j
  unfolding deadline
  deadline_rises hp {i} {j} l =
      let more : (i + 1) * p ≤ j * p = mul-le-mul_right p (omega arith) in
      let enough = (below_ceil_falls_short {a = j * p} {x = ceil_div (i * p) e} he).1 (omega (arith, ceil_is_near (i * p) he)) in
      omega arith

  -- and so do starts.
  pub start_rises : e ≤ p → {i j : ℕ} → 0 < i → i < j → start e p o i < start e p o j
  unfolding start
  start_rises hp {i} {j} hi l =
      let more : i * p ≤ (j - 1) * p = mul-le-mul_right p (omega arith) in
      let enough = (le-div_iff_mul-le {x = (i - 1) * p / e + 1} {y = (j - 1) * p} he).1 (omega (arith, floor_is_near ((i - 1) * p) he, step p i hi)) in
      omega arith

  -- Each window has a slot.
  pub window_has_a_slot : 0 < p → {i : ℕ} → 0 < i → start e p o i < deadline e p o i
  unfolding start deadline
  window_has_a_slot hp {i} hi =
      let short = (below_ceil_falls_short {a = i * p} {x = (i - 1) * p / e} he).1 (omega (arith, floor_is_near ((i - 1) * p) he, step p i hi)) in
      omega arith

  -- It ends as many slots on as it is long.
  pub window_spans : 0 < p → {i : ℕ} → 0 < i → start e p o i + window_length e p o i ≡ deadline e p o i
  unfolding window_length
  window_spans hp hi = omega (arith, window_has_a_slot hp hi)

  -- A job starts no later than its windows,
  pub job_starts_first : (i : ℕ) → job_start e p o i ≤ start e p o i
  unfolding job_start start
  job_starts_first i =
      let l = (le-div_iff_mul-le {x = (i - 1) / e * p} {y = (i - 1) * p} he).1 (omega (arith, mul-le-mul_right p (div-mul-le_self (i - 1) e))) in
      omega arith

  -- and no deadline is later than the end of its job, p slots on.
  pub deadline_is_within_job : {i : ℕ} → 0 < i → deadline e p o i ≤ job_start e p o i + p
  unfolding deadline job_start
  deadline_is_within_job {i} hi =
      let m : i * p ≤ ((i - 1) / e * e + e) * p = mul-le-mul_right p (omega (arith, lt-div-mul-add {a = i - 1} he)) in
      let l = (ceil_is_enough {a = i * p} {x = (i - 1) / e * p + p} he).1 (omega arith) in
      omega arith

  -- W3: from weight one half on, windows are at most 3 slots long,
  pub at_most_3_long : p ≤ 2 * e → {i : ℕ} → 0 < i → window_length e p o i ≤ 3
  unfolding window_length start deadline
  at_most_3_long half {i} hi =
      let r = (i - 1) * p / e in
      let high = (ceil_is_enough {a = i * p} {x = r + 3} he).1 (omega (arith, floor_is_near ((i - 1) * p) he, step p i hi)) in
      omega arith

  -- and below weight one at least 2,
  pub at_least_2_long : e < p → {i : ℕ} → 0 < i → 2 ≤ window_length e p o i
  unfolding window_length start deadline
  at_least_2_long hp {i} hi =
      let r = (i - 1) * p / e in
      let low = (below_ceil_falls_short {a = i * p} {x = r + 1} he).1 (omega (arith, floor_is_near ((i - 1) * p) he, step p i hi)) in
      omega arith

  -- and those with bit 0 are at most 2.
  pub bit_zero_is_at_most_2_long : p ≤ 2 * e → {i : ℕ} → 0 < i → bit e p i ≡ 0 → window_length e p o i ≤ 2
  unfolding window_length start deadline
  bit_zero_is_at_most_2_long half {i} hi b =
      let r = (i - 1) * p / e in
      let whole = ceil_of_whole (i * p) he (bit_zero_divides e p i b) in
      let short = (div-lt_iff_lt-mul {x = i * p} {y = r + 3} he).1 (omega (arith, floor_is_near ((i - 1) * p) he, step p i hi)) in
      omega arith

-- A deadline, and a start, by the products around it.
module _ (e p o j : ℕ) where
  pub deadline_between : 0 < e → (x : ℕ) → j * p ≤ x * e → x * e < j * p + e → deadline e p o j ≡ o + x
  unfolding deadline
  deadline_between he x low high = ap (λ y. o + y) (ceil_between (j * p) e x he low high)

  pub start_between : (x : ℕ) → x * e ≤ (j - 1) * p → (j - 1) * p < x * e + e → start e p o j ≡ o + x
  unfolding start
  start_between x low high = ap (λ y. o + y) (div-eq_of_lt-le e low (omega arith))

  pub deadline_parts : deadline e p o j ≡ o + ceil_div (j * p) e
  unfolding deadline
  deadline_parts = refl

  pub start_parts : start e p o j ≡ o + (j - 1) * p / e
  unfolding start
  start_parts = refl

  -- d counted from the origin is j·p/e, rounded up.
  pub due_between : 0 < e → (d : ℕ) → d ≡ deadline e p o j - o → (j * p ≤ d * e) × (d * e < j * p + e)
  due_between he d due =
      let same : d * e ≡ ceil_div (j * p) e * e = ap (λ x. x * e) {x = d} {y = ceil_div (j * p) e} (omega (arith, deadline_parts)) in
      omega (arith, ceil_is_near (j * p) he)

-- A subtask that is due earlier comes earlier.
pub due_in_order : (e p o : ℕ) → 0 < e → e ≤ p → (i j : ℕ) → deadline e p o i < deadline e p o j → i < j
due_in_order e p o he hp i j h = go (dec_lt i j) (dec_lt j i)
  where
    go : Dec (i < j) → Dec (j < i) → i < j
    go (yes l) d = l
    go (no l) (yes m) = absurd (omega (arith, deadline_rises e p o he hp m))
    go (no l) (no m) = let same : i ≡ j = omega arith in absurd (omega (arith, ap (deadline e p o) same))

-- W1: "the next start is d - b".
pub next_start_is_d_less_b : NextStartIsDLessB
next_start_is_d_less_b e p o i he = omega (arith, next_start_is_deadline_less_bit e p o he i)
