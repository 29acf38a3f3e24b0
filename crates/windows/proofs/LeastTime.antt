-- The walk gives the least time of its kind. Assumes nothing.
-- The walk stops at the first window that fits, `at`. A mark of an earlier window lies before d, and a mark of a later one lies at or
-- past the deadline of `at`; so no mark at or past d is smaller than what the walk gives.
use mathlib.Core.Path.{◌≡◌, refl, sym, ap, ◌∙◌}
use mathlib.Core.Bool.{false, true≢false}
use mathlib.Core.Logic.{inl, inr}
use Prim.Native.Nat.{ℕ, ◌+◌, ◌-◌, ◌*◌, ◌/◌, ◌≤◌, ◌<◌}
use native.Mathlib.Nat.{le_antisymm, div-eq_of_eq-mul_left, mul-le-mul_right, lt-div-mul-add}
use native.Mathlib.Decide.{ℕ_discrete, dec_lt, dec_le}
use native.Mathlib.Omega.{arith}
use Rattle.facts.specs.Rounding.{ceil_div}
use Rattle.facts.specs.First.{IsFirst}
use Rattle.facts.proofs.Rounding.{ceil_is_enough}
use Rattle.windows.specs.Windows.{deadline, bit, window_length, job_start}
use Rattle.windows.specs.Group.{stops, stop_time, group_deadline}
use Rattle.windows.specs.LeastTime.{Marks, IsGroupDeadline, WalkGivesLeastTime}
use Rattle.windows.proofs.Windows.{last_of_job, bit_zero_divides, bit_at_job_end, job_end_is_near, deadline_of_whole, deadline_rises, bit_zero_is_at_most_2_long}
use Rattle.windows.proofs.Group.{light_has_none, heavy_walks, bit_stops, length_stops, else_passes, bit_gives, length_gives, walk_ends_within_job}

-- Two least times are equal.
least_is_unique : {e p o i t u : ℕ} → IsGroupDeadline e p o i t → IsGroupDeadline e p o i u → t ≡ u
least_is_unique {t} {u} a b =
    le_antisymm
    (a.least b.marked.0 u b.marked.1 b.marked.2 b.after)
    (b.least a.marked.0 t a.marked.1 a.marked.2 a.after)

module _ (e p o i : ℕ) (he : 0 < e) (hp : e ≤ p) (hv : p ≤ 2 * e) (hi : 0 < i) where
  -- deadlines do not fall
  rises : {j k : ℕ} → j ≤ k → deadline e p o j ≤ deadline e p o k
  rises {j} {k} l = go (dec_lt j k)
    where
      go : Dec (j < k) → deadline e p o j ≤ deadline e p o k
      go (yes h) = omega (arith, deadline_rises e p o he hp h)
      go (no h) = omega (arith, ap (deadline e p o) {x = j} {y = k} (omega arith))

  -- a mark is at its window's deadline or one before
  near : (j u : ℕ) → Marks e p o j u → (u ≤ deadline e p o j) × (deadline e p o j ≤ u + 1)
  near j u (inl m) = omega (arith, m.1)
  near j u (inr m) = omega (arith, m.1)

  -- a window that the walk passed marks no time at or past d
  passed_marks_none : (j u : ℕ) → stops e p o i j ≡ false → i ≤ j → Marks e p o j u → deadline e p o i ≤ u → ⊥
  passed_marks_none j u s l (inl m) du = true≢false (sym (bit_stops e p o i j m.0) ∙ s)
  passed_marks_none j u s l (inr m) du = go (ℕ_discrete (bit e p j) 0) (dec_lt i j)
    where
      go : Dec (bit e p j ≡ 0) → Dec (i < j) → ⊥
      go (yes b) x = true≢false (sym (bit_stops e p o i j b) ∙ s)
      go (no b) (yes x) = true≢false (sym (length_stops e p o i j b x m.0) ∙ s)
      go (no b) (no x) = omega (arith, m.1, ap (deadline e p o) {x = i} {y = j} (omega arith))

  module _ {at : ℕ} (first : IsFirst (stops e p o i) i at) where
    -- no mark at or past d is before t, if t is at or before the deadline of `at` and before no mark of `at` itself
    least_by : {t : ℕ} → t ≤ deadline e p o at → ((u : ℕ) → Marks e p o at u → t ≤ u) → (j u : ℕ) → Marks e p o j u → deadline e p o i ≤ u → t ≤ u
    least_by {t} h own j u m du = go (dec_lt j i) (dec_lt j at) (dec_lt at j)
      where
        go : Dec (j < i) → Dec (j < at) → Dec (at < j) → t ≤ u
        go (yes a) b c = absurd (omega (arith, near j u m, deadline_rises e p o he hp a))
        go (no a) (yes b) c = absurd (passed_marks_none j u (first.none_before j (omega arith) b) (omega arith) m du)
        go (no a) (no b) (yes c) = omega (arith, near j u m, deadline_rises e p o he hp c)
        go (no a) (no b) (no c) = own u (rw (the_same) m)
          where
            the_same : at ≡ j
            the_same = omega arith

    -- the walk stopped by the bit
    by_bit : bit e p at ≡ 0 → IsGroupDeadline e p o i (deadline e p o at)
    by_bit b =
        record {
          after = rises first.from;
          marked = (at, omega (arith, first.from), inl (b, refl));
          least = λ j u _ m du. least_by (omega arith) own j u m du;
        }
      where
        own : (u : ℕ) → Marks e p o at u → deadline e p o at ≤ u
        own u (inl m) = omega (arith, m.1)
        own u (inr m) = absurd (omega (arith, m.0, bit_zero_is_at_most_2_long e p o he (omega arith) (omega (arith, first.from)) b))

    -- the walk stopped by the length
    by_length : (bit e p at ≡ 0 → ⊥) → i < at → window_length e p o at ≡ 3 → IsGroupDeadline e p o i (deadline e p o at - 1)
    by_length b l w =
        let later = deadline_rises e p o he hp l in
        record {
          after = omega arith;
          marked = (at, omega arith, inr (w, omega arith));
          least = λ j u _ m du. least_by (omega arith) own j u m du;
        }
      where
        own : (u : ℕ) → Marks e p o at u → deadline e p o at - 1 ≤ u
        own u m = omega (arith, near at u m)

    -- it stopped by one or the other
    by_either : IsGroupDeadline e p o i (stop_time e p o at)
    by_either = go (ℕ_discrete (bit e p at) 0) (dec_lt i at) (ℕ_discrete (window_length e p o at) 3)
      where
        go : Dec (bit e p at ≡ 0) → Dec (i < at) → Dec (window_length e p o at ≡ 3) → IsGroupDeadline e p o i (stop_time e p o at)
        go (yes b) x y = rw (bit_gives e p o at b) (by_bit b)
        go (no b) (yes x) (yes y) = rw (length_gives e p o at b) (by_length b x y)
        go (no b) (yes x) (no y) = absurd (true≢false (sym first.fit ∙ else_passes e p o i at b (λ _. y)))
        go (no b) (no x) y = absurd (true≢false (sym first.fit ∙ else_passes e p o i at b (λ l _. x l)))

  -- The group deadline is the least time of its kind.
  group_deadline_is_least : IsGroupDeadline e p o i (group_deadline e p o i)
  group_deadline_is_least =
      let w = walk_ends_within_job e p o i he in
      rw (heavy_walks e p o i hv ∙ w.value) (by_either w.first)

-- W7.
pub walk_gives_least_time : WalkGivesLeastTime
walk_gives_least_time e p o i t he hp hv hi =
    let least = group_deadline_is_least e p o i he hp hv hi in
    (λ is. least_is_unique is least, λ same. rw same least)

-- W8, in times: D is no later than the end of the job that holds i.
pub group_deadline_is_within_job : (e p o i : ℕ) → 0 < e → e ≤ p → 0 < i → group_deadline e p o i ≤ job_start e p o i + p
unfolding last_of_job job_start
group_deadline_is_within_job e p o i he hp hi = go (dec_le p (2 * e))
  where
    go : Dec (p ≤ 2 * e) → group_deadline e p o i ≤ o + (i - 1) / e * p + p
    go (yes hv) =
        let q = ceil_div i e in
        let near = job_end_is_near e i he in
        let b = bit_at_job_end e p i in
        let least = (group_deadline_is_least e p o i he hp hv hi).least (q * e) _ (omega arith) (inl (b, refl)) (rises e p o i he hp hv hi near.0) in
        let whole : q * e * p / e ≡ q * p = div-eq_of_eq-mul_left he (omega arith) in
        let jobs = mul-le-mul_right p ((ceil_is_enough {a = i} {x = (i - 1) / e + 1} he).1 (omega (arith, lt-div-mul-add {a = i - 1} he))) in
        omega (arith, deadline_of_whole e p o he (q * e) (bit_zero_divides e p (q * e) b))
    go (no hv) = omega (arith, light_has_none e p o i (omega arith))
