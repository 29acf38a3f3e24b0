-- One key more among the smallest, by moving the larger ones on. Assumes nothing.
use Prim.Native.Nat.{ℕ, zero, suc, ◌+◌, ◌-◌, ◌≤◌, ◌<◌, min}
use mathlib.Core.Path.{◌≡◌, refl, ap, ◌∙◌}
use mathlib.Core.List.{List}
use mathlib.Core.Bool.{cond}
use mathlib.Core.Logic.{inl, inr}
use native.Mathlib.Decide.{dec_lt, ℕ_discrete}
use native.Mathlib.Omega.{arith}
use lib.Dec.{ltb}
use lib.ListN.{length, set, length-set, get_or-eq_default}
use lib.Seq.{get_or-set_same, get_or-set_other}
use borrow.Author.Tests.{lt-ltb, le-ltb}
use Rattle.facts.specs.Counting.{how_many}
use Rattle.facts.proofs.Counting.{same_count, counted_one_more, no_more_than_all, all_counted}
use Rattle.facts.proofs.Growing.{never_falls}
use Rattle.counts.specs.Limits.{most}
use Rattle.choice.specs.Keys.{key_in, Spare, OneKeyMore}

-- how many of the first k keys lie below v
abbrev pub lower : List ℕ → ℕ → ℕ → ℕ
lower best v k = how_many (λ j. ltb (key_in best j) v) k

-- all do, if each is at most a number below v
pub all_lower : (best : List ℕ) (v k x : ℕ) → ((i : ℕ) → i < k → key_in best i ≤ x) → x < v → lower best v k ≡ k
all_lower best v k x each l = all_counted (λ j. ltb (key_in best j) v) k (λ i h. lt-ltb (key_in best i) v (omega (arith, each i h)))

-- A key that is no smaller than the one at the last place is dropped at once.
pub dropped_at_once : (best : List ℕ) (last key : ℕ) → key_in best last ≤ key → OneKeyMore best last key best
dropped_at_once best last key large k rises spare = record { rises = rises; counts = λ v h. at v h (dec_lt key v) spare }
  where
    at : (v : ℕ) → v ≤ most → Dec (key < v) → Spare k best last → lower best v k ≡ min k (lower best v k + cond (ltb key v) 1 0)
    at v h (yes l) (inl end) =
        let all = all_lower best v k key (λ i m. omega (arith, rises i last (omega arith) (omega arith), large)) l in
        omega (arith, all)
    at v h (yes l) (inr (few, none)) = absurd (omega (arith, none, large))
    at v h (no l) s =
        let few = no_more_than_all (λ j. ltb (key_in best j) v) k in
        rw (le-ltb key v (omega arith)) (omega (arith, few))

-- a key above another stands in the list: past its end all are 0
there_if_above : (best : List ℕ) (j : ℕ) {x : ℕ} → x < key_in best j → j < length best
there_if_above best j h = go (dec_lt j (length best))
  where
    go : Dec (j < length best) → j < length best
    go (yes l) = l
    go (no l) = absurd (omega (arith, get_or-eq_default best 0 {n = j} (omega arith)))

-- The keys from `at` on, up to the last place, have moved one place on; all of them are larger.
pub record Moved (old : List ℕ) (last key : ℕ) (best : List ℕ) (at : ℕ) : Type 0 where
  pub long : length best ≡ length old
  pub there : last < length old
  pub within : at ≤ last
  pub first : (j : ℕ) → j ≤ at → key_in best j ≡ key_in old j
  pub moved : (j : ℕ) → at < j → j ≤ last → key_in best j ≡ key_in old (j - 1)
  pub rest : (j : ℕ) → last < j → key_in best j ≡ key_in old j
  pub larger : key < key_in old at

pub moving_begins : (old : List ℕ) (last key : ℕ) → key < key_in old last → Moved old last key old last
moving_begins old last key l =
    record {
      long = refl;
      there = there_if_above old last l;
      within = omega arith;
      first = λ j h. refl;
      moved = λ j h m. absurd (omega arith);
      rest = λ j h. refl;
      larger = l;
    }

-- one more has moved
pub moves_on : {old : List ℕ} {last key : ℕ} {best : List ℕ} {at : ℕ} → Moved old last key best at → 0 < at → {before : ℕ} →
    before ≡ key_in best (at - 1) → key < before → Moved old last key (set best at before) (at - 1)
moves_on {old} {last} {key} {best} {at} so some {before} is l =
    record {
      long = length-set best at before ∙ so.long;
      there = so.there;
      within = omega (arith, so.within);
      first = λ j h. get_or-set_other best at j before 0 (λ e. omega arith) ∙ so.first j (omega arith);
      moved = λ j h m. shifted j h m (ℕ_discrete j at);
      rest = λ j h. get_or-set_other best at j before 0 (λ e. omega (arith, so.within)) ∙ so.rest j h;
      larger = omega (arith, is, so.first (at - 1) (omega arith), l);
    }
  where
    shifted : (j : ℕ) → at - 1 < j → j ≤ last → Dec (j ≡ at) → key_in (set best at before) j ≡ key_in old (j - 1)
    shifted j h m (yes e) =
        rw e (get_or-set_same best at before 0 (omega (arith, so.long, so.there, so.within)) ∙ (is ∙ so.first (at - 1) (omega arith)))
    shifted j h m (no e) = get_or-set_other best at j before 0 (λ s. e s) ∙ so.moved j (omega arith) m

-- The key has its place: those before it are no larger.
pub inserted : {old : List ℕ} {last key : ℕ} {best : List ℕ} {at : ℕ} → Moved old last key best at →
    (0 < at → key_in old (at - 1) ≤ key) → OneKeyMore old last key (set best at key)
inserted {old} {last} {key} {best} {at} so smaller k rises spare =
    record { rises = λ i j h l. never_falls (key_in after) j (λ m n. step m (omega arith) (dec_lt m at) (dec_lt m last) (ℕ_discrete m at)) i h; counts = λ v h. count v h (dec_lt (key_in old last) v) spare }
  where
    after : List ℕ
    after = set best at key

    within : last < k
    within = here spare
      where
        here : Spare k old last → last < k
        here (inl e) = omega arith
        here (inr s) = s.0

    here : key_in after at ≡ key
    here = get_or-set_same best at key 0 (omega (arith, so.long, so.there, so.within))

    other : (j : ℕ) → (j ≡ at → ⊥) → key_in after j ≡ key_in best j
    other j e = get_or-set_other best at j key 0 e

    is_first : (j : ℕ) → j < at → key_in after j ≡ key_in old j
    is_first j l = other j (λ e. omega arith) ∙ so.first j (omega arith)

    is_moved : (j : ℕ) → at < j → j ≤ last → key_in after j ≡ key_in old (j - 1)
    is_moved j l h = other j (λ e. omega arith) ∙ so.moved j l h

    is_rest : (j : ℕ) → last < j → key_in after j ≡ key_in old j
    is_rest j l = other j (λ e. omega (arith, so.within)) ∙ so.rest j l

    -- each is at most the next
    step : (m : ℕ) → m + 1 < k → Dec (m < at) → Dec (m < last) → Dec (m ≡ at) → key_in after m ≤ key_in after (m + 1)
    step m n (yes p) q r = front (ℕ_discrete (m + 1) at)
      where
        front : Dec (m + 1 ≡ at) → key_in after m ≤ key_in after (m + 1)
        front (yes e) =
            let same : at - 1 ≡ m = omega arith in
            omega (arith, is_first m p, ap (key_in after) e, here, ap (key_in old) same, smaller (omega arith))
        front (no e) = omega (arith, is_first m p, is_first (m + 1) (omega arith), rises m (m + 1) (omega arith) n)
    step m n (no p) (yes q) (yes r) =
        let next = is_moved (m + 1) (omega arith) (omega arith) in
        let same : m + 1 - 1 ≡ at = omega arith in
        omega (arith, ap (key_in after) r, here, ap (key_in old) same, next, so.larger)
    step m n (no p) (yes q) (no r) =
        let same : m + 1 - 1 ≡ m = omega arith in
        omega (arith, is_moved m (omega arith) (omega arith), rw same at (is_moved (m + 1) (omega arith) (omega arith)), rises (m - 1) m (omega arith) (omega arith))
    step m n (no p) (no q) (yes r) =
        let end : at ≡ last = omega (arith, so.within) in
        omega (arith, ap (key_in after) r, here, is_rest (m + 1) (omega arith), rises at (m + 1) (omega arith) n, so.larger)
    step m n (no p) (no q) (no r) = back (dec_lt last m)
      where
        back : Dec (last < m) → key_in after m ≤ key_in after (m + 1)
        back (yes s) = omega (arith, is_rest m s, is_rest (m + 1) (omega arith), rises m (m + 1) (omega arith) n)
        back (no s) = omega (arith, is_moved m (omega (arith, so.within)) (omega arith), is_rest (m + 1) (omega arith), rises (m - 1) (m + 1) (omega arith) n)

    -- Up to the last place there is one key more than before it,
    up_to : (v d : ℕ) → at + d ≤ last → lower after v (at + d + 1) ≡ lower old v (at + d) + cond (ltb key v) 1 0
    up_to v zero h =
        let front = same_count (λ j. ltb (key_in after j) v) (λ j. ltb (key_in old j) v) at (λ j l. ap (λ x. ltb x v) (is_first j l)) in
        let one = counted_one_more (λ j. ltb (key_in after j) v) at in
        let none : at + 0 ≡ at = omega arith in
        rw none (omega (arith, front, rw here at one))
    up_to v (suc d) h =
        let before = up_to v d (omega arith) in
        let one = counted_one_more (λ j. ltb (key_in after j) v) (at + d + 1) in
        let there = counted_one_more (λ j. ltb (key_in old j) v) (at + d) in
        let same : at + d + 1 - 1 ≡ at + d = omega arith in
        let is = rw same at (is_moved (at + d + 1) (omega arith) (omega arith)) in
        let next : at + suc d ≡ at + d + 1 = omega arith in
        rw next (omega (arith, before, rw is at one, there))

    -- and behind it one that is dropped.
    past : (v d : ℕ) → lower after v (last + 1 + d) + cond (ltb (key_in old last) v) 1 0 ≡ lower old v (last + 1 + d) + cond (ltb key v) 1 0
    past v zero =
        let sum : at + (last - at) ≡ last = omega (arith, so.within) in
        let all = rw sum at (up_to v (last - at) (omega (arith, so.within))) in
        let there = counted_one_more (λ j. ltb (key_in old j) v) last in
        let none : last + 1 + 0 ≡ last + 1 = omega arith in
        rw none (omega (arith, all, there))
    past v (suc d) =
        let one = counted_one_more (λ j. ltb (key_in after j) v) (last + 1 + d) in
        let there = counted_one_more (λ j. ltb (key_in old j) v) (last + 1 + d) in
        let is = is_rest (last + 1 + d) (omega arith) in
        let next : last + 1 + suc d ≡ last + 1 + d + 1 = omega arith in
        rw next (omega (arith, past v d, rw is at one, there))

    count : (v : ℕ) → v ≤ most → Dec (key_in old last < v) → Spare k old last → lower after v k ≡ min k (lower old v k + cond (ltb key v) 1 0)
    count v h d s =
        let sum : last + 1 + (k - (last + 1)) ≡ k = omega (arith, within) in
        by (rw sum at (past v (k - (last + 1)))) d s
      where
        by : lower after v k + cond (ltb (key_in old last) v) 1 0 ≡ lower old v k + cond (ltb key v) 1 0 → Dec (key_in old last < v) → Spare k old last →
            lower after v k ≡ min k (lower old v k + cond (ltb key v) 1 0)
        by total (yes l) (inl end) =
            let all = all_lower old v k (key_in old last) (λ i m. rises i last (omega arith) (omega arith)) l in
            let gone = rw (lt-ltb (key_in old last) v l) at total in
            let low = lt-ltb key v (omega (arith, so.larger, rises at last so.within within)) in
            omega (arith, all, gone, rw low at gone)
        by total (yes l) (inr (few, none)) = absurd (omega (arith, none))
        by total (no l) s =
            let kept = rw (le-ltb (key_in old last) v (omega arith)) at total in
            omega (arith, kept, no_more_than_all (λ j. ltb (key_in after j) v) k)
