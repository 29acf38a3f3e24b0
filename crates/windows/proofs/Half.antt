-- What moved at weight one half, and nowhere else. Assumes nothing.
use mathlib.Core.Path.{◌≡◌, refl, sym, ap, ◌∙◌}
use Prim.Native.Nat.{ℕ, ◌+◌, ◌-◌, ◌*◌, ◌≤◌, ◌<◌}
use native.Mathlib.Decide.{dec_lt}
use native.Mathlib.Omega.{arith}
use borrow.Author.Tests.{lt-ltb, le-ltb}
use Rattle.facts.specs.First.{at_first}
use Rattle.windows.specs.Windows.{deadline, bit}
use Rattle.windows.specs.Group.{stops, stop_time, group_deadline}
use Rattle.windows.specs.Former.{former_heavy, former_group_deadline}
use Rattle.windows.specs.Question.{last_subtask, window_reply}
use Rattle.windows.specs.Half.{IsOneHalf, MovedAtHalf}
use Rattle.windows.proofs.Windows.{multiple_has_bit_0, start_of_multiple, deadline_of_multiple}
use Rattle.windows.proofs.Group.{light_has_none, heavy_walks, walk_begins, ends_by_bit}
use Rattle.windows.proofs.Question.{is_fit, windows_are_answered}

-- At weight one half "such a row's b is always 0".
half_has_bit_0 : (e p i : ℕ) → p ≡ 2 * e → bit e p i ≡ 0
half_has_bit_0 e p i half = multiple_has_bit_0 e p 2 i half

-- For callers: up to weight one half D is 0 where the bit is 1. Below one half it always is, and at one half no bit is 1.
pub up_to_half_has_none : (e p o i : ℕ) → 2 * e ≤ p → bit e p i ≡ 1 → group_deadline e p o i ≡ 0
up_to_half_has_none e p o i up_to_half one = go (dec_lt (2 * e) p)
  where
    go : Dec (2 * e < p) → group_deadline e p o i ≡ 0
    go (yes light) = light_has_none e p o i light
    go (no half) = absurd (omega (arith, one, half_has_bit_0 e p i (omega arith)))

-- A heavy row's D is d where its b is 0.
pub bit_0_ends_at_once : (e p o i : ℕ) → 0 < e → p ≤ 2 * e → bit e p i ≡ 0 → group_deadline e p o i ≡ deadline e p o i
bit_0_ends_at_once e p o i he heavy b = sym (ends_by_bit e p o i i he (walk_begins e p o i) heavy b)

-- Where the weight is not one half, D is what it was. (Where e and p are 0, there is no window to walk.)
elsewhere_same : (e p o i : ℕ) → (IsOneHalf e p → ⊥) → group_deadline e p o i ≡ former_group_deadline e p o i
unfolding former_group_deadline former_heavy at_first
elsewhere_same e p o i other = go (dec_lt p (2 * e)) (dec_lt (2 * e) p) (dec_lt 0 e)
  where
    go : Dec (p < 2 * e) → Dec (2 * e < p) → Dec (0 < e) → group_deadline e p o i ≡ former_group_deadline e p o i
    go (yes heavy) _ _ = rw (lt-ltb p (2 * e) heavy) (heavy_walks e p o i (omega arith))
    go (no a) (yes light) _ = rw (le-ltb p (2 * e) (omega arith)) (light_has_none e p o i light)
    go (no a) (no b) (yes cost) = absurd (other (cost, omega arith))
    go (no a) (no b) (no c) =
        let none : e ≡ 0 = omega arith in
        rw (le-ltb p (2 * e) (omega arith)) (heavy_walks e p o i (omega arith) ∙ ap (at_first (stops e p o i) (stop_time e p o) i) none)

-- At weight one half the windows are two slots long, one behind the other.
half_is_answered : (e f i : ℕ) → 0 < e → 0 < i → i ≤ last_subtask →
    window_reply e (2 * e) f i ≡ record { number = 0; r = f + 2 * (i - 1); d = f + 2 * i; b = 0; D = f + 2 * i }
half_is_answered e f i cost first last =
    (windows_are_answered e (2 * e) f i).if_fit (is_fit e (2 * e) i cost (omega arith) first last)
    ∙ rw (start_of_multiple e (2 * e) f cost 2 i refl, half_has_bit_0 e (2 * e) i refl, bit_0_ends_at_once e (2 * e) f i cost (omega arith) (half_has_bit_0 e (2 * e) i refl), deadline_of_multiple e (2 * e) f cost 2 i refl)

pub moved_at_half : MovedAtHalf
unfolding former_group_deadline former_heavy
moved_at_half =
    record {
      was_0 = λ e p o i half. rw (le-ltb p (2 * e) (omega (arith, half))) refl;
      is_d = λ e p o i half. bit_0_ends_at_once e p o i half.0 (omega (arith, half)) (half_has_bit_0 e p i half.1);
      elsewhere_same = elsewhere_same;
      bit_is_0 = λ e p i half. half_has_bit_0 e p i half.1;
      answer = half_is_answered;
    }
