-- The laws of rounding up. Assumes nothing.
use mathlib.Core.Path.{◌≡◌, refl}
use mathlib.Core.Logic.{◌↔◌}
use Prim.Native.Nat.{ℕ, ◌+◌, ◌-◌, ◌*◌, ◌/◌, ◌%◌, ◌≤◌, ◌<◌}
use native.Mathlib.Nat.{div-lt_iff_lt-mul, le-div_iff_mul-le, div-add-mod', div-eq_of_lt-le, div-mul-le_self, lt-div-mul-add, mod-lt}
use native.Mathlib.Omega.{arith}
use Rattle.facts.specs.Rounding.{ceil_div}

-- for callers

-- Rounded up is the least whole number that is enough.
pub ceil_is_enough : {a b x : ℕ} → 0 < b → (ceil_div a b ≤ x) ↔ (a ≤ x * b)
unfolding ceil_div
ceil_is_enough {a} {b} {x} h = (
  λ l. let m = (div-lt_iff_lt-mul {x = a + (b - 1)} {y = x + 1} h).0 (omega arith) in omega arith,
  λ l. let m = (div-lt_iff_lt-mul {x = a + (b - 1)} {y = x + 1} h).1 (omega arith) in omega arith,
)

-- Whatever is below it is not enough.
pub below_ceil_falls_short : {a b x : ℕ} → 0 < b → (x < ceil_div a b) ↔ (x * b < a)
unfolding ceil_div
below_ceil_falls_short {a} {b} {x} h = (
  λ l. let m = (le-div_iff_mul-le {x = x + 1} {y = a + (b - 1)} h).0 (omega arith) in omega arith,
  λ l. let m = (le-div_iff_mul-le {x = x + 1} {y = a + (b - 1)} h).1 (omega arith) in omega arith,
)

-- Rounded down, a number loses less than one b;
pub floor_is_near : (a : ℕ) {b : ℕ} → 0 < b → (a / b * b ≤ a) × (a < a / b * b + b)
floor_is_near a {b} h = (div-mul-le_self a b, lt-div-mul-add h)

-- rounded up, it gains less than one b.
pub ceil_is_near : (a : ℕ) {b : ℕ} → 0 < b → (a ≤ ceil_div a b * b) × (ceil_div a b * b < a + b)
unfolding ceil_div
ceil_is_near a {b} h = omega (arith, div-mul-le_self (a + (b - 1)) b, lt-div-mul-add {a = a + (b - 1)} h)

-- So a number of bs that is at or above a, and gains less than one b, is a/b rounded up.
pub ceil_between : (a b x : ℕ) → 0 < b → a ≤ x * b → x * b < a + b → ceil_div a b ≡ x
unfolding ceil_div
ceil_between a b x h low high = div-eq_of_lt-le b (omega arith) (omega arith)

-- Where b divides a, up and down are the same.
pub ceil_of_whole : (a : ℕ) {b : ℕ} → 0 < b → a % b ≡ 0 → ceil_div a b ≡ a / b
unfolding ceil_div
ceil_of_whole a {b} h z =
    div-eq_of_lt-le b (omega (arith, div-add-mod' a b)) (omega (arith, div-add-mod' a b))

-- Where it does not, up is one more than down.
pub ceil_of_part : (a : ℕ) {b : ℕ} → 0 < b → (a % b ≡ 0 → ⊥) → ceil_div a b ≡ a / b + 1
unfolding ceil_div
ceil_of_part a {b} h z =
    div-eq_of_lt-le b (omega (arith, div-add-mod' a b)) (omega (arith, div-add-mod' a b, mod-lt a h))

-- Rounding up is dividing after adding all but one of b.
pub ceil_by_quotient : (a b : ℕ) → (a + (b - 1)) / b ≡ ceil_div a b
unfolding ceil_div
ceil_by_quotient a b = refl

-- Rounded up, a larger number is not smaller.
pub ceil_grows : {a c : ℕ} (b : ℕ) → 0 < b → a ≤ c → ceil_div a b ≤ ceil_div c b
ceil_grows {a} {c} b h l = (ceil_is_enough {a = a} {x = ceil_div c b} h).1 (omega (arith, ceil_is_near c h))
