-- What the lowest late row of a slot is, by the first key that is left out and the time up to which keys are due. Assumes nothing.
use Prim.Native.Nat.{ℕ, ◌≤◌, ◌<◌}
use mathlib.Core.Path.{◌≡◌, refl, subst}
use mathlib.Core.List.{List}
use mathlib.Core.Bool.{false}
use native.Mathlib.Decide.{dec_lt}
use native.Mathlib.Omega.{arith}
use borrow.Author.Tests.{lt-ltb, le-ltb}
use Rattle.std.specs.Prelude.{None}
use Rattle.choice.specs.Keys.{key_in}
use Rattle.dispatcher.specs.Looking.{later_keys, is_due, LateRow}

-- if the first that is left out is due later, no key is both left out and due soon
pub never_due : (first soon key : ℕ) → soon ≤ first → is_due first soon key ≡ false
never_due first soon key h = go (dec_lt key first)
  where
    go : Dec (key < first) → is_due first soon key ≡ false
    go (yes l) = rw (lt-ltb key first l) refl
    go (no l) =
        let a : first ≤ key = omega arith in
        let b : soon ≤ key = omega arith in
        rw (le-ltb key first a, le-ltb key soon b) refl

module _ (keys : List ℕ) (found first soon : ℕ) where
  -- none is late if the first that is left out is due later,
  pub all_later : soon ≤ first → (j : ℕ) → j < found → is_due first soon (key_in keys j) ≡ false
  all_later h j l = never_due first soon (key_in keys j) h

-- (of the time as it was asked for)
pub all_later_then : (keys : List ℕ) (found : ℕ) {first now t : ℕ} → now ≡ t → later_keys now ≤ first → LateRow keys found first (later_keys t) None
all_later_then keys found {first} e later = subst (λ t. LateRow keys found first (later_keys t) None) e (all_later keys found first _ later)
