-- Elements stored from a place on: `sets` of the library. Those that would stand past the end are not stored. Assumes nothing.
use Prim.Native.Nat.{ℕ, suc, ◌+◌, ◌≤◌}
use mathlib.Core.Path.{◌≡◌, refl, ap, ◌∙◌}
use mathlib.Core.List.{List, [], ◌∷◌, ◌++◌}
use native.Mathlib.Omega.{arith}
use lib.ListN.{length, set, length-set}
use lib.Seq.{sets, set_out}

module _ {A : Type 0} where
  -- what is stored behind what was stored
  both_stored : (l m b : List A) (at : ℕ) → sets (sets b at l) (at + length l) m ≡ sets b at (l ++ m)
  both_stored [] m b at = ap (λ k. sets b k m) {x = at + 0} {y = at} (omega arith)
  both_stored (x ∷ l) m b at =
      ap (λ k. sets (sets (set b at x) (suc at) l) k m) {x = at + suc (length l)} {y = suc at + length l} (omega arith)
      ∙ both_stored l m (set b at x) (suc at)

  -- for callers

  -- What is stored right behind what was stored stands behind it.
  pub stored_behind : (b l m : List A) (at : ℕ) {first second : List A} {next : ℕ} → first ≡ sets b at l → next ≡ at + length l → second ≡ sets first next m →
      second ≡ sets b at (l ++ m)
  stored_behind b l m at {next = next} p n q =
      q ∙ (ap (λ w. sets w next m) p ∙ (ap (λ k. sets (sets b at l) k m) n ∙ both_stored l m b at))

  -- Past the end nothing is stored.
  pub none_stored_past : (l b : List A) (at : ℕ) → length b ≤ at → sets b at l ≡ b
  none_stored_past [] b at h = refl
  none_stored_past (x ∷ l) b at h =
      none_stored_past l (set b at x) (suc at) (omega (arith, length-set b at x)) ∙ set_out b at x h
