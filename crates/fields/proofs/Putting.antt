-- The laws of writing a number. Assumes nothing.
use Prim.Native.Nat.{ℕ, suc, ◌+◌, ◌-◌, ◌/◌, ◌%◌, ◌≤◌, ◌<◌}
use mathlib.Core.Path.{◌≡◌, refl, sym, ap, ◌∙◌}
use mathlib.Core.List.{List}
use mathlib.Core.Logic.{◌⊎◌, inl, inr}
use native.Mathlib.Nat.{sub-zero}
use native.Mathlib.Omega.{arith}
use lib.ListN.{length, set, length-set}
use lib.Seq.{sets}
use Rattle.facts.proofs.Filling.{one_left_more}
use Rattle.facts.proofs.Storing.{none_stored_past}
use Rattle.fields.specs.Fields.{bytes_of}

-- The loop has written i bytes: what is left of the number, written behind them, gives the whole.
pub record Put (s₀ : List ℕ) (at width number : ℕ) (s : List ℕ) (left i : ℕ) : Type 0 where
  pub long : length s ≡ length s₀
  pub rest : sets s (at + i) (bytes_of (width - i) left) ≡ sets s₀ at (bytes_of width number)

module _ (s₀ : List ℕ) (at width number : ℕ) where
  -- It begins,
  pub putting_begins : Put s₀ at width number s₀ number 0
  putting_begins = record { long = refl; rest = rw (sub-zero width) (ap (λ k. sets s₀ k (bytes_of width number)) {x = at + 0} {y = at} (omega arith)) }

  module _ {s : List ℕ} {left i : ℕ} (so : Put s₀ at width number s left i) where
    -- writes one byte more,
    pub puts_one_more : i < width → Put s₀ at width number (set s (at + i) (left % 256)) (left / 256) (i + 1)
    unfolding bytes_of
    puts_one_more h =
        record {
          long = length-set s (at + i) (left % 256) ∙ so.long;
          rest =
              ap (λ k. sets (set s (at + i) (left % 256)) k (bytes_of (width - (i + 1)) (left / 256))) {x = at + (i + 1)} {y = suc (at + i)} (omega arith)
              ∙ (ap (λ w. sets s (at + i) (bytes_of w left)) (sym (one_left_more h)) ∙ so.rest);
        }

    -- and ends where all bytes are written, or the rest would stand past the end.
    pub putting_ends : (i ≡ width) ⊎ (length s₀ ≤ at + i) → s ≡ sets s₀ at (bytes_of width number)
    unfolding bytes_of
    putting_ends (inl all) = sym (ap (λ k. sets s (at + i) (bytes_of k left)) {x = width - i} {y = 0} (omega arith)) ∙ so.rest
    putting_ends (inr past) = sym (none_stored_past (bytes_of (width - i) left) s (at + i) (omega (arith, so.long))) ∙ so.rest
