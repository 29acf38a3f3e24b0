-- The laws of reading a number. Assumes nothing.
use Prim.Native.Nat.{ℕ, suc, ◌+◌, ◌-◌, ◌*◌, ◌^◌, ◌≤◌, ◌<◌}
use mathlib.Core.Path.{◌≡◌, ap}
use mathlib.Core.List.{List}
use native.Mathlib.Nat.{sub_self, pow-suc, pow-le-pow_right, one-le-pow}
use native.Mathlib.Omega.{arith}
use lib.ListN.{length}
use Rattle.fields.specs.Fields.{byte, number_at}
use Rattle.fields.proofs.Fields.{no_number}

-- The loop has read the bytes from place i on, of so many.
pub record Read (s : List ℕ) (at width i number : ℕ) : Type 0 where
  pub value : number ≡ number_at (width - i) s (at + i)
  pub fits : number < 256 ^ (width - i)

module _ (s : List ℕ) (at width : ℕ) where
  -- Past the end the number is 0.
  pub reads_none : length s ≤ at → (0 ≡ number_at width s at) × (0 < 256 ^ width)
  reads_none past = (omega (arith, no_number width s past), one-le-pow width 256 (omega arith))

  -- It begins at the end of the field,
  pub reading_begins : Read s at width width 0
  unfolding number_at
  reading_begins = record { value = rw (sub_self width); fits = rw (sub_self width) (omega arith) }

  module _ {i number : ℕ} (so : Read s at width i number) where
    -- reads one byte more,
    pub reads_one_more : {b : ℕ} → 0 < i → i ≤ width → b ≡ byte s (at + (i - 1)) → b < 256 → Read s at width (i - 1) (256 * number + b)
    unfolding number_at
    reads_one_more some within is small =
        let longer : width - (i - 1) ≡ suc (width - i) = omega arith in
        let next = ap (number_at (width - i) s) {x = at + i} {y = at + (i - 1) + 1} (omega arith) in
        record {
          value = rw longer (omega (arith, so.value, is, next));
          fits = rw longer (omega (arith, so.fits, pow-suc 256 (width - i)));
        }

    -- which still fits into 64 bits,
    pub stays_small : 0 < i → width ≤ 8 → number < 256 ^ 7
    stays_small some narrow = omega (arith, so.fits, pow-le-pow_right {n = 256} (omega arith) {i = width - i} {j = 7} (omega arith))

    -- and ends at the field's first byte.
    pub reading_ends : i ≤ 0 → (number ≡ number_at width s at) × (number < 256 ^ width)
    reading_ends all =
        let whole : width - i ≡ width = omega arith in
        let first : at + i ≡ at = omega arith in
        (rw (whole, first) at so.value, rw whole at so.fits)
