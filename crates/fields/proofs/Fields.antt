-- Past the end every byte is 0. Assumes nothing.
use mathlib.Core.Path.{◌≡◌, refl}
use mathlib.Core.List.{List}
use Prim.Native.Nat.{ℕ, zero, suc, ◌+◌, ◌≤◌}
use native.Mathlib.Omega.{arith}
use lib.ListN.{length, get_or-eq_default}
use Rattle.fields.specs.Fields.{byte, number_at}

no_byte : (s : List ℕ) {i : ℕ} → length s ≤ i → byte s i ≡ 0
no_byte s h = get_or-eq_default s 0 h

-- So is the number in any count of bytes.
pub no_number : (width : ℕ) (s : List ℕ) {i : ℕ} → length s ≤ i → number_at width s i ≡ 0
unfolding number_at
no_number zero s h = refl
no_number (suc width) s {i} h = omega (arith, no_byte s h, no_number width s {i = i + 1} (omega arith))
