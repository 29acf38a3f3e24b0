-- What a callee that was lent the part `b[at..]` leaves there, said of the whole. Assumes nothing.
use mathlib.Core.Path.{◌≡◌, ap, ◌∙◌}
use mathlib.Core.List.{List, ◌++◌, append-nil}
use Prim.Native.Nat.{ℕ, ◌-◌}
use native.Mathlib.Omega.{arith}
use lib.ListN.{length, take, drop, length-drop, drop_of_length-le}
use lib.Seq.{take_all}
use borrow.Rule.Slice.PartMut.{put_mid, mid_of}

-- What is lent is all from the place on,
pub lent_from : (b : List ℕ) (at : ℕ) → mid_of at (length b - at) b ≡ drop at b
lent_from b at = take_all (length b - at) (drop at b) (omega (arith, length-drop at b))

-- and what comes back stands behind what was before the place.
pub comes_back : (b : List ℕ) (at : ℕ) (part : List ℕ) → put_mid at (length b - at) b part ≡ take at b ++ part
comes_back b at part =
    ap (λ rest. take at b ++ (part ++ rest)) (drop_of_length-le (drop at b) {i = length b - at} (omega (arith, length-drop at b)))
    ∙ ap (λ rest. take at b ++ rest) (append-nil part)
