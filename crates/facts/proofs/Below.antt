-- The laws of numbers below a bound. Assumes nothing.
use Prim.Native.Nat.{ℕ, zero, suc, ◌<◌}
use mathlib.Core.Path.{◌≡◌}
use mathlib.Core.List.{List, [], ◌∷◌}
use mathlib.Core.Bool.{true}
use borrow.Author.Tests.{ltb-true}
use lib.Dec.{ltb}
use lib.ListN.{get_or}
use Rattle.facts.specs.Below.{all_below}
use Rattle.facts.proofs.Tests.{both}

-- Where all are below a bound, each is, and so is 0 past the end.
pub each_below : (top : ℕ) → 0 < top → (l : List ℕ) → all_below top l ≡ true → (i : ℕ) → get_or l i 0 < top
unfolding all_below
each_below top some [] all i = some
each_below top some (x ∷ l) all zero = ltb-true x top (both (ltb x top) (all_below top l) all).0
each_below top some (x ∷ l) all (suc i) = each_below top some l (both (ltb x top) (all_below top l) all).1 i
