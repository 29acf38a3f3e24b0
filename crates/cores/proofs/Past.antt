-- When a set names a core that is not below M, said of its marks. Assumes nothing.
use Prim.Native.Nat.{ℕ, ◌≤◌, ◌<◌}
use mathlib.Core.Path.{◌≡◌, sym, ◌∙◌}
use mathlib.Core.List.{List}
use mathlib.Core.Bool.{Bool, true, false, ◌&&◌, true≢false}
use mathlib.Core.Logic.{◌↔◌}
use native.Mathlib.Decide.{dec_lt}
use native.Mathlib.Omega.{arith}
use borrow.Author.Tests.{leb-true, leb-false, le-leb}
use lib.Dec.{leb}
use lib.ListN.{length, get_or, get_or-eq_default}
use Rattle.facts.specs.Counting.{how_many}
use Rattle.facts.proofs.Some.{some_if, each_fails}
use Rattle.facts.proofs.Tests.{both, hold_both}
use Rattle.facts.proofs.Listing.{as_many_listed}
use Rattle.cores.specs.Sets.{size, names_past}
use Rattle.cores.proofs.Memory.{found_if_some}
use Rattle.cores.proofs.Naming.{holds_not}

-- for callers

-- The size of a set is how many marks are set.
pub size_is_marks : (free : List Bool) → size free ≡ how_many (λ core. get_or free core false) (length free)
size_is_marks free = as_many_listed (λ core. get_or free core false) (length free)

module _ (cores : ℕ) (free : List Bool) where
  abbrev is_past : ℕ → Bool
  is_past core = get_or free core false && leb cores core

  -- what is marked is a place of the set
  in_set : (core : ℕ) → get_or free core false ≡ true → core < length free
  in_set core m = go (dec_lt core (length free))
    where
      go : Dec (core < length free) → core < length free
      go (yes l) = l
      go (no l) = absurd (true≢false (sym m ∙ get_or-eq_default free false {n = core} (omega arith)))

  -- It names one exactly if a marked core is not below M,
  pub past_exactly : (names_past cores free ≡ true) ↔ ((core : ℕ) × (get_or free core false ≡ true) × (cores ≤ core))
  past_exactly = (
    λ h.
        let f = found_if_some is_past (length free) h in
        let two = both (get_or free f.0 false) (leb cores f.0) f.2 in
        (f.0, two.0, leb-true cores f.0 two.1),
    λ f. some_if is_past (length free) f.0 (in_set f.0 f.1) (hold_both f.1 (le-leb cores f.0 f.2)),
  )

  -- and none exactly if all marked cores are.
  pub there_exactly : (names_past cores free ≡ false) ↔ ((core : ℕ) → get_or free core false ≡ true → core < cores)
  there_exactly = (
    λ h core m. leb-false cores core (holds_not (leb cores core) (λ p. true≢false (sym (hold_both m p) ∙ each_fails is_past (length free) h core (in_set core m)))),
    λ each. holds_not (names_past cores free) (λ h. let f = past_exactly.0 h in omega (arith, each f.0 f.1, f.2)),
  )
