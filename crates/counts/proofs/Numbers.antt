-- The laws of counts and the numbers that they hold. Assumes nothing.
use Prim.Native.Nat.{ℕ, ◌<◌}
use mathlib.Core.Path.{◌≡◌, refl, sym, ap, ◌∙◌}
use mathlib.Core.List.{List, [], ◌∷◌}
use lib.ListN.{length, get_or, length-map, get_or-map}
use Rattle.facts.proofs.Filling.{get_d_any}
use Rattle.counts.specs.declared.Quanta.{Quanta}
use Rattle.counts.specs.Numbers.{numbers_of, counted}

-- There are as many numbers as counts.
pub as_many_numbers : (quanta : List Quanta) → length (numbers_of quanta) ≡ length quanta
as_many_numbers quanta = length-map quanta (λ q. q.0)

-- The number at a place is that of the count there,
pub number_at : (quanta : List Quanta) (i : ℕ) → (get_or quanta i (record { 0 = 0 })).0 ≡ get_or (numbers_of quanta) i 0
number_at quanta i = sym (get_or-map (λ q. q.0) quanta i (record { 0 = 0 }))

-- whatever would stand past the end, if the place is there.
pub number_there : (quanta : List Quanta) (i : ℕ) (d : Quanta) → i < length quanta → (get_or quanta i d).0 ≡ get_or (numbers_of quanta) i 0
number_there quanta i d there = ap (λ q. q.0) (get_d_any quanta i d (record { 0 = 0 }) there) ∙ number_at quanta i

-- The numbers of counts make the counts again,
pub counted_back : (quanta : List Quanta) → counted (numbers_of quanta) ≡ quanta
counted_back [] = refl
counted_back (q ∷ quanta) = ap (λ rest. q ∷ rest) (counted_back quanta)

-- and the counts of numbers hold them.
pub as_counted : (numbers : List ℕ) → numbers_of (counted numbers) ≡ numbers
as_counted [] = refl
as_counted (q ∷ numbers) = ap (λ rest. q ∷ rest) (as_counted numbers)
