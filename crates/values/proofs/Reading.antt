-- Arrays that are read place by place. Assumes nothing.
use mathlib.Core.Path.{◌≡◌, ap, ◌∙◌}
use mathlib.Core.List.{List, ◌++◌, map}
use Prim.Native.Nat.{ℕ, ◌-◌}
use native.Mathlib.Omega.{arith}
use lib.ListN.{replicate}
use Rattle.std.proofs.lemmas.List.{append-nil}
use Rattle.facts.specs.Places.{places, padded}
use Rattle.counts.specs.declared.Quanta.{Quanta}
use Rattle.fields.specs.Fields.{number_at}

-- Once all places are read, the array is what was read.
pub all_are_read : {A : Type 0} (read : ℕ → A) (nothing : A) (size from step : ℕ) → padded read nothing size from step size ≡ map read (places from step size)
unfolding padded
all_are_read read nothing size from step =
    ap (λ k. map read (places from step size) ++ replicate k nothing) {x = size - size} {y = 0} (omega arith) ∙ append-nil _

-- what stands in a place of quanta before they are read, and what is read there
abbrev pub none : Quanta
none = record { 0 = 0 }

abbrev pub quanta_in : List ℕ → ℕ → Quanta
quanta_in s i = record { 0 = number_at 8 s i }
