-- Counts of quanta as the plain numbers that they hold, and back.
use Rattle.std.specs.Prelude.{ℕ, List, map}
use Rattle.counts.specs.declared.Quanta.{Quanta}

abbrev pub numbers_of : List Quanta → List ℕ
numbers_of = map (λ q. q.0)

abbrev pub counted : List ℕ → List Quanta
counted = map (λ q. record { 0 = q })
