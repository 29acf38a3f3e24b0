-- What is read of a request.
use Rattle.std.specs.Prelude.{ℕ, ◌<◌, ◌≤◌, Option, IfSome}

-- A request that is answered has some bytes, and no more than are there.
abbrev pub Inside : ℕ → Option ℕ → Type 0
Inside there request = IfSome request (λ n. (0 < n) × (n ≤ there))
