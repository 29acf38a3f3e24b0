-- The bytes of a row and a time. Assumes nothing.
use Prim.Native.Nat.{ℕ}
use mathlib.Core.Path.{◌≡◌, refl, ap, ◌∙◌}
use mathlib.Core.List.{List}
use lib.Seq.{sets}
use Rattle.facts.proofs.Storing.{stored_behind}
use Rattle.fields.specs.Fields.{bytes_of}
use Rattle.trace.specs.Said.{Said}
use Rattle.desk_run.specs.Judged.{place_of}

-- A row at the front and a time behind it are the place of what was said.
pub place_is_there : (said : Said) (b : List ℕ) {row time : ℕ} {w₁ w₂ : List ℕ} → row ≡ said.row → time ≡ said.time → w₁ ≡ sets b 0 (bytes_of 1 row) →
    w₂ ≡ sets w₁ 1 (bytes_of 8 time) → w₂ ≡ place_of said b
unfolding bytes_of
place_is_there said b {w₁ = w₁} row time p q =
    stored_behind b (bytes_of 1 said.row) (bytes_of 8 said.time) 0 (p ∙ ap (λ n. sets b 0 (bytes_of 1 n)) row) refl (q ∙ ap (λ n. sets w₁ 1 (bytes_of 8 n)) time)
