-- What a right summary is (02, Ten).
use Rattle.std.specs.Prelude.{ℕ, ◌≡◌, List, Bool, true, ◌↔◌, length}
use Rattle.facts.specs.Below.{all_below}
use Rattle.table.specs.declared.Table.{Table}
use Rattle.table.specs.Value.{fault_of, rows_of}
use Rattle.trace.specs.Shape.{WellFormedFor}
use Rattle.summary.specs.Summary.{summary_of, IsSummary}

-- "A trace is well formed for a table that is taken" (01).
pub record WellFormedOver (table : Table) (trace : List ℕ) : Type 0 where
  pub taken : fault_of table ≡ 0
  pub well_formed : WellFormedFor table.cores (length (rows_of table)) trace

-- "A separate check says yes exactly if the summary is the one a well-formed trace yields"
pub record IsRight (table : Table) (trace summary : List ℕ) : Type 0 where
  pub over : WellFormedOver table trace
  pub is_summary : IsSummary trace summary

abbrev pub SaysYesIfRight : Table → List ℕ → List ℕ → Bool → Type 0
SaysYesIfRight table trace summary r = (r ≡ true) ↔ IsRight table trace summary

-- Entry by entry or all at once, it is the same: the summary that a well-formed trace yields says of itself what is so,
abbrev pub YieldedIsSummary : Type 0
YieldedIsSummary = (table : Table) (trace : List ℕ) → WellFormedOver table trace → IsSummary trace (summary_of trace)

-- and no other bytes do: "the one".
abbrev pub NoOtherIsSummary : Type 0
NoOtherIsSummary =
    (table : Table) (trace summary : List ℕ) → WellFormedOver table trace → all_below 256 summary ≡ true → IsSummary trace summary → summary ≡ summary_of trace
