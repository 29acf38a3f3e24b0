-- The four reasons (02, Two), each a statement of its own: of a row of a state, in the slot about to run, with k cores free. None speaks of another, or
-- of how it is found.
use Rattle.std.specs.Prelude.{ℕ, ◌≡◌, Bool, true, false, length, Ok, Err}
use Rattle.facts.specs.First.{IsFirst}
use Rattle.pd2.specs.Order.{Rank, Before, before}
use Rattle.pd2.specs.Choice.{ready_in, rank_at, goes_before_by}
use Rattle.trace.specs.Records.{names}
use Rattle.dispatcher.specs.declared.State.{State}
use Rattle.dispatcher.specs.State.{rows_in, quanta_in, time_of}
use Rattle.dispatcher.specs.Slot.{favoured_in, picks_in}
use Rattle.why.specs.declared.Rule.{Rule}
use Rattle.why.specs.declared.Reason.TheVariants.{Picked, NotReady, NoCoreFree, PassedOver}
use Rattle.why.specs.Answer.{Answer}
use Rattle.why.specs.Rules.{rule_of}
use Rattle.why.specs.Lowest.{LowestPicked}

-- The row of a state, with the quanta that it has there, is ready in slot t.
abbrev pub is_ready : State → ℕ → ℕ → Bool
is_ready s row t = ready_in (rows_in s) (quanta_in s) t row

-- what the order looks at, of a row of a state,
abbrev pub rank_in : State → ℕ → Rank
rank_in s = rank_at (rows_in s) (quanta_in s) (favoured_in s)

-- and that row j goes before row i by it
abbrev pub goes_before : State → ℕ → ℕ → Bool
goes_before s = goes_before_by before (rows_in s) (quanta_in s) (favoured_in s)

-- "picked": the slot's record names it.
pub record IsPicked (s : State) (k row : ℕ) : Type 0 where
  pub named : names (picks_in s k) row ≡ true

-- "not ready, with the first slot in which it will be"
pub record IsNotReady (s : State) (row slot : ℕ) : Type 0 where
  pub not_now : is_ready s row (time_of s) ≡ false
  pub first : IsFirst (is_ready s row) (time_of s) slot

-- "no core free being said only of a ready row with k = 0"
pub record HasNoCore (s : State) (k row : ℕ) : Type 0 where
  pub row_is_ready : is_ready s row (time_of s) ≡ true
  pub none : k ≡ 0

-- "or passed over. For the last they get the lowest-ranked picked row and the rule that put it ahead"
pub record IsPassedOver (s : State) (k row by : ℕ) (rule : Rule) : Type 0 where
  pub row_is_ready : is_ready s row (time_of s) ≡ true
  pub lowest : LowestPicked (names (picks_in s k)) (goes_before s) (length (rows_in s)) by
  pub ahead : Before (rank_in s by) (rank_in s row)
  pub by_rule : rule ≡ rule_of ahead

-- What an answer says of the row. A refusal is no reason: it says nothing of the row.
abbrev pub Holds : State → ℕ → ℕ → Answer → Type 0
Holds s k row (Ok Picked) = IsPicked s k row
Holds s k row (Ok (NotReady until)) = IsNotReady s row until.0
Holds s k row (Ok NoCoreFree) = HasNoCore s k row
Holds s k row (Ok (PassedOver by rule)) = IsPassedOver s k row by rule
Holds s k row (Err refusal) = ⊥
