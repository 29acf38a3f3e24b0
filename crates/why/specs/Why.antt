-- What is answered to "Why did tank 14 wait?" (02, Two).
use Rattle.std.specs.Prelude.{ℕ, ◌+◌, ◌≤◌, ◌≡◌, List, [], ◌∷◌, false, cond, not, ◌↔◌, ◌⊎◌, ltb, eqb, length, Ok, Err}
use Rattle.facts.specs.Findings.{Finding, ◌says◌, first_found, FirstFound}
use Rattle.counts.specs.Limits.{time_limit}
use Rattle.windows.specs.Windows.{start, job_start}
use Rattle.table.specs.declared.Row.{Row}
use Rattle.pd2.specs.Ready.{origin_of, is_early_release}
use Rattle.pd2.specs.Choice.{row_at, quanta_at}
use Rattle.trace.specs.Records.{names}
use Rattle.dispatcher.specs.declared.State.{State}
use Rattle.dispatcher.specs.State.{rows_in, is_row, quanta_in, time_of}
use Rattle.dispatcher.specs.Broken.{broken}
use Rattle.dispatcher.specs.Slot.{picks_in}
use Rattle.dispatcher.specs.Places.{AlikeBelow}
use Rattle.dispatcher.specs.Placed.{AlikeButMemory, FavourAlike}
use Rattle.why.specs.declared.Reason.{Reason}
use Rattle.why.specs.declared.Reason.TheVariants.{Picked, NotReady, NoCoreFree, PassedOver}
use Rattle.why.specs.declared.Refusal.TheVariants.{Broken, Stopped, AtLimit, TooManyCores, NoSuchRow}
use Rattle.why.specs.Rules.{rule_for}
use Rattle.why.specs.Lowest.{lowest_picked}
use Rattle.why.specs.Reasons.{is_ready, rank_in, goes_before, Holds}
use Rattle.why.specs.Answer.{Answer, number_of}

-- the slot from which on a row with q quanta is ready: r of its next subtask, or the start of the job that holds it. It may lie past the time limit.
unfoldable pub ready_from : Row → ℕ → ℕ
ready_from row q =
    cond (is_early_release row)
    (job_start row.cost row.period (origin_of row) (q + 1))
    (start row.cost row.period (origin_of row) (q + 1))

abbrev pub ready_from_in : State → ℕ → ℕ
ready_from_in s row = ready_from (row_at (rows_in s) row) (quanta_at (quanta_in s) row)

-- the lowest-ranked picked row
abbrev pub lowest_in : State → ℕ → ℕ
lowest_in s k = lowest_picked (names (picks_in s k)) (goes_before s) (length (rows_in s))

-- The reason, computed.
unfoldable pub reason_of : State → ℕ → ℕ → Reason
reason_of s k row =
    cond (names (picks_in s k) row) Picked
    (cond (not (is_ready s row (time_of s))) (NotReady (record { 0 = ready_from_in s row }))
    (cond (eqb k 0) NoCoreFree
    (PassedOver (lowest_in s k) (rule_for (rank_in s (lowest_in s k)) (rank_in s row)))))

-- "Refusals: 30 to 33 as in 01, then 36 for a row number not below n."
abbrev pub why_tests : State → ℕ → ℕ → List (Finding Answer)
why_tests s k row =
    (broken s says Err Broken)
    ∷ (s.stopped says Err Stopped)
    ∷ (eqb (time_of s) time_limit says Err AtLimit)
    ∷ (ltb s.table.cores k says Err TooManyCores)
    ∷ (not (is_row s row) says Err NoSuchRow)
    ∷ []

unfoldable pub why_of : State → ℕ → ℕ → Answer
why_of s k row = first_found (Ok (reason_of s k row)) (why_tests s k row)

-- Each number is answered exactly when its cause is the first that is met.
abbrev pub RefusedExactly : Type 0
RefusedExactly = (s : State) (k row : ℕ) (x : Answer) → (number_of x ≡ 0 → ⊥) → (why_of s k row ≡ x) ↔ FirstFound (why_tests s k row) x

-- No other number is answered; a reason has none.
abbrev pub WhyNumbers : Type 0
WhyNumbers = (s : State) (k row : ℕ) → let number = number_of (why_of s k row) in (number ≡ 0) ⊎ ((30 ≤ number) × (number ≤ 33)) ⊎ (number ≡ 36)

-- "Places past row n, and board numbers past M, are ignored", and so is what stands past the count of a memory: two states that differ in nothing else get the same answer.
abbrev pub PastHasNoPart : Type 0
PastHasNoPart = (s s' : State) (k row : ℕ) → AlikeBelow s s' → why_of s k row ≡ why_of s' k row

-- Nor has what is remembered, if it breaks neither state, but for the rows that it favours: in format 1 none (`FormatOneForgets`), in format 2 those that it
-- names, on whichever cores (`RowsDecide`).
abbrev pub MemoryHasNoPart : Type 0
MemoryHasNoPart =
    (s s' : State) (k row : ℕ) → AlikeButMemory s s' → FavourAlike s s' → broken s ≡ false → broken s' ≡ false → why_of s k row ≡ why_of s' k row

-- "The reason given must be the true one and the only true one in that list": what is answered holds, and of all other answers none does, so that the
-- slot, the row and the rule in it are the only true ones too.
pub record TrueAndOnly (s : State) (k row : ℕ) (answer : Answer) : Type 0 where
  pub true_one : Holds s k row answer
  pub only_one : (other : Answer) → Holds s k row other → other ≡ answer

abbrev pub ReasonIsTrueAndOnly : Type 0
ReasonIsTrueAndOnly = (s : State) (k row : ℕ) → number_of (why_of s k row) ≡ 0 → TrueAndOnly s k row (why_of s k row)
