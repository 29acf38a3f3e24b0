-- Between functions: what the tests of a slot say, and what is asked where it is run. No part of what 01 says.
use Rattle.std.specs.Prelude.{ℕ, ◌+◌, ◌-◌, ◌≤◌, ◌<◌, ◌≡◌, List, Bool, true, false, length, Option, Result, MatchOption, MatchResult}
use Rattle.facts.specs.Counting.{those}
use Rattle.facts.specs.First.{Lowest}
use Rattle.counts.specs.Limits.{time_limit}
use Rattle.pd2.specs.Ready.{late}
use Rattle.pd2.specs.Choice.{row_at, quanta_at, given}
use Rattle.trace.specs.Records.{names}
use Rattle.cores.specs.Sets.{size, names_past}
use Rattle.dispatcher.specs.declared.State.{State}
use Rattle.dispatcher.specs.declared.Refusal.{Refusal}
use Rattle.dispatcher.specs.declared.Outcome.{Outcome}
use Rattle.dispatcher.specs.State.{rows_in, quanta_in, time_of}
use Rattle.dispatcher.specs.Broken.{broken}
use Rattle.dispatcher.specs.Answer.{refusal_number, said_of, done_said}
use Rattle.dispatcher.specs.Slot.{favoured_in, picks_in, late_in, stopped_by, refusal}
use Rattle.dispatcher.specs.Usable.{UsableState}
use Rattle.dispatcher.specs.Looking.{ReadyKeys}

-- The lowest number below n that passes a test; None where none does.
abbrev pub LowestIs : (ℕ → Bool) → ℕ → Option ℕ → Type 0
LowestIs test n answer = MatchOption answer ((i : ℕ) → i < n → test i ≡ false) (λ i. (i < n) × Lowest test n i)

-- A slot can be ended with these rows: they are rows of the state; `lowest` is the lowest row that is late then.
pub record CanStep (s : State) (rows : List ℕ) (lowest : Option ℕ) : Type 0 where
  pub usable : UsableState s
  pub slot_left : time_of s < time_limit
  pub listed : rows ≡ those (names rows) (length (rows_in s))
  pub late : LowestIs (λ i. late (row_at (rows_in s) i) (quanta_at (given (names rows) 0 (quanta_in s)) i) (time_of s + 1)) (length (rows_in s)) lowest

-- A slot that no test refuses, with so many bytes in the buffer.
pub record Admitted (s : State) (free : List Bool) (len place : ℕ) : Type 0 where
  pub whole : broken s ≡ false
  pub runs : s.stopped ≡ false
  pub slot_left : time_of s < time_limit
  pub there : names_past s.table.cores free ≡ false
  pub inside : place ≤ len
  pub room : 2 + length (picks_in s (size free)) ≤ len - place

-- The keys of the ready rows of a state.
abbrev pub KeysReady : State → List ℕ → ℕ → Type 0
KeysReady s keys found = ReadyKeys (rows_in s) (quanta_in s) (favoured_in s) (time_of s) keys found

-- The state is broken or, if it runs on, these are the keys.
abbrev pub ReadyOrBroken : State → List ℕ → Option ℕ → Type 0
ReadyOrBroken s keys answer = MatchOption answer (broken s ≡ true) (λ found. (broken s ≡ false) × (s.stopped ≡ false → KeysReady s keys found))

-- The tests refuse a slot so, whatever the buffer,
pub record RefusesAny (s : State) (free : List Bool) (why : Refusal) : Type 0 where
  pub met : (buffer : List ℕ) (place : ℕ) → refusal_number why ≡ refusal s free buffer place

-- or the state can run one slot more, on these cores.
pub record CanRun (s : State) (free : List Bool) : Type 0 where
  pub runs : s.stopped ≡ false
  pub slot_left : time_of s < time_limit
  pub there : names_past s.table.cores free ≡ false

abbrev pub RunsOn : {A : Type 0} → State → List Bool → Result A Refusal → Type 0
RunsOn s free answer = MatchResult answer (λ _. CanRun s free) (λ why. RefusesAny s free why)

-- The tests refuse a slot so, with so many bytes in the buffer.
abbrev pub Refuses : State → List Bool → ℕ → ℕ → Refusal → Type 0
Refuses s free len place why = (buffer : List ℕ) → length buffer ≡ len → refusal_number why ≡ refusal s free buffer place

-- The first test that refuses or, where none does, the keys of the ready rows.
abbrev pub CauseIs : State → List Bool → ℕ → ℕ → Result ℕ Refusal → List ℕ → Type 0
CauseIs s free len place answer keys = MatchResult answer (λ found. Admitted s free len place × KeysReady s keys found) (λ why. Refuses s free len place why)

-- The end of a slot, by the state after the step: who is late is answered and, with some late row, the state is stopped; the cores are those remembered.
pub record Judged (after : State) (r : Outcome) : Type 0 where
  pub said : said_of r.answer ≡ done_said (late_in after) (time_of after)
  pub placed : r.placed ≡ after.last
  pub state : r.state ≡ stopped_by (late_in after) after
