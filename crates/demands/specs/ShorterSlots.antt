-- "Shorter slots" (02, Seven): "The quantum drops to a tenth of a millisecond, and 1,000,000,000 slots is then under 28 hours. The time limit rises to 1,000,000,000,000, and the window
-- question takes subtasks up to one past that. Each trace still covers at most 1,000,000,000 slots from slot 0. Refusals: 30, 32 and 50 use the new limit." (Exactly when 30 and 32 are
-- said stands in specs/One.antt and specs/Why.antt; what is said of a run that is longer than a trace in specs/LongerRuns.antt.)
use Rattle.std.specs.Prelude.{ℕ, ◌*◌, ◌^◌, ◌≤◌, ◌<◌, ◌≡◌, List, Bool, ◌↔◌, Result}
use Rattle.counts.specs.declared.Subtask.{Subtask}
use Rattle.counts.specs.Limits.{time_limit}
use Rattle.windows.specs.Question.{last_subtask, window_reply, reply_of}
use Rattle.dispatcher.specs.declared.State.{State}
use Rattle.dispatcher.specs.State.{time_of}
use Rattle.why.specs.Answer as why
use Rattle.checker.specs.declared.Finding.{Finding}
use Rattle.checker.specs.Causes.{slot_limit}
use Rattle.demands.specs.Inputs.{Bytes, CanAskWindow, Possible, CanAsk}
use Rattle.demands.specs.ShutOut.{Dispatcher, IsDispatcher, number_of, Explainer, IsExplainer, Answerer, IsAnswerer, IsChecker, number_checked, IsTraceCheck}

-- "a tenth of a millisecond": so many slots are in so many hours
abbrev pub slots_in_hours : ℕ → ℕ
slots_in_hours hours = hours * 3_600 * 10_000

-- Shut out is a dispatcher that refuses all from the last slot on (so also one that ends with the limit of 01), one that never says 32, and one whose time has 32 bits,
abbrev pub EndsTooEarly : Dispatcher → Type 0
EndsTooEarly slot =
    (s : State) (free : List Bool) (buffer : List ℕ) (place : ℕ) → Possible s free buffer place → 999_999_999_999 ≤ time_of s → 1 < number_of (slot s free buffer place)

abbrev pub NeverEnds : Dispatcher → Type 0
NeverEnds slot = (s : State) (free : List Bool) (buffer : List ℕ) (place : ℕ) → Possible s free buffer place → number_of (slot s free buffer place) ≡ 32 → ⊥

abbrev pub TimeIn32Bits : Dispatcher → Type 0
TimeIn32Bits slot =
    (s : State) (free : List Bool) (buffer : List ℕ) (place : ℕ) → Possible s free buffer place → number_of (slot s free buffer place) < 2 →
    time_of (slot s free buffer place).0.state < 2 ^ 32

-- who says why a row waits and gives no reason from the last slot on, or never says 32,
abbrev pub ReasonsEndTooEarly : Explainer → Type 0
ReasonsEndTooEarly explain = (s : State) (k row : ℕ) → CanAsk s k row → 999_999_999_999 ≤ time_of s → why.number_of (explain s k row) ≡ 0 → ⊥

abbrev pub ReasonsNeverEnd : Explainer → Type 0
ReasonsNeverEnd explain = (s : State) (k row : ℕ) → CanAsk s k row → why.number_of (explain s k row) ≡ 32 → ⊥

-- who answers the window question and refuses the last subtask with all behind it (so also one that ends with the limit of 01), or refuses none,
abbrev pub LastIsRefused : Answerer → Type 0
LastIsRefused window = (e p f : ℕ) (i : Subtask) → CanAskWindow e p f i → 1_000_000_000_001 ≤ i.0 → (reply_of (window e p f i)).number ≡ 50

abbrev pub NoLastSubtask : Answerer → Type 0
NoLastSubtask window = (e p f : ℕ) (i : Subtask) → CanAskWindow e p f i → 0 < e → e ≤ p → 1 ≤ i.0 → (reply_of (window e p f i)).number ≡ 0

-- and a check, by the number that it answers, that takes the time limit for the trace's: four bytes hold no such count, so it never says 47.
abbrev pub TakesAnyCount : (List ℕ → List ℕ → ℕ) → Type 0
TakesAnyCount number = (bytes s : List ℕ) → Bytes bytes → Bytes s → number bytes s ≡ 47 → ⊥

pub record ShorterSlots : Type 0 where
  -- "The time limit rises to 1,000,000,000,000", which is over three years of such slots,
  pub time_limit_is : time_limit ≡ 1_000_000_000_000
  pub over_3_years : slots_in_hours (3 * 365 * 24) < time_limit
  -- "and the window question takes subtasks up to one past that".
  pub last_subtask_is : last_subtask ≡ 1_000_000_000_001
  pub windows : (e p f i : ℕ) → 0 < e → e ≤ p → ((window_reply e p f i).number ≡ 0) ↔ ((1 ≤ i) × (i ≤ 1_000_000_000_001))
  -- "Each trace still covers at most 1,000,000,000 slots from slot 0": "under 28 hours".
  pub slot_limit_is : slot_limit ≡ 1_000_000_000
  pub under_28_hours : slot_limit < slots_in_hours 28
  -- What is shut out.
  pub ends_too_early : (slot : Dispatcher) → IsDispatcher slot → EndsTooEarly slot → ⊥
  pub never_ends : (slot : Dispatcher) → IsDispatcher slot → NeverEnds slot → ⊥
  pub time_in_32_bits : (slot : Dispatcher) → IsDispatcher slot → TimeIn32Bits slot → ⊥
  pub reasons_end_too_early : (explain : Explainer) → IsExplainer explain → ReasonsEndTooEarly explain → ⊥
  pub reasons_never_end : (explain : Explainer) → IsExplainer explain → ReasonsNeverEnd explain → ⊥
  pub last_is_refused : (window : Answerer) → IsAnswerer window → LastIsRefused window → ⊥
  pub no_last_subtask : (window : Answerer) → IsAnswerer window → NoLastSubtask window → ⊥
  pub takes_any_count : (check : List ℕ → List ℕ → Result (Unit {0}) Finding) → IsChecker check → TakesAnyCount (number_checked check) → ⊥
  pub board_takes_any_count : (check : List ℕ → List ℕ → ℕ) → IsTraceCheck check → TakesAnyCount check → ⊥
