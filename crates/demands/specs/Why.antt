-- "Support staff on the phone want to ask, for a row in the slot about to run, with its state and k" (02, Two): why a row waits.
use Rattle.std.specs.Prelude.{ℕ, ◌≤◌, ◌<◌, ◌≡◌, List, Bool, true, false, ◌↔◌, length, Ok}
use Rattle.trace.specs.Records.{rows_at, names}
use Rattle.cores.specs.Sets.{size}
use Rattle.dispatcher.specs.declared.State.{State}
use Rattle.dispatcher.specs.State.{rows_in, time_of}
use Rattle.dispatcher.specs.Slot.{slot_of}
use Rattle.why.specs.declared.Reason.TheVariants.{Picked}
use Rattle.why.specs.Rules.{OneRule}
use Rattle.why.specs.Lowest.{OneLowest}
use Rattle.why.specs.Answer.{number_of}
use Rattle.why.specs.Why.{why_of, WhyNumbers, PastHasNoPart, MemoryHasNoPart, ReasonIsTrueAndOnly}
use Rattle.demands.specs.One.{NotBroken}

-- "Refusals: 30 to 33 as in 01, then 36 for a row number not below n": each with what was not met before it. 33 is k above M: here k is a number.
pub record WhyExactly (s : State) (k row number : ℕ) : Type 0 where
  pub is_30 : (number ≡ 30) ↔ (NotBroken s → ⊥)
  pub is_31 : (number ≡ 31) ↔ (NotBroken s × (s.stopped ≡ true))
  pub is_32 : (number ≡ 32) ↔ (NotBroken s × (s.stopped ≡ false) × (time_of s ≡ 1_000_000_000_000))
  pub is_33 : (number ≡ 33) ↔ (NotBroken s × (s.stopped ≡ false) × (time_of s < 1_000_000_000_000) × (s.table.cores < k))
  pub is_36 : (number ≡ 36)
      ↔ (NotBroken s × (s.stopped ≡ false) × (time_of s < 1_000_000_000_000) × (k ≤ s.table.cores) × (length (rows_in s) ≤ row))

-- "picked" is said of exactly those rows that the slot's record names, whichever cores are free, as long as they are k of them.
abbrev pub PickedAsTheSlotDoes : Type 0
PickedAsTheSlotDoes =
    (s : State) (free : List Bool) (buffer : List ℕ) (place row : ℕ) → (slot_of s free buffer place).said.number < 2 → row < length (rows_in s) →
    (why_of s (size free) row ≡ Ok Picked) ↔ (names (rows_at (slot_of s free buffer place).bytes place) row ≡ true)

pub record Why : Type 0 where
  pub refused : (s : State) (k row : ℕ) → WhyExactly s k row (number_of (why_of s k row))
  pub numbers : WhyNumbers
  -- "The reason given must be the true one and the only true one in that list, no core free being said only of a ready row with k = 0": what the reasons say
  -- stands in why/specs/Reasons.antt.
  pub reason : ReasonIsTrueAndOnly
  -- "the rule that put it ahead (deadline, bit, group deadline, row number)", or 'ran in the slot before' (02, Eight): of two rows there is one.
  pub one_rule : OneRule
  -- "the lowest-ranked picked row": where somebody is picked there is one.
  pub one_lowest : OneLowest
  pub as_the_slot : PickedAsTheSlotDoes
  -- "Places past row n, and board numbers past M, are ignored" (01); nor has what is remembered a part in it, but for who is favoured.
  pub ignored : PastHasNoPart
  pub memory : MemoryHasNoPart
