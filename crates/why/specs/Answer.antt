-- What an answer says as numbers.
use Rattle.std.specs.Prelude.{ℕ, Result, Ok, Err}
use Rattle.why.specs.declared.Rule.{Rule}
use Rattle.why.specs.declared.Rule.TheVariants.{Deadline, Bit, GroupDeadline, RowNumber, RanBefore}
use Rattle.why.specs.declared.Reason.{Reason}
use Rattle.why.specs.declared.Reason.TheVariants.{Picked, NotReady, NoCoreFree, PassedOver}
use Rattle.why.specs.declared.Refusal.{Refusal}
use Rattle.why.specs.declared.Refusal.TheVariants.{Broken, Stopped, AtLimit, TooManyCores, NoSuchRow}
use Rattle.why.specs.declared.Told.{Told}

-- One of the four reasons, or a refusal.
abbrev pub Answer : Type 0
Answer = Result Reason Refusal

-- "(deadline, bit, group deadline, row number)": a rule by its place in this list, which "gains 'ran in the slot before'" (02, Eight)
abbrev pub rule_place : Rule → ℕ
rule_place Deadline = 1
rule_place Bit = 2
rule_place GroupDeadline = 3
rule_place RowNumber = 4
rule_place RanBefore = 5

-- "Refusals: 30 to 33 as in 01, then 36 for a row number not below n."
abbrev pub refusal_number : Refusal → ℕ
refusal_number Broken = 30
refusal_number Stopped = 31
refusal_number AtLimit = 32
refusal_number TooManyCores = 33
refusal_number NoSuchRow = 36

-- A refusal by its number, a reason by its place in 02's list, each part that is not named 0: "In any refused answer each part that no rule names is 0
-- or empty".
abbrev pub told : ℕ → ℕ → ℕ → ℕ → ℕ → Told
told number reason slot row rule = record { number = number; reason = reason; slot = slot; row = row; rule = rule }

abbrev pub told_of : Answer → Told
told_of (Ok Picked) = told 0 1 0 0 0
told_of (Ok (NotReady until)) = told 0 2 until.0 0 0
told_of (Ok NoCoreFree) = told 0 3 0 0 0
told_of (Ok (PassedOver by rule)) = told 0 4 0 by (rule_place rule)
told_of (Err refusal) = told (refusal_number refusal) 0 0 0 0

-- The paper's number of an answer: a reason has none, and says 0.
abbrev pub number_of : Answer → ℕ
number_of answer = (told_of answer).number
