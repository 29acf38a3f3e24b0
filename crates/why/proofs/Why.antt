-- The reason given is true, and it is the only true one. Assumes nothing.
use Prim.Native.Nat.{ℕ, ◌<◌}
use mathlib.Core.Path.{◌≡◌, refl, sym, ap, ◌∙◌}
use mathlib.Core.Bool.{Bool, true, false, true≢false}
use native.Mathlib.Decide.{ℕ_discrete}
use native.Mathlib.Omega.{arith}
use borrow.Author.Tests.{ltb-true, not-false}
use lib.Dec.{ltb}
use lib.ListN.{length}
use Rattle.std.specs.Prelude.{Ok, Err}
use Rattle.facts.specs.Findings.{NoneFound}
use Rattle.facts.proofs.Findings.{none_says_otherwise}
use Rattle.facts.proofs.First.{first_is_one}
use Rattle.trace.specs.Records.{names}
use Rattle.dispatcher.specs.declared.State.{State}
use Rattle.dispatcher.specs.State.{rows_in, time_of}
use Rattle.dispatcher.specs.Slot.{picks_in}
use Rattle.why.specs.declared.Reason.TheVariants.{Picked, NotReady, NoCoreFree, PassedOver}
use Rattle.why.specs.Answer.{Answer}
use Rattle.why.specs.Rules.{rule_for}
use Rattle.why.specs.Lowest.{LowestPicked}
use Rattle.why.specs.Reasons.{is_ready, rank_in, goes_before, Holds}
use Rattle.why.specs.Why.{ready_from_in, lowest_in, reason_of, why_tests, why_of, ReasonIsTrueAndOnly}
use Rattle.why.proofs.Rules.{one_rule}
use Rattle.why.proofs.Lowest.{one_lowest}
use Rattle.why.proofs.Cases.{when_named, when_unready, when_no_core, when_passed_over}
use Rattle.why.proofs.Refused.{none_if_answered}
use Rattle.why.proofs.Picked.{first_ready, unready_is_not_named, nobody_without_core, strict_among_named, somebody, goes_ahead, behind_is_not_named}

module _ (s : State) (k row : ℕ) where
  module _ (is_row : row < length (rows_in s)) where
    -- the lowest that is named is the one that is computed
    pub lowest_is_found : is_ready s row (time_of s) ≡ true → (k ≡ 0 → ⊥) → (by : ℕ) →
        (LowestPicked (names (picks_in s k)) (goes_before s) (length (rows_in s)) by → by ≡ lowest_in s k)
        × (by ≡ lowest_in s k → LowestPicked (names (picks_in s k)) (goes_before s) (length (rows_in s)) by)
    lowest_is_found ready z by = one_lowest (names (picks_in s k)) (goes_before s) (length (rows_in s)) by (strict_among_named s k) (somebody s k row is_row ready (omega (arith, z)))

    -- What is computed is true,
    pub computed_holds : Holds s k row (Ok (reason_of s k row))
    computed_holds = go (names (picks_in s k) row) (is_ready s row (time_of s)) (ℕ_discrete k 0) refl refl
      where
        go : (a b : Bool) → Dec (k ≡ 0) → names (picks_in s k) row ≡ a → is_ready s row (time_of s) ≡ b → Holds s k row (Ok (reason_of s k row))
        go true b z e f = rw (when_named s k row e) (record { named = e })
        go false false z e f = rw (when_unready s k row e f) (record { not_now = f; first = first_ready s row f })
        go false true (yes z) e f = rw (when_no_core s k row e f z) (record { row_is_ready = f; none = z })
        go false true (no z) e f =
            let low = (lowest_is_found f z (lowest_in s k)).1 refl in
            let ahead = goes_ahead s k row is_row f e (lowest_in s k) low.row_is_picked in
            rw (when_passed_over s k row e f z)
            (record { row_is_ready = f; lowest = low; ahead = ahead; by_rule = sym (one_rule (rank_in s (lowest_in s k)) (rank_in s row) ahead) })

    -- and whatever is true is what is computed.
    pub holds_computed : (other : Answer) → Holds s k row other → other ≡ Ok (reason_of s k row)
    holds_computed (Ok Picked) h = ap Ok (sym (when_named s k row h.named))
    holds_computed (Ok (NotReady until)) h =
        ap (λ t. Ok (NotReady (record { 0 = t }))) (first_is_one (is_ready s row) (time_of s) until.0 (ready_from_in s row) h.first (first_ready s row h.not_now))
        ∙ ap Ok (sym (when_unready s k row (unready_is_not_named s k row is_row h.not_now) h.not_now))
    holds_computed (Ok NoCoreFree) h = ap Ok (sym (when_no_core s k row (nobody_without_core s k h.none row) h.row_is_ready h.none))
    holds_computed (Ok (PassedOver by rule)) h =
        let some_core : k ≡ 0 → ⊥ = λ z. true≢false (sym h.lowest.row_is_picked ∙ nobody_without_core s k z by) in
        let same : by ≡ lowest_in s k = (lowest_is_found h.row_is_ready some_core by).0 h.lowest in
        let ruled : rule ≡ rule_for (rank_in s by) (rank_in s row) = h.by_rule ∙ one_rule (rank_in s by) (rank_in s row) h.ahead in
        ap (λ r. Ok (PassedOver by r)) ruled
        ∙ (ap (λ i. Ok (PassedOver i (rule_for (rank_in s i) (rank_in s row)))) same
        ∙ ap Ok (sym (when_passed_over s k row (behind_is_not_named s k row by h.lowest h.ahead) h.row_is_ready some_core)))
    holds_computed (Err refusal) h = absurd h

-- The last test has passed: the number is that of a row.
pub row_if_none : (s : State) (k row : ℕ) → NoneFound (why_tests s k row) → row < length (rows_in s)
row_if_none s k row (NoneFound.later a (NoneFound.later b (NoneFound.later c (NoneFound.later d (NoneFound.later e f))))) =
    ltb-true row (length (rows_in s)) (not-false (ltb row (length (rows_in s))) e)

pub reason_is_true_and_only : ReasonIsTrueAndOnly
unfolding why_of
reason_is_true_and_only s k row answered =
    let none = none_if_answered s k row answered in
    let is_row = row_if_none s k row none in
    let given : why_of s k row ≡ Ok (reason_of s k row) = none_says_otherwise (Ok (reason_of s k row)) none in
    record {
      true_one = rw given (computed_holds s k row is_row);
      only_one = λ other h. holds_computed s k row is_row other h ∙ sym given;
    }
