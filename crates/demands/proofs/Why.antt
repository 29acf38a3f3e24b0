-- Why a row waits. Assumes nothing.
use Rattle.std.proofs.Common.{Ok}
use Prim.Native.Nat.{ℕ, ◌≤◌, ◌<◌}
use mathlib.Core.Path.{◌≡◌, refl, sym, ap, subst, ◌∙◌}
use mathlib.Core.Bool.{Bool, true, false, not, true≢false}
use native.Mathlib.Decide.{dec_lt}
use native.Mathlib.Omega.{arith}
use borrow.Author.Tests.{lt-ltb, le-ltb, eq-eqb, ne_eqb}
use lib.ListN.{length}
use Rattle.facts.specs.Findings.{FirstFound, NoneFound}
use Rattle.counts.specs.Limits.{time_limit}
use Rattle.trace.specs.Records.{rows_at, names}
use Rattle.cores.specs.Sets.{size}
use Rattle.cores.proofs.Sets.{size_within}
use Rattle.dispatcher.specs.declared.State.{State}
use Rattle.dispatcher.specs.State.{rows_in, time_of}
use Rattle.dispatcher.specs.Broken.{broken}
use Rattle.dispatcher.specs.Slot.{picks_in, slot_of}
use Rattle.dispatcher.proofs.Kept.{goes, done_is_not_refused}
use Rattle.why.specs.Answer.{Answer}
use Rattle.why.specs.declared.Reason.TheVariants.{Picked}
use Rattle.why.specs.Reasons.{Holds}
use Rattle.why.specs.Answer.{number_of}
use Rattle.why.specs.Why.{reason_of, why_tests, why_of, TrueAndOnly}
use Rattle.why.proofs.Rules.{one_rule}
use Rattle.why.proofs.Lowest.{one_lowest}
use Rattle.why.proofs.Refused.{reason_is_0, why_numbers, refuses, gives_reason}
use Rattle.why.proofs.Why.{reason_is_true_and_only}
use Rattle.why.proofs.Alike.{past_has_no_part, memory_has_no_part}
use Rattle.demands.specs.One.{NotBroken}
use Rattle.demands.specs.Why.{WhyExactly, PickedAsTheSlotDoes, Why}
use Rattle.demands.proofs.Refusals.{broken_exactly, neither_is, both_are}
use Rattle.demands.proofs.Two.{picks_are_pd2s}

-- The causes are gone through in 02's order: each decides the number, or is not there.
module _ (s : State) (k row : ℕ) where
  abbrev number : ℕ
  number = number_of (why_of s k row)

  -- the number is that of the first cause
  says : {x : Answer} → FirstFound (why_tests s k row) x → number ≡ number_of x
  says first = sym (ap number_of (refuses s k row first))

  module _ (whole : broken s ≡ false) (runs : s.stopped ≡ false) (slot_left : time_of s < time_limit) where
    fits : NotBroken s
    fits = (broken_exactly s).0 whole

    module _ (there : k ≤ s.table.cores) where
      by_row : Dec (row < length (rows_in s)) → WhyExactly s k row number
      by_row (yes is_row) =
          let none =
          NoneFound.later whole
          (NoneFound.later runs
          (NoneFound.later (ne_eqb (time_of s) time_limit (λ e. omega (arith, e, slot_left)))
          (NoneFound.later (le-ltb s.table.cores k there) (NoneFound.later (ap not (lt-ltb row (length (rows_in s)) is_row)) NoneFound.end)))) in
          let said : number ≡ 0 = sym (ap number_of (gives_reason s k row none)) ∙ reason_is_0 (reason_of s k row) in
          record {
            is_30 = neither_is (λ e. omega (arith, said, e)) (λ n. n fits);
            is_31 = neither_is (λ e. omega (arith, said, e)) (λ h. true≢false (sym h.1 ∙ runs));
            is_32 = neither_is (λ e. omega (arith, said, e)) (λ h. omega (arith, h.2, slot_left));
            is_33 = neither_is (λ e. omega (arith, said, e)) (λ h. omega (arith, h.3, there));
            is_36 = neither_is (λ e. omega (arith, said, e)) (λ h. omega (arith, h.4, is_row));
          }
      by_row (no past) =
          let none_there : length (rows_in s) ≤ row = omega arith in
          let said : number ≡ 36 =
          says
          (FirstFound.later whole
          (FirstFound.later runs
          (FirstFound.later (ne_eqb (time_of s) time_limit (λ e. omega (arith, e, slot_left)))
          (FirstFound.later (le-ltb s.table.cores k there) (FirstFound.here (ap not (le-ltb row (length (rows_in s)) none_there))))))) in
          record {
            is_30 = neither_is (λ e. omega (arith, said, e)) (λ n. n fits);
            is_31 = neither_is (λ e. omega (arith, said, e)) (λ h. true≢false (sym h.1 ∙ runs));
            is_32 = neither_is (λ e. omega (arith, said, e)) (λ h. omega (arith, h.2, slot_left));
            is_33 = neither_is (λ e. omega (arith, said, e)) (λ h. omega (arith, h.3, there));
            is_36 = both_are said (fits, runs, slot_left, there, none_there);
          }

    by_cores : Dec (s.table.cores < k) → WhyExactly s k row number
    by_cores (no there) = by_row (omega arith) (dec_lt row (length (rows_in s)))
    by_cores (yes above) =
        let said : number ≡ 33 =
        says
        (FirstFound.later whole
        (FirstFound.later runs (FirstFound.later (ne_eqb (time_of s) time_limit (λ e. omega (arith, e, slot_left))) (FirstFound.here (lt-ltb s.table.cores k above))))) in
        record {
          is_30 = neither_is (λ e. omega (arith, said, e)) (λ n. n fits);
          is_31 = neither_is (λ e. omega (arith, said, e)) (λ h. true≢false (sym h.1 ∙ runs));
          is_32 = neither_is (λ e. omega (arith, said, e)) (λ h. omega (arith, h.2, slot_left));
          is_33 = both_are said (fits, runs, slot_left, above);
          is_36 = neither_is (λ e. omega (arith, said, e)) (λ h. omega (arith, h.3, above));
        }

  by_time : broken s ≡ false → s.stopped ≡ false → Dec (time_of s < time_limit) → WhyExactly s k row number
  by_time whole runs (yes slot_left) = by_cores whole runs slot_left (dec_lt s.table.cores k)
  by_time whole runs (no at) =
      let fit = (broken_exactly s).0 whole in
      let limit : time_of s ≡ time_limit = omega (arith, fit.time) in
      let said : number ≡ 32 = says (FirstFound.later whole (FirstFound.later runs (FirstFound.here (eq-eqb (time_of s) time_limit limit)))) in
      record {
        is_30 = neither_is (λ e. omega (arith, said, e)) (λ n. n fit);
        is_31 = neither_is (λ e. omega (arith, said, e)) (λ h. true≢false (sym h.1 ∙ runs));
        is_32 = both_are said (fit, runs, limit);
        is_33 = neither_is (λ e. omega (arith, said, e)) (λ h. at h.2);
        is_36 = neither_is (λ e. omega (arith, said, e)) (λ h. at h.2);
      }

  by_mark : broken s ≡ false → (stopped : Bool) → s.stopped ≡ stopped → WhyExactly s k row number
  by_mark whole false runs = by_time whole runs (dec_lt (time_of s) time_limit)
  by_mark whole true stopped =
      let fit = (broken_exactly s).0 whole in
      let said : number ≡ 31 = says (FirstFound.later whole (FirstFound.here stopped)) in
      record {
        is_30 = neither_is (λ e. omega (arith, said, e)) (λ n. n fit);
        is_31 = both_are said (fit, stopped);
        is_32 = neither_is (λ e. omega (arith, said, e)) (λ h. true≢false (sym stopped ∙ h.1));
        is_33 = neither_is (λ e. omega (arith, said, e)) (λ h. true≢false (sym stopped ∙ h.1));
        is_36 = neither_is (λ e. omega (arith, said, e)) (λ h. true≢false (sym stopped ∙ h.1));
      }

  why_exactly : WhyExactly s k row number
  why_exactly = go (broken s) refl
    where
      go : (b : Bool) → broken s ≡ b → WhyExactly s k row number
      go false whole = by_mark whole s.stopped refl
      go true is_broken =
          let said : number ≡ 30 = says (FirstFound.here is_broken) in
          let unfit : NotBroken s → ⊥ = λ n. true≢false (sym is_broken ∙ (broken_exactly s).1 n) in
          record {
            is_30 = both_are said unfit;
            is_31 = neither_is (λ e. omega (arith, said, e)) (λ h. unfit h.0);
            is_32 = neither_is (λ e. omega (arith, said, e)) (λ h. unfit h.0);
            is_33 = neither_is (λ e. omega (arith, said, e)) (λ h. unfit h.0);
            is_36 = neither_is (λ e. omega (arith, said, e)) (λ h. unfit h.0);
          }

-- A slot that is done is not refused, so that the question is not either; and the record names the rows that are picked.
as_the_slot : PickedAsTheSlotDoes
as_the_slot s free buffer place row done is_row = (
  λ picked. ap (λ rows. names rows row) written ∙ (subst (Holds s (size free) row) picked so.true_one).named,
  λ named. sym (so.only_one (Ok Picked) (record { named = sym (ap (λ rows. names rows row) written) ∙ named })),
)
  where
    written : rows_at (slot_of s free buffer place).bytes place ≡ picks_in s (size free)
    written = (picks_are_pd2s s free buffer place done).rows

    none : NoneFound (why_tests s (size free) row)
    none =
        let can = goes s free buffer place (done_is_not_refused s free buffer place done) in
        NoneFound.later can.whole
        (NoneFound.later can.runs
        (NoneFound.later (ne_eqb (time_of s) time_limit (λ e. omega (arith, e, can.time)))
        (NoneFound.later (le-ltb s.table.cores (size free) (size_within s.table.cores free can.there)) (NoneFound.later (ap not (lt-ltb row (length (rows_in s)) is_row)) NoneFound.end))))

    so : TrueAndOnly s (size free) row (why_of s (size free) row)
    so = reason_is_true_and_only s (size free) row (sym (ap number_of (gives_reason s (size free) row none)) ∙ reason_is_0 (reason_of s (size free) row))

pub why : Why
why =
    record {
      refused = why_exactly;
      numbers = why_numbers;
      reason = reason_is_true_and_only;
      one_rule = one_rule;
      one_lowest = one_lowest;
      as_the_slot = as_the_slot;
      ignored = past_has_no_part;
      memory = memory_has_no_part;
    }
