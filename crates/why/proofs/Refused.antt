-- Each refusal is answered exactly when its cause is the first met. Assumes nothing.
use Prim.Native.Nat.{ℕ, ◌≤◌}
use mathlib.Core.Path.{◌≡◌, refl, sym, ap, ◌∙◌}
use mathlib.Core.Bool.{not}
use mathlib.Core.Logic.{◌⊎◌, inl, inr, ⊎_elim}
use native.Mathlib.Omega.{arith}
use lib.Dec.{ltb, eqb}
use Rattle.std.specs.Prelude.{Ok, Err}
use Rattle.facts.specs.Findings.{◌says◌, FirstFound, NoneFound}
use Rattle.facts.proofs.Findings.{AllSay, none_says_otherwise, first_is_said, said_exactly, none_or_first, first_is_such, otherwise_or_such}
use Rattle.counts.specs.Limits.{time_limit}
use Rattle.dispatcher.specs.declared.State.{State}
use Rattle.dispatcher.specs.State.{is_row, time_of}
use Rattle.dispatcher.specs.Broken.{broken}
use Rattle.why.specs.declared.Reason.{Reason}
use Rattle.why.specs.declared.Reason.TheVariants.{Picked, NotReady, NoCoreFree, PassedOver}
use Rattle.why.specs.declared.Refusal.TheVariants.{Broken, Stopped, AtLimit, TooManyCores, NoSuchRow}
use Rattle.why.specs.Answer.{Answer, number_of}
use Rattle.why.specs.Why.{reason_of, why_tests, why_of, RefusedExactly, WhyNumbers}

-- A reason has no number of its own.
pub reason_is_0 : (reason : Reason) → number_of (Ok reason) ≡ 0
reason_is_0 Picked = refl
reason_is_0 (NotReady until) = refl
reason_is_0 NoCoreFree = refl
reason_is_0 (PassedOver by rule) = refl

-- A refusal has one of its numbers,
abbrev IsRefusal : Answer → Type 0
IsRefusal x = ((30 ≤ number_of x) × (number_of x ≤ 33)) ⊎ (number_of x ≡ 36)

all_refuse : (s : State) (k row : ℕ) → AllSay IsRefusal (why_tests s k row)
all_refuse s k row =
    AllSay.next {f = broken s says Err Broken} (inl (omega arith))
    (AllSay.next {f = s.stopped says Err Stopped} (inl (omega arith))
    (AllSay.next {f = eqb (time_of s) time_limit says Err AtLimit} (inl (omega arith))
    (AllSay.next {f = ltb s.table.cores k says Err TooManyCores} (inl (omega arith)) (AllSay.next {f = not (is_row s row) says Err NoSuchRow} (inr refl) AllSay.end))))

not_0 : (x : Answer) → IsRefusal x → number_of x ≡ 0 → ⊥
not_0 x is e = ⊎_elim (λ l. omega (arith, l, e)) (λ l. omega (arith, l, e)) is

pub why_numbers : WhyNumbers
unfolding why_of
why_numbers s k row = ⊎_elim (λ e. inl (ap number_of e ∙ reason_is_0 (reason_of s k row))) inr (otherwise_or_such (Ok (reason_of s k row)) (all_refuse s k row))

-- so that nothing was found where the number is 0.
pub none_if_answered : (s : State) (k row : ℕ) → number_of (why_of s k row) ≡ 0 → NoneFound (why_tests s k row)
unfolding why_of
none_if_answered s k row e =
    ⊎_elim (λ none. none)
    (λ one. absurd (not_0 one.0 (first_is_such (all_refuse s k row) one.1) (sym (ap number_of (first_is_said (Ok (reason_of s k row)) one.1)) ∙ e)))
    (none_or_first (why_tests s k row))

pub refused_exactly : RefusedExactly
unfolding why_of
refused_exactly s k row x h = said_exactly (Ok (reason_of s k row)) (why_tests s k row) (λ e. h (ap number_of e ∙ reason_is_0 (reason_of s k row)))

-- for the functions

module _ (s : State) (k row : ℕ) where
  -- What the first cause says is answered,
  pub refuses : {x : Answer} → FirstFound (why_tests s k row) x → x ≡ why_of s k row
  unfolding why_of
  refuses first = sym (first_is_said (Ok (reason_of s k row)) first)

  -- and the reason where there is none.
  pub gives_reason : NoneFound (why_tests s k row) → Ok (reason_of s k row) ≡ why_of s k row
  unfolding why_of
  gives_reason none = sym (none_says_otherwise (Ok (reason_of s k row)) none)
