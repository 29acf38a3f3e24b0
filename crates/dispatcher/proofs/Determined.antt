-- The promises determine what they speak of. Assumes nothing.
use Prim.Native.Nat.{ℕ}
use mathlib.Core.Path.{◌≡◌, refl, sym, ap₂, ◌∙◌}
use mathlib.Core.List.{List}
use mathlib.Core.Bool.{Bool, cond}
use lib.Dec.{eqb}
use Rattle.facts.specs.Determined.{Determined, TellsApart}
use Rattle.facts.proofs.Determined.{by_meaning, by_value, by_way_back}
use Rattle.table.specs.declared.Table.{Table}
use Rattle.dispatcher.specs.declared.State.{State}
use Rattle.std.specs.Prelude.{Option, Some, None, Ok, Err}
use Rattle.dispatcher.specs.declared.Refusal.{Refusal}
use Rattle.dispatcher.specs.declared.Refusal.TheVariants.{Broken, Stopped, AtLimit, NoSuchCore, NoRoom}
use Rattle.dispatcher.specs.declared.Ran.TheVariants.{InTime, Late}
use Rattle.dispatcher.specs.declared.Told.{Told}
use Rattle.dispatcher.specs.declared.Outcome.{Outcome}
use Rattle.dispatcher.specs.State.{fresh_of}
use Rattle.trace.specs.Said.{Said}
use Rattle.dispatcher.specs.Answer.{Answer, number_of, said_of, said_by}
use Rattle.dispatcher.proofs.Refused.{Gives}

-- the refusal of a number,
refusal_for : ℕ → Refusal
refusal_for number =
    cond (eqb number 30) Broken
    (cond (eqb number 31) Stopped
    (cond (eqb number 32) AtLimit
    (cond (eqb number 35) NoSuchCore NoRoom)))

-- none at 0,
perhaps_for : ℕ → Option Refusal
perhaps_for number = cond (eqb number 0) None (Some (refusal_for number))

perhaps_back : (r : Option Refusal) → perhaps_for (number_of r) ≡ r
unfolding perhaps_for refusal_for
perhaps_back None = refl
perhaps_back (Some Broken) = refl
perhaps_back (Some Stopped) = refl
perhaps_back (Some AtLimit) = refl
perhaps_back (Some NoSuchCore) = refl
perhaps_back (Some NoRoom) = refl

-- and the answer of a number, row and time
answer_for : Said → Answer
answer_for x =
    cond (eqb x.number 0) (Ok InTime)
    (cond (eqb x.number 1) (Ok (Late x.row (record { 0 = x.time })))
    (Err (refusal_for x.number)))

back : (a : Answer) → answer_for (said_of a) ≡ a
unfolding answer_for refusal_for
back (Ok InTime) = refl
back (Ok (Late row time)) = refl
back (Err Broken) = refl
back (Err Stopped) = refl
back (Err AtLimit) = refl
back (Err NoSuchCore) = refl
back (Err NoRoom) = refl

-- Two refusals with one number are one refusal,
pub refusals_tell_apart : TellsApart number_of
refusals_tell_apart = by_way_back perhaps_for perhaps_back

-- and two answers with one number, row and time are one answer.
pub answers_tell_apart : TellsApart said_of
answers_tell_apart = by_way_back answer_for back

-- The promise of `Told::of` gives what is told, field by field.
pub told_is_determined : (a : Answer) → Determined {R = Told} (λ r. said_by r ≡ said_of a)
told_is_determined a x y p q =
    let same = p ∙ sym q in
    λ k. record { number = (same k).number; row = (same k).row; time = (same k).time }

-- The promise of `refusal` determines the refusal.
pub refusal_is_determined : {number : ℕ} → Determined {R = Option Refusal} (λ r. number_of r ≡ number)
refusal_is_determined = by_meaning refusals_tell_apart

-- The promise of `fresh` gives the state itself.
pub fresh_is_determined : (t : Table) → Determined {R = State} (λ r. r ≡ fresh_of t)
fresh_is_determined t = by_value

-- The promise of `slot` determines answer, cores, state and buffer.
pub slot_is_determined : (s : State) (free : List Bool) (buffer : List ℕ) (place : ℕ) → Determined {R = Outcome × List ℕ} (λ r. Gives s free buffer place r.0 r.1)
slot_is_determined s free buffer place a b p q =
    let answer = answers_tell_apart a.0.answer b.0.answer (p.0 ∙ sym q.0) in
    let placed = p.1.0 ∙ sym q.1.0 in
    let state = p.1.1.0 ∙ sym q.1.1.0 in
    ap₂ (λ outcome bytes. (outcome, bytes)) (λ k. record { answer = answer k; placed = placed k; state = state k }) (p.1.1.1 ∙ sym q.1.1.1)
