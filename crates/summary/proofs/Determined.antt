-- What the promise of `quanta_before` determines. Assumes nothing.
use Prim.Native.Nat.{ℕ}
use mathlib.Core.Path.{◌≡◌, refl}
use mathlib.Core.List.{List}
use mathlib.Core.Bool.{cond}
use lib.Dec.{eqb}
use Rattle.facts.specs.Determined.{Determined, TellsApart}
use Rattle.facts.proofs.Determined.{by_meaning, by_way_back}
use Rattle.std.specs.Prelude.{Result, Ok, Err}
use Rattle.counts.specs.declared.Quanta.{Quanta}
use Rattle.summary.specs.declared.Unanswered.{Unanswered}
use Rattle.summary.specs.declared.Unanswered.TheVariants.{NoRow, PastCount, NoEntry}
use Rattle.summary.specs.Counted.{reply_of}
use Rattle.summary.specs.Question.{Reply, reply_to}

-- the answer of a number and a count
counted_for : Reply → Result Quanta Unanswered
counted_for x =
    cond (eqb x.number 36) (Err NoRow)
    (cond (eqb x.number 38) (Err PastCount)
    (cond (eqb x.number 39) (Err NoEntry) (Ok (record { 0 = x.quanta }))))

back : (a : Result Quanta Unanswered) → counted_for (reply_of a) ≡ a
unfolding counted_for
back (Ok quanta) = refl
back (Err NoRow) = refl
back (Err PastCount) = refl
back (Err NoEntry) = refl

-- Number and count tell the answers apart,
pub replies_tell_apart : TellsApart reply_of
replies_tell_apart = by_way_back counted_for back

-- so the promise determines the answer.
pub question_is_determined : (n : ℕ) (trace summary : List ℕ) (row time : ℕ) →
    Determined {R = Result Quanta Unanswered} (λ r. reply_of r ≡ reply_to n trace summary row time)
question_is_determined n trace summary row time = by_meaning replies_tell_apart
