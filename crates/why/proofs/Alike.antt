-- What stands past n and M, and what is remembered but for who is favoured, has no part in the answer. Assumes nothing.
use Prim.Native.Nat.{ℕ, ◌<◌}
use mathlib.Core.Path.{◌≡◌, refl, sym, ap, ap₂, subst, ◌∙◌}
use mathlib.Core.Bool.{Bool}
use mathlib.Core.Logic.{⊎_elim}
use lib.ListN.{length}
use Rattle.std.specs.Prelude.{Ok, Err}
use Rattle.facts.specs.Findings.{first_found}
use Rattle.facts.specs.First.{IsFirst}
use Rattle.facts.proofs.Findings.{first_is_said, none_or_first}
use Rattle.counts.specs.Numbers.{numbers_of}
use Rattle.table.specs.declared.Row.{Row}
use Rattle.table.specs.Value.{rows_of}
use Rattle.pd2.specs.Ready.{ready}
use Rattle.pd2.specs.Order.{rank_of, with_favour, Before, before}
use Rattle.pd2.specs.Choice.{row_at, quanta_at}
use Rattle.trace.specs.Records.{names}
use Rattle.dispatcher.specs.declared.State.{State}
use Rattle.dispatcher.specs.State.{rows_in, quanta_in, time_of}
use Rattle.dispatcher.specs.Slot.{favoured_in, picks_in}
use Rattle.dispatcher.proofs.Favoured.{same_favours}
use Rattle.dispatcher.proofs.Places.{quanta_alike, broken_alike, favour_alike, picks_alike}
use Rattle.why.specs.declared.Reason.TheVariants.{Picked, NotReady, NoCoreFree, PassedOver}
use Rattle.why.specs.Answer.{Answer}
use Rattle.why.specs.Rules.{rule_for}
use Rattle.why.specs.Lowest.{LowestPicked}
use Rattle.why.specs.Reasons.{is_ready, rank_in, goes_before, Holds}
use Rattle.why.specs.Why.{reason_of, why_tests, why_of, PastHasNoPart, MemoryHasNoPart}
use Rattle.why.proofs.Rules.{one_rule}
use Rattle.why.proofs.Why.{computed_holds, holds_computed, row_if_none}

-- What a reason hangs on: the rows, their quanta, who of them is favoured, the time, and the picks.
record SameRows (s s' : State) (k : ℕ) : Type 0 where
  rows : rows_in s ≡ rows_in s'
  quanta : (i : ℕ) → i < length (rows_in s) → quanta_at (quanta_in s) i ≡ quanta_at (quanta_in s') i
  favour : (row : ℕ) → favoured_in s row ≡ favoured_in s' row
  time : time_of s ≡ time_of s'
  picks : picks_in s k ≡ picks_in s' k

module _ (s s' : State) (k : ℕ) (same : SameRows s s' k) where
  -- Whatever is said of a row and its quanta is said in both states,
  said_alike : {A : Type 0} (f : Row → ℕ → A) (i : ℕ) → i < length (rows_in s) → f (row_at (rows_in s) i) (quanta_at (quanta_in s) i) ≡ f (row_at (rows_in s') i) (quanta_at (quanta_in s') i)
  said_alike f i l = ap₂ f (ap (λ rows. row_at rows i) same.rows) (same.quanta i l)

  ranks_alike : (i : ℕ) → i < length (rows_in s) → rank_in s i ≡ rank_in s' i
  ranks_alike i l = said_alike (λ row q. with_favour (rank_of row i q) (favoured_in s i)) i l ∙ ap (with_favour (rank_of (row_at (rows_in s') i) i (quanta_at (quanta_in s') i))) (same.favour i)

  named_alike : (i : ℕ) → names (picks_in s k) i ≡ names (picks_in s' k) i
  named_alike i = ap (λ rows. names rows i) same.picks

  is_row_too : {i : ℕ} → i < length (rows_in s) → i < length (rows_in s')
  is_row_too {i} = subst (λ rows. i < length rows) same.rows

  was_row : {i : ℕ} → i < length (rows_in s') → i < length (rows_in s)
  was_row {i} = subst (λ rows. i < length rows) (sym same.rows)

  lowest_alike : (by : ℕ) → LowestPicked (names (picks_in s k)) (goes_before s) (length (rows_in s)) by → LowestPicked (names (picks_in s' k)) (goes_before s') (length (rows_in s')) by
  lowest_alike by low =
      record {
        row_is_there = is_row_too low.row_is_there;
        row_is_picked = sym (named_alike by) ∙ low.row_is_picked;
        behind_all = λ other l p d.
            sym (ap₂ before (ranks_alike other (was_row l)) (ranks_alike by low.row_is_there)) ∙ low.behind_all other (was_row l) (named_alike other ∙ p) d;
      }

  module _ (row : ℕ) (row_is_there : row < length (rows_in s)) where
    ready_alike : (t : ℕ) → is_ready s row t ≡ is_ready s' row t
    ready_alike t = said_alike (λ r q. ready r q t) row row_is_there

    ready_now : {b : Bool} → is_ready s row (time_of s) ≡ b → is_ready s' row (time_of s') ≡ b
    ready_now e = ap (is_ready s' row) (sym same.time) ∙ (sym (ready_alike (time_of s)) ∙ e)

    first_alike : (slot : ℕ) → IsFirst (is_ready s row) (time_of s) slot → IsFirst (is_ready s' row) (time_of s') slot
    first_alike slot first =
        subst (λ t. IsFirst (is_ready s' row) t slot) same.time
        (record {
          from = first.from;
          fit = sym (ready_alike slot) ∙ first.fit;
          none_before = λ t a b. sym (ready_alike t) ∙ first.none_before t a b;
        })

    -- and each reason holds in both.
    holds_alike : (x : Answer) → Holds s k row x → Holds s' k row x
    holds_alike (Ok Picked) h = record { named = sym (named_alike row) ∙ h.named }
    holds_alike (Ok (NotReady until)) h = record { not_now = ready_now h.not_now; first = first_alike until.0 h.first }
    holds_alike (Ok NoCoreFree) h = record { row_is_ready = ready_now h.row_is_ready; none = h.none }
    holds_alike (Ok (PassedOver by rule)) h =
        let first = ranks_alike by h.lowest.row_is_there in
        let second = ranks_alike row row_is_there in
        let ahead : Before (rank_in s' by) (rank_in s' row) = subst (λ x. Before x (rank_in s' row)) first (subst (Before (rank_in s by)) second h.ahead) in
        record {
          row_is_ready = ready_now h.row_is_ready;
          lowest = lowest_alike by h.lowest;
          ahead = ahead;
          by_rule = h.by_rule ∙ (one_rule (rank_in s by) (rank_in s row) h.ahead ∙ (ap₂ rule_for first second ∙ sym (one_rule (rank_in s' by) (rank_in s' row) ahead)));
        }
    holds_alike (Err refusal) h = h

    reason_alike : ◌≡◌ {A = Answer} (Ok (reason_of s k row)) (Ok (reason_of s' k row))
    reason_alike = holds_computed s' k row (is_row_too row_is_there) (Ok (reason_of s k row)) (holds_alike (Ok (reason_of s k row)) (computed_holds s k row row_is_there))

  -- So states that meet the same causes get the same answer: where a cause is met nothing else is asked.
  why_alike : (row : ℕ) → why_tests s k row ≡ why_tests s' k row → why_of s k row ≡ why_of s' k row
  unfolding why_of
  why_alike row tests =
      ap (first_found (Ok (reason_of s k row))) tests
      ∙ ⊎_elim (λ none. ap (λ x. first_found x (why_tests s' k row)) (reason_alike row (was_row (row_if_none s' k row none))))
      (λ one. first_is_said (Ok (reason_of s k row)) one.1 ∙ sym (first_is_said (Ok (reason_of s' k row)) one.1))
      (none_or_first (why_tests s' k row))

pub past_has_no_part : PastHasNoPart
past_has_no_part s s' k row alike =
    why_alike s s' k
    (record { rows = alike.rows; quanta = quanta_alike s s' alike; favour = favour_alike s s' alike; time = alike.time; picks = picks_alike s s' alike k })
    row (rw (broken_alike s s' alike, alike.stopped, alike.time, alike.cores, alike.rows) refl)

pub memory_has_no_part : MemoryHasNoPart
memory_has_no_part s s' k row alike favour whole whole' =
    let rows : rows_in s ≡ rows_in s' = ap (λ t. rows_of t) alike.table in
    let quanta : quanta_in s ≡ quanta_in s' = ap numbers_of alike.quanta in
    let time : time_of s ≡ time_of s' = ap (λ t. t.0) alike.time in
    why_alike s s' k
    (record {
      rows = rows;
      quanta = λ i l. ap (λ q. quanta_at q i) quanta;
      favour = favour;
      time = time;
      picks = same_favours (rows_in s) (quanta_in s) (λ row _. favour row) (time_of s) k ∙ rw (rows, quanta, time) refl;
    })
    row (rw (whole, whole', alike.stopped, time, alike.table) refl)
