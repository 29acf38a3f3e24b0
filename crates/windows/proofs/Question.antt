-- The window question's answer: its meaning tells all answers apart, and what is taken or refused. Assumes nothing.
use Rattle.std.specs.Prelude.{Option, Some, None}
use mathlib.Core.Path.{◌≡◌, refl, sym, ap, ◌∙◌}
use mathlib.Core.Bool.{Bool, true, false, not, ◌&&◌, ◌||◌, true≢false}
use Prim.Native.Nat.{ℕ, ◌≤◌, ◌<◌}
use native.Mathlib.Nat.{pos_of_ne-zero}
use native.Mathlib.Decide.{dec_le}
use native.Mathlib.Omega.{arith}
use borrow.Author.Tests.{le-ltb, le-leb, ltb-false, leb-true, eqb-false, ne_eqb, not-true, not-false}
use lib.Dec.{ltb, leb, eqb}
use Rattle.facts.proofs.Tests.{both, neither_holds}
use Rattle.facts.specs.Determined.{Determined, TellsApart}
use Rattle.facts.proofs.Determined.{by_meaning}
use Rattle.windows.specs.declared.times.Window.{Window}
use Rattle.windows.specs.Windows.{start, deadline, bit}
use Rattle.windows.specs.Group.{group_deadline}
use Rattle.windows.specs.Question.{reply_of, last_subtask, refused, window_reply, Unfit, IsAnswered, WindowsAreAnswered}

-- Two answers with one reply are one answer.
pub replies_tell_apart : TellsApart reply_of
replies_tell_apart (Some w) (Some v) q =
    λ k. Some (record { start = record { 0 = (q k).r }; deadline = record { 0 = (q k).d }; bit = (q k).b; group = record { 0 = (q k).D } })
replies_tell_apart (Some w) None q = let z : ◌≡◌ {A = ℕ} 0 50 = ap (λ x. x.number) q in absurd (omega arith)
replies_tell_apart None (Some w) q = let z : ◌≡◌ {A = ℕ} 50 0 = ap (λ x. x.number) q in absurd (omega arith)
replies_tell_apart None None q = refl

-- The promise of `window` determines its answer.
pub window_is_determined : (e p f i : ℕ) → Determined {R = Option Window} (λ r. reply_of r ≡ window_reply e p f i)
window_is_determined e p f i = by_meaning replies_tell_apart

-- for the functions

-- What an accepted question says of its numbers.
pub not_refused : (e p i : ℕ) → refused e p i ≡ false → (0 < e) × (e ≤ p) × (1 ≤ i) × (i ≤ last_subtask)
not_refused e p i h =
    let number = neither_holds (eqb e 0 || ltb p e) (not (leb 1 i && leb i last_subtask)) h in
    let row = neither_holds (eqb e 0) (ltb p e) number.0 in
    let range = both (leb 1 i) (leb i last_subtask) (not-false _ number.1) in
    (pos_of_ne-zero (eqb-false e 0 row.0), ltb-false p e row.1, leb-true 1 i range.0, leb-true i last_subtask range.1)

-- A refused question gets the refused reply.
pub is_refused : (e p f i : ℕ) → false ≡ not (refused e p i) → window_reply e p f i ≡ reply_of None
unfolding window_reply
is_refused e p f i h = rw (not-false _ (sym h)) refl

-- One that is not refused gets the window:
accepted_is_answered : (e p f i : ℕ) → refused e p i ≡ false →
    window_reply e p f i ≡ record { number = 0; r = start e p f i; d = deadline e p f i; b = bit e p i; D = group_deadline e p f i }
unfolding window_reply
accepted_is_answered e p f i h = rw h

-- what the code found of the subtask (e', p', o, i') that it makes of the question.
pub is_taken : (e p f i : ℕ) {e' p' o i' : ℕ} → true ≡ not (refused e p i) → (e' ≡ e) × (p' ≡ p) × (o ≡ f) × (i' ≡ i) → {w : Window} →
    w.start.0 ≡ start e' p' o i' → w.deadline.0 ≡ deadline e' p' o i' → w.bit ≡ bit e' p' i' → w.group.0 ≡ group_deadline e' p' o i' →
    reply_of (Some w) ≡ window_reply e p f i
is_taken e p f i y same {w} r d b D =
    let start_is : start e p f i ≡ w.start.0 = cc in
    let deadline_is : deadline e p f i ≡ w.deadline.0 = cc in
    let bit_is : bit e p i ≡ w.bit = cc in
    let group_is : group_deadline e p f i ≡ w.group.0 = cc in
    rw (accepted_is_answered e p f i (not-true _ (sym y)), start_is, deadline_is, bit_is, group_is) refl

-- What a refused question says of its numbers.
unfit_if_refused : (e p i : ℕ) → refused e p i ≡ true → Unfit e p i
unfit_if_refused e p i h = go (dec_le 1 e) (dec_le e p) (dec_le 1 i) (dec_le i last_subtask)
  where
    go : Dec (1 ≤ e) → Dec (e ≤ p) → Dec (1 ≤ i) → Dec (i ≤ last_subtask) → Unfit e p i
    go (no n) weight first last = Unfit.no_cost (omega arith)
    go (yes y) (no n) first last = Unfit.above_period (omega arith)
    go (yes y) (yes w) (no n) last = Unfit.before_first (omega arith)
    go (yes y) (yes w) (yes a) (no n) = Unfit.past_last (omega arith)
    go (yes y) (yes w) (yes a) (yes b) =
        let fit : refused e p i ≡ false = simp (ne_eqb e 0 (λ z. omega arith), le-ltb p e w, le-leb 1 i a, le-leb i last_subtask b) in
        absurd (true≢false (sym h ∙ fit))

-- A question within the limits is fit,
pub is_fit : (e p i : ℕ) → 0 < e → e ≤ p → 1 ≤ i → i ≤ last_subtask → Unfit e p i → ⊥
is_fit e p i cost weight first last (Unfit.no_cost z) = omega arith
is_fit e p i cost weight first last (Unfit.above_period z) = omega arith
is_fit e p i cost weight first last (Unfit.before_first z) = omega arith
is_fit e p i cost weight first last (Unfit.past_last z) = omega arith

-- and a fit one is within the limits.
pub fit_says : (e p i : ℕ) → (Unfit e p i → ⊥) → (0 < e) × (e ≤ p) × (1 ≤ i) × (i ≤ last_subtask)
fit_says e p i fit = go (refused e p i) refl
  where
    go : (x : Bool) → refused e p i ≡ x → (0 < e) × (e ≤ p) × (1 ≤ i) × (i ≤ last_subtask)
    go true h = absurd (fit (unfit_if_refused e p i h))
    go false h = not_refused e p i h

-- A question is refused exactly if it is unfit.
pub windows_are_answered : WindowsAreAnswered
unfolding window_reply
windows_are_answered e p f i = go (refused e p i) refl
  where
    go : (x : Bool) → refused e p i ≡ x → IsAnswered e p f i
    go true h = record { if_unfit = λ u. rw h; if_fit = λ n. absurd (n (unfit_if_refused e p i h)) }
    go false h =
        let range = not_refused e p i h in
        record { if_unfit = λ u. absurd (is_fit e p i range.0 range.1 range.2 range.3 u); if_fit = λ n. accepted_is_answered e p f i h }
