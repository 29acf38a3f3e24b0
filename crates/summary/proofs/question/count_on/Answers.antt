use mathlib.Core.Path.{◌≡◌, sym, ap, ◌∙◌}
use Prim.Native.Nat.{ℕ, ◌+◌, ◌*◌}
use native.Mathlib.Omega.{arith}
use Rattle.fields.specs.Fields.{word}
use mathlib.Core.List.{List}
use Rattle.fields.proofs.Numbers.{fields_are_numbers}
use Rattle.std.specs.Prelude.{Option}
use Rattle.std.proofs.lemmas.Result.{err_from_is_err_and}
use Rattle.summary.specs.declared.Unanswered.TheVariants.{NoEntry}
use Rattle.summary.specs.Summary.{entry_size, place_said, quanta_said}
use Rattle.summary.specs.Question.{last_entry, since_entry}
use Rattle.summary.specs.Walking.{walk_of}
use Rattle.summary.proofs.Walking.{told_times, told_outside, exceeds, outside, answered}
use Rattle.summary.proofs.question.count_on.Goals as goal

-- what is read behind an entry's place is the row's quanta
quanta_read : (summary : List ℕ) (row t : ℕ) {q : ℕ} → q ≡ word summary (entry_size * last_entry t + 8 + 4 * row) → q ≡ quanta_said summary (last_entry t) row
quanta_read summary row t e = e ∙ fields_are_numbers.four summary (entry_size * last_entry t + 8 + 4 * row)

-- the walk begins at the entry's place
from_place : (trace summary : List ℕ) (row t : ℕ) {place : ℕ} {walk : Option ℕ} → place ≡ place_said summary (last_entry t) → walk ≡ walk_of trace place row (since_entry t) →
    walk ≡ walk_of trace (place_said summary (last_entry t)) row (since_entry t)
from_place trace summary row t at e = e ∙ ap (λ p. walk_of trace p row (since_entry t)) at

pub returns-then-entry-before : goal.returns-then-entry-before
returns-then-entry-before c =
    let a = c.args in
    exceeds _ _ _ _ c.if-summary-at.false (omega (arith, c.if-entry-before.true, quanta_read a.summary.now a.row a.time c.word-before.ensures))

pub overflow_add-before : goal.overflow_add-before
overflow_add-before c =
    let a = c.args in
    let told = told_times _ _ _ _ (from_place a.trace.now a.summary.now a.row a.time c.long-place.ensures (sym c.in_ok-times.ensures.ok_part ∙ c.times_named-walked.ensures)) in
    omega (arith, told.2, quanta_read a.summary.now a.row a.time c.word-before.ensures, c.if-entry-before.false, c.requires)

pub returns-in_err-times : goal.returns-in_err-times
returns-in_err-times c =
    let a = c.args in
    let p = err_from_is_err_and c.from_residual.result c.from_residual.ensures.1 in
    let given = c.in_err-times.ensures.value in
    let none = c.in_err-times.ensures.ok_part in
    let no_entry : c.in_err-times.field-0.0 ≡ NoEntry = let e = rw none at given in cc in
    rw (p.1, p.2, no_entry)
    (outside _ _ _ _ c.if-summary-at.false (omega (arith, c.if-entry-before.false, quanta_read a.summary.now a.row a.time c.word-before.ensures))
    (told_outside _ _ _ _ (from_place a.trace.now a.summary.now a.row a.time c.long-place.ensures (sym none ∙ c.times_named-walked.ensures))))

pub returns : goal.returns
returns c =
    let a = c.args in
    let said = quanta_read a.summary.now a.row a.time c.word-before.ensures in
    let told = told_times _ _ _ _ (from_place a.trace.now a.summary.now a.row a.time c.long-place.ensures (sym c.in_ok-times.ensures.ok_part ∙ c.times_named-walked.ensures)) in
    answered _ _ _ _ c.if-summary-at.false (omega (arith, c.if-entry-before.false, said)) told.0 (c.of.ensures ∙ omega (arith, told.1, said))
