use mathlib.Core.Path.{◌≡◌, sym, subst, ◌∙◌}
use mathlib.Core.List.{List}
use mathlib.Core.Bool.{true≢false}
use Prim.Native.Nat.{ℕ, ◌<◌}
use native.Mathlib.Omega.{arith}
use lib.ListN.{length, take}
use Rattle.facts.proofs.Some.{looking_begins, looks_on, some_if, none_at_all}
use Rattle.counts.specs.declared.Quanta.{Quanta}
use Rattle.counts.specs.Numbers.{numbers_of}
use Rattle.counts.proofs.Numbers.{number_at}
use Rattle.table.specs.declared.Row.{Row}
use Rattle.dispatcher.specs.State.{rows_in, quanta_in}
use Rattle.choice.specs.Choice.{favours_marked}
use Rattle.dispatcher.specs.Looking.{EndsAre}
use Rattle.dispatcher.specs.Usable.{Testable}
use Rattle.dispatcher.proofs.Found.{Found, told, said_outside, said_waits, said_ready, finding_begins, finds_fewer, waits_on, one_more_found, all_found, key_told, looks_at_quanta}
use Rattle.dispatcher.proofs.look.look.Goals as goal
use Rattle.dispatcher.proofs.look.look.Goals.{in-Waits, in-Ready}

-- what is known of row i, where i < n
module _ {rows : List Row} {quanta : List Quanta} {n t : ℕ} (can : Testable rows quanta n t) {i : ℕ} (l : i < length (take n rows)) where
  is_small : i < 32
  is_small = omega (arith, l, can.place.few, can.place.all)

  has_place : {ends keys : List ℕ} {found : ℕ} → Found (take n rows) (numbers_of quanta) ends t keys found i → found < 32
  has_place so = omega (arith, finds_fewer _ _ _ _ so is_small, is_small)

pub returns-then-has_too_many : goal.returns-then-has_too_many
returns-then-has_too_many c =
    rw c.if-state.true (sym (looks_at_quanta c.requires.0 c.requires.0.place.all c.has_too_many.ensures) ∙ c.if-has_too_many.true)

pub returns-else-has_too_many : goal.returns-else-has_too_many
returns-else-has_too_many c =
    rw c.if-state.true
    (sym (looks_at_quanta c.requires.0 c.requires.0.place.all c.has_too_many.ensures) ∙ c.if-has_too_many.false, λ runs. absurd (true≢false runs))

pub loop-i-init : goal.loop-i-init
loop-i-init c = (looking_begins _ _, finding_begins _ _ _ _ c.requires.1)

pub returns-in-Breaks : goal.returns-in-Breaks
returns-in-Breaks c =
    let many = c.count.ensures ∙ number_at c.args.state.now.quanta c.loop-i.i in
    let said = told (rows_in c.args.state.now) (quanta_in c.args.state.now) c.loop-i.i c.time-time.ensures many c.stand.ensures in
    rw c.if-state.false (some_if _ _ _ (omega arith) (said_outside said c.in-Breaks.is))

pub offset_bounds-ready-found : goal.offset_bounds-ready-found
offset_bounds-ready-found c = omega (arith, has_place c.requires.0 (omega arith) c.loop-i.invariant.1)

pub bounds-ready-found : goal.bounds-ready-found
bounds-ready-found c = has_place c.requires.0 (omega arith) c.loop-i.invariant.1

pub overflow_add-found : goal.overflow_add-found
overflow_add-found c = omega (arith, has_place c.requires.0 (omega arith) c.loop-i.invariant.1)

pub loop-i-preserved : goal.loop-i-preserved
loop-i-preserved c =
    let many = c.count.ensures ∙ number_at c.args.state.now.quanta c.loop-i.i in
    let said = told (rows_in c.args.state.now) (quanta_in c.args.state.now) c.loop-i.i c.time-time.ensures many c.stand.ensures in
    let inv = c.loop-i.invariant in
    let few : c.loop-i.i < 32 = is_small c.requires.0 (omega arith) in
    elim c.match-stand.branch [
      | in-Waits w ↦
          let is = said_waits said w.in-Waits.is in
          rw (w.ready-is, w.found-is) (looks_on _ _ inv.0 (omega arith) is.0, waits_on _ _ _ _ inv.1 few is.1)
      | in-Ready w ↦
          let is = said_ready said w.in-Ready.is in
          rw (w.ready-is, w.found-is) (looks_on _ _ inv.0 (omega arith) is.0, one_more_found _ _ _ _ inv.1 few is.1 (key_told (rows_in c.args.state.now) (quanta_in c.args.state.now) c.ends-ends.result c.loop-i.i many w.key.ensures))
    ]

pub returns : goal.returns
returns c =
    let all : c.loop-i.i ≡ length (take c.args.state.now.table.n c.args.state.now.table.rows) = omega (arith, c.loop-i-test.false, c.loop-i.invariant.0.within) in
    rw c.if-state.false
    (none_at_all _ _ c.loop-i.invariant.0 (omega (arith, all)), λ runs. all_found _ _ _ _ (subst (λ marks. EndsAre (favours_marked marks) c.ends-ends.result) c.favoured-favoured.ensures c.ends-ends.ensures) (omega (arith, c.requires.0.place.few, c.requires.0.place.all)) c.loop-i.invariant.1 all)
