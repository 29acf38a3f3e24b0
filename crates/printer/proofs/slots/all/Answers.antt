use Rattle.std.proofs.Common.{◌≡◌, ℕ, ◌+◌, ◌-◌, ◌≤◌, suc, Bool, List, Ok, Err, length, refl, sym, ap, ◌∙◌, arith, rules, true, false, not}
use Rattle.std.specs.Result.{result_eq}
use Rattle.dispatcher.specs.Answer.{Answer, said_of}
use Rattle.dispatcher.specs.declared.Ran.TheVariants.{InTime, Late}
use Rattle.dispatcher.specs.contracts.RanPartialEq.TheImpl.{eq-value as ran_eq}
use Rattle.dispatcher.specs.contracts.RefusalPartialEq.TheImpl.{eq-value as refusal_eq}
use Rattle.table.specs.Limits.{row_limit}
use Rattle.trace.specs.Said.{Said}
use Rattle.cores.specs.Sets.{first_cores}
use Rattle.dispatcher.specs.declared.State.{State}
use Rattle.dispatcher.specs.State.{fresh_of}
use Rattle.dispatcher.specs.Slot.{slot_of}
use Rattle.printer.specs.Limits.{record_room, run_limit}
use Rattle.printer.specs.Input.{held_back}
use Rattle.printer.specs.Text.{record_buffer}
use Rattle.printer.proofs.Text.{Ran, is_tellable, slots_go_on, slots_end_early, slots_end, all_slots_written}
use Rattle.printer.proofs.slots.all.Goals as goal

-- what the slot of an iteration left, asked with the first k cores and an empty record
slot_ran : (start : State) {s : State} {k : ℕ} {free : List Bool} {told : Said} {after : State} {entry : List ℕ} →
    free ≡ first_cores k → told ≡ (slot_of s free record_buffer 0).said →
    after ≡ (slot_of s free record_buffer 0).state → entry ≡ (slot_of s free record_buffer 0).bytes → length entry ≡ record_room →
    s.table ≡ start.table → length start.table.rows ≡ row_limit → Ran s k told after entry
slot_ran start first told state bytes long table places =
    record {
      said = rw first at told;
      state = rw first at state;
      bytes = rw first at bytes;
      long = long;
      places = ap (λ t. length t.rows) table ∙ places;
    }

-- a slot told 0 is one that was run in time, and no other
in_time : (answer : Answer) → not (result_eq ran_eq.it refusal_eq.it answer (Ok InTime)) ≡ false → (said_of answer).number ≡ 0
in_time (Ok InTime) e = refl
in_time (Ok (Late row time)) e = absurd (search rules)
in_time (Err refusal) e = absurd (search rules)

not_in_time : (answer : Answer) → not (result_eq ran_eq.it refusal_eq.it answer (Ok InTime)) ≡ true → (said_of answer).number ≡ 0 → ⊥
not_in_time (Ok InTime) e n = search rules
not_in_time (Ok (Late row time)) e n = search rules
not_in_time (Err refusal) e n = search rules

pub one-requires : goal.one-requires
one-requires c =
    let few : c.slots-end.result ≤ run_limit = omega (arith, c.slots-end.ensures, c.requires.1) in
    let places : length c.args.table.rows ≡ 32 = search rules in
    let slot = c.slot-outcome.ensures in
    let so = c.loop.invariant.1 in
    let ran = slot_ran (fresh_of c.args.table) c.first.ensures slot.answer_value slot.state_value slot.buffer_after c.slot-outcome.auto.buffer so.table places in
    (omega (arith, few, so.count, so.near, c.requires.0), (omega (arith, few, so.count), is_tellable _ _ ran))

pub returns-then-ne-clause-wrote : goal.returns-then-ne-clause-wrote
returns-then-ne-clause-wrote c =
    let few : c.slots-end.result ≤ run_limit = omega (arith, c.slots-end.ensures, c.requires.1) in
    let places : length c.args.table.rows ≡ 32 = search rules in
    let slot = c.slot-outcome.ensures in
    let so = c.loop.invariant.1 in
    let ran = slot_ran (fresh_of c.args.table) c.first.ensures slot.answer_value slot.state_value slot.buffer_after c.slot-outcome.auto.buffer so.table places in
    let left : c.slots-end.result - c.loop.counter ≡ suc (c.slots-end.result - (c.loop.counter + 1)) = omega (arith, c.loop-test.true) in
    all_slots_written held_back c.args.input.now (fresh_of c.args.table) c.slots-end.ensures
    (slots_end_early _ _ _ _ _ so left c.free-k.ensures ran c.one.ensures.wrote (not_in_time _ (sym c.ne.ensures ∙ c.if-ne.true)) few)

pub loop-preserved : goal.loop-preserved
loop-preserved c =
    let places : length c.args.table.rows ≡ 32 = search rules in
    let slot = c.slot-outcome.ensures in
    let so = c.loop.invariant.1 in
    let ran = slot_ran (fresh_of c.args.table) c.first.ensures slot.answer_value slot.state_value slot.buffer_after c.slot-outcome.auto.buffer so.table places in
    let left : c.slots-end.result - c.loop.counter ≡ suc (c.slots-end.result - (c.loop.counter + 1)) = omega (arith, c.loop-test.true) in
    (c.one.ensures.same_buffer ∙ c.loop.invariant.0, slots_go_on _ _ _ _ _ so left c.free-k.ensures ran c.one.ensures.wrote (in_time _ (sym c.ne.ensures ∙ c.if-ne.false)))

pub returns-clause-wrote : goal.returns-clause-wrote
returns-clause-wrote c =
    let few : c.slots-end.result ≤ run_limit = omega (arith, c.slots-end.ensures, c.requires.1) in
    all_slots_written held_back c.args.input.now (fresh_of c.args.table) c.slots-end.ensures
    (slots_end _ _ _ _ _ c.loop.invariant.1 (omega (arith, c.loop-test.false)) few (rw c.time.ensures at c.end.ensures.wrote))
