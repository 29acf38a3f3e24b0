use mathlib.Core.Path.{◌≡◌, refl, ap, ap₂, ◌∙◌}
use mathlib.Core.List.{List}
use mathlib.Core.Bool.{Bool}
use Prim.Native.Nat.{ℕ, ◌+◌, ◌-◌, ◌≤◌, min}
use native.Mathlib.Omega.{arith}
use borrow.Author.Rules.{rules}
use lib.ListN.{length, take, length-drop}
use borrow.Rule.Slice.PartMut.{put_mid, mid_of}
use Rattle.facts.proofs.Lent.{lent_from, comes_back}
use Rattle.trace.specs.Record.{marked, record_of, with_front, with_record}
use Rattle.cores.specs.Sets.{size}
use Rattle.cores.specs.Cores.{placed_for}
use Rattle.choice.specs.Keys.{key_in, FirstLeft}
use Rattle.dispatcher.specs.declared.State.{State}
use Rattle.dispatcher.specs.Slot.{picks_in, record_in, stepped}
use Rattle.dispatcher.specs.Looking.{rows_before}
use Rattle.dispatcher.specs.Tests.{Admitted, KeysReady}
use Rattle.dispatcher.proofs.Refused.{refused_gives, done_gives}
use Rattle.dispatcher.proofs.Whole.{is_whole, is_usable}
use Rattle.dispatcher.proofs.BrokenBy.{in_place}
use Rattle.dispatcher.proofs.Picking.{before_are_picks}
use Rattle.dispatcher.proofs.Ending.{keys_lent, left_lent, not_refused, left_out, as_many_picked, rows_inside, rows_stand, record_stands, can_step}
use Rattle.dispatcher.proofs.State.slot.Goals as goal

-- what is known once no test refuses: the keys that are lent on, the first that is left out, and how many rows are picked
module _ (s : State) (free : List Bool) (buffer : List ℕ) (place : ℕ) {keys : List ℕ} {found : ℕ} (so : Admitted s free (length buffer) place) (ready : KeysReady s keys found)
    (long : length keys ≡ 32) {k : ℕ} (all : k ≡ size free) {first : ℕ} (left : FirstLeft (key_in keys) (min found 32) (min k 8) first) {picked : ℕ} (is : picked ≡ min k found) where
  abbrev lent : List ℕ
  lent = take found keys

  lent_ready : KeysReady s lent (length lent)
  lent_ready = keys_lent keys (omega (arith, ready.few)) s ready

  lent_left : FirstLeft (key_in lent) (length lent) (size free) first
  lent_left = left_lent keys (omega (arith, ready.few)) (left_out s free buffer place so ready all left)

  many : picked ≡ length (picks_in s (size free))
  many = as_many_picked s free buffer place so ready all is

  counted : picked ≡ length (rows_before lent (length lent) first)
  counted = omega (arith, many, ap length (before_are_picks s (size free) lent_ready lent_left))

  stands : {part : List ℕ} → part ≡ with_front (mid_of place (length buffer - place) buffer) (record_of k (rows_before lent (length lent) first)) →
      put_mid place (length buffer - place) buffer part ≡ with_record buffer place (record_in s (size free))
  stands {part} is =
      comes_back buffer place part ∙ record_stands s free buffer place so lent_ready all lent_left (rw (lent_from buffer place) at is)

pub returns-in-Err : goal.returns-in-Err
returns-in-Err c =
    let a = c.args in
    let all_hold = refused_gives a.self a.free a.buffer.now a.place c.in-Err.refusal (c.in-Err.ensures a.buffer.now refl) c.refused.ensures refl in
    record { answer_value = all_hold.0; placed_value = all_hold.1.0; state_value = all_hold.1.1.0; buffer_after = all_hold.1.1.1 }

pub put_record-requires : goal.put_record-requires
put_record-requires c =
    let a = c.args in
    let so = c.in-Ok.ensures.0 in
    let ready = c.in-Ok.ensures.1 in
    let left = c.first_left-first.ensures in
    let is = c.picked_of-picked.ensures in
    let all = c.how_many-k.ensures.0 in (
      counted a.self a.free a.buffer.now a.place so ready c.cause.array_long all left is,
      rw (lent_from a.buffer.now a.place, length-drop a.place a.buffer.now) (omega (arith, so.room, many a.self a.free a.buffer.now a.place so ready c.cause.array_long all left is)),
    )

pub slice_bounds-rows-end : goal.slice_bounds-rows-end
slice_bounds-rows-end c =
    let a = c.args in
    let so = c.in-Ok.ensures.0 in
    let all = c.how_many-k.ensures.0 in
    let inside : a.place + 2 + c.picked_of-picked.result ≤ length (put_mid a.place (length a.buffer.now - a.place) a.buffer.now c.put_record.new.part) =
    rows_inside a.self a.free a.buffer.now a.place so
    (stands a.self a.free a.buffer.now a.place so c.in-Ok.ensures.1 c.cause.array_long all c.first_left-first.ensures c.picked_of-picked.ensures c.put_record.ensures)
    (many a.self a.free a.buffer.now a.place so c.in-Ok.ensures.1 c.cause.array_long all c.first_left-first.ensures c.picked_of-picked.ensures) in
    inside

pub one_on-requires : goal.one_on-requires
one_on-requires c =
    let a = c.args in
    let so = c.in-Ok.ensures.0 in
    let ready = c.in-Ok.ensures.1 in
    let long = c.cause.array_long in
    let left = c.first_left-first.ensures in
    let is = c.picked_of-picked.ensures in
    let all = c.how_many-k.ensures.0 in
    let w = is_whole _ so.whole in
    let usable = is_usable a.self w (in_place a.self w.table (search rules) (search rules)) in
    can_step a.self a.free a.buffer.now a.place so (lent_ready a.self a.free a.buffer.now a.place so ready long all left is) all (lent_left a.self a.free a.buffer.now a.place so ready long all left is)
    usable
    (rows_stand a.self a.free a.buffer.now a.place so (stands a.self a.free a.buffer.now a.place so ready long all left is c.put_record.ensures) (many a.self a.free a.buffer.now a.place so ready long all left is))
    c.lowest_late-late.result c.lowest_late-late.ensures

pub returns : goal.returns
returns c =
    let a = c.args in
    let so = c.in-Ok.ensures.0 in
    let ready = c.in-Ok.ensures.1 in
    let long = c.cause.array_long in
    let left = c.first_left-first.ensures in
    let is = c.picked_of-picked.ensures in
    let all = c.how_many-k.ensures.0 in
    let stands = stands a.self a.free a.buffer.now a.place so ready long all left is c.put_record.ensures in
    let rows = rows_stand a.self a.free a.buffer.now a.place so stands (many a.self a.free a.buffer.now a.place so ready long all left is) in
    let cores = c.place-placed.ensures ∙ ap (placed_for a.self.last (marked a.free)) rows in
    let all_hold = done_gives a.self a.free a.buffer.now a.place (not_refused a.self a.free a.buffer.now a.place so) (ap₂ (stepped a.self) rows cores) c.one_on.result c.one_on.ensures stands in
    record { answer_value = all_hold.0; placed_value = all_hold.1.0; state_value = all_hold.1.1.0; buffer_after = all_hold.1.1.1 }
