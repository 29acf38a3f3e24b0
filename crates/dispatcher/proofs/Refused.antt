-- A slot's tests, one after the other: what each refusal gives back, and what a slot that is done gives. Assumes nothing.
use Prim.Native.Nat.{ℕ, zero, suc, ◌+◌, ◌-◌, ◌≤◌, ◌<◌}
use mathlib.Core.Path.{◌≡◌, refl, sym, ap, ◌∙◌}
use mathlib.Core.List.{List, [], ◌∷◌}
use mathlib.Core.Bool.{Bool, true, false, cond}
use native.Mathlib.Decide.{dec_lt}
use native.Mathlib.Omega.{arith}
use borrow.Author.Tests.{lt-ltb, le-ltb, eq-eqb, ne_eqb}
use lib.Dec.{eqb}
use lib.ListN.{length}
use Rattle.facts.specs.Findings.{◌says◌, first_found, FirstFound, NoneFound}
use Rattle.facts.proofs.Findings.{none_says_otherwise, first_is_said, after_none}
use Rattle.counts.specs.Limits.{time_limit}
use Rattle.trace.specs.Record.{with_record}
use Rattle.trace.specs.Said.{bare}
use Rattle.cores.specs.Sets.{size, names_past}
use Rattle.cores.specs.Placement.{nobody}
use Rattle.dispatcher.specs.declared.State.{State}
use Rattle.std.specs.Prelude.{Result, Ok, Err}
use Rattle.std.specs.Result.{result_err}
use Rattle.dispatcher.specs.declared.Refusal.{Refusal}
use Rattle.dispatcher.specs.declared.Refusal.TheVariants.{Broken, Stopped, AtLimit, NoSuchCore, NoRoom}
use Rattle.dispatcher.specs.declared.Outcome.{Outcome}
use Rattle.dispatcher.specs.State.{time_of}
use Rattle.dispatcher.specs.Broken.{broken}
use Rattle.dispatcher.specs.Answer.{refusal_number, number_of, said_of, done_said}
use Rattle.dispatcher.specs.Slot.{picks_in, record_in, late_in, after_slot, stopped_by, lacks_room, refusal, slot_of}
use Rattle.dispatcher.specs.Tests.{CauseIs, Judged}

-- Whether a record of c rows has room: the two tests of 01 are one.
pub lacks_room_is : (buffer : List ℕ) (place c : ℕ) → length buffer < place + 2 + c → lacks_room buffer place c ≡ true
lacks_room_is buffer place c short = go (dec_lt (length buffer) place)
  where
    go : Dec (length buffer < place) → lacks_room buffer place c ≡ true
    go (yes past) = rw (lt-ltb (length buffer) place past) refl
    go (no inside) = rw (le-ltb (length buffer) place (omega arith), lt-ltb (length buffer - place) (2 + c) (omega arith)) refl

pub has_room_for : (buffer : List ℕ) (place c : ℕ) → place + 2 + c ≤ length buffer → lacks_room buffer place c ≡ false
has_room_for buffer place c long = rw (le-ltb (length buffer) place (omega arith), le-ltb (length buffer - place) (2 + c) (omega arith)) refl

-- Every refusal has a number.
has_number : (why : Refusal) → refusal_number why ≡ 0 → ⊥
has_number Broken none = omega arith
has_number Stopped none = omega arith
has_number AtLimit none = omega arith
has_number NoSuchCore none = omega arith
has_number NoRoom none = omega arith

module _ (s : State) (free : List Bool) (buffer : List ℕ) (place : ℕ) where
  -- What a slot gives back, as its promise has it.
  abbrev pub Gives : Outcome → List ℕ → Type 0
  Gives r bytes =
      (said_of r.answer ≡ (slot_of s free buffer place).said)
      × ((r.placed ≡ (slot_of s free buffer place).placed) × ((r.state ≡ (slot_of s free buffer place).state) × (bytes ≡ (slot_of s free buffer place).bytes)))

  -- A refusal gives its number, places nobody, and gives the state and the buffer as they came.
  pub refused_gives : (why : Refusal) → refusal_number why ≡ refusal s free buffer place →
      {r : Outcome} → r ≡ record { answer = Err why; placed = nobody; state = s } → {bytes : List ℕ} → bytes ≡ buffer → Gives r bytes
  unfolding slot_of
  refused_gives why is {r} out {bytes} same = go (refusal s free buffer place) refl
    where
      go : (number : ℕ) → refusal s free buffer place ≡ number → Gives r bytes
      go zero e = absurd (has_number why (is ∙ e))
      go (suc number) e = rw e (ap (λ r. said_of r.answer) out ∙ ap bare (is ∙ e), (ap (λ r. r.placed) out, (ap (λ r. r.state) out, same)))

  -- A slot that is not refused gives what the definition says.
  pub done_gives : refusal s free buffer place ≡ 0 → {after : State} → after ≡ after_slot s free → (r : Outcome) → Judged after r →
      {bytes : List ℕ} → bytes ≡ with_record buffer place (record_in s (size free)) → Gives r bytes
  unfolding slot_of
  done_gives e {after} same r judged bytes =
      rw e (
        judged.said ∙ ap (λ x. done_said (late_in x) (time_of x)) same,
        (judged.placed ∙ ap (λ x. x.last) same, (judged.state ∙ ap (λ x. stopped_by (late_in x) x) same, bytes)),
      )

  -- The order for a slot: 30, 31, 32, 35, 34.
  pub first_30 : broken s ≡ true → refusal s free buffer place ≡ 30
  unfolding refusal
  first_30 h = first_is_said 0 (FirstFound.here h)

  module _ (whole : broken s ≡ false) where
    pub first_31 : s.stopped ≡ true → refusal s free buffer place ≡ 31
    unfolding refusal
    first_31 h = first_is_said 0 (FirstFound.later whole (FirstFound.here h))

    module _ (runs : s.stopped ≡ false) where
      pub first_32 : time_of s ≡ time_limit → refusal s free buffer place ≡ 32
      unfolding refusal
      first_32 h = first_is_said 0 (FirstFound.later whole (FirstFound.later runs (FirstFound.here (eq-eqb (time_of s) time_limit h))))

      module _ (slot_left : time_of s < time_limit) where
        not_at_limit : eqb (time_of s) time_limit ≡ false
        not_at_limit = ne_eqb (time_of s) time_limit (λ e. omega arith)

        pub first_35 : names_past s.table.cores free ≡ true → refusal s free buffer place ≡ 35
        unfolding refusal
        first_35 h = first_is_said 0 (FirstFound.later whole (FirstFound.later runs (FirstFound.later not_at_limit (FirstFound.here h))))

        module _ (there : names_past s.table.cores free ≡ false) where
          pub by_room : {lacks : Bool} → lacks_room buffer place (length (picks_in s (size free))) ≡ lacks → refusal s free buffer place ≡ cond lacks 34 0
          unfolding refusal
          by_room {lacks} h =
              after_none 0 _ (NoneFound.later whole (NoneFound.later runs (NoneFound.later not_at_limit (NoneFound.later there NoneFound.end))))
              ∙ go lacks h
            where
              go : (b : Bool) → lacks_room buffer place (length (picks_in s (size free))) ≡ b →
                  first_found {A = ℕ} 0 ((lacks_room buffer place (length (picks_in s (size free))) says 34) ∷ []) ≡ cond b 34 0
              go true e = first_is_said 0 (FirstFound.here e)
              go false e = none_says_otherwise 0 (NoneFound.later e NoneFound.end)

          -- too few bytes remain behind the place.
          pub no_room : length buffer < place + 2 + length (picks_in s (size free)) → refusal s free buffer place ≡ 34
          no_room short = by_room {lacks = true} (lacks_room_is buffer place (length (picks_in s (size free))) short)

-- So what the tests find is the refusal, 0 where there is none.
pub cause_is_refusal : (s : State) (free : List Bool) (buffer : List ℕ) (place : ℕ) {len : ℕ} (keys : List ℕ) (answer : Result ℕ Refusal) → CauseIs s free len place answer keys →
    length buffer ≡ len → number_of (result_err answer) ≡ refusal s free buffer place
cause_is_refusal s free buffer place {len} keys (Ok found) so long =
    let m = so.0 in
    let room = has_room_for buffer place (length (picks_in s (size free))) (omega (arith, m.room, m.inside, long)) in
    sym (by_room s free buffer place m.whole m.runs m.slot_left m.there {lacks = false} room)
cause_is_refusal s free buffer place keys (Err why) so long = so buffer long
