-- A run that has the cores which its rows need goes on up to the time limit. Assumes nothing.
use Prim.Native.Nat.{ℕ, zero, suc, ◌+◌, ◌*◌, ◌≤◌, ◌<◌}
use mathlib.Core.Path.{◌≡◌, refl, ap, ◌∙◌}
use mathlib.Core.List.{List}
use native.Mathlib.Omega.{arith}
use lib.ListN.{length}
use Rattle.counts.specs.Limits.{time_limit}
use Rattle.table.specs.declared.Table.{Table}
use Rattle.table.specs.Value.{fault_of}
use Rattle.table.proofs.Taken.{sizes_are_within}
use Rattle.trace.specs.Said.{bare}
use Rattle.trace.proofs.Agree.{still_as_long}
use Rattle.cores.specs.Sets.{size}
use Rattle.cores.proofs.Sets.{size_within}
use Rattle.cores.proofs.Past.{there_exactly}
use Rattle.dispatcher.specs.declared.State.{State}
use Rattle.dispatcher.specs.State.{time_of}
use Rattle.dispatcher.specs.Slot.{picks_in, slot_of}
use Rattle.dispatcher.specs.Run.{Step, step_of, record_by, Run, run}
use Rattle.dispatcher.proofs.Placing.{picks_are_few}
use Rattle.dispatcher.proofs.Kept.{goes, done_is_not_refused, done_makes_the_step}
use Rattle.dispatcher.proofs.RunKept.{next_run, place_behind}
use Rattle.demands.specs.NeverLate.{WithCores, NeverLateWith, HasOwnCores}

module _ (table : Table) (c : ℕ) (sound : fault_of table ≡ 0) (never_late : NeverLateWith table c) where
  -- What a step leads to that is done: time is one higher, and the record has at most ten bytes.
  record Done (s : State) (b : List ℕ) (place : ℕ) (x : Step) : Type 0 where
    said : (step_of s x b place).said ≡ bare 0
    time : time_of (step_of s x b place).state ≡ time_of s + 1
    from : WithCores table c (step_of s x b place).state
    long : length (step_of s x b place).bytes ≡ length b
    short : length (record_by s x) ≤ 10

  -- One with its cores and with ten bytes is done.
  is_done : (s : State) (b : List ℕ) (place : ℕ) (x : Step) → WithCores table c s → HasOwnCores table c x → time_of s < time_limit → place + 10 ≤ length b → Done s b place x
  is_done s b place (Step.slot free) from own left room =
      let said = never_late.always_0 s from free b place own.0 own.1 left room in
      let done : (slot_of s free b place).said.number < 2 = omega (arith, ap (λ x. x.number) said) in
      let makes = done_makes_the_step s free b place done in
      let can = goes s free b place (done_is_not_refused s free b place done) in
      record {
        said = said;
        time = ap (λ x. time_of x.state) makes;
        from = WithCores.step s (Step.slot free) b place from own.0;
        long = ap (λ x. length x.bytes) makes ∙ still_as_long b place (size free) (picks_in s (size free)) can.room;
        short = omega (arith, picks_are_few s (size free), size_within table.cores free ((there_exactly table.cores free).1 own.1), (sizes_are_within table sound).1.1);
      }

  module _ (steps : ℕ → Step) (own : (t : ℕ) → HasOwnCores table c (steps t)) (buffer : List ℕ) (place : ℕ) where
    abbrev at : ℕ → Run
    at = run table steps buffer place

    -- A run has gone on for m slots.
    record Gone (m : ℕ) : Type 0 where
      said : (at m).said ≡ bare 0
      time : time_of (at m).state ≡ m
      from : WithCores table c (at m).state
      long : length (at m).bytes ≡ length buffer
      next : (at m).place ≤ place + 10 * m

    gone_none : Gone 0
    unfolding run
    gone_none = record { said = refl; time = refl; from = WithCores.start; long = refl; next = omega arith }

    gone_one_more : (m : ℕ) → m < time_limit → place + 10 * m + 10 ≤ length buffer → Gone m → Gone (suc m)
    gone_one_more m left room so =
        let r = at m in
        let on = next_run table steps buffer place m (ap (λ x. x.number) so.said) in
        let done = is_done r.state r.bytes r.place (steps m) so.from (own m) (omega (arith, so.time)) (omega (arith, so.next, so.long)) in
        let behind = place_behind (step_of r.state (steps m) r.bytes r.place).said.number r.place (record_by r.state (steps m)) (omega (arith, ap (λ x. x.number) done.said)) in
        record {
          said = rw on done.said;
          time = rw on (omega (arith, done.time, so.time));
          from = rw on done.from;
          long = rw on (done.long ∙ so.long);
          next = rw on (omega (arith, behind, done.short, so.next));
        }

    -- It does, up to the time limit.
    goes_on : (m : ℕ) → m ≤ time_limit → place + 10 * m ≤ length buffer → Gone m
    goes_on zero left room = gone_none
    goes_on (suc m) left room = gone_one_more m (omega arith) (omega arith) (goes_on m (omega arith) (omega arith))

    pub runs_on : (m : ℕ) → m ≤ time_limit → place + 10 * m ≤ length buffer → ((at m).said ≡ bare 0) × (time_of (at m).state ≡ m)
    runs_on m left room = let gone = goes_on m left room in (gone.said, gone.time)
