-- What a state that is not broken is. Assumes nothing.
use Prim.Native.Nat.{ℕ, ◌≤◌, ◌<◌}
use mathlib.Core.Path.{◌≡◌, refl, sym, ap, ◌∙◌}
use mathlib.Core.Bool.{Bool, true, false, not, ◌&&◌}
use native.Mathlib.Decide.{dec_lt}
use native.Mathlib.Omega.{arith}
use lib.Dec.{ltb, eqb}
use lib.ListN.{length, get_or, replicate, length-take, get_or-replicate, length-replicate, get_or-eq_default, get_or-map}
use borrow.Author.Tests.{ltb-false, le-ltb, eqb-true, eq-eqb, not-false}
use Rattle.facts.proofs.Tests.{neither_holds}
use Rattle.facts.proofs.Some.{none_if, each_fails}
use Rattle.counts.specs.declared.Quanta.{Quanta}
use Rattle.counts.specs.Limits.{time_limit}
use Rattle.table.specs.declared.Table.{Table}
use Rattle.table.specs.Limits.{row_limit}
use Rattle.table.specs.Value.{fault_of, rows_of}
use Rattle.table.proofs.Taken.{rows_are_sound, sizes_are_within}
use Rattle.pd2.specs.Share.{within}
use Rattle.pd2.specs.Choice.{quanta_at}
use Rattle.choice.specs.Arrays.{InPlace}
use Rattle.cores.specs.Fault.{misremembers}
use Rattle.dispatcher.specs.declared.State.{State}
use Rattle.dispatcher.specs.State.{rows_in, is_row, quanta_in, time_of, fresh_of}
use Rattle.dispatcher.specs.Broken.{of_row, some_row, exceeds, outside_share, broken}
use Rattle.dispatcher.specs.Usable.{UsableState}
use Rattle.dispatcher.proofs.Rows.{some_row_is}

-- for callers

-- A whole state: a table without fault, time and quanta within their limits, every row within its share unless the state is stopped, and a memory
-- without fault.
pub record Whole (s : State) : Type 0 where
  pub table : fault_of s.table ≡ 0
  pub time : time_of s ≤ time_limit
  pub quanta : (i : ℕ) → i < length (rows_in s) → quanta_at (quanta_in s) i ≤ time_of s
  pub shares : s.stopped ≡ false → (i : ℕ) → i < length (rows_in s) → of_row s (λ row q. within row q (time_of s)) i ≡ true
  pub memory : misremembers s.last (is_row s) s.table.cores ≡ false

-- A state that is not broken is whole,
pub is_whole : (s : State) → broken s ≡ false → Whole s
unfolding broken
is_whole s h =
    let memory = neither_holds _ (misremembers s.last (is_row s) s.table.cores) h in
    let last = neither_holds _ (not s.stopped && some_row s (outside_share (time_of s))) memory.0 in
    let given = neither_holds _ (some_row s (exceeds (time_of s))) last.0 in
    let first = neither_holds (not (eqb (fault_of s.table) 0)) (ltb time_limit (time_of s)) given.0 in
    record {
      table = eqb-true (fault_of s.table) 0 (not-false _ first.0);
      time = ltb-false time_limit (time_of s) first.1;
      quanta = λ i l.
          ltb-false (time_of s) (quanta_at (quanta_in s) i)
          (each_fails (of_row s (exceeds (time_of s))) (length (rows_in s)) (sym (some_row_is s (exceeds (time_of s))) ∙ given.1) i l);
      shares = λ runs i l.
          not-false (of_row s (λ row q. within row q (time_of s)) i)
          (each_fails (of_row s (outside_share (time_of s))) (length (rows_in s)) (sym (some_row_is s (outside_share (time_of s))) ∙ rw runs at last.1) i l);
      memory = memory.1;
    }

-- and a whole state is not broken.
pub is_not_broken : (s : State) → Whole s → broken s ≡ false
unfolding broken
is_not_broken s w =
    let fault = eq-eqb (fault_of s.table) 0 w.table in
    let time = le-ltb time_limit (time_of s) w.time in
    let given : some_row s (exceeds (time_of s)) ≡ false =
    some_row_is s (exceeds (time_of s)) ∙ none_if (of_row s (exceeds (time_of s))) (length (rows_in s)) (λ i l. le-ltb (time_of s) (quanta_at (quanta_in s) i) (w.quanta i l)) in
    rw (fault, time, given, share s.stopped refl) w.memory
  where
    share : (stopped : Bool) → s.stopped ≡ stopped → not s.stopped && some_row s (outside_share (time_of s)) ≡ false
    share true e = rw e refl
    share false e = rw e (some_row_is s (outside_share (time_of s)) ∙ none_if (of_row s (outside_share (time_of s))) (length (rows_in s)) (λ i l. ap not (w.shares e i l)))

-- A table without fault has no more rows than a state has places.
pub rows_have_places : (t : Table) → fault_of t ≡ 0 → length (rows_of t) ≤ row_limit
rows_have_places t h = omega (arith, length-take t.n t.rows, (sizes_are_within t h).2)

-- A whole state is one that the functions of this crate can use.
pub is_usable : (s : State) → Whole s → InPlace s.table.rows s.quanta s.table.n → UsableState s
is_usable s w place =
    record {
      place = place;
      each = λ i l.
          let sound = rows_are_sound s.table w.table i l in
          record { cost = sound.cost; within_period = sound.within_period; quanta = w.quanta i l; time = w.time };
    }

-- No row of a fresh state has been given anything.
pub nothing_given : (t : Table) (i : ℕ) → quanta_at (quanta_in (fresh_of t)) i ≡ 0
nothing_given t i = get_or-map (λ q. q.0) (fresh_of t).quanta i nothing ∙ ap (λ q. q.0) (go (dec_lt i row_limit))
  where
    nothing : Quanta
    nothing = record { 0 = 0 }

    go : Dec (i < row_limit) → get_or (replicate row_limit nothing) i nothing ≡ nothing
    go (yes l) = get_or-replicate row_limit i nothing nothing l
    go (no l) = get_or-eq_default (replicate row_limit nothing) nothing {n = i} (omega (arith, length-replicate row_limit nothing))
