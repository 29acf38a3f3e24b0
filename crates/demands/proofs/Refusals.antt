-- Each refusal of a slot is given exactly when 01 says. Assumes nothing.
use Prim.Native.Nat.{ℕ, ◌+◌, ◌≤◌, ◌<◌}
use mathlib.Core.Path.{◌≡◌, refl, sym, ◌∙◌}
use mathlib.Core.List.{List}
use mathlib.Core.Bool.{Bool, true, false, true≢false}
use mathlib.Core.Logic.{◌↔◌}
use native.Mathlib.Decide.{dec_lt}
use native.Mathlib.Omega.{arith}
use borrow.Author.Tests.{lt-ltb, ltb-true}
use lib.ListN.{length, get_or}
use Rattle.counts.specs.Limits.{time_limit}
use Rattle.pd2.specs.Choice.{row_at, quanta_at}
use Rattle.pd2.proofs.Share.{row_can_be}
use Rattle.cores.specs.Sets.{size, names_past}
use Rattle.cores.specs.Fault.{Remembers}
use Rattle.cores.proofs.Fault.{misremembers_or_remembers, no_more_than_cores}
use Rattle.cores.proofs.Past.{past_exactly, there_exactly}
use Rattle.dispatcher.specs.declared.State.{State}
use Rattle.dispatcher.specs.State.{rows_in, is_row, quanta_in, time_of}
use Rattle.dispatcher.specs.Broken.{broken}
use Rattle.dispatcher.specs.Slot.{picks_in, refusal, slot_of}
use Rattle.dispatcher.proofs.Whole.{Whole, is_whole, is_not_broken}
use Rattle.dispatcher.proofs.Refused.{lacks_room_is, has_room_for, first_30, first_31, first_32, first_35, by_room}
use Rattle.dispatcher.proofs.Kept.{refused_number, not_refused_is_done}
use Rattle.demands.specs.One.{NotBroken, BrokenExactly, SlotExactly}
use Rattle.demands.proofs.Limits.{in_limits}

-- A state that is not broken is whole, and its shares are the demand's limits.
pub broken_exactly : BrokenExactly
broken_exactly s = (
  λ h.
      let w = is_whole s h in
      record {
        table = w.table;
        time = w.time;
        quanta = w.quanta;
        shares = λ runs i l. (in_limits (row_at (rows_in s) i) (row_can_be s.table w.table i l) (quanta_at (quanta_in s) i) (time_of s)).0 (w.shares runs i l);
        remembered = (remembers w).few;
        cores_there = λ i l. (remembers w).core i (omega (arith, l, (remembers w).few));
        cores_apart = λ i j l m. (remembers w).apart.cores i j l (omega (arith, m, (remembers w).few));
        rows_there = λ i l. ltb-true (get_or s.last.rows i 0) (length (rows_in s)) ((remembers w).row i (omega (arith, l, (remembers w).few)));
        rows_apart = λ i j l m. (remembers w).apart.rows i j l (omega (arith, m, (remembers w).few));
        rows_rise = λ i j l m. (remembers w).rising i j l (omega (arith, m, (remembers w).few));
        no_more_than_cores = no_more_than_cores s.last (is_row s) s.table.cores (remembers w);
      },
  λ n.
      is_not_broken s
      record {
        table = n.table;
        time = n.time;
        quanta = n.quanta;
        shares = λ runs i l. (in_limits (row_at (rows_in s) i) (row_can_be s.table n.table i l) (quanta_at (quanta_in s) i) (time_of s)).1 (n.shares runs i l);
        memory =
            (misremembers_or_remembers s.last (is_row s) s.table.cores).1
            (record {
              few = n.remembered;
              apart = record { rows = λ i j l m. n.rows_apart i j l (omega arith); cores = λ i j l m. n.cores_apart i j l (omega arith) };
              rising = λ i j l m. n.rows_rise i j l (omega arith);
              core = λ i l. n.cores_there i (omega arith);
              row = λ i l. lt-ltb (get_or s.last.rows i 0) (length (rows_in s)) (n.rows_there i (omega arith));
            });
      },
)
  where
    remembers : Whole s → Remembers s.last (is_row s) s.table.cores
    remembers w = (misremembers_or_remembers s.last (is_row s) s.table.cores).0 w.memory

-- A number that is another one, and a cause that is not there.
pub neither_is : {P : Type 0} {number other : ℕ} → (number ≡ other → ⊥) → (P → ⊥) → (number ≡ other) ↔ P
neither_is differs none = (λ e. absurd (differs e), λ p. absurd (none p))

-- A number that is so, and a cause that is there.
pub both_are : {P : Type 0} {number other : ℕ} → number ≡ other → P → (number ≡ other) ↔ P
both_are same there = (λ _. there, λ _. same)

-- The causes are gone through in 01's order: each decides the number, or is not there.
module _ (s : State) (free : List Bool) (buffer : List ℕ) (place : ℕ) where
  abbrev number : ℕ
  number = (slot_of s free buffer place).said.number

  abbrev room : ℕ
  room = place + 2 + length (picks_in s (size free))

  -- the number is the refusal's
  says : {n : ℕ} → 1 < n → refusal s free buffer place ≡ n → number ≡ n
  says {n} above e = (refused_number s free buffer place n above).1 e

  module _ (whole : broken s ≡ false) (runs : s.stopped ≡ false) (slot_left : time_of s < time_limit) (there : names_past s.table.cores free ≡ false) where
    fits : NotBroken s
    fits = (broken_exactly s).0 whole

    below : (core : ℕ) → get_or free core false ≡ true → core < s.table.cores
    below = (there_exactly s.table.cores free).0 there

    none_past : (core : ℕ) × (get_or free core false ≡ true) × (s.table.cores ≤ core) → ⊥
    none_past f = omega (arith, below f.0 f.1, f.2)

    by_place : Dec (length buffer < room) → SlotExactly s free buffer place number
    by_place (yes short) =
        let lacks = lacks_room_is buffer place (length (picks_in s (size free))) short in
        let said = says (omega arith) (by_room s free buffer place whole runs slot_left there {lacks = true} lacks) in
        record {
          is_30 = neither_is (λ e. omega (arith, said, e)) (λ n. n fits);
          is_31 = neither_is (λ e. omega (arith, said, e)) (λ h. true≢false (sym h.1 ∙ runs));
          is_32 = neither_is (λ e. omega (arith, said, e)) (λ h. omega (arith, h.2, slot_left));
          is_35 = neither_is (λ e. omega (arith, said, e)) (λ h. none_past h.3);
          is_34 = both_are said (fits, runs, slot_left, below, short);
        }
    by_place (no long) =
        let lacks = has_room_for buffer place (length (picks_in s (size free))) (omega arith) in
        let done = not_refused_is_done s free buffer place (by_room s free buffer place whole runs slot_left there {lacks = false} lacks) in
        record {
          is_30 = neither_is (λ e. omega (arith, done, e)) (λ n. n fits);
          is_31 = neither_is (λ e. omega (arith, done, e)) (λ h. true≢false (sym h.1 ∙ runs));
          is_32 = neither_is (λ e. omega (arith, done, e)) (λ h. omega (arith, h.2, slot_left));
          is_35 = neither_is (λ e. omega (arith, done, e)) (λ h. none_past h.3);
          is_34 = neither_is (λ e. omega (arith, done, e)) (λ h. long h.4);
        }

  module _ (whole : broken s ≡ false) (runs : s.stopped ≡ false) where
    by_cores : time_of s < time_limit → (past : Bool) → names_past s.table.cores free ≡ past → SlotExactly s free buffer place number
    by_cores slot_left true past =
        let fit = (broken_exactly s).0 whole in
        let found = (past_exactly s.table.cores free).0 past in
        let said = says (omega arith) (first_35 s free buffer place whole runs slot_left past) in
        record {
          is_30 = neither_is (λ e. omega (arith, said, e)) (λ n. n fit);
          is_31 = neither_is (λ e. omega (arith, said, e)) (λ h. true≢false (sym h.1 ∙ runs));
          is_32 = neither_is (λ e. omega (arith, said, e)) (λ h. omega (arith, h.2, slot_left));
          is_35 = both_are said (fit, runs, slot_left, found);
          is_34 = neither_is (λ e. omega (arith, said, e)) (λ h. omega (arith, h.3 found.0 found.1, found.2));
        }
    by_cores slot_left false there = by_place whole runs slot_left there (dec_lt (length buffer) room)

    by_time : Dec (time_of s < time_limit) → SlotExactly s free buffer place number
    by_time (yes slot_left) = by_cores slot_left (names_past s.table.cores free) refl
    by_time (no at) =
        let fit = (broken_exactly s).0 whole in
        let limit : time_of s ≡ time_limit = omega (arith, fit.time) in
        let said = says (omega arith) (first_32 s free buffer place whole runs limit) in
        record {
          is_30 = neither_is (λ e. omega (arith, said, e)) (λ n. n fit);
          is_31 = neither_is (λ e. omega (arith, said, e)) (λ h. true≢false (sym h.1 ∙ runs));
          is_32 = both_are said (fit, runs, limit);
          is_35 = neither_is (λ e. omega (arith, said, e)) (λ h. at h.2);
          is_34 = neither_is (λ e. omega (arith, said, e)) (λ h. at h.2);
        }

  by_mark : broken s ≡ false → (stopped : Bool) → s.stopped ≡ stopped → SlotExactly s free buffer place number
  by_mark whole false runs = by_time whole runs (dec_lt (time_of s) time_limit)
  by_mark whole true stopped =
      let fit = (broken_exactly s).0 whole in
      let said = says (omega arith) (first_31 s free buffer place whole stopped) in
      record {
        is_30 = neither_is (λ e. omega (arith, said, e)) (λ n. n fit);
        is_31 = both_are said (fit, stopped);
        is_32 = neither_is (λ e. omega (arith, said, e)) (λ h. true≢false (sym stopped ∙ h.1));
        is_35 = neither_is (λ e. omega (arith, said, e)) (λ h. true≢false (sym stopped ∙ h.1));
        is_34 = neither_is (λ e. omega (arith, said, e)) (λ h. true≢false (sym stopped ∙ h.1));
      }

  pub slot_exactly : SlotExactly s free buffer place number
  slot_exactly = go (broken s) refl
    where
      go : (b : Bool) → broken s ≡ b → SlotExactly s free buffer place number
      go false whole = by_mark whole s.stopped refl
      go true is_broken =
          let said = says (omega arith) (first_30 s free buffer place is_broken) in
          let unfit : NotBroken s → ⊥ = λ n. true≢false (sym is_broken ∙ (broken_exactly s).1 n) in
          record {
            is_30 = both_are said unfit;
            is_31 = neither_is (λ e. omega (arith, said, e)) (λ h. unfit h.0);
            is_32 = neither_is (λ e. omega (arith, said, e)) (λ h. unfit h.0);
            is_35 = neither_is (λ e. omega (arith, said, e)) (λ h. unfit h.0);
            is_34 = neither_is (λ e. omega (arith, said, e)) (λ h. unfit h.0);
          }
