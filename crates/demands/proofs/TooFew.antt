-- With too few cores a row is late: what c cores give is counted. Assumes nothing.
use Prim.Native.Nat.{ℕ, ◌+◌, ◌-◌, ◌*◌, ◌/◌, ◌≤◌, ◌<◌}
use mathlib.Core.Path.{◌≡◌, refl, sym, ap, ◌∙◌, subst}
use mathlib.Core.List.{List}
use mathlib.Core.Bool.{Bool, cond}
use native.Mathlib.Decide.{dec_lt}
use native.Mathlib.Nat.{mul-le-mul_left, le-div_iff_mul-le}
use native.Mathlib.Omega.{arith}
use borrow.Author.Tests.{lt-ltb}
use lib.ListN.{length}
use Rattle.facts.specs.Sums.{sum}
use Rattle.facts.specs.Counting.{how_many}
use Rattle.facts.proofs.Sums.{sum_grows, sum_adds, sum_scales, sum_of_none, sum_of_passed}
use Rattle.facts.proofs.Counting.{same_count}
use Rattle.facts.proofs.Listing.{as_many_listed}
use Rattle.table.specs.declared.Table.{Table}
use Rattle.table.specs.Limits.{row_limit}
use Rattle.table.specs.Causes.{load}
use Rattle.table.specs.Value.{fault_of, rows_of}
use Rattle.table.proofs.Taken.{sizes_are_within, rows_are_sound, jobs_fill_cycle}
use Rattle.pd2.specs.Choice.{row_at, quanta_at, ready_in, goes_before_by}
use Rattle.pd2.specs.Order.{before}
use Rattle.pd2.specs.Picks.{picked}
use Rattle.trace.specs.Records.{names}
use Rattle.trace.proofs.Names.{listed_are_named}
use Rattle.optimal.specs.Box.{in_cycle}
use Rattle.optimal.proofs.Box.{sum_is_load}
use Rattle.cores.specs.Sets.{size}
use Rattle.dispatcher.specs.declared.State.{State}
use Rattle.dispatcher.specs.State.{rows_in, quanta_in, time_of, fresh_of}
use Rattle.dispatcher.specs.Slot.{favoured_in, picks_in, placed_in, after_slot, slot_of}
use Rattle.dispatcher.specs.Run.{Step}
use Rattle.dispatcher.proofs.Whole.{is_whole, nothing_given}
use Rattle.dispatcher.proofs.Stepping.{places_stay}
use Rattle.dispatcher.proofs.Placing.{picks_are_few}
use Rattle.dispatcher.proofs.Kept.{refusal_changes_nothing, done_makes_the_step, quanta_after}
use Rattle.demands.specs.Three.{FromFresh}
use Rattle.demands.specs.TooFew.{WithAtMost, late_by, LateWithTooFew}
use Rattle.demands.proofs.Three.{Running, fresh_runs, still_runs, demand_three}

-- A row that has its share of K cycles has K times its quanta of a cycle.
share_of_cycles : (e p jobs cycle K a q : ℕ) → 0 < p → jobs * p ≡ cycle → cycle * K ≤ a → e * a / p ≤ q → K * (e * jobs) ≤ q
share_of_cycles e p jobs cycle K a q pos fill long share =
    let due = mul-le-mul_left e long in
    let filled = ap (λ x. e * (x * K)) fill in
    let whole : K * (e * jobs) ≤ e * a / p = (le-div_iff_mul-le pos).1 (omega (arith, due, filled)) in
    omega (arith, whole, share)

-- With at most c cores in a slot the rows have at most c quanta a slot.
module _ (table : Table) (c : ℕ) (sound : fault_of table ≡ 0) where
  abbrev n : ℕ
  n = length (rows_of table)

  pub record Given (s : State) : Type 0 where
    pub known : Running table s
    long : length s.quanta ≡ row_limit
    few : sum n (quanta_at (quanta_in s)) ≤ c * time_of s

  given_after : (s : State) (free : List Bool) (buffer : List ℕ) (place : ℕ) → Given s → size free ≤ c → (slot_of s free buffer place).said.number < 2 →
      sum n (quanta_at (quanta_in (slot_of s free buffer place).state)) ≤ c * time_of (slot_of s free buffer place).state
  given_after s free buffer place so most done =
      rw (ap (λ x. x.state) (done_makes_the_step s free buffer place done))
      (omega (
        arith,
        sum_grows n (quanta_at (quanta_in (after_slot s free))) (λ i. quanta_at (quanta_in s) i + cond (names (picks_in s (size free)) i) 1 0) (λ i l. omega (arith, quanta_after s free (is_whole s so.known.whole) so.long i)),
        sum_adds n (quanta_at (quanta_in s)) (λ i. cond (names (picks_in s (size free)) i) 1 0),
        sum_of_passed n (names (picks_in s (size free))),
        named_are_few,
        so.few,
      ))
    where
      is_picked : ℕ → Bool
      is_picked i = picked (ready_in (rows_in s) (quanta_in s) (time_of s)) (goes_before_by before (rows_in s) (quanta_in s) (favoured_in s)) (length (rows_in s)) (size free) i

      named_are_few : how_many (names (picks_in s (size free))) n ≤ c
      named_are_few =
          let rows : n ≡ length (rows_in s) = ap (λ t. length (rows_of t)) (sym so.known.same) in
          let same = same_count (names (picks_in s (size free))) is_picked n (λ i l. listed_are_named is_picked (length (rows_in s)) i ∙ rw (lt-ltb i (length (rows_in s)) (omega (arith, rows))) refl) in
          omega (arith, same, ap (how_many is_picked) rows, as_many_listed is_picked (length (rows_in s)), picks_are_few s (size free), most)

  pub given_so_far : (s : State) → WithAtMost table c s → Given s
  given_so_far _ WithAtMost.start =
      record {
        known = fresh_runs table sound;
        long = refl;
        few = omega (arith, sum_of_none n (quanta_at (quanta_in (fresh_of table))) (λ i l. nothing_given table i));
      }
  given_so_far _ (WithAtMost.step s (Step.slot free) buffer place from most not_late) = go (dec_lt (slot_of s free buffer place).said.number 2) (given_so_far s from)
    where
      go : Dec ((slot_of s free buffer place).said.number < 2) → Given s → Given (slot_of s free buffer place).state
      go (yes done) so =
          record {
            known = still_runs table s free buffer place so.known not_late;
            long = ap (λ x. length x.state.quanta) (done_makes_the_step s free buffer place done) ∙ (places_stay s (picks_in s (size free)) (placed_in s free) ∙ so.long);
            few = given_after s free buffer place so most done;
          }
      go (no refused) so = subst Given (sym (refusal_changes_nothing s free buffer place (omega arith)).0) so

  -- such states are some of those of demand 3
  from_fresh : (s : State) → WithAtMost table c s → FromFresh table s
  from_fresh _ WithAtMost.start = FromFresh.start
  from_fresh _ (WithAtMost.step s x buffer place from most not_late) = FromFresh.step s x buffer place (from_fresh s from) not_late

  -- After F slots every row has begun. K cycles later each must have had K times its quanta of a cycle, which is K·(c·L + 1) together at least, and c cores have given
  -- c·(F + L·K). That is too little once K is above c·F.
  module _ (F : ℕ) (full : c * table.cycle < load table.cycle (rows_of table)) (begun : (i : ℕ) → i < n → (row_at (rows_of table) i).phase ≤ F) where
    abbrev K : ℕ
    K = c * F + 1

    late_then : (s : State) → WithAtMost table c s → time_of s ≡ late_by table.cycle c F → ⊥
    late_then s from now =
        let had : (i : ℕ) → i < n → K * in_cycle table.cycle (row_at (rows_of table) i) ≤ quanta_at (quanta_in s) i =
        λ i l.
        let row = row_at (rows_of table) i in
        let can = rows_are_sound table sound i l in
        share_of_cycles row.cost row.period (table.cycle / row.period) table.cycle K (time_of s - row.phase) (quanta_at (quanta_in s) i)
        (omega (arith, can.cost, can.within_period)) (jobs_fill_cycle can) (omega (arith, now, begun i l)) (demand_three.keeps table s (from_fresh s from) i l).at_least in
        let all = sum_grows n (λ i. K * in_cycle table.cycle (row_at (rows_of table) i)) (quanta_at (quanta_in s)) had in
        let scaled = sum_scales n K (λ i. in_cycle table.cycle (row_at (rows_of table) i)) in
        let total = ap (λ x. K * x) (sum_is_load table.cycle (rows_of table)) in
        let over = mul-le-mul_left K full in
        let time = ap (λ t. c * t) now in
        omega (arith, all, scaled, total, over, time, (given_so_far s from).few)

    not_yet : (s : State) → WithAtMost table c s → time_of s < late_by table.cycle c F
    not_yet _ WithAtMost.start = let one : 1 ≤ K = omega arith in omega (arith, mul-le-mul_left table.cycle one, (sizes_are_within table sound).0.0)
    not_yet _ (WithAtMost.step s (Step.slot free) buffer place from most not_late) =
        go (dec_lt (slot_of s free buffer place).said.number 2) (dec_lt (time_of (slot_of s free buffer place).state) (late_by table.cycle c F)) (not_yet s from)
      where
        go : Dec ((slot_of s free buffer place).said.number < 2) → Dec (time_of (slot_of s free buffer place).state < late_by table.cycle c F) → time_of s < late_by table.cycle c F →
            time_of (slot_of s free buffer place).state < late_by table.cycle c F
        go done (yes l) before = l
        go (yes done) (no l) before =
            let time : time_of (slot_of s free buffer place).state ≡ time_of s + 1 = ap (λ x. time_of x.state) (done_makes_the_step s free buffer place done) in
            absurd (late_then (slot_of s free buffer place).state (WithAtMost.step s (Step.slot free) buffer place from most not_late) (omega (arith, time)))
        go (no refused) (no l) before = omega (arith, ap time_of (refusal_changes_nothing s free buffer place (omega arith)).0)

pub late_with_too_few : LateWithTooFew
late_with_too_few table c F sound full begun = not_yet table c sound F full begun
