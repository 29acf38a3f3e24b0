-- The first slots of a run that is longer than a trace pass the check, and a count of more is refused with 47. Assumes nothing.
use Prim.Native.Nat.{ℕ, zero, suc, ◌+◌, ◌≤◌, ◌<◌}
use mathlib.Core.Path.{◌≡◌, refl, sym, ◌∙◌, subst}
use mathlib.Core.List.{List}
use mathlib.Core.Bool.{true}
use mathlib.Core.Logic.{inl, inr}
use native.Mathlib.Decide.{ℕ_discrete, dec_le}
use native.Mathlib.Omega.{arith}
use lib.ListN.{length, take, drop, length-append}
use Rattle.fields.specs.Fields.{bytes_of}
use Rattle.table.specs.declared.Table.{Table}
use Rattle.table.specs.Value.{fault_of, rows_of}
use Rattle.table.specs.Bytes.{table_in}
use Rattle.pd2.specs.Share.{within}
use Rattle.pd2.specs.Choice.{row_at}
use Rattle.trace.specs.Records.{first_place, place_of, slots_in, times_named_from}
use Rattle.trace.specs.Said.{bare}
use Rattle.dispatcher.specs.State.{time_of}
use Rattle.dispatcher.specs.Run.{Step, Run, run}
use Rattle.dispatcher.proofs.RunKept.{going, one_on}
use Rattle.dispatcher.proofs.Written.{Written, written_going, written_last, written_first, shares_written, shares_before, ends_late, comes_done}
use Rattle.checker.specs.Causes.{slot_limit}
use Rattle.checker.proofs.Traced.{is_too_long}
use Rattle.checker.proofs.Passes.{judges_table_first}
use Rattle.demands.specs.RunPasses.{with_slot_count, IsTraceOf}
use Rattle.demands.specs.LongerRuns.{first_slots, FirstSlotsPass, LongerIsRefused}
use Rattle.demands.proofs.WithCount.{word_bytes_are_read, is_trace_of, records_pass}
use Rattle.demands.proofs.RunPasses.{no_slots, empty_is_trace, nothing_done}

-- A run of a table without fault, in a buffer with a place for the first record: n of its slots, no more than a trace covers.
module _ (table : Table) (steps : ℕ → Step) (buffer : List ℕ) (sound : fault_of table ≡ 0) (starts : first_place ≤ length buffer) (n : ℕ) (few : n ≤ slot_limit) where
  abbrev at : ℕ → Run
  at = run table steps buffer first_place

  -- The first n of t slots whose records are sound, and in which all shares are kept up to then, pass.
  first_pass : (t : ℕ) (b : List ℕ) (next : ℕ) → Written table first_place t b next → n ≤ t →
      ((u row : ℕ) → u ≤ n → row < length (rows_of table) → within (row_at (rows_of table) row) (times_named_from b first_place row u) u ≡ true) →
      IsTraceOf table n (bare 0) (with_slot_count n b (place_of b first_place n))
  first_pass t b next all earlier shares =
      let written = written_first table first_place t b next all n earlier in
      let next = place_of b first_place n in
      is_trace_of table n b next written few (record { passes = λ z. records_pass table n b next written few sound shares; late = λ z. absurd (omega (arith, z)) })

  -- All slots answered 0,
  first_of_going : (m : ℕ) → (at m).said.number ≡ 0 → n ≤ time_of (at m).state → IsTraceOf table n (bare 0) (first_slots (at m) n)
  first_of_going m e before =
      let earlier : n ≤ m = omega (arith, before, (going table steps buffer first_place sound m e).clock) in
      first_pass m (at m).bytes (at m).place (written_going table steps buffer first_place sound starts m e) earlier
      (λ u row k l. shares_written table steps buffer first_place sound starts m e row u l (omega arith))

  -- or the last one answered 1.
  first_of_late : (m : ℕ) → (at m).said.number ≡ 0 → (at (suc m)).said.number ≡ 1 → n < time_of (at (suc m)).state → IsTraceOf table n (bare 0) (first_slots (at (suc m)) n)
  first_of_late m e is_late before =
      let done : (at (suc m)).said.number < 2 = omega (arith, is_late) in
      let clock = (one_on table steps buffer first_place m (going table steps buffer first_place sound m e) e done).2 in
      let earlier : n ≤ m = omega (arith, before, clock) in
      first_pass (m + 1) (at (suc m)).bytes (at (suc m)).place (written_last table steps buffer first_place sound starts m e done) (omega arith)
      (λ u row k l. shares_before table steps buffer first_place sound starts m e done row u l (omega arith))

  first_of_done : (m : ℕ) → (at m).said.number < 2 → n ≤ time_of (at m).state → ((at m).said.number ≡ 1 → n < time_of (at m).state) → IsTraceOf table n (bare 0) (first_slots (at m) n)
  first_of_done m h within before = go (at m).said.number refl h
    where
      go : (number : ℕ) → (at m).said.number ≡ number → number < 2 → IsTraceOf table n (bare 0) (first_slots (at m) n)
      go zero e l = first_of_going m e within
      go (suc zero) e l =
          let ends = ends_late table steps buffer first_place m e in
          rw ends.same (first_of_late ends.slots ends.before ends.late (rw ends.same at (before e)))
      go (suc (suc number)) e l = absurd (omega arith)

-- A run that was refused stands where it stood before, and one of a table with a fault, or in a buffer without a place, has done nothing.
pub first_slots_pass : FirstSlotsPass
unfolding run place_of
first_slots_pass table steps buffer m n within before few =
    let done = comes_done table steps buffer first_place m in
    subst (λ b. IsTraceOf table n (bare 0) (with_slot_count n b (place_of b first_place n))) (sym done.bytes)
    (go done.slots done.done
    (subst (λ s. n ≤ time_of s) done.state within)
    (λ e. subst (λ s. n < time_of s) done.state (before (done.late e)))
    (ℕ_discrete (fault_of table) 0)
    (dec_le first_place (length buffer)))
  where
    nothing : n ≤ time_of (run table steps buffer first_place 0).state → IsTraceOf table n (bare 0) (first_slots (run table steps buffer first_place 0) n)
    nothing l = let none : n ≡ 0 = omega arith in rw (none, no_slots table buffer) (empty_is_trace table)

    go : (m : ℕ) → (run table steps buffer first_place m).said.number < 2 → n ≤ time_of (run table steps buffer first_place m).state →
        ((run table steps buffer first_place m).said.number ≡ 1 → n < time_of (run table steps buffer first_place m).state) → Dec (fault_of table ≡ 0) → Dec (first_place ≤ length buffer) →
        IsTraceOf table n (bare 0) (first_slots (run table steps buffer first_place m) n)
    go m h l late (yes sound) (yes starts) = first_of_done table steps buffer sound starts n few m h l late
    go m h l late (no bad) starts = let none = nothing_done table steps buffer (inl bad) m h in rw none (nothing (rw none at l))
    go m h l late (yes sound) (no short) = let none = nothing_done table steps buffer (inr (omega arith)) m h in rw none (nothing (rw none at l))

-- The count stands in the first four bytes and is read as it was written.
pub longer_is_refused : LongerIsRefused
unfolding bytes_of
longer_is_refused table n bytes next above fits =
    let trace = with_slot_count n bytes next in
    let rest = drop first_place (take next bytes) in
    let there : 4 ≤ length trace = omega (arith, length-append (bytes_of 4 n) rest) in
    let long : slot_limit < slots_in trace = omega (arith, above, word_bytes_are_read n rest fits) in
    record {
      checked = sym (is_too_long table trace there long);
      checked_by_bytes = λ b e. (judges_table_first b trace).1 e ∙ sym (is_too_long (table_in b) trace there long);
    }
