-- Going through a trace, record after record. Assumes nothing.
use Prim.Native.Nat.{ℕ, ◌+◌, ◌-◌, ◌≤◌, ◌<◌}
use mathlib.Core.Path.{◌≡◌, sym, ap, ◌∙◌}
use mathlib.Core.List.{List, append_assoc}
use native.Mathlib.Omega.{arith}
use borrow.Author.Tests.{lt-ltb, le-ltb}
use lib.ListN.{length}
use Rattle.std.specs.Prelude.{Result, Ok, Err, IsErrAnd}
use Rattle.facts.specs.Findings.{◌then◌, first_found, FirstFound, NoneFound}
use Rattle.facts.proofs.Findings.{first_is_said, none_says_otherwise, after_none, first_in_front}
use Rattle.facts.proofs.Counting.{none_counted}
use Rattle.facts.proofs.Filling.{one_left_more}
use Rattle.table.specs.declared.Table.{Table}
use Rattle.table.specs.Value.{rows_of}
use Rattle.trace.specs.Said.{Said, bare}
use Rattle.trace.specs.Records.{place_of, named_in, first_place, slots_in}
use Rattle.trace.proofs.Records.{begins_at_first}
use Rattle.checker.specs.declared.Finding.{Finding}
use Rattle.checker.specs.declared.giving.Walk.{Walk}
use Rattle.checker.specs.Answer.{said_by, said_of}
use Rattle.checker.specs.Causes.{slot_limit}
use Rattle.checker.specs.Check.{record_findings, records_findings, last_findings, trace_said}
use Rattle.checker.specs.Walking.{CanCheck, AreKept, Reached, CanJudge, Walked}
use Rattle.checker.proofs.Kept.{same_kept}

module _ (table : Table) (s : List ℕ) where
  -- The check has come to slot t of the trace's slots: what is left says what the whole says.
  pub record Come (slots t at : ℕ) (walk : Walk) : Type 0 where
    pub reached : Reached table s t at walk
    pub within : t ≤ slots
    pub slot_count : slots ≡ slots_in s
    pub few : slots ≤ slot_limit
    pub rest : trace_said table s ≡ first_found (bare 0) (records_findings table s t (slots - t) then last_findings s)

  -- A trace without its count is cut,
  pub slot_count_is_cut : length s < 4 → bare 40 ≡ trace_said table s
  unfolding trace_said
  slot_count_is_cut h = sym (first_is_said (bare 0) (FirstFound.here (lt-ltb (length s) 4 h)))

  module _ (there : 4 ≤ length s) where
    -- a count above its limit is too long,
    pub is_too_long : slot_limit < slots_in s → bare 47 ≡ trace_said table s
    unfolding trace_said
    is_too_long h = sym (first_is_said (bare 0) (FirstFound.later (le-ltb (length s) 4 there) (FirstFound.here (lt-ltb slot_limit (slots_in s) h))))

    -- else the check begins.
    pub check_begins : {slots : ℕ} → slots ≡ slots_in s → slots ≤ slot_limit → {walk : Walk} →
        AreKept table (length (rows_of table)) (λ _. 0) walk → Come slots 0 4 walk
    unfolding trace_said
    check_begins {slots} e few kept =
        record {
          reached =
              record {
                place = sym (begins_at_first s first_place);
                inside = there;
                kept = same_kept table (length (rows_of table)) (λ i l. sym (none_counted (named_in s first_place i))) kept;
              };
          within = omega arith;
          slot_count = e;
          few = few;
          rest =
              after_none (bare 0) (records_findings table s 0 (slots_in s) then last_findings s)
              (NoneFound.later (le-ltb (length s) 4 there) (NoneFound.later (le-ltb slot_limit (slots_in s) (omega arith)) NoneFound.end))
              ∙ ap (λ m. first_found (bare 0) (records_findings table s 0 m then last_findings s)) {x = slots_in s} {y = slots - 0} (omega arith);
        }

  module _ {slots t : ℕ} {at : ℕ} {walk : Walk} (so : Come slots t at walk) (more : t < slots) where
    left : trace_said table s ≡ first_found (bare 0) ((record_findings table s t then records_findings table s (t + 1) (slots - (t + 1))) then last_findings s)
    unfolding records_findings
    left = so.rest ∙ ap (λ m. first_found (bare 0) (records_findings table s t m then last_findings s)) (one_left_more more)

    -- The record of the slot can be judged,
    pub record_can_be_judged : CanCheck table → {u : ℕ} → u ≡ t → CanJudge table s u at walk
    record_can_be_judged can e = record { can = can; reached = rw e so.reached; time = omega (arith, e, so.few) }

    module _ {u : ℕ} (e : u ≡ t) where
      -- what is found in it is said,
      pub record_says : {x : Said} → FirstFound (record_findings table s u) x → x ≡ trace_said table s
      record_says {x} f =
          let found : FirstFound (record_findings table s t) x = rw e at f in
          sym (left ∙ first_is_said (bare 0) (first_in_front (last_findings s) (first_in_front (records_findings table s (t + 1) (slots - (t + 1))) found)))

      -- also as the error that ends the check,
      pub error_says : (r : Result (Unit {0}) Finding) (finding : Finding) → IsErrAnd r (λ y. y ≡ finding) → FirstFound (record_findings table s u) (said_by finding) → said_of r ≡ trace_said table s
      error_says (Ok done) finding same f = elim same [ ]
      error_says (Err y) finding same f = ap said_by same ∙ record_says f

      -- and else the check goes on.
      pub check_goes_on : {after : Walk} {next : ℕ} → Walked table s u after next → Come slots (t + 1) next after
      check_goes_on {after} {next} walked =
          let behind : Walked table s t after next = rw e at walked in
          record {
            reached = behind.reached;
            within = omega arith;
            slot_count = so.slot_count;
            few = so.few;
            rest =
                left
                ∙ (ap (first_found (bare 0)) (append_assoc (record_findings table s t) (records_findings table s (t + 1) (slots - (t + 1))) (last_findings s))
                ∙ after_none (bare 0) (records_findings table s (t + 1) (slots - (t + 1)) then last_findings s) behind.none);
          }

  module _ {slots t : ℕ} {at : ℕ} {walk : Walk} (so : Come slots t at walk) (end : slots ≤ t) where
    last : trace_said table s ≡ first_found (bare 0) (last_findings s)
    unfolding records_findings
    last = so.rest ∙ ap (λ m. first_found (bare 0) (records_findings table s t m then last_findings s)) {x = slots - t} {y = 0} (omega arith)

    place_is : at ≡ place_of s first_place (slots_in s)
    place_is = so.reached.place ∙ ap (place_of s first_place) (omega (arith, so.within, so.slot_count))

    -- At the end there are bytes left,
    pub bytes_are_left : at < length s → bare 46 ≡ trace_said table s
    bytes_are_left h = sym (last ∙ first_is_said (bare 0) (FirstFound.here (lt-ltb (place_of s first_place (slots_in s)) (length s) (omega (arith, place_is)))))

    -- or the trace passes.
    pub trace_passes : length s ≤ at → bare 0 ≡ trace_said table s
    trace_passes h =
        sym (last ∙ none_says_otherwise (bare 0) (NoneFound.later (le-ltb (place_of s first_place (slots_in s)) (length s) (omega (arith, place_is))) NoneFound.end))
