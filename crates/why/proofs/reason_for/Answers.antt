use mathlib.Core.Path.{◌≡◌, sym, ap, ap₂, ◌∙◌}
use mathlib.Core.List.{List}
use mathlib.Core.Bool.{Bool, false, true, not, ◌&&◌}
use Prim.Native.Nat.{ℕ, ◌-◌, ◌≤◌, ◌<◌}
use native.Mathlib.Omega.{arith}
use borrow.Author.Rules.{rules}
use lib.ListN.{length, get_or}
use Rattle.std.specs.Prelude.{Option, Some, None, IsSome, unwrap_or}
use Rattle.facts.specs.First.{Lowest}
use Rattle.table.specs.declared.Row.{Row}
use Rattle.pd2.specs.Ready.{ready}
use Rattle.pd2.specs.Choice.{row_at, quanta_at}
use Rattle.trace.specs.Record.{marked}
use Rattle.dispatcher.specs.declared.State.{State}
use Rattle.dispatcher.specs.State.{rows_in, quanta_in, time_of}
use Rattle.dispatcher.specs.Slot.{favoured_in, picks_in}
use Rattle.dispatcher.specs.Favoured.{favoured_marks}
use Rattle.dispatcher.specs.Usable.{UsableState}
use Rattle.dispatcher.proofs.Favoured.{favour_at}
use Rattle.why.specs.declared.Reason.TheVariants.{NotReady, PassedOver}
use Rattle.why.specs.Rules.{rule_for}
use Rattle.why.specs.Reasons.{is_ready, rank_in}
use Rattle.why.specs.Why.{ready_from, lowest_in}
use Rattle.why.specs.Asked.{Asked, dropped_from}
use Rattle.why.proofs.Cases.{when_named, when_unready, when_no_core, when_passed_over}
use Rattle.why.proofs.Asked.{marks_name, rule_there, dropped_is_found}
use Rattle.why.proofs.reason_for.Goals.{then-favoured-by, else-favoured-by}
use Rattle.why.proofs.reason_for.Goals as goal

-- There is room for each row in an array,
few_rows : (s : State) → UsableState s → length (rows_in s) ≤ 32
few_rows s u = omega (arith, u.place.few, u.place.all)

-- and the marks of who is favoured say it of each row.
favour_said : (s : State) → UsableState s → (marks : List Bool) → marks ≡ favoured_marks s → (i : ℕ) → i < length (rows_in s) → get_or marks i false ≡ favoured_in s i
favour_said s u marks e i l = ap (λ m. get_or m i false) e ∙ favour_at s (few_rows s u) i l

-- What is asked of a row of the state is asked of that row.
said : (s : State) (i : ℕ) {row : Row} {q : ℕ} {answer : Bool} → (row ≡ row_at (rows_in s) i) × (q ≡ quanta_at (quanta_in s) i) → answer ≡ ready row q (time_of s) →
    answer ≡ is_ready s i (time_of s)
said s i (a, b) e = rw (a, b) at e

-- The row that is dropped with one core fewer is there, and is the lowest that is picked.
record Found (s : State) (k : ℕ) (r : Option ℕ) : Type 0 where
  some : IsSome r
  is_there : (by : ℕ) → r ≡ Some by → by < length (rows_in s)
  lowest : (by : ℕ) → r ≡ Some by → by ≡ lowest_in s k
  in_array : (by : ℕ) → r ≡ Some by → by < 32

found : {s : State} {k row : ℕ} → Asked s k row → (marks fewer : List Bool) → marked marks ≡ picks_in s k → marked fewer ≡ picks_in s (k - 1) → get_or marks row false ≡ false →
    is_ready s row (time_of s) ≡ true → (k ≡ 0 → ⊥) → (r : Option ℕ) → Lowest (dropped_from marks fewer) 32 (unwrap_or r 32) → Found s k r
found {s = s} {k = k} {row = row} asked marks fewer with_k with_fewer unmarked row_is_ready some_core r low = go r low
  where
    is : (by : ℕ) → Lowest (dropped_from marks fewer) 32 by → (by < length (rows_in s)) × (by ≡ lowest_in s k)
    is = dropped_is_found s k row asked.row_is_there row_is_ready some_core (sym (marks_name marks with_k row) ∙ unmarked) (few_rows s asked.usable) marks fewer with_k with_fewer

    go : (r : Option ℕ) → Lowest (dropped_from marks fewer) 32 (unwrap_or r 32) → Found s k r
    go None low = absurd (omega (arith, (is 32 low).0, few_rows s asked.usable))
    go (Some i) low =
        record {
          some = search rules;
          is_there = λ by e. let same : i ≡ by = cc in omega (arith, same, (is i low).0);
          lowest = λ by e. let same : i ≡ by = cc in sym same ∙ (is i low).1;
          in_array = λ by e. let same : i ≡ by = cc in omega (arith, same, (is i low).0, few_rows s asked.usable);
        }

pub returns-then-marks-row : goal.returns-then-marks-row
returns-then-marks-row c =
    sym (when_named c.args.state.now c.args.k c.args.row (sym (marks_name c.picks-marks.result c.picks-marks.ensures c.args.row) ∙ c.if-marks-row.true))

pub returns-then-not-is_ready : goal.returns-then-not-is_ready
returns-then-not-is_ready c =
    let s = c.args.state.now in
    let out = sym (marks_name c.picks-marks.result c.picks-marks.ensures c.args.row) ∙ c.if-marks-row.false in
    let unready = sym (said s c.args.row c.of-asked.ensures c.is_ready.ensures) ∙ c.if-not-is_ready.true in
    ap (λ t. NotReady (record { 0 = t })) (c.ready_from.ensures ∙ ap₂ ready_from c.of-asked.ensures.0 c.of-asked.ensures.1)
    ∙ sym (when_unready s c.args.k c.args.row out unready)

pub returns-then-k-eq0 : goal.returns-then-k-eq0
returns-then-k-eq0 c =
    let s = c.args.state.now in
    let out = sym (marks_name c.picks-marks.result c.picks-marks.ensures c.args.row) ∙ c.if-marks-row.false in
    let row_is_ready = sym (said s c.args.row c.of-asked.ensures c.is_ready.ensures) ∙ c.if-not-is_ready.false in
    sym (when_no_core s c.args.k c.args.row out row_is_ready c.if-k-eq0.true)

pub unwrap-by-requires : goal.unwrap-by-requires
unwrap-by-requires c =
    let row_is_ready = sym (said c.args.state.now c.args.row c.of-asked.ensures c.is_ready.ensures) ∙ c.if-not-is_ready.false in
    (found c.requires c.picks-marks.result c.picks-fewer.result c.picks-marks.ensures c.picks-fewer.ensures c.if-marks-row.false row_is_ready c.if-k-eq0.false _ c.dropped.ensures).some

pub bounds-favoured-by : goal.bounds-favoured-by
bounds-favoured-by c =
    let row_is_ready = sym (said c.args.state.now c.args.row c.of-asked.ensures c.is_ready.ensures) ∙ c.if-not-is_ready.false in
    (found c.requires c.picks-marks.result c.picks-fewer.result c.picks-marks.ensures c.picks-fewer.ensures c.if-marks-row.false row_is_ready c.if-k-eq0.false _ c.dropped.ensures).in_array
    _ c.unwrap-by.ensures

pub of-requires : goal.of-requires
of-requires c =
    let row_is_ready = sym (said c.args.state.now c.args.row c.of-asked.ensures c.is_ready.ensures) ∙ c.if-not-is_ready.false in
    let by = found c.requires c.picks-marks.result c.picks-fewer.result c.picks-marks.ensures c.picks-fewer.ensures c.if-marks-row.false row_is_ready c.if-k-eq0.false _ c.dropped.ensures in
    (c.requires.usable, by.is_there _ c.unwrap-by.ensures)

pub returns : goal.returns
returns c =
    let s = c.args.state.now in
    let i = c.unwrap-by.result in
    let row = c.args.row in
    let out = sym (marks_name c.picks-marks.result c.picks-marks.ensures row) ∙ c.if-marks-row.false in
    let row_is_ready = sym (said s row c.of-asked.ensures c.is_ready.ensures) ∙ c.if-not-is_ready.false in
    let by = found c.requires c.picks-marks.result c.picks-fewer.result c.picks-marks.ensures c.picks-fewer.ensures c.if-marks-row.false row_is_ready c.if-k-eq0.false _ c.dropped.ensures in
    let favoured = favour_said s c.requires.usable c.favoured-favoured.result c.favoured-favoured.ensures in
    let of_row = favoured row c.requires.row_is_there in
    let of_by = favoured i (by.is_there _ c.unwrap-by.ensures) in
    let kinder : c.if-favoured-by.kinder ≡ favoured_in s i && not (favoured_in s row) =
    elim c.if-favoured-by.branch [
      | then-favoured-by w ↦ w.kinder-is ∙ ap not of_row ∙ sym (ap (λ t. t && not (favoured_in s row)) (sym of_by ∙ w.if-favoured-by.true))
      | else-favoured-by w ↦ w.kinder-is ∙ w.if-favoured-by.false ∙ sym (ap (λ t. t && not (favoured_in s row)) (sym of_by ∙ w.if-favoured-by.false))
    ] in
    ap (PassedOver i) (rule_there s i row c.of.ensures.0 c.of.ensures.1 c.of-asked.ensures.0 c.of-asked.ensures.1 kinder c.rule_between-rule.ensures)
    ∙ (ap (λ i. PassedOver i (rule_for (rank_in s i) (rank_in s row))) (by.lowest _ c.unwrap-by.ensures)
    ∙ sym (when_passed_over s c.args.k row out row_is_ready c.if-k-eq0.false))
