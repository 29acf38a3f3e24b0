use mathlib.Core.Path.{◌≡◌, sym, ap, ◌∙◌}
use mathlib.Core.Bool.{false, not}
use Prim.Native.Nat.{◌<◌}
use native.Mathlib.Omega.{arith}
use borrow.Author.Rules.{rules}
use borrow.Author.Tests.{lt-ltb, le-ltb, eq-eqb, ne_eqb}
use lib.Dec.{eqb}
use lib.ListN.{length}
use Rattle.std.specs.Prelude.{Ok}
use Rattle.facts.specs.Findings.{FirstFound, NoneFound}
use Rattle.counts.specs.Limits.{time_limit}
use Rattle.table.proofs.Taken.{sizes_are_within}
use Rattle.choice.specs.Arrays.{InPlace}
use Rattle.dispatcher.specs.State.{rows_in, time_of}
use Rattle.dispatcher.specs.Broken.{broken}
use Rattle.dispatcher.proofs.BrokenBy.{in_place}
use Rattle.dispatcher.proofs.Whole.{is_whole, is_usable}
use Rattle.why.proofs.Refused.{refuses, gives_reason}
use Rattle.why.proofs.of_row.Goals as goal

pub returns-then-is_broken : goal.returns-then-is_broken
returns-then-is_broken c = refuses _ _ _ (FirstFound.here (sym c.is_broken.ensures ∙ c.if-is_broken.true))

pub returns-then-state : goal.returns-then-state
returns-then-state c =
    let whole : broken c.args.state ≡ false = sym c.is_broken.ensures ∙ c.if-is_broken.false in
    refuses _ _ _ (FirstFound.later whole (FirstFound.here c.if-state.true))

pub returns-then-time-ge-TIME_LIMIT : goal.returns-then-time-ge-TIME_LIMIT
returns-then-time-ge-TIME_LIMIT c =
    let whole : broken c.args.state ≡ false = sym c.is_broken.ensures ∙ c.if-is_broken.false in
    let at_limit : time_of c.args.state ≡ time_limit = omega (arith, c.if-time-ge-TIME_LIMIT.true, c.time.ensures, (is_whole _ whole).time) in
    refuses _ _ _ (FirstFound.later whole (FirstFound.later c.if-state.false (FirstFound.here (eq-eqb _ time_limit at_limit))))

pub returns-then-state-k : goal.returns-then-state-k
returns-then-state-k c =
    let whole : broken c.args.state ≡ false = sym c.is_broken.ensures ∙ c.if-is_broken.false in
    let slot_left : eqb (time_of c.args.state) time_limit ≡ false = ne_eqb (time_of c.args.state) time_limit (λ e. omega (arith, e, c.if-time-ge-TIME_LIMIT.false, c.time.ensures)) in
    refuses _ _ _
    (FirstFound.later whole (FirstFound.later c.if-state.false (FirstFound.later slot_left (FirstFound.here (lt-ltb _ _ c.if-state-k.true)))))

pub returns-then-state-row : goal.returns-then-state-row
returns-then-state-row c =
    let whole : broken c.args.state ≡ false = sym c.is_broken.ensures ∙ c.if-is_broken.false in
    let slot_left : eqb (time_of c.args.state) time_limit ≡ false = ne_eqb (time_of c.args.state) time_limit (λ e. omega (arith, e, c.if-time-ge-TIME_LIMIT.false, c.time.ensures)) in
    let arrays : let s = c.args.state in InPlace s.table.rows s.quanta s.table.n = in_place c.args.state (is_whole _ whole).table (search rules) (search rules) in
    let a = c.args in
    refuses _ _ _
    (FirstFound.later whole (FirstFound.later c.if-state.false (FirstFound.later slot_left (FirstFound.later (le-ltb a.state.table.cores a.k (omega arith))
    (FirstFound.here (ap not (le-ltb a.row (length (rows_in a.state)) (omega (arith, c.if-state-row.true, arrays.all)))))))))

pub reason_for-requires : goal.reason_for-requires
reason_for-requires c =
    let whole : broken c.args.state ≡ false = sym c.is_broken.ensures ∙ c.if-is_broken.false in
    let arrays : let s = c.args.state in InPlace s.table.rows s.quanta s.table.n = in_place c.args.state (is_whole _ whole).table (search rules) (search rules) in
    let row_is_there : c.args.row < length (rows_in c.args.state) = omega (arith, c.if-state-row.false, arrays.all) in
    let w = is_whole _ whole in
    record {
      usable = is_usable _ w arrays;
      few = omega (arith, c.if-state-k.false, sizes_are_within _ w.table);
      row_is_there = row_is_there;
    }

pub returns : goal.returns
returns c =
    let whole : broken c.args.state ≡ false = sym c.is_broken.ensures ∙ c.if-is_broken.false in
    let slot_left : eqb (time_of c.args.state) time_limit ≡ false = ne_eqb (time_of c.args.state) time_limit (λ e. omega (arith, e, c.if-time-ge-TIME_LIMIT.false, c.time.ensures)) in
    let arrays : let s = c.args.state in InPlace s.table.rows s.quanta s.table.n = in_place c.args.state (is_whole _ whole).table (search rules) (search rules) in
    let row_is_there : c.args.row < length (rows_in c.args.state) = omega (arith, c.if-state-row.false, arrays.all) in
    ap Ok c.reason_for.ensures
    ∙ gives_reason _ _ _
    (NoneFound.later whole (NoneFound.later c.if-state.false (NoneFound.later slot_left (NoneFound.later (le-ltb _ _ c.if-state-k.false)
    (NoneFound.later (ap not (lt-ltb _ _ row_is_there)) NoneFound.end)))))
