use Prim.Native.Nat.{ℕ, ◌≤◌, ◌<◌}
use mathlib.Core.Path.{◌≡◌, refl, sym, ◌∙◌}
use mathlib.Core.List.{List}
use mathlib.Core.Bool.{Bool, true, false}
use borrow.Author.Rules.{rules}
use lib.Dec.{ltb, eqb}
use lib.ListN.{get_or}
use Rattle.facts.specs.Counting.{some}
use Rattle.facts.proofs.Some.{looking_begins, looks_on, some_if, none_at_all}
use Rattle.table.specs.Limits.{core_limit}
use Rattle.cores.specs.declared.Placement.{Placement}
use Rattle.cores.specs.Placement.{core_in}
use Rattle.cores.specs.Fault.{bad_place, misremembers}
use Rattle.cores.proofs.Fault.{no_such_core, core_twice, no_such_row, falls_or_not, least_begins, does_not_fall, least_goes_on, too_many_places, more_than_cores, bad_somewhere}
use Rattle.cores.proofs.Marks.{Marked, marking_begins, marks_one_more}
use Rattle.cores.proofs.Placement.is_faulty.Goals.{then-count-gt8-via-then-count-gt8, then-count-gt8-via-else-count-gt8+then-cores-self, then-cores-core-via-then-cores-core, then-cores-core-via-else-cores-core+then-used-core, then-cores-core-via-else-cores-core+else-used-core+then-n-row, then-cores-core-via-else-cores-core+else-used-core+else-n-row+then-row-least}
use Rattle.cores.proofs.Placement.is_faulty.Goals as goal

-- A place with a fault is a fault of the memory.
bad_here : (last : Placement) (n cores : ℕ) {i : ℕ} → last.count ≤ core_limit → last.count ≤ cores → i < last.count → bad_place last (λ row. ltb row n) cores i ≡ true →
    true ≡ misremembers last (λ row. ltb row n) cores
bad_here last n cores few fewer here h = bad_somewhere last n cores few fewer (some_if _ _ _ here h)

-- The mark of its core says whether an earlier place has it,
core_marked : (last : Placement) (i : ℕ) {used : List Bool} → Marked (core_in last) 256 i used → core_in last i < 256 → {t : Bool} →
    get_or used (core_in last i) false ≡ t → some (λ j. eqb (core_in last j) (core_in last i)) i ≡ t
core_marked last i so small e = sym (so.says _ small) ∙ e

pub returns-then-count-gt8 : goal.returns-then-count-gt8
returns-then-count-gt8 c =
    elim c.then-count-gt8.branch [
      | then-count-gt8-via-then-count-gt8 w ↦ too_many_places _ _ _ w.if-count-gt8.true
      | then-count-gt8-via-else-count-gt8+then-cores-self w ↦ more_than_cores _ _ _ w.if-cores-self.true
    ]

pub loop-i-init : goal.loop-i-init
loop-i-init c = (looking_begins _ _, marking_begins _ 256, least_begins _)

-- Once three tests have passed it has a fault exactly if its row does not rise.
pub returns-then-cores-core : goal.returns-then-cores-core
returns-then-cores-core c =
    let a = c.args in
    let i = c.loop-i.i in
    let small : core_in a.self i < 256 = search rules in
    bad_here a.self _ _ c.if-count-gt8.false c.if-cores-self.false c.loop-i-test.true
    (elim c.then-cores-core.branch [
      | then-cores-core-via-then-cores-core w ↦ no_such_core a.self _ _ i w.if-cores-core.true
      | then-cores-core-via-else-cores-core+then-used-core w ↦
          core_twice a.self _ _ i w.if-cores-core.false (core_marked a.self i c.loop-i.invariant.1 small w.if-used-core.true)
      | then-cores-core-via-else-cores-core+else-used-core+then-n-row w ↦
          no_such_row a.self _ _ i w.if-cores-core.false (core_marked a.self i c.loop-i.invariant.1 small w.if-used-core.false) w.if-n-row.true
      | then-cores-core-via-else-cores-core+else-used-core+else-n-row+then-row-least w ↦
          let once = core_marked a.self i c.loop-i.invariant.1 small w.if-used-core.false in
          falls_or_not a.self a.n a.cores i w.if-cores-core.false once w.if-n-row.false ∙ c.loop-i.invariant.2.falls _ w.if-row-least.true
    ])

pub loop-i-preserved : goal.loop-i-preserved
loop-i-preserved c =
    let a = c.args in
    let i = c.loop-i.i in
    let inv = c.loop-i.invariant in
    let small : core_in a.self i < 256 = search rules in
    let once = core_marked a.self i inv.1 small c.if-used-core.false in
    let judged = falls_or_not a.self a.n a.cores i c.if-cores-core.false once c.if-n-row.false in (
      looks_on _ _ inv.0 c.loop-i-test.true (judged ∙ does_not_fall inv.2 c.if-row-least.false),
      marks_one_more _ _ inv.1 refl small,
      least_goes_on inv.2 c.if-row-least.false refl,
    )

pub returns : goal.returns
returns c = bad_somewhere _ _ _ c.if-count-gt8.false c.if-cores-self.false (none_at_all _ _ c.loop-i.invariant.0 c.loop-i-test.false)
