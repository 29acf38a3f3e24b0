use Prim.Native.Nat.{◌<◌}
use mathlib.Core.Path.{sym, ap, ◌∙◌}
use mathlib.Core.Bool.{false, not, ◌&&◌, and-false, true≢false}
use native.Mathlib.Omega.{arith}
use borrow.Author.Rules.{rules}
use borrow.Author.Tests.{le-ltb}
use lib.Dec.{eqb}
use lib.ListN.{get_or, get_or-eq_default}
use Rattle.cores.specs.Turns.{not_picked}
use Rattle.cores.proofs.turns.may_stay.Goals as goal
use Rattle.cores.proofs.turns.may_stay.Goals.{then-core-lt32, else-core-lt32}

pub returns-then-own-row-ne-OTHER : goal.returns-then-own-row-ne-OTHER
returns-then-own-row-ne-OTHER c =
    let a = c.args in
    let small : a.row < 256 = search rules in
    elim c.if-core-lt32.branch [
      | then-core-lt32 w ↦ (ap (λ t. t && get_or a.free.now a.core false) (sym c.if-own-row-ne-OTHER.true ∙ w.value-is), small)
      | else-core-lt32 w ↦ absurd (true≢false (sym c.if-own-row-ne-OTHER.true ∙ w.value-is ∙ le-ltb a.core 32 w.if-core-lt32.false))
    ]

pub returns-else-own-row-ne-OTHER : goal.returns-else-own-row-ne-OTHER
returns-else-own-row-ne-OTHER c =
    let a = c.args in
    let small : a.row < 256 = search rules in
    let picked = not (eqb (get_or a.own.now a.row 0) not_picked) in
    elim c.if-core-lt32.branch [
      | then-core-lt32 w ↦ (c.if-own-row-ne-OTHER.false ∙ ap (λ t. t && get_or a.free.now a.core false) (sym c.if-own-row-ne-OTHER.false ∙ w.value-is), small)
      | else-core-lt32 w ↦
          let none = get_or-eq_default a.free.now false {n = a.core} (omega (arith, c.told-free, w.if-core-lt32.false)) in
          (c.if-own-row-ne-OTHER.false ∙ sym (ap (λ t. picked && t) none ∙ and-false picked), small)
    ]
