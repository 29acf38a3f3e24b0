use Rattle.std.proofs.Common.{◌≡◌, [], ◌∷◌, ◌+◌, ◌/◌, ◌%◌, sym, ap, ◌∙◌, arith}
use Rattle.std.proofs.Math.Nat.{div-mul-le_self}
use Rattle.printer.proofs.Writing.{wrote_as, wrote_on}
use Rattle.printer.proofs.Decimal.{one_digit, more_digits, few_digits}
use Rattle.printer.proofs.write.Page.+number.Goals as goal
use Rattle.printer.proofs.write.Page.+number.Goals.{then-n-ge10, else-n-ge10}

pub byte-requires : goal.byte-requires
byte-requires t c =
    let n = c.args.n in
    elim c.if-n-ge10.branch [
      | then-n-ge10 w ↦ rw w.self-is (omega (arith, w.number.ensures.wrote.place, few_digits 19 (n / 10) (omega (arith, div-mul-le_self n 10, c.ranges.n.fits)), c.requires))
      | else-n-ge10 w ↦ rw w.self-is (omega (arith, c.requires))
    ]

pub returns-clause-wrote : goal.returns-clause-wrote
returns-clause-wrote t c =
    let n = c.args.n in
    elim c.if-n-ge10.branch [
      | then-n-ge10 w ↦ wrote_as (sym (more_digits n w.if-n-ge10.true)) (wrote_on w.number.ensures.wrote (rw w.self-is at c.byte.ensures.wrote))
      | else-n-ge10 w ↦
          let only : n % 10 ≡ n = omega (arith, w.if-n-ge10.false) in
          wrote_as (ap (λ d. (48 + d) ∷ []) only ∙ sym (one_digit n w.if-n-ge10.false)) (rw w.self-is at c.byte.ensures.wrote)
    ]
