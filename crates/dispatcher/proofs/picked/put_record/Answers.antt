use mathlib.Core.Path.{ap, ◌∙◌}
use mathlib.Core.List.{◌∷◌, ◌++◌}
use native.Mathlib.Omega.{arith}
use lib.ListN.{length, take, set}
use Rattle.facts.proofs.Lent.{lent_from, comes_back}
use Rattle.trace.specs.Record.{with_front}
use Rattle.trace.proofs.Writing.{bytes_are_record}
use Rattle.dispatcher.specs.Looking.{rows_before}
use Rattle.dispatcher.proofs.picked.put_record.Goals as goal

pub returns : goal.returns
returns c =
    let a = c.args in
    let headed = set (set a.part.now 0 a.k) 1 a.picked in
    let rows = rows_before a.keys.now (length a.keys.now) a.first in
    comes_back headed 2 _
    ∙ (ap (λ l. take 2 headed ++ l) (c.put_rows.ensures ∙ ap (λ l. with_front l rows) (lent_from headed 2))
    ∙ (bytes_are_record a.part.now rows a.k a.picked (omega (arith, c.requires.1))
    ∙ ap (λ n. with_front a.part.now (a.k ∷ n ∷ rows)) c.requires.0))
