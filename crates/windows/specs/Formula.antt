-- The group deadline without a walk (02, Four): "For heavy rows, with d counted from the phase, D is f + ceil(g·p/(p-e)) where g = ceil(d·(p-e)/p)." "Keep
-- the walk's definition as the text people read": what D is stays in specs/Group.antt; this is how the code finds it.
use Rattle.std.specs.Prelude.{ℕ, ◌+◌, ◌-◌, ◌*◌, ◌≤◌, ◌<◌, ◌≡◌}
use Rattle.facts.specs.Rounding.{ceil_div}
use Rattle.windows.specs.Windows.{start, deadline, bit}
use Rattle.windows.specs.Group.{group_deadline}
use Rattle.windows.specs.Question.{window_reply, Unfit}

-- "g = ceil(d·(p-e)/p)", of any d
unfoldable pub gaps : ℕ → ℕ → ℕ → ℕ
gaps e p d = ceil_div (d * (p - e)) p

-- "D is f + ceil(g·p/(p-e))", of any f and d
unfoldable pub formula : ℕ → ℕ → ℕ → ℕ → ℕ
formula e p f d = f + ceil_div (gaps e p d * p) (p - e)

-- The D of subtask i, "with d counted from the phase": from the origin o.
unfoldable pub group_by_formula : ℕ → ℕ → ℕ → ℕ → ℕ
group_by_formula e p o i = formula e p o (deadline e p o i - o)

-- Of every heavy row below weight one, whatever the origin and the subtask, the formula gives what the walk gives.
abbrev pub FormulaGivesWalk : Type 0
FormulaGivesWalk = (e p o i : ℕ) → 0 < e → e < p → p ≤ 2 * e → 0 < i → group_by_formula e p o i ≡ group_deadline e p o i

-- So the window question answers with the formula's D, if the row is heavy and below weight one: "The formula of request Four is used only below weight one" (02, Six).
abbrev pub AnswersByFormula : Type 0
AnswersByFormula =
    (e p f i : ℕ) → e < p → p ≤ 2 * e → (Unfit e p i → ⊥) →
    window_reply e p f i ≡ record { number = 0; r = start e p f i; d = deadline e p f i; b = bit e p i; D = group_by_formula e p f i }
