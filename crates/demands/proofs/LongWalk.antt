-- The formula gives what the long walk gives, and there is one answer. Assumes nothing.
use mathlib.Core.Path.{refl, ◌∙◌}
use native.Mathlib.Omega.{arith}
use Rattle.facts.specs.Rounding.{ceil_div}
use Rattle.windows.specs.Windows.{start, deadline, bit}
use Rattle.windows.specs.Formula.{gaps, formula, group_by_formula}
use Rattle.windows.proofs.Question.{window_is_determined, is_fit}
use Rattle.windows.proofs.Formula.{formula_gives_walk, answers_by_formula}
use Rattle.demands.specs.LongWalk.{LongWalk}

-- By the formula the windows of the row of 65,534 in 65,535 are computed without a walk.
pub long_walk : LongWalk
unfolding ceil_div start deadline bit gaps formula group_by_formula
long_walk =
    record {
      formula_gives_walk = formula_gives_walk;
      answers_by_formula = answers_by_formula;
      one_answer = λ e p f i found walked. window_is_determined e p f i.0 found walked;
      whole_job = answers_by_formula 65_534 65_535 0 1 (omega arith) (omega arith) (is_fit _ _ _ (omega arith) (omega arith) (omega arith) (omega arith)) ∙ refl;
      last_subtask_is = answers_by_formula 65_534 65_535 65_535 1_000_000_000_001 (omega arith) (omega arith) (is_fit _ _ _ (omega arith) (omega arith) (omega arith) (omega arith)) ∙ refl;
    }
