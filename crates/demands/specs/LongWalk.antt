-- "The long walk" (02, Four): "For heavy rows, with d counted from the phase, D is f + ceil(g·p/(p-e)) where g = ceil(d·(p-e)/p). What the answer promises
-- stays. Keep the walk's definition as the text people read."
use Rattle.std.specs.Prelude.{ℕ, ◌≡◌, Option}
use Rattle.counts.specs.declared.Subtask.{Subtask}
use Rattle.windows.specs.declared.times.Window.{Window}
use Rattle.windows.specs.Question.{window_reply}
use Rattle.windows.specs.Formula.{FormulaGivesWalk, AnswersByFormula}
use Rattle.demands.specs.Promises.{windows·window, windows·window_by_walk}

-- "What the answer promises stays": who keeps the promise of `window`, and who keeps that of `window_by_walk`, give one answer.
abbrev pub OneAnswer : Type 0
OneAnswer =
    (e p f : ℕ) (i : Subtask) (found walked : Option Window) → windows·window e p f i found → windows·window_by_walk e p f i walked → found ≡ walked

pub record LongWalk : Type 0 where
  -- "D is f + ceil(g·p/(p-e)) where g = ceil(d·(p-e)/p)": of every heavy row below weight one that is what the walk gives,
  pub formula_gives_walk : FormulaGivesWalk
  -- and so the D of every window of such a row that is answered: "The formula of request Four is used only below weight one" (02, Six).
  pub answers_by_formula : AnswersByFormula
  pub one_answer : OneAnswer
  -- "A row of 65,534 in 65,535 makes the group deadline walk a whole job": from its first subtask over 65,534 windows;
  pub whole_job : window_reply 65_534 65_535 0 1 ≡ record { number = 0; r = 0; d = 2; b = 1; D = 65_535 }
  -- and, with the largest phase, from the last subtask that may be asked for over 17,170.
  pub last_subtask_is : window_reply 65_534 65_535 65_535 1_000_000_000_001 ≡ record { number = 0; r = 1_000_015_324_789; d = 1_000_015_324_791; b = 1; D = 1_000_015_341_960 }
