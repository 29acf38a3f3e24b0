-- The window question (01, "Windows"): "A window may be asked for alone, by e, p, f (each 0 to 65,535) and i."
use Rattle.std.specs.Prelude.{ℕ, ◌+◌, ◌<◌, ◌≡◌, Bool, cond, not, ◌&&◌, ◌||◌, ltb, leb, eqb, Option, Some, None}
use Rattle.counts.specs.Limits.{time_limit}
use Rattle.windows.specs.declared.times.Window.{Window}
use Rattle.windows.specs.Windows.{start, deadline, bit}
use Rattle.windows.specs.Group.{group_deadline}

-- What comes back: 01's number, and r, d, b and D.
pub record Reply : Type 0 where
  pub number : ℕ
  pub r : ℕ
  pub d : ℕ
  pub b : ℕ
  pub D : ℕ

-- a refusal: "then r, d, b and D come back as 0"
abbrev pub refused_reply : Reply
refused_reply = record { number = 50; r = 0; d = 0; b = 0; D = 0 }

-- What each case of the answer stands for.
abbrev pub reply_of : Option Window → Reply
reply_of (Some w) = record { number = 0; r = w.start.0; d = w.deadline.0; b = w.bit; D = w.group.0 }
reply_of None = refused_reply

-- "the window question takes subtasks up to one past that", the time limit (02, Seven)
abbrev pub last_subtask : ℕ
last_subtask = time_limit + 1

-- "It is refused if e = 0", if "e above p" (02, Six: "18 narrowed, in the table and in 50"), "or if i is not in 1 to 1,000,000,001", of which the last
-- is higher now: "30, 32 and 50 use the new limit" (02, Seven)
abbrev pub refused : ℕ → ℕ → ℕ → Bool
refused e p i = eqb e 0 || ltb p e || not (leb 1 i && leb i last_subtask)

-- what comes back
unfoldable pub window_reply : ℕ → ℕ → ℕ → ℕ → Reply
window_reply e p f i =
    cond (refused e p i)
    refused_reply
    (record { number = 0; r = start e p f i; d = deadline e p f i; b = bit e p i; D = group_deadline e p f i })

-- The same, said case by case: a question that is refused,
pub data Unfit (e p i : ℕ) : Type 0 where
  no_cost : e ≡ 0 → Unfit e p i
  above_period : p < e → Unfit e p i
  before_first : i < 1 → Unfit e p i
  past_last : last_subtask < i → Unfit e p i

-- with 50, and with its other parts 0; every other question is answered with its window.
pub record IsAnswered (e p f i : ℕ) : Type 0 where
  pub if_unfit : Unfit e p i → window_reply e p f i ≡ refused_reply
  pub if_fit : (Unfit e p i → ⊥) →
      window_reply e p f i ≡ record { number = 0; r = start e p f i; d = deadline e p f i; b = bit e p i; D = group_deadline e p f i }

abbrev pub WindowsAreAnswered : Type 0
WindowsAreAnswered = (e p f i : ℕ) → IsAnswered e p f i
