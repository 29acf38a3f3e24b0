-- Who runs in a slot (01, "Who is ready, and who goes first"; 02, Eight, for who is favoured), of rows, quanta and numbers that may be wild.
use Rattle.std.specs.Prelude.{ℕ, ◌<◌, ◌≡◌, List, Bool, true, false, length, get_or}
use Rattle.table.specs.declared.Row.{Row}
use Rattle.pd2.specs.Verdict.{is_yes, answered, verdict}
use Rattle.pd2.specs.Ready.{ready}
use Rattle.pd2.specs.Order.{before}
use Rattle.pd2.specs.Picks.{picks}
use Rattle.pd2.specs.Choice.{row_at, quanta_at, goes_before_by, pd2_picks}

-- A row is answered to be ready; one of which pd2 cannot say so is not ready.
abbrev pub says_ready : Row → ℕ → ℕ → Bool
says_ready row q t = is_yes (verdict (answered row q t) (ready row q t))

-- Row i is.
abbrev pub says_ready_in : List Row → List ℕ → ℕ → ℕ → Bool
says_ready_in rows quanta t i = says_ready (row_at rows i) (quanta_at quanta i) t

-- Those are favoured among full ties that are marked.
abbrev pub favours_marked : List Bool → ℕ → Bool
favours_marked marks i = get_or marks i false

-- "The first min(free cores, ready rows) are picked", in PD2's order
abbrev pub chosen : List Row → List ℕ → (ℕ → Bool) → ℕ → ℕ → List ℕ
chosen rows quanta favours t k = picks (says_ready_in rows quanta t) (goes_before_by before rows quanta favours) (length rows) k

-- Where pd2 has an answer for every row, they are the rows that PD2 picks.
abbrev pub ChosenAsPd2 : Type 0
ChosenAsPd2 =
    (rows : List Row) (quanta : List ℕ) (favours : ℕ → Bool) (t k : ℕ) →
    ((i : ℕ) → i < length rows → answered (row_at rows i) (quanta_at quanta i) t ≡ true) →
    chosen rows quanta favours t k ≡ pd2_picks rows quanta favours t k
