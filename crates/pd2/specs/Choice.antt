-- PD2's picks: who is ready, by whose order (01, "Who is ready, and who goes first"). Row i has the quanta at place i, and `favours i` says that it is
-- favoured among full ties (02, Eight): nothing knows who is, or why.
use Rattle.std.specs.Prelude.{ℕ, ◌+◌, List, [], ◌∷◌, Bool, false, cond, length, get_or}
use Rattle.table.specs.declared.Row.{Row}
use Rattle.table.specs.Causes.{zero_row}
use Rattle.pd2.specs.Ready.{ready}
use Rattle.pd2.specs.Order.{Rank, rank_of, with_favour, before}
use Rattle.pd2.specs.Picks.{picks, Strict}

abbrev pub row_at : List Row → ℕ → Row
row_at rows i = get_or rows i zero_row

abbrev pub quanta_at : List ℕ → ℕ → ℕ
quanta_at quanta i = get_or quanta i 0

-- Row i is ready in slot t.
abbrev pub ready_in : List Row → List ℕ → ℕ → ℕ → Bool
ready_in rows quanta t i = ready (row_at rows i) (quanta_at quanta i) t

-- The rank of row i.
abbrev pub rank_at : List Row → List ℕ → (ℕ → Bool) → ℕ → Rank
rank_at rows quanta favours i = with_favour (rank_of (row_at rows i) i (quanta_at quanta i)) (favours i)

-- In format 1 nobody is favoured.
abbrev pub favours_nobody : ℕ → Bool
favours_nobody i = false

-- Row j goes before row i, by an order of ranks.
abbrev pub goes_before_by : (Rank → Rank → Bool) → List Row → List ℕ → (ℕ → Bool) → ℕ → ℕ → Bool
goes_before_by order rows quanta favours j i = order (rank_at rows quanta favours j) (rank_at rows quanta favours i)

-- The rows picked for slot t with k cores free, by an order of ranks; PD2's is `before`.
abbrev pub picks_by : (Rank → Rank → Bool) → List Row → List ℕ → (ℕ → Bool) → ℕ → ℕ → List ℕ
picks_by order rows quanta favours t k = picks (ready_in rows quanta t) (goes_before_by order rows quanta favours) (length rows) k

abbrev pub pd2_picks : List Row → List ℕ → (ℕ → Bool) → ℕ → ℕ → List ℕ
pd2_picks = picks_by before

-- "each picked row has one quantum more": the quanta from place i on
unfoldable pub given : (ℕ → Bool) → ℕ → List ℕ → List ℕ
given is_picked i [] = []
given is_picked i (q ∷ quanta) = (q + cond (is_picked i) 1 0) ∷ given is_picked (i + 1) quanta

-- PD2's order is strict among any rows, whatever their quanta and whoever is favoured: so its picks are the best (`PicksAreBest`).
abbrev pub Pd2IsStrict : Type 0
Pd2IsStrict = (rows : List Row) (quanta : List ℕ) (favours : ℕ → Bool) (t n : ℕ) → Strict (ready_in rows quanta t) (goes_before_by before rows quanta favours) n
