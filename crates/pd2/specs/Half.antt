-- "Show that no pick changes" (02, Three): who is picked, beside who was picked by the group deadline as it was. Of what was, no function uses anything.
use Rattle.std.specs.Prelude.{ℕ, ◌+◌, ◌≡◌, List, Bool, length}
use Rattle.windows.specs.Former.{former_group_deadline}
use Rattle.table.specs.declared.Row.{Row}
use Rattle.pd2.specs.Ready.{origin_of}
use Rattle.pd2.specs.Order.{Rank, before}
use Rattle.pd2.specs.Picks.{picks}
use Rattle.pd2.specs.Choice.{row_at, quanta_at, ready_in, rank_at, goes_before_by, pd2_picks}

-- a rank with another group deadline
abbrev pub with_group : Rank → ℕ → Rank
with_group x D = record { d = x.d; b = x.b; D = D; favoured = x.favoured; row = x.row }

-- The group deadline of a row with q quanta, as it was,
abbrev pub former_group_of : Row → ℕ → ℕ
former_group_of row q = former_group_deadline row.cost row.period (origin_of row) (q + 1)

-- and the rank of row i with it.
abbrev pub former_rank_at : List Row → List ℕ → (ℕ → Bool) → ℕ → Rank
former_rank_at rows quanta favours i = with_group (rank_at rows quanta favours i) (former_group_of (row_at rows i) (quanta_at quanta i))

-- Row j went before row i.
abbrev pub went_before : List Row → List ℕ → (ℕ → Bool) → ℕ → ℕ → Bool
went_before rows quanta favours j i = before (former_rank_at rows quanta favours j) (former_rank_at rows quanta favours i)

-- The rows that were picked for slot t with k cores free.
abbrev pub former_picks : List Row → List ℕ → (ℕ → Bool) → ℕ → ℕ → List ℕ
former_picks rows quanta favours t k = picks (ready_in rows quanta t) (went_before rows quanta favours) (length rows) k

-- Whatever the rows, their quanta, the slot and the cores, wild ones too, and whoever is favoured: a row goes before another exactly if it did, and no
-- pick changes.
pub record NoPickChanges : Type 0 where
  pub order : (rows : List Row) (quanta : List ℕ) (favours : ℕ → Bool) (j i : ℕ) → goes_before_by before rows quanta favours j i ≡ went_before rows quanta favours j i
  pub picks : (rows : List Row) (quanta : List ℕ) (favours : ℕ → Bool) (t k : ℕ) → pd2_picks rows quanta favours t k ≡ former_picks rows quanta favours t k
