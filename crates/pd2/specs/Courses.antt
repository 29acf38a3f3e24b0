-- What becomes of rows from time 0 on, slot after slot, by any order, where nobody is favoured: no state, no limits and no refusals.
use Rattle.std.specs.Prelude.{ℕ, zero, suc, ◌≡◌, List, [], ◌∷◌, map, Bool, ◌&&◌, ◌||◌, ltb, eqb, length}
use Rattle.facts.specs.Counting.{those}
use Rattle.table.specs.declared.Row.{Row}
use Rattle.pd2.specs.Ready.{late}
use Rattle.pd2.specs.Order.{Rank}
use Rattle.pd2.specs.Picks.{picked}
use Rattle.pd2.specs.Choice.{row_at, quanta_at, ready_in, favours_nobody, goes_before_by, pd2_picks, given}

-- a plain row e/p with phase 0
abbrev pub plain : ℕ → ℕ → Row
plain e p = record { tank = 0; cost = e; period = p; phase = 0; kind = 0 }

-- The quanta at time t, from none at time 0, with k cores free in every slot, by an order of ranks.
unfoldable pub quanta_by : (Rank → Rank → Bool) → List Row → ℕ → ℕ → List ℕ
quanta_by order rows k zero = map (λ row. 0) rows
quanta_by order rows k (suc t) =
    let quanta = quanta_by order rows k t in
    given (picked (ready_in rows quanta t) (goes_before_by order rows quanta favours_nobody) (length rows) k) 0 quanta

-- The rows that are late at time t.
abbrev pub late_by : (Rank → Rank → Bool) → List Row → ℕ → ℕ → List ℕ
late_by order rows k t = those (λ i. late (row_at rows i) (quanta_at (quanta_by order rows k t) i) t) (length rows)

-- PD2's order without the bit: "smaller d; .. then the lower row number". D is asked for only where both bits are 1, so it goes too.
abbrev pub bit_left_out : Rank → Rank → Bool
bit_left_out x y = ltb x.d y.d || (eqb x.d y.d && ltb x.row y.row)

-- "if both have b = 1, larger D": D is not asked for where a bit is 0 (docs/DECISIONS.md, 28). On one core at time 3 the rows 1/4, with no
-- quanta, and 3/4, with two, both have d 4 and b 0; D is 0 and 4, and the lower row number decides.
abbrev pub BitZeroAsksNoGroup : Type 0
BitZeroAsksNoGroup = pd2_picks (plain 1 4 ∷ plain 3 4 ∷ []) (0 ∷ 2 ∷ []) favours_nobody 3 1 ≡ 0 ∷ []
