-- The walk of the group deadline, a window at a time. Assumes nothing.
use mathlib.Core.Path.{◌≡◌, sym, ◌∙◌}
use mathlib.Core.Bool.{Bool, true, false, not}
use Prim.Native.Nat.{ℕ, ◌+◌, ◌-◌, ◌*◌, ◌≤◌, ◌<◌}
use native.Mathlib.Decide.{dec_lt}
use native.Mathlib.Omega.{arith}
use borrow.Author.Tests.{eq-eqb, ne_eqb, lt-ltb, le-ltb, le-leb, lt-leb, leb-true, leb-false, not-true, not-false}
use Rattle.facts.specs.First.{at_first}
use Rattle.facts.specs.Loops.{Reached, Found}
use Rattle.facts.proofs.Loops.{begins, not_past, stops_here, goes_on, found}
use Rattle.windows.specs.Windows.{deadline, bit, window_length}
use Rattle.windows.specs.Group.{heavy, stops, stop_time, group_deadline}
use Rattle.windows.proofs.Windows.{last_of_job, bit_at_job_end, job_end_is_near}

-- for callers

-- A light row's group deadline is 0,
pub light_has_none : (e p o i : ℕ) → 2 * e < p → group_deadline e p o i ≡ 0
unfolding group_deadline heavy
light_has_none e p o i h = simp (lt-leb _ _ h)

-- a heavy row's is what its walk gives.
pub heavy_walks : (e p o i : ℕ) → p ≤ 2 * e → group_deadline e p o i ≡ at_first (stops e p o i) (stop_time e p o) i e
unfolding group_deadline heavy
heavy_walks e p o i h = simp (le-leb _ _ h)

module _ (e p o i j : ℕ) where
  -- The walk stops by a bit of 0,
  pub bit_stops : bit e p j ≡ 0 → stops e p o i j ≡ true
  unfolding stops
  bit_stops b = simp (eq-eqb _ _ b)

  -- or past i by a window of 3 slots;
  pub length_stops : (bit e p j ≡ 0 → ⊥) → i < j → window_length e p o j ≡ 3 → stops e p o i j ≡ true
  unfolding stops
  length_stops b l w = simp (ne_eqb _ _ b, lt-ltb _ _ l, eq-eqb _ _ w)

  -- else it goes on.
  pub else_passes : (bit e p j ≡ 0 → ⊥) → (i < j → window_length e p o j ≡ 3 → ⊥) → stops e p o i j ≡ false
  unfolding stops
  else_passes b w = go (dec_lt i j)
    where
      go : Dec (i < j) → stops e p o i j ≡ false
      go (yes l) = simp (ne_eqb _ _ b, lt-ltb _ _ l, ne_eqb _ _ (w l))
      go (no l) = simp (ne_eqb _ _ b, le-ltb i j (omega arith))

-- What it gives: the deadline where the bit is 0,
pub bit_gives : (e p o j : ℕ) → bit e p j ≡ 0 → stop_time e p o j ≡ deadline e p o j
unfolding stop_time
bit_gives e p o j b = simp (eq-eqb _ _ b)

-- and one less where it is not.
pub length_gives : (e p o j : ℕ) → (bit e p j ≡ 0 → ⊥) → stop_time e p o j ≡ deadline e p o j - 1
unfolding stop_time
length_gives e p o j b = simp (ne_eqb _ _ b)

-- W8: the walk ends within one job, at the first window that stops it.
pub walk_ends_within_job : (e p o i : ℕ) → 0 < e → Found (stops e p o i) (stop_time e p o) i e (last_of_job e i)
walk_ends_within_job e p o i he =
    found (stops e p o i) (stop_time e p o)
    (job_end_is_near e i he).0
    (job_end_is_near e i he).1
    (bit_stops e p o i (last_of_job e i) (bit_at_job_end e p i))

-- for the functions

-- A row that the test says to be light has no group deadline, and any other is of weight one half or more.
module _ (e p : ℕ) {light : Bool} (said : light ≡ not (heavy e p)) where
  pub said_light : light ≡ true → (o i : ℕ) → group_deadline e p o i ≡ 0
  unfolding heavy
  said_light is o i = light_has_none e p o i (leb-false p (2 * e) (not-true _ (sym said ∙ is)))

  pub said_heavy : light ≡ false → p ≤ 2 * e
  unfolding heavy
  said_heavy is = leb-true p (2 * e) (not-false _ (sym said ∙ is))

-- for the loop that walks

-- The walk from i has come to j.
abbrev pub Walking : ℕ → ℕ → ℕ → ℕ → ℕ → Type 0
Walking e p o i j = Reached (stops e p o i) (stop_time e p o) i e j

pub walk_begins : (e p o i : ℕ) → Walking e p o i i
walk_begins e p o i = begins (stops e p o i) (stop_time e p o) i e

module _ (e p o i j : ℕ) (he : 0 < e) (w : Walking e p o i j) where
  -- It is still in the job that holds i.
  pub walk_is_near : (i ≤ j) × (j < i + e)
  walk_is_near =
      let near = job_end_is_near e i he in
      let to = not_past _ _ w near.0 (bit_stops e p o i (last_of_job e i) (bit_at_job_end e p i)) in
      omega (arith, w.from)

  module _ (heavy : p ≤ 2 * e) where
    -- A bit of 0 ends it,
    pub ends_by_bit : bit e p j ≡ 0 → deadline e p o j ≡ group_deadline e p o i
    ends_by_bit b =
        sym (heavy_walks e p o i heavy ∙ stops_here _ _ w walk_is_near.1 (bit_stops e p o i j b) ∙ bit_gives e p o j b)

    -- so does, past i, a window of 3 slots.
    pub ends_by_length : (bit e p j ≡ 0 → ⊥) → i < j → window_length e p o j ≡ 3 → deadline e p o j - 1 ≡ group_deadline e p o i
    ends_by_length b l k =
        sym (heavy_walks e p o i heavy ∙ stops_here _ _ w walk_is_near.1 (length_stops e p o i j b l k) ∙ length_gives e p o j b)

  -- Else it goes on.
  pub walks_on : (bit e p j ≡ 0 → ⊥) → (i < j → window_length e p o j ≡ 3 → ⊥) → Walking e p o i (j + 1)
  walks_on b k = goes_on _ _ w walk_is_near.1 (else_passes e p o i j b k)
