-- Between functions: how a slot goes over its rows, and what it makes of the keys of those that are ready. No part of what 01 says.
use Rattle.std.specs.Prelude.{ℕ, ◌+◌, ◌*◌, ◌%◌, ◌≤◌, ◌<◌, ◌≡◌, List, map, Bool, true, false, cond, not, ◌&&◌, ltb, length, get_or, Option, MatchOption}
use Rattle.facts.specs.Counting.{some, those}
use Rattle.facts.specs.First.{Lowest}
use Rattle.facts.specs.Rounding.{ceil_div}
use Rattle.counts.specs.declared.Quanta.{Quanta}
use Rattle.counts.specs.Limits.{most, time_limit}
use Rattle.counts.specs.Numbers.{numbers_of}
use Rattle.table.specs.declared.Row.{Row}
use Rattle.table.specs.Limits.{row_limit}
use Rattle.pd2.specs.Share.{within, CanBe}
use Rattle.pd2.specs.Ready.{ready}
use Rattle.pd2.specs.Choice.{quanta_at, rank_at, ready_in}
use Rattle.trace.specs.Records.{names}
use Rattle.choice.specs.Keys.{end_of, key_for, HasKey, key_in}
use Rattle.dispatcher.specs.declared.Stand.{Stand}
use Rattle.dispatcher.specs.declared.Stand.TheVariants.{Breaks, Waits, Ready}
use Rattle.dispatcher.specs.Broken.{of_row_at}
use Rattle.dispatcher.specs.Usable.{broken_row}

-- Where a row stands, by whether it breaks the state and whether it is ready,
abbrev pub stand_of : Bool → Bool → Stand
stand_of breaks is_ready = cond breaks Breaks (cond is_ready Ready Waits)

-- and of an early-release row that is ahead of its share: so many jobs are released, and it may have had their cost. (That this is where such a row stands is `ahead_by_jobs`,
-- proofs/Looking.antt.)
unfoldable pub ahead_stand : ℕ → ℕ → ℕ → ℕ → Stand
ahead_stand cost period q elapsed = let released = ceil_div elapsed period * cost in stand_of (ltb released q) (ltb q released)

-- Numbers of a row and a time that are within their limits.
pub record InLimits (cost period elapsed : ℕ) : Type 0 where
  pub period_some : 0 < period
  pub cost_small : cost < 65_536
  pub period_small : period < 65_536
  pub elapsed_small : elapsed ≤ time_limit

-- A ready row of a state: it can be, and it is inside its share.
pub record CanBeReady (row : Row) (q t : ℕ) : Type 0 where
  pub can : CanBe row
  pub quanta : q ≤ t
  pub time : t ≤ time_limit
  pub inside : within row q t ≡ true
  pub next : ready row q t ≡ true

-- How the key of each row ends.
pub record EndsAre (favours : ℕ → Bool) (ends : List ℕ) : Type 0 where
  pub long : length ends ≡ 32
  pub each : (i : ℕ) → i < 32 → get_or ends i 0 ≡ end_of (favours i) i

-- The ready rows, rising, and the key of row i.
abbrev pub ready_rows : List Row → List ℕ → ℕ → List ℕ
ready_rows rows quanta t = those (ready_in rows quanta t) (length rows)

abbrev pub key_at : List Row → List ℕ → (ℕ → Bool) → ℕ → ℕ
key_at rows quanta favours i = key_for (rank_at rows quanta favours i)

-- The keys of the ready rows stand at the front of an array.
pub record ReadyKeys (rows : List Row) (quanta : List ℕ) (favours : ℕ → Bool) (t : ℕ) (keys : List ℕ) (found : ℕ) : Type 0 where
  pub few : found ≤ 32
  pub count : found ≡ length (ready_rows rows quanta t)
  pub each : (j : ℕ) → j < found → key_in keys j ≡ key_at rows quanta favours (get_or (ready_rows rows quanta t) j 0)
  pub low : (i : ℕ) → i < length rows → ready_in rows quanta t i ≡ true → key_at rows quanta favours i < most
  pub has : (i : ℕ) → i < length rows → ready_in rows quanta t i ≡ true → HasKey (rank_at rows quanta favours i)

-- What one pass over the rows finds: that one breaks the state or, in a state that runs on, the keys of the ready rows.
abbrev pub row_breaks : List Row → List ℕ → ℕ → Bool → Bool
row_breaks rows quanta t stopped = some (of_row_at rows quanta (broken_row stopped t)) (length rows)

abbrev pub LooksAt : List Row → List ℕ → (ℕ → Bool) → ℕ → Bool → List ℕ → Option ℕ → Type 0
LooksAt rows quanta favours t stopped keys answer =
    MatchOption answer (row_breaks rows quanta t stopped ≡ true)
    (λ found. (row_breaks rows quanta t stopped ≡ false) × (stopped ≡ false → ReadyKeys rows quanta favours t keys found))

-- The rows whose keys lie before the first that is left out: a key ends with its row's number, and 32 more where the row is not favoured.
abbrev pub rows_before : List ℕ → ℕ → ℕ → List ℕ
rows_before keys found first = map (λ j. key_in keys j % 32) (those (λ j. ltb (key_in keys j) first) found)

-- Where the keys of deadlines past t + 1, the end of slot t, begin: those of t + 2, with b = 1. A key has 4,194,304 = 65,536·64 times twice its deadline in front.
abbrev pub later_keys : ℕ → ℕ
later_keys t = (2 * t + 4) * 4_194_304

-- A row is left out and due soon, by its key.
abbrev pub is_due : ℕ → ℕ → ℕ → Bool
is_due first soon key = not (ltb key first) && ltb key soon

-- One of them stands at the lowest place of any,
pub record LateAt (keys : List ℕ) (found first soon row : ℕ) : Type 0 where
  pub place : ℕ
  pub there : place < found
  pub lowest : Lowest (λ j. is_due first soon (key_in keys j)) found place
  pub same : row ≡ key_in keys place % 32

-- or there is none.
abbrev pub LateRow : List ℕ → ℕ → ℕ → ℕ → Option ℕ → Type 0
LateRow keys found first soon answer =
    MatchOption answer ((j : ℕ) → j < found → is_due first soon (key_in keys j) ≡ false) (λ row. LateAt keys found first soon row)

-- Rows that can be given a quantum each: they rise, and each has fewer quanta than the largest number.
pub record GivesTo (rows : List ℕ) (quanta : List Quanta) : Type 0 where
  pub listed : rows ≡ those (names rows) row_limit
  pub small : (i : ℕ) → names rows i ≡ true → quanta_at (numbers_of quanta) i < most
  pub long : length quanta ≡ row_limit
