-- How the choice goes about it: all that PD2's order looks at stands in one number, the key. No part of what 01 says; that keys order as PD2 does is a law
-- (`KeysOrderAsPd2`). `FirstLeft` is what `first_left` promises, of any keys; the rest is between functions.
use Rattle.std.specs.Prelude.{ℕ, ◌+◌, ◌-◌, ◌*◌, ◌≤◌, ◌<◌, min, ◌≡◌, List, Bool, true, cond, ◌⊎◌, ltb, eqb, length, get_or}
use Rattle.facts.specs.Counting.{how_many}
use Rattle.counts.specs.Limits.{most}
use Rattle.table.specs.declared.Row.{Row}
use Rattle.pd2.specs.Near.{HasWindow}
use Rattle.pd2.specs.Order.{Rank, rank_of, with_favour, before}
use Rattle.pd2.specs.Choice.{row_at, quanta_at, rank_at}
use Rattle.choice.specs.Choice.{says_ready, says_ready_in}

-- How far D lies behind d; 0 for a light row, and where b is 0, since D is not asked for then.
abbrev pub behind : Rank → ℕ
behind x = cond (eqb x.b 1) (x.D - x.d) 0

-- A row has a next window, which ends by this deadline, with this bit.
pub record DueIs (row : Row) (q d b : ℕ) : Type 0 where
  pub window : HasWindow row q
  pub deadline : d ≡ (rank_of row 0 q).d
  pub bit : b ≡ (rank_of row 0 q).b

-- How a key begins: with d, b and how far D lies behind d, in the order in which the rules look at them.
abbrev pub front_of : Rank → ℕ
front_of x = (2 * x.d + (1 - x.b)) * 65_536 + (65_535 - behind x)

-- How it ends, in 6 bits: with who is favoured, since such a row goes first, and with the row's number.
abbrev pub end_of : Bool → ℕ → ℕ
end_of favoured row = cond favoured row (32 + row)

unfoldable pub key_for : Rank → ℕ
key_for x = front_of x * 64 + end_of x.favoured x.row

-- A rank whose parts stand apart in its key. Every row that has a next window has such a rank; that the key of a ready row is below 64 bits is said apart (`low`).
pub record HasKey (x : Rank) : Type 0 where
  pub bit : (x.b ≡ 0) ⊎ (x.b ≡ 1)
  pub group : x.b ≡ 1 → (x.D ≡ 0) ⊎ ((x.d < x.D) × (x.D < x.d + 65_536))
  pub row : x.row < 32

-- The order of the keys is PD2's order.
abbrev pub KeysOrderAsPd2 : Type 0
KeysOrderAsPd2 = (x y : Rank) → HasKey x → HasKey y → before x y ≡ ltb (key_for x) (key_for y)

-- The key of row i, favoured or not; one that is not ready has the largest number there is.
unfoldable pub key_of : Row → ℕ → ℕ → Bool → ℕ → ℕ
key_of row i q favoured t = cond (says_ready row q t) (key_for (with_favour (rank_of row i q) favoured)) most

-- A row that is ready has this key.
pub record KeyIs (row : Row) (i q : ℕ) (favoured : Bool) (t key : ℕ) : Type 0 where
  pub ready : says_ready row q t ≡ true
  pub is : key ≡ key_of row i q favoured t
  pub low : key < most
  pub has : HasKey (with_favour (rank_of row i q) favoured)

abbrev pub key_in : List ℕ → ℕ → ℕ
key_in keys i = get_or keys i 0

pub record KeysAre (rows : List Row) (quanta : List ℕ) (favours : ℕ → Bool) (t : ℕ) (keys : List ℕ) : Type 0 where
  pub each : (i : ℕ) → i < length rows → key_in keys i ≡ key_of (row_at rows i) i (quanta_at quanta i) (favours i) t
  pub low : (i : ℕ) → i < length rows → says_ready_in rows quanta t i ≡ true → key_in keys i < most
  pub has : (i : ℕ) → i < length rows → says_ready_in rows quanta t i ≡ true → HasKey (rank_at rows quanta favours i)

-- The first key that is left out when the k smallest of n are taken: the largest number with no more than k of them below it.
pub record FirstLeft (key : ℕ → ℕ) (n k first : ℕ) : Type 0 where
  pub range : first ≤ most
  pub few : how_many (λ j. ltb (key j) first) n ≤ k
  pub largest : first < most → k < how_many (λ j. ltb (key j) (first + 1)) n

-- Keys that do not fall.
abbrev pub Rises : ℕ → List ℕ → Type 0
Rises k best = (i j : ℕ) → i ≤ j → j < k → key_in best i ≤ key_in best j

-- The k smallest of n keys, in order: below every number lie as many of them as of the keys, but no more than k.
pub record Smallest (key : ℕ → ℕ) (n k : ℕ) (best : List ℕ) : Type 0 where
  pub rises : Rises k best
  pub counts : (v : ℕ) → v ≤ most → how_many (λ j. ltb (key_in best j) v) k ≡ min k (how_many (λ i. ltb (key i) v) n)

-- A place whose key can be dropped: the last of k, or one that no key has taken.
abbrev pub Spare : ℕ → List ℕ → ℕ → Type 0
Spare k best last = (last + 1 ≡ k) ⊎ ((last < k) × (most ≤ key_in best last))

-- The k smallest with one key more,
pub record WithKey (k : ℕ) (best : List ℕ) (key : ℕ) (after : List ℕ) : Type 0 where
  pub rises : Rises k after
  pub counts : (v : ℕ) → v ≤ most →
      how_many (λ j. ltb (key_in after j) v) k ≡ min k (how_many (λ j. ltb (key_in best j) v) k + cond (ltb key v) 1 0)

-- for every number k of them that rise and of which the last can be dropped.
abbrev pub OneKeyMore : List ℕ → ℕ → ℕ → List ℕ → Type 0
OneKeyMore best last key after = (k : ℕ) → Rises k best → Spare k best last → WithKey k best key after
