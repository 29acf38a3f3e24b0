-- The arrays of the choice: keys and marks. Assumes nothing.
use Prim.Native.Nat.{ℕ, ◌+◌, ◌-◌, ◌≤◌, ◌<◌}
use mathlib.Core.Path.{◌≡◌, ap, ◌∙◌}
use mathlib.Core.List.{List}
use mathlib.Core.Bool.{Bool, true, false}
use native.Mathlib.Decide.{dec_lt}
use native.Mathlib.Omega.{arith}
use lib.ListN.{length, get_or, replicate, set}
use lib.Seq.{get_or-set_same, get_or-set_other}
use Rattle.std.specs.Prelude.{Option, MatchOption, unwrap_or}
use Rattle.facts.specs.Counting.{those}
use Rattle.facts.proofs.Listing.{list_ends}
use Rattle.facts.proofs.Filling.{Filled, filling_begins, fills_one_more, get_d_any}
use Rattle.counts.specs.declared.Quanta.{Quanta}
use Rattle.counts.specs.Limits.{most}
use Rattle.table.specs.declared.Row.{Row}
use Rattle.table.specs.Causes.{zero_row}
use Rattle.pd2.specs.Choice.{row_at, quanta_at, rank_at}
use Rattle.trace.specs.Record.{marked}
use Rattle.counts.specs.Numbers.{numbers_of}
use Rattle.choice.specs.Choice.{says_ready, says_ready_in}
use Rattle.choice.specs.Keys.{HasKey, key_of, KeyIs, key_in, KeysAre}
use Rattle.choice.proofs.Asked.{key_or_most}
use Rattle.counts.proofs.Numbers.{number_there}

-- Marks that were filled for all keys name the rows that pass.
pub marks_are : (a : ℕ → Bool) (n : ℕ) (marks : List Bool) {i : ℕ} → Filled a false false 32 i marks → i ≡ n → n ≤ 32 →
    (length marks ≡ 32) × (marked marks ≡ those a n)
marks_are a n marks {i} so same few = (
  so.long,
  ap (those (λ j. get_or marks j false)) {x = length marks} {y = n + (32 - n)} (omega (arith, so.long))
      ∙ list_ends (λ j. get_or marks j false) a n (32 - n) (λ j l. so.first j (omega arith)) (λ j l h. so.rest j (omega arith) (omega arith)),
)

-- The keys of the first i rows stand in the array.
pub record Keyed (rows : List Row) (quanta : List ℕ) (favours : ℕ → Bool) (t : ℕ) (keys : List ℕ) (i : ℕ) : Type 0 where
  pub keyed : Filled (λ j. key_of (row_at rows j) j (quanta_at quanta j) (favours j) t) most 0 32 i keys
  pub low : (j : ℕ) → j < i → says_ready_in rows quanta t j ≡ true → (key_in keys j < most) × HasKey (rank_at rows quanta favours j)

pub no_keys_yet : (rows : List Row) (quanta : List ℕ) (favours : ℕ → Bool) (t : ℕ) → Keyed rows quanta favours t (replicate 32 most) 0
no_keys_yet rows quanta favours t = record { keyed = filling_begins _ _ _ _; low = λ j l. absurd (omega arith) }

module _ (rows : List Row) (quanta : List Quanta) (few : length rows ≤ 32) (long : length quanta ≡ 32) (r : Row) (q : Quanta) {i : ℕ} (l : i < length rows) where
  -- one key more, or the largest number
  pub one_more_keyed : {favours : ℕ → Bool} {t : ℕ} {keys : List ℕ} (answer : Option ℕ) {v : ℕ} → Keyed rows (numbers_of quanta) favours t keys i →
      MatchOption answer (says_ready (get_or rows i r) (get_or quanta i q).0 t ≡ false) (KeyIs (get_or rows i r) i (get_or quanta i q).0 (favours i) t) →
      v ≡ unwrap_or answer most → Keyed rows (numbers_of quanta) favours t (set keys i v) (i + 1)
  one_more_keyed {favours} {t} {keys} answer {v} so answered is =
      let found = rw (get_d_any rows i r zero_row l, number_there quanta i q (omega (arith, few, long))) at answered in
      record {
        keyed = fills_one_more _ _ _ _ so.keyed (omega arith) (is ∙ (key_or_most _ _ _ _ _ answer found).0);
        low = λ j m h. low j m h (dec_lt j i) (key_or_most _ _ _ _ _ answer found).1;
      }
    where
      is_ready : ℕ → Type 0
      is_ready j = says_ready_in rows (numbers_of quanta) t j ≡ true

      has_key : ℕ → Type 0
      has_key j = HasKey (rank_at rows (numbers_of quanta) favours j)

      low : (j : ℕ) → j < i + 1 → is_ready j → Dec (j < i) → (is_ready i → (unwrap_or answer most < most) × has_key i) → (key_in (set keys i v) j < most) × has_key j
      low j m h (yes k) own = rw (get_or-set_other keys i j v 0 (λ same. omega arith)) (so.low j k h)
      low j m h (no k) own =
          let same : j ≡ i = omega arith in
          rw (same, get_or-set_same keys i v 0 (omega (arith, so.keyed.long, few)), is) (own (rw same at h))

pub all_keyed : {rows : List Row} {quanta : List ℕ} {favours : ℕ → Bool} {t : ℕ} {keys : List ℕ} {i : ℕ} → Keyed rows quanta favours t keys i → i ≡ length rows → KeysAre rows quanta favours t keys
all_keyed so e =
    record {
      each = λ j l. so.keyed.first j (omega arith);
      low = λ j l r. (so.low j (omega arith) r).0;
      has = λ j l r. (so.low j (omega arith) r).1;
    }
