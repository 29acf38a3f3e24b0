-- The keys of the ready rows, as one pass finds them. Assumes nothing.
use Prim.Native.Nat.{ℕ, ◌+◌, ◌*◌, ◌≤◌, ◌<◌}
use mathlib.Core.Path.{◌≡◌, refl, sym, ap, subst, ◌∙◌}
use mathlib.Core.List.{List, [], ◌∷◌, ◌++◌}
use mathlib.Core.Bool.{Bool, true, false, true≢false, or-false}
use native.Mathlib.Decide.{dec_lt, ℕ_discrete}
use native.Mathlib.Omega.{arith}
use lib.Dec.{ltb}
use lib.ListN.{length, get_or, take, set, length-append, length-set, length-take, get_or-append}
use lib.Seq.{get_or-set_same, get_or-set_other, get_or-append_seam, get_or-take}
use Rattle.facts.specs.Counting.{those, some}
use Rattle.std.specs.List.{list_any}
use Rattle.std.proofs.lemmas.List.Elements.{All-from_get_or}
use Rattle.std.proofs.lemmas.List.Folds.{list_any_at, list_any_none}
use mathlib.Core.Logic.{◌⊎◌, inl, inr}
use Rattle.facts.proofs.Some.{some_or_none, some_if, none_if}
use Rattle.facts.proofs.Counting.{same_count, no_more_than_all}
use Rattle.facts.proofs.Listing.{listed_if_passed, unlisted_if_failed, none_listed, as_many_listed, listed_pass}
use Rattle.counts.specs.declared.Quanta.{Quanta}
use Rattle.counts.specs.Limits.{most}
use Rattle.counts.specs.Numbers.{numbers_of}
use Rattle.counts.proofs.Numbers.{number_at}
use Rattle.table.specs.declared.Row.{Row}
use Rattle.pd2.specs.Ready.{ready}
use Rattle.pd2.specs.Order.{rank_of, with_favour}
use Rattle.pd2.specs.Choice.{row_at, quanta_at, ready_in}
use Rattle.choice.specs.Keys.{front_of, end_of, key_for, HasKey, key_in}
use Rattle.dispatcher.specs.declared.Stand.{Stand}
use Rattle.dispatcher.specs.declared.Stand.TheVariants.{Breaks, Waits, Ready}
use Rattle.dispatcher.specs.Broken.{of_row_at}
use Rattle.dispatcher.specs.Usable.{broken_row, Testable}
use Rattle.dispatcher.specs.Looking.{stand_of, EndsAre, key_at, ReadyKeys}

-- What is said of a row, by its stand.
pub record Told (s : Stand) (breaks is_ready : Bool) : Type 0 where
  pub is : s ≡ stand_of breaks is_ready

module _ {breaks is_ready : Bool} {s : Stand} (said : Told s breaks is_ready) where
  pub said_outside : s ≡ Breaks → breaks ≡ true
  said_outside e = go breaks is_ready (sym e ∙ said.is)
    where
      go : (x y : Bool) → Breaks ≡ stand_of x y → x ≡ true
      go true y h = refl
      go false true h = let z : ◌≡◌ {A = ℕ} 0 1 = cc in absurd (omega arith)
      go false false h = let z : ◌≡◌ {A = ℕ} 0 1 = cc in absurd (omega arith)

  pub said_waits : s ≡ Waits → (breaks ≡ false) × (is_ready ≡ false)
  said_waits e = go breaks is_ready (sym e ∙ said.is)
    where
      go : (x y : Bool) → Waits ≡ stand_of x y → (x ≡ false) × (y ≡ false)
      go true y h = let z : ◌≡◌ {A = ℕ} 0 1 = cc in absurd (omega arith)
      go false true h = let z : ◌≡◌ {A = ℕ} 0 1 = cc in absurd (omega arith)
      go false false h = (refl, refl)

  pub said_ready : s ≡ Ready → (breaks ≡ false) × (is_ready ≡ true)
  said_ready e = go breaks is_ready (sym e ∙ said.is)
    where
      go : (x y : Bool) → Ready ≡ stand_of x y → (x ≡ false) × (y ≡ true)
      go true y h = let z : ◌≡◌ {A = ℕ} 0 1 = cc in absurd (omega arith)
      go false true h = (refl, refl)
      go false false h = let z : ◌≡◌ {A = ℕ} 0 1 = cc in absurd (omega arith)

-- The key of row i with such ends,
abbrev key_with : List Row → List ℕ → List ℕ → ℕ → ℕ
key_with rows quanta ends i = front_of (rank_of (row_at rows i) 0 (quanta_at quanta i)) * 64 + get_or ends i 0

-- which is the key of a rank if the end is its own.
key_by_end : (row : Row) (q i : ℕ) (favoured : Bool) {end : ℕ} → end ≡ end_of favoured i → front_of (rank_of row 0 q) * 64 + end ≡ key_for (with_favour (rank_of row i q) favoured)
unfolding key_for
key_by_end row q i favoured is = ap (λ end. front_of (rank_of row 0 q) * 64 + end) is

-- The keys of those of the first i rows that are ready.
pub record Found (rows : List Row) (quanta : List ℕ) (ends : List ℕ) (t : ℕ) (keys : List ℕ) (found i : ℕ) : Type 0 where
  pub long : length keys ≡ 32
  pub few : i ≤ 32
  pub count : found ≡ length (those (ready_in rows quanta t) i)
  pub each : (j : ℕ) → j < found → key_in keys j ≡ key_with rows quanta ends (get_or (those (ready_in rows quanta t) i) j 0)
  pub low : (j : ℕ) → j < i → ready_in rows quanta t j ≡ true → (key_with rows quanta ends j < most) × HasKey (rank_of (row_at rows j) 0 (quanta_at quanta j))

module _ (rows : List Row) (quanta : List ℕ) (ends : List ℕ) (t : ℕ) where
  abbrev is_ready : ℕ → Bool
  is_ready = ready_in rows quanta t

  pub finding_begins : {keys : List ℕ} → length keys ≡ 32 → Found rows quanta ends t keys 0 0
  finding_begins long =
      record { long = long; few = omega arith; count = sym (ap length (none_listed is_ready)); each = λ j l. absurd (omega arith); low = λ j l. absurd (omega arith) }

  module _ {keys : List ℕ} {found i : ℕ} (so : Found rows quanta ends t keys found i) (room : i < 32) where
    pub finds_fewer : found ≤ i
    finds_fewer = omega (arith, so.count, as_many_listed is_ready i, no_more_than_all is_ready i)

    -- one that waits,
    pub waits_on : is_ready i ≡ false → Found rows quanta ends t keys found (i + 1)
    waits_on h =
        record {
          long = so.long;
          few = omega arith;
          count = so.count ∙ sym (ap length same);
          each = λ j l. so.each j l ∙ ap (λ x. key_with rows quanta ends (get_or x j 0)) (sym same);
          low = λ j l r. here j l r (dec_lt j i);
        }
      where
        same : those is_ready (i + 1) ≡ those is_ready i
        same = unlisted_if_failed is_ready i h

        here : (j : ℕ) → j < i + 1 → is_ready j ≡ true → Dec (j < i) → (key_with rows quanta ends j < most) × HasKey (rank_of (row_at rows j) 0 (quanta_at quanta j))
        here j l r (yes m) = so.low j m r
        here j l r (no m) = let e : j ≡ i = omega arith in absurd (true≢false (sym r ∙ (ap is_ready e ∙ h)))

    -- and one that is ready.
    pub one_more_found : {key : ℕ} → is_ready i ≡ true → (key ≡ key_with rows quanta ends i) × (key < most) × HasKey (rank_of (row_at rows i) 0 (quanta_at quanta i)) →
        Found rows quanta ends t (set keys found key) (found + 1) (i + 1)
    one_more_found {key} h is =
        record {
          long = length-set keys found key ∙ so.long;
          few = omega arith;
          count = ap (λ n. n + 1) so.count ∙ sym (ap length same ∙ length-append (those is_ready i) (i ∷ []));
          each = λ j l. at j l (ℕ_discrete j found);
          low = λ j l r. here j l r (dec_lt j i);
        }
      where
        same : those is_ready (i + 1) ≡ those is_ready i ++ (i ∷ [])
        same = listed_if_passed is_ready i h

        at : (j : ℕ) → j < found + 1 → Dec (j ≡ found) → key_in (set keys found key) j ≡ key_with rows quanta ends (get_or (those is_ready (i + 1)) j 0)
        at j l (yes e) =
            rw (same, e)
            (get_or-set_same keys found key 0 (omega (arith, so.long, finds_fewer))
            ∙ (is.0 ∙ ap (key_with rows quanta ends) (sym (ap (λ n. get_or (those is_ready i ++ (i ∷ [])) n 0) so.count ∙ get_or-append_seam (those is_ready i) i [] 0))))
        at j l (no e) =
            rw same
            (get_or-set_other keys found j key 0 e
            ∙ (so.each j (omega arith) ∙ ap (key_with rows quanta ends) (sym (get_or-append (those is_ready i) (i ∷ []) 0 j (omega (arith, so.count))))))

        here : (j : ℕ) → j < i + 1 → is_ready j ≡ true → Dec (j < i) → (key_with rows quanta ends j < most) × HasKey (rank_of (row_at rows j) 0 (quanta_at quanta j))
        here j l r (yes m) = so.low j m r
        here j l r (no m) = let e : j ≡ i = omega arith in rw e (omega (arith, is.0, is.1), is.2)

  -- Where the ends say who is favoured, they are the keys of the ranks.
  pub all_found : {favours : ℕ → Bool} {keys : List ℕ} {found i : ℕ} → EndsAre favours ends → length rows ≤ 32 → Found rows quanta ends t keys found i → i ≡ length rows →
      ReadyKeys rows quanta favours t keys found
  all_found {favours} {keys} {found} {i} says few so all = go (subst (Found rows quanta ends t keys found) all so)
    where
      same : (j : ℕ) → j < length rows → key_with rows quanta ends j ≡ key_at rows quanta favours j
      same j l = key_by_end (row_at rows j) (quanta_at quanta j) j (favours j) (says.each j (omega arith))

      go : Found rows quanta ends t keys found (length rows) → ReadyKeys rows quanta favours t keys found
      go end =
          record {
            few = omega (arith, end.few, end.count, as_many_listed is_ready (length rows), no_more_than_all is_ready (length rows));
            count = end.count;
            each = λ j l. end.each j l ∙ same _ (listed_pass is_ready (length rows) j 0 (omega (arith, end.count))).0;
            low = λ j l r. omega (arith, same j l, (end.low j l r).0);
            has = λ j l r. let has = (end.low j l r).1 in record { bit = has.bit; group = has.group; row = omega arith };
          }

-- for the function

-- What is said of row i,
pub told : (rows : List Row) (quanta : List ℕ) (i : ℕ) {time t given : ℕ} {stand : Stand} → time ≡ t → given ≡ quanta_at quanta i →
    stand ≡ stand_of (broken_row false time (row_at rows i) given) (ready (row_at rows i) given time) →
    Told stand (of_row_at rows quanta (broken_row false t) i) (ready_in rows quanta t i)
told rows quanta i now many is = record { is = rw (now, many) at is }

-- and its key.
pub key_told : (rows : List Row) (quanta ends : List ℕ) (i : ℕ) {given key : ℕ} → given ≡ quanta_at quanta i →
    (key ≡ front_of (rank_of (row_at rows i) 0 given) * 64 + get_or ends i 0) × (key < most) × HasKey (rank_of (row_at rows i) 0 given) →
    (key ≡ key_with rows quanta ends i) × (key < most) × HasKey (rank_of (row_at rows i) 0 (quanta_at quanta i))
key_told rows quanta ends i many is = rw many at is

-- Some of a list are so exactly if some place of it is.
module _ {X : Type 0} (is : X → Bool) (d : X) where
  any_is_some : (xs : List X) → list_any is xs ≡ some (λ i. is (get_or xs i d)) (length xs)
  any_is_some xs = go (some_or_none (λ i. is (get_or xs i d)) (length xs))
    where
      go : ((i : ℕ) × (i < length xs) × (is (get_or xs i d) ≡ true)) ⊎ ((i : ℕ) → i < length xs → is (get_or xs i d) ≡ false) → list_any is xs ≡ some (λ i. is (get_or xs i d)) (length xs)
      go (inl h) = list_any_at is xs h.0 d h.1 h.2 ∙ sym (some_if _ _ h.0 h.1 h.2)
      go (inr none) = list_any_none is xs (All-from_get_or (λ x. is x ≡ false) xs d none) ∙ sym (none_if _ _ none)

module _ {rows : List Row} {quanta : List Quanta} {n t : ℕ} (can : Testable rows quanta n t) where
  -- In a stopped state only the quanta are asked.
  pub looks_at_quanta : {m : ℕ} → m ≡ n → {breaks : Bool} → breaks ≡ list_any (λ given. ltb t given.0) (take m quanta) →
      breaks ≡ some (of_row_at (take n rows) (numbers_of quanta) (broken_row true t)) (length (take n rows))
  looks_at_quanta all is =
      rw all at is
      ∙ (any_is_some (λ given. ltb t given.0) (record { 0 = 0 }) (take n quanta)
      ∙ (ap (some (λ i. ltb t (get_or (take n quanta) i (record { 0 = 0 })).0)) long
      ∙ same_some (λ i. ltb t (get_or (take n quanta) i (record { 0 = 0 })).0) (of_row_at (take n rows) (numbers_of quanta) (broken_row true t)) (length (take n rows))
      (λ i l. ap (ltb t) (same i (omega (arith, l, can.place.all))) ∙ sym (or-false _))))
    where
      long : length (take n quanta) ≡ length (take n rows)
      long = omega (arith, length-take n quanta, can.place.few, can.place.long, can.place.all)

      same : (i : ℕ) → i < n → (get_or (take n quanta) i (record { 0 = 0 })).0 ≡ quanta_at (numbers_of quanta) i
      same i l = ap (λ q. q.0) (get_or-take n quanta i (record { 0 = 0 }) l) ∙ number_at quanta i

      same_some : (a b : ℕ → Bool) (m : ℕ) → ((i : ℕ) → i < m → a i ≡ b i) → some a m ≡ some b m
      same_some a b m h = ap (ltb 0) (same_count a b m h)
