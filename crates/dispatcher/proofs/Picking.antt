-- What the keys of the ready rows say: who is picked, and who is late then. Assumes nothing.
use Prim.Native.Nat.{ℕ, ◌+◌, ◌%◌, ◌≤◌, ◌<◌, min}
use mathlib.Core.Path.{◌≡◌, refl, sym, ap, subst, ◌∙◌}
use mathlib.Core.List.{List, map}
use Rattle.std.specs.Prelude.{Option, Some, None}
use mathlib.Core.Bool.{Bool, true, false, cond, not, ◌&&◌, true≢false}
use native.Mathlib.Omega.{arith}
use borrow.Author.Tests.{lt-ltb, le-ltb}
use lib.Dec.{ltb}
use lib.ListN.{length, get_or}
use Rattle.facts.specs.Counting.{how_many, those}
use Rattle.facts.specs.First.{Lowest}
use Rattle.facts.proofs.Counting.{same_count}
use Rattle.facts.proofs.First.{same_lowest}
use Rattle.facts.proofs.Filling.{same_of_all}
use Rattle.facts.proofs.Listing.{same_list, as_many_listed, listed_pass}
use Rattle.facts.proofs.Sublists.{counted_by_place, listed_by_place, lowest_by_place}
use Rattle.facts.proofs.Tests.{both}
use Rattle.counts.specs.Limits.{most}
use Rattle.table.specs.declared.Row.{Row}
use Rattle.pd2.specs.Ready.{late}
use Rattle.pd2.specs.Order.{before}
use Rattle.pd2.specs.Share.{lower, upper, CanBe}
use Rattle.pd2.specs.Picks.{picked}
use Rattle.pd2.specs.Choice.{row_at, quanta_at, rank_at, ready_in, goes_before_by, given}
use Rattle.pd2.proofs.Share.{late_means_below, row_can_be}
use Rattle.pd2.proofs.Readiness.{late_from_deadline, late_was_ready, given_is_not_late}
use Rattle.pd2.proofs.Picks.{picks_are_best}
use Rattle.pd2.proofs.Choice.{pd2_is_strict, given_at}
use Rattle.trace.specs.Records.{names}
use Rattle.trace.proofs.Names.{listed_are_named}
use Rattle.choice.specs.Keys.{key_in, FirstLeft}
use Rattle.choice.proofs.KeyOrder.{key_ends_with_row, key_begins_with_deadline}
use Rattle.choice.proofs.Picked.{KeyedBy, picked_before}
use Rattle.dispatcher.specs.declared.State.{State}
use Rattle.dispatcher.specs.State.{rows_in, quanta_in, time_of}
use Rattle.dispatcher.specs.Slot.{favoured_in, picks_in}
use Rattle.dispatcher.specs.Looking.{key_at, ReadyKeys, rows_before, later_keys, is_due, LateRow}
use Rattle.dispatcher.specs.Tests.{LowestIs}
use Rattle.dispatcher.proofs.Whole.{Whole}

module _ (s : State) (k : ℕ) {keys : List ℕ} {found : ℕ} (so : ReadyKeys (rows_in s) (quanta_in s) (favoured_in s) (time_of s) keys found) where
  abbrev n : ℕ
  n = length (rows_in s)

  abbrev is_ready : ℕ → Bool
  is_ready = ready_in (rows_in s) (quanta_in s) (time_of s)

  abbrev is_picked : ℕ → Bool
  is_picked = picked is_ready (goes_before_by before (rows_in s) (quanta_in s) (favoured_in s)) n k

  abbrev key : ℕ → ℕ
  key = key_at (rows_in s) (quanta_in s) (favoured_in s)

  -- the row at a place of the list
  abbrev row : ℕ → ℕ
  row j = get_or (those is_ready n) j 0

  -- "The first min(free cores, ready rows) are picked."
  pub picks_are_counted : length (picks_in s k) ≡ min k found
  picks_are_counted =
      let best = picks_are_best is_ready (goes_before_by before (rows_in s) (quanta_in s) (favoured_in s)) n k (pd2_is_strict (rows_in s) (quanta_in s) (favoured_in s) (time_of s) n) in
      best.how_many_picked ∙ ap (min k) (sym (so.count ∙ as_many_listed is_ready n))

  -- each row has its key, and one that is not ready the largest number
  abbrev any : ℕ → ℕ
  any i = cond (is_ready i) (key i) most

  keyed : KeyedBy (rows_in s) (quanta_in s) (favoured_in s) is_ready any n
  keyed =
      record {
        has = so.has;
        is = λ i l h. rw h refl;
        low = λ i l h. rw h (so.low i l h);
        none = λ i l h. rw h refl;
      }

  -- below any number lie as many keys by their places as by their rows
  same_below : (v : ℕ) → v ≤ most → how_many (λ j. ltb (key_in keys j) v) found ≡ how_many (λ i. ltb (any i) v) n
  same_below v few =
      same_count (λ j. ltb (key_in keys j) v) (λ j. ltb (key (row j)) v) found (λ j l. ap (λ x. ltb x v) (so.each j l))
      ∙ (ap (how_many (λ j. ltb (key (row j)) v)) so.count
      ∙ (counted_by_place is_ready (λ i. ltb (key i) v) 0 n
      ∙ same_count (λ i. is_ready i && ltb (key i) v) (λ i. ltb (any i) v) n (λ i l. at i (is_ready i) refl)))
    where
      at : (i : ℕ) (x : Bool) → is_ready i ≡ x → is_ready i && ltb (key i) v ≡ ltb (any i) v
      at i true e = rw e refl
      at i false e = rw e (sym (le-ltb most v few))

  module _ {first : ℕ} (left : FirstLeft (key_in keys) found k first) where
    by_rows : FirstLeft any n k first
    by_rows =
        record {
          range = left.range;
          few = omega (arith, left.few, same_below first left.range);
          largest = λ l. omega (arith, left.largest l, same_below (first + 1) (omega arith));
        }

    row_is_picked : (i : ℕ) → i < n → is_ready i && ltb (key i) first ≡ is_picked i
    row_is_picked i l = at (is_ready i) refl ∙ picked_before keyed by_rows i l
      where
        at : (x : Bool) → is_ready i ≡ x → is_ready i && ltb (key i) first ≡ ltb (any i) first
        at true e = rw e refl
        at false e = rw e (sym (le-ltb most first left.range))

    -- a key ends with its row
    ends : (i : ℕ) → i < n → is_ready i ≡ true → key i % 32 ≡ i
    ends i l h = key_ends_with_row (rank_at (rows_in s) (quanta_in s) (favoured_in s) i) (so.has i l h).row

    row_of : (j : ℕ) → j < found → key_in keys j % 32 ≡ row j
    row_of j l =
        let is = listed_pass is_ready n j 0 (omega (arith, so.count)) in
        ap (λ x. x % 32) (so.each j l) ∙ ends (row j) is.0 is.1

    -- The rows before the first that is left out are those that are picked.
    pub before_are_picks : rows_before keys found first ≡ picks_in s k
    before_are_picks =
        same_of_all (λ j. key_in keys j % 32) row 0 (those (λ j. ltb (key_in keys j) first) found)
        (λ j l. row_of (get_or (those (λ j. ltb (key_in keys j) first) found) j 0) (listed_pass (λ j. ltb (key_in keys j) first) found j 0 l).0)
        ∙ (ap (map row) (same_list (λ j. ltb (key_in keys j) first) (λ j. ltb (key (row j)) first) found (λ j l. ap (λ x. ltb x first) (so.each j l)))
        ∙ (ap (λ m. map row (those (λ j. ltb (key (row j)) first) m)) so.count
        ∙ (listed_by_place is_ready (λ i. ltb (key i) first) 0 n
        ∙ same_list (λ i. is_ready i && ltb (key i) first) is_picked n row_is_picked)))

    -- Who is late then: a row that is left out, and due at the slot's end.
    module _ (whole : Whole s) (runs : s.stopped ≡ false) (long : n ≤ length (quanta_in s)) where
      abbrev late_then : ℕ → Bool
      late_then i = late (row_at (rows_in s) i) (quanta_at (given (names (picks_in s k)) 0 (quanta_in s)) i) (time_of s + 1)

      module _ (i : ℕ) (l : i < n) where
        abbrev it : Row
        it = row_at (rows_in s) i

        abbrev q : ℕ
        q = quanta_at (quanta_in s) i

        can : CanBe it
        can = row_can_be s.table whole.table i l

        -- none is late before,
        on_time : late it q (time_of s) ≡ false
        on_time = late_means_below it can q (time_of s) ∙ ap not (both (lower it q (time_of s)) (upper it q (time_of s)) (whole.shares runs i l)).0

        -- and a picked row has one quantum more
        has_then : quanta_at (given (names (picks_in s k)) 0 (quanta_in s)) i ≡ q + cond (is_picked i) 1 0
        has_then =
            given_at (names (picks_in s k)) 0 (quanta_in s) i (omega (arith, l, long))
            ∙ (ap (λ j. q + cond (names (picks_in s k) j) 1 0) {x = 0 + i} {y = i} (omega arith)
            ∙ ap (λ b. q + cond b 1 0) (listed_are_named is_picked n i ∙ ap (λ b. b && is_picked i) (lt-ltb i n l)))

        abbrev is_late : ℕ → Bool
        is_late given = late it given (time_of s + 1)

        due : (b : Bool) → is_picked i ≡ b → (x : Bool) → is_ready i ≡ x → is_ready i && is_due first (later_keys (time_of s)) (key i) ≡ is_late (q + cond b 1 0)
        due true p x e =
            let is = both (is_ready i) (ltb (key i) first) (row_is_picked i l ∙ p) in
            rw (is.0, is.1) (sym (given_is_not_late it q (time_of s) can.cost can.weight on_time))
        due false p true e =
            let behind : ltb (key i) first ≡ false = ap (λ x. x && ltb (key i) first) (sym e) ∙ (row_is_picked i l ∙ p) in
            rw (e, behind)
            (key_begins_with_deadline (rank_at (rows_in s) (quanta_in s) (favoured_in s) i) (so.has i l e) (time_of s)
            ∙ (sym (late_from_deadline it q (time_of s + 1)) ∙ ap is_late {x = q} {y = q + 0} (omega arith)))
        due false p false e = rw e (sym (ap is_late {x = q + 0} {y = q} (omega arith) ∙ go (is_late q) refl))
          where
            go : (b : Bool) → is_late q ≡ b → is_late q ≡ false
            go true h = absurd (true≢false (sym (late_was_ready it q (time_of s) can.cost can.weight h) ∙ e))
            go false h = h

      -- by the place of its key
      lowest_then : {place : ℕ} → Lowest (λ j. is_due first (later_keys (time_of s)) (key_in keys j)) found place → Lowest late_then n (cond (ltb place found) (row place) n)
      lowest_then {place} low =
          rw so.count
          (same_lowest (λ i. is_ready i && is_due first (later_keys (time_of s)) (key i)) late_then n _
          (λ i l. due i l (is_picked i) refl (is_ready i) refl ∙ ap (is_late i l) (sym (has_then i l)))
          (lowest_by_place is_ready (λ i. is_due first (later_keys (time_of s)) (key i)) 0 n place
          (subst (λ x. Lowest (λ j. is_due first (later_keys (time_of s)) (key (row j))) x place) so.count
          (same_lowest (λ j. is_due first (later_keys (time_of s)) (key_in keys j)) (λ j. is_due first (later_keys (time_of s)) (key (row j))) found place
          (λ j l. ap (is_due first (later_keys (time_of s))) (so.each j l)) low))))

      pub late_row : (lowest : Option ℕ) → LateRow keys found first (later_keys (time_of s)) lowest → LowestIs late_then n lowest
      late_row None none =
          let low = lowest_then {place = found} (record { within = omega arith; passes = λ m. absurd (omega arith); none_before = none }) in
          (subst (Lowest late_then n) (ap (λ b. cond b (row found) n) (le-ltb found found (omega arith))) low).none_before
      late_row (Some lowest) is =
          let same : cond (ltb is.place found) (row is.place) n ≡ lowest = ap (λ b. cond b (row is.place) n) (lt-ltb is.place found is.there) ∙ (sym (row_of is.place is.there) ∙ sym is.same) in (
            omega (arith, is.same, row_of is.place is.there, (listed_pass is_ready n is.place 0 (omega (arith, is.there, so.count))).0),
            subst (Lowest late_then n) same (lowest_then is.lowest),
          )
