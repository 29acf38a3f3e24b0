-- The laws of a record and of its writing. Assumes nothing.
use Prim.Native.Nat.{ℕ, zero, suc, ◌+◌, ◌-◌, ◌≤◌, ◌<◌}
use mathlib.Core.Path.{◌≡◌, refl, sym, ap, ◌∙◌}
use mathlib.Core.List.{List, [], ◌∷◌, ◌++◌}
use mathlib.Core.Bool.{Bool, true, false, cond}
use native.Mathlib.Numerals.{add-one}
use native.Mathlib.Omega.{arith}
use borrow.Rule.Slice.PartMut.{put_mid, mid_of}
use lib.ListN.{length, get_or, take, drop, set, length-append, length-drop}
use lib.Seq.{take_all}
use Rattle.std.specs.Prelude.{count_by}
use Rattle.std.proofs.lemmas.List.Sums.{count_by_more_yes, count_by_more_no}
use Rattle.facts.specs.Counting.{how_many, those}
use Rattle.facts.proofs.Listing.{listed_if_passed, unlisted_if_failed, none_listed, more_listed, as_many_listed}
use Rattle.facts.proofs.Lent.{lent_from, comes_back}
use Rattle.facts.proofs.Filling.{overwritten_one_more}
use borrow.Author.Tests.{le-leb}
use Rattle.trace.specs.Record.{record_of, marked, with_front, part_after}

-- For the loops: the marks, as a test of row numbers.
abbrev pub is_marked : List Bool → ℕ → Bool
is_marked marks i = get_or marks i false

-- i marks have been gone through, and the numbers of those that are set stand at the front of the part.
pub record Put (part₀ : List ℕ) (marks : List Bool) (part : List ℕ) (at i : ℕ) : Type 0 where
  pub place : at ≡ length (those (is_marked marks) i)
  pub holds : part ≡ with_front part₀ (those (is_marked marks) i)
  pub within : i ≤ length marks

-- As many marks are set as rows are listed.
first_counted : (marks : List Bool) (i : ℕ) → i ≤ length marks → count_by (λ mark. mark) (take i marks) ≡ how_many (is_marked marks) i
unfolding how_many
first_counted marks zero l = refl
first_counted marks (suc i) l = go (get_or marks i false) refl (first_counted marks i (omega arith))
  where
    go : (b : Bool) → get_or marks i false ≡ b → count_by (λ mark. mark) (take i marks) ≡ how_many (is_marked marks) i →
        count_by (λ mark. mark) (take (suc i) marks) ≡ how_many (is_marked marks) i + cond (get_or marks i false) 1 0
    go true e before = rw (← add-one i, e) (omega (arith, before, count_by_more_yes (λ mark. mark) marks i false (omega arith) e))
    go false e before = rw (← add-one i, e) (omega (arith, before, count_by_more_no (λ mark. mark) marks i false (omega arith) e))

pub all_counted : (marks : List Bool) → count_by (λ mark. mark) marks ≡ length (marked marks)
all_counted marks =
    ap (count_by (λ mark. mark)) (sym (take_all (length marks) marks (omega arith)))
    ∙ (first_counted marks (length marks) (omega arith) ∙ sym (as_many_listed (is_marked marks) (length marks)))

-- A part with a record at its front is as long as it was.
pub front_fits : (part entry : List ℕ) → length entry ≤ length part → length (with_front part entry) ≡ length part
unfolding with_front
front_fits part entry h = length-append entry (drop (length entry) part) ∙ omega (arith, length-drop (length entry) part)

module _ (part₀ : List ℕ) (marks : List Bool) where
  -- Writing begins with the part as it is,
  pub writing_begins : Put part₀ marks part₀ 0 0
  unfolding with_front
  writing_begins =
      record {
        place = sym (ap length (none_listed (is_marked marks)));
        holds = sym (ap (with_front part₀) (none_listed (is_marked marks)));
        within = omega arith;
      }

  module _ {part : List ℕ} {at i : ℕ} (so : Put part₀ marks part at i) (l : i < length marks) where
    -- writes the number of a row that is marked,
    pub writes_marked : get_or marks i false ≡ true → length (those (is_marked marks) i) < length part₀ → Put part₀ marks (set part at i) (at + 1) (i + 1)
    unfolding with_front
    writes_marked h room =
        let one = listed_if_passed (is_marked marks) i h in
        record {
          place = ap (λ k. k + 1) so.place ∙ (sym (length-append (those (is_marked marks) i) (i ∷ [])) ∙ sym (ap length one));
          holds =
              rw (so.holds, so.place)
              (overwritten_one_more part₀ (those (is_marked marks) i) i room ∙ sym (ap (with_front part₀) one));
          within = omega arith;
        }

    -- and passes one that is not.
    pub writes_no_unmarked : get_or marks i false ≡ false → Put part₀ marks part at (i + 1)
    writes_no_unmarked h =
        let same = unlisted_if_failed (is_marked marks) i h in
        record { place = so.place ∙ sym (ap length same); holds = so.holds ∙ sym (ap (with_front part₀) same); within = omega arith }

    -- A row that is marked has room in a part that has room for all,
    pub has_place : get_or marks i false ≡ true → length (marked marks) ≤ length part₀ → length (those (is_marked marks) i) < length part₀
    has_place h room = omega (arith, more_listed (is_marked marks) i (length marks) l h, room)

-- The two bytes in front and the row numbers behind them are the record.
pub bytes_are_record : (part rows : List ℕ) (k c : ℕ) → 2 ≤ length part →
    let headed = set (set part 0 k) 1 c in
    take 2 headed ++ with_front (drop 2 headed) rows ≡ with_front part (k ∷ c ∷ rows)
unfolding with_front
bytes_are_record [] rows k c h = absurd (omega arith)
bytes_are_record (x ∷ []) rows k c h = absurd (omega arith)
bytes_are_record (x ∷ y ∷ part) rows k c h = refl

-- So the record stands in front once the part behind the two bytes comes back with the rows in front,
pub record_in_front : (part rows : List ℕ) (k c : ℕ) {back : List ℕ} → 2 ≤ length part → c ≡ length rows →
    let headed = set (set part 0 k) 1 c in
    back ≡ with_front (mid_of 2 (length headed - 2) headed) rows → put_mid 2 (length headed - 2) headed back ≡ with_front part (record_of k rows)
record_in_front part rows k c {back} two many e =
    let headed = set (set part 0 k) 1 c in
    comes_back headed 2 back
    ∙ (ap (λ l. take 2 headed ++ l) (e ∙ ap (λ l. with_front l rows) (lent_from headed 2))
    ∙ (bytes_are_record part rows k c two ∙ ap (λ n. with_front part (k ∷ n ∷ rows)) many))

-- and where it has room it is written.
pub is_written : (part entry : List ℕ) {whole : List ℕ} → length entry ≤ length part → whole ≡ with_front part entry → whole ≡ part_after part entry
is_written part entry h e = rw (le-leb (length entry) (length part) h) e
