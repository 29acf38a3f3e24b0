-- Sets of cores: those that are there, and the first k. Assumes nothing.
use Prim.Native.Nat.{ℕ, ◌-◌, ◌≤◌, ◌<◌, min}
use mathlib.Core.Path.{◌≡◌, sym, ap, ◌∙◌}
use mathlib.Core.List.{List}
use mathlib.Core.Bool.{Bool, true, false, ◌&&◌, true≢false, and-true, and-false}
use native.Mathlib.Decide.{dec_lt}
use native.Mathlib.Omega.{arith}
use borrow.Author.Tests.{lt-ltb, le-ltb, ltb-true, le-leb, lt-leb, leb-false}
use lib.Dec.{ltb, leb}
use lib.ListN.{length, get_or, take, drop}
use lib.Seq.{take_all}
use Rattle.std.specs.List.{count_by}
use Rattle.facts.specs.Counting.{some, how_many}
use Rattle.facts.proofs.Counting.{same_count, how_many_below, counts_no_more}
use Rattle.facts.proofs.Some.{some_if, none_if, each_fails}
use Rattle.facts.proofs.Listing.{as_many_listed, listed_rise}
use Rattle.facts.proofs.Filling.{Filled}
use Rattle.facts.proofs.Places.{marks_long, mark_at, are_marks}
use Rattle.facts.proofs.Tests.{both, hold_both}
use Rattle.trace.specs.Record.{marked}
use Rattle.trace.specs.Records.{names}
use Rattle.trace.proofs.Names.{listed_are_named}
use Rattle.cores.specs.Cores.{Rising}
use Rattle.cores.specs.Sets.{set_limit, size, names_past, first_cores, FirstCoresAreK}
use Rattle.cores.proofs.Naming.{holds_not}
use Rattle.cores.proofs.Counting.{counted_from}
use Rattle.cores.proofs.Fault.{no_more_than}

-- for callers

-- The numbers that a set names rise.
pub marked_rise : (free : List Bool) → Rising (marked free)
marked_rise free i j l m = listed_rise (λ core. get_or free core false) (length free) i j 0 l m

module _ (cores : ℕ) (free : List Bool) (there : names_past cores free ≡ false) where
  -- a core that is marked is below the number of cores
  below : (core : ℕ) → core < length free → get_or free core false ≡ true → core < cores
  below core l m =
      leb-false cores core
      (holds_not (leb cores core)
      (λ e. true≢false (sym (hold_both m e) ∙ each_fails (λ core. get_or free core false && leb cores core) (length free) there core l)))

  -- A set of cores that are there has no more of them than there are,
  pub size_within : size free ≤ cores
  size_within =
      omega (
        arith,
        as_many_listed (λ core. get_or free core false) (length free),
        counts_no_more (λ core. get_or free core false) (λ core. ltb core cores) (length free) (λ core l m. lt-ltb core cores (below core l m)),
        no_more_than (λ core. core) (length free) cores (λ i j l m e. omega arith),
      )

  -- and names only such.
  pub free_is_there : (core : ℕ) → names (marked free) core ≡ true → core < cores
  free_is_there core h =
      let two = both (ltb core (length free)) (get_or free core false) (sym (listed_are_named (λ c. get_or free c false) (length free) core) ∙ h) in
      below core (ltb-true core (length free) two.0) two.1

module _ (k : ℕ) where
  as_long : length (first_cores k) ≡ set_limit
  as_long = marks_long (λ core. ltb core k) set_limit

  marked_at : (core : ℕ) → core < set_limit → get_or (first_cores k) core false ≡ ltb core k
  marked_at = mark_at (λ core. ltb core k) set_limit

  as_many_as_k : k ≤ set_limit → size (first_cores k) ≡ k
  as_many_as_k h =
      as_many_listed (λ core. get_or (first_cores k) core false) (length (first_cores k))
      ∙ ap (how_many (λ core. get_or (first_cores k) core false)) as_long
      ∙ same_count (λ core. get_or (first_cores k) core false) (λ core. ltb core k) set_limit marked_at
      ∙ how_many_below k set_limit h

  past_if_above : (cores : ℕ) → cores ≤ 8 → names_past cores (first_cores k) ≡ ltb cores k
  past_if_above cores few = ap (some past) as_long ∙ go (dec_lt cores k)
    where
      past : ℕ → Bool
      past core = get_or (first_cores k) core false && leb cores core

      go : Dec (cores < k) → some past set_limit ≡ ltb cores k
      go (yes l) =
          some_if past set_limit cores (omega arith) (hold_both (marked_at cores (omega arith) ∙ lt-ltb cores k l) (le-leb cores cores (omega arith)))
          ∙ sym (lt-ltb cores k l)
      go (no l) = none_if past set_limit none ∙ sym (le-ltb cores k (omega arith))
        where
          none : (core : ℕ) → core < set_limit → past core ≡ false
          none core m = at (dec_lt core cores)
            where
              at : Dec (core < cores) → past core ≡ false
              at (yes n) = ap (λ t. get_or (first_cores k) core false && t) (lt-leb cores core n) ∙ and-false (get_or (first_cores k) core false)
              at (no n) = ap (λ t. t && leb cores core) (marked_at core m ∙ le-ltb core k (omega arith))

-- The first k cores are k, and name one past M exactly if k is above M.
pub first_cores_are_k : FirstCoresAreK
first_cores_are_k cores k few = record { marks = marked_at k; past = past_if_above k cores few; size_is = as_many_as_k k }

-- for the code

-- The marks that are set are as many as the set names,
pub counted_are_size : (free : List Bool) → count_by (λ mark. mark) free ≡ size free
counted_are_size free =
    ap (count_by (λ mark. mark)) (sym (take_all (length free - 0) free (omega arith)))
    ∙ counted_from free 0 (omega arith)
    ∙ same_count (λ core. get_or free core false && leb 0 core) (λ core. get_or free core false) (length free)
    (λ core l. ap (λ t. get_or free core false && t) (le-leb 0 core (omega arith)) ∙ and-true (get_or free core false))
    ∙ sym (as_many_listed (λ core. get_or free core false) (length free))

-- and some are set from M on exactly if the set names one past M.
pub past_if_some : (cores least : ℕ) (free : List Bool) {n : ℕ} → length free ≡ n → least ≡ min cores n →
    ltb 0 (count_by (λ mark. mark) (take (n - least) (drop least free))) ≡ names_past cores free
past_if_some cores least free long e =
    ap (ltb 0)
    (ap (λ n. count_by (λ mark. mark) (take (n - least) (drop least free))) (sym long)
    ∙ counted_from free least (omega arith)
    ∙ same_count (λ core. get_or free core false && leb least core) (λ core. get_or free core false && leb cores core) (length free)
    (λ core l. ap (λ t. get_or free core false && t) (same core l (dec_lt core cores))))
  where
    same : (core : ℕ) → core < length free → Dec (core < cores) → leb least core ≡ leb cores core
    same core l (yes h) = lt-leb least core (omega arith) ∙ sym (lt-leb cores core h)
    same core l (no h) = le-leb least core (omega arith) ∙ sym (le-leb cores core (omega arith))

-- Marks that have been filled so are the first k cores.
pub filled_are_first : (k : ℕ) {i : ℕ} {free : List Bool} → Filled (λ core. ltb core k) false false 32 i free → 32 ≤ i → free ≡ first_cores k
filled_are_first k {i} {free} so h =
    are_marks (λ core. ltb core k) set_limit so.long (λ core l. so.first core (omega arith))
