-- What the promises of `write`, `record` and `shape` determine. Assumes nothing.
use Prim.Native.Nat.{ℕ, ◌+◌}
use mathlib.Core.Path.{◌≡◌, refl, sym, ap₂, ◌∙◌}
use mathlib.Core.List.{List}
use mathlib.Core.Bool.{Bool, cond}
use denote.Bor.{Bor}
use native.Mathlib.Omega.{arith}
use lib.Dec.{eqb}
use Rattle.facts.specs.Determined.{Determined, TellsApart}
use Rattle.facts.proofs.Determined.{by_meaning, by_way_back}
use Rattle.std.specs.Prelude.{Result, Ok, Err}
use Rattle.trace.specs.declared.NoRoom.{NoRoom}
use Rattle.trace.specs.declared.Misshape.{Misshape}
use Rattle.trace.specs.declared.Misshape.TheVariants.{Cut, TooManyCores, TooManyRows, BadRow}
use Rattle.trace.specs.Record.{record_of, marked, stored_number, write_number, part_after}
use Rattle.trace.specs.Found.{part_found, part_begins}
use Rattle.trace.specs.Shaped.{ShapeReply, shaped_of, shape_of}

-- The number tells the writer's answers apart.
pub stored_by_number : TellsApart stored_number
stored_by_number (Ok a) (Ok b) same = refl
stored_by_number (Ok a) (Err b) same = absurd (omega arith)
stored_by_number (Err a) (Ok b) same = absurd (omega arith)
stored_by_number (Err a) (Err b) same = refl

-- The promise of `write` determines its answer and the part.
pub write_is_determined : (part : List ℕ) (free : ℕ) (marks : List Bool) →
    let entry = record_of free (marked marks) in
    Determined {R = Result (Unit {0}) NoRoom × List ℕ} (λ r. (stored_number r.0 ≡ write_number part entry) × (r.1 ≡ part_after part entry))
write_is_determined part free marks a b p q = ap₂ (λ stored bytes. (stored, bytes)) (stored_by_number a.0 b.0 (p.0 ∙ sym q.0)) (p.1 ∙ sym q.1)

-- The promise of `record` determines the part: its bytes, and where it begins (a block of memory and a place in it).
pub record_is_determined : (trace : List ℕ) (at : ℕ × ℕ) (slot : ℕ) →
    Determined {R = List ℕ × (ℕ × ℕ)} (λ r. (r.0 ≡ part_found trace slot) × ((r.1.0 ≡ at.0) × (r.1.1 ≡ at.1 + part_begins trace slot)))
record_is_determined trace at slot a b p q =
    ap₂ (λ bytes place. (bytes, place)) (p.0 ∙ sym q.0) (ap₂ (λ block place. (block, place)) (p.1.0 ∙ sym q.1.0) (p.1.1 ∙ sym q.1.1))

-- So it determines the whole reference, which has no other parts.
pub reference_is_determined : (trace : Bor (List ℕ)) (slot : ℕ) →
    Determined {R = Bor (List ℕ)}
    (λ r. (r.now ≡ part_found trace.now slot) × ((r.ref_ptr.0 ≡ trace.ref_ptr.0) × (r.ref_ptr.1 ≡ trace.ref_ptr.1 + part_begins trace.now slot)))
reference_is_determined trace slot a b p q =
    let same = record_is_determined trace.now trace.ref_ptr slot (a.now, a.ref_ptr) (b.now, b.ref_ptr) p q in
    λ i. record { ref_ptr = (same i).1; now = (same i).0 }

-- the answer of a number and a place
shaped_for : ShapeReply → Result ℕ Misshape
shaped_for x =
    cond (eqb x.number 40) (Err Cut)
    (cond (eqb x.number 41) (Err TooManyCores)
    (cond (eqb x.number 42) (Err TooManyRows)
    (cond (eqb x.number 43) (Err BadRow) (Ok x.next))))

back : (a : Result ℕ Misshape) → shaped_for (shaped_of a) ≡ a
unfolding shaped_for
back (Ok next) = refl
back (Err Cut) = refl
back (Err TooManyCores) = refl
back (Err TooManyRows) = refl
back (Err BadRow) = refl

-- Number and place tell the answers of `shape` apart,
pub shapes_tell_apart : TellsApart shaped_of
shapes_tell_apart = by_way_back shaped_for back

-- so its promise determines its answer.
pub shape_is_determined : (cores n : ℕ) (trace : List ℕ) (place : ℕ) → Determined {R = Result ℕ Misshape} (λ r. shaped_of r ≡ shape_of cores n trace place)
shape_is_determined cores n trace place = by_meaning shapes_tell_apart
