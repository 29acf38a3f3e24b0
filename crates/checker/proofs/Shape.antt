-- The shape of a record, as crate trace judges it, is the one that is looked for here. Assumes nothing.
use Prim.Native.Nat.{ℕ, ◌+◌, ◌-◌, ◌≤◌}
use mathlib.Core.Path.{◌≡◌, refl, sym, ap, subst, ◌∙◌}
use mathlib.Core.List.{List, [], ◌∷◌}
use mathlib.Core.Bool.{false, not, ◌||◌}
use native.Mathlib.Omega.{arith}
use lib.Dec.{ltb}
use lib.ListN.{length, take, drop}
use Rattle.std.specs.Prelude.{Err}
use Rattle.facts.specs.Findings.{◌says◌, FirstFound, NoneFound}
use Rattle.trace.specs.declared.Misshape.{Misshape}
use Rattle.trace.specs.declared.Misshape.TheVariants.{Cut, TooManyCores, TooManyRows, BadRow}
use Rattle.trace.specs.Said.{bare}
use Rattle.trace.specs.Records.{picked_at, rows_at, past_record}
use Rattle.trace.specs.Shape.{bad_rows as bad_in_trace, shape_at as shape_in_trace}
use Rattle.trace.specs.Shaped.{shaped_of, shape_of}
use Rattle.trace.proofs.Shapes.{none_in_shape, sound_is_inside, sound_exactly, sound_goes_behind, number_is_first}
use Rattle.checker.specs.Answer.{shape_said}
use Rattle.checker.specs.Causes.{head_cut, too_many_cores, too_many_rows, rows_cut, bad_rows}
use Rattle.checker.specs.Check.{shape_at}

-- Row numbers are bad there exactly if they are bad here,
same_badness : (n least : ℕ) (rows : List ℕ) → bad_in_trace n least rows ≡ bad_rows n least rows
unfolding bad_in_trace bad_rows
same_badness n least [] = refl
same_badness n least (row ∷ rows) = ap (λ bad. not (ltb row n) || ltb row least || bad) (same_badness n (row + 1) rows)

module _ (M n : ℕ) (s : List ℕ) (at : ℕ) where
  -- so the same is looked for in the shape of a record.
  same_shape : shape_in_trace M n s at ≡ shape_at M n s at
  same_shape =
      ap (λ bad. (head_cut s at says bare 40) ∷ (too_many_cores M s at says bare 41) ∷ (too_many_rows s at says bare 42) ∷ (rows_cut s at says bare 40) ∷ (bad says bare 43) ∷ [])
      (same_badness n 0 (rows_at s at))

  -- A shape that is judged sound has no cause, and its rows lie inside and rise.
  pub record SoundShape (next : ℕ) : Type 0 where
    pub none : NoneFound (shape_at M n s at)
    pub behind : next ≡ past_record s at
    pub inside : next ≤ length s
    pub rows : take (next - (at + 2)) (drop (at + 2) s) ≡ rows_at s at
    pub rise : bad_rows n 0 (rows_at s at) ≡ false

  pub shape_is_sound : {next : ℕ} → record { number = 0; next = next } ≡ shape_of M n s at → SoundShape next
  shape_is_sound {next} e =
      let number = sym (ap (λ r. r.number) e) in
      let sound = (sound_exactly M n s at).0 number in
      let behind : next ≡ past_record s at = ap (λ r. r.next) e ∙ sound_goes_behind M n s at number in
      record {
        none = subst NoneFound same_shape ((none_in_shape M n s at).1 sound);
        behind = behind;
        inside = omega (arith, behind, (sound_is_inside M n s at sound).whole);
        rows = ap (λ c. take c (drop (at + 2) s)) {x = next - (at + 2)} {y = picked_at s at} (omega arith);
        rise = sym (same_badness n 0 (rows_at s at)) ∙ sound.numbers;
      }

  is_numbered : (misshape : Misshape) → shape_said misshape ≡ 0 → ⊥
  is_numbered Cut e = omega arith
  is_numbered TooManyCores e = omega arith
  is_numbered TooManyRows e = omega arith
  is_numbered BadRow e = omega arith

  -- What it is refused for is the first that is found.
  pub misshape_is_first : (misshape : Misshape) → shaped_of (Err misshape) ≡ shape_of M n s at → FirstFound (shape_at M n s at) (bare (shape_said misshape))
  misshape_is_first misshape e =
      let is = ap (λ r. r.number) e in
      subst (λ findings. FirstFound findings (bare (shape_said misshape))) same_shape
      (rw is (number_is_first M n s at (λ none. is_numbered misshape (is ∙ none))))
