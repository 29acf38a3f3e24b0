use mathlib.Core.Path.{◌≡◌, sym}
use mathlib.Core.Logic.{◌⊎◌, inl, inr}
use Prim.Native.Nat.{ℕ, ◌+◌, ◌-◌, ◌≤◌, ◌<◌, min}
use native.Mathlib.Decide.{dec_lt}
use native.Mathlib.Omega.{arith}
use Rattle.facts.proofs.Storing.{none_stored_past}
use Rattle.fields.specs.Fields.{bytes_of}
use Rattle.fields.proofs.Putting.{putting_begins, puts_one_more, putting_ends}
use Rattle.fields.proofs.put.Goals as goal

-- the slice ends behind the bytes that are inside, if they are fewer than all
all_or_past : {inside width long at : ℕ} → inside ≡ min width (long - at) → at < long → (inside ≡ width) ⊎ (long ≤ at + inside)
all_or_past {inside} {width} {long} {at} e h = go (dec_lt width (long - at))
  where
    go : Dec (width < long - at) → (inside ≡ width) ⊎ (long ≤ at + inside)
    go (yes l) = inl (omega arith)
    go (no l) = inr (omega arith)

pub returns-then-s-at : goal.returns-then-s-at
returns-then-s-at c = record { value = omega (arith, c.if-s-at.true); s_after = sym (none_stored_past (bytes_of _ _) _ _ c.if-s-at.true) }

pub loop-i-init : goal.loop-i-init
loop-i-init c = putting_begins _ _ _ _

pub loop-i-preserved : goal.loop-i-preserved
loop-i-preserved c = puts_one_more _ _ _ _ c.loop-i.invariant (omega arith)

pub returns : goal.returns
returns c =
    let all : c.loop-i.i ≡ c.min-inside.result = omega arith in
    record { value = c.min-inside.ensures; s_after = putting_ends _ _ _ _ c.loop-i.invariant (rw all (all_or_past c.min-inside.ensures c.if-s-at.false)) }
