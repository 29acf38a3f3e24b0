-- Bytes that agree with others from a place up to an end: by way of a third, and what a record is in both. Assumes nothing.
use Prim.Native.Nat.{ℕ, ◌+◌, ◌-◌, ◌≤◌}
use mathlib.Core.Path.{◌≡◌, sym, ap, ◌∙◌}
use mathlib.Core.List.{List, ◌++◌}
use native.Mathlib.Omega.{arith}
use borrow.Author.Tests.{le-ltb}
use lib.ListN.{length, take, drop}
use lib.Seq.{sets, sets-eq, length-sets, length-take-le, get_or-take, get_or-drop, get_or-append-add}
use Rattle.fields.specs.Fields.{byte}
use Rattle.trace.specs.Records.{past_record}
use Rattle.trace.specs.Shape.{SoundRecord}
use Rattle.trace.proofs.Agree.{Agree, rows_agree}

-- Bytes that agree with others that agree with a third agree with the third,
pub agree_on : {from end end' : ℕ} {a b c : List ℕ} → Agree from end' a b → Agree from end b c → end ≤ end' → Agree from end a c
agree_on p q l =
    record {
      same = λ i h k. p.same i h (omega arith) ∙ q.same i h k;
      reaches = omega (arith, p.reaches, l);
      reaches_too = q.reaches_too;
    }

-- and the others with them.
pub agree_back : {from end : ℕ} {a b : List ℕ} → Agree from end a b → Agree from end b a
agree_back p = record { same = λ i h k. sym (p.same i h k); reaches = p.reaches_too; reaches_too = p.reaches }

-- The front of bytes agrees with them up to its end.
pub front_agrees : (from n : ℕ) (b : List ℕ) → n ≤ length b → Agree from n (take n b) b
front_agrees from n b l =
    record {
      same = λ i h k. get_or-take n b i 0 k;
      reaches = omega (arith, length-take-le n b l);
      reaches_too = l;
    }

-- Bytes stored at the front stand before what was behind them,
pub front_stored : (b l : List ℕ) → length l ≤ length b → sets b 0 l ≡ l ++ drop (length l) b
front_stored b l fits = sets-eq l b 0 (omega arith) ∙ ap (λ k. l ++ drop k b) {x = 0 + length l} {y = length l} (omega arith)

-- and agree with it from there on.
pub behind_stored : (b l : List ℕ) → length l ≤ length b → Agree (length l) (length b) (sets b 0 l) b
behind_stored b l fits =
    record {
      same = λ i h k.
          let e : i ≡ length l + (i - length l) = omega arith in
          ap (λ s. byte s i) (front_stored b l fits)
          ∙ (ap (byte (l ++ drop (length l) b)) e
          ∙ (get_or-append-add l (drop (length l) b) (i - length l) 0 ∙ (get_or-drop (length l) b (i - length l) 0 ∙ ap (byte b) (sym e))));
      reaches = omega (arith, length-sets b 0 l);
      reaches_too = omega arith;
    }

-- A record that is sound in bytes is sound in bytes that agree with them.
pub sound_too : (M n from end : ℕ) (a b : List ℕ) → Agree from end a b → (place : ℕ) → from ≤ place → past_record b place ≤ end →
    SoundRecord M n b place → SoundRecord M n a place
sound_too M n from end a b agree place l h sound =
    let free = agree.same place l (omega arith) in
    let picked = agree.same (place + 1) (omega arith) (omega arith) in
    record {
      head = le-ltb (length a) (place + 2) (omega (arith, agree.reaches, h));
      cores = rw free sound.cores;
      picked = rw (free, picked) sound.picked;
      rows = le-ltb (length a) (past_record a place) (omega (arith, agree.reaches, h, picked));
      numbers = rw (rows_agree from end a b agree place l h) sound.numbers;
    }
