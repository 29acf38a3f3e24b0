-- Numbers in bytes, of any width. Assumes nothing.
use Prim.Native.Nat.{ℕ, zero, suc, ◌+◌, ◌*◌, ◌/◌, ◌%◌, ◌^◌, ◌<◌}
use mathlib.Core.Path.{◌≡◌, refl, sym, ap, ◌∙◌, subst}
use mathlib.Core.List.{List, [], ◌∷◌, ◌++◌}
use native.Mathlib.Nat.{pow-suc, mod-add-div, div-lt_iff_lt-mul, div-add-mod', div-eq_of_lt-le}
use native.Mathlib.Numerals.{add-one}
use native.Mathlib.Omega.{arith}
use lib.ListN.{length, take, drop, length-append}
use lib.Seq.{append_snoc, get_or-append_seam, drop-cons}
use Rattle.facts.proofs.Below.{each_below}
use Rattle.fields.specs.Fields.{byte, word, bytes_of, number_at}
use Rattle.fields.specs.Numbers.{WrittenIsRead, ReadIsWritten, FieldsAreNumbers}

-- for callers

-- A number in so many bytes has so many.
pub bytes_long : (width n : ℕ) → length (bytes_of width n) ≡ width
unfolding bytes_of
bytes_long zero n = refl
bytes_long (suc width) n = ap suc (bytes_long width (n / 256))

-- It is read as that number, wherever it stands: by its lowest byte, and by the others behind a front that is one byte longer.
pub written_is_read : WrittenIsRead
unfolding bytes_of number_at
written_is_read zero n h front rest = omega arith
written_is_read (suc width) n h front rest =
    let low = n % 256 in
    let there = front ++ (low ∷ (bytes_of width (n / 256) ++ rest)) in
    let high : n / 256 < 256 ^ width = (div-lt_iff_lt-mul {k = 256} {x = n} {y = 256 ^ width} (omega arith)).1 (omega (arith, pow-suc 256 width)) in
    let longer = front ++ (low ∷ []) in
    let long : length longer ≡ length front + 1 = length-append front (low ∷ []) in
    let same : longer ++ (bytes_of width (n / 256) ++ rest) ≡ there = append_snoc front low (bytes_of width (n / 256) ++ rest) in
    let others : number_at width there (length front + 1) ≡ n / 256 =
    subst (λ s. number_at width s (length front + 1) ≡ n / 256) same
    (subst (λ i. number_at width (longer ++ (bytes_of width (n / 256) ++ rest)) i ≡ n / 256) long (written_is_read width (n / 256) high longer rest)) in
    let first : byte there (length front) ≡ low = get_or-append_seam front low (bytes_of width (n / 256) ++ rest) 0 in
    omega (arith, first, others, mod-add-div n 256)

-- a byte and what stands above it
module _ (low high : ℕ) (small : low < 256) where
  above_is : (low + 256 * high) / 256 ≡ high
  above_is = div-eq_of_lt-le 256 (omega arith) (omega arith)

  below_is : (low + 256 * high) % 256 ≡ low
  below_is = omega (arith, div-add-mod' (low + 256 * high) 256, ap (λ x. x * 256) above_is)

-- Bytes that are read are written as they were.
pub read_is_written : ReadIsWritten
unfolding bytes_of number_at
read_is_written s bytes zero i h = refl
read_is_written s bytes (suc width) i h =
    let small = each_below 256 (omega arith) s bytes i in
    let others = number_at width s (i + 1) in
    rw (below_is (byte s i) others small, above_is (byte s i) others small)
    (ap (λ l. byte s i ∷ l) (read_is_written s bytes width (i + 1) (omega arith))
    ∙ (ap (λ k. byte s i ∷ take width (drop k s)) (add-one i) ∙ sym (ap (take (suc width)) (drop-cons s i 0 (omega arith)))))

-- Fields of one, two and four bytes are such numbers.
pub fields_are_numbers : FieldsAreNumbers
unfolding number_at
fields_are_numbers =
    record {
      one = λ s i. omega arith;
      two = λ s i. omega arith;
      four = λ s i.
          omega (
            arith,
            ap (byte s) {x = i + 1 + 1} {y = i + 2} (omega arith),
            ap (byte s) {x = i + 1 + 1 + 1} {y = i + 2 + 1} (omega arith),
          );
    }

-- The number in eight bytes is that of the lower four, and above it that of the other four.
pub eight_by_four : (s : List ℕ) (i : ℕ) → number_at 8 s i ≡ word s i + 4_294_967_296 * word s (i + 4)
unfolding number_at
eight_by_four s i =
    omega (
      arith,
      ap (byte s) {x = i + 1 + 1} {y = i + 2} (omega arith),
      ap (byte s) {x = i + 1 + 1 + 1} {y = i + 2 + 1} (omega arith),
      ap (byte s) {x = i + 1 + 1 + 1 + 1} {y = i + 4} (omega arith),
      ap (byte s) {x = i + 1 + 1 + 1 + 1 + 1} {y = i + 4 + 1} (omega arith),
      ap (byte s) {x = i + 1 + 1 + 1 + 1 + 1 + 1} {y = i + 4 + 2} (omega arith),
      ap (byte s) {x = i + 1 + 1 + 1 + 1 + 1 + 1 + 1} {y = i + 4 + 2 + 1} (omega arith),
    )
