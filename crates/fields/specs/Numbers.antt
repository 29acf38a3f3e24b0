-- Numbers go into bytes and back, whatever the width.
use Rattle.std.specs.Prelude.{ℕ, ◌+◌, ◌^◌, ◌≤◌, ◌<◌, ◌≡◌, List, ◌++◌, true, length, take, drop}
use Rattle.facts.specs.Below.{all_below}
use Rattle.fields.specs.Fields.{byte, half, word, bytes_of, number_at}

-- A number that fits is read as it was written, wherever it stands.
abbrev pub WrittenIsRead : Type 0
WrittenIsRead = (width n : ℕ) → n < 256 ^ width → (front rest : List ℕ) → number_at width (front ++ (bytes_of width n ++ rest)) (length front) ≡ n

-- And bytes that are read are written as they were.
abbrev pub ReadIsWritten : Type 0
ReadIsWritten =
    (s : List ℕ) → all_below 256 s ≡ true → (width i : ℕ) → i + width ≤ length s → bytes_of width (number_at width s i) ≡ take width (drop i s)

-- The fields of one, two and four bytes are such numbers.
pub record FieldsAreNumbers : Type 0 where
  pub one : (s : List ℕ) (i : ℕ) → byte s i ≡ number_at 1 s i
  pub two : (s : List ℕ) (i : ℕ) → half s i ≡ number_at 2 s i
  pub four : (s : List ℕ) (i : ℕ) → word s i ≡ number_at 4 s i
