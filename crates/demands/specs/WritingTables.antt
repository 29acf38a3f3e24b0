-- "Writing tables" (02, Five): "Given a cycle, cores and rows, write the table bytes into a lent buffer."
use Rattle.std.specs.Prelude.{ℕ, ◌≡◌, List, ◌++◌, replicate}
use Rattle.fields.specs.Numbers.{WrittenIsRead, ReadIsWritten, FieldsAreNumbers}
use Rattle.table.specs.Reply.{Writing}
use Rattle.table.specs.Bytes.{table_in}
use Rattle.table.specs.Example.{example}
use Rattle.table.specs.Writing.{writing, buffer_after}
use Rattle.table.specs.Written.{WriteNumbers, WriteNumbersAreFirstCauses, WrittenExactly, LengthIsSaid, PastStays}
use Rattle.table.specs.RoundTrip.{WrittenReadsBack, ReadIsWrittenBack, RefusedAsTheReaderWould, ReaderSaysTheSame}

-- Written into so many bytes, all 238, 01's table is answered so, and leaves the buffer so.
abbrev pub Leaves : ℕ → Writing → List ℕ → Type 0
Leaves bytes said after =
    let buffer : List ℕ = replicate bytes 238 in
    (writing (table_in example) buffer ≡ said) × (buffer_after (table_in example) buffer ≡ after)

pub record WritingTables : Type 0 where
  -- "What is written reads back as the same table in all places below n and M;
  pub reads_back : WrittenReadsBack
  -- what reads back and is written gives the same bytes;
  pub gives_same_bytes : ReadIsWrittenBack
  -- the buffer past them stays as it was;
  pub past_stays : PastStays
  -- a table that the reader would refuse is refused with that number."
  pub as_the_reader : RefusedAsTheReaderWould
  pub reader_says_the_same : ReaderSaysTheSame
  -- "Refusals: 12 to 20 in reading order, 22, then 37 if the buffer is too short for exactly the bytes needed."; with Eight's 11 ahead of them
  pub numbers : WriteNumbers
  pub refused : WriteNumbersAreFirstCauses
  pub exactly : WrittenExactly
  -- how many bytes are written, which is said (docs/DECISIONS.md, 97)
  pub length : LengthIsSaid
  -- 01's table of 36 bytes in buffers of 36, of 40 and of 35 bytes
  pub in_36 : Leaves 36 (record { number = 0; length = 36 }) example
  pub in_40 : Leaves 40 (record { number = 0; length = 36 }) (example ++ replicate 4 238)
  pub in_35 : Leaves 35 (record { number = 37; length = 0 }) (replicate 35 238)
  -- "Little-endian throughout" (01): a number that fits into so many bytes is read as it was written, and bytes are written as they were read.
  pub number_is_read : WrittenIsRead
  pub number_is_written : ReadIsWritten
  pub fields : FieldsAreNumbers
