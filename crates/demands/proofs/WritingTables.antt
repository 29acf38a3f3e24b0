-- Tables are written as 02 asks. Assumes nothing.
use mathlib.Core.Path.{refl}
use mathlib.Core.List.{flat_map}
use Rattle.facts.specs.Findings.{first_found}
use Rattle.facts.specs.Rising.{rising}
use Rattle.facts.specs.Places.{places, padded}
use Rattle.fields.specs.Fields.{bytes_of}
use Rattle.fields.proofs.Numbers.{written_is_read, read_is_written, fields_are_numbers}
use Rattle.table.specs.Causes.{load}
use Rattle.table.specs.Writing.{bytes_of_row, bytes_of_table, write_number, writing, buffer_after}
use Rattle.table.proofs.Written.{write_numbers, write_numbers_are_first_causes, written_exactly, length_is_said, past_stays}
use Rattle.table.proofs.RoundTrip.{written_reads_back, read_is_written_back, refused_as_the_reader_would, reader_says_the_same}
use Rattle.demands.specs.WritingTables.{WritingTables}

pub writing_tables : WritingTables
unfolding flat_map first_found rising places padded bytes_of load bytes_of_row bytes_of_table write_number writing buffer_after
writing_tables =
    record {
      reads_back = written_reads_back;
      gives_same_bytes = read_is_written_back;
      past_stays = past_stays;
      as_the_reader = refused_as_the_reader_would;
      reader_says_the_same = reader_says_the_same;
      numbers = write_numbers;
      refused = write_numbers_are_first_causes;
      exactly = written_exactly;
      length = length_is_said;
      in_36 = (refl, refl);
      in_40 = (refl, refl);
      in_35 = (refl, refl);
      number_is_read = written_is_read;
      number_is_written = read_is_written;
      fields = fields_are_numbers;
    }
