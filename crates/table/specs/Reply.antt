-- What reading and writing answer, in 01's numbers.
use Rattle.std.specs.Prelude.{ℕ, Option, None, Some, Result, Ok, Err, replicate}
use Rattle.table.specs.declared.Table.{Table}
use Rattle.table.specs.declared.faults.Fault.{Fault}
use Rattle.table.specs.declared.faults.Fault.TheVariants.{Ends, Format, Cycle, Cores, Boards, RowCount, Tanks, Cost, Weight, Period, Kind, After, Sum}
use Rattle.table.specs.declared.faults.Unwritten.{Unwritten}
use Rattle.table.specs.declared.faults.Unwritten.TheVariants.{Faulty, NoRoom}
use Rattle.table.specs.Limits.{core_limit, row_limit}
use Rattle.table.specs.Causes.{zero_row}

-- What reading answers: 0 and the table, or the number of the first fault met and a table of zeros.
pub record Reading : Type 0 where
  pub number : ℕ
  pub table : Table

-- What writing answers: 0 and how many bytes were written, or the number of the first fault met and 0.
pub record Writing : Type 0 where
  pub number : ℕ
  pub length : ℕ

-- 01's number for each refusal of the table.
abbrev pub fault_number : Fault → ℕ
fault_number Ends = 10
fault_number Format = 11
fault_number Cycle = 12
fault_number Cores = 13
fault_number Boards = 14
fault_number RowCount = 15
fault_number Tanks = 16
fault_number Cost = 17
fault_number Weight = 18
fault_number Period = 19
fault_number Kind = 20
fault_number After = 21
fault_number Sum = 22

-- "A table refusal yields no table"; "In any refused answer each part that no rule names is 0 or empty."
abbrev pub no_table : Table
no_table = record { format = 0; cycle = 0; cores = 0; boards = replicate core_limit 0; n = 0; rows = replicate row_limit zero_row }

-- a refusal
abbrev pub refused_with : ℕ → Reading
refused_with number = record { number = number; table = no_table }

-- 01's number and values for each answer of the reader,
abbrev pub reply_of : Result Table Fault → Reading
reply_of (Ok table) = record { number = 0; table = table }
reply_of (Err fault) = refused_with (fault_number fault)

-- for the fault of a value,
abbrev pub fault_said : Option Fault → ℕ
fault_said None = 0
fault_said (Some fault) = fault_number fault

-- and for each answer of the writer: "then 37 if the buffer is too short" (02, Five).
abbrev pub written_of : Result ℕ Unwritten → Writing
written_of (Ok many) = record { number = 0; length = many }
written_of (Err (Faulty fault)) = record { number = fault_number fault; length = 0 }
written_of (Err NoRoom) = record { number = 37; length = 0 }

-- Between functions: the number of a fault, 0 where there is none, whatever else is answered.
abbrev pub number_of : {A : Type 0} → Result A Fault → ℕ
number_of (Ok something) = 0
number_of (Err fault) = fault_number fault
