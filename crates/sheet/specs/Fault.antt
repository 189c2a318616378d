-- The numbers of the faults (request (i)).
use Rattle.std.specs.Prelude.{ℕ}
use Rattle.sheet.specs.Sheet.{out_of_range, no_point}
use Rattle.sheet.specs.Text.{wrong_length, MALFORMED}
use Rattle.sheet.specs.declared.fault.Fault.{Fault}
use Rattle.sheet.specs.declared.fault.Fault.TheVariants.{WrongLength, Malformed, OutOfRange, NoPoint}

abbrev pub fault_number : Fault → ℕ
fault_number WrongLength = wrong_length
fault_number Malformed = MALFORMED
fault_number OutOfRange = out_of_range
fault_number NoPoint = no_point
