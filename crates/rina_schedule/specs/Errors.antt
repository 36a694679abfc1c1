-- The number and the field by which a fault tells the error of a line.
use Rattle.std.specs.Prelude.{ℕ}
use Rattle.rina_schedule.specs.declared.error.LineError.{LineError}
use Rattle.rina_schedule.specs.declared.error.LineError.TheVariants as errors

-- the number of the error; `Memory` is an error of no line, and has 0
abbrev pub number_of : LineError → ℕ
number_of errors.Memory = 0
number_of errors.UnknownWord = 1
number_of (errors.MissingField n) = 2
number_of (errors.BadNumber n) = 3
number_of (errors.BadName n) = 4
number_of (errors.Extra n) = 5
number_of (errors.BadBytes n) = 6

-- the field at which the line fails; an unknown word is field 0
abbrev pub field_of : LineError → ℕ
field_of errors.Memory = 0
field_of errors.UnknownWord = 0
field_of (errors.MissingField n) = n
field_of (errors.BadNumber n) = n
field_of (errors.BadName n) = n
field_of (errors.Extra n) = n
field_of (errors.BadBytes n) = n
