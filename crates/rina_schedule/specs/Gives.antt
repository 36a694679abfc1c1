-- The result of a call that reads a text, by what the text says.
use Rattle.std.specs.Prelude.{◌≡◌, Bool, Result, Ok, Err, Option, Some, None, if◌then◌else◌}
use Rattle.rina_schedule.specs.declared.error.LineError.{LineError}
use Rattle.rina_schedule.specs.declared.error.LineError.TheVariants as errors

-- a call returned what reading gives, its value seen by `view`, unless an allocation failed
abbrev pub Gives : {X Y : Type 0} → (X → Y) → Result X LineError → Result Y LineError → Type 0
Gives view (Ok x) read = read ≡ Ok (view x)
Gives view (Err errors.Memory) read = Unit {0}
Gives view (Err errors.UnknownWord) read = read ≡ Err errors.UnknownWord
Gives view (Err (errors.MissingField n)) read = read ≡ Err (errors.MissingField n)
Gives view (Err (errors.BadNumber n)) read = read ≡ Err (errors.BadNumber n)
Gives view (Err (errors.BadName n)) read = read ≡ Err (errors.BadName n)
Gives view (Err (errors.Extra n)) read = read ≡ Err (errors.Extra n)
Gives view (Err (errors.BadBytes n)) read = read ≡ Err (errors.BadBytes n)

-- a value, or this error where there is none
abbrev pub or_bad : {A : Type 0} → LineError → Option A → Result A LineError
or_bad e (Some x) = Ok x
or_bad e None = Err e

-- this error, unless a test holds
abbrev pub guard : Bool → LineError → Result (Unit {0}) LineError
guard b e = if b then Ok tt else Err e
