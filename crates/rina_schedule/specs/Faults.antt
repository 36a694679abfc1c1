-- What an error of a line says of the field that it names.
use Rattle.std.specs.Prelude.{◌≡◌, ℕ, zero, suc, ◌⊎◌, ◌&&◌, nat_le, false, List, Some, None, Err}
use Rattle.rina_base.specs.declared.name.NameError.{NameError}
use Rattle.rina_base.specs.Names.{name_at, app_at}
use Rattle.rina_base.specs.Decimals.{number_of}
use Rattle.rina_base.specs.ObjectNames.{object_name_of}
use Rattle.rina_schedule.specs.declared.error.LineError.{LineError}
use Rattle.rina_schedule.specs.declared.error.LineError.TheVariants as errors
use Rattle.rina_schedule.specs.Bytes.{bytes_of}
use Rattle.rina_schedule.specs.Fields.{next_of, behind}

-- so many fields stand in front of a text, and the rest behind them
abbrev pub Passes : ℕ → List ℕ → List ℕ → Type 0
Passes zero text rest = text ≡ rest
Passes (suc k) text rest = (f : List ℕ × List ℕ) × (next_of text ≡ Some f) × Passes k f.1 rest

-- the text has exactly so many fields
pub record EndsBefore (k : ℕ) (text : List ℕ) : Type 0 where
  pub rest : List ℕ
  pub passes : Passes k text rest
  pub none : next_of rest ≡ None

-- the text has a field of this number, counted from 0, and it is so
pub record HasField (k : ℕ) (text : List ℕ) (P : List ℕ → Type 0) : Type 0 where
  pub rest : List ℕ
  pub passes : Passes k text rest
  pub field : List ℕ × List ℕ
  pub there : next_of rest ≡ Some field
  pub is : P field.0

-- a field is no number of 32 bits, or none from 1 to 100,000, or begins with a word behind which no number stands
abbrev pub IsNoNumber : List ℕ → Type 0
IsNoNumber f = (number_of f ≡ None) ⊎ (((m : ℕ) × (number_of f ≡ Some m) × ((nat_le 1 m && nat_le m 100000) ≡ false)) ⊎ ((word : List ℕ) × ((digits : List ℕ) × (behind word f ≡ Some digits) × (number_of digits ≡ None))))

-- a field is no name, or no name of an application, or none of an object
abbrev pub IsNoName : List ℕ → Type 0
IsNoName f = ((e : NameError) × (name_at f ≡ Err e)) ⊎ (((e : NameError) × (app_at f ≡ Err e)) ⊎ (object_name_of f ≡ None))

abbrev pub IsAny : List ℕ → Type 0
IsAny f = Unit {0}

abbrev pub SpellsNone : List ℕ → Type 0
SpellsNone f = bytes_of f ≡ None

-- An error is true of the line: a field that is missing is the one behind the last, any other is there, and it is not what it has to be. The word is field 0.
abbrev pub IsTrueOf : List ℕ → LineError → Type 0
IsTrueOf text errors.Memory = ⊥
IsTrueOf text errors.UnknownWord = HasField 0 text IsAny
IsTrueOf text (errors.MissingField n) = EndsBefore n text
IsTrueOf text (errors.BadNumber n) = HasField n text IsNoNumber
IsTrueOf text (errors.BadName n) = HasField n text IsNoName
IsTrueOf text (errors.Extra n) = HasField n text IsAny
IsTrueOf text (errors.BadBytes n) = HasField n text SpellsNone
