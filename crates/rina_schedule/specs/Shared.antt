-- What several words have in common: places, and the last field of a line.
use Rattle.std.specs.Prelude.{ℕ, ◌+◌, List, Result, Ok}
use Rattle.rina_base.specs.Traverse.{◌>>=◌}
use Rattle.rina_schedule.specs.declared.error.LineError.{LineError}
use Rattle.rina_schedule.specs.declared.words.place.Place.{Place}
use Rattle.rina_schedule.specs.declared.words.place.AppPlace.{AppPlace}
use Rattle.rina_schedule.specs.Fields.{name_field_at, app_field_at, number_at, bytes_at, end_at}

-- FAC NODE, from field n on
unfoldable pub place_at : ℕ → List ℕ → Result (Place × List ℕ) LineError
place_at n text = do
  fac ← name_field_at n text
  node ← name_field_at (n + 1) fac.1
  Ok (record { fac = fac.0; node = node.0 }, node.1)

-- FAC NODE, from field n on, and the end of the line
unfoldable pub last_place_at : ℕ → List ℕ → Result Place LineError
last_place_at n text = do
  at ← place_at n text
  _ ← end_at (n + 2) at.1
  Ok at.0

-- FAC NODE APP, from field n on, and the end of the line
unfoldable pub last_app_place_at : ℕ → List ℕ → Result AppPlace LineError
last_app_place_at n text = do
  at ← place_at n text
  app ← app_field_at (n + 2) at.1
  _ ← end_at (n + 3) app.1
  Ok (record { at = at.0; app = app.0 })

-- field n, a name, and the end of the line
unfoldable pub last_name_at : ℕ → List ℕ → Result (List ℕ) LineError
last_name_at n text = do
  name ← name_field_at n text
  _ ← end_at (n + 1) name.1
  Ok name.0

-- field n, a number, and the end of the line
unfoldable pub last_number_at : ℕ → List ℕ → Result ℕ LineError
last_number_at n text = do
  number ← number_at n text
  _ ← end_at (n + 1) number.1
  Ok number.0

-- fields n and n + 1, two numbers, and the end of the line
unfoldable pub last_numbers_at : ℕ → List ℕ → Result (ℕ × ℕ) LineError
last_numbers_at n text = do
  one ← number_at n text
  other ← last_number_at (n + 1) one.1
  Ok (one.0, other)

-- field n, which spells bytes, and the end of the line
unfoldable pub last_bytes_at : ℕ → List ℕ → Result (List ℕ) LineError
last_bytes_at n text = do
  bytes ← bytes_at n text
  _ ← end_at (n + 1) bytes.1
  Ok bytes.0
