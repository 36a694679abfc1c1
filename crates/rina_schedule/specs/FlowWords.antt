-- The words about flows, and the fields behind each.
use Rattle.std.specs.Prelude.{ℕ, ◌^◌, ◌-◌, List, codes, Result, Ok}
use Rattle.rina_base.specs.Traverse.{◌>>=◌}
use Rattle.rina_cube.specs.declared.Want.{Want}
use Rattle.rina_schedule.specs.declared.error.LineError.{LineError}
use Rattle.rina_schedule.specs.declared.event.Event.{Event}
use Rattle.rina_schedule.specs.declared.event.Event.TheVariants as events
use Rattle.rina_schedule.specs.Fields.{name_field_at, app_field_at, bytes_at, flag_at, setting_at, end_at}

-- register FAC NODE APP
unfoldable pub register_at : List ℕ → Result Event LineError
register_at text = do
  fac ← name_field_at 1 text
  node ← name_field_at 2 fac.1
  app ← app_field_at 3 node.1
  _ ← end_at 4 app.1
  Ok (events.Register fac.0 node.0 app.0)

-- unregister FAC NODE APP
unfoldable pub unregister_at : List ℕ → Result Event LineError
unregister_at text = do
  fac ← name_field_at 1 text
  node ← name_field_at 2 fac.1
  app ← app_field_at 3 node.1
  _ ← end_at 4 app.1
  Ok (events.Unregister fac.0 node.0 app.0)

-- [ordered] [reliable] [within=N] [size=N], in this order, from field 6 on
unfoldable pub want_at : List ℕ → Result Want LineError
want_at text = do
  ordered ← Ok (flag_at (codes "ordered") 6 text)
  reliable ← Ok (flag_at (codes "reliable") ordered.1 ordered.2)
  within ← setting_at (codes "within=") (2 ^ 32 - 1) reliable.1 reliable.2
  size ← setting_at (codes "size=") 0 within.1 within.2
  _ ← end_at size.1 size.2
  Ok (record { ordered = ordered.0; reliable = reliable.0; within = within.0; size = size.0 })

-- alloc LABEL FAC NODE APP TO and the options
unfoldable pub alloc_at : List ℕ → Result Event LineError
alloc_at text = do
  label ← name_field_at 1 text
  fac ← name_field_at 2 label.1
  node ← name_field_at 3 fac.1
  app ← app_field_at 4 node.1
  to ← app_field_at 5 app.1
  want ← want_at to.1
  Ok (events.Alloc label.0 fac.0 node.0 app.0 to.0 want)

-- accept LABEL FAC NODE APP
unfoldable pub accept_at : List ℕ → Result Event LineError
accept_at text = do
  label ← name_field_at 1 text
  fac ← name_field_at 2 label.1
  node ← name_field_at 3 fac.1
  app ← app_field_at 4 node.1
  _ ← end_at 5 app.1
  Ok (events.Accept label.0 fac.0 node.0 app.0)

-- send LABEL BYTES
unfoldable pub send_at : List ℕ → Result Event LineError
send_at text = do
  label ← name_field_at 1 text
  bytes ← bytes_at 2 label.1
  _ ← end_at 3 bytes.1
  Ok (events.Send label.0 bytes.0)

-- read LABEL
unfoldable pub read_at : List ℕ → Result Event LineError
read_at text = do
  label ← name_field_at 1 text
  _ ← end_at 2 label.1
  Ok (events.Read label.0)

-- state LABEL
unfoldable pub state_at : List ℕ → Result Event LineError
state_at text = do
  label ← name_field_at 1 text
  _ ← end_at 2 label.1
  Ok (events.State label.0)

-- free LABEL
unfoldable pub free_at : List ℕ → Result Event LineError
free_at text = do
  label ← name_field_at 1 text
  _ ← end_at 2 label.1
  Ok (events.Free label.0)
