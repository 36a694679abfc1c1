-- The words about members of a DIF, and the fields behind each.
use Rattle.std.specs.Prelude.{ℕ, List, Result, Ok}
use Rattle.rina_base.specs.Traverse.{◌>>=◌}
use Rattle.rina_schedule.specs.declared.error.LineError.{LineError}
use Rattle.rina_schedule.specs.declared.event.Event.{Event}
use Rattle.rina_schedule.specs.declared.event.Event.TheVariants as events
use Rattle.rina_schedule.specs.Fields.{name_field_at, number_at, bytes_at, path_at, end_at}

-- publish DIF NODE FAC
unfoldable pub publish_at : List ℕ → Result Event LineError
publish_at text = do
  dif ← name_field_at 1 text
  node ← name_field_at 2 dif.1
  fac ← name_field_at 3 node.1
  _ ← end_at 4 fac.1
  Ok (events.Publish dif.0 node.0 fac.0)

-- enrol DIF NODE FAC PEER
unfoldable pub enrol_at : List ℕ → Result Event LineError
enrol_at text = do
  dif ← name_field_at 1 text
  node ← name_field_at 2 dif.1
  fac ← name_field_at 3 node.1
  peer ← name_field_at 4 fac.1
  _ ← end_at 5 peer.1
  Ok (events.Enrol dif.0 node.0 fac.0 peer.0)

-- member DIF NODE
unfoldable pub member_at : List ℕ → Result Event LineError
member_at text = do
  dif ← name_field_at 1 text
  node ← name_field_at 2 dif.1
  _ ← end_at 3 node.1
  Ok (events.Member dif.0 node.0)

-- in DIF NODE LINK
unfoldable pub in_at : List ℕ → Result Event LineError
in_at text = do
  dif ← name_field_at 1 text
  node ← name_field_at 2 dif.1
  link ← number_at 3 node.1
  _ ← end_at 4 link.1
  Ok (events.In dif.0 node.0 link.0)

-- out DIF NODE LINK
unfoldable pub out_at : List ℕ → Result Event LineError
out_at text = do
  dif ← name_field_at 1 text
  node ← name_field_at 2 dif.1
  link ← number_at 3 node.1
  _ ← end_at 4 link.1
  Ok (events.Out dif.0 node.0 link.0)

-- clock DIF NODE
unfoldable pub clock_at : List ℕ → Result Event LineError
clock_at text = do
  dif ← name_field_at 1 text
  node ← name_field_at 2 dif.1
  _ ← end_at 3 node.1
  Ok (events.Clock dif.0 node.0)

-- cdap DIF NODE BYTES
unfoldable pub cdap_at : List ℕ → Result Event LineError
cdap_at text = do
  dif ← name_field_at 1 text
  node ← name_field_at 2 dif.1
  bytes ← bytes_at 3 node.1
  _ ← end_at 4 bytes.1
  Ok (events.Cdap dif.0 node.0 bytes.0)

-- rib DIF NODE [PATH]
unfoldable pub rib_at : List ℕ → Result Event LineError
rib_at text = do
  dif ← name_field_at 1 text
  node ← name_field_at 2 dif.1
  path ← path_at 3 node.1
  _ ← end_at 4 path.1
  Ok (events.Rib dif.0 node.0 path.0)

-- ledger DIF NODE
unfoldable pub ledger_at : List ℕ → Result Event LineError
ledger_at text = do
  dif ← name_field_at 1 text
  node ← name_field_at 2 dif.1
  _ ← end_at 3 node.1
  Ok (events.Ledger dif.0 node.0)
