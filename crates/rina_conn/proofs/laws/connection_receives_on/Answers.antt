use Rattle.rina_conn.proofs.Carried.{new_receives, fetched_receives, still_receives, later_receives, forgotten_receives, acknowledged_receives, sending_receives}
use Rattle.rina_conn.proofs.laws.connection_receives_on.Goals as goal

pub returns : goal.returns
returns c = record { begins = new_receives; fetched = fetched_receives; still = still_receives; later = later_receives; forgotten = forgotten_receives; acknowledged = acknowledged_receives; sending = sending_receives }
