use Rattle.rina_asks.proofs.Rows.{rows_hold, runs_hold}
use Rattle.rina_asks.proofs.laws.requests_and_messages_hold.Goals as goal

pub returns : goal.returns
returns c = record { rows = rows_hold; runs = runs_hold }
