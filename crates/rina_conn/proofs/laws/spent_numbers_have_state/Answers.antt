use Rattle.rina_conn.proofs.Spent.{spent_has_state}
use Rattle.rina_conn.proofs.laws.spent_numbers_have_state.Goals as goal

pub returns : goal.returns
returns c = spent_has_state
