use Rattle.rina_flood.proofs.Entries.{entries_are_one, rows_leave}
use Rattle.rina_flood.proofs.laws.a_dif_tells_links_and_entries.Goals as goal

pub returns-clause-links : goal.returns-clause-links
returns-clause-links c = rows_leave

pub returns-clause-entries : goal.returns-clause-entries
returns-clause-entries c = entries_are_one
