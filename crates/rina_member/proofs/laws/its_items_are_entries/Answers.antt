use Rattle.rina_member.proofs.EntryForms.{items_entries}
use Rattle.rina_member.proofs.laws.its_items_are_entries.Goals as goal

pub returns : goal.returns
returns c = items_entries
