use Rattle.rina_asked.proofs.Keeps.{askers_found, yeses_find}
use Rattle.rina_asked.proofs.Starts.{new_asked}
use Rattle.rina_asked.proofs.laws.messages_have_their_ends.Goals as goal

pub returns : goal.returns
returns c = record { start = new_asked; found = askers_found; yes = yeses_find }
