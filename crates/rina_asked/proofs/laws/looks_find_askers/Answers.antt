use Rattle.rina_asked.proofs.Looks.{in_finds}
use Rattle.rina_asked.proofs.laws.looks_find_askers.Goals as goal

pub returns : goal.returns
returns c = in_finds
