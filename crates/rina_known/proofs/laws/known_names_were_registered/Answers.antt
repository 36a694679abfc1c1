use Rattle.rina_known.specs.Entries.{IsKnown}
use Rattle.rina_known.proofs.Keeping.{more_known, own_known}
use Rattle.rina_known.proofs.Starts.{new_are}
use Rattle.rina_known.proofs.laws.known_names_were_registered.Goals as goal

pub returns : goal.returns
returns c = record { start = λ names. new_are (IsKnown names) (own_known names); more = more_known }
