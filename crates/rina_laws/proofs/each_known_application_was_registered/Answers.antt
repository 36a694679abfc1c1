-- Applications that members find were registered by lines.
use Rattle.rina_laws.proofs.KnownRun.{asked_are_registered, entries_are_registered, far_are_registered, known_are_registered}
use Rattle.rina_laws.proofs.each_known_application_was_registered.Goals as goal

pub returns : goal.returns
returns c = record { entries = entries_are_registered; known = known_are_registered; asked = asked_are_registered; far = far_are_registered }
