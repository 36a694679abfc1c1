use Rattle.rina_dif.proofs.Kept.{quiet_known}
use Rattle.rina_dif.proofs.agreement.quiet_members_know_live_links.Goals as goal

pub returns : goal.returns
returns c = quiet_known c.members_are_a_network.ensures.claims
