-- The member handled what waits at the end that takes the piece, and what the piece makes whole there.
use Rattle.std.proofs.Common.{Option, subst, sym}
use Rattle.rina_base.specs.Pdus.{pdu_of}
use Rattle.rina_data.specs.Hops.{hop_of}
use Rattle.rina_member.specs.declared.management.Management.{Management}
use Rattle.rina_dif.specs.Handling.{HandlesAhead}
use Rattle.rina_dif.proofs.Learned.{taken_at}
use Rattle.rina_dif.proofs.OnLinks.{link_within}
use Rattle.rina_dif.proofs.Unlinked.{agent_within}
use Rattle.rina_dif.proofs.dif.Dif.handled_ahead.Goals as goal

pub management_ahead-requires-clause-at : goal.management_ahead-requires-clause-at
management_ahead-requires-clause-at c = agent_within c.args.self.now c.requires.stands.0 c.args.at c.requires.at c.requires.stands.1

pub management_ahead-requires-clause-place : goal.management_ahead-requires-clause-place
management_ahead-requires-clause-place c = (link_within c.args.self.now.connections c.args.port (hop_of c.args.came.now.hop).pdu c.in-Some.place (pdu_of c.in-Some.pdu) c.in-Some.ensures.taker).0

pub management_ahead-requires-clause-conn : goal.management_ahead-requires-clause-conn
management_ahead-requires-clause-conn c = (link_within c.args.self.now.connections c.args.port (hop_of c.args.came.now.hop).pdu c.in-Some.place (pdu_of c.in-Some.pdu) c.in-Some.ensures.taker).1

pub management_ahead-requires-clause-taken : goal.management_ahead-requires-clause-taken
management_ahead-requires-clause-taken c = taken_at c.args.self.now c.in-Some.place c.requires.stands

pub returns : goal.returns
returns c = record {
  its = pdu_of c.in-Some.pdu;
  takes = c.in-Some.ensures;
  handles = subst (λ (o : Option Management). HandlesAhead c.args.self.now c.args.at c.in-Some.place c.args.number (pdu_of c.in-Some.pdu) o) (sym c.in_ok-change.ensures.told) c.in_ok-after.ensures;
  changes = c.in_ok-change.ensures.changes;
}
