use Rattle.std.proofs.Common.{None, ap, refl, slice_get, subst}
use Rattle.rina_conn.specs.declared.conn.Conn.{Conn}
use Rattle.rina_conn.specs.Sending.{TellsGivenUp}
use Rattle.rina_flows.specs.declared.due.Item.TheVariants.{GiveUp}
use Rattle.rina_dif.proofs.GivenUp.{given_up_number, no_channel, no_link, none_given_up, on_err, port_there, same_some}
use Rattle.rina_dif.proofs.LinkFirst.{due_within}
use Rattle.rina_dif.proofs.Resent.{number_of}
use Rattle.rina_dif.proofs.dif.Dif.give_up_link.Goals as goal

pub at-requires : goal.at-requires
at-requires g c =
    let below = g.F.Facility.seen c.args.below.now in
    let links = c.requires.stands.1.connected in
    due_within GiveUp c.args.self.now below links c.args.at c.args.turn.place c.args.turn.number (c.requires.due below links)

pub unreachable-requires : goal.unreachable-requires
unreachable-requires g c =
    let below = g.F.Facility.seen c.args.below.now in
    let links = c.requires.stands.1.connected in
    none_given_up c.args.self.now below c.args.at c.args.turn.place c.args.turn.number links (c.requires.due below links) (λ k is. subst (λ (z : Conn). TellsGivenUp c.args.self.now.clock z.sending None) (same_some (slice_get c.args.self.now.connections.flows.conns c.args.turn.place) c.at.result.now k c.at.ensures is) c.in_default.ensures)

pub unreachable-requires-in_default-get : goal.unreachable-requires-in_default-get
unreachable-requires-in_default-get g c =
    let below = g.F.Facility.seen c.args.below.now in
    let links = c.requires.stands.1.connected in
    no_channel c.args.self.now below c.args.at c.args.turn.place c.args.turn.number links (c.requires.due below links) c.in_default-get.ensures

pub unreachable-requires-in_default-link : goal.unreachable-requires-in_default-link
unreachable-requires-in_default-link g c =
    let below = g.F.Facility.seen c.args.below.now in
    let links = c.requires.stands.1.connected in
    no_link c.args.self.now below c.args.at c.args.turn.place c.args.turn.number c.in-Some-get.channel.now links (c.requires.due below links) c.in-Some-get.ensures c.in_default-link.is

pub free_below-requires-clause-there : goal.free_below-requires-clause-there
free_below-requires-clause-there g c = port_there c.args.self.now (g.F.Facility.seen c.args.below.now) c.args.turn.place c.in-Some-get.channel.now c.in-Some-link.attached c.requires.stands.1.connected c.in-Some-get.ensures c.in-Some-link.is

pub returns-clause-does : goal.returns-clause-does
returns-clause-does g c = λ links.
    let below = g.F.Facility.seen c.args.below.now in
    let due = c.requires.due below links in
    record {
      due = due.due;
      num_is = ap number_of (given_up_number c.args.self.now below c.args.at c.args.turn.place c.args.turn.number c.at.result.now c.in-Some.told links due c.at.ensures c.in-Some.ensures);
      channel = c.in-Some-get.channel.now;
      stands = c.in-Some-get.ensures;
      attached = c.in-Some-link.attached;
      attached_is = c.in-Some-link.is;
      both = g.F.Facility.frees_both c.args.below.now;
      freed = c.in_ok-free_below.ensures.frees.0;
      same = (refl, refl);
    }

pub returns-clause-frees : goal.returns-clause-frees
returns-clause-frees g c = (c.in-Some-link.attached.port, c.in_ok-free_below.ensures.frees)

pub returns-in_err-free_below-clause-fails : goal.returns-in_err-free_below-clause-fails
returns-in_err-free_below-clause-fails g c = on_err c.from_residual.result _ (c.in-Some-link.attached.port, c.in_err-free_below.ensures.fails)
