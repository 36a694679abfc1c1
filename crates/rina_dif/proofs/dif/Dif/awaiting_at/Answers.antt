use Rattle.std.proofs.Common.{◌∙◌, ap, sym}
use Rattle.rina_channel.specs.Channels.{has_port}
use Rattle.std.specs.Prelude.{position}
use Rattle.rina_dif.proofs.FoundAwaiting.{found_awaiting_at, has_channel, if_some, lacks_channel, no_facility}
use Rattle.rina_dif.proofs.dif.Dif.awaiting_at.Goals as goal

pub returns-then-is_some-clause-finds : goal.returns-then-is_some-clause-finds
returns-then-is_some-clause-finds g c = has_channel c.args.self.now (g.F.Facility.seen c.args.below.now) c.args.at c.args.port c.channel_at.result (c.channel_at.ensures.place ∙ ap (position (has_port c.args.port)) c.as_slice-channels.ensures) (sym c.if-is_some.ensures)

pub returns-in-Some-clause-finds : goal.returns-in-Some-clause-finds
returns-in-Some-clause-finds g c =
    let d = c.args.self.now in
    let below = g.F.Facility.seen c.args.below.now in
    found_awaiting_at d c.requires.stands.0 below c.args.at c.args.port c.in-Some.journal.now.ends c.as_slice-channels.result.now c.awaiting.result (g.met.F.Facility.kept c.args.below.now c.requires.valid) c.requires.stands.1 c.in-Some.ensures
    (lacks_channel d c.args.port c.channel_at.result (c.channel_at.ensures.place ∙ ap (position (has_port c.args.port)) c.as_slice-channels.ensures) (sym c.if-is_some.ensures)) c.requires.mine c.as_slice-channels.ensures c.awaiting.ensures.place

pub returns-in-Some-clause-alone : goal.returns-in-Some-clause-alone
returns-in-Some-clause-alone g c = if_some c.awaiting.result _ (lacks_channel c.args.self.now c.args.port c.channel_at.result (c.channel_at.ensures.place ∙ ap (position (has_port c.args.port)) c.as_slice-channels.ensures) (sym c.if-is_some.ensures))

pub returns-in-None-clause-finds : goal.returns-in-None-clause-finds
returns-in-None-clause-finds g c = no_facility c.args.self.now (g.F.Facility.seen c.args.below.now) c.args.at c.args.port c.in-None.ensures
