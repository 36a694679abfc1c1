use Rattle.std.proofs.Common.{◌∙◌, ap, sym}
use Rattle.rina_dif.proofs.Channels.{is_channel, never_off}
use Rattle.rina_data.specs.declared.settings.Member.{Member}
use Rattle.std.specs.Prelude.{position, ◌==◌}
use Rattle.rina_dif.proofs.connections.channel_of.Goals as goal

pub unreachable-requires-in_default-place_on : goal.unreachable-requires-in_default-place_on
unreachable-requires-in_default-place_on c =
    let home = ap (position (λ (m : Member). m.node == c.args.port.node)) (sym c.as_slice.ensures) ∙ sym c.place.ensures.place ∙ c.in-Some.is in
    never_off c.args.settings.now c.args.processes.now c.args.port c.in-Some.member c.in-Some-get.process.now c.as_slice-links.result.now c.requires home c.in-Some-get.ensures c.as_slice-links.ensures (sym c.place_on.ensures.place ∙ c.in_default-place_on.is)

pub returns : goal.returns
returns c =
    let home = ap (position (λ (m : Member). m.node == c.args.port.node)) (sym c.as_slice.ensures) ∙ sym c.place.ensures.place ∙ c.in-Some.is in
    is_channel c.args.settings.now c.args.processes.now c.args.port c.args.partner c.in-Some.member c.in-Some-get.process.now c.as_slice-links.result.now c.in-Some-place_on.at _ home c.in-Some-get.ensures c.as_slice-links.ensures (sym c.place_on.ensures.place ∙ c.in-Some-place_on.is)
