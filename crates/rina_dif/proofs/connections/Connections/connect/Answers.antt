use Rattle.std.proofs.Common.{◌∙◌, ◌++◌, ◌∷◌, [], List, ap, suc}
use Rattle.rina_channel.specs.declared.channel.Channel.{Channel}
use Rattle.rina_dif.proofs.Channels.{connects}
use Rattle.rina_dif.proofs.connections.Connections.connect.Goals as goal

pub returns : goal.returns
returns c =
    let places = c.in-Some.ensures in
    let channels = c.in_ok-push-2.ensures.ok ∙ ap (λ (zs : List Channel). zs ++ c.channel_of-far.result ∷ []) c.in_ok-push.ensures.ok in
    connects c.args.settings.now c.args.processes.now c.args.clock c.args.pair c.args.self.now c.in-Some.place c.in-Some.partner c.channel_of-near.result c.channel_of-far.result c.in-Some-Some.near_member.now c.in-Some-Some.far_member.now c.in_ok-asker.asker c.in_ok-end.end c.piece-piece.result c.greatest-max.result c.peer_at-peer.result c.push-2.new.self c.add.new.self c.add.result (places.0 ∙ c.len.ensures) (places.1 ∙ ap suc c.len.ensures) places.2 c.channel_of-near.ensures c.channel_of-far.ensures c.in_ok-asker.ensures c.in_ok-end.ensures c.piece-piece.ensures c.greatest-max.ensures c.peer_at-peer.ensures channels c.add.ensures.ends c.add.ensures.adds
