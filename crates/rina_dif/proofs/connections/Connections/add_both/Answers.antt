use Rattle.std.proofs.Common.{Ok}
use Rattle.rina_dif.proofs.TakenLinks.{added_both}
use Rattle.rina_dif.proofs.connections.Connections.add_both.Goals as goal

pub returns-clause-adds : goal.returns-clause-adds
returns-clause-adds c = added_both c.args.settings.now c.args.self.now.manage c.piece-piece.result c.greatest-max.result c.peer_at-peer.result c.args.channels.1.partner c.args.channels.0.partner c.args.ends.0 c.args.ends.1 c.args.self.now.flows c.add.new.self (Ok tt) c.piece-piece.ensures c.greatest-max.ensures c.peer_at-peer.ensures c.in_ok-add.ensures.adds
