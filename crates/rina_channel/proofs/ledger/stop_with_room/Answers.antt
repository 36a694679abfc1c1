use Rattle.std.proofs.Common.{arith}
use Rattle.std.specs.Vec.{vec_capacity}
use Rattle.rina_channel.proofs.Unnaming.{stops_on}
use Rattle.rina_channel.proofs.ledger.stop_with_room.Goals as goal

pub returns-clause-stops : goal.returns-clause-stops
returns-clause-stops c =
    let count = c.args.lines.now.ok.0 in
    let len = c.len-from.ensures in
    stops_on c.args.now c.args.at c.args.state c.args.flows.now c.stop_with_room.new.self c.args.lines.now.items c.stop_with_room.new.lines.items c.unname_from.new.lines.items c.len-from.result (vec_capacity c.args.lines.now) (omega (arith, count, len)) c.unname_from.ensures.lines c.stop_with_room.ensures.stops
