use Rattle.std.specs.Vec.{vec_capacity}
use Rattle.rina_iface.specs.State.{with_state}
use Rattle.rina_iface.specs.declared.ends.End.{End}
use Rattle.rina_flows.specs.Delivering.{GivesUpAll, closed}
use Rattle.rina_flows.proofs.Elsewhere.{by_becoming, by_change}
use Rattle.rina_flows.proofs.Halted.{stops_within}
use Rattle.rina_flows.proofs.flows.Flows.stop_with_room.Goals as goal

pub returns-clause-stops : goal.returns-clause-stops
returns-clause-stops c = stops_within c.args.now c.args.at c.args.state c.args.self.now.journal.ends c.set_state.new.self c.args.self.now.conns c.close.new.self c.args.lines.now.items c.close.new.lines.items (vec_capacity c.args.lines.now) c.close.ensures.becomes c.set_state.ensures

pub returns-clause-leaves : goal.returns-clause-leaves
returns-clause-leaves c = (by_change (λ (e : End). with_state e c.args.state) c.args.self.now.journal.ends c.set_state.new.self c.args.at c.requires.end c.set_state.ensures, by_becoming (GivesUpAll c.args.now closed c.args.lines.now.items (vec_capacity c.args.lines.now) c.close.new.lines.items) c.args.at c.args.self.now.conns c.close.new.self c.requires.conn c.close.ensures.becomes)
