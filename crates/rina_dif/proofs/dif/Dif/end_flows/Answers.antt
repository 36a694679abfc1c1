-- One more flow has ended.
use Rattle.rina_dif.proofs.Showing.{ends_more}
use Rattle.rina_dif.proofs.dif.Dif.end_flows.Goals as goal

pub loop-at-preserved : goal.loop-at-preserved
loop-at-preserved c =
    let flows = c.args.self.now.flows in
    ends_more c.args.node flows.journal.ends flows.conns c.args.management.now c.loop-at.management c.end_flow.new.management c.loop-at.at c.in-Some.end.now c.at-conn.result.now c.in-Some.ensures c.at-conn.ensures c.loop-at.invariant c.in_ok-end_flow.ensures
