use Rattle.rina_data.proofs.Downed.{loses_is}
use Rattle.rina_data.proofs.process.IpcProcess.lose_link_with_room.Goals as goal

pub returns-clause-ok : goal.returns-clause-ok
returns-clause-ok c = (λ link is. let w = c.in_ok-lines.ensures in loses_is c.args.self.now (record c.take_lines.new.self { ledger = c.in_ok-lines.lines.items }) c.as_slice.result.now c.args.at link c.in-Some.link.now c.args.routes c.set.new.self c.empty.new.self c.in_ok-more.more.items is c.in-Some.ensures c.as_slice.ensures.value c.in_ok-more.ensures w.ok.0 w.same.0 w.same.2 c.empty.ensures.empty c.set.ensures, c.in_ok-lines.ensures.ok.1)
