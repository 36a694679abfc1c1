use Rattle.rina_dtp.proofs.Fetched.{keeps_broken, stands_dropped}
use Rattle.rina_dtp.proofs.rx.Rx.dropped.Goals as goal

pub returns-in-None-clause-stands : goal.returns-in-None-clause-stands
returns-in-None-clause-stands c = stands_dropped c.args.now c.args.self.now c.next_broken.new.self c.next_ended.new.self c.next_broken.ensures.rest c.next_ended.ensures.rest c.next_ended.ensures.standing

pub returns-in-None-clause-kept : goal.returns-in-None-clause-kept
returns-in-None-clause-kept c = keeps_broken c.args.now c.args.self.now c.next_broken.new.self c.next_ended.new.self c.next_broken.ensures.rest c.next_ended.ensures.kept
