use Rattle.std.proofs.Common.{ap}
use Rattle.rina_dif.specs.declared.dif.Dif.{Dif}
use Rattle.rina_dif.proofs.LateAsks.{times_out, times_out_leaves}
use Rattle.rina_dif.proofs.TurnedDown.{other_asks}
use Rattle.rina_dif.proofs.dif.Dif.time_out.Goals as goal

pub returns-clause-does : goal.returns-clause-does
returns-clause-does c = λ lines below h.
    let t = c.refuse_at.ensures.does lines below (other_asks c.args.self.now lines below c.remove-ask.new.self h) in
    (times_out c.args.self.now c.args.node c.args.which c.remove-ask.result c.requires.first c.remove-ask.ensures.value c.in-Some.end.now c.in-Some.ensures c.remove-ask.new.self c.refuse_at.new.self c.remove-ask.ensures.items (ap (λ (z : Dif). z.asks) c.refuse_at.ensures.whole) t.0, t.1)

pub returns-clause-leaves : goal.returns-clause-leaves
returns-clause-leaves c = times_out_leaves c.args.self.now c.args.node c.args.which c.remove-ask.result c.requires.first c.remove-ask.ensures.value c.in-Some.end.now c.in-Some.ensures c.refuse_at.new.self c.remove-ask.new.self c.args.at c.requires.home c.refuse_at.ensures.leaves
