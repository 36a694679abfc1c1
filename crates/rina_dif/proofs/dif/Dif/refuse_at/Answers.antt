use Rattle.std.proofs.Common.{Some, refl}
use Rattle.rina_data.proofs.Finding.{there}
use Rattle.rina_dif.proofs.Elsewhere.{withdrawn_at}
use Rattle.rina_dif.proofs.TurnedDown.{asked_used, turns_down}
use Rattle.rina_dif.proofs.dif.Dif.refuse_at.Goals as goal

pub give_back-requires-clause-used : goal.give_back-requires-clause-used
give_back-requires-clause-used c = asked_used c.args.self.now c.args.home c.args.place c.rest_at-rest.result c.requires.valid c.requires.place c.requires.end c.rest_at-rest.ensures

pub returns-clause-does : goal.returns-clause-does
returns-clause-does c =
    let d = c.args.self.now in
    let e = there d.flows.journal.ends c.args.place c.requires.place in
    let is = c.requires.end e.0 e.1 in
    turns_down d c.args.home c.args.place e.0 c.args.why (record d.flows { journal = record { ends = c.set_state.new.self } }) c.rest_at-rest.result c.give_back.new.self e.1 is.0 is.1 refl (c.set_state.ensures e.0 e.1) c.rest_at-rest.ensures c.give_back.ensures

pub returns-clause-leaves : goal.returns-clause-leaves
returns-clause-leaves c = withdrawn_at c.args.self.now c.args.place _ c.set_state.new.self (Some c.args.home) c.requires.place c.set_state.ensures
