use Rattle.std.proofs.Common.{ap, Some}
use Rattle.std.proofs.lemmas.Option.{slice_get_within}
use Rattle.rina_dif.specs.declared.dif.Dif.{Dif}
use Rattle.rina_dif.proofs.AnswersIn.{refuse_whole, refuses_ask, waits_so}
use Rattle.rina_dif.proofs.FlowWalk.{leaves_one}
use Rattle.rina_dif.proofs.dif.Dif.refuse_ask.Goals as goal

pub refuse_at-requires-clause-place : goal.refuse_at-requires-clause-place
refuse_at-requires-clause-place c = slice_get_within c.args.self.now.flows.journal.ends c.args.place c.requires.waits.end c.requires.waits.is_end

pub refuse_at-requires-clause-end : goal.refuse_at-requires-clause-end
refuse_at-requires-clause-end c = waits_so c.args.self.now c.args.at c.args.place c.requires.waits

pub returns-clause-does : goal.returns-clause-does
returns-clause-does c = λ lines below h.
    let t = c.refuse_at.ensures.does lines below h in
    refuses_ask c.args.self.now c.refuse_at.new.self lines below c.args.which c.args.place c.args.why c.remove-ask.new.self (ap (λ (z : Dif). z.asks) c.refuse_at.ensures.whole) c.remove-ask.ensures.items t.0 t.1

pub returns-clause-whole : goal.returns-clause-whole
returns-clause-whole c = refuse_whole c.args.self.now c.refuse_at.new.self c.remove-ask.new.self c.refuse_at.ensures.whole

pub returns-clause-leaves : goal.returns-clause-leaves
returns-clause-leaves c =
    let w = c.requires.waits in
    leaves_one (Some c.args.at) c.args.self.now (record c.refuse_at.new.self { asks = c.remove-ask.new.self }) c.args.place w.end w.is_end w.at_home c.refuse_at.ensures.leaves
