use Rattle.std.proofs.Common.{◌∙◌, arith, ap, sym, Some}
use Rattle.std.proofs.lemmas.Option.{slice_get_within}
use Rattle.rina_dif.proofs.AnswersIn.{place_waits, takes_refusal, takes_yes, turned_away, whole_away, whole_refused}
use Rattle.rina_dif.specs.declared.dif.Dif.{Dif}
use Rattle.rina_dif.proofs.FlowWalk.{leaves_same}
use Rattle.rina_dif.proofs.dif.Dif.take_answer.Goals as goal

pub returns-in_default-clause-does : goal.returns-in_default-clause-does
returns-in_default-clause-does c = λ lines below h. turned_away c.args.self.now c.turn_away.new.self lines below c.args.at c.args.from c.args.invoke c.args.answer c.turn_away.result c.in_default.ensures c.turn_away.ensures.ok c.turn_away.ensures.err (c.turn_away.ensures.holds lines below h)

pub returns-in_default-clause-whole : goal.returns-in_default-clause-whole
returns-in_default-clause-whole c = whole_away c.args.self.now c.turn_away.new.self c.turn_away.ensures.whole

pub index-requires : goal.index-requires
index-requires c = (let lt = slice_get_within c.args.self.now.asks.items c.in-Some.which c.in-Some.ensures.is_ask.ask c.in-Some.ensures.is_ask.stands in let same = c.args.self.now.asks.ok.0 in omega (arith, lt, same))

pub refuse_ask-requires-clause-which : goal.refuse_ask-requires-clause-which
refuse_ask-requires-clause-which c = slice_get_within c.args.self.now.asks.items c.in-Some.which c.in-Some.ensures.is_ask.ask c.in-Some.ensures.is_ask.stands

pub refuse_ask-requires-clause-waits : goal.refuse_ask-requires-clause-waits
refuse_ask-requires-clause-waits c = place_waits c.args.self.now c.args.at c.args.invoke c.in-Some.which c.in-Some.ensures c.index.result.now c.index.ensures

pub take_yes-requires-clause-which : goal.take_yes-requires-clause-which
take_yes-requires-clause-which c = slice_get_within c.args.self.now.asks.items c.in-Some.which c.in-Some.ensures.is_ask.ask c.in-Some.ensures.is_ask.stands

pub take_yes-requires-clause-waits : goal.take_yes-requires-clause-waits
take_yes-requires-clause-waits c = place_waits c.args.self.now c.args.at c.args.invoke c.in-Some.which c.in-Some.ensures c.index.result.now c.index.ensures

pub returns-in-Some-why_of-clause-does : goal.returns-in-Some-why_of-clause-does
returns-in-Some-why_of-clause-does c = λ lines below h. takes_refusal c.args.self.now lines below c.args.at c.args.from c.args.invoke c.in-Some.which c.args.answer c.in-Some.ensures c.index.result.now c.index.ensures _ c.refuse_ask.new.self c.in-Some-why_of.why (sym c.why_of.ensures ∙ c.in-Some-why_of.is) (c.refuse_ask.ensures.does lines below h)

pub returns-in-Some-why_of-clause-whole : goal.returns-in-Some-why_of-clause-whole
returns-in-Some-why_of-clause-whole c = whole_refused c.args.self.now c.refuse_ask.new.self c.refuse_ask.ensures.whole

pub returns-clause-does : goal.returns-clause-does
returns-clause-does c = λ lines below h. takes_yes c.args.self.now lines below c.args.at c.args.from c.args.invoke c.in-Some.which c.args.answer c.in-Some.ensures c.index.result.now c.index.ensures c.take_yes.result c.take_yes.new.self c.dcep.result (sym c.why_of.ensures ∙ c.in_default-why_of.is) c.dcep.ensures (c.take_yes.ensures.does lines below h)

pub returns-clause-whole : goal.returns-clause-whole
returns-clause-whole c = c.take_yes.ensures.whole

pub returns-in_default-clause-leaves : goal.returns-in_default-clause-leaves
returns-in_default-clause-leaves c = leaves_same (Some c.args.at) c.args.self.now c.turn_away.new.self (ap (λ (z : Dif). z.flows) c.turn_away.ensures.whole) (ap (λ (z : Dif). z.processes) c.turn_away.ensures.whole)
