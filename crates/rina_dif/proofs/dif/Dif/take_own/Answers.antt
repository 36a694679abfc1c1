-- Each word is handled by its row.
use Rattle.std.proofs.Common.{ap, subst, sym}
use Rattle.rina_alloc.specs.declared.message.FlowWord.{FlowWord}
use Rattle.rina_dif.specs.declared.dif.Dif.{Dif}
use Rattle.rina_dif.specs.FlowMessages.{TakesWord}
use Rattle.rina_dif.proofs.FlowWords.{answer_taken, ask_taken, delete_taken}
use Rattle.rina_dif.proofs.dif.Dif.take_own.Goals as goal

pub returns-in-Ask-clause-does : goal.returns-in-Ask-clause-does
returns-in-Ask-clause-does c = λ lines below h.
    subst (λ (w : FlowWord). TakesWord c.args.self.now lines below c.args.at c.args.from w c.answer_ask.result c.answer_ask.new.self) (sym c.in-Ask.is)
    (ask_taken c.args.self.now lines below c.args.at c.args.from c.in-Ask.invoke c.in-Ask.ask c.answer_ask.result c.answer_ask.new.self h (c.answer_ask.ensures.does lines below h) (ap (λ (z : Dif). z.asks) c.answer_ask.ensures.whole))

pub returns-in-Answer-clause-does : goal.returns-in-Answer-clause-does
returns-in-Answer-clause-does c = λ lines below h.
    subst (λ (w : FlowWord). TakesWord c.args.self.now lines below c.args.at c.args.from w c.take_answer.result c.take_answer.new.self) (sym c.in-Answer.is)
    (answer_taken c.args.self.now lines below c.args.at c.args.from c.in-Answer.invoke c.in-Answer.answer c.take_answer.result c.take_answer.new.self c.requires.at h (c.take_answer.ensures.does lines below h))

pub returns-in-Delete-clause-does : goal.returns-in-Delete-clause-does
returns-in-Delete-clause-does c = λ lines below h.
    subst (λ (w : FlowWord). TakesWord c.args.self.now lines below c.args.at c.args.from w c.take_delete.result c.take_delete.new.self) (sym c.in-Delete.is)
    (delete_taken c.args.self.now lines below c.args.at c.args.from c.in-Delete.dcep c.in-Delete.scep c.take_delete.result c.take_delete.new.self c.requires.at h (c.take_delete.ensures.does lines below h) (ap (λ (z : Dif). z.asks) c.take_delete.ensures.whole))
