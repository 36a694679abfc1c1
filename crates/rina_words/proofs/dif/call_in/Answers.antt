use Rattle.std.proofs.Common.{◌∙◌, arith, Ok, Err, ap, option_map}
use Rattle.rina_report.specs.declared.answer.Answer.TheVariants as answers
use Rattle.rina_words.proofs.Alive.{alive, answered}
use Rattle.rina_words.proofs.Calls.{calls_in, wants_in}
use Rattle.rina_words.proofs.dif.call_in.Goals as goal

pub returns-in-Ok-clause-does : goal.returns-in-Ok-clause-does
returns-in-Ok-clause-does c = calls_in c.args.line.now.plan.now c.args.link c.link_number-link.result c.args.run.now c.args.site (Ok c.in-Ok.step) _ c.tell_in.result c.link_number-link.ensures (answered _ _) (c.in-Ok.ensures.does (alive _ c.in-Ok.ensures.failed (λ h. answered _ _ h.0))) c.tell_in.ensures.told

pub returns-in-Ok-clause-memory : goal.returns-in-Ok-clause-memory
returns-in-Ok-clause-memory c = wants_in c.args.line.now.plan.now c.args.link c.link_number-link.result c.args.run.now c.args.site c.in-Ok.step _ c.tell_in.result c.link_number-link.ensures (c.in-Ok.ensures.does (alive _ c.in-Ok.ensures.failed (λ h. answered _ _ h.0))) c.tell_in.ensures.memory

pub returns-in-Err : goal.returns-in-Err
returns-in-Err c = record {
  does = calls_in c.args.line.now.plan.now c.args.link c.link_number-link.result c.args.run.now c.args.site (Err c.in-Err.error) _ (Ok c.refused.result) c.link_number-link.ensures (λ h. grind arith) (c.in-Err.ensures.does (alive _ c.in-Err.ensures.failed (λ h. grind arith))) (c.refused.ensures ∙ ap (option_map answers.Refused) c.tell_step.ensures);
  memory = tt;
  tower = c.in_step.ensures.valid;
}
