use Rattle.std.proofs.Common.{◌∙◌, arith, ℕ, List, Some, Ok, Err, ap, option_map}
use Rattle.rina_report.specs.declared.answer.Answer.TheVariants as answers
use Rattle.rina_words.proofs.Alive.{alive, answered}
use Rattle.rina_words.proofs.Calls.{calls_cdap}
use Rattle.rina_words.proofs.cdap.call_cdap.Goals as goal

pub returns-in-Ok-clause-does : goal.returns-in-Ok-clause-does
returns-in-Ok-clause-does c = calls_cdap c.args.bytes.now c.args.run.now c.args.site (Ok c.in-Ok.answer.items) _ (Ok (Some (answers.Cdap c.from_vec.result))) (answered _ _) (c.in-Ok.ensures.does (alive _ c.in-Ok.ensures.failed (λ h. answered _ _ h.0))) (ap (λ (x : List ℕ). Some (answers.Cdap x)) c.from_vec.ensures)

pub returns-in-Err : goal.returns-in-Err
returns-in-Err c = record {
  does = calls_cdap c.args.bytes.now c.args.run.now c.args.site (Err c.in-Err.error) _ (Ok c.refused.result) (λ h. grind arith) (c.in-Err.ensures.does (alive _ c.in-Err.ensures.failed (λ h. grind arith))) (c.refused.ensures ∙ ap (option_map answers.Refused) c.tell_cdap.ensures);
  memory = tt;
  tower = c.cdap.ensures.valid;
}
