use Rattle.std.proofs.Common.{◌∙◌, arith, refl, Err, ap, option_map}
use Rattle.rina_report.specs.declared.answer.Answer.TheVariants as answers
use Rattle.rina_words.proofs.Alive.{alive}
use Rattle.rina_words.proofs.dif.call_clock.Goals as goal

pub returns-in-Err : goal.returns-in-Err
returns-in-Err c = record {
  does = record {
    result = Err c.in-Err.error;
    memory = λ h. grind arith;
    does = c.in-Err.ensures.does (alive _ c.in-Err.ensures.failed (λ h. grind arith));
    labels = refl;
    told = c.refused.ensures ∙ ap (option_map answers.Refused) c.tell_step.ensures;
  };
  memory = tt;
  tower = c.clock_step.ensures.valid;
}
