use Rattle.std.proofs.Common.{◌∙◌, refl, Err, ap, option_map}
use Rattle.rina_report.specs.declared.answer.Answer.TheVariants as answers
use Rattle.rina_words.proofs.Allocating.{mends}
use Rattle.rina_words.proofs.wire.call_mend.Goals as goal

pub returns-in-Err-clause-does : goal.returns-in-Err-clause-does
returns-in-Err-clause-does c = record {
  result = Err c.in-Err.error;
  memory = mends c.args.wire (Err c.in-Err.error) c.args.run.now.tower c.mend.new.self c.in-Err.ensures.does;
  does = c.in-Err.ensures.does;
  labels = refl;
  told = c.refused.ensures ∙ ap (option_map answers.Refused) c.tell_wire.ensures;
}
