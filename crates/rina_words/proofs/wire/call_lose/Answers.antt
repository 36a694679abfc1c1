use Rattle.std.proofs.Common.{◌∙◌, ℕ, refl, Err, ap, option_map, subst}
use Rattle.rina_report.specs.declared.answer.Answer.TheVariants as answers
use Rattle.rina_tower.specs.Events.{Loses}
use Rattle.rina_words.proofs.Allocating.{loses}
use Rattle.rina_words.proofs.wire.call_lose.Goals as goal

pub returns-in-Err-clause-does : goal.returns-in-Err-clause-does
returns-in-Err-clause-does c =
    let does = subst (λ (k : ℕ). Loses c.args.wire k (Err c.in-Err.error) c.args.run.now.tower c.lose.new.self) c.from.ensures c.in-Err.ensures.does in
    record {
      result = Err c.in-Err.error;
      memory = loses c.args.wire c.args.frame (Err c.in-Err.error) c.args.run.now.tower c.lose.new.self does;
      does = does;
      labels = refl;
      told = c.refused.ensures ∙ ap (option_map answers.Refused) c.tell_wire.ensures;
    }
