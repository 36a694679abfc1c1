use Rattle.std.proofs.Common.{◌∙◌, ℕ, refl, Err, ap, option_map, subst}
use Rattle.rina_report.specs.declared.answer.Answer.TheVariants as answers
use Rattle.rina_tower.specs.Events.{HoldsBack}
use Rattle.rina_words.proofs.Allocating.{holds}
use Rattle.rina_words.proofs.wire.call_hold.Goals as goal

pub returns-in-Err-clause-does : goal.returns-in-Err-clause-does
returns-in-Err-clause-does c =
    let does = subst (λ (k : ℕ). HoldsBack c.args.wire k c.args.at (Err c.in-Err.error) c.args.run.now.tower c.hold.new.self) c.from.ensures c.in-Err.ensures.does in
    record {
      result = Err c.in-Err.error;
      memory = holds c.args.wire c.args.frame c.args.at (Err c.in-Err.error) c.args.run.now.tower c.hold.new.self does;
      does = does;
      labels = refl;
      told = c.refused.ensures ∙ ap (option_map answers.Refused) c.tell_wire.ensures;
    }
