use Rattle.std.proofs.Common.{sym, subst}
use Rattle.rina_dif.specs.FarMaking.{FindsJoinable}
use Rattle.rina_dif.proofs.dif.Dif.asker_to_join.Goals as goal

pub returns-in_err-place : goal.returns-in_err-place
returns-in_err-place c = subst (FindsJoinable c.args.self.now c.args.at c.args.own c.args.from c.args.ask.now) (sym c.from_residual.ensures) (λ place asker fits. c.in_err-place.ensures place asker)
