use Rattle.std.proofs.Common.{subst, inr}
use Rattle.rina_dif.specs.Clocking.{NoLinkEnds, TellsEnding}
use Rattle.rina_dif.proofs.dif.Dif.first_ask.Goals as goal

pub returns-then-links_end : goal.returns-then-links_end
returns-then-links_end c = λ lines below h links. inr (λ ends. subst (TellsEnding (NoLinkEnds c.args.self.now links.lines c.args.at)) c.if-links_end.true (c.links_end.ensures below links) ends.1)
