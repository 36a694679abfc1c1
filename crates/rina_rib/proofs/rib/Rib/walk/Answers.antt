use Rattle.std.proofs.Common.{List, ap, sym, subst, ◌∙◌}
use Rattle.rina_rib.specs.Objects.{Named, seen, AreInOrder}
use Rattle.rina_rib.specs.Walks.{within}
use Rattle.rina_rib.proofs.Seen.{Entries}
use Rattle.rina_rib.proofs.Order.{in_order}
use Rattle.rina_rib.proofs.rib.Rib.walk.Goals as goal

pub returns-clause-ordered : goal.returns-clause-ordered
returns-clause-ordered c =
    let under = c.args.under.now in
    let es = c.self.inside.objects.entries in
    let left = c.new.ensures ∙ ap (λ (xs : Entries). within under (seen xs)) c.iter.ensures.rest in
    subst (λ (xs : List Named). AreInOrder xs) (sym left) (in_order under es c.iter.ensures.ordered)
