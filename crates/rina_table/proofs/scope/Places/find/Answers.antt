use Rattle.std.proofs.Common.{ℕ, List, sym, ap, ◌∙◌}
use Rattle.rina_table.specs.Names.{place_in}
use Rattle.rina_table.proofs.Indexing.{place_within}
use Rattle.rina_table.proofs.scope.Places.find.Goals as goal

pub returns-clause-within : goal.returns-clause-within
returns-clause-within c =
    place_within c.args.self.now c.args.text.now c.in_ok-at.at.now
    (sym (c.in_ok-at.ensures.value ∙ c.self.invariant c.args.text.now ∙ ap (λ (ts : List (List ℕ)). place_in ts c.args.text.now) c.self.view_is))
