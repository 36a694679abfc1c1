use Rattle.std.proofs.Common.{List, sym, ap, ◌∙◌, subst}
use Rattle.rina_wire.specs.Air.{Air, Line}
use Rattle.rina_wire.specs.Resting.{AreQuietLines}
use Rattle.rina_wire.proofs.wires.Wires.rests_until.Goals as goal

pub returns-clause-last : goal.returns-clause-last
returns-clause-last c = λ alive later small rests.
    c.quiet_until.ensures.last later small (subst (λ (ls : List Line). AreQuietLines later ls) (sym (c.as_slice.ensures.value ∙ ap (λ (a : Air). a.wires) c.self.view_is)) rests.quiet)
