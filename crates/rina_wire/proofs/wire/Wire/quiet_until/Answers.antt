use Rattle.std.proofs.Common.{List, sym, ap, ◌∙◌, subst}
use Rattle.rina_wire.specs.declared.flight.Flight.{Flight}
use Rattle.rina_wire.specs.Air.{Line}
use Rattle.rina_wire.specs.Resting.{AreQuietCopies}
use Rattle.rina_wire.proofs.wire.Wire.quiet_until.Goals as goal

pub returns-clause-last : goal.returns-clause-last
returns-clause-last c = λ later small quiet.
    c.first_arrival.ensures.last later small (subst (λ (fs : List Flight). AreQuietCopies later fs) (sym (c.as_slice.ensures.value ∙ ap (λ (l : Line). l.flights) c.self.view_is)) quiet)
