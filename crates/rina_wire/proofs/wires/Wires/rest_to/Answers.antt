use Rattle.std.proofs.Common.{ap}
use Rattle.rina_wire.specs.Air.{Air}
use Rattle.rina_wire.specs.Resting.{at_tick}
use Rattle.rina_wire.proofs.Rested.{rested_sound}
use Rattle.rina_wire.proofs.wires.Wires.rest_to.Goals as goal

pub returns-clause-valid : goal.returns-clause-valid
returns-clause-valid c = rested_sound c.args.now c.args.self.now _ c.requires.valid c.requires.later c.requires.clock c.requires.rests (ap (λ (a : Air). at_tick c.args.now a) c.self.view_is)
