use Rattle.std.proofs.Common.{sym, subst}
use Rattle.rina_iface.specs.Later.{IsLater}
use Rattle.rina_wire.specs.Air.{Air, seen_of}
use Rattle.rina_wire.specs.Sound.{IsSound}
use Rattle.rina_wire.proofs.Carried.{waits_on}
use Rattle.rina_wire.proofs.Later.{passes_later}
use Rattle.rina_wire.proofs.Sound.{sound_passed}
use Rattle.rina_wire.proofs.wires.facility.WiresFacility.pass.Goals as goal

pub returns-clause-valid : goal.returns-clause-valid
returns-clause-valid c = subst IsSound (sym c.pass_oldest.ensures) (sound_passed _ _ c.requires.valid (waits_on c.args.self.now c.args.port c.requires.waits))

pub returns-clause-later : goal.returns-clause-later
returns-clause-later c = subst (λ (a : Air). IsLater (seen_of c.args.self.now) (seen_of a)) (sym c.pass_oldest.ensures) (passes_later c.args.self.now c.args.port c.requires.waits)
