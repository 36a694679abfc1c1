use Rattle.rina_wire.proofs.Bound.{has_room, has_wire, seen_binds}
use Rattle.rina_wire.proofs.Later.{binds_later}
use Rattle.rina_wire.proofs.SoundBind.{sound_binds}
use Rattle.rina_wire.proofs.wires.facility.WiresFacility.bind.Goals as goal

pub bind_flow-requires-clause-room : goal.bind_flow-requires-clause-room
bind_flow-requires-clause-room c = has_room c.args.self.now c.args.fixed.now c.requires.valid c.requires.room

pub bind_flow-requires-clause-there : goal.bind_flow-requires-clause-there
bind_flow-requires-clause-there c = has_wire c.args.self.now c.args.fixed.now c.requires.valid c.requires.room

pub returns-clause-valid : goal.returns-clause-valid
returns-clause-valid c = sound_binds _ _ _ _ c.requires.valid c.requires.room c.bind_flow.ensures

pub returns-clause-later : goal.returns-clause-later
returns-clause-later c = binds_later _ _ _ _ c.requires.valid c.requires.room c.bind_flow.ensures

pub returns-clause-does : goal.returns-clause-does
returns-clause-does c = seen_binds _ _ _ _ c.requires.valid c.requires.room c.bind_flow.ensures
