use Rattle.std.proofs.Common.{ℕ, add-one, subst, sym}
use Rattle.std.proofs.lemmas.Option.{slice_get-get_or}
use Rattle.rina_cube.specs.Cubes.{IsCube}
use Rattle.rina_dif.proofs.Channels.{far_channel, near_channel}
use Rattle.rina_dif.proofs.Joining.{AreMadeOf, all_stand, connects_next, none_made}
use Rattle.rina_dif.proofs.connections.Connections.of_links.Goals as goal

pub loop-pair-init : goal.loop-pair-init
loop-pair-init c = none_made c.args.settings.now c.args.manage c.args.clock c.args.ports.now c.args.processes.now c.none-made.result c.none-made.ensures.manage c.none-made.ensures.channels c.none-made.ensures.ends c.none-made.ensures.conns c.requires.manage

pub connect-requires-clause-near : goal.connect-requires-clause-near
connect-requires-clause-near c = near_channel c.args.settings.now c.args.clock c.args.ports.now c.args.processes.now c.requires.links.0 c.loop-pair.pair-index _ c.requires.links.1 (slice_get-get_or c.args.ports.now c.loop-pair.pair-index _ c.loop-pair-test.true)

pub connect-requires-clause-far : goal.connect-requires-clause-far
connect-requires-clause-far c = far_channel c.args.settings.now c.args.clock c.args.ports.now c.args.processes.now c.requires.links.0 c.loop-pair.pair-index _ c.requires.links.1 (slice_get-get_or c.args.ports.now c.loop-pair.pair-index _ c.loop-pair-test.true)

pub loop-pair-preserved : goal.loop-pair-preserved
loop-pair-preserved c = subst (λ (n : ℕ). AreMadeOf c.args.settings.now c.args.manage c.args.clock c.args.ports.now c.args.processes.now n c.connect.new.self) (sym (add-one c.loop-pair.pair-index)) (connects_next c.args.settings.now c.args.manage c.args.clock c.args.ports.now c.args.processes.now c.loop-pair.pair-index _ c.loop-pair.made c.connect.new.self (slice_get-get_or c.args.ports.now c.loop-pair.pair-index _ c.loop-pair-test.true) c.requires.manage c.loop-pair.invariant c.in_ok-connect.ensures)

pub connect-requires-clause-config : goal.connect-requires-clause-config
connect-requires-clause-config c = c.requires.manage.managed.config

pub connect-requires-clause-manage : goal.connect-requires-clause-manage
connect-requires-clause-manage c = subst IsCube (sym c.loop-pair.invariant.have.manage_is) c.requires.manage.managed.cube

pub returns-clause-stand : goal.returns-clause-stand
returns-clause-stand c = all_stand c.args.settings.now c.args.manage c.args.clock c.args.ports.now c.args.processes.now c.loop-pair.pair-index c.loop-pair.made c.loop-pair-test.false c.loop-pair.invariant
