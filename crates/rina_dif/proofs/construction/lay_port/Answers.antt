use Rattle.std.proofs.Common.{◌∙◌, ap, ◌==◌}
use Rattle.std.specs.Prelude.{position}
use Rattle.rina_data.specs.declared.settings.Member.{Member}
use Rattle.rina_dif.proofs.Wiring.{lays_port}
use Rattle.rina_dif.proofs.construction.lay_port.Goals as goal

pub returns-in-Some : goal.returns-in-Some
returns-in-Some c = lays_port c.args.settings.now c.args.port c.in-Some.at c.args.processes.now c.add_link.new.self c.add_link.result (c.in-Some.ensures.place ∙ ap (position (λ (m : Member). m.node == c.args.port.node)) c.as_slice.ensures) c.add_link.ensures
