use Rattle.std.proofs.Common.{List, length, subst}
use Rattle.std.specs.Prelude.{IfOk}
use Rattle.rina_cube.specs.declared.Cube.{Cube}
use Rattle.rina_data.specs.declared.settings.Member.{Member}
use Rattle.rina_dif.specs.Managing.{AreStarted}
use Rattle.rina_dif.proofs.dif.Dif.first_managements.Goals as goal

pub returns : goal.returns
returns c = subst (λ (cs : List Cube). IfOk c.start_all.result (λ managements. AreStarted c.args.is_static cs c.args.self.now.settings.members c.args.plans.now c.args.rules.now c.args.allow (length c.args.self.now.settings.members) c.args.self.now.processes managements)) c.as_slice-cubes.ensures (subst (λ (ms : List Member). IfOk c.start_all.result (λ managements. AreStarted c.args.is_static c.as_slice-cubes.result.now ms c.args.plans.now c.args.rules.now c.args.allow (length ms) c.args.self.now.processes managements)) c.as_slice-members.ensures c.start_all.ensures)
