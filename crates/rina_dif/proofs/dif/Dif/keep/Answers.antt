-- Other objects are all that changes.
use Rattle.std.proofs.Common.{refl}
use Rattle.rina_member.specs.Managements.{with_objects}
use Rattle.rina_dif.proofs.Showing.{objects_agents}
use Rattle.rina_dif.proofs.dif.Dif.keep.Goals as goal

pub returns-then-done-clause-same : goal.returns-then-done-clause-same
returns-then-done-clause-same c = record {
  is = refl;
  agents = objects_agents c.args.at (λ m. with_objects m c.args.objects) c.args.self.now.managements c.set_objects.new.self (λ m. refl) c.set_objects.ensures;
  alive = λ alive. alive;
}
