use Rattle.std.proofs.Common.{refl}
use Rattle.rina_iface.specs.State.{cut_off}
use Rattle.rina_iface.proofs.Indexed.{index_map}
use Rattle.rina_iface.proofs.ends.Ends.cut.Goals as goal

pub invariant_of-self : goal.invariant_of-self
invariant_of-self c = index_map c.self.inside.places c.self.inside.items.items c.cut_all.new.ends.items (cut_off c.args.tick) (λ e. refl) c.self.invariant c.cut_all.ensures
