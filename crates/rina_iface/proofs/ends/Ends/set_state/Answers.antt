use Rattle.std.proofs.Common.{◌≡◌, ap, length, refl, arith}
use Rattle.rina_iface.specs.State.{with_state}
use Rattle.rina_iface.proofs.Indexed.{index_set}
use Rattle.rina_iface.proofs.ends.Ends.set_state.Goals as goal

pub invariant_of-self : goal.invariant_of-self
invariant_of-self c =
    let size : length c.self.inside.items.items ≡ length c.args.self.now = ap length c.self.view_is in
    index_set c.self.inside.places c.self.inside.items.items c.set_state.new.ends.items c.args.place (λ e. with_state e c.args.state) (λ e. refl) (omega (arith, size, c.requires)) c.self.invariant c.set_state.ensures
