use Rattle.std.proofs.Common.{sym, ◌∙◌}
use Rattle.std.specs.Str.{bytes_eq}
use Rattle.rina_stack.specs.declared.plan.WirePlan.{WirePlan}
use Rattle.rina_table.proofs.Tables.{position_map}
use Rattle.rina_stack.proofs.plan.place_of_wire.Goals as goal

pub returns-clause-place : goal.returns-clause-place
returns-clause-place c = c.first_wire.ensures.place ∙ sym (position_map (λ u. bytes_eq u c.args.name.now) (λ (w : WirePlan). w.name) c.args.wires.now)
