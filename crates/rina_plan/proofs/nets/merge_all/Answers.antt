use Rattle.std.proofs.Common.{◌≡◌, ◌-◌, ◌+◌, sym, ap, arith, length, drop, subst}
use Rattle.rina_plan.specs.Parts.{ArePartsOf}
use Rattle.rina_plan.proofs.Merging.{first_part, second_part, each_apart, merge_step}
use Rattle.rina_plan.proofs.nets.merge_all.Goals as goal

pub loop-at-init : goal.loop-at-init
loop-at-init c = record {
  place = omega arith;
  size = ap length (sym c.requires.apart);
  read = each_apart c.args.links.now c.args.nodes.now c.args.parts.now (length c.args.links.now) c.requires.apart (omega arith);
}

pub merge_ends-requires-clause-a : goal.merge_ends-requires-clause-a
merge_ends-requires-clause-a c = first_part c.args.links.now c.args.nodes.now c.loop-at.parts (c.loop-at.at - 1) _ c.requires.ends (omega arith)

pub merge_ends-requires-clause-b : goal.merge_ends-requires-clause-b
merge_ends-requires-clause-b c = second_part c.args.links.now c.args.nodes.now c.loop-at.parts (c.loop-at.at - 1) _ c.requires.ends (omega arith)

pub loop-at-preserved : goal.loop-at-preserved
loop-at-preserved c = record {
  place = omega arith;
  size = omega (arith, c.merge_ends.auto.parts);
  read =
      let same : c.loop-at.at ≡ c.loop-at.at - 1 + 1 = omega arith in
      merge_step c.args.links.now c.args.nodes.now c.loop-at.parts c.merge_ends.new.parts (c.loop-at.at - 1) _ (omega arith) c.merge_ends.ensures
      (subst (λ j. ArePartsOf (drop j c.args.links.now) c.args.nodes.now c.loop-at.parts) same c.loop-at.invariant.read);
}
