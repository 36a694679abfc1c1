-- What holds of a stack that was read with its references and breaks no rule.
use Rattle.std.proofs.Common.{◌≡◌, ℕ, ◌+◌, List, ◌++◌, length, Option, Ok, sym, ap, ◌∙◌, subst}
use Rattle.std.specs.Prelude.{All, codes}
use Rattle.toml.specs.Data.{Data}
use Rattle.rina_base.specs.Traverse.{traverse}
use Rattle.rina_plan.specs.declared.dif.DifPlan.{DifPlan}
use Rattle.rina_table.specs.declared.sketch.WireSketch.{WireSketch}
use Rattle.rina_table.specs.declared.sketch.Sketch.{Sketch}
use Rattle.rina_table.specs.Faults.{unless}
use Rattle.rina_table.specs.Rows.{wire_at}
use Rattle.rina_table.specs.Items.{dif_at, sketch_at}
use Rattle.rina_stack.specs.Rules.{duplicate_fault, wire_names, dif_names, labels}
use Rattle.rina_stack.specs.Order.{rules_at}
use Rattle.rina_stack.specs.Scopes.{unresolved_scope, resolved_scope}
use Rattle.rina_stack.specs.Ranges.{IsRangedWire, IsRangedDif, IsNamed}
use Rattle.rina_stack.specs.Unbroken.{AreDistinct}
use Rattle.rina_stack.proofs.Inversion.{unbroken}
use Rattle.rina_stack.proofs.SoundDif.{dif_parts}
use Rattle.rina_stack.proofs.SoundWire.{wire_name}
use Rattle.rina_stack.proofs.Reading.{parts, sound}
use Rattle.rina_stack.proofs.SameNames.{same_node_rows, same_names, same_tables, same_dif_tables, same_count}
use Rattle.rina_stack.proofs.LabelsOfFlows.{same_labels}
use Rattle.rina_stack.proofs.Unbroken.{NoneBroken, unbroken_all}
use Rattle.rina_stack.proofs.Distinct.{distinct, once, front_differs, back_differs}

-- what a stack has that was read with its references and breaks no rule
pub record IsTried (s : Sketch) : Type 0 where
  pub unbroken_rules : NoneBroken s
  pub nodes_differ : AreDistinct s.nodes
  pub wires_differ : AreDistinct (wire_names s.wires)
  pub wires : All (IsRangedWire (length s.nodes)) s.wires
  pub difs : All (IsRangedDif (length s.nodes) (length s.wires) (length s.difs)) s.difs
  pub difs_differ : AreDistinct (dif_names s.difs)
  pub labels_differ : AreDistinct (labels s.difs)
  pub named : All IsNamed s.difs

pub tried : (d : Data) (named s : Sketch) (u : Option ℕ) (t t' : Unit {0}) → sketch_at (unresolved_scope 4) d ≡ Ok named → unless 5 (duplicate_fault named) ≡ Ok t → sketch_at (resolved_scope named u) d ≡ Ok s → rules_at s ≡ Ok t' → IsTried s
tried d named s u t t' is_named five is_s rest =
    let before = parts (unresolved_scope 4) d named is_named in
    let after = parts (resolved_scope named u) d s is_s in
    let ranged = sound named u d s is_s in
    let single = once named (unbroken 5 (duplicate_fault named) t five) in
    let nodes_both = sym before.nodes ∙ same_node_rows named u 0 (codes "nodes") d ∙ after.nodes in
    let nodes : named.nodes ≡ s.nodes = cc nodes_both in
    let tables : before.wire_tables ≡ after.wire_tables = same_tables before.wire_tables after.wire_tables d before.are_wires after.are_wires in
    let earlier_wires : traverse (wire_at (unresolved_scope 4)) 1 after.wire_tables ≡ Ok named.wires = subst (λ ts. traverse (wire_at (unresolved_scope 4)) 1 ts ≡ Ok named.wires) tables before.wires in
    let dif_tables : before.dif_tables ≡ after.dif_tables = same_dif_tables before.dif_tables after.dif_tables d before.are_difs after.are_difs in
    let earlier_difs : traverse (dif_at (unresolved_scope 4)) (1 + length before.wire_tables) after.dif_tables ≡ Ok named.difs = subst (λ ts. traverse (dif_at (unresolved_scope 4)) (1 + length before.wire_tables) ts ≡ Ok named.difs) dif_tables before.difs in
    let wire_count = same_count (wire_at (unresolved_scope 4)) (wire_at (resolved_scope named u)) 1 1 after.wire_tables named.wires s.wires earlier_wires after.wires in
    let dif_count = same_count (dif_at (unresolved_scope 4)) (dif_at (resolved_scope named u)) (1 + length before.wire_tables) (1 + length after.wire_tables) after.dif_tables named.difs s.difs earlier_difs after.difs in
    let names = same_names (λ (w : WireSketch). w.name) wire_at wire_name named u 1 after.wire_tables named.wires s.wires earlier_wires after.wires in
    let behind : traverse (dif_at (unresolved_scope 4)) (1 + length after.wire_tables) after.dif_tables ≡ Ok named.difs = subst (λ ts. traverse (dif_at (unresolved_scope 4)) (1 + length ts) after.dif_tables ≡ Ok named.difs) tables earlier_difs in
    let named_difs = same_names (λ (x : DifPlan). x.name) dif_at (λ c n x y is. (dif_parts c n x y is).name) named u (1 + length after.wire_tables) after.dif_tables named.difs s.difs behind after.difs in
    let all_differ = distinct (wire_names named.wires ++ dif_names named.difs) single.facilities in
    record {
      unbroken_rules = unbroken_all s t' rest;
      nodes_differ = subst AreDistinct nodes (distinct named.nodes single.nodes);
      wires_differ = subst AreDistinct names (front_differs (wire_names named.wires) (dif_names named.difs) all_differ);
      wires = subst (λ (ns : List (List ℕ)). All (IsRangedWire (length ns)) s.wires) nodes ranged.wires;
      difs = subst (λ (m : ℕ). All (IsRangedDif m (length s.wires) (length s.difs)) s.difs) (ap length nodes)
          (subst (λ (m : ℕ). All (IsRangedDif (length named.nodes) m (length s.difs)) s.difs) wire_count
          (subst (λ (m : ℕ). All (IsRangedDif (length named.nodes) (length named.wires) m) s.difs) dif_count ranged.difs));
      difs_differ = subst AreDistinct named_difs (back_differs (wire_names named.wires) (dif_names named.difs) all_differ);
      labels_differ = subst AreDistinct (same_labels named u (1 + length after.wire_tables) after.dif_tables named.difs s.difs behind after.difs) (distinct (labels named.difs) single.labels);
      named = ranged.are_named;
    }
