-- Wires that nobody has used yet.
use Rattle.std.proofs.Common.{◌≡◌, ℕ, false, List, [], All, map, length, slice_get, Some, refl, sym, ◌∙◌, subst, arith}
use Rattle.std.proofs.lemmas.Option.{slice_get-map}
use Rattle.std.proofs.lemmas.List.Elements.{All-map, All-nil, All-weaker}
use Rattle.rina_iface.specs.declared.ends.End.{End}
use Rattle.rina_stack.specs.declared.plan.Plan.{Plan}
use Rattle.rina_stack.specs.declared.plan.WirePlan.{WirePlan}
use Rattle.rina_stack.specs.Plan.{IsSoundWire}
use Rattle.rina_wire.specs.Air.{Line}
use Rattle.rina_wire.specs.Plan.{IsSoundPlan, air_of, line_of}
use Rattle.rina_wire.specs.Sound.{IsCopy, IsFarPlace, IsSound, IsSoundLine, KeepsFlows}
use Rattle.rina_wire.proofs.Kept.{is_mapped, sound_of}

sound_line : (nodes : ℕ) (w : WirePlan) → IsSoundWire nodes w → IsSoundLine (line_of w)
sound_line nodes w s = record {
  apart = s.apart;
  least_delay = s.least_delay;
  arrives = s.arrives;
  life = s.life;
  largest = s.largest;
  storm = s.storm;
  draws = refl;
  cubes = All-nil (λ (e : End). e.cube ≡ 0);
  drawn_a = omega arith;
  drawn_b = omega arith;
}

sound_lines : (nodes : ℕ) (ws : List WirePlan) → All (IsSoundWire nodes) ws → All IsSoundLine (map line_of ws)
sound_lines nodes ws s = All-map IsSoundLine line_of ws (All-weaker (IsSoundWire nodes) (λ w. IsSoundLine (line_of w)) (sound_line nodes) ws s)

-- there are no flows
no_flows : (n : ℕ) (w : WirePlan) → KeepsFlows 0 false n (line_of w)
no_flows n w = record {
  pairs = omega arith;
  sound = record { each = λ i e h. cc; mates = λ i e other h g. cc; numbers = λ i k j m a b x y ha hb hx hy e. cc };
  waiting = All-nil (IsFarPlace 0);
  copies = λ alive. All-nil (IsCopy w.life 0 []);
}

start_flows : (ws : List WirePlan) (n : ℕ) (l : Line) → slice_get (map line_of ws) n ≡ Some l → KeepsFlows 0 false n l
start_flows ws n l h = let w = is_mapped line_of (slice_get ws n) l (sym (slice_get-map line_of ws n) ∙ h) in subst (KeepsFlows 0 false n) w.2 (no_flows n w.0)

pub sound_start : (plan : Plan) → IsSoundPlan plan → IsSound (air_of plan)
sound_start plan s = sound_of (air_of plan) (omega arith) (sound_lines (length plan.nodes) plan.wires s) (λ n l h. start_flows plan.wires n l h)
