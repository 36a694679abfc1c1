-- What is read of a wire is in range, and refers to what is there.
use Rattle.std.proofs.Common.{◌≡◌, ℕ, ◌<◌, ◌≤◌, cond, length, Option, Some, None, Ok, arith, subst}
use Rattle.std.specs.Prelude.{codes}
use Rattle.toml.specs.Data.{Data, get}
use Rattle.rina_base.specs.declared.storm.Storm.{Storm}
use Rattle.rina_table.specs.declared.scope.Scope.{Scope}
use Rattle.rina_table.specs.declared.sketch.WireSketch.{WireSketch}
use Rattle.rina_table.specs.declared.sketch.Sketch.{Sketch}
use Rattle.rina_table.specs.Faults.{required, unless}
use Rattle.rina_table.specs.Values.{element, has_third}
use Rattle.rina_table.specs.Fields.{name_in, number_in}
use Rattle.rina_table.specs.Rows.{storm_at, storm_or, wire_end, wire_at}
use Rattle.rina_stack.specs.Scopes.{resolved_scope}
use Rattle.rina_stack.specs.Ranges.{IsRangedStorm, IsRangedWire}
use Rattle.rina_stack.proofs.Inversion.{bind_ok, ok_is, number_7, node_7}

end_7 : (known : Sketch) (u : Option ℕ) (n : ℕ) (d : Data) (i at : ℕ) → wire_end (resolved_scope known u) n d i ≡ Ok at → at < length known.nodes
unfolding wire_end
end_7 known u n d i at h =
    let (t, _, found) = bind_ok (required n (element i (codes "ends") d)) _ at h in
    node_7 known u n t at found

storm_7 : (known : Sketch) (u : Option ℕ) (n : ℕ) (d : Data) (x : Storm) → storm_at (resolved_scope known u) n d ≡ Ok x → IsRangedStorm (Some x)
unfolding storm_at
storm_7 known u n d x h =
    let s = resolved_scope known u in
    let (seed, is_seed, h1) = bind_ok (number_in s n (codes "seed") d 0 9007199254740991) _ x h in
    let (lose, is_lose, h2) = bind_ok (number_in s n (codes "lose") d 0 1000) _ x h1 in
    let (repeat, is_repeat, h3) = bind_ok (number_in s n (codes "repeat") d 0 1000) _ x h2 in
    let (spread, is_spread, h4) = bind_ok (number_in s n (codes "spread") d 0 100000) _ x h3 in
    let whole : record { seed = seed; lose = lose; repeat = repeat; spread = spread } ≡ x = ok_is _ _ h4 in
    let most : seed ≤ 9007199254740991 = (number_7 known u n (codes "seed") d 0 9007199254740991 seed is_seed).1 in
    subst (λ (y : Storm). IsRangedStorm (Some y)) whole (
      omega (arith, most),
      (number_7 known u n (codes "lose") d 0 1000 lose is_lose).1,
      (number_7 known u n (codes "repeat") d 0 1000 repeat is_repeat).1,
      (number_7 known u n (codes "spread") d 0 100000 spread is_spread).1,
    )

storm_or_7 : (known : Sketch) (u : Option ℕ) (n : ℕ) (o : Option Data) (r : Option Storm) → storm_or (resolved_scope known u) n o ≡ Ok r → IsRangedStorm r
storm_or_7 known u n None r h = (let same : None ≡ r = ok_is _ _ h in subst IsRangedStorm same tt)
storm_or_7 known u n (Some d) r h =
    let (x, is_x, h1) = bind_ok (storm_at (resolved_scope known u) n d) _ r h in
    let same : Some x ≡ r = ok_is _ _ h1 in
    subst IsRangedStorm same (storm_7 known u n d x is_x)

pub wire_7 : (known : Sketch) (u : Option ℕ) (n : ℕ) (d : Data) (w : WireSketch) → wire_at (resolved_scope known u) n d ≡ Ok w → IsRangedWire (length known.nodes) w
unfolding wire_at
wire_7 known u n d w h =
    let s = resolved_scope known u in
    let (name, _, h1) = bind_ok (name_in s n (codes "name") d) _ w h in
    let (a, end_a, h2) = bind_ok (wire_end s n d 0) _ w h1 in
    let (b, end_b, h3) = bind_ok (wire_end s n d 1) _ w h2 in
    let (_, _, h4) = bind_ok (unless 3 (cond (has_third (codes "ends") d) (Some n) None)) _ w h3 in
    let (delay, is_delay, h5) = bind_ok (number_in s n (codes "delay") d 1 100000) _ w h4 in
    let (life, is_life, h6) = bind_ok (number_in s n (codes "life") d 1 100000) _ w h5 in
    let (largest, is_largest, h7) = bind_ok (number_in s n (codes "largest") d 1 65535) _ w h6 in
    let (storm, is_storm, h8) = bind_ok (storm_or s n (get (codes "storm") d)) _ w h7 in
    let whole : record { name = name; a = a; b = b; delay = delay; life = life; largest = largest; storm = storm } ≡ w = cc in
    subst (IsRangedWire (length known.nodes)) whole
    (record {
      a = end_7 known u n d 0 a end_a;
      b = end_7 known u n d 1 b end_b;
      least_delay = (number_7 known u n (codes "delay") d 1 100000 delay is_delay).0;
      life = (number_7 known u n (codes "life") d 1 100000 life is_life).1;
      least_largest = (number_7 known u n (codes "largest") d 1 65535 largest is_largest).0;
      largest = (number_7 known u n (codes "largest") d 1 65535 largest is_largest).1;
      storm = storm_or_7 known u n (get (codes "storm") d) storm is_storm;
    })

-- how the name of a wire was read
pub wire_name : (s : Scope) (n : ℕ) (d : Data) (w : WireSketch) → wire_at s n d ≡ Ok w → name_in s n (codes "name") d ≡ Ok w.name
unfolding wire_at
wire_name s n d w h =
    let (name, is_name, h1) = bind_ok (name_in s n (codes "name") d) _ w h in
    let (a, _, h2) = bind_ok (wire_end s n d 0) _ w h1 in
    let (b, _, h3) = bind_ok (wire_end s n d 1) _ w h2 in
    let (_, _, h4) = bind_ok (unless 3 (cond (has_third (codes "ends") d) (Some n) None)) _ w h3 in
    let (delay, _, h5) = bind_ok (number_in s n (codes "delay") d 1 100000) _ w h4 in
    let (life, _, h6) = bind_ok (number_in s n (codes "life") d 1 100000) _ w h5 in
    let (largest, _, h7) = bind_ok (number_in s n (codes "largest") d 1 65535) _ w h6 in
    let (storm, _, h8) = bind_ok (storm_or s n (get (codes "storm") d)) _ w h7 in
    let whole : record { name = name; a = a; b = b; delay = delay; life = life; largest = largest; storm = storm } ≡ w = ok_is _ _ h8 in
    subst (λ (x : WireSketch). name_in s n (codes "name") d ≡ Ok x.name) whole is_name
