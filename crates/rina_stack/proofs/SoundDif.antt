-- What is read of a DIF is in range, and refers to what is there.
use Rattle.std.proofs.Common.{◌≡◌, ℕ, ◌<◌, true, false, ◌||◌, ◌==◌, inl, inr, List, [], length, Option, Some, None, Result, Ok, Err, refl, arith, subst}
use Rattle.std.specs.Prelude.{All, codes}
use Rattle.std.proofs.lemmas.Bool.{or_cases, eqb-true}
use Rattle.std.proofs.lemmas.Bool.Decides.{nat_tests}
use Rattle.std.proofs.lemmas.List.{length-map}
use Rattle.std.proofs.lemmas.List.Quantifiers.{position-Some}
use Rattle.toml.specs.Data.{Data, get}
use Rattle.rina_base.specs.Names.{name_at}
use Rattle.rina_base.specs.Traverse.{◌>>=◌}
use Rattle.rina_cube.specs.declared.Cube.{Cube}
use Rattle.rina_cube.specs.declared.Kind.{Kind}
use Rattle.rina_cube.specs.declared.Kind.TheVariants.{Datagram, Loose, Reliable}
use Rattle.rina_cube.specs.Cubes.{IsTimed, IsCube}
use Rattle.rina_pci.specs.declared.widths.Widths.{Widths}
use Rattle.rina_pci.specs.Spelling.{IsWidth, AreWidths}
use Rattle.rina_plan.specs.declared.dif.Lower.{Lower}
use Rattle.rina_plan.specs.declared.dif.Lower.TheVariants.{Wire, Dif}
use Rattle.rina_plan.specs.declared.dif.MemberPlan.{MemberPlan}
use Rattle.rina_plan.specs.declared.dif.LinkPlan.{LinkPlan}
use Rattle.rina_plan.specs.declared.dif.EndPlan.{EndPlan}
use Rattle.rina_plan.specs.declared.dif.FlowPlan.{FlowPlan}
use Rattle.rina_plan.specs.declared.dif.DifPlan.{DifPlan}
use Rattle.rina_plan.specs.Difs.{is_mistimed_by, is_mistimed}
use Rattle.rina_plan.specs.Numbers.{IsLower}
use Rattle.rina_table.specs.declared.error.StackError.{StackError}
use Rattle.rina_table.specs.declared.scope.Scope.{Scope}
use Rattle.rina_table.specs.declared.sketch.WireSketch.{WireSketch}
use Rattle.rina_table.specs.declared.sketch.Sketch.{Sketch}
use Rattle.rina_table.specs.Faults.{required, unless}
use Rattle.rina_table.specs.Keys.{items_in}
use Rattle.rina_table.specs.Names.{place_in, lower_or, lower_named}
use Rattle.rina_table.specs.Values.{truth_or, items_or, rows_in, rows_or}
use Rattle.rina_table.specs.Fields.{name_in, number_in, number_or, as_width, width_in, node_in, lower_in}
use Rattle.rina_table.specs.Rows.{kind_in, widths_at, manage_at, cube_at, member_at, rule_at, link_at, end_at, flow_at}
use Rattle.rina_table.specs.Items.{unknown_at, widths_in, manage_in, dif_at}
use Rattle.rina_stack.specs.Scopes.{resolved_scope}
use Rattle.rina_stack.specs.Rules.{wire_names, dif_names}
use Rattle.rina_stack.specs.Ranges.{IsSoundLink, IsRangedCube, IsManageCube, IsFlowCube, IsRangedDif, HasNames, IsNamed}
use Rattle.rina_stack.proofs.Inversion.{bind_ok, ok_is, all_read, found_6, found_7, number_7, number_or_7, node_in_7, if_some, name_7}

-- all rows of a list
all_rows : {B : Type 0} (P : B → Type 0) (f : Data → Result B StackError) (n : ℕ) (k : List ℕ) (d : Data) (ys : List B) → ((x : Data) (y : B) → f x ≡ Ok y → P y) → rows_in f n k d ≡ Ok ys → All P ys
unfolding rows_in
all_rows P f n k d ys each h =
    let (ds, _, read) = bind_ok (required n (items_in k d)) _ ys h in
    all_read P (λ _. f) 0 ds ys (λ _ x y. each x y) read

all_rows_or : {B : Type 0} (P : B → Type 0) (f : Data → Result B StackError) (n : ℕ) (k : List ℕ) (d : Data) (ys : List B) → ((x : Data) (y : B) → f x ≡ Ok y → P y) → rows_or f n k d ≡ Ok ys → All P ys
unfolding rows_or
all_rows_or P f n k d ys each h =
    let (ds, _, read) = bind_ok (items_or n (get k d)) _ ys h in
    all_read P (λ _. f) 0 ds ys (λ _ x y. each x y) read

-- ---- numbers

or_cases3 : (w : ℕ) → ((w == 1) || (w == 2) || (w == 4)) ≡ true → IsWidth w
or_cases3 w h =
    let whole = or_cases ((w == 1) || (w == 2)) (w == 4) h in
    let two : ((w == 1) || (w == 2)) ≡ true → IsWidth w = λ g. elim (or_cases (w == 1) (w == 2) g) as (λ _. IsWidth w) [ inl x ↦ inl (eqb-true w 1 x) | inr x ↦ inr (inl (eqb-true w 2 x)) ] in
    elim whole as (λ _. IsWidth w) [ inl x ↦ two x | inr x ↦ inr (inr (eqb-true w 4 x)) ]

width_7 : (known : Sketch) (u : Option ℕ) (n : ℕ) (k : List ℕ) (d : Data) (w : ℕ) → width_in (resolved_scope known u) n k d ≡ Ok w → IsWidth w
unfolding width_in
width_7 known u n k d w h =
    let (v, _, found) = bind_ok (number_in (resolved_scope known u) n k d 1 4) _ w h in
    let (test, same) = if_some ((v == 1) || (v == 2) || (v == 4)) v w (found_6 n 1 (as_width v) w found) in
    subst IsWidth same (or_cases3 v test)

widths_7 : (known : Sketch) (u : Option ℕ) (n : ℕ) (d : Data) (w : Widths) → widths_at (resolved_scope known u) n d ≡ Ok w → AreWidths w
unfolding widths_at
widths_7 known u n d w h =
    let s = resolved_scope known u in
    let (addr, is_addr, h1) = bind_ok (width_in s n (codes "addr") d) _ w h in
    let (cep, is_cep, h2) = bind_ok (width_in s n (codes "cep") d) _ w h1 in
    let (len, is_len, h3) = bind_ok (width_in s n (codes "len") d) _ w h2 in
    let (seq, is_seq, h4) = bind_ok (width_in s n (codes "seq") d) _ w h3 in
    let whole : record { addr = addr; cep = cep; len = len; seq = seq } ≡ w = ok_is _ _ h4 in
    subst AreWidths whole (record { addr = width_7 known u n (codes "addr") d addr is_addr; cep = width_7 known u n (codes "cep") d cep is_cep; len = width_7 known u n (codes "len") d len is_len; seq = width_7 known u n (codes "seq") d seq is_seq })

-- ---- cubes

cube_7 : (known : Sketch) (u : Option ℕ) (n : ℕ) (d : Data) (c : Cube) → cube_at (resolved_scope known u) n d ≡ Ok c → IsFlowCube c
unfolding cube_at
cube_7 known u n d c h =
    let s = resolved_scope known u in
    let (id, is_id, h1) = bind_ok (number_in s n (codes "id") d 1 255) _ c h in
    let (kind, _, h2) = bind_ok (kind_in n d) _ c h1 in
    let (mpl, is_mpl, h3) = bind_ok (number_in s n (codes "mpl") d 1 1000000) _ c h2 in
    let (r, is_r, h4) = bind_ok (number_or s n (codes "r") d 0 1000000) _ c h3 in
    let (a, is_a, h5) = bind_ok (number_or s n (codes "a") d 0 1000000) _ c h4 in
    let (retry, is_retry, h6) = bind_ok (number_or s n (codes "retry") d 0 1000000) _ c h5 in
    let (window, is_window, h7) = bind_ok (number_in s n (codes "window") d 1 256) _ c h6 in
    let (largest, is_largest, h8) = bind_ok (number_in s n (codes "largest") d 1 65535) _ c h7 in
    let whole : record { id = id; kind = kind; mpl = mpl; r = r; a = a; retry = retry; window = window; largest = largest } ≡ c = ok_is _ _ h8 in
    subst IsFlowCube whole
    (record {
      ranged = record {
        least_mpl = (number_7 known u n (codes "mpl") d 1 1000000 mpl is_mpl).0;
        mpl = (number_7 known u n (codes "mpl") d 1 1000000 mpl is_mpl).1;
        r = (number_or_7 known u n (codes "r") d 0 1000000 r is_r).1;
        a = (number_or_7 known u n (codes "a") d 0 1000000 a is_a).1;
        retry = (number_or_7 known u n (codes "retry") d 0 1000000 retry is_retry).1;
        least_window = (number_7 known u n (codes "window") d 1 256 window is_window).0;
        window = (number_7 known u n (codes "window") d 1 256 window is_window).1;
        least_largest = (number_7 known u n (codes "largest") d 1 65535 largest is_largest).0;
        largest = (number_7 known u n (codes "largest") d 1 65535 largest is_largest).1;
      };
      id = (number_7 known u n (codes "id") d 1 255 id is_id).0;
    })

manage_7 : (known : Sketch) (u : Option ℕ) (n : ℕ) (d : Data) (c : Cube) → manage_at (resolved_scope known u) n d ≡ Ok c → IsManageCube c
unfolding manage_at
manage_7 known u n d c h =
    let s = resolved_scope known u in
    let (mpl, is_mpl, h1) = bind_ok (number_in s n (codes "mpl") d 1 1000000) _ c h in
    let (r, is_r, h2) = bind_ok (number_in s n (codes "r") d 0 1000000) _ c h1 in
    let (a, is_a, h3) = bind_ok (number_in s n (codes "a") d 0 1000000) _ c h2 in
    let (retry, is_retry, h4) = bind_ok (number_in s n (codes "retry") d 0 1000000) _ c h3 in
    let (window, is_window, h5) = bind_ok (number_in s n (codes "window") d 1 256) _ c h4 in
    let whole : record { id = 0; kind = Reliable; mpl = mpl; r = r; a = a; retry = retry; window = window; largest = 325 } ≡ c = ok_is _ _ h5 in
    subst IsManageCube whole
    (record {
      ranged = record {
        least_mpl = (number_7 known u n (codes "mpl") d 1 1000000 mpl is_mpl).0;
        mpl = (number_7 known u n (codes "mpl") d 1 1000000 mpl is_mpl).1;
        r = (number_7 known u n (codes "r") d 0 1000000 r is_r).1;
        a = (number_7 known u n (codes "a") d 0 1000000 a is_a).1;
        retry = (number_7 known u n (codes "retry") d 0 1000000 retry is_retry).1;
        least_window = (number_7 known u n (codes "window") d 1 256 window is_window).0;
        window = (number_7 known u n (codes "window") d 1 256 window is_window).1;
        least_largest = omega arith;
        largest = omega arith;
      };
      id = refl;
      kind = refl;
    })

timed_by : (k : Kind) (c : Cube) → is_mistimed_by k c ≡ false → IsTimed k c
timed_by Reliable c h = (grind (arith, nat_tests), grind (arith, nat_tests))
timed_by Datagram c h = (grind (arith, nat_tests), grind (arith, nat_tests), grind (arith, nat_tests))
timed_by Loose c h = (grind (arith, nat_tests), grind (arith, nat_tests), grind (arith, nat_tests))

-- a cube in range whose times fit its kind
pub whole_cube : (c : Cube) → IsRangedCube c → is_mistimed c ≡ false → IsCube c
unfolding is_mistimed
whole_cube c r h = record {
  least_mpl = r.least_mpl;
  mpl = r.mpl;
  r = r.r;
  a = r.a;
  retry = r.retry;
  least_window = r.least_window;
  window = r.window;
  least_largest = r.least_largest;
  largest = r.largest;
  times = timed_by c.kind c h;
}

-- ---- references

found_lower : (known : Sketch) (name : List ℕ) (i j : Option ℕ) (l : Lower) → place_in (wire_names known.wires) name ≡ i → place_in (dif_names known.difs) name ≡ j → lower_or i j ≡ Some l → IsLower (length known.wires) (length known.difs) l
found_lower known name (Some i) j l is_i is_j h =
    let same : Wire i ≡ l = cc in
    let within = (position-Some _ (wire_names known.wires) i [] is_i).0 in
    subst (IsLower (length known.wires) (length known.difs)) same (omega (arith, within, length-map known.wires (λ (w : WireSketch). w.name)))
found_lower known name None (Some j) l is_i is_j h =
    let same : Dif j ≡ l = cc in
    let within = (position-Some _ (dif_names known.difs) j [] is_j).0 in
    subst (IsLower (length known.wires) (length known.difs)) same (omega (arith, within, length-map known.difs (λ (e : DifPlan). e.name)))
found_lower known name None None l is_i is_j h = cc

lower_7 : (known : Sketch) (u : Option ℕ) (n : ℕ) (k : List ℕ) (d : Data) (l : Lower) → lower_in (resolved_scope known u) n k d ≡ Ok l → IsLower (length known.wires) (length known.difs) l
unfolding lower_in lower_named
lower_7 known u n k d l h =
    let (name, _, required) = bind_ok (name_in (resolved_scope known u) n k d) _ l h in
    found_lower known name (place_in (wire_names known.wires) name) (place_in (dif_names known.difs) name) l refl refl (found_7 n (Wire 0) _ l required)

member_7 : (known : Sketch) (u : Option ℕ) (n : ℕ) (d : Data) (m : MemberPlan) → member_at (resolved_scope known u) n d ≡ Ok m → m.node < length known.nodes
unfolding member_at
member_7 known u n d m h =
    let s = resolved_scope known u in
    let (node, is_node, h1) = bind_ok (node_in s n (codes "node") d) _ m h in
    let (addr, _, h2) = bind_ok (number_in s n (codes "addr") d 0 4294967295) _ m h1 in
    let whole : record { node = node; addr = addr } ≡ m = ok_is _ _ h2 in
    subst (λ (x : MemberPlan). x.node < length known.nodes) whole (node_in_7 known u n (codes "node") d node is_node)

link_7 : (known : Sketch) (u : Option ℕ) (n : ℕ) (d : Data) (l : LinkPlan) → link_at (resolved_scope known u) n d ≡ Ok l → IsSoundLink (length known.nodes) (length known.wires) (length known.difs) l
unfolding link_at
link_7 known u n d l h =
    let s = resolved_scope known u in
    let (on, is_on, h1) = bind_ok (lower_in s n (codes "on") d) _ l h in
    let (a, is_a, h2) = bind_ok (node_in s n (codes "a") d) _ l h1 in
    let (b, is_b, h3) = bind_ok (node_in s n (codes "b") d) _ l h2 in
    let (weight, is_weight, h4) = bind_ok (number_or s n (codes "weight") d 1 65535) _ l h3 in
    let (cube, is_cube, h5) = bind_ok (number_or s n (codes "cube") d 0 255) _ l h4 in
    let whole : record { on = on; a = a; b = b; weight = weight; cube = cube } ≡ l = ok_is _ _ h5 in
    subst (IsSoundLink (length known.nodes) (length known.wires) (length known.difs)) whole
    (record {
      on = lower_7 known u n (codes "on") d on is_on;
      a = node_in_7 known u n (codes "a") d a is_a;
      b = node_in_7 known u n (codes "b") d b is_b;
      least_weight = (number_or_7 known u n (codes "weight") d 1 65535 weight is_weight).0;
      weight = (number_or_7 known u n (codes "weight") d 1 65535 weight is_weight).1;
    })

end_7 : (known : Sketch) (u : Option ℕ) (n : ℕ) (d : Data) (e : EndPlan) → end_at (resolved_scope known u) n d ≡ Ok e → e.node < length known.nodes
unfolding end_at
end_7 known u n d e h =
    let s = resolved_scope known u in
    let (node, is_node, h1) = bind_ok (node_in s n (codes "node") d) _ e h in
    let (app, _, h2) = bind_ok (name_in s n (codes "app") d) _ e h1 in
    let (label, _, h3) = bind_ok (name_in s n (codes "label") d) _ e h2 in
    let whole : record { node = node; app = app; label = label } ≡ e = ok_is _ _ h3 in
    subst (λ (x : EndPlan). x.node < length known.nodes) whole (node_in_7 known u n (codes "node") d node is_node)

flow_7 : (known : Sketch) (u : Option ℕ) (n : ℕ) (d : Data) (f : FlowPlan) → flow_at (resolved_scope known u) n d ≡ Ok f → (f.from.node < length known.nodes) × (f.to.node < length known.nodes)
unfolding flow_at
flow_7 known u n d f h =
    let s = resolved_scope known u in
    let (cube, _, h1) = bind_ok (number_in s n (codes "cube") d 0 255) _ f h in
    let (from, _, h2) = bind_ok (required n (get (codes "from") d)) _ f h1 in
    let (to, _, h3) = bind_ok (required n (get (codes "to") d)) _ f h2 in
    let (asker, is_asker, h4) = bind_ok (end_at s n from) _ f h3 in
    let (other, is_other, h5) = bind_ok (end_at s n to) _ f h4 in
    let whole : record { cube = cube; from = asker; to = other } ≡ f = ok_is _ _ h5 in
    subst (λ (x : FlowPlan). (x.from.node < length known.nodes) × (x.to.node < length known.nodes)) whole (end_7 known u n from asker is_asker, end_7 known u n to other is_other)

-- ---- the applications of a flow

end_named : (known : Sketch) (u : Option ℕ) (n : ℕ) (d : Data) (e : EndPlan) → end_at (resolved_scope known u) n d ≡ Ok e → name_at e.app ≡ Ok e.app
unfolding end_at
end_named known u n d e h =
    let s = resolved_scope known u in
    let (node, _, h1) = bind_ok (node_in s n (codes "node") d) _ e h in
    let (app, is_app, h2) = bind_ok (name_in s n (codes "app") d) _ e h1 in
    let (label, _, h3) = bind_ok (name_in s n (codes "label") d) _ e h2 in
    let whole : record { node = node; app = app; label = label } ≡ e = ok_is _ _ h3 in
    subst (λ (x : EndPlan). name_at x.app ≡ Ok x.app) whole (name_7 known u n (codes "app") d app is_app)

flow_named : (known : Sketch) (u : Option ℕ) (n : ℕ) (d : Data) (f : FlowPlan) → flow_at (resolved_scope known u) n d ≡ Ok f → HasNames f
unfolding flow_at
flow_named known u n d f h =
    let s = resolved_scope known u in
    let (cube, _, h1) = bind_ok (number_in s n (codes "cube") d 0 255) _ f h in
    let (from, _, h2) = bind_ok (required n (get (codes "from") d)) _ f h1 in
    let (to, _, h3) = bind_ok (required n (get (codes "to") d)) _ f h2 in
    let (asker, is_asker, h4) = bind_ok (end_at s n from) _ f h3 in
    let (other, is_other, h5) = bind_ok (end_at s n to) _ f h4 in
    let whole : record { cube = cube; from = asker; to = other } ≡ f = ok_is _ _ h5 in
    subst HasNames whole (end_named known u n from asker is_asker, end_named known u n to other is_other)

-- ---- a DIF

widths_part : (known : Sketch) (u : Option ℕ) (n : ℕ) (d : Data) (w : Widths) → widths_in (resolved_scope known u) n d ≡ Ok w → AreWidths w
unfolding widths_in
widths_part known u n d w h =
    let (t, _, read) = bind_ok (required n (get (codes "widths") d)) _ w h in
    widths_7 known u n t w read

manage_part : (known : Sketch) (u : Option ℕ) (n : ℕ) (d : Data) (c : Cube) → manage_in (resolved_scope known u) n d ≡ Ok c → IsManageCube c
unfolding manage_in
manage_part known u n d c h =
    let (t, _, read) = bind_ok (required n (get (codes "manage") d)) _ c h in
    manage_7 known u n t c read

-- four steps that succeeded
over4 : {A1 A2 A3 A4 B : Type 0} (P : B → Type 0) (r1 : Result A1 StackError) (r2 : Result A2 StackError) (r3 : Result A3 StackError) (r4 : Result A4 StackError) (rest : A1 → A2 → A3 → A4 → Result B StackError) (y : B)
    → (r1 >>= λ x1. r2 >>= λ x2. r3 >>= λ x3. r4 >>= λ x4. rest x1 x2 x3 x4) ≡ Ok y
    → ((x1 : A1) (x2 : A2) (x3 : A3) (x4 : A4) → r1 ≡ Ok x1 → r2 ≡ Ok x2 → r3 ≡ Ok x3 → r4 ≡ Ok x4 → rest x1 x2 x3 x4 ≡ Ok y → P y) → P y
over4 P (Err e) r2 r3 r4 rest y h k = cc
over4 P (Ok x1) (Err e) r3 r4 rest y h k = cc
over4 P (Ok x1) (Ok x2) (Err e) r4 rest y h k = cc
over4 P (Ok x1) (Ok x2) (Ok x3) (Err e) rest y h k = cc
over4 P (Ok x1) (Ok x2) (Ok x3) (Ok x4) rest y h k = k x1 x2 x3 x4 refl refl refl refl h

pub dif_7 : (known : Sketch) (u : Option ℕ) (n : ℕ) (d : Data) (x : DifPlan) → dif_at (resolved_scope known u) n d ≡ Ok x → IsRangedDif (length known.nodes) (length known.wires) (length known.difs) x
unfolding dif_at
dif_7 known u n d x h =
    let s = resolved_scope known u in
    let nodes = length known.nodes in
    let P = IsRangedDif nodes (length known.wires) (length known.difs) in
    over4 P (name_in s n (codes "name") d) (number_in s n (codes "rank") d 1 8) (truth_or n false (get (codes "static") d)) (number_in s n (codes "pdu") d 18 4096) _ x h
    (λ name rank is_static pdu _ is_rank _ is_pdu h4.
    over4 P (widths_in s n d) (number_in s n (codes "queue") d 1 256) (name_in s n (codes "policy") d) (unless 7 (unknown_at u n)) _ x h4
    (λ widths queue policy _ are_widths is_queue _ _ h8.
    over4 P (number_in s n (codes "wait") d 1 1000000) (manage_in s n d) (rows_in (cube_at s n) n (codes "cube") d) (rows_in (member_at s n) n (codes "member") d) _ x h8
    (λ wait manage cubes members is_wait is_manage are_cubes are_members h12.
    over4 P (truth_or n true (get (codes "default") d)) (rows_or (rule_at s n) n (codes "rule") d) (rows_or (link_at s n) n (codes "link") d) (rows_or (flow_at s n) n (codes "flow") d) _ x h12
    (λ allow rules links flows _ _ are_links are_flows h16.
    let whole : record { name = name; rank = rank; is_static = is_static; pdu = pdu; widths = widths; queue = queue; policy = policy; wait = wait; manage = manage; cubes = cubes; members = members; allow = allow; rules = rules; links = links; flows = flows } ≡ x = ok_is _ _ h16 in
    subst P whole
    (record {
      least_rank = (number_7 known u n (codes "rank") d 1 8 rank is_rank).0;
      rank = (number_7 known u n (codes "rank") d 1 8 rank is_rank).1;
      least_pdu = (number_7 known u n (codes "pdu") d 18 4096 pdu is_pdu).0;
      pdu = (number_7 known u n (codes "pdu") d 18 4096 pdu is_pdu).1;
      widths = widths_part known u n d widths are_widths;
      least_queue = (number_7 known u n (codes "queue") d 1 256 queue is_queue).0;
      queue = (number_7 known u n (codes "queue") d 1 256 queue is_queue).1;
      least_wait = (number_7 known u n (codes "wait") d 1 1000000 wait is_wait).0;
      wait = (number_7 known u n (codes "wait") d 1 1000000 wait is_wait).1;
      manage = manage_part known u n d manage is_manage;
      cubes = all_rows IsFlowCube (cube_at s n) n (codes "cube") d cubes (λ t c. cube_7 known u n t c) are_cubes;
      members = all_rows (λ (m : MemberPlan). m.node < nodes) (member_at s n) n (codes "member") d members (λ t m. member_7 known u n t m) are_members;
      links = all_rows_or (IsSoundLink nodes (length known.wires) (length known.difs)) (link_at s n) n (codes "link") d links (λ t l. link_7 known u n t l) are_links;
      flows = all_rows_or (λ (f : FlowPlan). (f.from.node < nodes) × (f.to.node < nodes)) (flow_at s n) n (codes "flow") d flows (λ t f. flow_7 known u n t f) are_flows;
    })))))

-- how the name and the flows of a DIF were read
pub record AreParts (s : Scope) (n : ℕ) (d : Data) (x : DifPlan) : Type 0 where
  pub name : name_in s n (codes "name") d ≡ Ok x.name
  pub flows : rows_or (flow_at s n) n (codes "flow") d ≡ Ok x.flows

pub dif_parts : (s : Scope) (n : ℕ) (d : Data) (x : DifPlan) → dif_at s n d ≡ Ok x → AreParts s n d x
unfolding dif_at
dif_parts s n d x h =
    let P = AreParts s n d in
    over4 P (name_in s n (codes "name") d) (number_in s n (codes "rank") d 1 8) (truth_or n false (get (codes "static") d)) (number_in s n (codes "pdu") d 18 4096) _ x h
    (λ name rank is_static pdu is_name _ _ _ h4.
    over4 P (widths_in s n d) (number_in s n (codes "queue") d 1 256) (name_in s n (codes "policy") d) (unless 7 (unknown_at s.unknown n)) _ x h4
    (λ widths queue policy _ _ _ _ _ h8.
    over4 P (number_in s n (codes "wait") d 1 1000000) (manage_in s n d) (rows_in (cube_at s n) n (codes "cube") d) (rows_in (member_at s n) n (codes "member") d) _ x h8
    (λ wait manage cubes members _ _ _ _ h12.
    over4 P (truth_or n true (get (codes "default") d)) (rows_or (rule_at s n) n (codes "rule") d) (rows_or (link_at s n) n (codes "link") d) (rows_or (flow_at s n) n (codes "flow") d) _ x h12
    (λ allow rules links flows _ _ _ are_flows h16.
    let whole : record { name = name; rank = rank; is_static = is_static; pdu = pdu; widths = widths; queue = queue; policy = policy; wait = wait; manage = manage; cubes = cubes; members = members; allow = allow; rules = rules; links = links; flows = flows } ≡ x = ok_is _ _ h16 in
    subst P whole (record { name = is_name; flows = are_flows })))))

-- the names that were read of a DIF are names
pub named_7 : (known : Sketch) (u : Option ℕ) (n : ℕ) (d : Data) (x : DifPlan) → dif_at (resolved_scope known u) n d ≡ Ok x → IsNamed x
named_7 known u n d x h =
    let parts = dif_parts (resolved_scope known u) n d x h in
    record {
      name = name_7 known u n (codes "name") d x.name parts.name;
      flows = all_rows_or HasNames (flow_at (resolved_scope known u) n) n (codes "flow") d x.flows (λ t f. flow_named known u n t f) parts.flows;
    }
