-- The settings of a DIF whose plan is sound.
use Rattle.std.proofs.Common.{◌≡◌, ◌∙◌, ℕ, zero, suc, ◌+◌, ◌<◌, ◌≤◌, ◌*◌, ◌^◌, ◌-◌, ◌==◌, ◌&&◌, ◌||◌, not, All, Bool, true, false, cond, List, [], ◌∷◌, ◌++◌, length, map, nat_lt, slice_get, option_map, Some, None, refl, sym, ap, subst, arith, inl, inr}
use Rattle.std.specs.List.{list_any}
use Rattle.std.proofs.lemmas.Bool.{cases_lt, false≢true, leb-false, ltb-false}
use Rattle.std.proofs.lemmas.Bool.Decides.{eqb_tells}
use Rattle.std.proofs.lemmas.Option.{slice_get-map}
use Rattle.rina_base.specs.declared.pdu.PduKind.TheVariants.{Piece, Ack}
use Rattle.rina_cube.specs.declared.Cube.{Cube}
use Rattle.rina_cube.specs.Cubes.{IsCube}
use Rattle.rina_iface.proofs.Changed.{all_at}
use Rattle.rina_pci.specs.Spelling.{IsWidth, pci_size}
use Rattle.rina_plan.specs.declared.dif.DifPlan.{DifPlan}
use Rattle.rina_plan.specs.declared.dif.LinkPlan.{LinkPlan}
use Rattle.rina_plan.specs.declared.dif.MemberPlan.{MemberPlan}
use Rattle.rina_plan.specs.declared.dif.WireEnds.{WireEnds}
use Rattle.rina_plan.specs.Difs.{has_twice, is_misaddressed, has_unfit_pdu, is_misplaced, greatest_of}
use Rattle.rina_plan.specs.Kept.{HasCubes, HasMembers}
use Rattle.rina_plan.specs.Links.{has_unfit_link, is_unfit_link, is_member, is_there, rank_of}
use Rattle.rina_stack.specs.declared.plan.Plan.{Plan}
use Rattle.rina_stack.specs.Ranges.{IsFlowCube, IsRangedDif}
use Rattle.rina_stack.specs.Unbroken.{AreDistinct}
use Rattle.rina_stack.specs.Plan.{IsPlan, wire_ends}
use Rattle.rina_dif_law.specs.Cloud.{IsMine}
use Rattle.rina_data.specs.Configs.{Member, config_of, cube_by, member_of as config_member}
use Rattle.rina_dif_law.specs.Numbered.{AreMembers}
use Rattle.rina_dif_law.specs.Standing.{IsConfig}
use Rattle.rina_data.specs.declared.settings.Member.{Member as Kept}
use Rattle.rina_dif.specs.Connected.{CanManage}
use Rattle.rina_dif.specs.Planned.{ipc_name, member_of, members_from, node_name, processes_before, settings_by}

-- Tests

any_false : {X : Type 0} (p : X → Bool) (xs : List X) (k : ℕ) (x : X) → list_any p xs ≡ false → slice_get xs k ≡ Some x → p x ≡ false
any_false p [] k x none is = absurd cc
any_false p (y ∷ ys) zero x none is = (let same : y ≡ x = cc in ap p (sym same) ∙ first_false (p y) (list_any p ys) none)
  where
    first_false : (a b : Bool) → (a || b) ≡ false → a ≡ false
    first_false false b h = refl
    first_false true b h = absurd cc
any_false p (y ∷ ys) (suc k) x none is = any_false p ys k x (second_false (p y) (list_any p ys) none) is
  where
    second_false : (a b : Bool) → (a || b) ≡ false → b ≡ false
    second_false false b h = h
    second_false true b h = absurd cc

both_false : (a b : Bool) → (a || b) ≡ false → (a ≡ false) × (b ≡ false)
both_false false b h = (refl, h)
both_false true b h = absurd cc

third_false : (a b c : Bool) → (a || b || c) ≡ false → c ≡ false
third_false false false c h = h
third_false false true c h = absurd cc
third_false true b c h = absurd cc

all_false : (a b c : Bool) → (a || b || c) ≡ false → (a ≡ false) × (b ≡ false) × (c ≡ false)
all_false false false c h = (refl, refl, h)
all_false false true c h = absurd cc
all_false true b c h = absurd cc

rest_false : (a b c d : Bool) → (a || b || c || d) ≡ false → (b ≡ false) × (c ≡ false) × (d ≡ false)
rest_false false false false d h = (refl, refl, h)
rest_false false false true d h = absurd cc
rest_false false true c d h = absurd cc
rest_false true b c d h = absurd cc

is_true : (a : Bool) → not a ≡ false → a ≡ true
is_true true h = refl
is_true false h = absurd cc

first_two : (a b c d : Bool) → (a && b && c && d) ≡ true → (a ≡ true) × (b ≡ true)
first_two true true c d h = (refl, refl)
first_two true false c d h = absurd cc
first_two false b c d h = absurd cc

-- Members

-- a member of the plan stands at the place of each
pub planned : (plan : Plan) (d : DifPlan) (n : ℕ) (ms : List MemberPlan) (i : ℕ) (a : Member) → slice_get (map config_member (members_from plan d n ms)) i ≡ Some a → (m : MemberPlan) × (slice_get ms i ≡ Some m) × (m.addr ≡ a.addr) × (m.node ≡ a.node) × (ipc_name plan d m.node ≡ a.name)
planned plan d n [] i a is = absurd cc
planned plan d n (m ∷ ms) zero a is = (m, refl, (let e = ap (option_map (λ (z : Member). z.addr)) is in cc), (let e = ap (option_map (λ (z : Member). z.node)) is in cc), (let e = ap (option_map (λ (z : Member). z.name)) is in cc))
planned plan d n (m ∷ ms) (suc i) a is = planned plan d (n + 1) ms i a is

-- the IPC process at the node of a member is one of the DIF
pub is_mine : (plan : Plan) (d : DifPlan) (n node : ℕ) (ms : List MemberPlan) → list_any (λ (m : MemberPlan). m.node == node) ms ≡ true → IsMine (map config_member (members_from plan d n ms)) (ipc_name plan d node)
is_mine plan d n node [] h = absurd cc
is_mine plan d n node (m ∷ ms) h = elim (eqb_tells m.node node) [
  | inl t ↦ record { addr = m.addr; member = record { place = 0; member = record { addr = m.addr; name = ipc_name plan d m.node; node = m.node }; stands = refl; addr_is = refl; name_is = ap (ipc_name plan d) t.1 } }
  | inr u ↦
      let later = is_mine plan d (n + 1) node ms (rw u.0 at h) in
      record { addr = later.addr; member = record { place = suc later.member.place; member = later.member.member; stands = later.member.stands; addr_is = later.member.addr_is; name_is = later.member.name_is } }
]

crossed : (wires : List WireEnds) (difs : List DifPlan) (d : DifPlan) (l : LinkPlan) → is_unfit_link wires difs d l ≡ false → (is_member l.a d ≡ true) × (is_member l.b d ≡ true)
unfolding is_unfit_link
crossed wires difs d l h = first_two (is_member l.a d) (is_member l.b d) (is_there wires difs l.a l.on) (is_there wires difs l.b l.on) (is_true _ (third_false (not (rank_of difs l.on + 1 == d.rank)) (l.a == l.b) _ h))

all_crossed : (wires : List WireEnds) (difs : List DifPlan) (d : DifPlan) (k : ℕ) (l : LinkPlan) → has_unfit_link wires difs d ≡ false → slice_get d.links k ≡ Some l → is_unfit_link wires difs d l ≡ false
unfolding has_unfit_link
all_crossed wires difs d k l none is = any_false (is_unfit_link wires difs d) d.links k l none is

-- both ends of a link are IPC processes of the DIF
-- a member stands at a node
abbrev pub HasNode : Plan → DifPlan → ℕ → Type 0
HasNode plan d node = list_any (λ (m : MemberPlan). m.node == node) d.members ≡ true

pub node_there : (plan : Plan) (d : DifPlan) (n node : ℕ) (ms : List MemberPlan) → list_any (λ (m : MemberPlan). m.node == node) ms ≡ true → (k : ℕ) × (m : Kept) × (slice_get (members_from plan d n ms) k ≡ Some m) × (m.node ≡ node)
node_there plan d n node [] h = absurd cc
node_there plan d n node (m ∷ ms) h = elim (eqb_tells m.node node) [
  | inl t ↦ (zero, member_of plan d n m, refl, t.1)
  | inr u ↦ (let later = node_there plan d (n + 1) node ms (rw u.0 at h) in (suc later.0, later.1, later.2, later.3))
]

pub link_nodes : (plan : Plan) (i : ℕ) (d : DifPlan) (k : ℕ) (l : LinkPlan) → IsPlan plan → slice_get plan.difs i ≡ Some d → slice_get d.links k ≡ Some l → HasNode plan d l.a × HasNode plan d l.b
link_nodes plan i d k l sound at is =
    let none = all_at (λ (z : DifPlan). has_unfit_link (map wire_ends plan.wires) plan.difs z ≡ false) plan.difs i d sound.links at in
    crossed (map wire_ends plan.wires) plan.difs d l (all_crossed (map wire_ends plan.wires) plan.difs d k l none is)

pub link_mine : (plan : Plan) (i : ℕ) (d : DifPlan) (k : ℕ) (l : LinkPlan) → IsPlan plan → slice_get plan.difs i ≡ Some d → slice_get d.links k ≡ Some l → IsMine (config_of (settings_by plan i d)).members (ipc_name plan d l.a) × IsMine (config_of (settings_by plan i d)).members (ipc_name plan d l.b)
link_mine plan i d k l sound at is =
    let none = all_at (λ (z : DifPlan). has_unfit_link (map wire_ends plan.wires) plan.difs z ≡ false) plan.difs i d sound.links at in
    let ends = crossed (map wire_ends plan.wires) plan.difs d l (all_crossed (map wire_ends plan.wires) plan.difs d k l none is) in
    (is_mine plan d (processes_before plan.difs i) l.a d.members ends.0, is_mine plan d (processes_before plan.difs i) l.b d.members ends.1)

-- Numbers that differ

equal : (x y : ℕ) → y ≡ x → (x == y) ≡ true
equal x y same = grind arith

twice : (y : ℕ) (ys : List ℕ) (k x : ℕ) → list_any (λ (z : ℕ). z == y) ys ≡ false → y ≡ x → slice_get ys k ≡ Some x → ⊥
twice y ys k x none same is = false≢true (sym (any_false (λ (z : ℕ). z == y) ys k x none is) ∙ equal x y same)

once : (xs : List ℕ) (i k : ℕ) (x : ℕ) → has_twice xs ≡ false → slice_get xs i ≡ Some x → slice_get xs k ≡ Some x → i ≡ k
unfolding has_twice
once [] i k x none a b = absurd cc
once (y ∷ ys) zero zero x none a b = refl
once (y ∷ ys) zero (suc k) x none a b = absurd (twice y ys k x (both_false _ _ none).0 (let same : y ≡ x = cc in same) b)
once (y ∷ ys) (suc i) zero x none a b = absurd (twice y ys i x (both_false _ _ none).0 (let same : y ≡ x = cc in same) a)
once (y ∷ ys) (suc i) (suc k) x none a b = ap suc (once ys i k x (both_false _ _ none).1 a b)

-- Numbers that fit

most_fits : (w n : ℕ) → IsWidth w → nat_lt (greatest_of w) n ≡ false → n < 2 ^ (8 * w)
unfolding greatest_of
most_fits w n (inl is) h = (let le : n ≤ 255 = ltb-false 255 n (rw is at h) in subst (λ (v : ℕ). n < 2 ^ (8 * v)) (sym is) (omega (arith, le)))
most_fits w n (inr (inl is)) h = (let le : n ≤ 65535 = ltb-false 65535 n (rw is at h) in subst (λ (v : ℕ). n < 2 ^ (8 * v)) (sym is) (omega (arith, le)))
most_fits w n (inr (inr is)) h = (let le : n ≤ 4294967295 = ltb-false 4294967295 n (rw is at h) in subst (λ (v : ℕ). n < 2 ^ (8 * v)) (sym is) (omega (arith, le)))

less_one : (w : ℕ) → IsWidth w → 2 ^ (8 * w) - 1 < 2 ^ (8 * w)
less_one w (inl is) = subst (λ (v : ℕ). 2 ^ (8 * v) - 1 < 2 ^ (8 * v)) (sym is) (omega arith)
less_one w (inr (inl is)) = subst (λ (v : ℕ). 2 ^ (8 * v) - 1 < 2 ^ (8 * v)) (sym is) (omega arith)
less_one w (inr (inr is)) = subst (λ (v : ℕ). 2 ^ (8 * v) - 1 < 2 ^ (8 * v)) (sym is) (omega arith)

addressed : (width : ℕ) (m : MemberPlan) → is_misaddressed width m ≡ false → nat_lt (greatest_of width) m.addr ≡ false
unfolding is_misaddressed
addressed width m h = (both_false _ _ h).1

record IsPlaced (d : DifPlan) : Type 0 where
  nodes : has_twice (map (λ (m : MemberPlan). m.node) d.members) ≡ false
  addrs : has_twice (map (λ (m : MemberPlan). m.addr) d.members) ≡ false
  fit : list_any (is_misaddressed d.widths.addr) d.members ≡ false

is_placed : (d : DifPlan) → is_misplaced d ≡ false → IsPlaced d
unfolding is_misplaced
is_placed d h = (let parts = rest_false _ _ _ _ h in record { nodes = parts.0; addrs = parts.1; fit = parts.2 })

-- IPC processes of one DIF have different names on different nodes

cancel : (xs ys zs : List ℕ) → xs ++ ys ≡ xs ++ zs → ys ≡ zs
cancel [] ys zs e = e
cancel (x ∷ xs) ys zs e = (let rest : xs ++ ys ≡ xs ++ zs = cc in cancel xs ys zs rest)

same_tail : (x : ℕ) (ys zs : List ℕ) → x ∷ ys ≡ x ∷ zs → ys ≡ zs
same_tail x ys zs e = cc

one_named : (plan : Plan) (d : DifPlan) (n m : ℕ) → AreDistinct plan.nodes → n < length plan.nodes → m < length plan.nodes → ipc_name plan d n ≡ ipc_name plan d m → n ≡ m
unfolding ipc_name
one_named plan d n m differ in_n in_m same =
    let names : node_name plan n ≡ node_name plan m = same_tail 47 (node_name plan n) (node_name plan m) (cancel d.name (47 ∷ node_name plan n) (47 ∷ node_name plan m) same) in
    elim (cases_lt n m) [
      | inl low ↦ absurd (differ n m [] low in_m names)
      | inr high ↦ elim (cases_lt m n) [
        | inl low ↦ absurd (differ m n [] low in_n (sym names))
        | inr other ↦ omega arith
      ]
    ]

-- a DIF that is not static admits no fixed flows
few_fixed : (is_static : Bool) (admits ceps : ℕ) → admits < ceps → cond is_static admits 0 < ceps
few_fixed true admits ceps lt = lt
few_fixed false admits ceps lt = omega (arith, lt)

-- the members of its settings
pub are_members : (plan : Plan) (i : ℕ) (d : DifPlan) → IsPlan plan → slice_get plan.difs i ≡ Some d → AreMembers (config_of (settings_by plan i d))
are_members plan i d sound at =
    let placed = is_placed d (all_at (λ (z : DifPlan). is_misplaced z ≡ false) plan.difs i d sound.members at) in
    let ranged : IsRangedDif (length plan.nodes) (length plan.wires) (length plan.difs) d = all_at (IsRangedDif (length plan.nodes) (length plan.wires) (length plan.difs)) plan.difs i d sound.difs at in
    let widths = ranged.widths in
    let n = processes_before plan.difs i in
    record {
      addrs = λ j k a b x y same.
          let p = planned plan d n d.members j a x in
          let q = planned plan d n d.members k b y in
          once (map (λ (m : MemberPlan). m.addr) d.members) j k a.addr placed.addrs (slice_get-map _ d.members j ∙ ap (option_map (λ (m : MemberPlan). m.addr)) p.1 ∙ ap (λ (z : ℕ). Some z) p.2) (slice_get-map _ d.members k ∙ ap (option_map (λ (m : MemberPlan). m.addr)) q.1 ∙ ap (λ (z : ℕ). Some z) (q.2 ∙ sym same));
      nodes = λ j k a b x y same.
          let p = planned plan d n d.members j a x in
          let q = planned plan d n d.members k b y in
          once (map (λ (m : MemberPlan). m.node) d.members) j k a.node placed.nodes (slice_get-map _ d.members j ∙ ap (option_map (λ (m : MemberPlan). m.node)) p.1 ∙ ap (λ (z : ℕ). Some z) p.3) (slice_get-map _ d.members k ∙ ap (option_map (λ (m : MemberPlan). m.node)) q.1 ∙ ap (λ (z : ℕ). Some z) (q.3 ∙ sym same));
      names = λ j k a b x y same.
          let p = planned plan d n d.members j a x in
          let q = planned plan d n d.members k b y in
          let in_a = all_at (λ (m : MemberPlan). m.node < length plan.nodes) d.members j p.0 ranged.members p.1 in
          let in_b = all_at (λ (m : MemberPlan). m.node < length plan.nodes) d.members k q.0 ranged.members q.1 in
          let node = one_named plan d p.0.node q.0.node sound.nodes_differ in_a in_b (p.4 ∙ same ∙ sym q.4) in
          once (map (λ (m : MemberPlan). m.node) d.members) j k p.0.node placed.nodes (slice_get-map _ d.members j ∙ ap (option_map (λ (m : MemberPlan). m.node)) p.1) (slice_get-map _ d.members k ∙ ap (option_map (λ (m : MemberPlan). m.node)) q.1 ∙ ap (λ (z : ℕ). Some z) (sym node));
      least = λ j a x.
          let p = planned plan d n d.members j a x in
          let least = (all_at (λ (m : MemberPlan). (1 ≤ m.addr) × (m.addr < 2 ^ (8 * d.widths.addr))) d.members j p.0 (all_at HasMembers plan.difs i d sound.places at).fit p.1).0 in
          subst (λ (z : ℕ). 1 ≤ z) p.2 least;
      fit = λ j a x.
          let p = planned plan d n d.members j a x in
          subst (λ (z : ℕ). z < 2 ^ (8 * d.widths.addr)) p.2 (most_fits d.widths.addr p.0.addr widths.addr (addressed d.widths.addr p.0 (any_false (is_misaddressed d.widths.addr) d.members j p.0 placed.fit p.1)));
      ceps = few_fixed d.is_static (2 ^ (8 * d.widths.cep) - 1) (2 ^ (8 * d.widths.cep)) (less_one d.widths.cep widths.cep);
    }

fitting : (d : DifPlan) → has_unfit_pdu d ≡ false → (nat_lt (greatest_of d.widths.len) d.pdu ≡ false) × (4 + pci_size Piece d.widths < d.pdu) × (4 + pci_size Ack d.widths ≤ d.pdu)
unfolding has_unfit_pdu
fitting d h =
    let parts = all_false _ _ _ h in
    (parts.0, leb-false d.pdu (4 + pci_size Piece d.widths) parts.1, ltb-false d.pdu (4 + pci_size Ack d.widths) parts.2)

-- its numbers
pub is_config : (plan : Plan) (i : ℕ) (d : DifPlan) → IsPlan plan → slice_get plan.difs i ≡ Some d → IsConfig (config_of (settings_by plan i d))
is_config plan i d sound at =
    let ranged : IsRangedDif (length plan.nodes) (length plan.wires) (length plan.difs) d = all_at (IsRangedDif (length plan.nodes) (length plan.wires) (length plan.difs)) plan.difs i d sound.difs at in
    let widths = ranged.widths in
    let fit = fitting d (all_at (λ (z : DifPlan). has_unfit_pdu z ≡ false) plan.difs i d sound.pdus at) in
    let times : IsCube d.manage × All IsCube d.cubes = all_at (λ (z : DifPlan). IsCube z.manage × All IsCube z.cubes) plan.difs i d sound.times at in
    let cubes = times.1 in
    record { widths = widths; cubes = λ k cube is. all_at IsCube d.cubes k cube cubes is; long = most_fits d.widths.len d.pdu widths.len fit.0; piece = fit.1; ack = fit.2 }

-- its management connections

no_cube : (cubes : List Cube) → ((k : ℕ) (c : Cube) → slice_get cubes k ≡ Some c → 1 ≤ c.id) → cube_by 0 cubes ≡ None
no_cube [] least = refl
no_cube (c ∷ cs) least = elim (eqb_tells c.id 0) [
  | inl t ↦ (let low = least 0 c refl in let zero = t.1 in absurd (omega (arith, low, zero)))
  | inr u ↦ ap (λ (b : Bool). cond b (Some c) (cube_by 0 cs)) u.0 ∙ no_cube cs (λ k x is. least (suc k) x is)
]

pub can_manage : (plan : Plan) (i : ℕ) (d : DifPlan) → IsPlan plan → slice_get plan.difs i ≡ Some d → CanManage (config_of (settings_by plan i d)) d.manage
can_manage plan i d sound at =
    let ranged : IsRangedDif (length plan.nodes) (length plan.wires) (length plan.difs) d = all_at (IsRangedDif (length plan.nodes) (length plan.wires) (length plan.difs)) plan.difs i d sound.difs at in
    let times : IsCube d.manage × All IsCube d.cubes = all_at (λ (z : DifPlan). IsCube z.manage × All IsCube z.cubes) plan.difs i d sound.times at in
    let places : HasMembers d = all_at HasMembers plan.difs i d sound.places at in
    let only = no_cube d.cubes (λ k c is. (all_at IsFlowCube d.cubes k c ranged.cubes is).id) in
    let most = ranged.pdu in
    let apart : HasCubes d = all_at HasCubes plan.difs i d sound.ids at in
    record {
      managed = record {
        config = is_config plan i d sound at;
        cube = times.0;
        kind = ranged.manage.kind;
        id = ranged.manage.id;
        only = only;
        pdu = omega (arith, most);
      };
      apart = apart.ids;
      zero = record {
        members = λ j a is zero.
            let p = planned plan d (processes_before plan.difs i) d.members j a is in
            let least = (all_at (λ (m : MemberPlan). (1 ≤ m.addr) × (m.addr < 2 ^ (8 * d.widths.addr))) d.members j p.0 places.fit p.1).0 in
            let same = p.2 in
            omega (arith, least, same, zero);
        cubes = only;
      };
    }
