-- What is placed, and has room, can be bound one after the other.
use Rattle.std.proofs.Common.{◌≡◌, ◌≢◌, ℕ, ◌+◌, ◌≤◌, ◌==◌, ◌||◌, ◌∙◌, cond, Bool, true, false, List, [], ◌∷◌, ◌++◌, slice_get, Some, inl, inr, refl, sym, ap, subst, arith}
use Rattle.std.specs.Prelude.{count_by, slice_set}
use Rattle.std.proofs.lemmas.Bool.Decides.{eqb_tells}
use Rattle.std.proofs.lemmas.List.Sums.{sum_by-append}
use Rattle.std.proofs.lemmas.Option.{same_Some}
use Rattle.rina_base.specs.declared.number.FlowName.{FlowName}
use Rattle.rina_iface.specs.declared.ask.Fixed.{Fixed}
use Rattle.rina_iface.specs.declared.ends.End.{End}
use Rattle.rina_iface.specs.declared.state.PortState.TheVariants.{Allocated}
use Rattle.rina_iface.specs.declared.state.Role.TheVariants.{Asker, Far}
use Rattle.rina_iface.specs.Allocate.{new_end, next_port}
use Rattle.rina_iface.specs.Bind.{CanBind, bound}
use Rattle.rina_iface.specs.Ends.{drawn_at}
use Rattle.rina_iface.specs.Seen.{Fac, Offer, Seen, cube_in, is_member, with_fac}
use Rattle.rina_iface.proofs.Changed.{set_at, slice_get-set_other, slice_get-set_same}
use Rattle.rina_dif.specs.Laying.{CanBindAll}
use Rattle.rina_tower.specs.Rooms.{ArePlaced, BindsFit, HasRoom, IsPlaced, ends_there}

-- 1 where the end is at that node
abbrev one_at : ℕ → End → ℕ
one_at node e = cond (e.port.node == node) 1 0

abbrev one_there : ℕ → ℕ → Fixed → ℕ
one_there fac node x = cond (ends_there fac node x) 1 0

drawn_two : (node : ℕ) (es : List End) (x y : End) → drawn_at node (es ++ x ∷ y ∷ []) ≡ drawn_at node es + (one_at node x + one_at node y)
drawn_two node es x y = sum_by-append (one_at node) es (x ∷ y ∷ []) ∙ ap (λ k. drawn_at node es + k) (omega arith)

-- one flow more
one_more : (fac node : ℕ) (x : Fixed) (xs : List Fixed) → count_by (ends_there fac node) (x ∷ xs) ≡ one_there fac node x + count_by (ends_there fac node) xs
one_more fac node x xs =
    let split : count_by (ends_there fac node) (x ∷ xs) ≡ count_by (ends_there fac node) (x ∷ []) + count_by (ends_there fac node) xs = sum_by-append (one_there fac node) (x ∷ []) xs in
    let one : count_by (ends_there fac node) (x ∷ []) ≡ one_there fac node x = omega arith in
    omega (arith, split, one)

same_is : (n : ℕ) → (n == n) ≡ true
same_is n = elim (eqb_tells n n) [
  | inl t ↦ t.0
  | inr f ↦ absurd (f.1 refl)
]

-- a flow has an end at each of its nodes
at_a : (x : Fixed) → one_there x.fac x.a x ≡ 1
at_a x = rw (same_is x.fac, same_is x.a) refl

-- 1 where it holds
abbrev one_if : Bool → ℕ
one_if b = cond b 1 0

or_yes : (b : Bool) → one_if (b || true) ≡ one_if true
or_yes true = refl
or_yes false = refl

at_b : (x : Fixed) → one_there x.fac x.b x ≡ 1
at_b x = rw (same_is x.fac, same_is x.b) (or_yes (x.a == x.b))

-- and one end at a node that is one of them
one_each : (node a b : ℕ) → a ≢ b → cond (a == node) 1 0 + cond (b == node) 1 0 ≡ cond ((a == node) || (b == node)) 1 0
one_each node a b apart = elim (eqb_tells a node) [
  | inl t ↦ elim (eqb_tells b node) [
    | inl u ↦ absurd (apart (t.1 ∙ sym u.1))
    | inr f ↦ rw (t.0, f.0) refl
  ]
  | inr g ↦ rw g.0 (elim (b == node) as (λ v. cond false 1 0 + cond v 1 0 ≡ cond (false || v) 1 0) [ true ↦ refl | false ↦ refl ])
]

-- the facility of the flow, after it was bound
bound_room : (s : Seen) (x : Fixed) (xs : List Fixed) (flow : FlowName) (f : Fac) → slice_get s.facs x.fac ≡ Some f → x.a ≢ x.b → HasRoom s (x ∷ xs) → (node : ℕ) → drawn_at node (bound f x flow).ends + count_by (ends_there x.fac node) xs ≤ f.admits
bound_room s x xs flow f stands apart room node =
    let e : End = new_end flow Asker (next_port f x.fac x.a) x.a_app x.b_app x.cube Allocated in
    let o : End = new_end flow Far (next_port f x.fac x.b) x.b_app x.a_app x.cube Allocated in
    let two : drawn_at node (f.ends ++ e ∷ o ∷ []) ≡ drawn_at node f.ends + (one_at node e + one_at node o) = drawn_two node f.ends e o in
    let each : one_at node e + one_at node o ≡ cond ((x.a == node) || (x.b == node)) 1 0 = one_each node x.a x.b apart in
    let here : one_there x.fac node x ≡ cond ((x.a == node) || (x.b == node)) 1 0 = rw (same_is x.fac) refl in
    let was : drawn_at node f.ends + count_by (ends_there x.fac node) (x ∷ xs) ≤ f.admits = room x.fac node f stands in
    omega (arith, two, each, here, was, one_more x.fac node x xs)

-- another facility is as it was
room_after : (s : Seen) (x : Fixed) (xs : List Fixed) (flow : FlowName) (f : Fac) → slice_get s.facs x.fac ≡ Some f → x.a ≢ x.b → HasRoom s (x ∷ xs) → HasRoom (with_fac s x.fac (bound f x flow)) xs
room_after s x xs flow f stands apart room n node g there =
    elim (set_at s.facs x.fac n f (bound f x flow) g stands there) [
      | inl t ↦ let P : Fac → Type 0 = λ h. drawn_at node h.ends + count_by (ends_there n node) xs ≤ h.admits in
          subst P (sym t.1) (subst (λ (m : ℕ). drawn_at node (bound f x flow).ends + count_by (ends_there m node) xs ≤ f.admits) (sym t.0) (bound_room s x xs flow f stands apart room node))
      | inr u ↦ let was : drawn_at node g.ends + count_by (ends_there n node) (x ∷ xs) ≤ g.admits = room n node g u.1 in
          omega (arith, was, one_more n node x xs)
    ]

-- a facility that was there is there with its members and cubes
pub record IsThere (s' : Seen) (n : ℕ) (f : Fac) : Type 0 where
  pub facility : Fac
  pub stands : slice_get s'.facs n ≡ Some facility
  pub members : facility.members ≡ f.members
  pub cubes : facility.cubes ≡ f.cubes

there_after : (s : Seen) (x : Fixed) (flow : FlowName) (f : Fac) (n : ℕ) (g : Fac) → slice_get s.facs x.fac ≡ Some f → slice_get s.facs n ≡ Some g → IsThere (with_fac s x.fac (bound f x flow)) n g
there_after s x flow f n g stands there = elim (eqb_tells n x.fac) [
  | inl t ↦ let same : f ≡ g = same_Some f g (sym stands ∙ (ap (slice_get s.facs) (sym t.1) ∙ there)) in
      record { facility = bound f x flow; stands = ap (slice_get (slice_set s.facs x.fac (bound f x flow))) t.1 ∙ slice_get-set_same s.facs x.fac f (bound f x flow) stands; members = ap (λ (h : Fac). h.members) same; cubes = ap (λ (h : Fac). h.cubes) same }
  | inr u ↦ record { facility = g; stands = slice_get-set_other s.facs x.fac n (bound f x flow) u.1 ∙ there; members = refl; cubes = refl }
]

placed_after : (s : Seen) (x : Fixed) (flow : FlowName) (f : Fac) → slice_get s.facs x.fac ≡ Some f → (y : Fixed) → IsPlaced s y → IsPlaced (with_fac s x.fac (bound f x flow)) y
placed_after s x flow f stands y p =
    let t = there_after s x flow f y.fac p.facility stands p.stands in
    record {
      facility = t.facility;
      stands = t.stands;
      apart = p.apart;
      a_in = subst (λ (ms : List ℕ). is_member ms y.a ≡ true) (sym t.members) p.a_in;
      b_in = subst (λ (ms : List ℕ). is_member ms y.b ≡ true) (sym t.members) p.b_in;
      cube = p.cube;
      offer = subst (λ (cs : List Offer). cube_in cs y.cube ≡ Some p.cube) (sym t.cubes) p.offer;
    }

all_placed_after : (s : Seen) (x : Fixed) (flow : FlowName) (f : Fac) → slice_get s.facs x.fac ≡ Some f → (ys : List Fixed) → ArePlaced s ys → ArePlaced (with_fac s x.fac (bound f x flow)) ys
all_placed_after s x flow f stands [] ps = tt
all_placed_after s x flow f stands (y ∷ ys) ps = (placed_after s x flow f stands y ps.0, all_placed_after s x flow f stands ys ps.1)

can_bind : (s : Seen) (x : Fixed) (xs : List Fixed) → s.now ≡ 0 → IsPlaced s x → HasRoom s (x ∷ xs) → CanBind s x
can_bind s x xs zero p room =
    let a_was : drawn_at x.a p.facility.ends + count_by (ends_there x.fac x.a) (x ∷ xs) ≤ p.facility.admits = room x.fac x.a p.facility p.stands in
    let b_was : drawn_at x.b p.facility.ends + count_by (ends_there x.fac x.b) (x ∷ xs) ≤ p.facility.admits = room x.fac x.b p.facility p.stands in
    record {
      start = zero;
      facility = p.facility;
      stands = p.stands;
      apart = p.apart;
      a_in = p.a_in;
      b_in = p.b_in;
      cube = p.cube;
      offer = p.offer;
      a_room = omega (arith, a_was, at_a x, one_more x.fac x.a x xs);
      b_room = omega (arith, b_was, at_b x, one_more x.fac x.b x xs);
    }

pub binds_fit : BindsFit
binds_fit s [] zero ps room = tt
binds_fit s (x ∷ xs) zero ps room = (
  can_bind s x xs zero ps.0 room,
  λ a b s' bound_is.
      let P : Seen → Type 0 = λ t. CanBindAll t xs in
      subst P (sym bound_is.new_is) (binds_fit (with_fac s x.fac (bound bound_is.facility x bound_is.flow)) xs zero (all_placed_after s x bound_is.flow bound_is.facility bound_is.stands xs ps.1) (room_after s x xs bound_is.flow bound_is.facility bound_is.stands ps.0.apart room)),
)
