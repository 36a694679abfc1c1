-- What the exact clause of `bind` says of the facilities that the wires are.
use Rattle.std.proofs.Common.{◌≡◌, ◌≢◌, ℕ, ◌+◌, ◌<◌, true, false, [], ◌∷◌, Some, None, option_map, IsSome, IfSome, Result, Ok, Err, refl, sym, ap, ◌∙◌, subst, inl, inr, arith}
use Rattle.std.specs.Option.{option_map_or}
use Rattle.std.proofs.lemmas.Bool.Decides.{eqb_tells}
use Rattle.rina_base.specs.declared.number.Port.{Port}
use Rattle.rina_iface.specs.declared.ask.Fixed.{Fixed}
use Rattle.rina_iface.specs.declared.error.AllocateError.{AllocateError}
use Rattle.rina_iface.specs.declared.error.AllocateError.TheVariants.{Memory, NoMember, NoCube, NoSuchApp, SameSystem, NoIds, NoRoute, Busy, CountSpent}
use Rattle.rina_iface.specs.Bind.{Binds, CanBind, IsBound, bound}
use Rattle.rina_iface.specs.Ends.{drawn_at}
use Rattle.rina_iface.specs.Seen.{Fac, Offer, cube_in, is_member, with_fac}
use Rattle.rina_iface.proofs.Changed.{all_at}
use Rattle.rina_wire.specs.Air.{Air, Line, fac_of, offer_of, on_wire, seen_of, wire_at}
use Rattle.rina_wire.specs.Allocate.{flow_on, other_node}
use Rattle.rina_wire.specs.Bind.{BindsOn, bound_on}
use Rattle.rina_wire.specs.Sound.{IsSound, IsSoundLine}
use Rattle.rina_wire.proofs.Asked.{drawn_here}
use Rattle.rina_wire.proofs.Kept.{is_mapped}
use Rattle.rina_wire.proofs.Seen.{fac_at, seen_on_wire}

-- the wire that may be bound, with what is known of it
pub record MayBind (a : Air) (fixed : Fixed) : Type 0 where
  pub line : Line
  pub wire : wire_at a fixed.fac ≡ Some line
  pub sound : IsSoundLine line
  pub a_in : is_member (line.a ∷ line.b ∷ []) fixed.a ≡ true
  pub b_in : is_member (line.a ∷ line.b ∷ []) fixed.b ≡ true
  pub apart : fixed.a ≢ fixed.b
  pub cube : fixed.cube ≡ 0
  pub none : line.flows < 1

its_cube : (l : Line) (id : ℕ) (c : Offer) → cube_in (offer_of l ∷ []) id ≡ Some c → id ≡ 0
its_cube l id c h = elim (eqb_tells 0 id) [
  | inl t ↦ sym t.1
  | inr f ↦ let none : None ≡ Some c = rw f.0 at h in cc
]

pub may_bind : (a : Air) (fixed : Fixed) → IsSound a → CanBind (seen_of a) fixed → MayBind a fixed
may_bind a fixed s c =
    let w = is_mapped fac_of (wire_at a fixed.fac) c.facility (sym (fac_at a fixed.fac) ∙ c.stands) in
    let line : IsSoundLine w.0 = all_at IsSoundLine a.wires fixed.fac w.0 s.lines w.1 in
    let a_in : is_member (w.0.a ∷ w.0.b ∷ []) fixed.a ≡ true = subst (λ (f : Fac). is_member f.members fixed.a ≡ true) (sym w.2) c.a_in in
    let b_in : is_member (w.0.a ∷ w.0.b ∷ []) fixed.b ≡ true = subst (λ (f : Fac). is_member f.members fixed.b ≡ true) (sym w.2) c.b_in in
    let room : drawn_at fixed.a w.0.ends < 1 = subst (λ (f : Fac). drawn_at fixed.a f.ends < f.admits) (sym w.2) c.a_room in
    let offer : cube_in (offer_of w.0 ∷ []) fixed.cube ≡ Some c.cube = subst (λ (f : Fac). cube_in f.cubes fixed.cube ≡ Some c.cube) (sym w.2) c.offer in
    record {
      line = w.0;
      wire = w.1;
      sound = line;
      a_in = a_in;
      b_in = b_in;
      apart = c.apart;
      cube = its_cube w.0 fixed.cube c.cube offer;
      none = omega (arith, room, drawn_here w.0 fixed.a line a_in);
    }

pub has_wire : (a : Air) (fixed : Fixed) → IsSound a → CanBind (seen_of a) fixed → IsSome (wire_at a fixed.fac)
has_wire a fixed s c = let m = may_bind a fixed s c in rw m.wire refl

pub has_room : (a : Air) (fixed : Fixed) → IsSound a → CanBind (seen_of a) fixed → IfSome (wire_at a fixed.fac) (λ (l : Line). l.flows < 4294967295)
has_room a fixed s c = let m = may_bind a fixed s c in let none = m.none in rw m.wire (omega (arith, none))

-- the other node of the two
pub other_is : (l : Line) (m n : ℕ) → is_member (l.a ∷ l.b ∷ []) m ≡ true → is_member (l.a ∷ l.b ∷ []) n ≡ true → m ≢ n → other_node l m ≡ n
other_is l m n hm hn ne = elim (eqb_tells m l.a) [
  | inl t ↦ rw t.0 (elim (eqb_tells l.a n) [
    | inl u ↦ absurd (ne (t.1 ∙ u.1))
    | inr u ↦ elim (eqb_tells l.b n) [ inl v ↦ v.1 | inr v ↦ let clash : false ≡ true = rw (u.0, v.0) at hn in cc ]
  ])
  | inr f ↦ rw f.0 (elim (eqb_tells l.a n) [
    | inl u ↦ u.1
    | inr u ↦ elim (eqb_tells l.b n) [
      | inl v ↦ elim (eqb_tells l.a m) [
        | inl x ↦ absurd (f.1 (sym x.1))
        | inr x ↦ elim (eqb_tells l.b m) [ inl y ↦ absurd (ne (sym y.1 ∙ v.1)) | inr y ↦ let clash : false ≡ true = rw (x.0, y.0) at hm in cc ]
      ]
      | inr v ↦ let clash : false ≡ true = rw (u.0, v.0) at hn in cc
    ]
  ])
]

fac_bound : (now : ℕ) (fixed : Fixed) (l : Line) → drawn_at fixed.a l.ends ≡ l.flows → drawn_at fixed.b l.ends ≡ l.flows → fixed.cube ≡ 0 → fac_of (bound_on now fixed l) ≡ bound (fac_of l) fixed (flow_on l now fixed.a)
fac_bound now fixed l da db cube = rw (da, db, cube) refl

binds_at : (a : Air) (fixed : Fixed) (a_port b_port : Port) → (m : MayBind a fixed) → a_port ≡ record { fac = fixed.fac; node = fixed.a; n = option_map_or (λ (l : Line). l.flows) (wire_at a fixed.fac) 0 + 1 } → b_port ≡ record { fac = fixed.fac; node = fixed.b; n = option_map_or (λ (l : Line). l.flows) (wire_at a fixed.fac) 0 + 1 } → IsBound (seen_of a) fixed a_port b_port (seen_of (on_wire a fixed.fac (bound_on a.now fixed)))
binds_at a fixed a_port b_port m a_is b_is =
    let l = m.line in
    let da : drawn_at fixed.a l.ends ≡ l.flows = drawn_here l fixed.a m.sound m.a_in in
    let db : drawn_at fixed.b l.ends ≡ l.flows = drawn_here l fixed.b m.sound m.b_in in
    let n : option_map_or (λ (k : Line). k.flows) (wire_at a fixed.fac) 0 ≡ l.flows = rw m.wire refl in
    record {
      facility = fac_of l;
      stands = fac_at a fixed.fac ∙ ap (option_map fac_of) m.wire;
      a_fresh = a_is ∙ ap (λ (k : ℕ). record { fac = fixed.fac; node = fixed.a; n = k + 1 }) (n ∙ sym da);
      b_fresh = b_is ∙ ap (λ (k : ℕ). record { fac = fixed.fac; node = fixed.b; n = k + 1 }) (n ∙ sym db);
      flow = flow_on l a.now fixed.a;
      at = refl;
      new_is = seen_on_wire a fixed.fac (bound_on a.now fixed) l m.wire ∙ ap (λ (f : Fac). with_fac (seen_of a) fixed.fac f) (fac_bound a.now fixed l da db m.cube);
    }

pub seen_binds : (a : Air) (fixed : Fixed) (r : Result (Port × Port) AllocateError) (a' : Air) → IsSound a → CanBind (seen_of a) fixed → BindsOn a fixed r a' → Binds (seen_of a) fixed r (seen_of a')
seen_binds a fixed (Ok ports) a' s c g = rw g.air (binds_at a fixed ports.0 ports.1 (may_bind a fixed s c) g.a_is g.b_is)
seen_binds a fixed (Err Memory) a' s c g = ap seen_of g
seen_binds a fixed (Err NoMember) a' s c g = g
seen_binds a fixed (Err NoCube) a' s c g = g
seen_binds a fixed (Err NoSuchApp) a' s c g = g
seen_binds a fixed (Err SameSystem) a' s c g = g
seen_binds a fixed (Err (NoIds used)) a' s c g = g
seen_binds a fixed (Err (NoRoute dst)) a' s c g = g
seen_binds a fixed (Err (Busy port)) a' s c g = g
seen_binds a fixed (Err (CountSpent n k)) a' s c g = g
