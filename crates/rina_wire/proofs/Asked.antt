-- What the exact clause of `allocate` says of the facilities that the wires are.
use Rattle.std.proofs.Common.{◌≡◌, ℕ, ◌+◌, ◌==◌, cond, true, false, [], ◌∷◌, Some, None, Option, option_map, Result, Ok, Err, refl, sym, ap, ◌∙◌, subst, inl, inr}
use Rattle.std.specs.Option.{option_map_or}
use Rattle.std.proofs.lemmas.Bool.Decides.{eqb_tells}
use Rattle.std.proofs.lemmas.Option.{none-some}
use Rattle.rina_base.specs.declared.number.Port.{Port}
use Rattle.rina_iface.specs.declared.ask.Ask.{Ask}
use Rattle.rina_iface.specs.declared.error.AllocateError.{AllocateError}
use Rattle.rina_iface.specs.declared.error.AllocateError.TheVariants.{Memory, NoMember, NoCube, NoSuchApp, SameSystem, NoIds, NoRoute, Busy, CountSpent}
use Rattle.rina_iface.specs.declared.state.PortState.TheVariants.{Allocated}
use Rattle.rina_iface.specs.Ends.{drawn_at}
use Rattle.rina_iface.specs.Seen.{is_member, meets, offered}
use Rattle.rina_iface.specs.Allocate.{Allocates, IsAsked, Makes, next_port, refused, refused_in, unless_offered}
use Rattle.rina_wire.specs.Air.{Air, Line, fac_of, offer_of, seen_of, wire_at}
use Rattle.rina_wire.specs.Allocate.{AllocatesOn, allocate_refusal, allocated, own_allocate_refusal, flow_made, flow_on, other_node, port_on}
use Rattle.rina_wire.specs.Sound.{IsSound, IsSoundLine}
use Rattle.rina_iface.proofs.Changed.{all_at}
use Rattle.rina_wire.proofs.Seen.{fac_at, seen_on_wire}

-- at either node as many ports were drawn as flows were asked for
drawn_other : (l : Line) (node : ℕ) → IsSoundLine l → drawn_at (other_node l node) l.ends ≡ l.flows
drawn_other l node s = elim (node == l.a) as (λ b. drawn_at (cond b l.b l.a) l.ends ≡ l.flows) [ true ↦ s.drawn_b | false ↦ s.drawn_a ]

pub drawn_here : (l : Line) (node : ℕ) → IsSoundLine l → is_member (l.a ∷ l.b ∷ []) node ≡ true → drawn_at node l.ends ≡ l.flows
drawn_here l node s m = elim (eqb_tells l.a node) [
  | inl t ↦ subst (λ (n : ℕ). drawn_at n l.ends ≡ l.flows) t.1 s.drawn_a
  | inr f ↦ elim (eqb_tells l.b node) [
    | inl t ↦ subst (λ (n : ℕ). drawn_at n l.ends ≡ l.flows) t.1 s.drawn_b
    | inr g ↦ cc
  ]
]

-- what was not refused has a member and a cube
pub record IsFree (l : Line) (ask : Ask) : Type 0 where
  pub member : is_member (l.a ∷ l.b ∷ []) ask.node ≡ true
  pub offer : offered (offer_of l ∷ []) ask.want ≡ Some (offer_of l)

free_offer : (l : Line) (ask : Ask) (own : Option AllocateError) → is_member (l.a ∷ l.b ∷ []) ask.node ≡ true → unless_offered (offered (offer_of l ∷ []) ask.want) own ≡ None → IsFree l ask
free_offer l ask own m h = elim (meets ask.want (offer_of l)) as (λ b. meets ask.want (offer_of l) ≡ b → unless_offered (cond b (Some (offer_of l)) None) own ≡ None → IsFree l ask) [
  | true ↦ λ is g. record { member = m; offer = rw is refl }
  | false ↦ λ is g. absurd (none-some NoCube (sym g))
] refl h

pub free_of : (l : Line) (ask : Ask) (own : Option AllocateError) → refused_in (Some (fac_of l)) ask own ≡ None → IsFree l ask
free_of l ask own h = elim (is_member (l.a ∷ l.b ∷ []) ask.node) as (λ b. is_member (l.a ∷ l.b ∷ []) ask.node ≡ b → cond b (unless_offered (offered (offer_of l ∷ []) ask.want) own) (Some NoMember) ≡ None → IsFree l ask) [
  | true ↦ λ is g. free_offer l ask own is g
  | false ↦ λ is g. absurd (none-some NoMember (sym g))
] refl h

-- a port's number counts the ports that were drawn at its node
ports : (l : Line) (fac node : ℕ) → drawn_at node l.ends ≡ l.flows → port_on l fac node ≡ next_port (fac_of l) fac node
ports l fac node d = ap (λ k. record { fac = fac; node = node; n = k + 1 }) (sym d)

makes : (l : Line) (now : ℕ) (ask : Ask) → IsSoundLine l → Makes Allocated (fac_of l) (flow_on l now ask.node) (port_on l ask.fac ask.node) ask 0 (fac_of (flow_made now ask l))
makes l now ask s = (other_node l ask.node, rw (← ports l ask.fac (other_node l ask.node) (drawn_other l ask.node s)) refl)

asked_at : (a : Air) (ask : Ask) (port : Port) (own : Option AllocateError) (o : Option Line) → wire_at a ask.fac ≡ o → IsSound a → refused_in (option_map fac_of o) ask own ≡ None → port ≡ record { fac = ask.fac; node = ask.node; n = option_map_or (λ (l : Line). l.flows) o 0 + 1 } → IsAsked (seen_of a) ask port (seen_of (allocated a ask))
asked_at a ask port own None h s free p = absurd (none-some NoMember (sym free))
asked_at a ask port own (Some l) h s free p =
    let sound : IsSoundLine l = all_at IsSoundLine a.wires ask.fac l s.lines h in
    let is = free_of l ask own free in
    let number : port ≡ port_on l ask.fac ask.node = p in
    record {
      facility = fac_of l;
      stands = fac_at a ask.fac ∙ ap (option_map fac_of) h;
      cube = offer_of l;
      offer = is.offer;
      by_id = refl;
      fresh = p ∙ ports l ask.fac ask.node (drawn_here l ask.node sound is.member);
      flow = flow_on l a.now ask.node;
      at = refl;
      state = Allocated;
      facility' = fac_of (flow_made a.now ask l);
      makes = rw number (makes l a.now ask sound);
      new_is = seen_on_wire a ask.fac (flow_made a.now ask) l h;
    }

refused_is : (a : Air) (ask : Ask) → refused (seen_of a) ask (own_allocate_refusal a ask) ≡ allocate_refusal a ask
refused_is a ask = ap (λ o. refused_in o ask (own_allocate_refusal a ask)) (fac_at a ask.fac)

pub seen_allocates : (a : Air) (ask : Ask) (r : Result Port AllocateError) (a' : Air) → IsSound a → AllocatesOn a ask r a' → Allocates (own_allocate_refusal a ask) (seen_of a) ask r (seen_of a')
seen_allocates a ask (Ok port) a' s g = (refused_is a ask ∙ g.goes.refused, rw g.goes.air (asked_at a ask port (own_allocate_refusal a ask) (wire_at a ask.fac) refl s g.goes.refused g.answers))
seen_allocates a ask (Err Memory) a' s g = ap seen_of g
seen_allocates a ask (Err NoMember) a' s g = (refused_is a ask ∙ g.refused, ap seen_of g.air)
seen_allocates a ask (Err NoCube) a' s g = (refused_is a ask ∙ g.refused, ap seen_of g.air)
seen_allocates a ask (Err NoSuchApp) a' s g = (refused_is a ask ∙ g.refused, ap seen_of g.air)
seen_allocates a ask (Err SameSystem) a' s g = (refused_is a ask ∙ g.refused, ap seen_of g.air)
seen_allocates a ask (Err (NoIds used)) a' s g = (refused_is a ask ∙ g.refused, ap seen_of g.air)
seen_allocates a ask (Err (NoRoute dst)) a' s g = (refused_is a ask ∙ g.refused, ap seen_of g.air)
seen_allocates a ask (Err (Busy port)) a' s g = (refused_is a ask ∙ g.refused, ap seen_of g.air)
seen_allocates a ask (Err (CountSpent n k)) a' s g = (refused_is a ask ∙ g.refused, ap seen_of g.air)
