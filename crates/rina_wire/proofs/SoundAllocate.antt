-- Wires stay sound where a flow is asked for.
use Rattle.std.proofs.Common.{◌≡◌, ℕ, ◌+◌, ◌==◌, cond, Bool, true, length, length-append, List, [], ◌∷◌, ◌++◌, Some, None, Option, option_map, Result, Ok, Err, refl, sym, ap, ◌∙◌, arith, subst}
use Rattle.std.proofs.lemmas.List.Elements.{All-append, All-cons, All-nil, All-weaker}
use Rattle.rina_base.specs.declared.number.Port.{Port}
use Rattle.rina_iface.specs.declared.ask.Ask.{Ask}
use Rattle.rina_iface.specs.declared.ends.End.{End}
use Rattle.rina_iface.specs.Ends.{drawn_at}
use Rattle.rina_wire.specs.Air.{Air, Line, wire_at}
use Rattle.rina_wire.specs.Allocate.{AllocatesOn, flow_made}
use Rattle.rina_wire.specs.Sound.{IsSound, IsSoundLine}
use Rattle.std.proofs.lemmas.List.Sums.{sum_by-append}
use Rattle.rina_iface.specs.declared.state.PortState.TheVariants.{Allocated}
use Rattle.rina_iface.specs.Allocate.{asker_end, far_end}
use Rattle.rina_wire.specs.Allocate.{flow_on, port_on}
use Rattle.rina_wire.proofs.Sound.{C, one_at, sound_failed, sound_on_wire}
use Rattle.rina_iface.specs.declared.error.AllocateError.{AllocateError}
use Rattle.rina_iface.specs.declared.error.AllocateError.TheVariants.{Memory, NoMember, NoCube, NoSuchApp, SameSystem, NoIds, NoRoute, Busy, CountSpent}
use Rattle.rina_iface.specs.Seen.{is_member}
use Rattle.rina_iface.specs.Allocate.{refused_in}
use Rattle.rina_wire.specs.Air.{fac_of}
use Rattle.rina_wire.specs.Allocate.{other_node, own_allocate_refusal}
use Rattle.rina_wire.specs.Sound.{IsFarPlace, KeepsFlows, site_of}
use Rattle.rina_wire.proofs.Copies.{copies_more}
use Rattle.rina_wire.proofs.FlowMade.{ends_two, pair_made}
use Rattle.rina_wire.proofs.Asked.{IsFree, free_of}
use Rattle.std.proofs.Common.{◌≢◌, inl, inr}
use Rattle.std.proofs.lemmas.Bool.Decides.{eqb_tells}

drawn_two : (node : ℕ) (es : List End) (x y : End) → drawn_at node (es ++ x ∷ y ∷ []) ≡ drawn_at node es + (one_at node x + one_at node y)
drawn_two node es x y = sum_by-append (one_at node) es (x ∷ y ∷ []) ∙ ap (λ k. drawn_at node es + k) (omega arith)

-- of two ends at the two nodes of a wire one is at each
one_each : (node a b : ℕ) (x y : End) → a ≢ b → is_member (a ∷ b ∷ []) node ≡ true → x.port.node ≡ node → y.port.node ≡ cond (node == a) b a → (one_at a x + one_at a y ≡ 1) × (one_at b x + one_at b y ≡ 1)
one_each node a b x y ne m xn yn = rw (xn, yn) (elim (eqb_tells node a) [
  | inl t ↦ rw (t.0, t.1) (grind (arith, ne))
  | inr f ↦ rw f.0 (grind (arith, ne, m, f.1))
])

pub flow_stays : (l : Line) (now : ℕ) (ask : Ask) → IsSoundLine l → is_member (l.a ∷ l.b ∷ []) ask.node ≡ true → IsSoundLine (flow_made now ask l)
flow_stays l now ask s m =
    let flow = flow_on l now ask.node in
    let x = asker_end flow (port_on l ask.fac ask.node) ask 0 Allocated in
    let y = far_end flow (port_on l ask.fac (other_node l ask.node)) ask 0 in
    let one = one_each ask.node l.a l.b x y s.apart m refl refl in
    record {
      apart = s.apart;
      least_delay = s.least_delay;
      arrives = s.arrives;
      life = s.life;
      largest = s.largest;
      storm = s.storm;
      draws = s.draws;
      cubes = All-append C l.ends (x ∷ y ∷ []) s.cubes (All-cons C x (y ∷ []) refl (All-cons C y [] refl (All-nil C)));
      drawn_a = drawn_two l.a l.ends x y ∙ omega (arith, one.0, s.drawn_a);
      drawn_b = drawn_two l.b l.ends x y ∙ omega (arith, one.1, s.drawn_b);
    }

-- the wire keeps its flows, and one more
pub flow_kept : (now : ℕ) (failed : Bool) (l : Line) (ask : Ask) → IsSoundLine l → is_member (l.a ∷ l.b ∷ []) ask.node ≡ true → KeepsFlows now failed ask.fac l → KeepsFlows now failed ask.fac (flow_made now ask l)
flow_kept now failed l ask line member k =
    let flow = flow_on l now ask.node in
    let x = asker_end flow (port_on l ask.fac ask.node) ask 0 Allocated in
    let y = far_end flow (port_on l ask.fac (other_node l ask.node)) ask 0 in
    let size = length-append l.ends (x ∷ y ∷ []) in
    let Far : ℕ → Type 0 = IsFarPlace (length (l.ends ++ x ∷ y ∷ [])) in
    record {
      pairs = omega (arith, size, k.pairs);
      sound = ends_two (site_of ask.fac l) now l.frames l.flows l.ends x y k.pairs k.sound (pair_made (site_of ask.fac l) now l.frames ask.fac l ask refl refl line.apart k.pairs member);
      waiting = All-append Far l.waiting ((length l.ends + 1) ∷ []) (All-weaker (IsFarPlace (length l.ends)) Far (λ n w. (w.0, omega (arith, w.1, size))) l.waiting k.waiting) (All-cons Far (length l.ends + 1) [] (omega (arith, k.pairs), omega (arith, size)) (All-nil Far));
      copies = λ alive. copies_more l.life now l.ends (x ∷ y ∷ []) l.flights (k.copies alive);
    }

flow_at : (ask : Ask) (own : Option AllocateError) (l : Line) (o : Option Line) → o ≡ Some l → refused_in (option_map fac_of o) ask own ≡ None → IsFree l ask
flow_at ask own l o h free = free_of l ask own (rw h at free)

pub sound_allocates : (a : Air) (ask : Ask) (r : Result Port AllocateError) (a' : Air) → IsSound a → AllocatesOn a ask r a' → IsSound a'
sound_allocates a ask (Ok port) a' s g = subst IsSound (sym g.goes.air) (sound_on_wire a ask.fac (flow_made a.now ask) s (λ l h k. flow_stays l a.now ask k (flow_at ask (own_allocate_refusal a ask) l (wire_at a ask.fac) h g.goes.refused).member) (λ l h line k. flow_kept a.now a.failed l ask line (flow_at ask (own_allocate_refusal a ask) l (wire_at a ask.fac) h g.goes.refused).member k))
sound_allocates a ask (Err Memory) a' s g = subst IsSound (sym g) (sound_failed a s)
sound_allocates a ask (Err NoMember) a' s g = subst IsSound (sym g.air) s
sound_allocates a ask (Err NoCube) a' s g = subst IsSound (sym g.air) s
sound_allocates a ask (Err NoSuchApp) a' s g = subst IsSound (sym g.air) s
sound_allocates a ask (Err SameSystem) a' s g = subst IsSound (sym g.air) s
sound_allocates a ask (Err (NoIds used)) a' s g = subst IsSound (sym g.air) s
sound_allocates a ask (Err (NoRoute dst)) a' s g = subst IsSound (sym g.air) s
sound_allocates a ask (Err (Busy port)) a' s g = subst IsSound (sym g.air) s
sound_allocates a ask (Err (CountSpent n k)) a' s g = subst IsSound (sym g.air) s
