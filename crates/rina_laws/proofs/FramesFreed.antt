-- Which frames a management connection takes away that gives up.
use Rattle.std.proofs.Common.{◌≡◌, ℕ, List, [], slice_get, slice_set, Option, option_and_then, option_map, Some, None, refl, sym, ◌∙◌, ap, subst, inl, inr}
use Rattle.std.proofs.lemmas.Option.{same_Some}
use Rattle.rina_base.specs.declared.number.Port.{Port}
use Rattle.rina_iface.specs.declared.ends.End.{End}
use Rattle.rina_iface.specs.declared.state.PortState.TheVariants.{Allocated, Closed}
use Rattle.rina_iface.specs.Ends.{place_in}
use Rattle.rina_iface.specs.Journal.{At}
use Rattle.rina_iface.specs.Seen.{state_of}
use Rattle.rina_iface.specs.State.{with_state}
use Rattle.rina_iface.proofs.Changed.{set_at, slice_get-set_other, slice_get-set_same}
use Rattle.rina_tower.specs.declared.tower.Tower.{Tower}
use Rattle.rina_tower.specs.Ranks.{seen_of}
use Rattle.rina_wire.specs.Air.{Air, Line, end_at, on_end, put, put_at, put_end, seen_of as seen_of_wires, wire_at}
use Rattle.rina_wire.specs.Free.{closed_at, closed_both, closed_in, freed_at}
use Rattle.rina_wire.specs.Send.{mate}
use Rattle.rina_wire.proofs.Carried.{IsOn, end_is, has_line}
use Rattle.rina_laws.specs.Frames.{AreAsked, GiveUpsEmptyOneWire, IsEmptied, wires_of}
use Rattle.rina_laws.proofs.WiresAsked.{WasLine, asked_end, asked_was}
use Rattle.rina_laws.proofs.WiresOf.{wires_rank}

-- an end that had sent and got the same
abbrev WasThere : List End → ℕ → End → Type 0
WasThere ends i new = (was : End) × At ends i was × (new.sent ≡ was.sent) × (new.got ≡ was.got)

closed_in_was : (ends : List End) (place : ℕ) (o : Option End) → slice_get ends place ≡ o → (i : ℕ) (new : End) → At (closed_in ends place o) i new → WasThere ends i new
closed_in_was ends place None is i new h = (new, h, refl, refl)
closed_in_was ends place (Some e) is i new h = elim (set_at ends place i e (with_state e Closed) new is h) [
  | inl t ↦ (e, subst (λ (k : ℕ). At ends k e) (sym t.0) is, ap (λ (z : End). z.sent) t.1, ap (λ (z : End). z.got) t.1)
  | inr f ↦ (new, f.1, refl, refl)
]

closed_was : (ends : List End) (place i : ℕ) (new : End) → At (closed_both ends place) i new → WasThere ends i new
closed_was ends place i new h =
    let once = closed_at ends place in
    let first = closed_in_was once (mate place) (slice_get once (mate place)) refl i new h in
    let second = closed_in_was ends place (slice_get ends place) refl i first.0 first.1 in
    (second.0, second.1, first.2 ∙ second.2, first.3 ∙ second.3)

-- an allocated port has an end
open_end : (o : Option End) → option_map (λ (e : End). e.state) o ≡ Some Allocated → (e : End) × (o ≡ Some e) × (e.state ≡ Allocated)
open_end None h = cc
open_end (Some e) h = (e, refl, same_Some e.state Allocated h)

-- the wires once the flow of an allocated end was freed
emptied : (a : Air) (port : Port) (line : Line) (place : ℕ) (e : End) → wire_at a port.fac ≡ Some line → place_in port line.ends ≡ Some place → slice_get line.ends place ≡ Some e → e.state ≡ Allocated
    → (on_end a port freed_at).wires ≡ slice_set a.wires port.fac (record line { ends = closed_both line.ends place; flights = [] })
emptied a port line place e wire found is state =
    let after : Line = record line { ends = closed_both line.ends place; flights = [] } in
    let done : freed_at line place e ≡ after = rw state refl in
    let there : put_end freed_at line (place_in port line.ends) ≡ after = ap (put_end freed_at line) found ∙ ap (put_at freed_at line place) is ∙ done in
    ap (λ (o : Option Line). put a.wires port.fac (option_map (λ (l : Line). put_end freed_at l (place_in port l.ends)) o)) wire ∙ ap (λ (l : Line). slice_set a.wires port.fac l) there

-- so of the wire of the port, where the wires were asked before
emptied_one : (fac : ℕ) (a b a' : Air) (port : Port) (e : End) → port.fac ≡ fac → (asks : AreAsked a b) (on : IsOn b port e) → e.state ≡ Allocated → a' ≡ on_end b port freed_at → WasLine a port.fac on.line → IsEmptied fac a a'
emptied_one fac a b a' port e same asks on state air was =
    let after : Line = record on.line { ends = closed_both on.line.ends on.at.place; flights = [] } in
    let wires : a'.wires ≡ slice_set b.wires port.fac after = ap (λ (z : Air). z.wires) air ∙ emptied b port on.line on.at.place e on.wire on.at.found on.at.is state in
    let is : slice_get a'.wires port.fac ≡ Some after = ap (λ (ls : List Line). slice_get ls port.fac) wires ∙ slice_get-set_same b.wires port.fac on.line after on.wire in
    record {
      before = was.line;
      was = subst (λ (n : ℕ). slice_get a.wires n ≡ Some was.line) same was.wire;
      after = after;
      is = subst (λ (n : ℕ). slice_get a'.wires n ≡ Some after) same is;
      none = refl;
      ends = λ i x x' h h'.
          let w = closed_was on.line.ends on.at.place i x' h' in
          let there : At was.line.ends i w.0 = subst (λ (es : List End). At es i w.0) was.ends w.1 in
          let one : w.0 ≡ x = same_Some w.0 x (sym there ∙ h) in
          (w.2 ∙ ap (λ (z : End). z.sent) one, w.3 ∙ ap (λ (z : End). z.got) one);
      asked = b;
      asks = asks;
      others = λ other ne. ap (λ (ls : List Line). slice_get ls other) wires ∙ slice_get-set_other b.wires port.fac other after (λ at. ne (at ∙ same));
    }

pub give_ups_empty : GiveUpsEmptyOneWire
give_ups_empty fac frame t t' g =
    let a : Air = wires_of t in
    let state : state_of (seen_of_wires a) g.port ≡ Some Allocated = sym (ap (option_and_then (λ (v : Tower). state_of (seen_of v) g.port)) (wires_rank t)) ∙ g.allocated in
    let opened = open_end (end_at a g.port) (sym (ap (option_map (λ (e : End). e.state)) (end_is a g.port)) ∙ state) in
    let on = has_line g.asked g.port opened.0 (asked_end a g.asked g.asks g.port ∙ opened.1) in
    emptied_one fac a g.asked (wires_of t') g.port opened.0 g.its_wire g.asks on opened.2 g.frees.air (asked_was a g.asked g.asks g.port.fac on.line on.wire)
