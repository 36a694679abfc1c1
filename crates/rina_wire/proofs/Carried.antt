-- What the exact clauses of `send` and `pass` say of the facilities that the wires are.
use Rattle.std.proofs.Common.{◌≡◌, ℕ, List, length, slice_get, Some, None, Option, option_and_then, option_map, Result, Ok, Err, IsSome, refl, sym, ap, ◌∙◌, rules}
use Rattle.std.specs.Option.{option_map_or}
use Rattle.std.proofs.lemmas.Option.{none-some}
use Rattle.rina_base.specs.declared.number.Num.{Num}
use Rattle.rina_base.specs.declared.number.Port.{Port}
use Rattle.rina_iface.specs.declared.ends.End.{End}
use Rattle.rina_iface.specs.declared.error.SendError.{SendError}
use Rattle.rina_iface.specs.declared.error.SendError.TheVariants.{Memory, NotAllocated, TooLong, WindowShut, NoRoute, QueueFull, NumbersSpent, Failed as HasFailed}
use Rattle.rina_iface.specs.declared.state.PortState.{PortState}
use Rattle.rina_iface.specs.declared.state.PortState.TheVariants.{Pending, Allocated, Refused, Failed, Closed}
use Rattle.rina_iface.specs.Ends.{end_in, place_in}
use Rattle.rina_iface.specs.Seen.{Fac, Stands, end_of, largest_at, unpassed, with_fac}
use Rattle.rina_iface.specs.Send.{IsSent, Sends, by_length, by_state, refused}
use Rattle.rina_iface.specs.Pass.{IsPassed}
use Rattle.rina_wire.specs.Air.{Air, Line, end_at, fac_of, on_end, put_end, seen_of, wire_at}
use Rattle.rina_wire.specs.Send.{SendsOn, frame_number, frame_sent, own_send_refusal, passed, passed_at, send_refusal, sent_from, unpassed_at}
use Rattle.rina_wire.specs.Sound.{IsSound, IsSoundLine}
use Rattle.rina_iface.proofs.Changed.{IsAt, all_at, end_has_place}
use Rattle.rina_wire.proofs.Seen.{fac_at, seen_on_wire}

over : {X : Type 0} (f : Fac → Option X) (o : Option Line) → option_and_then f (option_map fac_of o) ≡ option_and_then (λ (l : Line). f (fac_of l)) o
over f None = refl
over f (Some l) = refl

-- the end of a port is that on its wire
pub end_is : (a : Air) (port : Port) → end_of (seen_of a) port ≡ end_at a port
end_is a port = ap (λ o. option_and_then (λ (f : Fac). end_in port f.ends) o) (fac_at a port.fac) ∙ over (λ (f : Fac). end_in port f.ends) (wire_at a port.fac)

-- an end of a wire and its place
pub record IsOn (a : Air) (port : Port) (e : End) : Type 0 where
  pub line : Line
  pub wire : wire_at a port.fac ≡ Some line
  pub at : IsAt port line.ends e

on_line : (a : Air) (port : Port) (e : End) (o : Option Line) → wire_at a port.fac ≡ o → option_and_then (λ (l : Line). end_in port l.ends) o ≡ Some e → IsOn a port e
on_line a port e None h is = cc
on_line a port e (Some l) h is = record { line = l; wire = h; at = end_has_place port l.ends e is }

pub has_line : (a : Air) (port : Port) (e : End) → end_at a port ≡ Some e → IsOn a port e
has_line a port e h = on_line a port e (wire_at a port.fac) refl h

-- where the end is known, so is its place
pub stands : (a : Air) (port : Port) (e : End) (on : IsOn a port e) → Stands (seen_of a) port (fac_of on.line) on.at.place e
stands a port e on = record {
  facility = fac_at a port.fac ∙ ap (option_map fac_of) on.wire;
  place = on.at.found;
  is = on.at.is;
}

-- a change of the end of a port, seen
pub seen_on_end : (a : Air) (port : Port) (change : Line → ℕ → End → Line) (e : End) (on : IsOn a port e) → seen_of (on_end a port change) ≡ with_fac (seen_of a) port.fac (fac_of (change on.line on.at.place e))
seen_on_end a port change e on =
    let changed : put_end change on.line (place_in port on.line.ends) ≡ change on.line on.at.place e = rw (on.at.found, on.at.is) refl in
    seen_on_wire a port.fac (λ (l : Line). put_end change l (place_in port l.ends)) on.line on.wire ∙ ap (λ (l : Line). with_fac (seen_of a) port.fac (fac_of l)) changed

-- only an allocated port is not refused
allocated_by : (state : PortState) (rest : Option SendError) → by_state (Some state) rest ≡ None → state ≡ Allocated
allocated_by Pending rest h = absurd (none-some (NotAllocated (Some Pending)) (sym h))
allocated_by Allocated rest h = refl
allocated_by (Refused why) rest h = absurd (none-some (NotAllocated (Some (Refused why))) (sym h))
allocated_by (Failed fail) rest h = absurd (none-some (HasFailed fail) (sym h))
allocated_by Closed rest h = absurd (none-some (NotAllocated (Some Closed)) (sym h))

-- what was not refused is allocated
pub open_at : (a : Air) (port : Port) (len : ℕ) (e : End) → end_at a port ≡ Some e → send_refusal a port len ≡ None → e.state ≡ Allocated
open_at a port len e h free = allocated_by e.state _ (rw h at free)

-- the largest SDU is that of the wire
largest_is : (a : Air) (port : Port) (e : End) (on : IsOn a port e) → IsSound a → largest_at (seen_of a) port ≡ Some on.line.largest
largest_is a port e on s =
    let line : IsSoundLine on.line = all_at IsSoundLine a.wires port.fac on.line s.lines on.wire in
    let cube : e.cube ≡ 0 = all_at (λ (x : End). x.cube ≡ 0) on.line.ends on.at.place e line.cubes on.at.is in
    rw (fac_at a port.fac, on.wire, on.at.found, on.at.is, cube) refl

refused_end : (a : Air) (port : Port) (len : ℕ) (o : Option End) → end_at a port ≡ o → IsSound a → refused (seen_of a) port len (own_send_refusal a port) ≡ send_refusal a port len
refused_end a port len None h s = rw (end_is a port, h) refl
refused_end a port len (Some e) h s =
    let on = has_line a port e h in
    rw (end_is a port, h, largest_is a port e on s, on.wire) refl

refused_is : (a : Air) (port : Port) (len : ℕ) → IsSound a → refused (seen_of a) port len (own_send_refusal a port) ≡ send_refusal a port len
refused_is a port len s = refused_end a port len (end_at a port) refl s

sends_end : (a : Air) (port : Port) (bytes : List ℕ) (num : Num) (o : Option End) → end_at a port ≡ o → by_state (option_map (λ (e : End). e.state) o) (by_length (length bytes) (option_map (λ (l : Line). l.largest) (wire_at a port.fac)) (own_send_refusal a port)) ≡ None → num ≡ frame_number (option_map_or (λ (l : Line). l.frames) (wire_at a port.fac) 0) → IsSent (seen_of a) port bytes num (seen_of (frame_sent a port bytes))
sends_end a port bytes num None h free n = absurd (none-some (NotAllocated None) (sym free))
sends_end a port bytes num (Some e) h free n =
    let on = has_line a port e h in
    let number : num ≡ frame_number on.line.frames = n ∙ rw on.wire refl in
    record {
      facility = fac_of on.line;
      place = on.at.place;
      end = e;
      stands = stands a port e on;
      allocated = allocated_by e.state _ free;
      new_is = rw number (seen_on_end a port (sent_from a.now bytes) e on);
    }

pub seen_sends : (a : Air) (port : Port) (bytes : List ℕ) (r : Result Num SendError) (a' : Air) → IsSound a → SendsOn a port bytes r a' → Sends (own_send_refusal a port) (seen_of a) port bytes r (seen_of a')
seen_sends a port bytes (Ok num) a' s g = (refused_is a port (length bytes) s ∙ g.goes.refused, rw g.goes.air (sends_end a port bytes num (end_at a port) refl g.goes.refused g.answers))
seen_sends a port bytes (Err Memory) a' s g = ap seen_of g
seen_sends a port bytes (Err (NotAllocated state)) a' s g = (refused_is a port (length bytes) s ∙ g.refused, ap seen_of g.air)
seen_sends a port bytes (Err (HasFailed fail)) a' s g = (refused_is a port (length bytes) s ∙ g.refused, ap seen_of g.air)
seen_sends a port bytes (Err (TooLong len max)) a' s g = (refused_is a port (length bytes) s ∙ g.refused, ap seen_of g.air)
seen_sends a port bytes (Err (WindowShut n k)) a' s g = (refused_is a port (length bytes) s ∙ g.refused, ap seen_of g.air)
seen_sends a port bytes (Err (NoRoute dst)) a' s g = (refused_is a port (length bytes) s ∙ g.refused, ap seen_of g.air)
seen_sends a port bytes (Err (QueueFull n k)) a' s g = (refused_is a port (length bytes) s ∙ g.refused, ap seen_of g.air)
seen_sends a port bytes (Err (NumbersSpent until)) a' s g = (refused_is a port (length bytes) s ∙ g.refused, ap seen_of g.air)

passes_end : (a : Air) (port : Port) (o : Option End) → end_at a port ≡ o → IsSome (option_and_then (λ (e : End). slice_get e.got e.taken) o) → IsPassed (seen_of a) port (seen_of (passed a port))
passes_end a port None h w = search (rules, w)
passes_end a port (Some e) h w =
    let on = has_line a port e h in
    record {
      facility = fac_of on.line;
      place = on.at.place;
      end = e;
      stands = stands a port e on;
      new_is = seen_on_end a port passed_at e on;
    }

-- what is seen to wait waits on its wire
pub waits_on : (a : Air) (port : Port) → IsSome (unpassed (seen_of a) port) → IsSome (unpassed_at a port)
waits_on a port w = rw (end_is a port) at w

pub seen_passes : (a : Air) (port : Port) → IsSome (unpassed (seen_of a) port) → IsPassed (seen_of a) port (seen_of (passed a port))
seen_passes a port w = passes_end a port (end_at a port) refl (waits_on a port w)
