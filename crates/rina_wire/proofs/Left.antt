-- What the exact clauses of `unregister` and `free` say of the facilities that the wires are.
use Rattle.std.proofs.Common.{◌≡◌, ℕ, cond, Bool, true, false, List, [], slice_set, Some, None, Option, option_map, Result, Ok, Err, refl, sym, ap, ◌∙◌}
use Rattle.std.proofs.lemmas.Option.{none-some}
use Rattle.rina_base.specs.declared.number.Port.{Port}
use Rattle.rina_iface.specs.declared.ends.End.{End}
use Rattle.rina_iface.specs.declared.error.FreeError.{FreeError}
use Rattle.rina_iface.specs.declared.error.FreeError.TheVariants as free
use Rattle.rina_iface.specs.declared.error.UnregisterError.{UnregisterError}
use Rattle.rina_iface.specs.declared.error.UnregisterError.TheVariants.{Memory, NotThere, CountSpent}
use Rattle.rina_iface.specs.declared.state.PortState.{PortState}
use Rattle.rina_iface.specs.declared.state.PortState.TheVariants.{Pending, Allocated, Refused, Failed, Closed}
use Rattle.rina_iface.specs.Free.{Frees, FreesEnds, IsFreed, refused_end}
use Rattle.rina_iface.specs.Journal.{At}
use Rattle.rina_iface.specs.State.{freed, freed_state, with_state}
use Rattle.rina_iface.specs.Unregister.{IsUnregistered, Unregisters, refused, refused_in}
use Rattle.rina_iface.proofs.Changed.{slice_set-same}
use Rattle.rina_wire.specs.Air.{Air, Line, end_at, fac_of, on_end, on_wire, seen_of, wire_at}
use Rattle.rina_wire.specs.Allocate.{is_allocated}
use Rattle.rina_wire.specs.Free.{FreesOn, closed_both, freed_at}
use Rattle.rina_wire.specs.Send.{mate}
use Rattle.rina_wire.specs.Sound.{AreMates, IsSound, IsWireState, KeepsFlows, site_of}
use Rattle.rina_wire.specs.Unregister.{UnregistersOn, unnamed, unregister_refusal}
use Rattle.rina_wire.proofs.Carried.{end_is, has_line, seen_on_end, stands}
use Rattle.rina_wire.proofs.Kept.{partners}
use Rattle.rina_wire.proofs.Seen.{fac_at, seen_on_wire}
use Rattle.rina_wire.proofs.SoundFree.{both_is, mate_of}

-- ---- unregister

unregisters_at : (a : Air) (fac node : ℕ) (app : List ℕ) (o : Option Line) → wire_at a fac ≡ o → refused_in (option_map fac_of o) node app None ≡ None → IsUnregistered (seen_of a) fac node app (seen_of (on_wire a fac (unnamed node app)))
unregisters_at a fac node app None h free = absurd (none-some NotThere (sym free))
unregisters_at a fac node app (Some l) h free = record {
  facility = fac_of l;
  stands = fac_at a fac ∙ ap (option_map fac_of) h;
  new_is = seen_on_wire a fac (unnamed node app) l h;
}

refused_is : (a : Air) (fac node : ℕ) (app : List ℕ) → refused (seen_of a) fac node app None ≡ unregister_refusal a fac node app
refused_is a fac node app = ap (λ o. refused_in o node app None) (fac_at a fac)

pub seen_unregisters : (a : Air) (fac node : ℕ) (app : List ℕ) (r : Result (Unit {0}) UnregisterError) (a' : Air) → UnregistersOn a fac node app r a' → Unregisters None (seen_of a) fac node app r (seen_of a')
seen_unregisters a fac node app (Ok done) a' g = (refused_is a fac node app ∙ g.refused, rw g.air (unregisters_at a fac node app (wire_at a fac) refl g.refused))
seen_unregisters a fac node app (Err Memory) a' g = ap seen_of g
seen_unregisters a fac node app (Err NotThere) a' g = (refused_is a fac node app ∙ g.refused, ap seen_of g.air)
seen_unregisters a fac node app (Err (CountSpent n k)) a' g = (refused_is a fac node app ∙ g.refused, ap seen_of g.air)

-- ---- free

-- the state of an end that is allocated, or of one that stays as it is
both_freed : (now : ℕ) (ends : List End) (p : ℕ) (e other : End) (state : PortState) → IsWireState now state → e.state ≡ state → other.state ≡ state → At ends p e → At ends (mate p) other
    → cond (is_allocated state) (slice_set (slice_set ends p (with_state e Closed)) (mate p) (with_state other Closed)) ends ≡ slice_set (slice_set ends p (freed e)) (mate p) (freed other)
both_freed now ends p e other Pending w es os he ho = absurd w
both_freed now ends p e other Allocated w es os he ho = rw (es, os) refl
both_freed now ends p e other (Refused why) w es os he ho = absurd w
both_freed now ends p e other (Failed fail) w es os he ho =
    let e_is : freed e ≡ e = ap (with_state e) (ap freed_state es ∙ sym es) in
    let o_is : freed other ≡ other = ap (with_state other) (ap freed_state os ∙ sym os) in
    let first : slice_set ends p e ≡ ends = slice_set-same ends p e he in
    rw (e_is, o_is, first) (sym (slice_set-same ends (mate p) other ho))
both_freed now ends p e other Closed w es os he ho =
    let e_is : freed e ≡ e = ap (with_state e) (ap freed_state es ∙ sym es) in
    let o_is : freed other ≡ other = ap (with_state other) (ap freed_state os ∙ sym os) in
    let first : slice_set ends p e ≡ ends = slice_set-same ends p e he in
    rw (e_is, o_is, first) (sym (slice_set-same ends (mate p) other ho))

-- the wire after it, by its ends
ends_of : (l : Line) (p : ℕ) (e : End) → (freed_at l p e).ends ≡ cond (is_allocated e.state) (closed_both l.ends p) l.ends
ends_of l p e = elim (is_allocated e.state) as (λ b. (cond b (record l { ends = closed_both l.ends p; flights = [] }) l).ends ≡ cond b (closed_both l.ends p) l.ends) [ true ↦ refl | false ↦ refl ]

fac_freed : (l : Line) (p : ℕ) (e : End) → fac_of (freed_at l p e) ≡ record (fac_of l) { ends = (freed_at l p e).ends }
fac_freed l p e = elim (is_allocated e.state) as (λ b. fac_of (cond b (record l { ends = closed_both l.ends p; flights = [] }) l) ≡ record (fac_of l) { ends = (cond b (record l { ends = closed_both l.ends p; flights = [] }) l).ends }) [ true ↦ refl | false ↦ refl ]

frees_ends : (now : ℕ) (failed : Bool) (fac : ℕ) (l : Line) (p : ℕ) (e : End) → KeepsFlows now failed fac l → At l.ends p e → FreesEnds true l.ends p e (freed_at l p e).ends
frees_ends now failed fac l p e k at =
    let m = mate_of now failed fac l p e k at in
    let s = site_of fac l in
    let mates : AreMates s e m.other = k.sound.mates p e m.other at m.stands in
    let both : closed_both l.ends p ≡ slice_set (slice_set l.ends p (with_state e Closed)) (mate p) (with_state m.other Closed) = both_is l.ends p e m.other at m.stands in
    let is : (freed_at l p e).ends ≡ slice_set (slice_set l.ends p (freed e)) (mate p) (freed m.other) = ends_of l p e ∙ ap (λ (xs : List End). cond (is_allocated e.state) xs l.ends) both ∙ both_freed now l.ends p e m.other e.state (k.sound.each p e at).state refl mates.state at m.stands in
    (mate p, m.other, m.stands, partners s now l.frames l.ends p e m.other k.sound at m.stands, is)

frees_end : (a : Air) (port : Port) (o : Option End) → end_at a port ≡ o → IsSound a → refused_end o ≡ None → IsFreed true (seen_of a) port (seen_of (on_end a port freed_at))
frees_end a port None h s fine = absurd (none-some free.NoPort (sym fine))
frees_end a port (Some e) h s fine =
    let on = has_line a port e h in
    record {
      facility = fac_of on.line;
      place = on.at.place;
      end = e;
      stands = stands a port e on;
      ends = (freed_at on.line on.at.place e).ends;
      frees = frees_ends a.now a.failed port.fac on.line on.at.place e (s.flows port.fac on.line on.wire) on.at.is;
      new_is = rw (← fac_freed on.line on.at.place e) (seen_on_end a port freed_at e on);
    }

pub seen_frees : (a : Air) (port : Port) (r : Result (Unit {0}) FreeError) (a' : Air) → IsSound a → FreesOn a port r a' → Frees true (seen_of a) port r (seen_of a')
seen_frees a port (Ok done) a' s g = rw g.air (frees_end a port (end_at a port) refl s g.refused)
seen_frees a port (Err free.Memory) a' s g = ap seen_of g
seen_frees a port (Err free.NoPort) a' s g = (ap refused_end (end_is a port) ∙ g.refused, ap seen_of g.air)
