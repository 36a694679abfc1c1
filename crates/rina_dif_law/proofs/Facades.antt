-- A send on a DIF is a send on a facility of its rank.
use Rattle.std.proofs.Common.{◌≡◌, ℕ, List, length, slice_get, map, Some, Ok, Err, Option, Result, option_map, refl, sym, ◌∙◌, ap, subst}
use Rattle.rina_base.specs.declared.number.Num.{Num}
use Rattle.rina_base.specs.declared.number.Port.{Port}
use Rattle.rina_cube.specs.declared.Cube.{Cube}
use Rattle.rina_iface.specs.declared.ends.End.{End}
use Rattle.rina_iface.specs.declared.error.SendError.{SendError}
use Rattle.rina_iface.specs.declared.error.SendError.TheVariants as errors
use Rattle.rina_iface.specs.declared.state.PortState.{PortState}
use Rattle.rina_iface.specs.declared.state.PortState.TheVariants.{Pending, Allocated, Refused, Failed, Closed}
use Rattle.rina_iface.specs.Ends.{with_sent}
use Rattle.rina_iface.specs.Pass.{IsPassed as PassesThere}
use Rattle.rina_iface.specs.Seen.{Offer, Seen, Stands, cube_at, cube_in, largest_at, state_of, with_end, with_fac}
use Rattle.rina_iface.specs.Send.{IsSent, Sends, by_length, by_state, refused}
use Rattle.rina_iface.proofs.Changed.{slice_set-same}
use Rattle.rina_iface.proofs.Found.{end_of_stands}
use Rattle.rina_law.specs.declared.entry.Entry.{Entry}
use Rattle.rina_law.specs.Direction.{Direction}
use Rattle.rina_law.specs.Pieces.{Part, join}
use Rattle.rina_dif_law.specs.Dif.{DifSeen, constants, fac_of, offer_of}
use Rattle.rina_data.specs.Configs.{cube_by}
use Rattle.rina_dif_law.specs.Facade.{IsShown, own_refusal, shown}
use Rattle.rina_dif_law.specs.Ids.{Ids}
use Rattle.rina_dif_law.specs.Passing.{IsPassed}
use Rattle.rina_dif_law.specs.Sending.{IsOffered, Offers, by_conn, by_end, offered_entry, refused_at}
use Rattle.rina_dif_law.specs.Standing.{IsConn, IsStanding}
use Rattle.rina_dif_law.specs.Cloud.{Cloud, Everywhere}
use Rattle.rina_dif_law.proofs.Finding.{beside}
use Rattle.rina_dif_law.proofs.Own.{direction_out}
use Rattle.rina_dif_law.proofs.Keepers.{offered_by}

-- the end, the ids, the direction and the cube at an allocated end
record IsReady (d : DifSeen) (lines : List Direction) (at : ℕ) (end : End) : Type 0 where
  ids : Ids
  line : Direction
  cube : Cube
  ids_are : slice_get d.conns at ≡ Some ids
  is_line : slice_get lines at ≡ Some line
  is_cube : cube_by ids.qos d.config.cubes ≡ Some cube
  qos : ids.qos ≡ end.cube
  clock : line.line.clock ≡ d.clock

ready : (d : DifSeen) (lines : List Direction) (below : Seen) (at : ℕ) (end : End) → IsStanding d lines below → slice_get d.ends at ≡ Some end → end.state ≡ Allocated → IsReady d lines at end
ready d lines below at end st is allocated =
    let ids = beside d.ends d.conns at end st.own.alike is in
    let line = beside d.ends lines at end st.own.lines_alike is in
    let conn : IsConn d.ends d.conns at end ids.0 = record { end = is; ids_are = ids.1 } in
    let partner = st.journal.allocated at end is allocated in
    let flow = direction_out d.config d.clock (Cloud Everywhere d.config d.processes below) d.ids d.ends d.conns lines st.own at partner.place end partner.other ids.0 line.0 conn partner.stands line.1 partner.partner allocated in
    record { ids = ids.0; line = line.0; cube = flow.cube; ids_are = ids.1; is_line = line.1; is_cube = flow.is_cube; qos = (st.own.ids at end ids.0 conn).qos; clock = flow.backed.clock }

largest_shown : (s : Seen) (d : DifSeen) (port : Port) (at : ℕ) (end : End) (id : ℕ) (cube : Cube) → IsShown s d port at end → id ≡ end.cube → cube_by id d.config.cubes ≡ Some cube → largest_at s port ≡ Some cube.largest
largest_shown s d port at end id cube h qos is =
    let st = h.stands in
    let there : cube_at s port ≡ cube_in (map offer_of d.config.cubes) end.cube = rw (st.facility, st.place, st.is) refl in
    let offer : cube_in (map offer_of d.config.cubes) end.cube ≡ Some (offer_of cube) = ap (cube_in (map offer_of d.config.cubes)) (sym qos) ∙ offered_by id d.config.cubes ∙ ap (option_map offer_of) is in
    ap (option_map (λ (c : Offer). c.largest)) (there ∙ offer)

-- the refusals are those of a facility
by_ready : (d : DifSeen) (lines : List Direction) (at : ℕ) (end : End) (parts : List Part) (r : IsReady d lines at end) → by_conn d end parts (slice_get d.conns at) (slice_get lines at) ≡ by_length (length (join parts)) (Some r.cube.largest) (own_refusal d lines at end parts)
by_ready d lines at end parts r = rw (r.ids_are, r.is_line, r.is_cube) refl

states : (state : PortState) (rest other : Option SendError) → (state ≡ Allocated → rest ≡ other) → by_state (Some state) rest ≡ by_state (Some state) other
states Pending rest other same = refl
states Allocated rest other same = same refl
states (Refused why) rest other same = refl
states (Failed fail) rest other same = refl
states Closed rest other same = refl

state_shown : (s : Seen) (d : DifSeen) (port : Port) (at : ℕ) (end : End) → IsShown s d port at end → state_of s port ≡ Some end.state
state_shown s d port at end h = ap (option_map (λ (e : End). e.state)) (end_of_stands s port (fac_of d) at end h.stands)

pub same_refusals : (s : Seen) (d : DifSeen) (lines : List Direction) (below : Seen) (port : Port) (at : ℕ) (end : End) (parts : List Part) → IsStanding d lines below → IsShown s d port at end → refused s port (length (join parts)) (own_refusal d lines at end parts) ≡ refused_at d lines at parts
same_refusals s d lines below port at end parts st h =
    let own = own_refusal d lines at end parts in
    let is_end : slice_get d.ends at ≡ Some end = h.stands.is in
    let here : refused_at d lines at parts ≡ by_state (Some end.state) (by_conn d end parts (slice_get d.conns at) (slice_get lines at)) = ap (by_end d lines at parts) is_end in
    let there : refused s port (length (join parts)) own ≡ by_state (Some end.state) (by_length (length (join parts)) (largest_at s port) own) = ap (λ (x : Option PortState). by_state x (by_length (length (join parts)) (largest_at s port) own)) (state_shown s d port at end h) in
    there ∙ states end.state (by_length (length (join parts)) (largest_at s port) own) (by_conn d end parts (slice_get d.conns at) (slice_get lines at)) (λ is.
    let r = ready d lines below at end st is_end is in
    ap (λ (m : Option ℕ). by_length (length (join parts)) m own) (largest_shown s d port at end r.ids.qos r.cube h r.qos r.is_cube) ∙ sym (by_ready d lines at end parts r)) ∙ sym here

-- nothing changed
unchanged : (s : Seen) (d d' : DifSeen) (port : Port) (at : ℕ) (end : End) → IsShown s d port at end → d' ≡ d → shown s port d' ≡ s
unchanged s d d' port at end h is = ap (shown s port) is ∙ ap (λ fs. record s { facs = fs }) (slice_set-same s.facs port.fac (fac_of d) h.stands.facility)

entry_is : (a : Entry) (tick : ℕ) (num : Num) → a.tick ≡ tick → num ≡ a.num → a ≡ record { tick = tick; num = num; bytes = a.bytes }
entry_is a tick num t n = λ i. record { tick = t i; num = sym n i; bytes = a.bytes }

offered_sent : (s : Seen) (d : DifSeen) (lines : List Direction) (below : Seen) (port : Port) (at : ℕ) (end : End) (parts : List Part) (num : Num) (d' : DifSeen) (lines' : List Direction) → IsStanding d lines below → IsShown s d port at end → IsOffered d lines at parts num d' lines' → IsSent s port (join parts) num (shown s port d')
offered_sent s d lines below port at end parts num d' lines' st h o =
    let r = ready d lines below at o.end st o.is_conn.end o.allocated in
    let end_is : o.end ≡ end = (let a = o.is_conn.end in let b = h.stands.is in cc) in
    let line_is : o.line ≡ r.line = (let a = o.is_line in let b = r.is_line in cc) in
    let entry : Entry = offered_entry (constants d.config o.cube o.ids) parts o.line in
    let tick : entry.tick ≡ s.now = ap (λ (l : Direction). l.line.clock) line_is ∙ r.clock ∙ sym h.clock in
    let is : entry ≡ record { tick = s.now; num = num; bytes = join parts } = entry_is entry s.now num tick o.num_is in
    record {
      facility = fac_of d;
      place = at;
      end = o.end;
      stands = subst (Stands s port (fac_of d) at) (sym end_is) h.stands;
      allocated = o.allocated;
      new_is = ap (shown s port) o.new_is ∙ ap (λ (x : Entry). with_fac s port.fac (with_end (fac_of d) at (with_sent o.end x))) is;
    }

-- an error of a send, whichever it is, but `Memory`
erred : (own : Option SendError) (s : Seen) (port : Port) (bytes : List ℕ) (e : SendError) (s' : Seen) → refused s port (length bytes) own ≡ Some e → s' ≡ s → Sends own s port bytes (Err e) s'
erred own s port bytes errors.Memory s' r is = is
erred own s port bytes (errors.NotAllocated state) s' r is = (r, is)
erred own s port bytes (errors.Failed fail) s' r is = (r, is)
erred own s port bytes (errors.TooLong len max) s' r is = (r, is)
erred own s port bytes (errors.WindowShut need room) s' r is = (r, is)
erred own s port bytes (errors.NoRoute dst) s' r is = (r, is)
erred own s port bytes (errors.QueueFull need room) s' r is = (r, is)
erred own s port bytes (errors.NumbersSpent until) s' r is = (r, is)

pub offers_send : (s : Seen) (d : DifSeen) (lines : List Direction) (below : Seen) (port : Port) (at : ℕ) (end : End) (parts : List Part) (result : Result Num SendError) (d' : DifSeen) (lines' : List Direction) → IsStanding d lines below → IsShown s d port at end → Offers d lines at parts result d' lines' → Sends (own_refusal d lines at end parts) s port (join parts) result (shown s port d')
offers_send s d lines below port at end parts (Ok num) d' lines' st h o = (same_refusals s d lines below port at end parts st h ∙ o.0, offered_sent s d lines below port at end parts num d' lines' st h o.2)
offers_send s d lines below port at end parts (Err errors.Memory) d' lines' st h o = unchanged s d d' port at end h o.0
offers_send s d lines below port at end parts (Err e) d' lines' st h o = erred (own_refusal d lines at end parts) s port (join parts) e (shown s port d') (same_refusals s d lines below port at end parts st h ∙ o.0) (unchanged s d d' port at end h o.1)

-- a pass likewise
pub passed_there : (s : Seen) (d : DifSeen) (lines : List Direction) (port : Port) (at : ℕ) (end : End) (d' : DifSeen) (lines' : List Direction) → IsShown s d port at end → IsPassed d lines at d' lines' → PassesThere s port (shown s port d')
passed_there s d lines port at end d' lines' h p =
    let end_is : p.end ≡ end = (let a = p.is_conn.end in let b = h.stands.is in cc) in
    record {
      facility = fac_of d;
      place = at;
      end = p.end;
      stands = subst (Stands s port (fac_of d) at) (sym end_is) h.stands;
      new_is = ap (shown s port) p.new_is;
    }
