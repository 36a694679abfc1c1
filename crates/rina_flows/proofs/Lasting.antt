-- Flows stay tied as time goes on, and new connections are tied to directions that start.
use Rattle.std.proofs.Common.{◌≡◌, ◌≢◌, ℕ, ◌+◌, ◌-◌, ◌*◌, ◌≤◌, List, [], map, false, Some, None, refl, sym, ◌∙◌, ap, subst, arith}
use Rattle.std.proofs.lemmas.List.{length-map}
use Rattle.std.specs.List.Sorted.{IsStrictlyIncreasing}
use Rattle.rina_conn.specs.declared.conn.Conn.{Conn}
use Rattle.rina_conn.specs.declared.form.Peer.{Peer}
use Rattle.rina_conn.specs.Conns.{IsNewConn}
use Rattle.rina_conn.specs.Standing.{AreWaiting}
use Rattle.rina_conn.specs.Waiting.{Waits}
use Rattle.rina_cube.specs.declared.Cube.{Cube}
use Rattle.rina_cube.specs.Cubes.{delta_of}
use Rattle.rina_dif_law.specs.Counting.{times}
use Rattle.rina_data.specs.Configs.{Config, cube_by, greatest, piece_size}
use Rattle.rina_dif_law.specs.Ids.{Ids}
use Rattle.rina_dif_law.specs.Lifting.{ticked}
use Rattle.rina_dif_law.proofs.Own.{map_at}
use Rattle.rina_dtp.specs.Receiving.{Receiving, kept_numbers, present_at}
use Rattle.rina_dtp.specs.Stands.{Stands}
use Rattle.rina_dtp.proofs.Ahead.{fetched_forward}
use Rattle.rina_dtp.proofs.Came.{kept_none, present_same}
use Rattle.rina_dtp.proofs.Lasting.{stands_later}
use Rattle.rina_iface.specs.declared.ends.End.{End}
use Rattle.rina_iface.specs.Journal.{At}
use Rattle.rina_law.specs.Constants.{Constants}
use Rattle.rina_law.specs.Direction.{Direction, start}
use Rattle.rina_law.specs.Lists.{In}
use Rattle.rina_law.specs.Pieces.{empty_joiner}
use Rattle.rina_law.specs.Receiver.{no_state}
use Rattle.rina_flows.specs.Tied.{IsInboundAt, IsNewAt, IsReceiving, IsSending, IsTied, ids_of, inward, outward}
use Rattle.rina_flows.proofs.Added.{AreNewEnds}
use Rattle.rina_flows.proofs.Ordered.{rise_none}
use Rattle.rina_flows.proofs.Receives.{none_broken}
use Rattle.rina_flows.proofs.Waiting.{waiting_same}

-- Time

sending_later : (g : Config) (now later : ℕ) (conn : Conn) (line : Direction) → now ≤ later → IsSending g now conn line → IsSending g later conn (ticked (later - now) line)
sending_later g now later conn line le h = record { cube = h.cube; clock = (let clock = h.clock in omega arith); sender = h.sender }

receiving_later : (c : Constants) (now later : ℕ) (ids : Ids) (conn : Conn) (line : Direction) → now ≤ later → IsReceiving c now ids conn line → IsReceiving c later ids conn (ticked (later - now) line)
receiving_later c now later ids conn line le h = record {
  stands = stands_later c now later line.line.receiver line.inbox.joiner conn.rx h.stands le;
  plan = h.plan;
  last = h.last;
  whole = h.whole;
  broken = h.broken;
  forward = h.forward;
  waiting = waiting_same c line (ticked (later - now) line) [] conn.waiting refl refl refl h.waiting;
  early = h.early;
  kept = λ n i. (let k = h.kept n i in record { made = k.made; source = k.source; number = k.number });
  once = h.once;
  all = h.all;
  rising = h.rising;
}

pub tied_later : (g : Config) (now later : ℕ) (ends : List End) (conns : List Conn) (lines : List Direction) → now ≤ later → IsTied g now ends conns lines → IsTied g later ends conns (map (ticked (later - now)) lines)
tied_later g now later ends conns lines le tied = record {
  alike = tied.alike;
  lines_alike = length-map lines (ticked (later - now)) ∙ tied.lines_alike;
  sends = λ at conn line h i.
      let o = map_at (ticked (later - now)) lines at line i in
      subst (IsSending g later conn) (sym o.2) (sending_later g now later conn o.0 le (tied.sends at conn o.0 h o.1));
  receives = λ at from end conn line is_at allocated inbound.
      let o = map_at (ticked (later - now)) lines from line inbound.is_line in
      let was : IsInboundAt ends lines end from o.0 = record { partner = inbound.partner; is_partner = inbound.is_partner; partners = inbound.partners; is_line = o.1 } in
      subst (IsReceiving (inward g conn) later (ids_of conn) conn) (sym o.2) (receiving_later (inward g conn) now later (ids_of conn) conn o.0 le (tied.receives at from end conn o.0 is_at allocated was));
  unused = tied.unused;
  early = λ at from end line is waits inbound.
      let o = map_at (ticked (later - now)) lines from line inbound.is_line in
      let was : IsInboundAt ends lines end from o.0 = record { partner = inbound.partner; is_partner = inbound.is_partner; partners = inbound.partners; is_line = o.1 } in
      ap (λ (x : Direction). x.state_from) o.2 ∙ tied.early at from end o.0 is waits was;
}

-- New connections

-- nothing is kept where nothing came
new_kept : (c : Constants) (now : ℕ) (r : Receiving) (n : ℕ) → Stands c now no_state empty_joiner r → kept_numbers r ≡ [] → In n (kept_numbers r) → ⊥
new_kept c now r n st none i = subst (In n) none i

pub receiving_new : (g : Config) (now : ℕ) (cube : Cube) (peer : Peer) (max : ℕ) (conn : Conn) → IsNewConn cube (piece_size g) max peer conn → IsReceiving (inward g conn) now (ids_of conn) conn (ticked now (start (inward g conn)))
receiving_new g now cube peer max conn new =
    let c : Constants = inward g conn in
    let st = new.receives.stands c now new.cube_is refl in
    let fetched = new.receives.fetched now in
    let absent : present_at now conn.rx ≡ false = sym (present_same c now no_state empty_joiner conn.rx st) in
    let none = kept_none now conn.rx st.not_closed absent fetched.dropped in
    record {
      stands = st;
      plan = new.plan_is ∙ ap (λ (x : Cube). record { a = x.a; delta = delta_of x; mark = None }) (sym new.cube_is);
      last = λ made. refl;
      whole = fetched.whole;
      broken = none_broken now conn.rx fetched.dropped;
      forward = fetched_forward c now no_state empty_joiner conn.rx st fetched.dropped;
      waiting = subst (λ (w : Waits). AreWaiting c (ticked now (start c)) [] w) (sym (new.none_waits ∙ ap (λ (x : Cube). record { room = 2 * x.window; earlier = 0; firsts = [] }) (sym new.cube_is))) (record { room = refl; earlier = refl; firsts = refl; within = omega arith; few = (let one = st.of.cube.least_window in omega arith) });
      early = (let one = st.of.cube.least_window in omega arith);
      kept = λ n i. absurd (new_kept c now conn.rx n st none i);
      once = record { once = λ n. omega arith; only = λ other. refl };
      all = λ n. ap (times n) none;
      rising = subst IsStrictlyIncreasing (sym none) rise_none;
    }

pub sending_new : (g : Config) (now : ℕ) (cube : Cube) (peer : Peer) (conn : Conn) → IsNewConn cube (piece_size g) (greatest g) peer conn → cube_by cube.id g.cubes ≡ Some cube → IsSending g now conn (ticked now (start (outward g conn)))
sending_new g now cube peer conn new is_cube = record {
  cube = subst (λ (x : Cube). cube_by x.id g.cubes ≡ Some x) (sym new.cube_is) is_cube;
  clock = (let e : 0 + now ≡ now = omega arith in e);
  sender = new.sends.stands (outward g conn) (record { cube = refl; piece = new.piece_is; cep = refl; max_is = refl });
}

-- it is new at its end, which got nothing
pub new_at : (g : Config) (cube : Cube) (peer : Peer) (end : End) (conn : Conn) → IsNewConn cube (piece_size g) (greatest g) peer conn → end.got ≡ [] → IsNewAt g end conn
new_at g cube peer end conn new got =
    let N : Cube → Peer → Type 0 = λ x p. IsNewConn x (piece_size g) (greatest g) p conn in
    record { new = subst (λ (p : Peer). N conn.sending.form.cube p) (sym new.peer_is) (subst (λ (x : Cube). N x peer) (sym new.cube_is) new); got = got }

-- by the other end
abbrev pub far_peer : Peer → Peer
far_peer peer = record { own = peer.far; far = peer.own; scep = peer.dcep; dcep = peer.scep }

-- the connections of a new flow, one at each end
pub new_flow : (g : Config) (now : ℕ) (ends : List End) (asker far : End) (cube : Cube) (peer : Peer) (conn its : Conn) → IsNewConn cube (piece_size g) (greatest g) peer conn → IsNewConn cube (piece_size g) (greatest g) (far_peer peer) its → cube_by cube.id g.cubes ≡ Some cube → ((i : ℕ) (e : End) → At ends i e → e.flow ≢ asker.flow) → far.flow ≡ asker.flow → asker.got ≡ [] → far.got ≡ [] →
    AreNewEnds g now ends asker far conn its (ticked now (start (outward g conn))) (ticked now (start (outward g its)))
new_flow g now ends asker far cube peer conn its new there is_cube fresh same_flow got far_got =
    let by : Cube → ℕ → Constants = λ x cep. record { cube = x; piece = piece_size g; max = greatest g; cep = cep } in
    let cubes : conn.sending.form.cube ≡ its.sending.form.cube = new.cube_is ∙ sym there.cube_is in
    let here : inward g conn ≡ outward g its = ap (λ x. by x conn.sending.form.peer.dcep) cubes ∙ ap (by its.sending.form.cube) (ap (λ (p : Peer). p.dcep) new.peer_is ∙ sym (ap (λ (p : Peer). p.scep) there.peer_is)) in
    let yonder : inward g its ≡ outward g conn = ap (λ x. by x its.sending.form.peer.dcep) (sym cubes) ∙ ap (by conn.sending.form.cube) (ap (λ (p : Peer). p.dcep) there.peer_is ∙ sym (ap (λ (p : Peer). p.scep) new.peer_is)) in
    record {
      fresh = fresh;
      same_flow = same_flow;
      sends = sending_new g now cube peer conn new is_cube;
      sends_back = sending_new g now cube (far_peer peer) its there is_cube;
      receives = subst (λ (c : Constants). IsReceiving (inward g conn) now (ids_of conn) conn (ticked now (start c))) here (receiving_new g now cube peer (greatest g) conn new);
      receives_there = subst (λ (c : Constants). IsReceiving (inward g its) now (ids_of its) its (ticked now (start c))) yonder (receiving_new g now cube (far_peer peer) (greatest g) its there);
      new = new_at g cube peer asker conn new got;
      new_there = new_at g cube (far_peer peer) far its there far_got;
      early = refl;
      early_back = refl;
    }
