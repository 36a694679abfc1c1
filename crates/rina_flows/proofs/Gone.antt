-- What a connection still holds is given up, with a state that is gone or with its end, and the flows stay tied.
use Rattle.std.proofs.Common.{◌≡◌, ◌≢◌, ℕ, List, [], true, false, cond, slice_get, slice_set, Option, Some, None, refl, sym, ◌∙◌, ap, subst}
use Rattle.std.specs.List.Sorted.{IsStrictlyIncreasing}
use Rattle.rina_account.specs.declared.ledger.Off.{Off}
use Rattle.rina_base.specs.declared.cause.Cause.{Cause}
use Rattle.rina_base.specs.declared.cause.Cause.TheVariants as causes
use Rattle.rina_base.specs.declared.number.Key.{Key}
use Rattle.rina_conn.specs.declared.conn.Conn.{Conn}
use Rattle.rina_conn.specs.declared.sending.Sending.{Sending}
use Rattle.rina_dif_law.specs.Counting.{AllOff, InOrder, off_numbers, times}
use Rattle.rina_data.specs.Configs.{Config}
use Rattle.rina_ids.specs.Members.{CepIds}
use Rattle.rina_dif_law.specs.Dif.{DifSeen, constants, with_process}
use Rattle.rina_data.specs.Process.{Process, with_offs}
use Rattle.rina_dif_law.specs.Ending.{GivesBack, IsEnded}
use Rattle.rina_dif_law.specs.Ids.{Ids, flipped}
use Rattle.rina_dif_law.specs.Sending.{home}
use Rattle.rina_dif_law.specs.Standing.{IsJournal}
use Rattle.rina_dif_law.specs.Timely.{IsForgotten}
use Rattle.rina_dtp.specs.Receiving.{Receiving, drops, end_cause, ended_with, kept_numbers, lost_in, present_at}
use Rattle.rina_dtp.specs.Source.{key_at}
use Rattle.rina_dtp.proofs.Came.{present_same}
use Rattle.rina_iface.specs.declared.ends.End.{End}
use Rattle.rina_iface.specs.declared.state.PortState.{PortState}
use Rattle.rina_iface.specs.declared.state.PortState.TheVariants.{Allocated, Pending}
use Rattle.rina_iface.specs.Later.{Moves}
use Rattle.rina_iface.proofs.Changed.{slice_set-same}
use Rattle.rina_law.specs.Constants.{Constants}
use Rattle.rina_law.specs.Direction.{Direction, Forget, happens}
use Rattle.rina_law.specs.Lists.{In}
use Rattle.rina_law.specs.Receiver.{is_present}
use Rattle.rina_flows.specs.Arriving.{IsDrained, offs_of}
use Rattle.rina_flows.specs.Ending.{EndsAt, ForgetsAt, IsHeldOff}
use Rattle.rina_flows.specs.Tied.{IsAt, IsInboundAt, IsKeptBy, IsReceiving, IsTied, conns_of, ids_by, ids_of, inward}
use Rattle.rina_flows.proofs.ArrivesAt.{place_of}
use Rattle.rina_flows.proofs.Given.{drained_all, ended_in}
use Rattle.rina_flows.proofs.Kept.{drops_ended}
use Rattle.rina_flows.proofs.KeptOnce.{cause_gone, ended_all}
use Rattle.rina_flows.proofs.Ready.{receiving_forgot}
use Rattle.rina_flows.proofs.Retied.{tied_after}

-- The lines

held_off : (ids : Ids) (line : Direction) (r : Receiving) (why : Cause) (off : Off) → ((n : ℕ) → In n (kept_numbers r) → IsKeptBy ids line r n) → In off (offs_of (ended_with r.source (Some why) (kept_numbers r))) → IsHeldOff ids line why off
held_off ids line r why off kept i =
    let f = ended_in r.source why (kept_numbers r) off i in
    let k = kept f.0 f.1 in
    let is : IsHeldOff ids line why (record { key = key_at r.source f.0; cause = why }) = (refl, ap (λ s. s.src) k.source, ap (λ s. s.scep) k.source, k.number, refl) in
    subst (IsHeldOff ids line why) (sym f.2) is

-- what is given up of a state that is gone
gone_drops : (now : ℕ) (r : Receiving) → lost_in r.join.gaps ≡ [] → r.closed ≡ false → present_at now r ≡ false → drops now r ≡ ended_with r.source (Some (causes.StateGone r.last_in)) (kept_numbers r)
gone_drops now r broken open_ absent =
    let why : end_cause now r ≡ Some (causes.StateGone r.last_in) = (let E : end_cause now r ≡ cond false (Some (causes.NoConnection r.source.dcep)) (cond false None (Some (causes.StateGone r.last_in))) = rw (open_, absent) refl in E) in
    drops_ended now r broken ∙ ap (λ (o : Option Cause). ended_with r.source o (kept_numbers r)) why

-- the lines of a state that is gone
pub gone_off : (c : Constants) (now : ℕ) (ids : Ids) (conn : Conn) (line : Direction) → IsReceiving c now ids conn line → is_present c now line.line.receiver ≡ false → (off : Off) → In off (offs_of (drops now conn.rx)) → IsHeldOff ids line (causes.StateGone line.line.receiver.last_in) off
gone_off c now ids conn line h gone off i =
    let r : Receiving = conn.rx in
    let absent : present_at now r ≡ false = sym (present_same c now line.line.receiver line.inbox.joiner r h.stands) ∙ gone in
    let all : drops now r ≡ ended_with r.source (Some (causes.StateGone r.last_in)) (kept_numbers r) = gone_drops now r h.broken h.stands.not_closed absent in
    subst (λ (n : ℕ). IsHeldOff ids line (causes.StateGone n) off) (sym h.stands.last_in) (held_off ids line r (causes.StateGone r.last_in) off h.kept (subst (λ (ds : List (Key × Cause)). In off (offs_of ds)) all i))

-- which was made
gone_made : (c : Constants) (now : ℕ) (ids : Ids) (conn : Conn) (line : Direction) → IsReceiving c now ids conn line → is_present c now line.line.receiver ≡ false → (off : Off) → In off (offs_of (drops now conn.rx)) → line.line.receiver.made ≡ true
gone_made c now ids conn line h gone off i =
    let r : Receiving = conn.rx in
    let absent : present_at now r ≡ false = sym (present_same c now line.line.receiver line.inbox.joiner r h.stands) ∙ gone in
    let all : drops now r ≡ ended_with r.source (Some (causes.StateGone r.last_in)) (kept_numbers r) = gone_drops now r h.broken h.stands.not_closed absent in
    let f = ended_in r.source (causes.StateGone r.last_in) (kept_numbers r) off (subst (λ (ds : List (Key × Cause)). In off (offs_of ds)) all i) in
    (h.kept f.0 f.1).made

-- of a connection that was closed
closed_in : (now : ℕ) (r : Receiving) (off : Off) → lost_in r.join.gaps ≡ [] → In off (offs_of (drops now (record r { closed = true }))) → (n : ℕ) × In n (kept_numbers r) × (off ≡ record { key = key_at r.source n; cause = causes.NoConnection r.source.dcep })
closed_in now r off broken i =
    let closed : Receiving = record r { closed = true } in
    let all : drops now closed ≡ ended_with r.source (Some (causes.NoConnection r.source.dcep)) (kept_numbers r) = drops_ended now closed broken in
    ended_in r.source (causes.NoConnection r.source.dcep) (kept_numbers r) off (subst (λ (ds : List (Key × Cause)). In off (offs_of ds)) all i)

pub closed_off : (c : Constants) (now : ℕ) (ids : Ids) (conn : Conn) (line : Direction) → IsReceiving c now ids conn line → (off : Off) → In off (offs_of (drops now (record conn.rx { closed = true }))) → IsHeldOff ids line (causes.NoConnection ids.scep) off
closed_off c now ids conn line h off i =
    let f = closed_in now conn.rx off h.broken i in
    let k = h.kept f.0 f.1 in
    let is : IsHeldOff ids line (causes.NoConnection ids.scep) (record { key = key_at conn.rx.source f.0; cause = causes.NoConnection conn.rx.source.dcep }) = (refl, ap (λ s. s.src) k.source, ap (λ s. s.scep) k.source, k.number, ap (λ s. causes.NoConnection s.dcep) k.source) in
    subst (IsHeldOff ids line (causes.NoConnection ids.scep)) (sym f.2) is

-- and each piece that is held is given up once

gone_all : (c : Constants) (now : ℕ) (ids : Ids) (conn : Conn) (line : Direction) → IsReceiving c now ids conn line → is_present c now line.line.receiver ≡ false → AllOff line (offs_of (drops now conn.rx))
gone_all c now ids conn line h gone n =
    let absent : present_at now conn.rx ≡ false = sym (present_same c now line.line.receiver line.inbox.joiner conn.rx h.stands) ∙ gone in
    ap (times n) (ended_all now conn.rx _ h.broken (cause_gone now conn.rx h.stands.not_closed absent)) ∙ h.all n

closed_all : (c : Constants) (now : ℕ) (ids : Ids) (conn : Conn) (line : Direction) → IsReceiving c now ids conn line → AllOff line (offs_of (drops now (record conn.rx { closed = true })))
closed_all c now ids conn line h n = ap (times n) (ended_all now (record conn.rx { closed = true }) _ h.broken refl) ∙ h.all n

-- in the order of the numbers

gone_order : (c : Constants) (now : ℕ) (ids : Ids) (conn : Conn) (line : Direction) → IsReceiving c now ids conn line → is_present c now line.line.receiver ≡ false → InOrder (offs_of (drops now conn.rx))
gone_order c now ids conn line h gone =
    let absent : present_at now conn.rx ≡ false = sym (present_same c now line.line.receiver line.inbox.joiner conn.rx h.stands) ∙ gone in
    subst IsStrictlyIncreasing (sym (ended_all now conn.rx _ h.broken (cause_gone now conn.rx h.stands.not_closed absent))) h.rising

closed_order : (c : Constants) (now : ℕ) (ids : Ids) (conn : Conn) (line : Direction) → IsReceiving c now ids conn line → InOrder (offs_of (drops now (record conn.rx { closed = true })))
closed_order c now ids conn line h = subst IsStrictlyIncreasing (sym (ended_all now (record conn.rx { closed = true }) _ h.broken refl)) h.rising

-- The tie

-- a state that is gone is forgotten
pub record HasForgotten (g : Config) (now : ℕ) (ends : List End) (conns : List Conn) (lines : List Direction) (at : ℕ) (end : End) (offs : List Off) (new : Conn) : Type 0 where
  pub lines' : List Direction
  pub forgets : ForgetsAt g ends (conns_of conns) lines at offs lines'
  pub tied : IsTied g now (slice_set ends at end) (slice_set conns at new) lines'

pub forgets_at : (g : Config) (now : ℕ) (ends : List End) (conns : List Conn) (lines : List Direction) (at from : ℕ) (end : End) (conn new : Conn) (line : Direction) (taken : List (Key × Cause)) → IsJournal now ends → IsTied g now ends conns lines → IsAt ends conns at end conn → end.state ≡ Allocated → IsInboundAt ends lines end from line → line.line.clock ≡ now → present_at now conn.rx ≡ false →
    IsDrained now conn.rx taken new.rx → drops now new.rx ≡ [] → new.plan ≡ conn.plan → new.waiting ≡ conn.waiting → new.sending ≡ conn.sending → HasForgotten g now ends conns lines at end (offs_of taken) new
forgets_at g now ends conns lines at from end conn new line taken journal tied is_at allocated inbound clock absent drained none plan waiting sending =
    let c : Constants = inward g conn in
    let h = tied.receives at from end conn line is_at allocated inbound in
    let gone : is_present c now line.line.receiver ≡ false = present_same c now line.line.receiver line.inbox.joiner conn.rx h.stands ∙ absent in
    let all = drained_all now conn.rx taken new.rx drained none in
    let line' : Direction = happens c line Forget in
    let R : Sending → Type 0 = λ s. IsReceiving (constants g s.form.cube (flipped (ids_by s.form.peer s.form.cube.id))) now (ids_by s.form.peer s.form.cube.id) new line' in
    record {
      lines' = slice_set lines from line';
      forgets = record {
        end = end;
        its_ids = ids_of conn;
        cube = conn.sending.form.cube;
        place = place_of g now ends conns lines at end conn tied is_at;
        allocated = allocated;
        from = from;
        line = line;
        inbound = inbound;
        gone = ap (λ n. is_present c n line.line.receiver) clock ∙ gone;
        offs_are = λ off i. gone_off c now (ids_of conn) conn line h gone off (subst (λ (ds : List (Key × Cause)). In off (offs_of ds)) (sym all) i);
        made = λ off i. gone_made c now (ids_of conn) conn line h gone off (subst (λ (ds : List (Key × Cause)). In off (offs_of ds)) (sym all) i);
        all = λ n. ap (λ (ds : List (Key × Cause)). times n (off_numbers (offs_of ds))) (sym all) ∙ gone_all c now (ids_of conn) conn line h gone n;
        in_order = subst (λ (ds : List (Key × Cause)). InOrder (offs_of ds)) all (gone_order c now (ids_of conn) conn line h gone);
        lines_are = refl;
      };
      tied = tied_after g now ends conns lines at from end end conn new line line' journal tied (record { is_at = is_at; inbound = inbound; const = record { flow = refl; role = refl; port = refl; app = refl; peer = refl; cube = refl }; awake = λ waits. absurd (let clash = allocated in cc); sending = sending; sender = refl; clock = refl }) (λ still. subst R (sym sending) (receiving_forgot c now (ids_of conn) conn new line taken h gone drained none plan waiting));
    }

-- an allocated end never waits again
no_wait : (old new : PortState) → old ≡ Allocated → Moves old new → new ≡ Pending → ⊥
no_wait old new is moves waits = let clash : Pending ≡ Allocated = subst (λ (s : PortState). Moves s Pending) is (subst (Moves old) waits moves) in cc

-- an end is closed: what its connection held is written off, and it is tied to its sender alone
pub record HasEnded (g : Config) (now : ℕ) (ends : List End) (conns : List Conn) (lines : List Direction) (at : ℕ) (end : End) (state : PortState) (offs : List Off) (new : Conn) : Type 0 where
  pub stops : EndsAt ends (conns_of conns) lines at state offs (slice_set ends at (record end { state = state }))
  pub tied : IsTied g now (slice_set ends at (record end { state = state })) (slice_set conns at new) lines

pub ends_at : (g : Config) (now : ℕ) (ends : List End) (conns : List Conn) (lines : List Direction) (at from : ℕ) (end : End) (conn new : Conn) (line : Direction) (state : PortState) (taken : List (Key × Cause)) → IsJournal now ends → IsTied g now ends conns lines → IsAt ends conns at end conn → end.state ≡ Allocated → Moves end.state state → state ≢ Allocated → IsInboundAt ends lines end from line →
    drops now (record conn.rx { closed = true }) ≡ taken → new.sending ≡ conn.sending → HasEnded g now ends conns lines at end state (offs_of taken) new
ends_at g now ends conns lines at from end conn new line state taken journal tied is_at allocated moves stops inbound all sending =
    let place = place_of g now ends conns lines at end conn tied is_at in
    let end' : End = record end { state = state } in
    let again = tied_after g now ends conns lines at from end end' conn new line line journal tied (record { is_at = is_at; inbound = inbound; const = record { flow = refl; role = refl; port = refl; app = refl; peer = refl; cube = refl }; awake = λ waits. no_wait end.state state allocated moves waits; sending = sending; sender = refl; clock = refl }) (λ still. absurd (stops still)) in
    record {
      stops = record {
        end = end;
        its_ids = ids_of conn;
        is_conn = place.is_conn;
        allocated = allocated;
        moves = moves;
        stops = stops;
        offs_are = λ off m l i inb. closed_off (inward g conn) now (ids_of conn) conn l (tied.receives at m end conn l is_at allocated inb) off (subst (λ (ds : List (Key × Cause)). In off (offs_of ds)) (sym all) i);
        all = λ m l inb n. ap (λ (ds : List (Key × Cause)). times n (off_numbers (offs_of ds))) (sym all) ∙ closed_all (inward g conn) now (ids_of conn) conn l (tied.receives at m end conn l is_at allocated inb) n;
        in_order = subst (λ (ds : List (Key × Cause)). InOrder (offs_of ds)) all (closed_order (inward g conn) now (ids_of conn) conn line (tied.receives at from end conn line is_at allocated inbound));
        ends_are = refl;
      };
      tied = subst (λ (ls : List Direction). IsTied g now (slice_set ends at end') (slice_set conns at new) ls) (slice_set-same lines from line inbound.is_line) again;
    }

-- For the DIF of which these are the flows

pub is_forgotten : (d : DifSeen) (lines : List Direction) (at i : ℕ) (process : Process) (offs : List Off) (lines' : List Direction) (d' : DifSeen) → (f : ForgetsAt d.config d.ends d.conns lines at offs lines') → home f.end.port.node d.config.members ≡ Some i → slice_get d.processes i ≡ Some process → d' ≡ with_process d i (with_offs process offs) → IsForgotten d lines at d' lines'
is_forgotten d lines at i process offs lines' d' f at_home is_process is = record {
  end = f.end;
  ids = f.its_ids;
  i = i;
  process = process;
  cube = f.cube;
  is_home = record { is_conn = f.place.is_conn; allocated = f.allocated; at_home = at_home; is_process = is_process; is_cube = f.place.is_cube };
  from = f.from;
  line = f.line;
  inbound = record { partner = f.inbound.partner; is_partner = f.inbound.is_partner; partners = f.inbound.partners; is_line = f.inbound.is_line };
  gone = f.gone;
  dropped = offs;
  all_dropped = f.offs_are;
  made = f.made;
  all = f.all;
  in_order = f.in_order;
  lines_are = f.lines_are;
  new_is = is;
}

pub is_ended : (d : DifSeen) (lines : List Direction) (at i : ℕ) (state : PortState) (process : Process) (offs : List Off) (ends' : List End) (held : List CepIds) (d' : DifSeen) → (e : EndsAt d.ends d.conns lines at state offs ends') → home e.end.port.node d.config.members ≡ Some i → slice_get d.processes i ≡ Some process → GivesBack d at e.end held → d' ≡ record d { ends = ends'; processes = slice_set d.processes i (with_offs process offs); ids = held } → IsEnded d lines at state d'
is_ended d lines at i state process offs ends' held d' e at_home is_process gives is = record {
  end = e.end;
  ids = e.its_ids;
  is_conn = e.is_conn;
  allocated = e.allocated;
  moves = e.moves;
  ends = e.stops;
  i = i;
  process = process;
  at_home = at_home;
  is_process = is_process;
  dropped = offs;
  all_dropped = λ off from line here inb. e.offs_are off from line here (record { partner = inb.partner; is_partner = inb.is_partner; partners = inb.partners; is_line = inb.is_line });
  all = λ from line inb. e.all from line (record { partner = inb.partner; is_partner = inb.is_partner; partners = inb.partners; is_line = inb.is_line });
  in_order = e.in_order;
  held = held;
  gives_back = gives;
  new_is = is ∙ ap (λ (es : List End). record d { ends = es; processes = slice_set d.processes i (with_offs process offs); ids = held }) e.ends_are;
}
