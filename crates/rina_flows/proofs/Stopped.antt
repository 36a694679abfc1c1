-- What a connection holds is given up with its state, or with its end.
use Rattle.std.proofs.Common.{◌≡◌, ℕ, ◌+◌, ◌≤◌, true, false, List, ◌++◌, length, slice_get, slice_set, Ok, Some, refl, sym, ◌∙◌, ap, subst, arith}
use Rattle.rina_account.specs.declared.ledger.Off.{Off}
use Rattle.rina_base.specs.declared.cause.Cause.{Cause}
use Rattle.rina_base.specs.declared.number.Key.{Key}
use Rattle.rina_conn.specs.declared.conn.Conn.{Conn}
use Rattle.rina_data.specs.Configs.{Config}
use Rattle.rina_dif_law.specs.Standing.{IsJournal}
use Rattle.rina_dif_law.proofs.Finding.{beside}
use Rattle.rina_dif_law.proofs.Own.{partner_back}
use Rattle.rina_dtp.specs.Receiving.{drops, kept_numbers, present_at}
use Rattle.rina_iface.specs.declared.ends.End.{End}
use Rattle.rina_iface.specs.declared.state.PortState.{PortState}
use Rattle.rina_iface.specs.declared.state.PortState.TheVariants.{Allocated}
use Rattle.rina_iface.specs.Journal.{At}
use Rattle.rina_iface.proofs.Changed.{slice_set-same}
use Rattle.rina_law.specs.Direction.{Direction}
use Rattle.rina_flows.specs.Arriving.{offs_of}
use Rattle.rina_flows.specs.Calls.{Becomes}
use Rattle.rina_flows.specs.Delivering.{ForgetsIn, GivesUpAll, StopsIn, closed}
use Rattle.rina_flows.specs.Ending.{EndsAt}
use Rattle.rina_flows.specs.Tied.{IsAt, IsInboundAt, IsTied, conns_of, ids_of}
use Rattle.rina_flows.proofs.Framed.{same_ids}
use Rattle.rina_flows.proofs.Given.{drained_all}
use Rattle.rina_flows.proofs.Gone.{ends_at, forgets_at}
use Rattle.rina_flows.proofs.Kept.{drops_count}
use Rattle.rina_flows.proofs.Landed.{same_at}
use Rattle.rina_flows.proofs.Offered.{flows_of}

-- the direction in which an allocated end receives
pub record IsReached (ends : List End) (lines : List Direction) (end : End) : Type 0 where
  pub from : ℕ
  pub line : Direction
  pub inbound : IsInboundAt ends lines end from line

pub reached : (g : Config) (now at : ℕ) (ends : List End) (conns : List Conn) (lines : List Direction) (end : End) → IsJournal now ends → IsTied g now ends conns lines → At ends at end → end.state ≡ Allocated → IsReached ends lines end
reached g now at ends conns lines end journal t is state =
    let partner = journal.allocated at end is state in
    let l = beside ends lines partner.place partner.other t.lines_alike partner.stands in
    record { from = partner.place; line = l.0; inbound = record { partner = partner.other; is_partner = partner.stands; partners = partner_back end partner.other partner.partner; is_line = l.1 } }

pub clock_of : (g : Config) (now : ℕ) (ends : List End) (conns : List Conn) (lines : List Direction) (end : End) (from : ℕ) (line : Direction) → IsTied g now ends conns lines → IsInboundAt ends lines end from line → line.line.clock ≡ now
clock_of g now ends conns lines end from line t inb = (let far = beside ends conns from inb.partner t.alike inb.is_partner in (t.sends from far.0 line far.1 inb.is_line).clock)

pub forgets_from : (now at : ℕ) (ends : List End) (conns conns' : List Conn) (ledger ledger' lines lines' : List Off) (room kept : ℕ) (seen : Conn) → slice_get conns at ≡ Some seen → present_at now seen.rx ≡ false → kept ≡ length (kept_numbers seen.rx) → 1 ≤ kept → lines ≡ ledger → length lines + kept ≤ room → Becomes (GivesUpAll now (λ r. r) lines room lines') at conns conns' → ledger' ≡ lines' → ForgetsIn now at (flows_of ends conns) ledger (Ok true) (flows_of ends conns') ledger'
forgets_from now at ends conns conns' ledger ledger' lines lines' room kept seen here absent count some lines_is fits become put = (
  (λ k h.
      let is : seen ≡ k = same_at (slice_get conns at) seen k here h in
      (ap (λ (x : Conn). present_at now x.rx) (sym is) ∙ absent, (λ none. let zero' : length (kept_numbers k.rx) ≡ 0 = ap (λ (ns : List ℕ). length ns) none in let same = ap (λ (x : Conn). length (kept_numbers x.rx)) is in absurd (omega arith)))),
  (λ g ls end journal t is state.
      let b = become seen here in
      let new : Conn = b.0 in
      let G = b.1 in
      let r = reached g now at ends conns ls end journal t is state in
      let is_at : IsAt ends conns at end seen = record { end_is = is; conn_is = here } in
      let h = t.receives at r.from end seen r.line is_at state r.inbound in
      let H = forgets_at g now ends conns ls at r.from end seen new r.line G.writes.taken journal t is_at state r.inbound (clock_of g now ends conns ls end r.from r.line t r.inbound) absent G.writes.drained G.writes.none (ap (λ (x : Conn). x.plan) G.new_is) (ap (λ (x : Conn). x.waiting) G.new_is) (ap (λ (x : Conn). x.sending) G.new_is) in
      let all : drops now seen.rx ≡ G.writes.taken = drained_all now seen.rx G.writes.taken new.rx G.writes.drained G.writes.none in
      let most = drops_count now seen.rx h.broken in
      let taken : length G.writes.taken ≤ length (kept_numbers seen.rx) = (let e = ap (λ (ds : List (Key × Cause)). length ds) all in omega arith) in
      let noted : lines' ≡ lines ++ offs_of G.writes.taken = G.writes.noted (omega arith) in
      let T : List End → List Conn → Type 0 = λ xs ks. IsTied g now xs ks H.lines' in
      record {
        lines' = H.lines';
        offs = offs_of G.writes.taken;
        forgets = H.forgets;
        ledger_is = put ∙ noted ∙ ap (λ (xs : List Off). xs ++ offs_of G.writes.taken) lines_is;
        same = refl;
        tied = subst (T ends) (sym b.2) (subst (λ (xs : List End). T xs (slice_set conns at new)) (slice_set-same ends at end is) H.tied);
        ids = ap conns_of b.2 ∙ same_ids conns at seen new here (ap (λ (x : Conn). ids_of x) G.new_is);
      }),
)

pub stops_from : (now at : ℕ) (state : PortState) (ends ends' : List End) (conns conns' : List Conn) (ledger ledger' lines lines' : List Off) (room kept : ℕ) (seen : Conn) → slice_get conns at ≡ Some seen → kept ≡ length (kept_numbers seen.rx) → lines ≡ ledger → length lines + kept ≤ room → Becomes (GivesUpAll now closed lines room lines') at conns conns' → ledger' ≡ lines' → ((e : End) → slice_get ends at ≡ Some e → ends' ≡ slice_set ends at (record e { state = state })) → StopsIn now at state (flows_of ends conns) ledger (Ok tt) (flows_of ends' conns') ledger'
stops_from now at state ends ends' conns conns' ledger ledger' lines lines' room kept seen here count lines_is fits become put set = λ g ls end journal t is allocated moves other.
    let b = become seen here in
    let new : Conn = b.0 in
    let G = b.1 in
    let r = reached g now at ends conns ls end journal t is allocated in
    let is_at : IsAt ends conns at end seen = record { end_is = is; conn_is = here } in
    let h = t.receives at r.from end seen r.line is_at allocated r.inbound in
    let all : drops now (closed seen.rx) ≡ G.writes.taken = drained_all now (closed seen.rx) G.writes.taken new.rx G.writes.drained G.writes.none in
    let H = ends_at g now ends conns ls at r.from end seen new r.line state G.writes.taken journal t is_at allocated moves other r.inbound all (ap (λ (x : Conn). x.sending) G.new_is) in
    let most = drops_count now (closed seen.rx) h.broken in
    let taken : length G.writes.taken ≤ length (kept_numbers seen.rx) = (let e = ap (λ (ds : List (Key × Cause)). length ds) all in omega arith) in
    let noted : lines' ≡ lines ++ offs_of G.writes.taken = G.writes.noted (omega arith) in
    let ends_are : ends' ≡ slice_set ends at (record end { state = state }) = set end is in
    record {
      offs = offs_of G.writes.taken;
      stops = subst (λ (xs : List End). EndsAt ends (conns_of conns) ls at state (offs_of G.writes.taken) xs) (sym ends_are) H.stops;
      ledger_is = put ∙ noted ∙ ap (λ (xs : List Off). xs ++ offs_of G.writes.taken) lines_is;
      tied = subst (λ (ks : List Conn). IsTied g now ends' ks ls) (sym b.2) (subst (λ (xs : List End). IsTied g now xs (slice_set conns at new) ls) (sym ends_are) H.tied);
      ids = ap conns_of b.2 ∙ same_ids conns at seen new here (ap (λ (x : Conn). ids_of x) G.new_is);
    }
