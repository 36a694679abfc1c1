-- A DIF without flows stands.
use Rattle.std.proofs.Common.{◌≡◌, ◌∙◌, ℕ, ◌+◌, ◌-◌, ◌*◌, ◌^◌, Bool, List, [], ◌∷◌, ◌++◌, length, map, slice_get, option_map, Option, Some, None, refl, sym, ap, subst, arith, inl, inr, ◌⊎◌}
use Rattle.std.specs.Prelude.{IsSome}
use Rattle.std.proofs.lemmas.Bool.{false≢true}
use Rattle.std.proofs.lemmas.List.{length-map}
use Rattle.std.proofs.lemmas.Option.{slice_get-map}
use Rattle.rina_access.specs.declared.rules.Rule.{Rule}
use Rattle.rina_base.specs.declared.number.Port.{Port}
use Rattle.rina_iface.specs.declared.ends.End.{End}
use Rattle.rina_iface.specs.Journal.{AreKept}
use Rattle.rina_iface.specs.Seen.{Seen, end_of}
use Rattle.rina_iface.proofs.Grown.{pushed_at}
use Rattle.rina_queue.specs.declared.queue.Queued.{Queued}
use Rattle.rina_conn.specs.declared.conn.Conn.{Conn}
use Rattle.rina_flows.specs.Tied.{ids_of}
use Rattle.rina_data.specs.declared.link.Link.{Link}
use Rattle.rina_data.specs.declared.link.Route.{Route}
use Rattle.rina_data.specs.declared.process.IpcProcess.{IpcProcess}
use Rattle.rina_data.specs.declared.settings.Settings.{Settings}
use Rattle.rina_dif_law.specs.Cloud.{IsMine, Waits}
use Rattle.rina_data.specs.Configs.{Member, config_of, member_of}
use Rattle.rina_data.specs.Deciding.{plain, process_of}
use Rattle.rina_data.specs.Process.{Process, Queue, next_hop, queue_place}
use Rattle.rina_dif_law.specs.Numbered.{AreDrawn, AreMembers}
use Rattle.rina_dif_law.specs.Standing.{HasLink, IsConfig, IsInside, IsLinked}
use Rattle.rina_dif_law.specs.Start.{IsStart}
use Rattle.rina_dif_law.proofs.Carries.{start_carries}
use Rattle.rina_dif_law.proofs.Founding.{start_accounted}
use Rattle.rina_dif_law.proofs.Numbering.{start_numbered}
use Rattle.rina_dif_law.proofs.Starting.{start_stands}
use Rattle.rina_dif_law.proofs.Warranted.{blank_written}
use Rattle.rina_ids.specs.Members.{AreUndrawn, CepIds}
use Rattle.rina_pci.specs.Spelling.{AreWidths}
use Rattle.rina_member.specs.Short.{AreNamed}
use Rattle.rina_dif.specs.declared.dif.Dif.{Dif}
use Rattle.rina_dif.specs.Building.{AreBare, IsBare, IsFree}
use Rattle.rina_dif.specs.Holding.{AreHoused, Holds}
use Rattle.rina_dif.specs.Managing.{AreEnrolled, AreManaged, AreStarted}
use Rattle.rina_dif.specs.Shown.{seen_of}
use Rattle.rina_dif.proofs.Causing.{none_caused}
use Rattle.rina_dif.proofs.Linked.{has_id}
use Rattle.rina_dif.proofs.Started.{bare_managed}
use Rattle.rina_dif.proofs.WaitsOnLive.{none_on_live}
use Rattle.rina_dif.specs.Connected.{AreConnected, CanManage}
use Rattle.rina_dif.proofs.Connected.{none_connected}
use Rattle.rina_dif.specs.Flooding.{AreFlooding}

pub none_in : {X : Type 0} (i : ℕ) (x : X) (xs : List X) → xs ≡ [] → slice_get xs i ≡ Some x → ⊥
none_in i x xs none is = (let e : slice_get [] i ≡ Some x = subst (λ ys. slice_get ys i ≡ Some x) none is in cc)

pub map_at : {X Y : Type 0} (f : X → Y) (xs : List X) (i : ℕ) (y : Y) → slice_get (map f xs) i ≡ Some y → (x : X) × (slice_get xs i ≡ Some x) × (f x ≡ y)
map_at f xs i y is = found (slice_get xs i) refl
  where
    found : (o : Option _) → slice_get xs i ≡ o → (x : _) × (slice_get xs i ≡ Some x) × (f x ≡ y)
    found None e = absurd (let n : Some y ≡ None = sym is ∙ slice_get-map f xs i ∙ ap (option_map f) e in cc)
    found (Some x) e = (x, e, let s : Some y ≡ Some (f x) = sym is ∙ slice_get-map f xs i ∙ ap (option_map f) e in cc)

no_link : (settings : Settings) (ps : List IpcProcess) (i : ℕ) (link : Link) → AreBare settings ps → HasLink (map process_of ps) i link → ⊥
no_link settings ps i link bare h =
    let p = map_at process_of ps i h.process h.is_process in
    let none : h.process.links ≡ [] = ap (λ (z : Process). z.links) (sym p.2) ∙ (bare.each i p.0 p.1).links in
    none_in h.place link h.process.links none h.stands

no_item : (settings : Settings) (ps : List IpcProcess) (i n : ℕ) (item : Queued) → AreBare settings ps → Waits (map process_of ps) i n item → ⊥
no_item settings ps i n item bare w =
    let p = map_at process_of ps i w.process w.is_process in
    let none : w.process.queues ≡ [] = ap (λ (z : Process). z.queues) (sym p.2) ∙ ap (map plain) (bare.each i p.0 p.1).queues in
    none_in w.place w.queue w.process.queues none w.is_queue

pub no_hop : (dst link : ℕ) (routes : List Route) → routes ≡ [] → next_hop dst routes ≡ Some link → ⊥
no_hop dst link routes none is = (let e : next_hop dst [] ≡ Some link = subst (λ rs. next_hop dst rs ≡ Some link) none is in cc)

no_queue : (qos link : ℕ) (queues : List Queue) → queues ≡ [] → IsSome (queue_place qos link queues) → ⊥
no_queue qos link queues none some = false≢true (subst (λ (qs : List Queue). IsSome (queue_place qos link qs)) none some)

-- a DIF without flows starts, where its links are those of its members below, and nothing was sent
pub starts : (d : Dif) (below : Seen) → d.flows.journal.ends ≡ [] → d.flows.conns ≡ [] → IsConfig (config_of d.settings) → d.clock ≡ below.now → length d.processes ≡ length d.settings.members
    → ((i : ℕ) (member : Member) (link : Link) → slice_get (config_of d.settings).members i ≡ Some member → HasLink (map process_of d.processes) i link → IsLinked below member.name link.port)
    → ((port : Port) (end : End) → end_of below port ≡ Some end → IsMine (config_of d.settings).members end.app ⊎ IsMine (config_of d.settings).members end.peer → IsInside (config_of d.settings) below port end)
    → ((port : Port) (end : End) → end_of below port ≡ Some end → IsMine (config_of d.settings).members end.app → end.sent ≡ [])
    → ((i n : ℕ) (item : Queued) → Waits (map process_of d.processes) i n item → ⊥)
    → IsStart (seen_of d) [] below
starts d below ends conns config clock same linked inside silent idle =
    let ps = length-map d.processes process_of in
    let ms = length-map d.settings.members member_of in
    record {
      config = config;
      clock = clock;
      aligned = omega (arith, same, ps, ms);
      linked = linked;
      inside = inside;
      silent = silent;
      idle = idle;
      no_ends = ends;
      no_conns = ap (map ids_of) conns;
      no_lines = refl;
    }

-- nothing was taken from below or written off yet
pub record IsUntouched (d : Dif) (below : Seen) : Type 0 where
  pub unread : (port : Port) (e : End) → end_of below port ≡ Some e → IsMine (config_of d.settings).members e.app → e.taken ≡ 0
  pub clean : (i : ℕ) (p : IpcProcess) → slice_get d.processes i ≡ Some p → p.ledger ≡ []

-- no id was drawn yet, and the greatest is that of the width
power_cep : (w : ℕ) → (w ≡ 1) ⊎ ((w ≡ 2) ⊎ (w ≡ 4)) → 256 ^ w - 1 ≡ 2 ^ (8 * w) - 1
power_cep w (inl e) = rw e refl
power_cep w (inr (inl e)) = rw e refl
power_cep w (inr (inr e)) = rw e refl

none_drawn : (settings : Settings) (held : List CepIds) (ends : List End) → AreWidths settings.widths → AreUndrawn settings.widths.cep (length settings.members) held → AreDrawn (config_of settings) ends held
none_drawn settings held ends widths undrawn = record {
  aligned = undrawn.aligned ∙ sym (length-map settings.members member_of);
  greatest = λ i ids is. ap (λ (z : CepIds). z.0) (undrawn.undrawn i ids is) ∙ power_cep settings.widths.cep widths.cep;
  few = λ i member ids is_member is. (let none = ap (λ (z : CepIds). length z.1) (undrawn.undrawn i ids is) in omega (arith, none));
}

-- and stands
pub start_holds : (d : Dif) (below : Seen) → AreKept below → d.flows.journal.ends ≡ [] → d.flows.conns ≡ [] → IsStart (seen_of d) [] below → IsUntouched d below → AreMembers (config_of d.settings) → AreUndrawn d.settings.widths.cep (length d.settings.members) d.ids → AreHoused (config_of d.settings) d.processes → AreManaged d → AreEnrolled d → AreConnected (config_of d.settings) d.clock d.connections (seen_of d).processes below → AreFlooding d → Holds d [] below
start_holds d below kept ends conns s untouched members undrawn housed managed enrolled connected floods =
    let no_ends : length d.flows.journal.ends ≡ 0 = ap (λ (es : List End). length es) ends in
    let no_conns : length d.flows.conns ≡ 0 = ap (λ (ks : List Conn). length ks) conns in
    let clean : (i : ℕ) (process : Process) → slice_get (seen_of d).processes i ≡ Some process → process.ledger ≡ [] = λ i process is. (let p = map_at process_of d.processes i process is in ap (λ (z : Process). z.ledger) (sym p.2) ∙ untouched.clean i p.0 p.1) in
    record {
      tied = record {
        alike = omega (arith, no_ends, no_conns);
        lines_alike = omega (arith, no_ends);
        sends = λ at conn line c l. absurd (none_in at conn d.flows.conns conns c);
        receives = λ at from end conn line is allocated inbound. absurd (none_in at conn d.flows.conns conns is.conn_is);
        unused = λ at end conn is unused. absurd (none_in at conn d.flows.conns conns is.conn_is);
        early = λ at from end line is waits inbound. absurd (none_in at end d.flows.journal.ends ends is);
      };
      standing = start_stands (seen_of d) [] below s;
      carrying = start_carries (seen_of d) [] below s;
      numbered = start_numbered (seen_of d) [] below s members (λ i e ids conn. absurd (none_in i e d.flows.journal.ends ends conn.end)) (λ i e is. absurd (none_in i e d.flows.journal.ends ends is)) (none_drawn d.settings d.ids d.flows.journal.ends s.config.widths undrawn);
      accounted = start_accounted (seen_of d) [] below kept s (record {
        unread = untouched.unread;
        clean = clean;
      });
      caused = none_caused (seen_of d) below ends;
      written_off = blank_written (seen_of d) clean;
      housed = housed;
      managed = managed;
      enrolled = enrolled;
      connected = connected;
      flooded = λ alive. floods;
    }

-- so does a DIF without links
pub bare_holds : (d : Dif) (below : Seen) → AreKept below → d.flows.journal.ends ≡ [] → d.flows.conns ≡ [] → d.connections.channels ≡ [] → d.connections.flows.journal.ends ≡ [] → d.connections.flows.conns ≡ [] → d.laid.links ≡ [] → AreBare d.settings d.processes → (rules : List Rule) (allow : Bool) → AreStarted d.laid.is_static d.settings.cubes d.settings.members d.laid.links rules allow (length d.settings.members) d.processes d.managements → CanManage (config_of d.settings) d.connections.manage → AreMembers (config_of d.settings) → AreNamed d.settings.members → (AreWidths d.settings.widths → AreUndrawn d.settings.widths.cep (length d.settings.members) d.ids) → d.clock ≡ below.now → IsFree (config_of d.settings) below → AreEnrolled d → AreFlooding d → Holds d [] below
bare_holds d below kept ends conns channels link_ends link_conns laid bare rules allow started can members named undrawn clock free enrolled floods =
    let config : IsConfig (config_of d.settings) = can.managed.config in
    let start = starts d below ends conns config clock bare.aligned (λ i member link is has. absurd (no_link d.settings d.processes i link bare has)) (λ port end here mine. absurd (free port end here mine)) (λ port end here mine. absurd (free port end here (inl mine))) (λ i n item waits. no_item d.settings d.processes i n item bare waits) in
    let untouched : IsUntouched d below = record { unread = λ port e here mine. absurd (free port e here (inl mine)); clean = λ i p is. (bare.each i p is).ledger } in
    start_holds d below kept ends conns start untouched members (undrawn config.widths) (λ i p is. (let b = bare.each i p is in record {
      cap = b.room;
      links = λ place qos link stands live known. absurd (none_in place link p.links b.links stands);
      queues = λ dst link qos hop known. absurd (no_hop dst link p.routes b.routes hop);
      cubes = λ qos known. b.ids.all qos (has_id d.settings qos known);
      whole = λ number a c some known. absurd (no_queue a number (process_of p).queues (ap (map plain) b.queues) some);
      waits = none_on_live (process_of p) (λ place queue there. absurd (none_in place queue (process_of p).queues (ap (map plain) b.queues) there));
    })) (bare_managed d.laid.is_static d.settings d.laid.links rules allow d.clock d.processes d.managements laid bare config members named started) enrolled
    (none_connected (config_of d.settings) d.clock d.connections (seen_of d).processes below channels link_ends link_conns clock can (λ i n p x. no_link d.settings d.processes i x.link bare (record { process = x.process; is_process = x.is_process; place = x.place; stands = x.stands }))) floods

-- One by one

pub record AreBareSo (settings : Settings) (count : ℕ) (processes : List IpcProcess) : Type 0 where
  pub aligned : length processes ≡ count
  pub each : (i : ℕ) (p : IpcProcess) → slice_get processes i ≡ Some p → IsBare settings p

pub none_bare : (settings : Settings) → AreBareSo settings 0 []
none_bare settings = record { aligned = refl; each = λ i p is. absurd (none_in i p [] refl is) }

pub one_more : (settings : Settings) (count : ℕ) (ps new : List IpcProcess) (p : IpcProcess) → AreBareSo settings count ps → IsBare settings p → new ≡ ps ++ p ∷ [] → AreBareSo settings (count + 1) new
one_more settings count ps new p so bare is = subst (λ (qs : List IpcProcess). AreBareSo settings (count + 1) qs) (sym is) (record {
  aligned = (let e = so.aligned in length_push ps p ∙ omega (arith, e));
  each = λ i q at. elim (pushed_at ps p i q at) [ inl before ↦ so.each i q before | inr last ↦ subst (IsBare settings) (sym last.1) bare ];
})
  where
    length_push : (xs : List IpcProcess) (x : IpcProcess) → length (xs ++ x ∷ []) ≡ length xs + 1
    length_push [] x = refl
    length_push (y ∷ ys) x = (let rest = length_push ys x in omega (arith, rest))
