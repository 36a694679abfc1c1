-- How a PDU that arrived is handled.
use Rattle.std.proofs.Common.{◌≡◌, ◌∙◌, ℕ, ◌<◌, List, [], ◌∷◌, length, map, get_or, slice_get, slice_set, Option, Some, Result, Ok, Err, refl, sym, ap, subst, inl}
use Rattle.std.specs.Prelude.{IsSome, OnErr, OnOk}
use Rattle.std.proofs.lemmas.Option.{slice_get_read}
use Rattle.rina_account.specs.declared.ledger.Off.{Off}
use Rattle.rina_base.specs.declared.cause.Cause.{Cause}
use Rattle.rina_base.specs.declared.cause.Cause.TheVariants as causes
use Rattle.rina_base.specs.declared.memory.Memory.{Memory as NoMemory}
use Rattle.rina_base.specs.declared.pdu.Pdu.{Pdu}
use Rattle.rina_iface.specs.Seen.{Seen}
use Rattle.rina_iface.proofs.Changed.{slice_set-same}
use Rattle.rina_law.specs.Direction.{Direction}
use Rattle.rina_dif_law.specs.Accounted.{IsAccounted}
use Rattle.rina_data.specs.declared.process.IpcProcess.{IpcProcess}
use Rattle.rina_data.specs.declared.step.Decision.{Decision}
use Rattle.rina_data.specs.declared.step.Decision.TheVariants as decision
use Rattle.rina_data.specs.declared.step.Took.{Took}
use Rattle.rina_data.specs.declared.step.Took.TheVariants as took
use Rattle.rina_data.specs.Hops.{Hop}
use Rattle.rina_data.specs.Deciding.{Decides, IsRouted, process_of, queue_settings}
use Rattle.rina_dif_law.specs.Dif.{DifSeen, IsProcess, with_process}
use Rattle.rina_data.specs.Configs.{Member, config_of}
use Rattle.rina_data.specs.Process.{Process, with_offs}
use Rattle.rina_dif_law.specs.Incoming.{Settles}
use Rattle.rina_data.specs.Queueing.{Notes}
use Rattle.rina_dif_law.specs.Carried.{IsCarrying}
use Rattle.rina_dif_law.specs.Caused.{AreCaused}
use Rattle.rina_dif_law.specs.Numbered.{IsNumbered}
use Rattle.rina_dif_law.specs.Standing.{IsStanding}
use Rattle.rina_dif_law.proofs.Decided.{off_settles, relayed_settles}
use Rattle.rina_dif_law.specs.Written.{AreWrittenOff}
use Rattle.rina_data.proofs.Plain.{same_place}
use Rattle.rina_flows.specs.declared.flows.Flows.{Flows}
use Rattle.rina_flows.specs.Delivering.{ArrivesIn}
use Rattle.rina_dif.specs.declared.dif.Dif.{Dif}
use Rattle.rina_dif.specs.Holding.{Holds, Stands}
use Rattle.rina_dif.specs.Shown.{seen_of}
use Rattle.rina_dif.specs.Taking.{ArrivesOnLink, ArrivesTo, Comes, DecidesAt, IsForLink, IsNoted, NotesAt, RoutesAt, SettlesFor}
use Rattle.rina_dif.proofs.Keeping.{AreHome, IsSameHouse, home_set, house_is, kept_house, put_house, same_house}
use Rattle.rina_dif.proofs.Leaves.{has_process, shown_at, stepped}
use Rattle.rina_channel.specs.Changes.{LeavesLinks}
use Rattle.rina_channel.specs.Ledgers.{unnamed_from}
use Rattle.rina_dif.specs.Connected.{AreConnected}
use Rattle.rina_dif.proofs.Connected.{decides_leave, kept_by, no_hop}
use Rattle.rina_dif.proofs.LinkEnds.{live_floods}

same_some : {X : Type 0} (o : Option X) (a b : X) → o ≡ Some a → o ≡ Some b → a ≡ b
same_some o a b h g = cc

-- One IPC process of those that are kept

pub decides_one : (now addr since : ℕ) (hop : Hop) (r : Result Decision NoMemory) (at : ℕ) (ps : List IpcProcess) (x x' : IpcProcess) → at < length ps → x ≡ get_or ps at x → Decides x.queues.cap now addr (process_of x) since hop r (process_of x') → queue_settings x' ≡ queue_settings x → DecidesAt now addr since hop r at ps (slice_set ps at x')
decides_one now addr since hop r at ps x x' lt read decides room p is =
    let here : slice_get ps at ≡ Some x = slice_get_read ps (length ps) at x refl lt read in
    let same : x ≡ p = same_some (slice_get ps at) x p here is in
    (x', subst (λ (z : IpcProcess). Decides z.queues.cap now addr (process_of z) since hop r (process_of x')) same decides, subst (λ (z : IpcProcess). queue_settings x' ≡ queue_settings z) same room, refl)

pub routes_one : (hop : Hop) (at : ℕ) (ps : List IpcProcess) (x : IpcProcess) → at < length ps → x ≡ get_or ps at x → RoutesAt hop at ps → IsRouted x hop
routes_one hop at ps x lt read routes = routes x (slice_get_read ps (length ps) at x refl lt read)

pub notes_one : (pdu : Pdu) (cause : Cause) (r : Result (Unit {0}) NoMemory) (at : ℕ) (ps : List IpcProcess) (x x' : IpcProcess) → at < length ps → x ≡ get_or ps at x → IsNoted (process_of x) pdu cause r (process_of x') → queue_settings x' ≡ queue_settings x → NotesAt pdu cause r at ps (slice_set ps at x')
notes_one pdu cause r at ps x x' lt read noted room p is =
    let here : slice_get ps at ≡ Some x = slice_get_read ps (length ps) at x refl lt read in
    let same : x ≡ p = same_some (slice_get ps at) x p here is in
    (x', subst (λ (z : IpcProcess). IsNoted (process_of z) pdu cause r (process_of x')) same noted, subst (λ (z : IpcProcess). queue_settings x' ≡ queue_settings z) same room, refl)

pub noted_by : (process : Process) (pdu : Pdu) (cause : Cause) (r : Result (Unit {0}) NoMemory) (process' : Process) → OnOk r (Notes process pdu cause process') → OnErr r (process' ≡ process) → IsNoted process pdu cause r process'
noted_by process pdu cause (Ok u) process' ok err = ok
noted_by process pdu cause (Err e) process' ok err = err

pub arrives_one : (now place : ℕ) (pdu : Pdu) (at : ℕ) (flows flows' : Flows) (r : Result (Option Cause) NoMemory) (ps : List IpcProcess) (x : IpcProcess) (ledger : List Off) → at < length ps → x ≡ get_or ps at x → ArrivesIn now place pdu flows x.ledger r flows' ledger → ArrivesTo now place pdu at flows ps r flows' (slice_set ps at (record x { ledger = ledger }))
arrives_one now place pdu at flows flows' r ps x ledger lt read arrives p is =
    let here : slice_get ps at ≡ Some x = slice_get_read ps (length ps) at x refl lt read in
    let same : x ≡ p = same_some (slice_get ps at) x p here is in
    (ledger, subst (λ (z : IpcProcess). ArrivesIn now place pdu flows z.ledger r flows' ledger) same arrives, ap (λ (z : IpcProcess). slice_set ps at (record z { ledger = ledger })) same)

-- and at a management connection
pub arrives_one_on_link : (now place : ℕ) (pdu : Pdu) (at : ℕ) (flows flows' : Flows) (cause : Option Cause) (ps : List IpcProcess) (x : IpcProcess) (ledger ledger' : List Off) → ledger' ≡ unnamed_from (length x.ledger) ledger → at < length ps → x ≡ get_or ps at x → ArrivesIn now place pdu flows x.ledger (Ok cause) flows' ledger → ArrivesOnLink now place pdu at flows ps (Ok cause) flows' (slice_set ps at (record x { ledger = ledger' }))
arrives_one_on_link now place pdu at flows flows' cause ps x ledger ledger' are lt read arrives p is =
    let here : slice_get ps at ≡ Some x = slice_get_read ps (length ps) at x refl lt read in
    let same : x ≡ p = same_some (slice_get ps at) x p here is in
    (ledger, subst (λ (z : IpcProcess). ArrivesIn now place pdu flows z.ledger (Ok cause) flows' ledger) same arrives, ap (λ (zs : List Off). slice_set ps at (record x { ledger = zs })) are ∙ ap (λ (z : IpcProcess). slice_set ps at (record z { ledger = unnamed_from (length z.ledger) ledger })) same)

-- The queues keep their places

pub off_house : (p : Process) (lines : List Off) → IsSameHouse p (with_offs p lines)
off_house p lines = kept_house p (with_offs p lines) refl refl refl

pub decides_same : (cap now addr : ℕ) (p : Process) (since : ℕ) (hop : Hop) (r : Result Decision NoMemory) (p' : Process) → Decides cap now addr p since hop r p' → IsSameHouse p p'
decides_same cap now addr p since hop (Ok decision.Here) p' s = house_is p p p' s.2 (same_house p)
decides_same cap now addr p since hop (Ok decision.Relayed) p' s =
    let q = s.2 in
    house_is p _ p' q.new_is (put_house p hop.pdu.qos q.link q.place q.queue (record { pdu = hop.pdu; left = hop.left; since = since } ∷ []) q.is_queue (inl (hop.pdu.dst, q.next)))
decides_same cap now addr p since hop (Ok (decision.Off (causes.Expired left charge))) p' s = house_is p _ p' s.3 (off_house p _)
decides_same cap now addr p since hop (Ok (decision.Off (causes.NoRoute dst))) p' s = house_is p _ p' s.2.2 (off_house p _)
decides_same cap now addr p since hop (Ok (decision.Off (causes.QueueFull n))) p' s = house_is p _ p' s.2.2 (off_house p _)
decides_same cap now addr p since hop (Ok (decision.Off (causes.NoConnection cep))) p' s = absurd s.2
decides_same cap now addr p since hop (Ok (decision.Off (causes.Duplicate num))) p' s = absurd s.2
decides_same cap now addr p since hop (Ok (decision.Off (causes.Behind highest))) p' s = absurd s.2
decides_same cap now addr p since hop (Ok (decision.Off (causes.NoState drf))) p' s = absurd s.2
decides_same cap now addr p since hop (Ok (decision.Off (causes.NoRoom n))) p' s = absurd s.2
decides_same cap now addr p since hop (Ok (decision.Off (causes.StateGone last_in))) p' s = absurd s.2
decides_same cap now addr p since hop (Ok (decision.Off (causes.Broken missing))) p' s = absurd s.2
decides_same cap now addr p since hop (Ok (decision.Off (causes.LinkDown port))) p' s = absurd s.2
decides_same cap now addr p since hop (Err e) p' s = house_is p p p' s (same_house p)

-- What a step finds

pub will_route : (d : Dif) (since : ℕ) (hop : Hop) (at : ℕ) → Comes d since hop → RoutesAt hop at d.processes
will_route d since hop at comes p is link next =
    let holds = comes.2 in
    let has = (holds.housed at p is).queues hop.pdu.dst link hop.pdu.qos next comes.3.fit.qos in
    subst (λ (o : Option ℕ). IsSome o) (same_place hop.pdu.qos link p.queues.queues.items) has

-- The DIF after one of its IPC processes changed

-- in nothing that is seen
pub holds_unseen : (d : Dif) (ps : List IpcProcess) (lines : List Direction) (below : Seen) → seen_of (record d { processes = ps }) ≡ seen_of d → AreHome d ps → Holds d lines below → Holds (record d { processes = ps }) lines below
holds_unseen d ps lines below same house h = record {
  tied = h.tied;
  standing = subst (λ (z : DifSeen). IsStanding z lines below) (sym same) h.standing;
  carrying = subst (λ (z : DifSeen). IsCarrying z lines below) (sym same) h.carrying;
  numbered = subst (λ (z : DifSeen). IsNumbered z below) (sym same) h.numbered;
  accounted = subst (λ (z : DifSeen). IsAccounted z lines below) (sym same) h.accounted;
  caused = subst (λ (z : DifSeen). AreCaused z below) (sym same) h.caused;
  written_off = subst AreWrittenOff (sym same) h.written_off;
  housed = house.housed;
  managed = house.managed;
  enrolled = h.enrolled;
  connected = subst (λ (z : DifSeen). AreConnected (config_of d.settings) d.clock d.connections z.processes below) (sym same) h.connected;
  flooded = λ alive. live_floods d ps house.live (h.flooded alive);
}

pub unseen : (d : Dif) (at : ℕ) (p p' : IpcProcess) (ps : List IpcProcess) → slice_get d.processes at ≡ Some p → process_of p' ≡ process_of p → ps ≡ slice_set d.processes at p' → seen_of (record d { processes = ps }) ≡ seen_of d
unseen d at p p' ps is same new =
    stepped d at p' ps new ∙ ap (with_process (seen_of d) at) same ∙ ap (λ (qs : List Process). record (seen_of d) { processes = qs }) (slice_set-same (map process_of d.processes) at (process_of p) (shown_at d at p is))

-- whatever the error is
pub settles_err : (d : Dif) (at since : ℕ) (hop : Hop) (e e' : NoMemory) (r : Result Took NoMemory) (d' : Dif) → SettlesFor d at since hop (Err e) d' → r ≡ Err e' → SettlesFor d at since hop r d'
settles_err d at since hop e e' r d' s is = subst (λ (v : Result Took NoMemory). SettlesFor d at since hop v d') (sym is) s

pub decided_err : (d : Dif) (addr at since : ℕ) (hop : Hop) (e : NoMemory) (ps : List IpcProcess) → at < length d.settings.members → DecidesAt d.clock addr since hop (Err e) at d.processes ps → SettlesFor d at since hop (Err e) (record d { processes = ps })
decided_err d addr at since hop e ps lt decides lines below h there =
    let st : Stands d below = (lines, h) in
    let p = has_process d below at st lt in
    let x = decides p.0 p.1 in
    let same = unseen d at p.0 x.0 ps p.1 x.1 x.3 in
    let house = home_set d lines below at p.0 x.0 ps h p.1 x.2 (decides_same p.0.queues.cap d.clock addr (process_of p.0) since hop (Err e) (process_of x.0) x.1) x.3 in
    (same, holds_unseen d ps lines below same house h)

-- the own decision stands in what is seen
decided_there : (d : Dif) (at : ℕ) (p : IpcProcess) (member : Member) (process : Process) → slice_get d.processes at ≡ Some p → IsProcess (seen_of d) at member process → process_of p ≡ process
decided_there d at p member process is q = same_some (slice_get (seen_of d).processes at) (process_of p) process (shown_at d at p is) q.is_process

pub decided : (d : Dif) (addr at since : ℕ) (hop : Hop) (s : Decision) (end : Took) (ps : List IpcProcess) → at < length d.settings.members → ((member : Member) → slice_get (seen_of d).config.members at ≡ Some member → addr ≡ member.addr) →
    ((p p' : Process) (lines : List Direction) (member : Member) → Decides d.settings.cap d.clock member.addr p since hop (Ok s) p' → Settles (seen_of d) lines at member p since hop end (with_process (seen_of d) at p') lines) →
    DecidesAt d.clock addr since hop (Ok s) at d.processes ps → SettlesFor d at since hop (Ok end) (record d { processes = ps })
decided d addr at since hop s end ps lt is_addr settles decides lines below h there =
    let st : Stands d below = (lines, h) in
    let p = has_process d below at st lt in
    let x = decides p.0 p.1 in
    let cap = (h.housed at p.0 p.1).cap in
    let house = home_set d lines below at p.0 x.0 ps h p.1 x.2 (decides_same p.0.queues.cap d.clock addr (process_of p.0) since hop (Ok s) (process_of x.0) x.1) x.3 in
    record {
      lines' = lines;
      settled = λ member process q.
          let same = decided_there d at p.0 member process p.1 q in
          let addressed : Decides d.settings.cap d.clock member.addr (process_of p.0) since hop (Ok s) (process_of x.0) = subst (λ (a : ℕ). Decides d.settings.cap d.clock a (process_of p.0) since hop (Ok s) (process_of x.0)) (is_addr member q.is_member) (subst (λ (n : ℕ). Decides n d.clock addr (process_of p.0) since hop (Ok s) (process_of x.0)) cap x.1) in
          let all = settles (process_of p.0) (process_of x.0) lines member addressed in
          subst (λ (z : Process). Settles (seen_of d) lines at member z since hop end (seen_of (record d { processes = ps })) lines) same (subst (λ (z : DifSeen). Settles (seen_of d) lines at member (process_of p.0) since hop end z lines) (sym (stepped d at x.0 ps x.3)) all);
      tied = h.tied;
      housed = house.housed;
      managed = house.managed;
      enrolled = h.enrolled;
      connected = λ down. kept_by (config_of d.settings) d.clock d.connections (seen_of d).processes (map process_of ps) down (λ may. subst (λ (z : DifSeen). LeavesLinks (seen_of d).processes z.processes) (sym (stepped d at x.0 ps x.3)) (decides_leave p.0.queues.cap d.clock addr (seen_of d).processes at (process_of p.0) since hop (Ok s) (process_of x.0) (shown_at d at p.0 p.1) (no_hop (config_of d.settings) d.laid.is_static d.settings.members d.laid.links d.clock d.processes d.managements at p.0 refl h.standing.aligned may.zero h.managed p.1) x.1));
      flooded = λ f alive. live_floods d ps house.live (f alive);
    }

pub decided_relayed : (d : Dif) (addr at since : ℕ) (hop : Hop) (ps : List IpcProcess) → at < length d.settings.members → (IsForLink d since hop → ⊥) → ((member : Member) → slice_get (seen_of d).config.members at ≡ Some member → addr ≡ member.addr) → DecidesAt d.clock addr since hop (Ok decision.Relayed) at d.processes ps → SettlesFor d at since hop (Ok took.Relayed) (record d { processes = ps })
decided_relayed d addr at since hop ps lt flow is_addr decides =
    decided d addr at since hop decision.Relayed took.Relayed ps lt is_addr (λ p p' lines member s. relayed_settles (seen_of d) lines at member p p' since hop (λ time of. flow (time, of)) s) decides

pub decided_off : (d : Dif) (addr at since : ℕ) (hop : Hop) (cause : Cause) (ps : List IpcProcess) → at < length d.settings.members → (IsForLink d since hop → ⊥) → ((member : Member) → slice_get (seen_of d).config.members at ≡ Some member → addr ≡ member.addr) → DecidesAt d.clock addr since hop (Ok (decision.Off cause)) at d.processes ps → SettlesFor d at since hop (Ok (took.Off cause)) (record d { processes = ps })
decided_off d addr at since hop cause ps lt flow is_addr decides =
    decided d addr at since hop (decision.Off cause) (took.Off cause) ps lt is_addr (λ p p' lines member s. off_settles (seen_of d) lines at member p p' since hop cause (λ time of. flow (time, of)) s) decides
