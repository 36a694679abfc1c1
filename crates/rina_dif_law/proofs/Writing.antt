-- What the lines of the ledgers say stays true, as lines are added and the DIF goes on.
use Rattle.std.proofs.Common.{◌≡◌, ◌≢◌, ℕ, ◌+◌, ◌*◌, ◌^◌, ◌<◌, ◌≤◌, ◌⊎◌, List, [], ◌∷◌, ◌++◌, slice_get, slice_set, false, Option, Some, None, append-nil, append_assoc, refl, sym, ◌∙◌, ap, subst, arith, inl, inr}
use Rattle.std.proofs.lemmas.Bool.Decides.{eqb_tells}
use Rattle.std.proofs.lemmas.Nat.{mod_below}
use Rattle.rina_account.specs.Causes.{missing_at}
use Rattle.rina_account.specs.declared.ledger.Off.{Off}
use Rattle.rina_base.specs.declared.cause.Cause.{Cause}
use Rattle.rina_base.specs.declared.cause.Cause.TheVariants as causes
use Rattle.rina_base.specs.declared.number.Key.{Key}
use Rattle.rina_base.specs.declared.number.Port.{Port}
use Rattle.rina_cube.specs.declared.Cube.{Cube}
use Rattle.rina_cube.specs.declared.Kind.{Kind}
use Rattle.rina_cube.specs.declared.Kind.TheVariants.{Datagram, Loose, Reliable}
use Rattle.rina_cube.specs.Cubes.{delta_of}
use Rattle.rina_iface.specs.declared.ends.End.{End}
use Rattle.rina_iface.specs.declared.state.PortState.TheVariants.{Pending}
use Rattle.rina_iface.specs.Journal.{At}
use Rattle.rina_iface.specs.Seen.{Seen}
use Rattle.rina_iface.proofs.Changed.{set_at, slice_get-set_other, slice_get-set_same}
use Rattle.rina_iface.proofs.Grown.{still_at}
use Rattle.rina_law.specs.Direction.{Direction}
use Rattle.rina_law.specs.Lists.{In}
use Rattle.rina_law.specs.Receiver.{Receiver}
use Rattle.rina_data.specs.declared.link.Link.{Link}
use Rattle.rina_data.specs.Configs.{Config, Member}
use Rattle.rina_data.specs.Process.{Process}
use Rattle.rina_dif_law.specs.Dif.{DifSeen, IsProcess, with_process}
use Rattle.rina_dif_law.specs.Ids.{Ids}
use Rattle.rina_dif_law.specs.OnLinks.{IsLinkCause, IsLinkLine}
use Rattle.rina_dif_law.specs.WriteOffs.{HasWritten, IsKnown, IsReceiver, MayBy, MayWriteOff, Writes}
use Rattle.rina_dif_law.specs.Written.{AreWrittenOff, IsLawfulLine, Receives, WasLawful}
use Rattle.rina_dif_law.proofs.Ends.{same_some}

-- ---- lists

pub in_append : {X : Type 0} (xs ys : List X) (x : X) → In x (xs ++ ys) → In x xs ⊎ In x ys
in_append [] ys x i = inr i
in_append (z ∷ xs) ys x (inl e) = inl (inl e)
in_append (z ∷ xs) ys x (inr i) = elim (in_append xs ys x i) [ inl a ↦ inl (inr a) | inr b ↦ inr b ]

pub in_one : {X : Type 0} (x y : X) → In x (y ∷ []) → x ≡ y
in_one x y (inl e) = e
in_one x y (inr i) = absurd i

-- ---- what stays

-- each link has the port that it had
abbrev pub PortsStay : List Link → List Link → Type 0
PortsStay old new = (place : ℕ) (link : Link) → slice_get old place ≡ Some link → (link' : Link) × (slice_get new place ≡ Some link') × (link'.port ≡ link.port)

pub ports_same : (old new : List Link) → new ≡ old → PortsStay old new
ports_same old new same place link is = (link, ap (λ (ls : List Link). slice_get ls place) same ∙ is, refl)

pub ports_lost : (links : List Link) (at : ℕ) (lost : Link) → slice_get links at ≡ Some lost → PortsStay links (slice_set links at (record lost { live = false }))
ports_lost links at lost is place link here =
    let gone : Link = record lost { live = false } in
    elim (eqb_tells place at) [
      | inl t ↦
          (let was : slice_get links at ≡ Some link = ap (slice_get links) (sym t.1) ∙ here in
          (gone, ap (slice_get (slice_set links at gone)) t.1 ∙ slice_get-set_same links at lost gone is, ap (λ (l : Link). l.port) (same_some (slice_get links at) lost link is was)))
      | inr f ↦ (link, slice_get-set_other links at place gone f.1 ∙ here, refl)
    ]

-- each connection of an end that does not wait stands where it stood, beside an end that does not wait
abbrev pub KnownStay : List End → List End → List Ids → List Ids → Type 0
KnownStay ends ends' conns conns' = (k : ℕ) (e : End) (ids : Ids) → At ends k e → e.state ≢ Pending → slice_get conns k ≡ Some ids → (e' : End) × At ends' k e' × (e'.state ≢ Pending) × (slice_get conns' k ≡ Some ids)

pub known_same : (ends : List End) (conns : List Ids) → KnownStay ends ends conns conns
known_same ends conns = λ k e ids is told here. (e, is, told, here)

-- as one end changes, and does not begin to wait
pub known_set : (ends : List End) (conns : List Ids) (at : ℕ) (end end' : End) → At ends at end → (end'.state ≡ Pending → end.state ≡ Pending) → KnownStay ends (slice_set ends at end') conns conns
known_set ends conns at end end' there still = λ k e ids is told here. elim (eqb_tells k at) [
  | inl t ↦
      (let same : e ≡ end = same_some (slice_get ends at) e end (ap (slice_get ends) (sym t.1) ∙ is) there in
      (end', ap (slice_get (slice_set ends at end')) t.1 ∙ slice_get-set_same ends at end end' there, λ waits. told (ap (λ (z : End). z.state) same ∙ still waits), here))
  | inr f ↦ (e, slice_get-set_other ends at k end' f.1 ∙ is, told, here)
]

-- and as more are added
pub known_more : (ends more : List End) (conns others : List Ids) → KnownStay ends (ends ++ more) conns (conns ++ others)
known_more ends more conns others = λ k e ids is told here. (e, still_at ends more k e is, told, still_at conns others k ids here)

receives_on : (g : Config) (ends ends' : List End) (conns conns' : List Ids) (addr : ℕ) (key : Key) (cube : Cube) → KnownStay ends ends' conns conns' → Receives g ends conns addr key cube → Receives g ends' conns' addr key cube
receives_on g ends ends' conns conns' addr key cube stay r =
    let x = stay r.place r.end r.ids r.is_end r.told r.stands in
    record { piece = r.piece; place = r.place; ids = r.ids; stands = x.3; end = x.0; is_end = x.1; told = x.2; own = r.own; far = r.far; cep = r.cep; is_cube = r.is_cube }

lawful_on : (g : Config) (now now' : ℕ) (ends ends' : List End) (conns conns' : List Ids) (addr : ℕ) (links links' : List Link) (key : Key) (cause : Cause) → now ≤ now' → KnownStay ends ends' conns conns' → PortsStay links links' → WasLawful g now ends conns addr links key cause → WasLawful g now' ends' conns' addr links' key cause
lawful_on g now now' ends ends' conns conns' addr links links' key (causes.Expired left charge) le stay ports h = h
lawful_on g now now' ends ends' conns conns' addr links links' key (causes.NoRoute dst) le stay ports h = h
lawful_on g now now' ends ends' conns conns' addr links links' key (causes.QueueFull cap) le stay ports h = h
lawful_on g now now' ends ends' conns conns' addr links links' key (causes.NoConnection cep) le stay ports h = h
lawful_on g now now' ends ends' conns conns' addr links links' key (causes.Duplicate num) le stay ports h = (h.0, (h.1.0, receives_on g ends ends' conns conns' addr key h.1.0 stay h.1.1, h.1.2))
lawful_on g now now' ends ends' conns conns' addr links links' key (causes.Behind highest) le stay ports h = (h.0, receives_on g ends ends' conns conns' addr key h.0 stay h.1, h.2)
lawful_on g now now' ends ends' conns conns' addr links links' key (causes.NoState drf) le stay ports h = (h.0, (h.1.0, receives_on g ends ends' conns conns' addr key h.1.0 stay h.1.1, h.1.2))
lawful_on g now now' ends ends' conns conns' addr links links' key (causes.NoRoom cap) le stay ports h = (h.0, receives_on g ends ends' conns conns' addr key h.0 stay h.1, h.2)
lawful_on g now now' ends ends' conns conns' addr links links' key (causes.StateGone last_in) le stay ports h =
    let gone : last_in + 2 * delta_of h.0 ≤ now = h.2 in
    (h.0, receives_on g ends ends' conns conns' addr key h.0 stay h.1, omega (arith, gone, le))
lawful_on g now now' ends ends' conns conns' addr links links' key (causes.Broken missing) le stay ports h = (h.0, (h.1.0, receives_on g ends ends' conns conns' addr key h.1.0 stay h.1.1, h.1.2))
lawful_on g now now' ends ends' conns conns' addr links links' key (causes.LinkDown port) le stay ports h = (let p = ports h.place h.link h.stands in record { place = h.place; link = p.0; stands = p.1; port_is = h.port_is ∙ sym p.2 })

-- a line of a link says so ever after
link_cause_on : (manage : Cube) (now now' : ℕ) (key : Key) (cause : Cause) → now ≤ now' → IsLinkCause manage now key cause → IsLinkCause manage now' key cause
link_cause_on manage now now' key (causes.NoConnection cep) le h = h
link_cause_on manage now now' key (causes.Duplicate num) le h = h
link_cause_on manage now now' key (causes.NoState drf) le h = h
link_cause_on manage now now' key (causes.NoRoom cap) le h = h
link_cause_on manage now now' key (causes.StateGone last_in) le h = (let gone : last_in + 2 * delta_of manage ≤ now = h.1 in (h.0, omega (arith, gone, le)))
link_cause_on manage now now' key (causes.Broken missing) le h = h
link_cause_on manage now now' key (causes.Expired left charge) le h = h
link_cause_on manage now now' key (causes.NoRoute dst) le h = h
link_cause_on manage now now' key (causes.QueueFull cap) le h = h
link_cause_on manage now now' key (causes.Behind highest) le h = h
link_cause_on manage now now' key (causes.LinkDown port) le h = h

link_line_on : (manage : Cube) (now now' : ℕ) (off : Off) → now ≤ now' → IsLinkLine manage now off → IsLinkLine manage now' off
link_line_on manage now now' off le h = record { src = h.src; scep = h.scep; why = link_cause_on manage now now' off.key off.cause le h.why }

-- ---- what may be written off says what is true

receives : (d : DifSeen) (lines : List Direction) (addr : ℕ) (key : Key) (ids : Ids) (cube : Cube) (line : Direction) → IsReceiver d lines addr key ids cube line → Receives d.config d.ends d.conns addr key cube
receives d lines addr key ids cube line r = record { piece = r.piece; place = r.place; ids = ids; stands = r.is_conn.ids_are; end = r.end; is_end = r.is_conn.end; told = λ waits. absurd (let allocated = r.allocated in cc); own = r.own; far = r.far; cep = r.cep; is_cube = r.is_cube }

missing_small : (last : Option ℕ) (n : ℕ) → missing_at last n < 2 ^ 32
missing_small (Some last) n = mod_below _ (2 ^ 32) (omega arith)
missing_small None n = mod_below _ (2 ^ 32) (omega arith)

-- a loose flow has no duplicates: they are behind
known_kind : (kind : Kind) (rx : Receiver) (n : ℕ) → IsKnown kind rx n → kind ≢ Loose
known_kind Datagram rx n h same = absurd cc
known_kind Loose rx n h same = h
known_kind Reliable rx n h same = absurd cc

may_lawful : (d : DifSeen) (lines : List Direction) (below : Seen) (down : Port → Type 0) (addr : ℕ) (process : Process) (key : Key) (cause : Cause) → MayBy d lines below down addr process key cause → WasLawful d.config d.clock d.ends d.conns addr process.links key cause
may_lawful d lines below down addr process key (causes.Expired left charge) h = h.0
may_lawful d lines below down addr process key (causes.NoRoute dst) h = h.0
may_lawful d lines below down addr process key (causes.QueueFull cap) h = h.0
may_lawful d lines below down addr process key (causes.NoConnection cep) h = tt
may_lawful d lines below down addr process key (causes.Duplicate num) h = (h.0, (h.1.1, receives d lines addr key h.1.0 h.1.1 h.1.2 h.1.3, known_kind h.1.1.kind h.1.2.line.receiver key.seq h.1.4))
may_lawful d lines below down addr process key (causes.Behind highest) h = (h.1, receives d lines addr key h.0 h.1 h.2 h.3, h.4.1)
may_lawful d lines below down addr process key (causes.NoState drf) h = (h.4.1.1, (h.1, receives d lines addr key h.0 h.1 h.2 h.3, h.4.0))
may_lawful d lines below down addr process key (causes.NoRoom cap) h = (h.1, receives d lines addr key h.0 h.1 h.2 h.3, h.4.0)
may_lawful d lines below down addr process key (causes.StateGone last_in) h = (h.1, receives d lines addr key h.0 h.1 h.2 h.3, h.4.1)
may_lawful d lines below down addr process key (causes.Broken missing) h = (subst (λ (n : ℕ). n < 2 ^ 32) (sym h.4.missing_is) (missing_small _ h.4.came), (h.1, receives d lines addr key h.0 h.1 h.2 h.3, tt))
may_lawful d lines below down addr process key (causes.LinkDown port) h = record { place = h.place; link = h.link; stands = h.stands; port_is = h.port_is }

pub was_lawful : (d : DifSeen) (lines : List Direction) (below : Seen) (down : Port → Type 0) (i : ℕ) (off : Off) → MayWriteOff d lines below down i off → (member : Member) (process : Process) → IsProcess d i member process → IsLawfulLine d member process off
was_lawful d lines below down i off m member process is =
    let a : m.member ≡ member = same_some (slice_get d.config.members i) m.member member m.is_process.is_member is.is_member in
    let b : m.process ≡ process = same_some (slice_get d.processes i) m.process process m.is_process.is_process is.is_process in
    subst (λ (z : Member). IsLawfulLine d z process off) a
    (subst (λ (z : Process). IsLawfulLine d m.member z off) b (elim (m.may) [
      | inl may ↦ inl (may_lawful d lines below down m.member.addr m.process off.key off.cause may)
      | inr link ↦ inr link
    ]))

-- ---- ledgers that grow

pub record IsGrown (holds : Off → Type 0) (d : DifSeen) (i : ℕ) (process' : Process) : Type 0 where
  pub written : HasWritten holds d i process'
  pub ports : PortsStay written.process.links process'.links

-- the ledgers grew by lines of which this holds, and what the others rest on stayed
pub record IsNoted (holds : ℕ → Off → Type 0) (d d' : DifSeen) : Type 0 where
  pub config : d'.config ≡ d.config
  pub manage : d'.manage ≡ d.manage
  pub clock : d.clock ≤ d'.clock
  pub conns : KnownStay d.ends d'.ends d.conns d'.conns
  pub each : (i : ℕ) (process' : Process) → slice_get d'.processes i ≡ Some process' → IsGrown (holds i) d i process'

pub writes : (holds : ℕ → Off → Type 0) (d d' : DifSeen) → IsNoted holds d d' → Writes holds d d'
writes holds d d' n i process' is = (n.each i process' is).written

pub written_on : (holds : ℕ → Off → Type 0) (d d' : DifSeen) → IsNoted holds d d' → ((i : ℕ) (off : Off) → holds i off → (member : Member) (process : Process) → IsProcess d i member process → IsLawfulLine d member process off) → AreWrittenOff d → AreWrittenOff d'
written_on holds d d' n lawful w i member process' off is stands =
    let g = n.each i process' is.is_process in
    let h = g.written in
    let there : IsProcess d i member h.process = record { is_member = ap (λ (c : Config). slice_get c.members i) (sym n.config) ∙ is.is_member; is_process = h.is_process } in
    let was : IsLawfulLine d member h.process off = elim (in_append h.process.ledger h.offs off (subst (In off) h.ledger stands)) [
      | inl old ↦ w i member h.process off there old
      | inr new ↦ lawful i off (h.each off new) member h.process there
    ] in
    elim was [
      | inl own ↦ inl (subst (λ (c : Config). WasLawful c d'.clock d'.ends d'.conns member.addr process'.links off.key off.cause) (sym n.config)
          (lawful_on d.config d.clock d'.clock d.ends d'.ends d.conns d'.conns member.addr h.process.links process'.links off.key off.cause n.clock n.conns g.ports own))
      | inr link ↦ inr (subst (λ (c : Cube). IsLinkLine c d'.clock off) (sym n.manage) (link_line_on d.manage d.clock d'.clock off n.clock link))
    ]

-- an IPC process that writes nothing
pub still : (holds : Off → Type 0) (d : DifSeen) (i : ℕ) (p : Process) → slice_get d.processes i ≡ Some p → IsGrown holds d i p
still holds d i p is = record {
  written = record { process = p; is_process = is; offs = []; ledger = sym (append-nil p.ledger); each = λ off none. absurd none };
  ports = ports_same p.links p.links refl;
}

-- none writes anything
pub quiet_noted : (holds : ℕ → Off → Type 0) (d d' : DifSeen) → d'.config ≡ d.config → d'.manage ≡ d.manage → d.clock ≤ d'.clock → KnownStay d.ends d'.ends d.conns d'.conns → d'.processes ≡ d.processes → IsNoted holds d d'
quiet_noted holds d d' config manage clock conns same = record {
  config = config;
  manage = manage;
  clock = clock;
  conns = conns;
  each = λ i p is. still (holds i) d i p (ap (λ (ps : List Process). slice_get ps i) (sym same) ∙ is);
}

pub same_noted : (holds : ℕ → Off → Type 0) (d d' : DifSeen) → d' ≡ d → IsNoted holds d d'
same_noted holds d d' is = subst (IsNoted holds d) (sym is) (quiet_noted holds d d refl refl (omega arith) (known_same d.ends d.conns) refl)

-- one does
pub one_noted : (holds : ℕ → Off → Type 0) (d : DifSeen) (ends' : List End) (i : ℕ) (p new : Process) (offs : List Off) → slice_get d.processes i ≡ Some p → new.ledger ≡ p.ledger ++ offs → ((off : Off) → In off offs → holds i off) → PortsStay p.links new.links → KnownStay d.ends ends' d.conns d.conns → IsNoted holds d (record d { ends = ends'; processes = slice_set d.processes i new })
one_noted holds d ends' i p new offs is ledger each ports known = record {
  config = refl;
  manage = refl;
  clock = omega arith;
  conns = known;
  each = λ j q at. elim (set_at d.processes i j p new q is at) [
    | inl t ↦
        (let grown : IsGrown (holds i) d i new = record { written = record { process = p; is_process = is; offs = offs; ledger = ledger; each = each }; ports = ports } in
        subst (λ (z : Process). IsGrown (holds j) d j z) (sym t.1) (subst (λ (k : ℕ). IsGrown (holds k) d k new) (sym t.0) grown))
    | inr f ↦ still (holds j) d j q f.1
  ];
}

pub process_noted : (holds : ℕ → Off → Type 0) (d d' : DifSeen) (i : ℕ) (p new : Process) (offs : List Off) → d' ≡ with_process d i new → slice_get d.processes i ≡ Some p → new.ledger ≡ p.ledger ++ offs → ((off : Off) → In off offs → holds i off) → PortsStay p.links new.links → IsNoted holds d d'
process_noted holds d d' i p new offs new_is is ledger each ports = subst (IsNoted holds d) (sym new_is) (one_noted holds d d.ends i p new offs is ledger each ports (known_same d.ends d.conns))

-- nothing
pub kept_noted : (holds : ℕ → Off → Type 0) (d d' : DifSeen) (i : ℕ) (p new : Process) → d' ≡ with_process d i new → slice_get d.processes i ≡ Some p → new.ledger ≡ p.ledger → new.links ≡ p.links → IsNoted holds d d'
kept_noted holds d d' i p new new_is is ledger links = process_noted holds d d' i p new [] new_is is (ledger ∙ sym (append-nil p.ledger)) (λ off none. absurd none) (ports_same p.links new.links links)

-- one line
pub line_noted : (holds : ℕ → Off → Type 0) (d d' : DifSeen) (i : ℕ) (p new : Process) (off : Off) → d' ≡ with_process d i new → slice_get d.processes i ≡ Some p → new.ledger ≡ p.ledger ++ off ∷ [] → new.links ≡ p.links → holds i off → IsNoted holds d d'
line_noted holds d d' i p new off new_is is ledger links h = process_noted holds d d' i p new (off ∷ []) new_is is ledger (λ x one. subst (holds i) (sym (in_one x off one)) h) (ports_same p.links new.links links)

-- ---- one after the other

pub noted_as : (holds holds' : ℕ → Off → Type 0) (a b : DifSeen) → ((i : ℕ) (off : Off) → holds i off → holds' i off) → IsNoted holds a b → IsNoted holds' a b
noted_as holds holds' a b turn n = record {
  config = n.config;
  manage = n.manage;
  clock = n.clock;
  conns = n.conns;
  each = λ i p is.
      let g = n.each i p is in
      let h = g.written in
      record { written = record { process = h.process; is_process = h.is_process; offs = h.offs; ledger = h.ledger; each = λ off here. turn i off (h.each off here) }; ports = g.ports };
}

pub noted_on : (holds : ℕ → Off → Type 0) (a b c : DifSeen) → IsNoted holds a b → IsNoted holds b c → IsNoted holds a c
noted_on holds a b c x y = record {
  config = y.config ∙ x.config;
  manage = y.manage ∙ x.manage;
  clock = (let le = x.clock in let more = y.clock in omega (arith, le, more));
  conns = λ k e ids is told here.
      let w = x.conns k e ids is told here in
      y.conns k w.0 ids w.1 w.2 w.3;
  each = λ i p is.
      let g = y.each i p is in
      let h = g.written in
      let before = x.each i h.process h.is_process in
      let old = before.written in
      record {
        written = record {
          process = old.process;
          is_process = old.is_process;
          offs = old.offs ++ h.offs;
          ledger = h.ledger ∙ ap (λ (ls : List Off). ls ++ h.offs) old.ledger ∙ append_assoc old.process.ledger old.offs h.offs;
          each = λ off here. elim (in_append old.offs h.offs off here) [
            | inl first ↦ old.each off first
            | inr then ↦ h.each off then
          ];
        };
        ports = λ place link at. (let l = before.ports place link at in let m = g.ports place l.0 l.1 in (m.0, m.1, m.2 ∙ l.2));
      };
}
