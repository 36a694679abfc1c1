-- What the rank above sees of each call.
use Rattle.std.proofs.Common.{◌≡◌, ℕ, zero, suc, ◌≤◌, List, [], ◌∷◌, ◌++◌, length, length-set, map, slice_get, slice_set, Some, None, Ok, Err, Option, Result, refl, sym, ◌∙◌, ap, subst, arith, inl, inr}
use Rattle.rina_base.specs.declared.cause.Cause.{Cause}
use Rattle.rina_base.specs.declared.cause.Cause.TheVariants as causes
use Rattle.rina_base.specs.declared.number.Num.{Num}
use Rattle.rina_base.specs.declared.number.Port.{Port}
use Rattle.rina_base.specs.declared.pdu.Pdu.{Pdu}
use Rattle.rina_iface.specs.declared.ends.End.{End}
use Rattle.rina_iface.specs.declared.error.SendError.{SendError}
use Rattle.rina_iface.specs.declared.error.SendError.TheVariants as errors
use Rattle.rina_iface.specs.declared.state.PortState.{PortState}
use Rattle.rina_iface.specs.declared.state.PortState.TheVariants.{Allocated}
use Rattle.rina_iface.specs.Ends.{with_passed, with_sent}
use Rattle.rina_iface.specs.Journal.{At}
use Rattle.rina_iface.specs.Later.{Grows, IsLaterEnd, IsLaterFac, WasAllocated}
use Rattle.rina_iface.specs.Seen.{Seen}
use Rattle.rina_iface.proofs.Changed.{set_at}
use Rattle.rina_iface.proofs.Later.{end_passed, end_sent, ends_refl, ends_set, fac_refl, grows_refl, moves_refl}
use Rattle.rina_law.specs.declared.entry.Entry.{Entry}
use Rattle.rina_law.specs.Constants.{Constants}
use Rattle.rina_law.specs.Direction.{Direction, entry_for}
use Rattle.rina_law.specs.Pdus.{piece_in}
use Rattle.rina_law.specs.Pieces.{Part, Sdu}
use Rattle.rina_law.specs.Receiver.{Piece}
use Rattle.rina_data.specs.declared.step.InStep.{InStep}
use Rattle.rina_data.specs.declared.step.InStep.TheVariants as in_
use Rattle.rina_data.specs.declared.step.OutStep.{OutStep}
use Rattle.rina_data.specs.declared.step.StepError.{StepError}
use Rattle.rina_data.specs.declared.step.StepError.TheVariants.{CountSpent, Memory, NoIpc, NoLink}
use Rattle.rina_data.specs.declared.step.Took.{Took}
use Rattle.rina_data.specs.declared.step.Took.TheVariants as took
use Rattle.rina_data.specs.Hops.{Hop}
use Rattle.rina_dif_law.specs.Dif.{DifSeen, constants, fac_of}
use Rattle.rina_data.specs.Configs.{Member}
use Rattle.rina_data.specs.Process.{Process, with_offs}
use Rattle.rina_dif_law.specs.Ids.{flipped}
use Rattle.rina_dif_law.specs.Incoming.{Ins, IsArrived, Settles, SettlesFlow, SettlesOff, arrived, found, joined_by}
use Rattle.rina_dif_law.specs.Outgoing.{Outs}
use Rattle.rina_dif_law.specs.Passing.{IsPassed, IsTicked}
use Rattle.rina_dif_law.specs.Sending.{IsOffered, Offers, offered_entry}
use Rattle.rina_dif_law.specs.Standing.{IsStanding}
use Rattle.rina_dif_law.specs.Timely.{IsAcknowledged, IsForgotten, IsResent}
use Rattle.rina_dif_law.specs.Upward.{IsSilent}
use Rattle.rina_dif_law.specs.Cloud.{Cloud, Everywhere}
use Rattle.rina_dif_law.proofs.FarEnds.{none_fresh}
use Rattle.rina_dif_law.proofs.Own.{direction_in, direction_out}
use Rattle.rina_dif_law.proofs.Forgot.{found_clock, found_got}

-- nothing of the journal changed
pub silent_same : (d d' : DifSeen) → d'.ends ≡ d.ends → d'.config ≡ d.config → d'.clock ≡ d.clock → IsSilent d d'
silent_same d d' ends config clock = record {
  later = record {
    ends = subst (λ (es : List End). (i : ℕ) (e : End) → At d.ends i e → (e' : End) × At es i e' × IsLaterEnd d.clock d'.clock e e') (sym ends) (ends_refl d.clock d'.clock d.ends);
    cubes = ap (λ (g : _). (fac_of (record d { config = g })).cubes) config;
  };
  fresh = none_fresh d.ends d'.ends (ap (λ (es : List End). length es) ends);
  same = λ i e e' x y. same_end i e e' (subst (λ (es : List End). At es i e') ends y) x;
}
  where
    same_end : (i : ℕ) (e e' : End) → At d.ends i e' → At d.ends i e → (e'.sent ≡ e.sent) × (e'.taken ≡ e.taken)
    same_end i e e' y x = (let is : e' ≡ e = cc in (ap (λ (z : End). z.sent) is, ap (λ (z : End). z.taken) is))

-- one end got more
all_now : (c : Constants) (now : ℕ) (whole : List Sdu) (i : ℕ) (e : Entry) → slice_get (map (entry_for c now) whole) i ≡ Some e → (now ≤ e.tick) × (e.tick ≤ now)
all_now c now [] i e h = cc
all_now c now (s ∷ ss) zero e h = (let is : entry_for c now s ≡ e = cc in let tick : now ≡ e.tick = ap (λ (x : Entry). x.tick) is in (omega arith, omega arith))
all_now c now (s ∷ ss) (suc i) e h = all_now c now ss i e h

arrived_grows : (k : Constants) (now : ℕ) (p : Piece) (line : Direction) (end : End) → line.line.clock ≡ now → line.inbox.got ≡ end.got → Grows now now end.got ((arrived k p line).inbox.got)
arrived_grows k now p line end clock got =
    let x : Direction = found k line in
    let whole = joined_by k p line in
    let P : ℕ → Type 0 = λ t. Grows now now end.got (x.inbox.got ++ map (entry_for k t) whole) in
    let Q : List Entry → Type 0 = λ xs. Grows now now end.got (xs ++ map (entry_for k now) whole) in
    subst P (sym (found_clock k line ∙ clock)) (subst Q (sym (found_got k line ∙ got)) (record { more = map (entry_for k now) whole; is = refl; dated = all_now k now whole }))

was_allocated : (s : PortState) → s ≡ Allocated → WasAllocated s s
was_allocated s e = subst (λ (x : PortState). WasAllocated x x) (sym e) tt

got_later : (now : ℕ) (e : End) (got : List Entry) → e.state ≡ Allocated → Grows now now e.got got → IsLaterEnd now now e (record e { got = got })
got_later now e got state grows = record { flow = refl; role = refl; port = refl; app = refl; peer = refl; cube = refl; sent = grows_refl now now e.sent; got = grows; taken = omega arith; state = moves_refl e.state; only_allocated = λ none. absurd (none (was_allocated e.state state)) }

one_later : (d : DifSeen) (at : ℕ) (e e' : End) → At d.ends at e → IsLaterEnd d.clock d.clock e e' → IsLaterFac d.clock d.clock (fac_of d) (fac_of (record d { ends = slice_set d.ends at e' }))
one_later d at e e' is later = record { ends = ends_set d.clock d.clock d.ends at e e' is later; cubes = refl }

arrived_silent : (d : DifSeen) (lines : List Direction) (below : Seen) (i : ℕ) (process : Process) (pdu : Pdu) (cause : Option Cause) (d' : DifSeen) (lines' : List Direction) → IsStanding d lines below → IsArrived d lines i process pdu cause d' lines' → IsSilent d d'
arrived_silent d lines below i process pdu cause d' lines' st s =
    let k : Constants = constants d.config s.cube (flipped s.ids) in
    let is_end = s.taker.is_conn.end in
    let end' : End = record s.end { got = (arrived k (piece_in pdu) s.line).inbox.got } in
    let named = st.journal.named s.from s.place s.inbound.partner s.end s.inbound.is_partner is_end s.inbound.partners in
    let flow = direction_in d.config d.clock (Cloud Everywhere d.config d.processes below) d.ids d.ends d.conns lines st.own s.from s.place s.inbound.partner s.end s.ids s.line s.inbound.is_partner s.taker.is_conn s.inbound.is_line s.inbound.partners s.taker.allocated named.cube in
    let grows = arrived_grows k d.clock (piece_in pdu) s.line s.end flow.backed.clock flow.got in
    subst (IsSilent d) (sym s.new_is) (record {
      later = one_later d s.place s.end end' is_end (got_later d.clock s.end end'.got s.taker.allocated grows);
      fresh = none_fresh d.ends _ (length-set d.ends s.place end');
      same = λ j e e' x y. elim (set_at d.ends s.place j s.end end' e' is_end y) [
        | inl t ↦
            let there : At d.ends j s.end = ap (slice_get d.ends) t.0 ∙ is_end in
            let is : s.end ≡ e = cc in
            (ap (λ (z : End). z.sent) t.1 ∙ ap (λ (z : End). z.sent) is, ap (λ (z : End). z.taken) t.1 ∙ ap (λ (z : End). z.taken) is)
        | inr f ↦ (let was = f.1 in let is : e' ≡ e = cc in (ap (λ (z : End). z.sent) is, ap (λ (z : End). z.taken) is))
      ];
    })

noted_silent : (d d' : DifSeen) (processes : List Process) → d' ≡ record d { processes = processes } → IsSilent d d'
noted_silent d d' processes is = subst (IsSilent d) (sym is) (silent_same d (record d { processes = processes }) refl refl refl)

settles_off_silent : (d : DifSeen) (lines : List Direction) (below : Seen) (i : ℕ) (member : Member) (process : Process) (at : ℕ) (hop : Hop) (cause : Cause) (d' : DifSeen) (lines' : List Direction) → IsStanding d lines below → SettlesOff d lines i member process at hop cause d' lines' → IsSilent d d'
settles_off_silent d lines below i member process at hop (causes.Expired left charge) d' lines' st s = noted_silent d d' _ s.3
settles_off_silent d lines below i member process at hop (causes.NoRoute dst) d' lines' st s = noted_silent d d' _ s.4
settles_off_silent d lines below i member process at hop (causes.QueueFull cap) d' lines' st s = noted_silent d d' _ s.4
settles_off_silent d lines below i member process at hop (causes.NoConnection cep) d' lines' st s = noted_silent d d' _ s.4
settles_off_silent d lines below i member process at hop (causes.Duplicate num) d' lines' st s = arrived_silent d lines below i process hop.pdu (Some (causes.Duplicate num)) d' lines' st s.2
settles_off_silent d lines below i member process at hop (causes.Behind highest) d' lines' st s = arrived_silent d lines below i process hop.pdu (Some (causes.Behind highest)) d' lines' st s.2
settles_off_silent d lines below i member process at hop (causes.NoState drf) d' lines' st s = arrived_silent d lines below i process hop.pdu (Some (causes.NoState drf)) d' lines' st s.2
settles_off_silent d lines below i member process at hop (causes.NoRoom cap) d' lines' st s = arrived_silent d lines below i process hop.pdu (Some (causes.NoRoom cap)) d' lines' st s.2
settles_off_silent d lines below i member process at hop (causes.StateGone last_in) d' lines' st s = arrived_silent d lines below i process hop.pdu (Some (causes.StateGone last_in)) d' lines' st s.2
settles_off_silent d lines below i member process at hop (causes.Broken missing) d' lines' st s = arrived_silent d lines below i process hop.pdu (Some (causes.Broken missing)) d' lines' st s.2
settles_off_silent d lines below i member process at hop (causes.LinkDown down) d' lines' st s = absurd s

flow_silent : (d : DifSeen) (lines : List Direction) (below : Seen) (i : ℕ) (member : Member) (process : Process) (at : ℕ) (hop : Hop) (end : Took) (d' : DifSeen) (lines' : List Direction) → IsStanding d lines below → SettlesFlow d lines i member process at hop end d' lines' → IsSilent d d'
flow_silent d lines below i member process at hop took.Accepted d' lines' st s = elim (s.2) [
  | inl x ↦ arrived_silent d lines below i process hop.pdu None d' lines' st x
  | inr x ↦ noted_silent d d' d.processes x.new_is
]
flow_silent d lines below i member process at hop took.Relayed d' lines' st s = noted_silent d d' _ s.2.new_is
flow_silent d lines below i member process at hop (took.Off cause) d' lines' st s = settles_off_silent d lines below i member process at hop cause d' lines' st s

settles_silent : (d : DifSeen) (lines : List Direction) (below : Seen) (i : ℕ) (member : Member) (process : Process) (at : ℕ) (hop : Hop) (end : Took) (d' : DifSeen) (lines' : List Direction) → IsStanding d lines below → Settles d lines i member process at hop end d' lines' → IsSilent d d'
settles_silent d lines below i member process at hop end d' lines' st s = elim s [
  | inl flow ↦ flow_silent d lines below i member process at hop end d' lines' st flow.1
  | inr link ↦ noted_silent d d' _ link.new_is
]

pub ins_silent : (d : DifSeen) (lines : List Direction) (below : Seen) (i n : ℕ) (r : Result InStep StepError) (d' : DifSeen) (lines' : List Direction) (below' : Seen) → IsStanding d lines below → Ins d lines below i n r d' lines' below' → IsSilent d d'
ins_silent d lines below i n (Ok in_.Idle) d' lines' below' st s = noted_silent d d' d.processes s.1
ins_silent d lines below i n (Ok (in_.Took key end)) d' lines' below' st s = settles_silent d lines below i s.member s.process s.entry.tick s.hop end d' lines' st s.settled
ins_silent d lines below i n (Err Memory) d' lines' below' st s = noted_silent d d' d.processes s.0
ins_silent d lines below i n (Err NoIpc) d' lines' below' st s = noted_silent d d' d.processes s.1
ins_silent d lines below i n (Err NoLink) d' lines' below' st s = noted_silent d d' d.processes s.1
ins_silent d lines below i n (Err (CountSpent need left)) d' lines' below' st s = noted_silent d d' d.processes s.0

-- a step of one IPC process alone
pub outs_silent : (refuses : Port → ℕ → Option SendError) (d : DifSeen) (below : Seen) (i n : ℕ) (r : Result OutStep StepError) (d' : DifSeen) (below' : Seen) → Outs refuses d below i n r d' below' → IsSilent d d'
outs_silent refuses d below i n (Ok x) d' below' s = noted_silent d d' (slice_set d.processes i s.process') s.new_is
outs_silent refuses d below i n (Err Memory) d' below' s = noted_silent d d' (slice_set d.processes i s.process') s.new_is
outs_silent refuses d below i n (Err NoIpc) d' below' s = noted_silent d d' d.processes s.1
outs_silent refuses d below i n (Err NoLink) d' below' s = noted_silent d d' (slice_set d.processes i s.process') s.new_is
outs_silent refuses d below i n (Err (CountSpent need left)) d' below' s = noted_silent d d' (slice_set d.processes i s.process') s.new_is

-- ---- later

same_later : (d d' : DifSeen) → d' ≡ d → IsLaterFac d.clock d'.clock (fac_of d) (fac_of d')
same_later d d' is = subst (λ (x : DifSeen). IsLaterFac d.clock x.clock (fac_of d) (fac_of x)) (sym is) (fac_refl d.clock d.clock (fac_of d))

offered_later : (d : DifSeen) (lines : List Direction) (below : Seen) (at : ℕ) (parts : List Part) (num : Num) (d' : DifSeen) (lines' : List Direction) → IsStanding d lines below → IsOffered d lines at parts num d' lines' → IsLaterFac d.clock d'.clock (fac_of d) (fac_of d')
offered_later d lines below at parts num d' lines' st s =
    let k : Constants = constants d.config s.cube s.ids in
    let is_end = s.is_conn.end in
    let partner = st.journal.allocated at s.end is_end s.allocated in
    let flow = direction_out d.config d.clock (Cloud Everywhere d.config d.processes below) d.ids d.ends d.conns lines st.own at partner.place s.end partner.other s.ids s.line s.is_conn partner.stands s.is_line partner.partner s.allocated in
    let entry : Entry = offered_entry k parts s.line in
    subst (λ (x : DifSeen). IsLaterFac d.clock x.clock (fac_of d) (fac_of x)) (sym s.new_is) (one_later d at s.end (with_sent s.end entry) is_end (end_sent d.clock s.end entry flow.backed.clock))

pub offers_later : (d : DifSeen) (lines : List Direction) (below : Seen) (at : ℕ) (parts : List Part) (r : Result Num SendError) (d' : DifSeen) (lines' : List Direction) → IsStanding d lines below → Offers d lines at parts r d' lines' → IsLaterFac d.clock d'.clock (fac_of d) (fac_of d')
offers_later d lines below at parts (Ok num) d' lines' st s = offered_later d lines below at parts num d' lines' st s.2
offers_later d lines below at parts (Err errors.Memory) d' lines' st s = same_later d d' s.0
offers_later d lines below at parts (Err why) d' lines' st s = same_later d d' s.1

pub passed_later : (d : DifSeen) (lines : List Direction) (at : ℕ) (d' : DifSeen) (lines' : List Direction) → IsPassed d lines at d' lines' → IsLaterFac d.clock d'.clock (fac_of d) (fac_of d')
passed_later d lines at d' lines' s = subst (λ (x : DifSeen). IsLaterFac d.clock x.clock (fac_of d) (fac_of x)) (sym s.new_is) (one_later d at s.end (with_passed s.end) s.is_conn.end (end_passed d.clock s.end))

pub ticked_silent : (d : DifSeen) (lines : List Direction) (now : ℕ) (d' : DifSeen) (lines' : List Direction) → IsTicked d lines now d' lines' → IsSilent d d'
ticked_silent d lines now d' lines' s = subst (IsSilent d) (sym s.new_is) (record {
  later = record { ends = ends_refl d.clock now d.ends; cubes = refl };
  fresh = none_fresh d.ends d.ends refl;
  same = λ i e e' x y. same_end i e e' y x;
})
  where
    same_end : (i : ℕ) (e e' : End) → At d.ends i e' → At d.ends i e → (e'.sent ≡ e.sent) × (e'.taken ≡ e.taken)
    same_end i e e' y x = (let is : e' ≡ e = cc in (ap (λ (z : End). z.sent) is, ap (λ (z : End). z.taken) is))

pub acknowledged_silent : (d : DifSeen) (lines : List Direction) (at : ℕ) (cause : Option Cause) (d' : DifSeen) (lines' : List Direction) → IsAcknowledged d lines at cause d' lines' → IsSilent d d'
acknowledged_silent d lines at cause d' lines' s = noted_silent d d' (slice_set d.processes s.i s.process') s.new_is

pub resent_silent : (d : DifSeen) (lines : List Direction) (at : ℕ) (cause : Option Cause) (d' : DifSeen) (lines' : List Direction) → IsResent d lines at cause d' lines' → IsSilent d d'
resent_silent d lines at cause d' lines' s = noted_silent d d' (slice_set d.processes s.i s.process') s.new_is

pub forgotten_silent : (d : DifSeen) (lines : List Direction) (at : ℕ) (d' : DifSeen) (lines' : List Direction) → IsForgotten d lines at d' lines' → IsSilent d d'
forgotten_silent d lines at d' lines' s = noted_silent d d' (slice_set d.processes s.i (with_offs s.process s.dropped)) s.new_is
