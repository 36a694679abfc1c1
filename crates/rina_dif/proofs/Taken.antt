-- The oldest SDU of a link is taken.
use Rattle.std.proofs.Common.{◌≡◌, ◌∙◌, ℕ, ◌<◌, Bool, List, [], length, slice_get, option_map, Option, Some, None, Result, Ok, Err, refl, sym, ap, subst, false, inl, inr}
use Rattle.std.specs.Prelude.{IsSome}
use Rattle.std.proofs.lemmas.Option.{slice_get-map}
use Rattle.rina_agent.specs.declared.state.AgentError.{AgentError}
use Rattle.rina_agent.specs.declared.state.AgentError.TheVariants as agent
use Rattle.rina_alloc.specs.declared.message.FlowMessage.{FlowMessage}
use Rattle.rina_base.specs.declared.memory.Memory.{Memory as NoMemory}
use Rattle.rina_base.specs.declared.number.Key.{Key}
use Rattle.rina_base.specs.declared.number.Port.{Port}
use Rattle.rina_base.specs.Pdus.{key_of}
use Rattle.rina_iface.specs.Journal.{AreKept}
use Rattle.rina_iface.specs.Pass.{IsLent, IsPassed}
use Rattle.rina_iface.specs.Seen.{Seen, unpassed}
use Rattle.rina_law.specs.declared.entry.Entry.{Entry}
use Rattle.rina_law.specs.Direction.{Direction}
use Rattle.rina_data.specs.declared.link.Link.{Link}
use Rattle.rina_data.specs.declared.process.IpcProcess.{IpcProcess}
use Rattle.rina_data.specs.declared.step.InStep.{InStep}
use Rattle.rina_data.specs.declared.step.InStep.TheVariants as in_
use Rattle.rina_data.specs.declared.step.StepError.{StepError}
use Rattle.rina_data.specs.declared.step.StepError.TheVariants.{CountSpent, Memory, NoIpc, NoLink}
use Rattle.rina_data.specs.declared.step.Took.{Took}
use Rattle.rina_data.specs.Hops.{Hop, opened}
use Rattle.rina_dif_law.specs.Cloud.{IsMine}
use Rattle.rina_data.specs.Configs.{Member, config_of, member_of}
use Rattle.rina_data.specs.Deciding.{process_of}
use Rattle.rina_dif_law.specs.Dif.{DifSeen, IsProcess}
use Rattle.rina_data.specs.Process.{Process, link_by}
use Rattle.rina_dif_law.specs.Incoming.{Ins, Settles}
use Rattle.rina_dif_law.specs.Sending.{home}
use Rattle.rina_dif_law.specs.Standing.{IsStanding}
use Rattle.rina_dif_law.specs.Upward.{IsSilent}
use Rattle.rina_dif_law.proofs.Arrivals.{arrival, closed}
use Rattle.rina_dif_law.proofs.Carries.{ins_carry}
use Rattle.rina_dif_law.proofs.Coming.{ins_stand}
use Rattle.rina_dif_law.proofs.Numbering.{ins_numbered}
use Rattle.rina_dif_law.proofs.Finding.{live_link, oldest_at}
use Rattle.rina_data.proofs.Finding.{there}
use Rattle.rina_dif_law.proofs.Landing.{ins_accounted}
use Rattle.rina_dif_law.proofs.Partnered.{met}
use Rattle.rina_dif_law.proofs.Spelled.{opened_spelling}
use Rattle.rina_dif_law.proofs.Upper.{ins_silent}
use Rattle.rina_dif_law.proofs.Warranted.{ins_written}
use Rattle.rina_dif.specs.declared.dif.Dif.{Dif}
use Rattle.rina_dif.specs.declared.messages_in.Handled.{Handled}
use Rattle.rina_dif.specs.FlowMessages.{HandlesFlows, TakesFlows}
use Rattle.rina_dif.specs.Handling.{HandlesAs}
use Rattle.rina_dif.specs.Holding.{Holds, LinksStand}
use Rattle.rina_dif.specs.Routing.{MayReroute}
use Rattle.rina_dif.specs.Shown.{seen_of}
use Rattle.rina_dif.specs.Steps.{AtHome}
use Rattle.rina_dif.specs.Managing.{nodes_with}
use Rattle.rina_dif.specs.Taking.{AreBrought, BringsAs, BringsFlows, EndsAs, Handles, HandlesPiece, HasTaken, InsAt, IsOldest, IsThere, LacksFor, MayBring, TakesFor, TakesHome, TakesIn, TakesLinks, TellsFlows, TellsNothing}
use Rattle.rina_dif.proofs.Causing.{ins_caused}
use Rattle.rina_dif.proofs.FlowWalk.{silent_rerouted}
use Rattle.rina_dif.proofs.Handling.{handled_seen}
use Rattle.rina_dif.proofs.Leaves.{shown_at}
use Rattle.rina_dif.proofs.Connected.{taking_connected}

-- What waits

-- whatever waits at a link is a protected SDU
pub opens : (d : DifSeen) (lines : List Direction) (below : Seen) (i n : ℕ) (member : Member) (process : Process) (link : Link) (entry : Entry) → IsStanding d lines below → AreKept below → IsProcess d i member process → link_by n process.links ≡ Some link → unpassed below link.port ≡ Some entry → (hop : Hop) × (opened d.config.widths entry.bytes ≡ Some hop)
opens d lines below i n member process link entry st kept is_process is_link waits =
    let l = st.linked i member link is_process.is_member (live_link d.processes i n process link is_process.is_process is_link) in
    let e = l.end in
    let at = oldest_at below link.port e entry l.here waits in
    let mine : IsMine d.config.members e.app = record { addr = member.addr; member = record { place = i; member = member; stands = is_process.is_member; addr_is = refl; name_is = sym l.app } } in
    let m = met below link.port e e.taken entry kept l.here at in
    let peer = subst (IsMine d.config.members) m.named.peer (closed d lines below st link.port e l.here mine) in
    let s = st.spelled m.its_port m.other m.born.place m.born.source m.here peer m.born.is_place.is_source.stands in
    (record { left = s.left; pdu = s.pdu }, ap (opened d.config.widths) (m.born.bytes ∙ s.is) ∙ opened_spelling d.config.widths s.left s.pdu st.config.widths s.fit.fits s.bound)

-- an IPC process with its member
pub record IsHere (d : Dif) (at : ℕ) (p : IpcProcess) : Type 0 where
  pub member : Member
  pub process : IsProcess (seen_of d) at member (process_of p)

pub is_here : (d : Dif) (at : ℕ) (p : IpcProcess) → at < length d.settings.members → slice_get d.processes at ≡ Some p → IsHere d at p
is_here d at p lt is =
    let m = there d.settings.members at lt in
    record { member = member_of m.0; process = record { is_member = slice_get-map member_of d.settings.members at ∙ ap (option_map member_of) m.1; is_process = shown_at d at p is } }

-- the link that was looked up
pub link_at : (p : IpcProcess) (seen : List Link) (n : ℕ) (o : Option Link) → seen ≡ p.links → o ≡ link_by n seen → link_by n p.links ≡ o
link_at p seen n o same looked = ap (link_by n) (sym same) ∙ sym looked

same_none : {X : Type 0} (o : Option X) (x : X) → o ≡ Some x → None ≡ o → ⊥
same_none o x e f = absurd cc

-- what was lent is no other thing
pub never_closed : (d : Dif) (lines : List Direction) (below : Seen) (at n : ℕ) (p : IpcProcess) (link : Link) (tick : ℕ) (bytes : List ℕ) → AreKept below → at < length d.settings.members → Holds d lines below → slice_get d.processes at ≡ Some p → link_by n p.links ≡ Some link → IsLent below link.port tick bytes → None ≡ opened d.settings.widths bytes → ⊥
never_closed d lines below at n p link tick bytes kept lt h is is_link lent none =
    let here = is_here d at p lt is in
    let o = opens (seen_of d) lines below at n here.member (process_of p) link lent.entry h.standing kept here.process is_link lent.oldest in
    same_none (opened d.settings.widths lent.entry.bytes) o.0 o.1 (none ∙ ap (opened d.settings.widths) lent.its_bytes)

-- it comes
pub comes_there : (d : Dif) (lines : List Direction) (below : Seen) (at n : ℕ) (p : IpcProcess) (link : Link) (tick : ℕ) (bytes : List ℕ) (hop : Hop) → AreKept below → at < length d.settings.members → Holds d lines below → slice_get d.processes at ≡ Some p → link_by n p.links ≡ Some link → IsLent below link.port tick bytes → Some hop ≡ opened d.settings.widths bytes → IsThere (seen_of d) below tick hop
comes_there d lines below at n p link tick bytes hop kept lt h is is_link lent opened_ =
    let here = is_here d at p lt is in
    let opens_ : opened d.settings.widths lent.entry.bytes ≡ Some hop = ap (opened d.settings.widths) (sym lent.its_bytes) ∙ sym opened_ in
    let a = arrival (seen_of d) lines below at n here.member (process_of p) link lent.entry hop h.standing kept here.process is_link lent.oldest opens_ in
    let its : IsThere (seen_of d) below lent.entry.tick hop = record { fit = a.fit.fit; past = a.past; older = a.older; later = a.later; on_way = a.on_way } in
    subst (λ (t : ℕ). IsThere (seen_of d) below t hop) (sym lent.its_tick) its

-- and is the oldest that waits at the port of the link
pub oldest_there : (d : Dif) (below : Seen) (port : Port) (tick : ℕ) (bytes : List ℕ) (hop : Hop) → IsLent below port tick bytes → Some hop ≡ opened d.settings.widths bytes → IsOldest (config_of d.settings) below port tick hop
oldest_there d below port tick bytes hop lent opened_ = record { entry = lent.entry; oldest = lent.oldest; tick = sym lent.its_tick; opens = ap (opened d.settings.widths) (sym lent.its_bytes) ∙ sym opened_ }

pub waits_there : (below : Seen) (port : Port) (tick : ℕ) (bytes : List ℕ) → IsLent below port tick bytes → IsSome (unpassed below port)
waits_there below port tick bytes lent = subst (λ (o : Option Entry). IsSome o) (sym lent.oldest) refl

-- What is answered

-- no messages about flows came
tells_none : (d d' : Dif) (lines : List Direction) (below below' : Seen) (at n : ℕ) (answer : Result InStep StepError) → AreBrought d below at n answer [] → TellsFlows d below at n answer d' lines below' answer d' lines
tells_none d d' lines below below' at n answer none = record { messages = []; are = none; stopped = Ok tt; handles = (refl, refl, refl); ends = refl }

pub no_link : (d : Dif) (lines : List Direction) (below : Seen) (at n : ℕ) (p : IpcProcess) → slice_get d.processes at ≡ Some p → link_by n p.links ≡ None → Holds d lines below → TakesIn d lines below at n (Err NoLink) d below
no_link d lines below at n p is none h = record {
  answer = Err NoLink;
  between = lines;
  taken = d;
  does = (record { process = process_of p; is_process = shown_at d at p is; none = none }, refl, refl, refl);
  links = λ links. refl;
  managed = refl;
  asks = refl;
  held = h;
  handled = d;
  handles = refl;
  rerouted = inl refl;
  stood = h;
  lines' = lines;
  told = tells_none d d lines below below at n (Err NoLink) refl;
  holds = h;
}

pub none_waits : (d : Dif) (lines : List Direction) (below : Seen) (at n : ℕ) (p : IpcProcess) (link : Link) → slice_get d.processes at ≡ Some p → link_by n p.links ≡ Some link → unpassed below link.port ≡ None → Holds d lines below → TakesIn d lines below at n (Ok in_.Idle) d below
none_waits d lines below at n p link is is_link none h = record {
  answer = Ok in_.Idle;
  between = lines;
  taken = d;
  does = (record { process = process_of p; link = link; is_process = shown_at d at p is; is_link = is_link; none = none }, refl, refl, refl);
  links = λ links. refl;
  managed = refl;
  asks = refl;
  held = h;
  handled = d;
  handles = refl;
  rerouted = inl refl;
  stood = h;
  lines' = lines;
  told = tells_none d d lines below below at n (Ok in_.Idle) refl;
  holds = h;
}

pub took_none : (d : Dif) (lines : List Direction) (below : Seen) (at n : ℕ) (d' : Dif) (e : StepError) (r : Result InStep StepError) → e ≡ Memory → r ≡ Err e → (seen_of d' ≡ seen_of d) × Holds d' lines below × (d'.connections ≡ d.connections) → d'.managements ≡ d.managements → d'.asks ≡ d.asks → TakesIn d lines below at n r d' below
took_none d lines below at n d' e r is err same managed asks =
    subst (λ (v : Result InStep StepError). TakesIn d lines below at n v d' below) (sym (err ∙ ap (λ (z : StepError). Err z) is)) (record {
      answer = Err Memory;
      between = lines;
      taken = d';
      does = (same.0, refl, refl);
      links = λ links. same.2;
      managed = managed;
      asks = asks;
      held = same.1;
      handled = d';
      handles = refl;
      rerouted = inl refl;
      stood = same.1;
      lines' = lines;
      told = tells_none d d' lines below below at n (Err Memory) refl;
      holds = same.1;
    })

-- an SDU was taken, which made this DIF of it
pub record HasTakenOne (d : Dif) (lines : List Direction) (below : Seen) (at n : ℕ) (key : Key) (end : Took) (taken : Dif) (below' : Seen) : Type 0 where
  pub lines' : List Direction
  pub does : Ins (seen_of d) lines below at n (Ok (in_.Took key end)) (seen_of taken) lines' below'
  pub links : (links : LinksStand d below) → TakesLinks d links.lines below at n (Ok (in_.Took key end)) taken
  pub holds : Holds taken lines' below'

pub took_it : (d : Dif) (lines : List Direction) (below : Seen) (at n : ℕ) (p : IpcProcess) (link : Link) (tick : ℕ) (bytes : List ℕ) (hop : Hop) (key : Key) (end : Took) (d' : Dif) (below' : Seen) → AreKept below → AreKept below' → at < length d.settings.members → (h : Holds d lines below) → slice_get d.processes at ≡ Some p → link_by n p.links ≡ Some link → IsLent below link.port tick bytes → Some hop ≡ opened d.settings.widths bytes → key ≡ key_of hop.pdu → IsThere (seen_of d) below tick hop → TakesFor d at tick link.port hop (Ok end) d' → IsPassed below link.port below' → HasTakenOne d lines below at n key end d' below'
took_it d lines below at n p link tick bytes hop key end d' below' kept kept' lt h is is_link lent opened_ key_is there takes passed =
    let here = is_here d at p lt is in
    let oldest = oldest_there d below link.port tick bytes hop lent opened_ in
    let s : HasTaken d lines h.connected.lines below at tick link.port hop end d' = takes lines below h kept there oldest in
    let does : Ins (seen_of d) lines below at n (Ok (in_.Took key end)) (seen_of d') s.lines' below' = record {
      member = here.member;
      process = process_of p;
      is_process = here.process;
      link = link;
      is_link = is_link;
      entry = lent.entry;
      oldest = lent.oldest;
      hop = hop;
      opens = ap (opened d.settings.widths) (sym lent.its_bytes) ∙ sym opened_;
      key_is = key_is;
      settled = subst (λ (t : ℕ). Settles (seen_of d) lines at here.member (process_of p) t hop end (seen_of d') s.lines') lent.its_tick (s.settled here.member (process_of p) here.process);
      passed = passed;
    } in
    record {
      lines' = s.lines';
      does = does;
      links = λ links.
          let own : HasTaken d lines links.lines below at tick link.port hop end d' = takes lines below (record h { connected = links }) kept there oldest in
          record { process = p; is_process = is; link = link; is_link = is_link; since = tick; hop = hop; is_oldest = oldest; links' = own.connected.lines; settled = own.channels; tied = own.connected.tied };
      holds = record {
        tied = s.tied;
        standing = ins_stand (seen_of d) lines below at n (Ok (in_.Took key end)) (seen_of d') s.lines' below' kept kept' h.standing does;
        carrying = ins_carry (seen_of d) lines below at n (Ok (in_.Took key end)) (seen_of d') s.lines' below' kept kept' h.standing h.carrying does;
        numbered = ins_numbered (seen_of d) lines below at n (Ok (in_.Took key end)) (seen_of d') s.lines' below' kept kept' h.standing h.numbered does;
        accounted = ins_accounted (seen_of d) lines below at n (Ok (in_.Took key end)) (seen_of d') s.lines' below' kept kept' h.standing h.numbered h.carrying h.accounted does;
        caused = ins_caused (seen_of d) lines below at n (Ok (in_.Took key end)) (seen_of d') s.lines' below' kept' h.caused does;
        written_off = ins_written (seen_of d) lines below at n (Ok (in_.Took key end)) (seen_of d') s.lines' below' h.standing h.written_off does;
        housed = s.housed;
        managed = s.managed;
        enrolled = s.enrolled;
        connected = taking_connected (config_of d'.settings) d'.clock d'.connections (seen_of d').processes below link.port below' kept kept' passed s.connected;
        flooded = s.flooded h.flooded;
      };
    }

-- and what it made whole was handled
handles_piece : (d : Dif) (at n since : ℕ) (port : Port) (hop : Hop) (found : Option Handled) (taken : Dif) (lines' : List Direction) (below' : Seen) (d' : Dif) → MayBring d at n since port hop found → HandlesAs taken lines' below' at n found d' → HandlesPiece d at n since port hop taken below' d'
handles_piece d at n since port hop (Some w) taken lines' below' d' ahead s = inl (w.place, ahead.its, ahead.takes, s.0)
handles_piece d at n since port hop None taken lines' below' d' none same = inr (none, same)

handled_reroutes : (at n : ℕ) (found : Option Handled) (taken : Dif) (lines' : List Direction) (below' : Seen) (d' : Dif) → Holds taken lines' below' → HandlesAs taken lines' below' at n found d' → MayReroute (seen_of taken) (seen_of d')
handled_reroutes at n (Some w) taken lines' below' d' h s =
    let a = s.0 h.connected in
    inr (record {
      place = at;
      process = process_of a.process;
      is_process = shown_at taken at a.process a.is_process;
      routes = a.routes;
      nodes = nodes_with taken at a.after;
      is = ap seen_of a.only ∙ handled_seen taken at w.place n a.here a.management a.after a.is_management a.process a.is_process a.routes d'.connections.flows;
    })
handled_reroutes at n None taken lines' below' d' h same = inl (ap seen_of same)

handled_stands : (at n : ℕ) (found : Option Handled) (taken : Dif) (lines' : List Direction) (below' : Seen) (d' : Dif) → Holds taken lines' below' → HandlesAs taken lines' below' at n found d' → Holds d' lines' below'
handled_stands at n (Some w) taken lines' below' d' h s = s.1
handled_stands at n None taken lines' below' d' h same = subst (λ (z : Dif). Holds z lines' below') (sym same) h

-- the DIF as it is behind the messages of neighbours
pub handled_holds : (d : Dif) (lines : List Direction) (below : Seen) (at n : ℕ) (key : Key) (end : Took) (taken : Dif) (below' : Seen) (found : Option Handled) (mid : Dif) → HasTakenOne d lines below at n key end taken below' → ((lines' : List Direction) (b : Seen) → Holds taken lines' b → HandlesAs taken lines' b at n found mid) → (lines' : List Direction) × Holds mid lines' below'
handled_holds d lines below at n key end taken below' found mid t handles = (t.lines', handled_stands at n found taken t.lines' below' mid t.holds (handles t.lines' below' t.holds))

pub handled_silent : (d : Dif) (lines : List Direction) (below : Seen) (at n : ℕ) (key : Key) (end : Took) (taken : Dif) (below' : Seen) (found : Option Handled) (mid : Dif) → Holds d lines below → HasTakenOne d lines below at n key end taken below' → ((lines' : List Direction) (b : Seen) → Holds taken lines' b → HandlesAs taken lines' b at n found mid) → IsSilent (seen_of d) (seen_of mid)
handled_silent d lines below at n key end taken below' found mid h t handles =
    silent_rerouted (seen_of d) (seen_of taken) (seen_of mid) (handled_reroutes at n found taken t.lines' below' mid t.holds (handles t.lines' below' t.holds)) (ins_silent (seen_of d) lines below at n (Ok (in_.Took key end)) (seen_of taken) t.lines' below' h.standing t.does)

-- `mid` is the DIF behind the messages of neighbours, and those about flows come then
pub took_and_handled : (d : Dif) (lines : List Direction) (below : Seen) (at n since : ℕ) (p : IpcProcess) (link : Link) (hop : Hop) (key : Key) (end : Took) (taken : Dif) (below' : Seen) (found : Option Handled) (mid : Dif) (ms : List FlowMessage) (stopped : Result (Unit {0}) NoMemory) (r : Result InStep StepError) (d' : Dif) → slice_get d.processes at ≡ Some p → link_by n p.links ≡ Some link → IsOldest (config_of d.settings) below link.port since hop
    → HasTakenOne d lines below at n key end taken below' → MayBring d at n since link.port hop found → ((lines' : List Direction) (b : Seen) → Holds taken lines' b → HandlesAs taken lines' b at n found mid) → taken.managements ≡ d.managements → taken.asks ≡ d.asks
    → BringsFlows d since link.port hop ms → ((lines' : List Direction) (b : Seen) → Holds mid lines' b → TakesFlows mid lines' b at ms stopped d') → d'.failed ≡ mid.failed → EndsAs stopped (Ok (in_.Took key end)) r → TakesIn d lines below at n r d' below'
took_and_handled d lines below at n since p link hop key end taken below' found mid ms stopped r d' is is_link oldest t ahead handles managed asks brings tells failed ends =
    let s = handles t.lines' below' t.holds in
    let stood = handled_stands at n found taken t.lines' below' mid t.holds s in
    let u = tells t.lines' below' stood in
    record {
      answer = Ok (in_.Took key end);
      between = t.lines';
      taken = taken;
      does = t.does;
      links = t.links;
      managed = managed;
      asks = asks;
      held = t.holds;
      handled = mid;
      handles = record { process = p; is_process = is; link = link; is_link = is_link; since = since; hop = hop; is_oldest = oldest; handles = handles_piece d at n since link.port hop found taken t.lines' below' mid ahead s };
      rerouted = handled_reroutes at n found taken t.lines' below' mid t.holds s;
      stood = stood;
      lines' = u.lines';
      told = record {
        messages = ms;
        are = record { process = p; is_process = is; link = link; is_link = is_link; since = since; hop = hop; is_oldest = oldest; brings = brings };
        stopped = stopped;
        handles = subst (λ (z : Dif). HandlesFlows mid t.lines' below' at ms stopped z u.lines') (ap (λ (b : Bool). record d' { failed = b }) failed) u.handles;
        ends = ends;
      };
      holds = u.holds;
    }

-- for what it makes whole the member has too few counts left
lacks_counts : (d : Dif) (lines : List Direction) (below : Seen) (at n since : ℕ) (p : IpcProcess) (link : Link) (hop : Hop) (need left : ℕ) → slice_get d.processes at ≡ Some p → link_by n p.links ≡ Some link → IsOldest (config_of d.settings) below link.port since hop → LacksFor d at n since link.port hop need left → Holds d lines below → TakesIn d lines below at n (Err (CountSpent need left)) d below
lacks_counts d lines below at n since p link hop need left is is_link oldest lacks h = record {
  answer = Err (CountSpent need left);
  between = lines;
  taken = d;
  does = (refl, refl, refl);
  links = λ links. refl;
  managed = refl;
  asks = refl;
  held = h;
  handled = d;
  handles = (record { process = p; is_process = is; link = link; is_link = is_link; since = since; hop = hop; is_oldest = oldest; lacks = lacks }, refl);
  rerouted = inl refl;
  stood = h;
  lines' = lines;
  told = tells_none d d lines below below at n (Err (CountSpent need left)) refl;
  holds = h;
}

-- as the error tells it
pub lacks_told : (d : Dif) (lines : List Direction) (below : Seen) (at n since : ℕ) (p : IpcProcess) (link : Link) (hop : Hop) (e : AgentError) (need left need' left' : ℕ) → e ≡ agent.CountSpent need left → need' ≡ need → left' ≡ left → slice_get d.processes at ≡ Some p → link_by n p.links ≡ Some link → IsOldest (config_of d.settings) below link.port since hop → BringsAs d at n since link.port hop (Err e) → Holds d lines below → TakesIn d lines below at n (Err (CountSpent need' left')) d below
lacks_told d lines below at n since p link hop e need left need' left' err needs lefts is is_link oldest brings h =
    subst (λ (k : ℕ). TakesIn d lines below at n (Err (CountSpent k left')) d below) (sym needs)
    (subst (λ (k : ℕ). TakesIn d lines below at n (Err (CountSpent need k)) d below) (sym lefts)
    (lacks_counts d lines below at n since p link hop need left is is_link oldest (subst (λ (z : AgentError). BringsAs d at n since link.port hop (Err z)) err brings) h))

-- By node

at_home : (o : Option ℕ) (k : ℕ) (P : ℕ → Type 0) (Q : Type 0) → o ≡ Some k → P k → AtHome o P Q
at_home o k P Q is p = subst (λ (z : Option ℕ). AtHome z P Q) (sym is) p

not_home : (o : Option ℕ) (P : ℕ → Type 0) (Q : Type 0) → o ≡ None → Q → AtHome o P Q
not_home o P Q is q = subst (λ (z : Option ℕ). AtHome z P Q) (sym is) q

ins_at : (d : DifSeen) (lines : List Direction) (below : Seen) (node n at : ℕ) (r : Result InStep StepError) (d' : DifSeen) (lines' : List Direction) (below' : Seen) → home node d.config.members ≡ Some at → Ins d lines below at n r d' lines' below' → InsAt d lines below node n r d' lines' below'
ins_at d lines below node n at (Ok x) d' lines' below' here ins = at_home (home node d.config.members) at (λ k. Ins d lines below k n (Ok x) d' lines' below') _ here ins
ins_at d lines below node n at (Err Memory) d' lines' below' here ins = ins
ins_at d lines below node n at (Err NoIpc) d' lines' below' here ins = at_home (home node d.config.members) at (λ k. Ins d lines below k n (Err NoIpc) d' lines' below') _ here ins
ins_at d lines below node n at (Err NoLink) d' lines' below' here ins = at_home (home node d.config.members) at (λ k. Ins d lines below k n (Err NoLink) d' lines' below') _ here ins
ins_at d lines below node n at (Err (CountSpent need left)) d' lines' below' here ins = at_home (home node d.config.members) at (λ k. Ins d lines below k n (Err (CountSpent need left)) d' lines' below') _ here ins

either_home : (o : Option ℕ) (P : ℕ → Type 0) (Q : Type 0) → ((k : ℕ) → P k) → Q → AtHome o P Q
either_home (Some k) P Q p q = p k
either_home None P Q p q = q

-- what it does there
home_takes : (d : Dif) (lines : List Direction) (below : Seen) (node n at : ℕ) (r : Result InStep StepError) (d' : Dif) (below' : Seen) → home node (config_of d.settings).members ≡ Some at → TakesIn d lines below at n r d' below' → TakesHome d lines below node n r d' below'
home_takes d lines below node n at r d' below' here t = record {
  answer = t.answer;
  between = t.between;
  taken = t.taken;
  does = ins_at (seen_of d) lines below node n at t.answer (seen_of t.taken) t.between below' here t.does;
  links = λ links. at_home (home node (config_of d.settings).members) at (λ i. TakesLinks d links.lines below i n t.answer t.taken) _ here (t.links links);
  managed = t.managed;
  asks = t.asks;
  held = t.held;
  handled = t.handled;
  handles = at_home (home node (config_of d.settings).members) at (λ i. Handles d below i n t.answer t.taken below' t.handled) _ here t.handles;
  rerouted = t.rerouted;
  stood = t.stood;
  lines' = t.lines';
  told = at_home (home node (config_of d.settings).members) at (λ i. TellsFlows d below i n t.answer t.handled t.between below' r d' t.lines') _ here t.told;
  holds = t.holds;
}

both_home : (o : Option ℕ) (P Q : ℕ → Type 0) (X Y : Type 0) → ((k : ℕ) → P k → Q k) → (X → Y) → AtHome o P X → AtHome o Q Y
both_home (Some k) P Q X Y f g p = f k p
both_home None P Q X Y f g p = g p

-- and whether an allocation failed is noted
home_noted : (d : Dif) (lines : List Direction) (below : Seen) (node n : ℕ) (r : Result InStep StepError) (d' : Dif) (failed : Bool) (below' : Seen) → d'.failed ≡ false → TakesHome d lines below node n r d' below' → TakesHome d lines below node n r (record d' { failed = failed }) below'
home_noted d lines below node n r d' failed below' alive t = record {
  answer = t.answer;
  between = t.between;
  taken = t.taken;
  does = t.does;
  links = t.links;
  managed = t.managed;
  asks = t.asks;
  held = t.held;
  handled = t.handled;
  handles = t.handles;
  rerouted = t.rerouted;
  stood = t.stood;
  lines' = t.lines';
  told = both_home (home node (config_of d.settings).members) (λ i. TellsFlows d below i n t.answer t.handled t.between below' r d' t.lines') (λ i. TellsFlows d below i n t.answer t.handled t.between below' r (record d' { failed = failed }) t.lines')
      (TellsNothing t.answer t.handled t.between r d' t.lines') (TellsNothing t.answer t.handled t.between r (record d' { failed = failed }) t.lines')
      (λ i told. record { messages = told.messages; are = told.are; stopped = told.stopped; handles = told.handles; ends = told.ends }) (λ none. none) t.told;
  holds = record { tied = t.holds.tied; standing = t.holds.standing; carrying = t.holds.carrying; numbered = t.holds.numbered; accounted = t.holds.accounted; caused = t.holds.caused; written_off = t.holds.written_off; housed = t.holds.housed; managed = t.holds.managed; enrolled = t.holds.enrolled; connected = t.holds.connected; flooded = λ still. t.holds.flooded alive };
}

pub takes_home : (d : Dif) (lines : List Direction) (below : Seen) (node n at : ℕ) (r r' : Result InStep StepError) (d' : Dif) (failed : Bool) (below' : Seen) → d'.failed ≡ false → home node (config_of d.settings).members ≡ Some at → r' ≡ r → TakesIn d lines below at n r d' below' → TakesHome d lines below node n r' (record d' { failed = failed }) below'
takes_home d lines below node n at r r' d' failed below' alive here same t =
    subst (λ (v : Result InStep StepError). TakesHome d lines below node n v (record d' { failed = failed }) below') (sym same) (home_noted d lines below node n r d' failed below' alive (home_takes d lines below node n at r d' below' here t))

pub takes_none : (d : Dif) (lines : List Direction) (below : Seen) (node n : ℕ) → Holds d lines below → TakesHome d lines below node n (Err Memory) d below
takes_none d lines below node n h = record {
  answer = Err Memory;
  between = lines;
  taken = d;
  does = (refl, refl, refl);
  links = λ links. either_home (home node (config_of d.settings).members) (λ i. TakesLinks d links.lines below i n (Err Memory) d) _ (λ k. refl) refl;
  managed = refl;
  asks = refl;
  held = h;
  handled = d;
  handles = either_home (home node (config_of d.settings).members) (λ i. Handles d below i n (Err Memory) d below d) _ (λ k. refl) refl;
  rerouted = inl refl;
  stood = h;
  lines' = lines;
  told = either_home (home node (config_of d.settings).members) (λ i. TellsFlows d below i n (Err Memory) d lines below (Err Memory) d lines) _ (λ k. tells_none d d lines below below k n (Err Memory) refl) (refl, refl, refl);
  holds = h;
}

pub takes_nowhere : (d : Dif) (lines : List Direction) (below : Seen) (node n : ℕ) → home node (config_of d.settings).members ≡ None → Holds d lines below → TakesHome d lines below node n (Err NoIpc) d below
takes_nowhere d lines below node n none h = record {
  answer = Err NoIpc;
  between = lines;
  taken = d;
  does = not_home (home node (config_of d.settings).members) (λ k. Ins (seen_of d) lines below k n (Err NoIpc) (seen_of d) lines below) _ none (refl, refl, refl, refl);
  links = λ links. not_home (home node (config_of d.settings).members) (λ i. TakesLinks d links.lines below i n (Err NoIpc) d) _ none refl;
  managed = refl;
  asks = refl;
  held = h;
  handled = d;
  handles = not_home (home node (config_of d.settings).members) (λ i. Handles d below i n (Err NoIpc) d below d) _ none refl;
  rerouted = inl refl;
  stood = h;
  lines' = lines;
  told = not_home (home node (config_of d.settings).members) (λ i. TellsFlows d below i n (Err NoIpc) d lines below (Err NoIpc) d lines) _ none (refl, refl, refl);
  holds = h;
}
