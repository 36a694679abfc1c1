-- All flows of a node fail with the last link of their IPC process.
use Rattle.std.proofs.Common.{◌≡◌, ◌≢◌, ◌∙◌, ℕ, zero, suc, ◌+◌, ◌<◌, ◌≤◌, ◌⊎◌, List, get_or, length, slice_get, slice_set, Option, Some, None, Result, Ok, Err, refl, sym, ap, subst, arith, inl, inr, set-set}
use Rattle.std.proofs.lemmas.Option.{slice_get_read}
use Rattle.rina_account.specs.declared.ledger.Off.{Off}
use Rattle.rina_member.specs.declared.management.Management.{Management}
use Rattle.rina_base.specs.declared.memory.Memory.{Memory}
use Rattle.rina_base.specs.declared.number.Port.{Port}
use Rattle.rina_iface.specs.declared.ends.End.{End}
use Rattle.rina_iface.specs.declared.state.Fail.{Fail}
use Rattle.rina_iface.specs.declared.state.Fail.TheVariants.{Below}
use Rattle.rina_iface.specs.declared.state.PortState.{PortState}
use Rattle.rina_iface.specs.declared.state.PortState.TheVariants.{Allocated, Failed}
use Rattle.rina_iface.specs.Journal.{At}
use Rattle.rina_iface.specs.Seen.{Seen}
use Rattle.rina_iface.proofs.Changed.{set_at, slice_get-set_other, slice_get-set_same}
use Rattle.rina_law.specs.Direction.{Direction}
use Rattle.rina_data.specs.declared.loss.Lost.{Lost}
use Rattle.rina_data.specs.declared.process.IpcProcess.{IpcProcess}
use Rattle.rina_data.specs.Configs.{Config, config_of}
use Rattle.rina_data.specs.Deciding.{process_of, queue_settings}
use Rattle.rina_dif_law.specs.Dif.{DifSeen}
use Rattle.rina_dif_law.specs.Ending.{IsEnded}
use Rattle.rina_dif_law.specs.Losing.{FailFirst, IsAllocatedAt, MayFail}
use Rattle.rina_dif_law.specs.Sending.{home}
use Rattle.rina_dif_law.specs.Upward.{IsSilent}
use Rattle.rina_dif_law.proofs.Founding.{failed_accounted}
use Rattle.rina_dif_law.proofs.FarEnds.{silent_on}
use Rattle.rina_dif_law.proofs.Linkless.{failed_carries, failed_numbered, failed_silent, failed_stands, first_stay}
use Rattle.rina_dif_law.proofs.Upper.{silent_same}
use Rattle.rina_dif_law.proofs.Warranted.{failed_written}
use Rattle.rina_flows.specs.declared.flows.Flows.{Flows}
use Rattle.rina_flows.specs.Delivering.{HasStopped}
use Rattle.rina_flows.specs.Stopping.{MayStop, StopFirst, StopsAll}
use Rattle.rina_flows.proofs.Gone.{is_ended}
use Rattle.rina_member.specs.Knowing.{AreRoutesOf}
use Rattle.rina_dif.specs.declared.dif.Dif.{Dif}
use Rattle.rina_dif.specs.Holding.{Holds, Stands}
use Rattle.rina_dif.proofs.Managed.{IsWithout}
use Rattle.rina_dif.specs.Shown.{seen_of}
use Rattle.rina_dif.specs.declared.processes.LinkLoss.{LinkLoss}
use Rattle.rina_dif.specs.Unlinking.{FindsEnd, FindsLostAt, FindsNoneLeft, LosesAs, LosesLast, LosesLastIn, LosesThenStops, LosesWith, held_here, with_lost}
use Rattle.rina_dif.proofs.Causing.{failed_below, failed_caused}
use Rattle.rina_dif.proofs.Keeping.{home_set, kept_house}
use Rattle.rina_dif.proofs.Leaves.{has_process, shown_at}
use Rattle.rina_dif.proofs.Owning.{arrived_seen}
use Rattle.rina_dif.proofs.Unlinked.{after, after_holds, first_lost, has_agent, has_member, keeps_links, lost_with, then_closed}
use Rattle.rina_channel.proofs.Leaving.{failing_leaves}
use Rattle.rina_ids.specs.Members.{CepIds, with_rest}
use Rattle.rina_data.proofs.Finding.{there}
use Rattle.rina_flows.specs.Tied.{conns_of, ids_of}
use Rattle.rina_dif_law.specs.Ending.{GivesBack}
use Rattle.rina_dif_law.specs.Ids.{Ids}
use Rattle.rina_dif.specs.declared.release.IdRest.{IdRest}
use Rattle.rina_dif.specs.Freeing.{RestsAt}
use Rattle.rina_dif.specs.IdRests.{AreRests, GaveFirst, GaveOne, RestsHere}
use Rattle.rina_dif.proofs.GivenBack.{cube_here, ids_here}
use Rattle.rina_dif.proofs.Connected.{kept_by}
use Rattle.rina_dif.proofs.LinkEnds.{live_floods}

same_some : {X : Type 0} (o : Option X) (a b : X) → o ≡ Some a → o ≡ Some b → a ≡ b
same_some o a b h g = cc

-- One IPC process of those that are kept

pub last_one : (node : ℕ) (state : PortState) (loss : LinkLoss) (r : Result (Unit {0}) Memory) (at : ℕ) (links links' flows flows' : Flows) (ps : List IpcProcess) (x x' : IpcProcess) → at < length ps → x ≡ get_or ps at x → LosesLast node state loss links flows x r links' flows' x' → queue_settings x' ≡ queue_settings x → LosesLastIn node state loss r at links flows ps links' flows' (slice_set ps at x')
last_one node state loss r at links links' flows flows' ps x x' lt read loses room p is =
    let here : slice_get ps at ≡ Some x = slice_get_read ps (length ps) at x refl lt read in
    let same : x ≡ p = same_some (slice_get ps at) x p here is in
    (x', subst (λ (z : IpcProcess). LosesLast node state loss links flows z r links' flows' x') same loses, subst (λ (z : IpcProcess). queue_settings x' ≡ queue_settings z) same room, refl)

-- The flows of a node end one after the other

-- with these flows so far, this ledger of the IPC process at a place, and these CEP-ids
abbrev stage : Dif → ℕ → IpcProcess → Flows → List Off → List CepIds → Dif
stage d i p flows ledger held = record d { flows = flows; processes = slice_set d.processes i (record p { ledger = ledger }); ids = held }

-- the connections are the same, and so are the ends from a place on
record IsStage (d : Dif) (n : ℕ) (f : Flows) : Type 0 where
  conns : conns_of f.conns ≡ conns_of d.flows.conns
  ends : (k : ℕ) → n ≤ k → slice_get f.journal.ends k ≡ slice_get d.flows.journal.ends k

stopped_stage : (d : Dif) (n node : ℕ) (state : PortState) (lines : List Direction) (f' : Flows) (l l' : List Off) → StopFirst (config_of d.settings) d.clock node state lines n d.flows l f' l' → IsStage d n f'
stopped_stage d zero node state lines f' l l' s = record { conns = ap (λ (z : Flows). conns_of z.conns) s.0; ends = λ k le. ap (λ (z : Flows). slice_get z.journal.ends k) s.0 }
stopped_stage d (suc n) node state lines f' l l' s =
    let was = stopped_stage d n node state lines s.0 l s.1 s.2 in
    elim s.3 [
      | inl t ↦
          (let e = t.1.stops in
          record {
            conns = t.1.ids ∙ was.conns;
            ends = λ k le. ap (λ (es : List End). slice_get es k) e.ends_are ∙ slice_get-set_other s.0.journal.ends n k (record e.end { state = state }) (λ same. omega (arith, le, same)) ∙ was.ends k (omega (arith, le));
          })
      | inr t ↦ record { conns = ap (λ (z : Flows). conns_of z.conns) t.1 ∙ was.conns; ends = λ k le. ap (λ (z : Flows). slice_get z.journal.ends k) t.1 ∙ was.ends k (omega (arith, le)) }
    ]

module _ (d : Dif) (lines : List Direction) (below : Seen) (h : Holds d lines below) (i node : ℕ) (p q : IpcProcess) (is : slice_get d.processes i ≡ Some q) (here : home node (config_of d.settings).members ≡ Some i) (rests : List (Option IdRest)) (are : AreRests d node (length d.flows.conns) rests) where
  stage_gives : (n : ℕ) (f : Flows) (l : List Off) (held held' : List CepIds) (end : End) (rest : IdRest) → IsStage d n f → IsAllocatedAt d.flows.journal.ends node n → RestsAt d n rest → slice_get f.journal.ends n ≡ Some end → GaveOne i d.clock (Some (Some rest)) held held' → GivesBack (seen_of (stage d i p f l held)) n end held'
  stage_gives n f l held held' end rest st a rests_at is_end gave =
      let old : slice_get d.flows.journal.ends n ≡ Some end = sym (st.ends n (omega arith)) ∙ is_end in
      let same : a.end ≡ end = same_some (slice_get d.flows.journal.ends n) a.end end a.is_end old in
      record {
        ids = ids_of rests_at.conn;
        are_ids = ap (λ (cs : List Ids). slice_get cs n) st.conns ∙ ids_here d lines below h n rests_at.conn rests_at.is_conn;
        cube = rests_at.conn.sending.form.cube;
        is_cube = cube_here d lines below h n end rests_at.conn old rests_at.is_conn;
        place = i;
        at_home = ap (λ (e : End). home e.port.node (config_of d.settings).members) (sym same) ∙ ap (λ (k : ℕ). home k (config_of d.settings).members) a.node_is ∙ here;
        old = gave.0;
        is_old = gave.1;
        held_is = gave.2 ∙ ap (λ (m : ℕ). with_rest i gave.0 m (d.clock + rest.ticks) held) rests_at.cep ∙ ap (λ (m : ℕ). with_rest i gave.0 rests_at.conn.sending.form.peer.scep (d.clock + m) held) rests_at.ticks;
      }

  stage_ended : (n : ℕ) (state : PortState) (f f' : Flows) (l l' : List Off) (held held' : List CepIds) (rest : IdRest) → IsStage d n f → IsAllocatedAt d.flows.journal.ends node n → RestsAt d n rest → GaveOne i d.clock (Some (Some rest)) held held' → IsAllocatedAt f.journal.ends node n → HasStopped (config_of d.settings) d.clock n state f l lines f' l' → IsEnded (seen_of (stage d i p f l held)) lines n state (seen_of (stage d i p f' l' held'))
  stage_ended n state f f' l l' held held' rest st a0 rests_at gave a s =
      let g : Config = config_of d.settings in
      let old : Dif = stage d i p f l held in
      let pl : IpcProcess = record p { ledger = l } in
      let ps' : List IpcProcess = slice_set d.processes i (record p { ledger = l' }) in
      let there : slice_get old.processes i ≡ Some pl = slice_get-set_same d.processes i q pl is in
      let twice : ps' ≡ slice_set old.processes i (record pl { ledger = l' }) = sym (set-set d.processes i pl (record p { ledger = l' })) in
      let seen = ap (λ (z : DifSeen). record z { ids = held' }) (arrived_seen old i pl s.offs l' f' ps' refl s.ids s.ledger_is twice) in
      let same : a.end ≡ s.stops.end = same_some (slice_get f.journal.ends n) a.end s.stops.end a.is_end s.stops.is_conn.end in
      let at_home : home s.stops.end.port.node g.members ≡ Some i = ap (λ (e : End). home e.port.node g.members) (sym same) ∙ ap (λ (k : ℕ). home k g.members) a.node_is ∙ here in
      is_ended (seen_of old) lines n i state (process_of pl) s.offs f'.journal.ends held' (seen_of (stage d i p f' l' held')) s.stops at_home (shown_at old i pl there) (stage_gives n f l held held' s.stops.end rest st a0 rests_at s.stops.is_conn.end gave) seen

  -- whether an end is allocated there is as it was
  was_allocated : (n : ℕ) (f : Flows) → IsStage d n f → IsAllocatedAt f.journal.ends node n → IsAllocatedAt d.flows.journal.ends node n
  was_allocated n f st a = record { end = a.end; is_end = sym (st.ends n (omega arith)) ∙ a.is_end; allocated = a.allocated; node_is = a.node_is }

  is_allocated : (n : ℕ) (f : Flows) → IsStage d n f → IsAllocatedAt d.flows.journal.ends node n → IsAllocatedAt f.journal.ends node n
  is_allocated n f st a = record { end = a.end; is_end = st.ends n (omega arith) ∙ a.is_end; allocated = a.allocated; node_is = a.node_is }

  stage_fails : (n : ℕ) (fail : Fail) (f f' : Flows) (l l' : List Off) (held held' : List CepIds) (o : Option IdRest) → IsStage d n f → RestsHere d node n o → GaveOne i d.clock (Some o) held held' → MayStop (config_of d.settings) d.clock node (Failed fail) lines n f l f' l' → MayFail lines node fail n (seen_of (stage d i p f l held)) (seen_of (stage d i p f' l' held'))
  stage_fails n fail f f' l l' held held' (Some rest) st r gave (inl s) = inl (s.0, stage_ended n (Failed fail) f f' l l' held held' rest st r.0 r.1 gave s.0 s.1)
  stage_fails n fail f f' l l' held held' None st r gave (inl s) = absurd (r (was_allocated n f st s.0))
  stage_fails n fail f f' l l' held held' (Some rest) st r gave (inr k) = absurd (k.0 (is_allocated n f st r.0))
  stage_fails n fail f f' l l' held held' None st r gave (inr k) = inr (k.0, ap (λ (z : Flows). seen_of (stage d i p z l' held')) k.1 ∙ ap (λ (z : List Off). seen_of (stage d i p f z held')) k.2 ∙ ap (λ (z : List CepIds). seen_of (stage d i p f l z)) gave)

  stages_fail : (n : ℕ) (fail : Fail) (f' : Flows) (l l' : List Off) (held' : List CepIds) → n ≤ length d.flows.journal.ends → StopFirst (config_of d.settings) d.clock node (Failed fail) lines n d.flows l f' l' → GaveFirst i d.clock rests n d.ids held' → FailFirst lines node fail n (seen_of (stage d i p d.flows l d.ids)) (seen_of (stage d i p f' l' held'))
  stages_fail zero fail f' l l' held' le s gave = ap (λ (z : Flows). seen_of (stage d i p z l' held')) s.0 ∙ ap (λ (z : List Off). seen_of (stage d i p d.flows z held')) s.1 ∙ ap (λ (z : List CepIds). seen_of (stage d i p d.flows l z)) gave
  stages_fail (suc n) fail f' l l' held' le s gave =
      let aligned = are.aligned in
      let alike = h.tied.alike in
      let o = there rests n (omega (arith, le, aligned, alike)) in
      let one = subst (λ (z : Option (Option IdRest)). GaveOne i d.clock z gave.0 held') o.1 gave.2 in
      (seen_of (stage d i p s.0 s.1 gave.0), stages_fail n fail s.0 l s.1 gave.0 (omega (arith, le)) s.2 gave.1, stage_fails n fail s.0 f' s.1 l' gave.0 held' o.0 (stopped_stage d n node (Failed fail) lines s.0 l s.1 s.2) (are.each n o.0 o.1) one s.3)

-- The link is lost, and they all fail

failed_other : (fail : Fail) → Failed fail ≢ Allocated
failed_other fail e = absurd cc

last_fails : (d : Dif) (at node : ℕ) (lost : Lost) (port : Port) (loss : LinkLoss) (links flows : Flows) (p p' : IpcProcess) (g' : Management) → loss.place ≡ lost.place → loss.now ≡ d.clock → at < length d.settings.members → home node (config_of d.settings).members ≡ Some at → slice_get d.processes at ≡ Some p → IsWithout d at lost.number g' → AreRoutesOf g'.agent d.settings.members loss.routes → FindsEnd d at lost.place loss.end
    → LosesThenStops node (Failed (Below port)) loss d.connections.flows d.flows p links flows p' → queue_settings p' ≡ queue_settings p → (rests : List (Option IdRest)) (held : List CepIds) → AreRests d node (length d.flows.conns) rests → GaveFirst at d.clock rests (length rests) d.ids held
    → (lines : List Direction) (below : Seen) → Holds d lines below → FindsLostAt d below at (Some lost) → FindsNoneLeft d below at lost.place (Some port) → LosesAs d lines below at node lost.number (Ok tt) (record d { connections = record d.connections { flows = links }; flows = flows; ids = held; processes = slice_set d.processes at p'; managements = slice_set d.managements at g' })
last_fails d at node lost port loss links flows p p' g' place_is clock_is lt here is goes are ends s room rests held are_rests gave lines below h finds left =
    let g : Config = config_of d.settings in
    let m = has_member d at lt in
    let k = has_agent d lines below at lt h in
    let p1 : IpcProcess = record p' { ledger = s.ledger } in
    let more : ℕ = held_here node d.flows in
    let mid : Dif = after d lines below at lost loss more m.0 p p1 links k.0 g' place_is clock_is m.1 is k.1 (goes k.0 k.1) are s.loses room ends h finds in
    let d' : Dif = record d { connections = record d.connections { flows = links }; flows = flows; ids = held; processes = slice_set d.processes at p'; managements = slice_set d.managements at g' } in
    let l = first_lost d lines below at lost loss more m.0 p p1 links k.0 g' place_is clock_is m.1 is k.1 (goes k.0 k.1) are s.loses room ends h finds in
    let c = then_closed d lines below at lost loss more m.0 p p1 links k.0 g' place_is clock_is m.1 is k.1 (goes k.0 k.1) are s.loses room ends h finds in
    let holds : Holds mid lines below = after_holds d lines below at lost loss more m.0 p p1 links k.0 g' place_is clock_is m.1 is k.1 (goes k.0 k.1) are s.loses room ends h finds in
    let told = left l.process l.link l.is_process l.stands in
    let few = c.few in
    let fits = s.loses.fits in
    let wide = s.wide in
    let stops : StopsAll d.clock node (Failed (Below port)) d.flows s.ledger s.room flows p'.ledger = subst (λ (now : ℕ). StopsAll now node (Failed (Below port)) d.flows s.ledger s.room flows p'.ledger) clock_is s.stops in
    let all = stops g lines holds.standing.journal holds.tied tt (failed_other (Below port)) (omega (arith, few, fits, wide)) in
    let gave' : GaveFirst at d.clock rests (length d.flows.journal.ends) d.ids held = subst (λ (n : ℕ). GaveFirst at d.clock rests n d.ids held) (are_rests.aligned ∙ (let alike = h.tied.alike in omega (arith, alike))) gave in
    let fails = stages_fail d lines below h at node p' p is here rests are_rests (length d.flows.journal.ends) (Below port) flows s.ledger p'.ledger held (omega arith) all.0 gave' in
    let by : FailFirst lines node (Below l.link.port) (length d.flows.journal.ends) (seen_of mid) (seen_of d') = subst (λ (z : Port). FailFirst lines node (Below z) (length d.flows.journal.ends) (seen_of mid) (seen_of d')) told.0 fails in
    let there : slice_get mid.processes at ≡ Some p1 = slice_get-set_same d.processes at p p1 is in
    let twice : slice_set mid.processes at p' ≡ slice_set d.processes at p' = set-set d.processes at p1 p' in
    let house = home_set mid lines below at p1 p' (slice_set d.processes at p') holds there refl (kept_house _ _ refl refl refl) (sym twice) in (
      lost_with d lines below at lost loss more m.0 p p1 links k.0 g' place_is clock_is m.1 is k.1 (goes k.0 k.1) are s.loses room ends h finds node d' refl (inl (told.1, by)),
      record {
        tied = all.1;
        standing = failed_stands (seen_of mid) lines below node l.link.port (seen_of d') holds.standing holds.numbered by;
        carrying = failed_carries (seen_of mid) lines below node l.link.port (seen_of d') holds.carrying by;
        numbered = failed_numbered (seen_of mid) lines below node l.link.port (seen_of d') holds.numbered by;
        accounted = failed_accounted (seen_of mid) lines below node l.link.port (seen_of d') holds.standing holds.numbered holds.accounted by;
        caused = failed_caused (seen_of mid) lines below node l.link.port (seen_of d') (failed_below (seen_of d) lines below at node lost.place (process_of l.process) l.link h.standing here (shown_at d at l.process l.is_process) l.stands told.1.failed) holds.caused by;
        written_off = failed_written (seen_of mid) lines below node l.link.port (seen_of d') holds.standing holds.numbered holds.written_off by;
        housed = house.housed;
        managed = house.managed;
        enrolled = holds.enrolled;
        connected = kept_by (config_of d.settings) d.clock mid.connections (seen_of mid).processes (seen_of d').processes below (λ may. failing_leaves (seen_of mid) lines node l.link.port (seen_of d') by) holds.connected;
        flooded = λ alive. live_floods mid (slice_set d.processes at p') house.live (holds.flooded alive);
      },
    )

pub last_loses : (d : Dif) (at node : ℕ) (lost : Lost) (port : Port) (loss : LinkLoss) (g' : Management) (links flows : Flows) (ps : List IpcProcess) → loss.place ≡ lost.place → loss.now ≡ d.clock → at < length d.settings.members → home node (config_of d.settings).members ≡ Some at → IsWithout d at lost.number g' → AreRoutesOf g'.agent d.settings.members loss.routes → FindsEnd d at lost.place loss.end
    → LosesLastIn node (Failed (Below port)) loss (Ok tt) at d.connections.flows d.flows d.processes links flows ps → (rests : List (Option IdRest)) (held : List CepIds) → AreRests d node (length d.flows.conns) rests → GaveFirst at d.clock rests (length rests) d.ids held
    → (lines : List Direction) (below : Seen) → Holds d lines below → FindsLostAt d below at (Some lost) → FindsNoneLeft d below at lost.place (Some port) → LosesAs d lines below at node lost.number (Ok tt) (record d { connections = record d.connections { flows = links }; flows = flows; ids = held; processes = ps; managements = slice_set d.managements at g' })
last_loses d at node lost port loss g' links flows ps place_is clock_is lt here goes are ends loses rests held are_rests gave lines below h finds left =
    let p = has_process d below at (lines, h) lt in
    let x = loses p.0 p.1 in
    subst (λ (qs : List IpcProcess). LosesAs d lines below at node lost.number (Ok tt) (record d { connections = record d.connections { flows = links }; flows = flows; ids = held; processes = qs; managements = slice_set d.managements at g' })) (sym x.3) (last_fails d at node lost port loss links flows p.0 x.0 g' place_is clock_is lt here p.1 goes are ends x.1 x.2 rests held are_rests gave lines below h finds left)

-- the connections and the flows are as they were, and so is the IPC process at a place
abbrev pub StaysWith : ℕ → Flows → Flows → List IpcProcess → Flows → Flows → List IpcProcess → Type 0
StaysWith at links flows old links' flows' new = (p : IpcProcess) → slice_get old at ≡ Some p → (p' : IpcProcess) × (((links' ≡ links) × (flows' ≡ flows)) × (process_of p' ≡ process_of p)) × (queue_settings p' ≡ queue_settings p) × (new ≡ slice_set old at p')

-- an allocation failed, and nothing changes
pub last_stays : (d : Dif) (at node : ℕ) (lost : Lost) (r : Result (Unit {0}) Memory) (links flows : Flows) (ps : List IpcProcess) → at < length d.settings.members → StaysWith at d.connections.flows d.flows d.processes links flows ps → (e : Memory) → r ≡ Err e
    → (lines : List Direction) (below : Seen) → Holds d lines below → LosesAs d lines below at node lost.number r (record d { connections = record d.connections { flows = links }; flows = flows; processes = ps })
last_stays d at node lost r links flows ps lt stays e is lines below h =
    let p = has_process d below at (lines, h) lt in
    let x = stays p.0 p.1 in
    subst (λ (v : Result (Unit {0}) Memory). LosesAs d lines below at node lost.number v (record d { connections = record d.connections { flows = links }; flows = flows; processes = ps })) (sym is)
    (subst (λ (f : Flows). LosesAs d lines below at node lost.number (Err e) (record d { connections = record d.connections { flows = f }; flows = flows; processes = ps })) (sym x.1.0.0)
    (subst (λ (f : Flows). LosesAs d lines below at node lost.number (Err e) (record d { flows = f; processes = ps })) (sym x.1.0.1) (keeps_links d lines below at p.0 x.0 ps p.1 x.1.1 x.2 x.3 h)))

pub last_same : (d : Dif) (below : Seen) (at : ℕ) (links flows : Flows) (ps : List IpcProcess) → Stands d below → at < length d.settings.members → StaysWith at d.connections.flows d.flows d.processes links flows ps → record d.connections { flows = links } ≡ d.connections
last_same d below at links flows ps st lt stays =
    let p = has_process d below at st lt in
    ap (λ (f : Flows). record d.connections { flows = f }) (stays p.0 p.1).1.0.0

-- What a rank sees of it

-- nothing but ends and IPC processes changes as they fail
record IsFramed (d z : DifSeen) : Type 0 where
  clock : z.clock ≡ d.clock
  waiting : z.waiting ≡ d.waiting

fails_frame : (lines : List Direction) (node : ℕ) (port : Port) (n : ℕ) (d d' : DifSeen) → FailFirst lines node (Below port) n d d' → IsFramed d d'
fails_frame lines node port n d d' f = first_stay (IsFramed d) lines node (Below port) (λ at a b x e. record { clock = ap (λ (z : DifSeen). z.clock) e.new_is ∙ x.clock; waiting = ap (λ (z : DifSeen). z.waiting) e.new_is ∙ x.waiting }) n d d' (record { clock = refl; waiting = refl }) f

-- what is left once a link is lost, before flows fail with it
abbrev pub after_loss : (d : Dif) (lines : List Direction) (below : Seen) (i node number : ℕ) (d' : Dif) → LosesWith d lines below i node number d' → DifSeen
after_loss d lines below i node number d' w = (let l = w.loses in with_lost (seen_of d) i l.loses.place l.loses.link l.routes l.loses.process w.offs)

pub loses_silent : (d : Dif) (lines : List Direction) (below : Seen) (i node number : ℕ) (d' : Dif) → LosesWith d lines below i node number d' → IsSilent (seen_of d) (seen_of d')
loses_silent d lines below i node number d' w =
    let l = w.loses in
    let between : DifSeen = after_loss d lines below i node number d' w in
    let lost = silent_same (seen_of d) between refl refl refl in
    elim w.fails [
      | inl f ↦
          (let then = (fails_frame lines node l.loses.link.port (length between.ends) between (seen_of d') f.1).clock in
          silent_on (seen_of d) between (seen_of d') (omega arith) (omega (arith, then)) lost (failed_silent between lines node l.loses.link.port (seen_of d') f.1))
      | inr k ↦ subst (IsSilent (seen_of d)) (sym k.1) lost
    ]

-- the far ends that wait are the same
pub loses_waits : (d : Dif) (lines : List Direction) (below : Seen) (i node number : ℕ) (d' : Dif) → LosesWith d lines below i node number d' → (seen_of d').waiting ≡ d.waiting.items
loses_waits d lines below i node number d' w =
    let l = w.loses in
    let between : DifSeen = after_loss d lines below i node number d' w in
    elim w.fails [
      | inl f ↦ (fails_frame lines node l.loses.link.port (length between.ends) between (seen_of d') f.1).waiting
      | inr k ↦ ap (λ (x : DifSeen). x.waiting) k.1
    ]

-- Which ends failed

-- an end is as it was, or was allocated there and has failed so
Failing : (lines : List Direction) → ℕ → Fail → DifSeen → ℕ → End → Type 0
Failing lines node fail d at end' = At d.ends at end' ⊎ (IsAllocatedAt d.ends node at × (end'.state ≡ Failed fail))

failed_one : (lines : List Direction) (node : ℕ) (fail : Fail) (n : ℕ) (d mid d' : DifSeen) → ((at : ℕ) (end : End) → At mid.ends at end → Failing lines node fail d at end) → IsAllocatedAt mid.ends node n → IsEnded mid lines n (Failed fail) d' → (at : ℕ) (end' : End) → At d'.ends at end' → Failing lines node fail d at end'
unfolding Failing
failed_one lines node fail n d mid d' was a e at end' is =
    let changed : End = record e.end { state = Failed fail } in
    let ends : d'.ends ≡ slice_set mid.ends n changed = ap (λ (z : DifSeen). z.ends) e.new_is in
    elim (set_at mid.ends n at e.end changed end' e.is_conn.end (subst (λ (es : List End). slice_get es at ≡ Some end') ends is)) [
      | inl t ↦
          (let same : e.end ≡ a.end = same_some (slice_get mid.ends n) e.end a.end e.is_conn.end a.is_end in
          elim (was n e.end e.is_conn.end) [
            | inl old ↦ inr (record { end = e.end; is_end = ap (slice_get d.ends) t.0 ∙ old; allocated = e.allocated; node_is = ap (λ (z : End). z.port.node) same ∙ a.node_is }, ap (λ (z : End). z.state) t.1)
            | inr gone ↦ absurd (failed_other fail (sym gone.1 ∙ e.allocated))
          ])
      | inr f ↦ was at end' f.1
    ]

pub failed_ends : (lines : List Direction) (node : ℕ) (fail : Fail) (n : ℕ) (d d' : DifSeen) → FailFirst lines node fail n d d' → (at : ℕ) (end' : End) → At d'.ends at end' → At d.ends at end' ⊎ (IsAllocatedAt d.ends node at × (end'.state ≡ Failed fail))
unfolding Failing
failed_ends lines node fail zero d d' f at end' is = inl (subst (λ (z : DifSeen). slice_get z.ends at ≡ Some end') f is)
failed_ends lines node fail (suc n) d d' f at end' is = elim f.2 [
  | inl s ↦ failed_one lines node fail n d f.0 d' (failed_ends lines node fail n d f.0 f.1) s.0 s.1 at end' is
  | inr k ↦ failed_ends lines node fail n d f.0 f.1 at end' (subst (λ (z : DifSeen). slice_get z.ends at ≡ Some end') k.1 is)
]
