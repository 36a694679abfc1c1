-- A flow of a DIF is freed at one of its ends.
use Rattle.std.proofs.Common.{◌≡◌, ◌≢◌, ◌∙◌, ℕ, ◌+◌, ◌<◌, true, false, List, length, length-set, map, slice_get, slice_set, Option, Some, None, Result, Ok, Err, refl, sym, ap, subst, arith, inl, inr}
use Rattle.std.specs.Result.{is_err}
use Rattle.rina_account.specs.declared.ledger.Off.{Off}
use Rattle.rina_base.specs.declared.memory.Memory.{Memory as NoMemory}
use Rattle.rina_base.specs.declared.number.Port.{Port}
use Rattle.rina_base.specs.declared.pdu.Pdu.{Pdu}
use Rattle.rina_conn.specs.declared.conn.Conn.{Conn}
use Rattle.rina_iface.specs.declared.ends.End.{End}
use Rattle.rina_iface.specs.declared.error.FreeError.{FreeError}
use Rattle.rina_iface.specs.declared.error.FreeError.TheVariants as errors
use Rattle.rina_iface.specs.declared.state.PortState.{PortState}
use Rattle.rina_iface.specs.declared.state.PortState.TheVariants.{Pending, Allocated, Refused, Failed, Closed}
use Rattle.rina_iface.specs.Ends.{place_in}
use Rattle.rina_iface.specs.Free.{Frees}
use Rattle.rina_iface.specs.Free as free
use Rattle.rina_iface.specs.Journal.{At, HasPartner, IsWhole}
use Rattle.rina_iface.specs.Later.{IsLaterFac, Moves}
use Rattle.rina_iface.specs.Seen.{Seen, with_fac}
use Rattle.rina_iface.specs.State.{freed, freed_state, with_state}
use Rattle.rina_iface.proofs.Changed.{set_at, slice_set-same}
use Rattle.rina_iface.proofs.Later.{end_restated, ends_set, fac_refl, moves_freed}
use Rattle.rina_law.specs.Direction.{Direction}
use Rattle.rina_data.specs.declared.process.IpcProcess.{IpcProcess}
use Rattle.rina_dif_law.specs.Carried.{IsCarrying}
use Rattle.rina_dif_law.specs.Caused.{AreCaused}
use Rattle.rina_dif_law.specs.Cloud.{Cloud, Everywhere}
use Rattle.rina_data.specs.Configs.{Config, config_of}
use Rattle.rina_data.specs.Deciding.{process_of}
use Rattle.rina_dif_law.specs.Dif.{DifSeen, fac_of}
use Rattle.rina_dif_law.specs.Ending.{GivesBack, IsEnded}
use Rattle.rina_dif_law.specs.Numbered.{IsNumbered}
use Rattle.rina_dif_law.specs.Sending.{home}
use Rattle.rina_dif_law.specs.Standing.{IsOwn, IsStanding}
use Rattle.rina_dif_law.proofs.After.{NoMore, after_none}
use Rattle.rina_dif_law.proofs.Carrying.{carrying_same, end_set, line_was}
use Rattle.rina_dif_law.proofs.Finding.{beside}
use Rattle.rina_data.proofs.Finding.{there}
use Rattle.rina_dif_law.proofs.Finishing.{ended_carries, ended_stands}
use Rattle.rina_dif_law.proofs.Journals.{IsConst, const_refl, journal_set, partner_const, partner_was, ports_set, was_end}
use Rattle.rina_dif_law.proofs.Keepers.{facility}
use Rattle.rina_dif_law.proofs.Numbering.{ended_numbered, numbered_with}
use Rattle.rina_dif_law.specs.Places.{IsUp}
use Rattle.rina_dif_law.proofs.OwnEnds.{own_restated}
use Rattle.rina_dif_law.proofs.Receiving.{ended_accounted, restated_accounted}
use Rattle.rina_dif_law.specs.WriteOffLaws.{Nothing}
use Rattle.rina_dif_law.specs.Written.{AreWrittenOff}
use Rattle.rina_dif_law.proofs.Warranted.{ended_written}
use Rattle.rina_dif_law.proofs.Writing.{known_set, quiet_noted, written_on}
use Rattle.rina_flows.specs.declared.flows.Flows.{Flows}
use Rattle.rina_flows.specs.Delivering.{StopsIn}
use Rattle.rina_flows.specs.Tied.{IsTied, ids_of}
use Rattle.rina_flows.proofs.Gone.{is_ended}
use Rattle.rina_flows.proofs.Unused.{unused_was}
use Rattle.rina_dif.specs.declared.dif.Dif.{Dif}
use Rattle.rina_dif.specs.declared.release.IdRest.{IdRest}
use Rattle.rina_ids.specs.Ids.{IsInUse}
use Rattle.rina_ids.specs.Members.{CepIds, with_rest}
use Rattle.rina_dif_law.specs.Accounted.{IsAccounted}
use Rattle.rina_dif.specs.Facade.{GoesOn, IsShownAs, StaysStanding, shown_as}
use Rattle.rina_dif.specs.Freeing.{FreesAt, FreesEnd, FreesHere, IsFreed, IsKept, RestsAt}
use Rattle.rina_dif.specs.Holding.{Holds, Stands}
use Rattle.rina_dif.specs.Shown.{seen_of}
use Rattle.rina_dif.specs.Timely.{WithLedger}
use Rattle.rina_dif.specs.Whole.{IsDif}
use Rattle.rina_dif.proofs.Enrolled.{stay_same}
use Rattle.rina_dif.proofs.Causing.{closed_caused, freed_caused}
use Rattle.rina_dif.proofs.GivenBack.{gives_back, used_there}
use Rattle.rina_dif.proofs.Facing.{unchanged}
use Rattle.rina_dif.proofs.Keeping.{home_set, kept_house}
use Rattle.rina_dif.proofs.Leaves.{has_process, shown_at}
use Rattle.rina_dif.proofs.Owning.{arrived_seen}
use Rattle.rina_channel.proofs.Leaving.{ending_leaves}
use Rattle.rina_dif.proofs.Connected.{kept_by}
use Rattle.std.proofs.lemmas.Bool.{false≢true}
use Rattle.rina_dif.proofs.LinkEnds.{live_floods}

pub same_end : (o : Option End) (a b : End) → o ≡ Some a → o ≡ Some b → a ≡ b
same_end o a b h g = cc

-- An allocated end is closed

-- the id was given back, or an allocation failed and nothing was
abbrev pub GaveThere : {T E : Type 0} → Dif → ℕ → IdRest → Result T E → List CepIds → Type 0
GaveThere d i rest (Ok done) held = (ids : CepIds) → slice_get d.ids i ≡ Some ids → held ≡ with_rest i ids rest.cep (d.clock + rest.ticks) d.ids
GaveThere d i rest (Err e) held = held ≡ d.ids

pub closes : (d : Dif) (i at : ℕ) (end : End) (r : Result (Unit {0}) NoMemory) (flows : Flows) (ps : List IpcProcess) → i < length d.settings.members → home end.port.node (config_of d.settings).members ≡ Some i → slice_get d.flows.journal.ends at ≡ Some end → end.state ≡ Allocated → WithLedger (λ f l f' l'. StopsIn d.clock at Closed f l r f' l') i d.flows d.processes flows ps → (rest : IdRest) (held : List CepIds) → RestsAt d at rest → GaveThere d i rest r held → (lines : List Direction) (below : Seen) → Holds d lines below → FreesHere d lines below at r (record d { flows = flows; processes = ps; ids = held })
closes d i at end (Ok done) flows ps lt here is allocated stops rest held rests gave lines below h =
    let st : Stands d below = (lines, h) in
    let g = config_of d.settings in
    let p = has_process d below i st lt in
    let x = stops p.0 p.1 in
    let d' : Dif = record d { flows = flows; processes = ps; ids = held } in
    let closed : Closed ≢ Allocated = λ e. absurd cc in
    let s = x.1 g lines end h.standing.journal h.tied is allocated (subst (λ (z : PortState). Moves z Closed) (sym allocated) tt) closed in
    let e = s.stops in
    let seen = ap (λ (z : DifSeen). record z { ids = held }) (arrived_seen d i p.0 s.offs x.0 flows ps refl s.ids s.ledger_is x.2) in
    let same : end ≡ e.end = same_end (slice_get d.flows.journal.ends at) end e.end is e.is_conn.end in
    let there : home e.end.port.node g.members ≡ Some i = subst (λ (z : End). home z.port.node g.members ≡ Some i) same here in
    let ended : IsEnded (seen_of d) lines at Closed (seen_of d') = is_ended (seen_of d) lines at i Closed (process_of p.0) s.offs flows.journal.ends held (seen_of d') e there (shown_at d i p.0 p.1) (subst (λ (z : End). GivesBack (seen_of d) at z held) same (gives_back d lines below h i at end rest held is here rests gave)) seen in
    let house = home_set d lines below i p.0 (record p.0 { ledger = x.0 }) ps h p.1 refl (kept_house _ _ refl refl refl) x.2 in
    record {
      end = end;
      is_end = is;
      frees = subst (λ (z : PortState). FreesEnd z (seen_of d) lines at end (seen_of d')) (sym allocated) ended;
      holds = record {
        tied = s.tied;
        standing = ended_stands (seen_of d) lines below at Closed (seen_of d') h.standing h.numbered ended;
        carrying = ended_carries (seen_of d) lines below at Closed (seen_of d') h.carrying ended;
        numbered = ended_numbered (seen_of d) lines below at Closed (seen_of d') h.numbered ended;
        accounted = ended_accounted (seen_of d) lines below at Closed (seen_of d') h.standing h.numbered h.accounted ended;
        caused = closed_caused (seen_of d) lines below at (seen_of d') ended h.caused;
        written_off = ended_written (seen_of d) lines below at Closed (seen_of d') h.standing h.numbered h.written_off ended;
        housed = house.housed;
        managed = house.managed;
        enrolled = h.enrolled;
        connected = kept_by (config_of d.settings) d.clock d.connections (seen_of d).processes (seen_of d').processes below (λ may. ending_leaves (seen_of d) lines at Closed (seen_of d') ended) h.connected;
        flooded = λ alive. live_floods d ps house.live (h.flooded alive);
      };
    }
closes d i at end (Err e) flows ps lt here is allocated stops rest held rests gave lines below h =
    let st : Stands d below = (lines, h) in
    let p = has_process d below i st lt in
    let x = stops p.0 p.1 in
    let processes : ps ≡ d.processes = x.2 ∙ ap (λ (l : List Off). slice_set d.processes i (record p.0 { ledger = l })) x.1.1 ∙ slice_set-same d.processes i p.0 p.1 in
    let same : record d { flows = flows; processes = ps; ids = held } ≡ d = ap (λ (f : Flows). record d { flows = f; processes = ps; ids = held }) x.1.0 ∙ ap (λ (qs : List IpcProcess). record d { processes = qs; ids = held }) processes ∙ ap (λ (hs : List CepIds). record d { ids = hs }) gave in
    record { same = ap seen_of same; holds = subst (λ (z : Dif). Holds z lines below) (sym same) h }

-- the member at the node of an end is there
pub never_homeless_end : (d : Dif) (at node : ℕ) → IsDif d → at < length d.flows.journal.ends → ((e : End) → slice_get d.flows.journal.ends at ≡ Some e → e.port.node ≡ node) → home node (config_of d.settings).members ≡ None → ⊥
never_homeless_end d at node is lt ends none =
    let h = is.stands.1 in
    let e = there d.flows.journal.ends at lt in
    let ids = beside (seen_of d).ends (seen_of d).conns at e.0 h.standing.own.alike e.1 in
    let a = h.numbered.addressed at e.0 ids.0 (record { end = e.1; ids_are = ids.1 }) in
    let here : home node (config_of d.settings).members ≡ Some a.place = subst (λ (n : ℕ). home n (config_of d.settings).members ≡ Some a.place) (ends e.0 e.1) a.at_home in
    not_both (home node (config_of d.settings).members) a.place none here
  where
    not_both : (o : Option ℕ) (k : ℕ) → o ≡ None → o ≡ Some k → ⊥
    not_both o k none here = cc

pub never_homeless : (d : Dif) (at node : ℕ) → IsDif d → at < length d.flows.journal.ends → ((e : End) → slice_get d.flows.journal.ends at ≡ Some e → (e.state ≡ Allocated) × (e.port.node ≡ node)) → home node (config_of d.settings).members ≡ None → ⊥
never_homeless d at node is lt ends none = never_homeless_end d at node is lt (λ e at_e. (ends e at_e).1) none

pub closes_at : (d : Dif) (i at node : ℕ) (r : Result (Unit {0}) NoMemory) (flows : Flows) (ps : List IpcProcess) → at < length d.flows.journal.ends → i < length d.settings.members → ((e : End) → slice_get d.flows.journal.ends at ≡ Some e → (e.state ≡ Allocated) × (e.port.node ≡ node)) → home node (config_of d.settings).members ≡ Some i → WithLedger (λ f l f' l'. StopsIn d.clock at Closed f l r f' l') i d.flows d.processes flows ps → (rest : IdRest) (held : List CepIds) → RestsAt d at rest → GaveThere d i rest r held → (lines : List Direction) (below : Seen) → Holds d lines below → FreesHere d lines below at r (record d { flows = flows; processes = ps; ids = held })
closes_at d i at node r flows ps within lt ends here stops =
    let e = there d.flows.journal.ends at within in
    let end = ends e.0 e.1 in
    closes d i at e.0 r flows ps lt (subst (λ (n : ℕ). home n (config_of d.settings).members ≡ Some i) (sym end.1) here) e.1 end.0 stops

-- its id is in use until then
pub used_until : (d : Dif) (i at node : ℕ) (state : PortState) (rest : IdRest) → IsDif d → at < length d.flows.journal.ends → IsUp state → ((e : End) → slice_get d.flows.journal.ends at ≡ Some e → (e.state ≡ state) × (e.port.node ≡ node)) → home node (config_of d.settings).members ≡ Some i → RestsAt d at rest → (ids : CepIds) → slice_get d.ids i ≡ Some ids → IsInUse ids.1 rest.cep
used_until d i at node state rest is within up ends here rests ids are_ids =
    let e = there d.flows.journal.ends at within in
    let end = ends e.0 e.1 in
    used_there d is.stands.0 is.below is.stands.1 i at e.0 rest e.1 (subst IsUp (sym end.0) up) (subst (λ (n : ℕ). home n (config_of d.settings).members ≡ Some i) (sym end.1) here) rests ids are_ids

pub closed_used : (d : Dif) (i at node : ℕ) (rest : IdRest) → IsDif d → at < length d.flows.journal.ends → ((e : End) → slice_get d.flows.journal.ends at ≡ Some e → (e.state ≡ Allocated) × (e.port.node ≡ node)) → home node (config_of d.settings).members ≡ Some i → RestsAt d at rest → (ids : CepIds) → slice_get d.ids i ≡ Some ids → IsInUse ids.1 rest.cep
closed_used d i at node rest is within ends here rests ids are_ids = used_until d i at node Allocated rest is within tt ends here rests ids are_ids

-- Any other end is at most withdrawn

pub restated_tied : (g : Config) (now at : ℕ) (ends : List End) (conns : List Conn) (lines : List Direction) (end end' : End) → IsTied g now ends conns lines → At ends at end → IsConst end end' → end'.state ≢ Allocated → end'.state ≢ Pending → end'.got ≡ end.got → IsTied g now (slice_set ends at end') conns lines
restated_tied g now at ends conns lines end end' t is const not awake got = record {
  alike = t.alike ∙ sym (length-set ends at end');
  lines_alike = t.lines_alike ∙ sym (length-set ends at end');
  sends = t.sends;
  receives = λ k from e conn line here allocated inbound.
      let o = was_end ends at end end' is const from inbound.partner inbound.is_partner in
      elim (set_at ends at k end end' e is here.end_is) [
        | inl x ↦ absurd (not (ap (λ (z : End). z.state) (sym x.1) ∙ allocated))
        | inr x ↦ t.receives k from e conn line (record { end_is = x.1; conn_is = here.conn_is }) allocated (record { partner = o.0; is_partner = o.1; partners = partner_was o.0 e inbound.partner e o.2 (const_refl e) inbound.partners; is_line = inbound.is_line })
      ];
  unused = λ k e conn here unused.
      let was = unused_was ends at end end' is const e unused in
      elim (set_at ends at k end end' e is here.end_is) [
        | inl x ↦
            let alone : HasPartner ends end → ⊥ = λ h. elim was [ inl waits ↦ awake (ap (λ (z : End). z.state) (sym x.1) ∙ waits) | inr none ↦ none (subst (HasPartner ends) (sym x.1) (record { place = h.place; other = h.other; stands = h.stands; partner = partner_const end h.other end' h.other const (const_refl h.other) h.partner })) ] in
            let new = t.unused at end conn (record { end_is = is; conn_is = subst (λ (n : ℕ). slice_get conns n ≡ Some conn) x.0 here.conn_is }) (inr alone) in
            record { new = new.new; got = ap (λ (z : End). z.got) x.1 ∙ got ∙ new.got }
        | inr x ↦ t.unused k e conn (record { end_is = x.1; conn_is = here.conn_is }) was
      ];
  early = λ k from e line here waits inbound.
      let o = was_end ends at end end' is const from inbound.partner inbound.is_partner in
      elim (set_at ends at k end end' e is here) [
        | inl x ↦ absurd (awake (ap (λ (z : End). z.state) (sym x.1) ∙ waits))
        | inr x ↦ t.early k from e line x.1 waits (record { partner = o.0; is_partner = o.1; partners = partner_was o.0 e inbound.partner e o.2 (const_refl e) inbound.partners; is_line = inbound.is_line })
      ];
}

-- with these own flows
restated_with : (d : DifSeen) (lines : List Direction) (below : Seen) (at : ℕ) (end : End) (state : PortState) (held : List CepIds) → IsStanding d lines below → At d.ends at end → end.state ≢ Allocated → state ≢ Allocated
    → IsOwn d.config d.clock (Cloud Everywhere d.config d.processes below) held (slice_set d.ends at (with_state end state)) d.conns lines → IsStanding (record d { ends = slice_set d.ends at (with_state end state); ids = held }) lines below
restated_with d lines below at end state held st is old not own =
    let end' : End = with_state end state in
    let const : IsConst end end' = record { flow = refl; role = refl; port = refl; app = refl; peer = refl; cube = refl } in
    let was = st.journal.whole at end is in
    let whole : IsWhole d.clock end' = record { sent = was.sent; got = was.got; taken = was.taken } in
    record {
      config = st.config;
      clock = st.clock;
      aligned = st.aligned;
      linked = st.linked;
      inside = st.inside;
      spelled = st.spelled;
      items = st.items;
      journal = journal_set d.ends at end end' is const d.clock st.journal whole (λ a. absurd (not a)) (λ j x h. st.journal.met at j end x is h);
      ports = ports_set d.ends at end end' is const d.config.fac (fac_of d) (fac_of (record d { ends = slice_set d.ends at end' })) refl refl st.ports;
      own = own;
    }

-- an end that has ended
restated_stands : (d : DifSeen) (lines : List Direction) (below : Seen) (at : ℕ) (end : End) (state : PortState) → IsStanding d lines below → At d.ends at end → end.state ≢ Allocated → (IsUp end.state → ⊥) → (IsUp state → ⊥) → state ≢ Allocated → IsStanding (record d { ends = slice_set d.ends at (with_state end state) }) lines below
restated_stands d lines below at end state st is old was down not =
    let cloud : ℕ → Pdu → Type 0 = Cloud Everywhere d.config d.processes below in
    restated_with d lines below at end state d.ids st is old not (own_restated d.config d.clock cloud d.ids d.ends d.conns lines st.own at end is state was down)

restated_carries : (d : DifSeen) (lines : List Direction) (below : Seen) (at : ℕ) (end : End) (state : PortState) (held : List CepIds) → IsCarrying d lines below → At d.ends at end → IsCarrying (record d { ends = slice_set d.ends at (with_state end state); ids = held }) lines below
restated_carries d lines below at end state held c is =
    let end' : End = with_state end state in
    carrying_same d (record d { ends = slice_set d.ends at end'; ids = held }) lines lines NoMore below below c (after_none d.config below) refl refl (omega arith)
    (end_set d.ends at end end' is (record { flow = refl; role = refl; port = refl; app = refl; peer = refl; cube = refl }) refl) (line_was lines)

restated_numbered : (d : DifSeen) (below : Seen) (at : ℕ) (end : End) → IsNumbered d below → At d.ends at end → IsNumbered (record d { ends = slice_set d.ends at (freed end) }) below
restated_numbered d below at end n is =
    let set = ends_set d.clock d.clock d.ends at end (freed end) is (end_restated d.clock d.clock end (freed_state end.state) (moves_freed end.state)) in
    numbered_with d d.clock d.processes (slice_set d.ends at (freed end)) below below n set (length-set d.ends at (freed end)) n.named

-- what is freed is not allocated any more
freed_not : (state : PortState) → freed_state state ≢ Allocated
freed_not Pending e = absurd cc
freed_not Allocated e = absurd cc
freed_not (Refused why) e = absurd cc
freed_not (Failed fail) e = absurd cc
freed_not Closed e = absurd cc

freed_down : (state : PortState) → IsUp (freed_state state) → ⊥
freed_down Pending up = up
freed_down Allocated up = up
freed_down (Refused why) up = up
freed_down (Failed fail) up = up
freed_down Closed up = up

frees_end : (state : PortState) (d : DifSeen) (lines : List Direction) (at : ℕ) (end : End) (d' : DifSeen) → state ≢ Allocated → state ≢ Pending → d' ≡ record d { ends = slice_set d.ends at (freed end) } → FreesEnd state d lines at end d'
frees_end Pending d lines at end d' not still is = absurd (still refl)
frees_end Allocated d lines at end d' not still is = absurd (not refl)
frees_end (Refused why) d lines at end d' not still is = is
frees_end (Failed fail) d lines at end d' not still is = is
frees_end Closed d lines at end d' not still is = is

not_up : (state : PortState) → state ≢ Allocated → state ≢ Pending → IsUp state → ⊥
not_up Pending not still up = still refl
not_up Allocated not still up = not refl
not_up (Refused why) not still up = up
not_up (Failed fail) not still up = up
not_up Closed not still up = up

-- an end that is freed waits no more, so what the ledgers say stays true
freed_waits : (state : PortState) → freed_state state ≡ Pending → state ≡ Pending
freed_waits Pending e = refl
freed_waits Allocated e = absurd cc
freed_waits (Refused why) e = e
freed_waits (Failed fail) e = e
freed_waits Closed e = e

freed_written : (d : DifSeen) (at : ℕ) (end : End) (held : List CepIds) → slice_get d.ends at ≡ Some end → AreWrittenOff d → AreWrittenOff (record d { ends = slice_set d.ends at (freed end); ids = held })
freed_written d at end held is w =
    let d' : DifSeen = record d { ends = slice_set d.ends at (freed end); ids = held } in
    written_on Nothing d d' (quiet_noted Nothing d d' refl refl (omega arith) (known_set d.ends d.conns at end (freed end) is (freed_waits end.state)) refl) (λ i off none. absurd none) w

-- the flows where the end at a place is freed, whatever the CEP-ids are then
module _ (d : Dif) (at : ℕ) (end : End) (flows : Flows) (held : List CepIds) (is : slice_get d.flows.journal.ends at ≡ Some end) (not : end.state ≢ Allocated) (conns : flows.conns ≡ d.flows.conns) (ends : flows.journal.ends ≡ slice_set d.flows.journal.ends at (freed end)) (lines : List Direction) (below : Seen) (h : Holds d lines below) where
  abbrev freed_ends : List End
  freed_ends = slice_set d.flows.journal.ends at (freed end)

  abbrev freed_dif : Dif
  freed_dif = record d { flows = flows; ids = held }

  freed_seen : seen_of freed_dif ≡ record (seen_of d) { ends = freed_ends; ids = held }
  freed_seen = (λ k. record (seen_of d) { ends = ends k; conns = map ids_of (conns k); ids = held })

  freed_holds : IsStanding (record (seen_of d) { ends = freed_ends; ids = held }) lines below → IsNumbered (record (seen_of d) { ends = freed_ends; ids = held }) below → IsAccounted (record (seen_of d) { ends = freed_ends; ids = held }) lines below → IsCarrying (record (seen_of d) { ends = freed_ends; ids = held }) lines below → AreCaused (record (seen_of d) { ends = freed_ends; ids = held }) below → Holds freed_dif lines below
  freed_holds standing numbered accounted carrying caused = record {
    tied = subst (λ (xs : List End). IsTied (config_of d.settings) d.clock xs flows.conns lines) (sym ends) (subst (λ (ks : List Conn). IsTied (config_of d.settings) d.clock freed_ends ks lines) (sym conns) (restated_tied (config_of d.settings) d.clock at d.flows.journal.ends d.flows.conns lines end (freed end) h.tied is (record { flow = refl; role = refl; port = refl; app = refl; peer = refl; cube = refl }) (freed_not end.state) (λ waits. freed_down end.state (subst IsUp (sym waits) tt)) refl));
    standing = subst (λ (z : DifSeen). IsStanding z lines below) (sym freed_seen) standing;
    carrying = subst (λ (z : DifSeen). IsCarrying z lines below) (sym freed_seen) carrying;
    numbered = subst (λ (z : DifSeen). IsNumbered z below) (sym freed_seen) numbered;
    accounted = subst (λ (z : DifSeen). IsAccounted z lines below) (sym freed_seen) accounted;
    caused = subst (λ (z : DifSeen). AreCaused z below) (sym freed_seen) caused;
    written_off = subst AreWrittenOff (sym freed_seen) (freed_written (seen_of d) at end held is h.written_off);
    housed = h.housed;
    managed = h.managed;
    enrolled = h.enrolled;
    connected = h.connected;
    flooded = h.flooded;
  }

pub withdraws : (d : Dif) (at : ℕ) (end : End) (flows : Flows) → slice_get d.flows.journal.ends at ≡ Some end → end.state ≢ Allocated → end.state ≢ Pending → flows.conns ≡ d.flows.conns → flows.journal.ends ≡ slice_set d.flows.journal.ends at (freed end) → (lines : List Direction) (below : Seen) → Holds d lines below → FreesHere d lines below at (Ok tt) (record d { flows = flows })
withdraws d at end flows is not still conns ends lines below h =
    let gone = freed_not end.state in
    record {
      end = end;
      is_end = is;
      frees = frees_end end.state (seen_of d) lines at end (seen_of (record d { flows = flows })) not still (freed_seen d at end flows d.ids is not conns ends lines below h);
      holds = freed_holds d at end flows d.ids is not conns ends lines below h
          (restated_stands (seen_of d) lines below at end (freed_state end.state) h.standing is not (not_up end.state not still) (freed_down end.state) gone)
          (restated_numbered (seen_of d) below at end h.numbered is)
          (restated_accounted (seen_of d) lines below at end (freed_state end.state) h.accounted is not gone)
          (restated_carries (seen_of d) lines below at end (freed_state end.state) d.ids h.carrying is)
          (freed_caused (seen_of d) below at end is h.caused);
    }

-- The call

-- that an allocation failed is noted
holds_noted : (d : Dif) (lines : List Direction) (below : Seen) → Holds d lines below → Holds (record d { failed = true }) lines below
holds_noted d lines below h = record { tied = h.tied; standing = h.standing; carrying = h.carrying; numbered = h.numbered; accounted = h.accounted; caused = h.caused; written_off = h.written_off; housed = h.housed; managed = h.managed; enrolled = h.enrolled; connected = h.connected; flooded = λ alive. absurd (false≢true (sym alive)) }

-- what `free` does, whatever it stands on
abbrev pub FreesFor : Dif → Port → Result (Unit {0}) FreeError → Dif → Type 0
FreesFor d port r d' = (lines : List Direction) (below : Seen) → Holds d lines below → FreesAt (place_in port d.flows.journal.ends) d lines below r d'

keeps_at : (o : Option ℕ) (d : Dif) (lines : List Direction) (below : Seen) (d' : Dif) → IsKept d lines below d' → FreesAt o d lines below (Err errors.Memory) d'
keeps_at None d lines below d' x = x
keeps_at (Some at) d lines below d' x = x

pub wants_for : (d : Dif) (port : Port) → FreesFor d port (Err errors.Memory) d
wants_for d port lines below h = keeps_at (place_in port d.flows.journal.ends) d lines below d (record { same = refl; holds = h })

pub nowhere_for : (d : Dif) (port : Port) → place_in port d.flows.journal.ends ≡ None → FreesFor d port (Err errors.NoPort) d
nowhere_for d port none lines below h = subst (λ (z : Option ℕ). FreesAt z d lines below (Err errors.NoPort) d) (sym none) (refl, record { same = refl; holds = h })

pub frees_for : (d : Dif) (port : Port) (at : ℕ) (r : Result (Unit {0}) NoMemory) (d' : Dif) → place_in port d.flows.journal.ends ≡ Some at → is_err r ≡ false → ((lines : List Direction) (below : Seen) → Holds d lines below → FreesHere d lines below at r d') → FreesFor d port (Ok tt) d'
frees_for d port at (Ok done) d' here ok does lines below h = subst (λ (z : Option ℕ). FreesAt z d lines below (Ok tt) d') (sym here) (does lines below h)
frees_for d port at (Err e) d' here ok does lines below h = absurd cc

pub fails_for : (d : Dif) (port : Port) (at : ℕ) (r : Result (Unit {0}) NoMemory) (d' : Dif) → is_err r ≡ true → ((lines : List Direction) (below : Seen) → Holds d lines below → FreesHere d lines below at r d') → FreesFor d port (Err errors.Memory) (record d' { failed = true })
fails_for d port at (Ok done) d' err does lines below h = absurd cc
fails_for d port at (Err e) d' err does lines below h = (let x = does lines below h in keeps_at (place_in port d.flows.journal.ends) d lines below (record d' { failed = true }) (record { same = x.same; holds = holds_noted d' lines below x.holds }))

-- What is left of the DIF

-- the facility has the end freed, and is the same else
fac_freed : (d : DifSeen) (lines : List Direction) (at : ℕ) (end : End) (d' : DifSeen) → At d.ends at end → FreesEnd end.state d lines at end d' → fac_of d' ≡ record (fac_of d) { ends = slice_set d.ends at (freed end) }
fac_freed d lines at end d' is x = go end.state refl x
  where
    go : (state : PortState) → end.state ≡ state → FreesEnd state d lines at end d' → fac_of d' ≡ record (fac_of d) { ends = slice_set d.ends at (freed end) }
    go Pending here y = ap fac_of y.new_is
    go Allocated here y =
        let same : y.end ≡ end = same_end (slice_get d.ends at) y.end end y.is_conn.end is in
        let freed_is : record y.end { state = Closed } ≡ freed end = ap (λ (e : End). with_state e Closed) same ∙ ap (λ (s : PortState). with_state end (freed_state s)) (sym here) in
        ap fac_of y.new_is ∙ ap (λ (e : End). record (fac_of d) { ends = slice_set d.ends at e }) freed_is
    go (Refused why) here y = ap fac_of y
    go (Failed fail) here y = ap fac_of y
    go Closed here y = ap fac_of y

clock_freed : (state : PortState) (d : DifSeen) (lines : List Direction) (at : ℕ) (end : End) (d' : DifSeen) → FreesEnd state d lines at end d' → d'.clock ≡ d.clock
clock_freed Pending d lines at end d' x = ap (λ (y : DifSeen). y.clock) x.new_is
clock_freed Allocated d lines at end d' x = ap (λ (y : DifSeen). y.clock) x.new_is
clock_freed (Refused why) d lines at end d' x = ap (λ (y : DifSeen). y.clock) x
clock_freed (Failed fail) d lines at end d' x = ap (λ (y : DifSeen). y.clock) x
clock_freed Closed d lines at end d' x = ap (λ (y : DifSeen). y.clock) x

-- it goes on to hold, at the same clock, and as a facility it is later
record IsLeft (d : Dif) (lines : List Direction) (below : Seen) (d' : Dif) : Type 0 where
  holds : Holds d' lines below
  clock : d'.clock ≡ d.clock
  later : IsLaterFac d.clock d'.clock (fac_of (seen_of d)) (fac_of (seen_of d'))

freed_left : (d : Dif) (lines : List Direction) (below : Seen) (at : ℕ) (d' : Dif) → IsFreed d lines below at d' → IsLeft d lines below d'
freed_left d lines below at d' x =
    let clock : d'.clock ≡ d.clock = clock_freed x.end.state (seen_of d) lines at x.end (seen_of d') x.frees in
    let f = fac_of (seen_of d) in
    let set = ends_set d.clock d.clock f.ends at x.end (freed x.end) x.is_end (end_restated d.clock d.clock x.end (freed_state x.end.state) (moves_freed x.end.state)) in
    record {
      holds = x.holds;
      clock = clock;
      later = subst (λ (n : ℕ). IsLaterFac d.clock n f (fac_of (seen_of d'))) (sym clock) (subst (IsLaterFac d.clock d.clock f) (sym (fac_freed (seen_of d) lines at x.end (seen_of d') x.is_end x.frees)) (record { ends = set; cubes = refl }));
    }

kept_left : (d : Dif) (lines : List Direction) (below : Seen) (d' : Dif) → IsKept d lines below d' → IsLeft d lines below d'
kept_left d lines below d' x =
    let f = fac_of (seen_of d) in
    let clock : d'.clock ≡ d.clock = ap (λ (y : DifSeen). y.clock) x.same in
    record {
      holds = x.holds;
      clock = clock;
      later = subst (λ (y : DifSeen). IsLaterFac d.clock y.clock f (fac_of y)) (sym x.same) (fac_refl d.clock d.clock f);
    }

left_at : (o : Option ℕ) (d : Dif) (lines : List Direction) (below : Seen) (r : Result (Unit {0}) FreeError) (d' : Dif) → FreesAt o d lines below r d' → IsLeft d lines below d'
left_at (Some at) d lines below (Ok done) d' x = freed_left d lines below at d' x
left_at None d lines below (Ok done) d' x = absurd x
left_at (Some at) d lines below (Err errors.Memory) d' x = kept_left d lines below d' x
left_at None d lines below (Err errors.Memory) d' x = kept_left d lines below d' x
left_at (Some at) d lines below (Err errors.NoPort) d' x = kept_left d lines below d' x.1
left_at None d lines below (Err errors.NoPort) d' x = kept_left d lines below d' x.1

pub freed_whole : (d : Dif) (port : Port) (r : Result (Unit {0}) FreeError) (d' : Dif) → IsDif d → FreesFor d port r d' → IsDif d'
freed_whole d port r d' is does =
    let x = left_at (place_in port d.flows.journal.ends) d is.stands.0 is.below r d' (does is.stands.0 is.below is.stands.1) in
    record { below = is.below; stands = (is.stands.0, x.holds); clock = (let c = is.clock in let same = x.clock in omega (arith, c, same)) }

pub freed_stays : (d : Dif) (port : Port) (r : Result (Unit {0}) FreeError) (d' : Dif) → FreesFor d port r d' → StaysStanding d d'
freed_stays d port r d' does below st = (st.0, (left_at (place_in port d.flows.journal.ends) d st.0 below r d' (does st.0 below st.1)).holds)

pub freed_goes_on : (d : Dif) (port : Port) (r : Result (Unit {0}) FreeError) (d' : Dif) → IsDif d → FreesFor d port r d' → d'.enrolled ≡ d.enrolled → GoesOn d d'
freed_goes_on d port r d' is does enrolled =
    let x = left_at (place_in port d.flows.journal.ends) d is.stands.0 is.below r d' (does is.stands.0 is.below is.stands.1) in
    record { later = x.later; facility = facility (seen_of d') is.stands.0 is.below x.holds.standing; clock = x.clock; enrolled = stay_same d.enrolled d'.enrolled enrolled }

none_freed : (s : Seen) (d : Dif) (port : Port) → IsShownAs s port.fac d → place_in port d.flows.journal.ends ≡ None → free.refused s port ≡ Some errors.NoPort
none_freed s d port h none = rw (h.here, none) refl

shown_freed : (s : Seen) (d : Dif) (port : Port) (at : ℕ) (lines : List Direction) (below : Seen) (d' : Dif) → IsShownAs s port.fac d → place_in port d.flows.journal.ends ≡ Some at → IsFreed d lines below at d' → Frees false s port (Ok tt) (shown_as s port.fac d')
shown_freed s d port at lines below d' h place x = record {
  facility = fac_of (seen_of d);
  place = at;
  end = x.end;
  stands = record { facility = h.here; place = place; is = x.is_end };
  ends = slice_set d.flows.journal.ends at (freed x.end);
  frees = refl;
  new_is = ap (with_fac s port.fac) (fac_freed (seen_of d) lines at x.end (seen_of d') x.is_end x.frees);
}

pub freed_shown : (s : Seen) (d : Dif) (port : Port) (r : Result (Unit {0}) FreeError) (d' : Dif) → IsDif d → FreesFor d port r d' → IsShownAs s port.fac d → Frees false s port r (shown_as s port.fac d')
freed_shown s d port r d' is does h = go (place_in port d.flows.journal.ends) r refl (does is.stands.0 is.below is.stands.1)
  where
    go : (o : Option ℕ) (r : Result (Unit {0}) FreeError) → place_in port d.flows.journal.ends ≡ o → FreesAt o d is.stands.0 is.below r d' → Frees false s port r (shown_as s port.fac d')
    go (Some at) (Ok done) place x = shown_freed s d port at is.stands.0 is.below d' h place x
    go None (Ok done) place x = absurd x
    go (Some at) (Err errors.Memory) place x = unchanged s port.fac d d' h x.same
    go None (Err errors.Memory) place x = unchanged s port.fac d d' h x.same
    go (Some at) (Err errors.NoPort) place x = (none_freed s d port h (place ∙ x.0), unchanged s port.fac d d' h x.1.same)
    go None (Err errors.NoPort) place x = (none_freed s d port h place, unchanged s port.fac d d' h x.1.same)
