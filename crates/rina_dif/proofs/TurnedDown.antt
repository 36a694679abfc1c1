-- An end that was asked for is refused: the DIF holds.
use Rattle.std.proofs.Common.{◌≡◌, ◌≢◌, ◌∙◌, ℕ, ◌+◌, ◌<◌, List, length, map, slice_get, slice_set, Option, Some, Ok, refl, sym, ap, subst}
use Rattle.rina_conn.specs.declared.conn.Conn.{Conn}
use Rattle.rina_iface.specs.declared.ends.End.{End}
use Rattle.rina_iface.specs.declared.state.Fail.{Fail}
use Rattle.rina_iface.specs.declared.state.PortState.{PortState}
use Rattle.rina_iface.specs.declared.state.PortState.TheVariants.{Allocated, Failed, Pending, Refused}
use Rattle.rina_iface.specs.declared.state.Why.{Why}
use Rattle.rina_iface.specs.declared.state.Why.TheVariants.{Withdrawn}
use Rattle.rina_iface.specs.Seen.{Seen}
use Rattle.rina_iface.specs.State.{freed_state, with_state}
use Rattle.rina_ids.specs.Ids.{IsInUse}
use Rattle.rina_ids.specs.Members.{CepIds, with_rest}
use Rattle.rina_law.specs.Direction.{Direction}
use Rattle.rina_data.specs.Configs.{config_of}
use Rattle.rina_data.proofs.Finding.{there}
use Rattle.rina_dif_law.specs.Answering.{IsTurnedDown}
use Rattle.rina_dif_law.specs.Places.{IsUp}
use Rattle.rina_dif_law.specs.Sending.{home}
use Rattle.rina_flows.specs.declared.flows.Flows.{Flows}
use Rattle.rina_flows.specs.Tied.{IsTied, ids_of}
use Rattle.rina_dif.specs.declared.dif.Dif.{Dif}
use Rattle.rina_dif.specs.declared.release.IdRest.{IdRest}
use Rattle.rina_dif.specs.declared.waiting_asks.WaitingAsk.{WaitingAsk}
use Rattle.rina_dif.specs.Elsewhere.{ChangesOnly, home_of}
use Rattle.rina_dif.specs.Freeing.{FreesEnd, FreesHere, RestsAt}
use Rattle.rina_dif.specs.Holding.{Holds}
use Rattle.rina_dif.specs.Shown.{seen_of}
use Rattle.rina_dif.specs.WaitingAsks.{TurnsDown}
use Rattle.rina_dif.specs.Whole.{IsDif}
use Rattle.rina_dif.proofs.FlowRows.{down_holds}
use Rattle.rina_dif.proofs.Freed.{restated_tied}
use Rattle.rina_dif.proofs.GivenBack.{gives_back, used_there}
use Rattle.std.specs.Global.{Vec}

-- it has ended
not_allocated : (why : Why) → Refused why ≢ Allocated
not_allocated why e = cc

not_failed : (why : Why) (fail : Fail) → Refused why ≡ Failed fail → ⊥
not_failed why fail e = cc

not_pending : (why : Why) → Refused why ≢ Pending
not_pending why e = cc

module _ (d : Dif) (i at : ℕ) (end : End) (why : Why) (flows : Flows) (rest : IdRest) (held : List CepIds) (is : slice_get d.flows.journal.ends at ≡ Some end) (waits : end.state ≡ Pending) (here : home end.port.node (config_of d.settings).members ≡ Some i) (conns : flows.conns ≡ d.flows.conns) (ends : flows.journal.ends ≡ slice_set d.flows.journal.ends at (with_state end (Refused why))) (rests : RestsAt d at rest) (gave : (ids : CepIds) → slice_get d.ids i ≡ Some ids → held ≡ with_rest i ids rest.cep (d.clock + rest.ticks) d.ids) (lines : List Direction) (below : Seen) (h : Holds d lines below) where
  abbrev refused_dif : Dif
  refused_dif = record d { flows = flows; ids = held }

  refused_turned : IsTurnedDown (seen_of d) at (Refused why) (seen_of refused_dif)
  refused_turned = record {
    end = end;
    is_end = is;
    waits = waits;
    ends = λ up. up;
    held = held;
    gives_back = gives_back d lines below h i at end rest held is here rests gave;
    new_is = (λ k. record (seen_of d) { ends = ends k; conns = map ids_of (conns k); ids = held });
  }

  refused_tied : IsTied (config_of d.settings) d.clock flows.journal.ends flows.conns lines
  refused_tied =
      let g = config_of d.settings in
      let ends' : List End = slice_set d.flows.journal.ends at (with_state end (Refused why)) in
      let tied = restated_tied g d.clock at d.flows.journal.ends d.flows.conns lines end (with_state end (Refused why)) h.tied is (record { flow = refl; role = refl; port = refl; app = refl; peer = refl; cube = refl }) (not_allocated why) (not_pending why) refl in
      subst (λ (xs : List End). IsTied g d.clock xs flows.conns lines) (sym ends) (subst (λ (ks : List Conn). IsTied g d.clock ends' ks lines) (sym conns) tied)

  pub turns_down : TurnsDown d at (Refused why) refused_dif × Holds refused_dif lines below
  turns_down = (record { turned = refused_turned; managed = refl }, down_holds d flows held d.waiting lines below h at (Refused why) refused_tied (not_failed why) refused_turned)

-- its id is in use until then
pub asked_used : (d : Dif) (i at : ℕ) (rest : IdRest) → IsDif d → at < length d.flows.journal.ends → ((e : End) → slice_get d.flows.journal.ends at ≡ Some e → (e.state ≡ Pending) × (home_of d e.port.node ≡ Some i)) → RestsAt d at rest → (ids : CepIds) → slice_get d.ids i ≡ Some ids → IsInUse ids.1 rest.cep
asked_used d i at rest is within ends rests ids are_ids =
    let e = there d.flows.journal.ends at within in
    let end = ends e.0 e.1 in
    used_there d is.stands.0 is.below is.stands.1 i at e.0 rest e.1 (subst IsUp (sym end.0) tt) end.1 rests ids are_ids

-- one that is withdrawn is freed
pub withdrawn_frees : (d : Dif) (lines : List Direction) (below : Seen) (at : ℕ) (d' : Dif) → TurnsDown d at (Refused Withdrawn) d' → Holds d' lines below → FreesHere d lines below at (Ok tt) d'
withdrawn_frees d lines below at d' t h = record {
  end = t.turned.end;
  is_end = t.turned.is_end;
  frees = subst (λ (z : PortState). FreesEnd z (seen_of d) lines at t.turned.end (seen_of d')) (sym t.turned.waits) (record { held = t.turned.held; gives_back = t.turned.gives_back; new_is = t.turned.new_is ∙ ap (λ (s : PortState). record (seen_of d) { ends = slice_set d.flows.journal.ends at (with_state t.turned.end (freed_state s)); ids = t.turned.held }) (sym t.turned.waits) });
  holds = h;
}

-- Whatever asks wait

pub other_asks : (d : Dif) (lines : List Direction) (below : Seen) (asks : Vec WaitingAsk) → Holds d lines below → Holds (record d { asks = asks }) lines below
other_asks d lines below asks h = record { tied = h.tied; standing = h.standing; carrying = h.carrying; numbered = h.numbered; accounted = h.accounted; caused = h.caused; written_off = h.written_off; housed = h.housed; managed = h.managed; enrolled = h.enrolled; connected = h.connected; flooded = h.flooded }

pub other_asks_dif : (d : Dif) (asks : Vec WaitingAsk) → IsDif d → IsDif (record d { asks = asks })
other_asks_dif d asks is = record { below = is.below; stands = (is.stands.0, other_asks d is.stands.0 is.below asks is.stands.1); clock = is.clock }

-- back again, where another list waited before
pub turned_down_with : (d : Dif) (asks : Vec WaitingAsk) (at : ℕ) (state : PortState) (d' : Dif) → TurnsDown (record d { asks = asks }) at state d' → TurnsDown d at state d'
turned_down_with d asks at state d' t = record { turned = t.turned; managed = t.managed }

-- the end is freed, and then the ask waits no more
pub withdrawn_with : (d d1 d' : Dif) (lines : List Direction) (below : Seen) (at : ℕ) (asks : Vec WaitingAsk) → d' ≡ record d1 { asks = asks } → TurnsDown d at (Refused Withdrawn) d1 → Holds d1 lines below → FreesHere d lines below at (Ok tt) d'
withdrawn_with d d1 d' lines below at asks is t h =
    let f = withdrawn_frees d lines below at d1 t h in
    subst (λ (z : Dif). FreesHere d lines below at (Ok tt) z) (sym is) (record { end = f.end; is_end = f.is_end; frees = f.frees; holds = other_asks d1 lines below asks f.holds })

pub withdrawn_leaves : (d d1 d' : Dif) (i at node : ℕ) (asks : Vec WaitingAsk) → home_of d node ≡ Some i → d' ≡ record d1 { asks = asks } → ChangesOnly (λ k. k ≡ at) (Some i) d d1 → ChangesOnly (λ k. k ≡ at) (home_of d node) d d'
withdrawn_leaves d d1 d' i at node asks here is leaves =
    subst (λ (z : Dif). ChangesOnly (λ k. k ≡ at) (home_of d node) d z) (sym is) (subst (λ (o : Option ℕ). ChangesOnly (λ k. k ≡ at) o d d1) (sym here) leaves)
