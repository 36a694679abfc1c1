-- An IPC process gets other next hops.
use Rattle.std.proofs.Common.{◌≡◌, ◌∙◌, ℕ, List, [], append-nil, slice_get, Some, refl, sym, ap, subst, arith, inl, inr}
use Rattle.rina_account.specs.declared.ledger.Off.{Off}
use Rattle.rina_iface.specs.Seen.{Seen}
use Rattle.rina_iface.proofs.Changed.{set_at}
use Rattle.rina_law.specs.Direction.{Direction}
use Rattle.rina_data.specs.declared.link.Route.{Route}
use Rattle.rina_data.specs.Process.{Process}
use Rattle.rina_base.specs.declared.number.Key.{Key}
use Rattle.rina_data.specs.Configs.{Member}
use Rattle.rina_dif_law.specs.Accounted.{IsAccounted, Resends, counts_of}
use Rattle.rina_dif_law.specs.Carried.{IsCarrying}
use Rattle.rina_dif_law.specs.Cloud.{Everywhere}
use Rattle.rina_dif_law.specs.Dif.{DifSeen, IsProcess, with_process}
use Rattle.rina_dif_law.specs.Standing.{IsStanding as DifStands}
use Rattle.rina_dif_law.specs.Written.{AreWrittenOff}
use Rattle.rina_dif_law.proofs.Accounting.{resends_on, same_refl}
use Rattle.rina_dif_law.proofs.After.{after_none}
use Rattle.rina_dif_law.proofs.Balancing.{AreSame, IsBefore, accounted_on, moved_same}
use Rattle.rina_dif_law.proofs.Clouds.{covers_less}
use Rattle.rina_dif_law.proofs.Going.{lost_stands}
use Rattle.rina_dif_law.proofs.OfLinks.{accounted_but}
use Rattle.rina_dif_law.proofs.Queues.{requeued_same}
use Rattle.rina_dif_law.proofs.Writing.{ports_same, process_noted, written_on}
use Rattle.rina_channel.specs.Changes.{LeavesLinks}
use Rattle.rina_channel.specs.FlowLaws.{FlowsStand}
use Rattle.rina_channel.proofs.Putting.{leaves_same}

module _ (d : DifSeen) (flows : List Direction) (below : Seen) (i : ℕ) (process : Process) (routes : List Route) (is_process : slice_get d.processes i ≡ Some process) where
  abbrev pub new : Process
  new = record process { routes = routes }

  abbrev pub d' : DifSeen
  d' = with_process d i new

  -- its flows stand
  rerouted_accounted : FlowsStand d flows below → IsAccounted d' flows below
  rerouted_accounted h = accounted_but d d' flows below below h.zero.members h.accounted h.accounted.passed h.accounted.apart
      (λ addr cep r. record { place = r.place; ids = r.ids; stands = r.stands; own = r.own; scep = r.scep; cube = r.cube; is_cube = r.is_cube; reliable = r.reliable })
      (λ j m p' k is other. elim (set_at d.processes i j process new p' is_process is.is_process) [
        | inl t ↦
            let there : slice_get d.processes j ≡ Some process = ap (slice_get d.processes) t.0 ∙ is_process in
            (process, record { is_member = is.is_member; is_process = there }, subst (λ (p : Process). AreSame (counts_of d flows below m process k) (counts_of d' flows below m p k)) (sym t.1) (record { taken = refl; relayed = refl; gone = refl; made = refl; kept = refl }))
        | inr f ↦ (p', record { is_member = is.is_member; is_process = f.1 }, record { taken = refl; relayed = refl; gone = refl; made = refl; kept = refl })
      ])

  rerouted_carries : FlowsStand d flows below → IsCarrying d' flows below
  rerouted_carries h = record {
    entries = h.carrying.entries;
    holding = λ j from e ids line conn inbound. h.carrying.holding j from e ids line conn (record { partner = inbound.partner; is_partner = inbound.is_partner; partners = inbound.partners; is_line = inbound.is_line });
  }

  pub rerouted_flows : FlowsStand d flows below → FlowsStand d' flows below
  rerouted_flows h =
      let moved = requeued_same d.processes i process new is_process refl in
      let covers = covers_less Everywhere d.config 0 d.processes d'.processes below below moved (after_none d.config below) in
      record {
        zero = h.zero;
        stands = lost_stands d flows below below i process new h.stands (after_none d.config below) refl is_process refl moved;
        numbered = record { members = h.numbered.members; addressed = h.numbered.addressed; counted = h.numbered.counted; drawn = h.numbered.drawn; named = λ death pdu x. (let o = covers death pdu x (omega arith) in h.numbered.named o.0 pdu o.2) };
        carrying = rerouted_carries h;
        accounted = rerouted_accounted h;
      }

  -- the links stay as they are
  pub rerouted_leaves : LeavesLinks d.processes d'.processes
  rerouted_leaves = leaves_same d.processes i process new is_process refl refl

  -- no line is written
  abbrev None' : ℕ → Off → Type 0
  None' j off = ⊥

  pub rerouted_written : AreWrittenOff d → AreWrittenOff d'
  rerouted_written w = written_on None' d d' (process_noted None' d d' i process new [] refl is_process (sym (append-nil process.ledger)) (λ off none. absurd none) (ports_same process.links process.links refl)) (λ j off none member p q. absurd none) w

-- The nodes of the enrolled members are others

module _ (d : DifSeen) (nodes : List ℕ) where
  abbrev pub admitted : DifSeen
  admitted = record d { enrolled = nodes }

  -- the account counts none of them
  admitted_before : (lines : List Direction) (below : Seen) (i : ℕ) (m : Member) (p : Process) (k : Key) → IsProcess admitted i m p → IsBefore d admitted lines lines below below i m p k
  admitted_before lines below i m p k is = record {
    process = p;
    is_process = record { is_member = is.is_member; is_process = is.is_process };
    resends = resends_on d admitted m.addr k.scep refl (λ n ids x. x);
    moved = moved_same m.addr k (Resends admitted m.addr k.scep) (counts_of d lines below m p k) (counts_of admitted lines below m p k) (same_refl (counts_of d lines below m p k));
  }

  admitted_stands : (lines : List Direction) (below : Seen) → DifStands d lines below → DifStands admitted lines below
  admitted_stands lines below st = record {
    config = st.config;
    clock = st.clock;
    aligned = st.aligned;
    linked = st.linked;
    inside = st.inside;
    spelled = st.spelled;
    items = st.items;
    journal = st.journal;
    ports = record { own = st.ports.own; apart = st.ports.apart; drawn = st.ports.drawn };
    own = st.own;
  }

  pub admitted_flows : (lines : List Direction) (below : Seen) → FlowsStand d lines below → FlowsStand admitted lines below
  admitted_flows lines below h = record {
    zero = h.zero;
    stands = admitted_stands lines below h.stands;
    numbered = (let n = h.numbered in record { members = n.members; addressed = n.addressed; counted = n.counted; drawn = n.drawn; named = n.named });
    carrying = record { entries = h.carrying.entries; holding = λ i from e ids line conn inbound. h.carrying.holding i from e ids line conn (record { partner = inbound.partner; is_partner = inbound.is_partner; partners = inbound.partners; is_line = inbound.is_line }) };
    accounted = accounted_on d admitted lines lines below below h.accounted h.accounted.passed h.accounted.apart (λ i m p k is. admitted_before lines below i m p k is);
  }

  pub admitted_written : AreWrittenOff d → AreWrittenOff admitted
  admitted_written w = λ i m p off is. w i m p off (record { is_member = is.is_member; is_process = is.is_process })
