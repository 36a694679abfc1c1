-- A DIF stands, is carried, numbered and in account, and its ledgers say what is true, as one of its IPC processes gets a link more.
use Rattle.std.proofs.Common.{◌≡◌, ◌∙◌, ◌⊎◌, ℕ, List, [], ◌∷◌, ◌++◌, append-nil, length-set, slice_get, slice_set, Option, Some, refl, sym, ap, subst, arith, inl, inr}
use Rattle.std.specs.Prelude.{sum_by}
use Rattle.rina_account.specs.Account.{off_count}
use Rattle.rina_account.specs.declared.ledger.Off.{Off}
use Rattle.rina_base.specs.declared.number.Key.{Key}
use Rattle.rina_iface.specs.Seen.{Seen}
use Rattle.rina_iface.proofs.Changed.{set_at}
use Rattle.rina_iface.proofs.Grown.{pushed_at, still_at}
use Rattle.rina_law.specs.Direction.{Direction}
use Rattle.rina_queue.specs.declared.queue.Queued.{Queued}
use Rattle.rina_data.specs.declared.link.Link.{Link}
use Rattle.rina_data.specs.Configs.{Member}
use Rattle.rina_data.specs.Process.{Process, Queue}
use Rattle.rina_dif_law.specs.Accounted.{IsAccounted, Resends, counts_of, queued_with}
use Rattle.rina_dif_law.specs.Carried.{IsCarrying}
use Rattle.rina_dif_law.specs.Cloud.{Cloud, Everywhere, Waits}
use Rattle.rina_dif_law.specs.Dif.{DifSeen, with_process}
use Rattle.rina_dif_law.specs.Numbered.{IsNumbered}
use Rattle.rina_dif_law.specs.Standing.{HasLink, IsLinked, IsStanding}
use Rattle.rina_dif_law.specs.WriteOffLaws.{Nothing}
use Rattle.rina_dif_law.specs.Written.{AreWrittenOff}
use Rattle.rina_dif_law.proofs.Accounting.{one_process}
use Rattle.rina_dif_law.proofs.After.{NoMore, after_none}
use Rattle.rina_dif_law.proofs.Balancing.{moved_same}
use Rattle.rina_dif_law.proofs.Carrying.{carrying_same, end_was, line_was}
use Rattle.rina_dif_law.proofs.Clouds.{NoItem, Requeued, covers_less}
use Rattle.rina_dif_law.proofs.Numbering.{none_here, numbered_at}
use Rattle.rina_dif_law.proofs.Own.{own_covered}
use Rattle.rina_dif_law.proofs.Upper.{silent_same}
use Rattle.rina_dif_law.proofs.Writing.{PortsStay, process_noted, written_on}

same_some : {X : Type 0} (o : Option X) (a b : X) → o ≡ Some a → o ≡ Some b → a ≡ b
same_some o a b h g = cc

-- an IPC process has a link more behind those that it had. What waits waited before, each key as often; its next hops and its ledger are those that it had
pub record GainsLink (link : Link) (p p' : Process) : Type 0 where
  pub links : p'.links ≡ p.links ++ link ∷ []
  pub routes : p'.routes ≡ p.routes
  pub ledger : p'.ledger ≡ p.ledger
  pub waits : (place at : ℕ) (queue : Queue) (item : Queued) → slice_get p'.queues place ≡ Some queue → slice_get queue.items at ≡ Some item → slice_get p.queues place ≡ Some queue
  pub count : (k : Key) → sum_by (queued_with k) p'.queues ≡ sum_by (queued_with k) p.queues

ports_more : (links : List Link) (link : Link) (links' : List Link) → links' ≡ links ++ link ∷ [] → PortsStay links links'
ports_more links link links' more place old is = (old, ap (λ (ls : List Link). slice_get ls place) more ∙ still_at links (link ∷ []) place old is, refl)

module _ (d : DifSeen) (lines : List Direction) (below : Seen) (i : ℕ) (p p' : Process) (link : Link) (is : slice_get d.processes i ≡ Some p) (gains : GainsLink link p p') where
  abbrev ps' : List Process
  ps' = slice_set d.processes i p'

  abbrev d' : DifSeen
  d' = with_process d i p'

  -- What waits

  pub requeued_gained : Requeued NoItem d.processes ps'
  requeued_gained j n item w = inl (elim (set_at d.processes i j p p' w.process is w.is_process) [
    | inl t ↦ record {
      process = p;
      is_process = ap (slice_get d.processes) t.0 ∙ is;
      place = w.place;
      queue = w.queue;
      is_queue = gains.waits w.place w.at w.queue item (subst (λ (z : Process). slice_get z.queues w.place ≡ Some w.queue) t.1 w.is_queue) w.is_item;
      link = w.link;
      at = w.at;
      is_item = w.is_item;
    }
    | inr f ↦ record { process = w.process; is_process = f.1; place = w.place; queue = w.queue; is_queue = w.is_queue; link = w.link; at = w.at; is_item = w.is_item }
  ])

  -- so does no other PDU
  pub waits_gained : (j n : ℕ) (item : Queued) → Waits ps' j n item → Waits d.processes j n item
  waits_gained j n item w = elim (requeued_gained j n item w) [ inl old ↦ old | inr none ↦ absurd none ]

  -- Its links

  its_links : (place : ℕ) (l : Link) → slice_get p'.links place ≡ Some l → (slice_get p.links place ≡ Some l) ⊎ (l ≡ link)
  its_links place l stands = elim (pushed_at p.links link place l (ap (λ (ls : List Link). slice_get ls place) (sym gains.links) ∙ stands)) [
    | inl old ↦ inl old
    | inr new ↦ inr new.1
  ]

  -- a link was there, or is the new one
  pub had_link : (j : ℕ) (l : Link) → HasLink ps' j l → HasLink d.processes j l ⊎ ((j ≡ i) × (l ≡ link))
  had_link j l h = elim (set_at d.processes i j p p' h.process is h.is_process) [
    | inl t ↦ elim (its_links h.place l (subst (λ (z : Process). slice_get z.links h.place ≡ Some l) t.1 h.stands)) [
      | inl old ↦ inl (record { process = p; is_process = ap (slice_get d.processes) t.0 ∙ is; place = h.place; stands = old })
      | inr new ↦ inr (t.0, new)
    ]
    | inr f ↦ inl (record { process = h.process; is_process = f.1; place = h.place; stands = h.stands })
  ]

  -- What holds of the DIF

  pub gained_stands : IsStanding d lines below → ((member : Member) → slice_get d.config.members i ≡ Some member → IsLinked below member.name link.port) → IsStanding d' lines below
  gained_stands st linked =
      let covers = covers_less Everywhere d.config d.clock d.processes ps' below below requeued_gained (after_none d.config below) in
      record {
        config = st.config;
        clock = st.clock;
        aligned = length-set d.processes i p' ∙ st.aligned;
        linked = λ j member l is_member h. elim (had_link j l h) [
          | inl old ↦ st.linked j member l is_member old
          | inr new ↦
              let here = linked member (ap (slice_get d.config.members) (sym new.0) ∙ is_member) in
              subst (λ (z : Link). IsLinked below member.name z.port) (sym new.1) here
        ];
        inside = st.inside;
        spelled = st.spelled;
        items = λ j n item w. st.items j n item (waits_gained j n item w);
        journal = st.journal;
        ports = st.ports;
        own = own_covered d.config d.clock (Cloud Everywhere d.config d.processes below) (Cloud Everywhere d.config ps' below) d.ids d.ends d.conns lines st.own covers;
      }

  pub gained_carries : IsCarrying d lines below → IsCarrying d' lines below
  gained_carries c = carrying_same d d' lines lines NoMore below below c (after_none d.config below) refl refl (omega arith) (end_was d.ends) (line_was lines)

  pub gained_numbered : IsNumbered d below → IsNumbered d' below
  gained_numbered n =
      let silent = silent_same d d' refl refl refl in
      numbered_at d d' d.clock ps' d.ends below below refl silent.later.ends refl n (none_here d ps' below below n requeued_gained (after_none d.config below))

  pub gained_accounted : IsAccounted d lines below → IsAccounted d' lines below
  gained_accounted a = one_process d lines lines below below d.ends i p p' a is a.passed (λ j m q k ne there. record { taken = refl; relayed = refl; gone = refl; made = refl; kept = refl }) (λ m k there.
      let count = gains.count k in
      let offs : off_count p'.ledger k ≡ off_count p.ledger k = ap (λ (z : List Off). off_count z k) gains.ledger in
      moved_same m.addr k (Resends d m.addr k.scep) (counts_of d lines below m p k) (counts_of d' lines below m p' k) (record { taken = refl; relayed = refl; gone = omega (arith, count, offs); made = refl; kept = refl }))

  pub gained_written : AreWrittenOff d → AreWrittenOff d'
  gained_written w = written_on Nothing d d' (process_noted Nothing d d' i p p' [] refl is (gains.ledger ∙ sym (append-nil p.ledger)) (λ off none. absurd none) (ports_more p.links link p'.links gains.links)) (λ j off none. absurd none) w
