-- What holds of a DIF stays as one of its IPC processes takes its end of a flow below as a link more.
use Rattle.std.proofs.Common.{◌≡◌, ◌∙◌, ℕ, List, map, slice_get, slice_set, Option, Some, refl, sym, ap, subst, inl, inr}
use Rattle.std.specs.Prelude.{Contains, IsSome, sum_by}
use Rattle.rina_channel.specs.declared.channel.Attachment.{Attachment}
use Rattle.rina_iface.specs.Seen.{Seen}
use Rattle.rina_iface.proofs.Grown.{pushed_at}
use Rattle.rina_law.specs.Direction.{Direction}
use Rattle.rina_queue.specs.Queues.{added}
use Rattle.rina_data.specs.declared.link.Link.{Link}
use Rattle.rina_data.specs.declared.process.IpcProcess.{IpcProcess}
use Rattle.rina_data.specs.Configs.{Config, config_of}
use Rattle.rina_data.specs.Deciding.{plain, process_of}
use Rattle.rina_data.specs.Process.{Queue, next_hop, queue_place}
use Rattle.rina_dif_law.specs.Accounted.{IsAccounted, queued_with}
use Rattle.rina_dif_law.specs.Carried.{IsCarrying}
use Rattle.rina_dif_law.specs.Dif.{DifSeen, with_process}
use Rattle.rina_dif_law.specs.Numbered.{IsNumbered}
use Rattle.rina_dif_law.specs.Standing.{IsStanding}
use Rattle.rina_dif_law.specs.Written.{AreWrittenOff}
use Rattle.rina_dif.specs.declared.dif.Dif.{Dif}
use Rattle.rina_dif.specs.Holding.{AreWhole, Holds, IsHoused}
use Rattle.rina_dif.specs.LinkTaking.{CanTakeLink, HoldsOfFlows, TakesLink, link_of, with_ipc}
use Rattle.rina_dif.specs.Shown.{seen_of}
use Rattle.rina_dif.proofs.Causing.{process_caused}
use Rattle.rina_dif.proofs.Keeping.{set_cases}
use Rattle.rina_dif.proofs.Leaves.{shown_at, stepped}
use Rattle.rina_dif.proofs.LinkGained.{GainsLink, gained_accounted, gained_carries, gained_numbered, gained_stands, gained_written}
use Rattle.rina_dif.proofs.WaitsOnLive.{more_on_live}
use Rattle.rina_dif.proofs.LinkQueues.{plain_count, plain_new, plain_still, plain_waits, plain_whole}

same_some : {X : Type 0} (o : Option X) (a b : X) → o ≡ Some a → o ≡ Some b → a ≡ b
same_some o a b h g = cc

-- The IPC process

-- as a DIF sees it
queues_seen : (link : Attachment) (p p' : IpcProcess) → TakesLink link p p' → (process_of p').queues ≡ map plain (added p.queues.cap link.number p.queues.cubes p.queues.queues.items)
queues_seen link p p' takes = ap (map plain) takes.queues

pub gains : (link : Attachment) (p p' : IpcProcess) → TakesLink link p p' → GainsLink (link_of link) (process_of p) (process_of p')
gains link p p' takes = record {
  links = takes.links;
  routes = takes.routes;
  ledger = takes.ledger;
  waits = λ place at queue item is waits. plain_waits p.queues.cap link.number p.queues.cubes p.queues.queues.items place at queue item (ap (λ (qs : List Queue). slice_get qs place) (sym (queues_seen link p p' takes)) ∙ is) waits;
  count = λ k. ap (sum_by (queued_with k)) (queues_seen link p p' takes) ∙ plain_count k p.queues.cap link.number p.queues.cubes p.queues.queues.items;
}

-- each link, the new one too, has its queues, and so has each next hop
pub taken_housed : (g : Config) (link : Attachment) (p p' : IpcProcess) → TakesLink link p p' → IsHoused g p → IsHoused g p'
taken_housed g link p p' takes housed =
    let seen = queues_seen link p p' takes in
    let still = λ (qos number : ℕ) (some : IsSome (queue_place qos number (process_of p).queues)). subst (λ (qs : List Queue). IsSome (queue_place qos number qs)) (sym seen) (plain_still p.queues.cap link.number p.queues.cubes p.queues.queues.items qos number some) in
    record {
      cap = takes.cap ∙ housed.cap;
      links = λ place qos l is live known. elim (pushed_at p.links (link_of link) place l (ap (λ (ls : List Link). slice_get ls place) (sym takes.links) ∙ is)) [
        | inl old ↦ still qos l.number (housed.links place qos l old live known)
        | inr new ↦
            (let here = subst (λ (qs : List Queue). IsSome (queue_place qos link.number qs)) (sym seen) (plain_new g p.queues.cap link.number p.queues.cubes p.queues.queues.items qos housed.cubes housed.whole known) in
            subst (λ (z : Link). IsSome (queue_place qos z.number (process_of p').queues)) (sym new.1) here)
      ];
      queues = λ dst number qos hop known.
          let before : next_hop dst p.routes ≡ Some number = ap (next_hop dst) (sym takes.routes) ∙ hop in
          still qos number (housed.queues dst number qos before known);
      cubes = λ qos known. subst (λ (ids : List ℕ). Contains ids qos) (sym takes.cubes) (housed.cubes qos known);
      whole = subst (AreWhole g) (sym seen) (plain_whole g p.queues.cap link.number p.queues.cubes p.queues.queues.items housed.cubes housed.whole);
      waits = more_on_live (process_of p) (process_of p') (link_of link) takes.links (gains link p p' takes).waits housed.waits;
    }

-- The DIF

module _ (d : Dif) (lines : List Direction) (below : Seen) (i : ℕ) (p p' : IpcProcess) (link : Attachment) (can : CanTakeLink d below i p link) (takes : TakesLink link p p') where
  abbrev there : slice_get (seen_of d).processes i ≡ Some (process_of p)
  there = shown_at d i p can.is_process

  new_seen : seen_of (with_ipc d i p') ≡ with_process (seen_of d) i (process_of p')
  new_seen = stepped d i p' (slice_set d.processes i p') refl

  gained : GainsLink (link_of link) (process_of p) (process_of p')
  gained = gains link p p' takes

  pub taken_holds : HoldsOfFlows d lines below → HoldsOfFlows (with_ipc d i p') lines below
  taken_holds h = record {
    tied = h.tied;
    standing = subst (λ (z : DifSeen). IsStanding z lines below) (sym new_seen) (gained_stands (seen_of d) lines below i (process_of p) (process_of p') (link_of link) there gained h.standing can.linked);
    carrying = subst (λ (z : DifSeen). IsCarrying z lines below) (sym new_seen) (gained_carries (seen_of d) lines below i (process_of p) (process_of p') (link_of link) there gained h.carrying);
    numbered = subst (λ (z : DifSeen). IsNumbered z below) (sym new_seen) (gained_numbered (seen_of d) lines below i (process_of p) (process_of p') (link_of link) there gained h.numbered);
    accounted = subst (λ (z : DifSeen). IsAccounted z lines below) (sym new_seen) (gained_accounted (seen_of d) lines below i (process_of p) (process_of p') (link_of link) there gained h.accounted);
    caused = process_caused (seen_of d) (seen_of (with_ipc d i p')) below i (process_of p') new_seen h.caused;
    written_off = subst AreWrittenOff (sym new_seen) (gained_written (seen_of d) lines below i (process_of p) (process_of p') (link_of link) there gained h.written_off);
    housed = set_cases (IsHoused (config_of d.settings)) d.processes i p' (taken_housed (config_of d.settings) link p p' takes (h.housed i p can.is_process)) h.housed;
  }

-- what is known of flows is part of what holds
pub of_flows : (d : Dif) (lines : List Direction) (below : Seen) → Holds d lines below → HoldsOfFlows d lines below
of_flows d lines below h = record { tied = h.tied; standing = h.standing; carrying = h.carrying; numbered = h.numbered; accounted = h.accounted; caused = h.caused; written_off = h.written_off; housed = h.housed }
