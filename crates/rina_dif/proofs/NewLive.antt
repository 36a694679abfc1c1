-- A new link of an IPC process is live, and no other becomes so; and no PDU waits for it.
use Rattle.std.proofs.Common.{◌≡◌, ◌∙◌, ◌⊎◌, ℕ, zero, suc, Bool, true, false, cond, List, [], ◌∷◌, ◌++◌, length, map, slice_get, slice_set, Option, Some, option_map, refl, sym, ap, inl, inr}
use Rattle.std.proofs.lemmas.Bool.Decides.{eqb_tells}
use Rattle.std.proofs.lemmas.List.{map-set}
use Rattle.std.proofs.lemmas.Option.{slice_get-map}
use Rattle.rina_base.specs.declared.number.Port.{Port}
use Rattle.rina_channel.specs.declared.channel.Attachment.{Attachment}
use Rattle.rina_channel.specs.Channels.{HasLive}
use Rattle.rina_channel.specs.Making.{IsLinkLive}
use Rattle.rina_data.specs.declared.link.Link.{Link}
use Rattle.rina_data.specs.declared.process.IpcProcess.{IpcProcess}
use Rattle.rina_data.specs.Deciding.{plain, process_of}
use Rattle.rina_data.specs.Process.{Process, Queue}
use Rattle.rina_dif_law.specs.Cloud.{Waits}
use Rattle.rina_iface.proofs.Changed.{set_at, slice_get-set_other, slice_get-set_same}
use Rattle.rina_iface.proofs.Grown.{last_at, pushed_at, still_at}
use Rattle.rina_queue.specs.declared.queue.Queue.{Queue as Waiting}
use Rattle.rina_queue.specs.declared.queue.Queued.{Queued}
use Rattle.rina_queue.specs.Queues.{added, has_link, no_items, no_queues}
use Rattle.rina_dif.specs.Enrolling.{LinksUp}
use Rattle.rina_dif.specs.LinkTaking.{WaitOnLive, link_of}
use Rattle.rina_dif.proofs.Bare.{map_at}
use Rattle.rina_dif.proofs.LinkNumbers.{free_number}

-- The queues of a new link are empty, or were there

append_at : {X : Type 0} (xs ys : List X) (k : ℕ) (x : X) → slice_get (xs ++ ys) k ≡ Some x → (slice_get xs k ≡ Some x) ⊎ ((j : ℕ) × (slice_get ys j ≡ Some x))
append_at [] ys k x is = inr (k, is)
append_at (z ∷ xs) ys zero x is = inl is
append_at (z ∷ xs) ys (suc k) x is = append_at xs ys k x is

empty_in : (cap link : ℕ) (cubes : List ℕ) (j : ℕ) (q : Waiting) → slice_get (no_queues cap link cubes) j ≡ Some q → q.ring.items ≡ []
empty_in cap link cubes j q is = (let x = map_at (λ (qos : ℕ). no_items cap link qos) cubes j q is in ap (λ (z : Waiting). z.ring.items) (sym x.2))

more_by : (b : Bool) (cap link : ℕ) (cubes : List ℕ) (qs : List Waiting) (k : ℕ) (q : Waiting) → slice_get (cond b qs (qs ++ no_queues cap link cubes)) k ≡ Some q → (slice_get qs k ≡ Some q) ⊎ (q.ring.items ≡ [])
more_by true cap link cubes qs k q is = inl is
more_by false cap link cubes qs k q is = elim (append_at qs (no_queues cap link cubes) k q is) [
  | inl old ↦ inl old
  | inr new ↦ inr (empty_in cap link cubes new.0 q new.1)
]

added_at : (cap link : ℕ) (cubes : List ℕ) (qs : List Waiting) (k : ℕ) (q : Waiting) → slice_get (added cap link cubes qs) k ≡ Some q → (slice_get qs k ≡ Some q) ⊎ (q.ring.items ≡ [])
unfolding added
added_at cap link cubes qs k q is = more_by (has_link link qs) cap link cubes qs k q is

same_some : {X : Type 0} (o : Option X) (a b : X) → o ≡ Some a → o ≡ Some b → a ≡ b
same_some o a b h g = cc

none_in : {X : Type 0} (xs : List X) (i : ℕ) (x : X) → xs ≡ [] → slice_get xs i ≡ Some x → ⊥
none_in xs i x e h = cc

module _ (i : ℕ) (link : Attachment) (old new : List IpcProcess) (up : LinksUp i link old new) where
  abbrev p : IpcProcess
  p = up.process

  abbrev p' : IpcProcess
  p' = up.after

  abbrev ps : List Process
  ps = map process_of old

  abbrev ps' : List Process
  ps' = map process_of new

  shown : slice_get ps i ≡ Some (process_of p)
  shown = slice_get-map process_of old i ∙ ap (λ (o : Option IpcProcess). option_map process_of o) up.is_process

  pub shown_up : ps' ≡ slice_set ps i (process_of p')
  shown_up = ap (map process_of) up.are ∙ map-set process_of old i p'

  either : (j : ℕ) (x : Process) → slice_get ps' j ≡ Some x → ((j ≡ i) × (x ≡ process_of p')) ⊎ (slice_get ps j ≡ Some x)
  either j x is = elim (set_at ps i j (process_of p) (process_of p') x shown (ap (λ (qs : List Process). slice_get qs j) (sym shown_up) ∙ is)) [
    | inl t ↦ inl t
    | inr u ↦ inr u.1
  ]

  -- it is there
  pub new_live : HasLive ps' i link.number link.port
  new_live = record {
    process = process_of p';
    is_process = ap (λ (qs : List Process). slice_get qs i) shown_up ∙ slice_get-set_same ps i (process_of p) (process_of p') shown;
    place = length p.links;
    link = link_of link;
    stands = ap (λ (ls : List Link). slice_get ls (length p.links)) up.takes.links ∙ last_at p.links (link_of link);
    live = refl;
    number_is = refl;
    port_is = refl;
  }

  -- and no other is new
  pub live_was : (j n : ℕ) (port : Port) → HasLive ps' j n port → HasLive ps j n port ⊎ ((j ≡ i) × (n ≡ link.number) × (port ≡ link.port))
  live_was j n port h = elim (either j h.process h.is_process) [
    | inl t ↦
        (let here : slice_get (p.links ++ link_of link ∷ []) h.place ≡ Some h.link = ap (λ (ls : List Link). slice_get ls h.place) (sym (ap (λ (x : Process). x.links) t.1 ∙ up.takes.links)) ∙ h.stands in
        elim (pushed_at p.links (link_of link) h.place h.link here) [
          | inl was ↦ inl (record { process = process_of p; is_process = ap (slice_get ps) t.0 ∙ shown; place = h.place; link = h.link; stands = was; live = h.live; number_is = h.number_is; port_is = h.port_is })
          | inr is ↦ inr (t.0, sym h.number_is ∙ ap (λ (l : Link). l.number) is.1, sym h.port_is ∙ ap (λ (l : Link). l.port) is.1)
        ])
    | inr was ↦ inl (record { process = h.process; is_process = was; place = h.place; link = h.link; stands = h.stands; live = h.live; number_is = h.number_is; port_is = h.port_is })
  ]

  -- those that were live are
  live_still : (j n : ℕ) (port : Port) → HasLive ps j n port → HasLive ps' j n port
  live_still j n port h = elim (eqb_tells j i) [
    | inl t ↦
        (let same : h.process ≡ process_of p = same_some (slice_get ps i) h.process (process_of p) (ap (slice_get ps) (sym t.1) ∙ h.is_process) shown in
        record {
          process = process_of p';
          is_process = ap (slice_get ps') t.1 ∙ ap (λ (qs : List Process). slice_get qs i) shown_up ∙ slice_get-set_same ps i (process_of p) (process_of p') shown;
          place = h.place;
          link = h.link;
          stands = ap (λ (ls : List Link). slice_get ls h.place) up.takes.links ∙ still_at p.links (link_of link ∷ []) h.place h.link (ap (λ (x : Process). slice_get x.links h.place) (sym same) ∙ h.stands);
          live = h.live;
          number_is = h.number_is;
          port_is = h.port_is;
        })
    | inr u ↦ record { process = h.process; is_process = ap (λ (qs : List Process). slice_get qs j) shown_up ∙ slice_get-set_other ps i j (process_of p') u.1 ∙ h.is_process; place = h.place; link = h.link; stands = h.stands; live = h.live; number_is = h.number_is; port_is = h.port_is }
  ]

  -- nor does any PDU wait that did not
  pub waits_was : (j n : ℕ) (item : Queued) → Waits ps' j n item → Waits ps j n item
  waits_was j n item w = elim (either j w.process w.is_process) [
    | inl t ↦
        (let here : slice_get (map plain (added p.queues.cap link.number p.queues.cubes p.queues.queues.items)) w.place ≡ Some w.queue = ap (λ (qs : List Queue). slice_get qs w.place) (sym (ap (λ (x : Process). x.queues) t.1 ∙ ap (map plain) up.takes.queues)) ∙ w.is_queue in
        let q = map_at plain (added p.queues.cap link.number p.queues.cubes p.queues.queues.items) w.place w.queue here in
        elim (added_at p.queues.cap link.number p.queues.cubes p.queues.queues.items w.place q.0 q.1) [
          | inl was ↦ record { process = process_of p; is_process = ap (slice_get ps) t.0 ∙ shown; place = w.place; queue = w.queue; is_queue = slice_get-map plain p.queues.queues.items w.place ∙ ap (λ (o : Option Waiting). option_map plain o) was ∙ ap (λ (z : Queue). Some z) q.2; link = w.link; at = w.at; is_item = w.is_item }
          | inr none ↦ absurd (none_in w.queue.items w.at item (ap (λ (z : Queue). z.items) (sym q.2) ∙ none) w.is_item)
        ])
    | inr was ↦ record { process = w.process; is_process = was; place = w.place; queue = w.queue; is_queue = w.is_queue; link = w.link; at = w.at; is_item = w.is_item }
  ]

  -- no live link had its number
  pub was_unused : (port : Port) → HasLive ps i link.number port → ⊥
  was_unused port h =
      let x = map_at process_of old i h.process h.is_process in
      let same : x.0 ≡ p = same_some (slice_get old i) x.0 p x.1 up.is_process in
      let its : slice_get p.links h.place ≡ Some h.link = ap (λ (z : IpcProcess). slice_get z.links h.place) (sym same) ∙ ap (λ (z : Process). slice_get z.links h.place) x.2 ∙ h.stands in
      free_number p.links link.number up.least h.place h.link its h.live h.number_is

  pub link_lives : ((item : Queued) → Waits ps i link.number item → ⊥) → IsLinkLive ps i link ps'
  link_lives idle = record {
    waits = λ j n item w. inl (waits_was j n item w);
    live = live_was;
    unused = was_unused;
    idle = λ item w of. idle item w;
  }

  -- where PDUs wait for live links alone, none waits for a number that no live link has
  pub none_waits : WaitOnLive ps → (item : Queued) → Waits ps i link.number item → ⊥
  none_waits waits item w = (let live = waits i link.number item w in was_unused live.0 live.1)
