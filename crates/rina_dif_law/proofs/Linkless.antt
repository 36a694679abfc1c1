-- A link that is lost, and the flows that fail for it, keep standing.
use Rattle.std.proofs.Common.{◌≡◌, ℕ, zero, suc, Bool, true, false, cond, eqb, List, [], length, length-set, slice_get, slice_set, Some, refl, sym, ◌∙◌, ap, subst, arith, inl, inr}
use Rattle.rina_base.specs.declared.number.Port.{Port}
use Rattle.rina_iface.specs.declared.state.Fail.{Fail}
use Rattle.rina_iface.specs.declared.state.Fail.TheVariants.{Below}
use Rattle.rina_iface.specs.declared.state.PortState.TheVariants.{Failed}
use Rattle.rina_iface.specs.Seen.{Seen}
use Rattle.rina_iface.proofs.Changed.{set_at}
use Rattle.rina_law.specs.Direction.{Direction}
use Rattle.rina_queue.specs.declared.queue.Queued.{Queued}
use Rattle.rina_data.specs.declared.link.Link.{Link}
use Rattle.rina_data.specs.declared.link.Route.{Route}
use Rattle.rina_dif_law.specs.Carried.{IsCarrying}
use Rattle.rina_dif_law.specs.Cloud.{Cloud, Everywhere}
use Rattle.rina_dif_law.specs.Dif.{DifSeen}
use Rattle.rina_data.specs.Process.{Process, Queue}
use Rattle.rina_dif_law.specs.Ending.{IsEnded}
use Rattle.rina_dif_law.specs.Losing.{FailAll, FailFirst, Loses, MayFail}
use Rattle.rina_data.specs.Losing.{without_items, without_link}
use Rattle.rina_dif_law.specs.Numbered.{IsNumbered}
use Rattle.rina_dif_law.specs.Standing.{HasLink, IsLinked, IsStanding}
use Rattle.rina_dif_law.specs.Upward.{IsSilent}
use Rattle.rina_dif_law.proofs.After.{NoMore, after_none}
use Rattle.rina_dif_law.proofs.Carrying.{carrying_same, end_was, line_was}
use Rattle.rina_dif_law.proofs.Clouds.{NoItem, Requeued, covers_less}
use Rattle.rina_dif_law.proofs.FarEnds.{silent_on}
use Rattle.rina_dif_law.proofs.Finishing.{ended_carries, ended_silent, ended_stands}
use Rattle.rina_dif_law.proofs.Numbering.{ended_numbered, none_here, numbered_at}
use Rattle.rina_dif_law.proofs.Own.{map_at, own_covered}
use Rattle.rina_dif_law.proofs.Upper.{silent_same}

-- What waits

none_in : {X : Type 0} (i : ℕ) (x : X) → slice_get [] i ≡ Some x → ⊥
none_in i x h = absurd cc

was_if : (b : Bool) (q : Queue) (at : ℕ) (item : Queued) → slice_get (cond b (record q { items = [] }) q).items at ≡ Some item → slice_get q.items at ≡ Some item
was_if true q at item h = absurd (none_in at item h)
was_if false q at item h = h

link_if : (b : Bool) (q : Queue) → (cond b (record q { items = [] }) q).link ≡ q.link
link_if true q = refl
link_if false q = refl

-- whatever waits at an IPC process that lost a link waited there
requeued_lost : (ps : List Process) (i place : ℕ) (p : Process) (link : Link) (routes : List Route) → slice_get ps i ≡ Some p → Requeued NoItem ps (slice_set ps i (without_link place link routes p))
requeued_lost ps i place p link routes is j n item w = inl (elim (set_at ps i j p (without_link place link routes p) w.process is w.is_process) [
  | inl t ↦
      let there = subst (λ (z : Process). slice_get z.queues w.place ≡ Some w.queue) t.1 w.is_queue in
      let q = map_at (without_items link) p.queues w.place w.queue there in
      let b : Bool = eqb q.0.link link.number in
      record {
        process = p;
        is_process = ap (slice_get ps) t.0 ∙ is;
        place = w.place;
        queue = q.0;
        is_queue = q.1;
        link = sym (link_if b q.0) ∙ ap (λ (z : Queue). z.link) (sym q.2) ∙ w.link;
        at = w.at;
        is_item = was_if b q.0 w.at item (subst (λ (z : Queue). slice_get z.items w.at ≡ Some item) q.2 w.is_item);
      }
  | inr f ↦ record { process = w.process; is_process = f.1; place = w.place; queue = w.queue; is_queue = w.is_queue; link = w.link; at = w.at; is_item = w.is_item }
])

-- Its links

-- a link stood there on the same port
record WasLink (ps : List Process) (i : ℕ) (l : Link) : Type 0 where
  link : Link
  has : HasLink ps i link
  port : link.port ≡ l.port

was_link : (ps : List Process) (i place : ℕ) (p : Process) (link : Link) (routes : List Route) → slice_get ps i ≡ Some p → slice_get p.links place ≡ Some link → (j : ℕ) (l : Link) → HasLink (slice_set ps i (without_link place link routes p)) j l → WasLink ps j l
was_link ps i place p link routes is stands j l h = elim (set_at ps i j p (without_link place link routes p) h.process is h.is_process) [
  | inl t ↦
      let dead : Link = record link { live = false } in
      let here : slice_get ps j ≡ Some p = ap (slice_get ps) t.0 ∙ is in
      elim (set_at p.links place h.place link dead l stands (subst (λ (z : Process). slice_get z.links h.place ≡ Some l) t.1 h.stands)) [
        | inl u ↦ record { link = link; has = record { process = p; is_process = here; place = place; stands = stands }; port = ap (λ (z : Link). z.port) (sym u.1) }
        | inr u ↦ record { link = l; has = record { process = p; is_process = here; place = h.place; stands = u.1 }; port = refl }
      ]
  | inr f ↦ record { link = l; has = record { process = h.process; is_process = f.1; place = h.place; stands = h.stands }; port = refl }
]

-- A link is lost

pub lost_stands : (d : DifSeen) (lines : List Direction) (below : Seen) (i number : ℕ) (routes : List Route) (d' : DifSeen) → IsStanding d lines below → Loses d below i number routes d' → IsStanding d' lines below
lost_stands d lines below i number routes d' st s =
    let process' : Process = without_link s.place s.link routes s.process in
    let processes' : List Process = slice_set d.processes i process' in
    let moved = requeued_lost d.processes i s.place s.process s.link routes s.is_process in
    let covers = covers_less Everywhere d.config d.clock d.processes processes' below below moved (after_none d.config below) in
    subst (λ (z : DifSeen). IsStanding z lines below) (sym s.new_is) (record {
      config = st.config;
      clock = st.clock;
      aligned = length-set d.processes i process' ∙ st.aligned;
      linked = λ j member l m h.
          let was = was_link d.processes i s.place s.process s.link routes s.is_process s.first.lost.stands j l h in
          subst (λ (p : Port). IsLinked below member.name p) was.port (st.linked j member was.link m was.has);
      inside = st.inside;
      spelled = st.spelled;
      items = λ j n item w. elim (moved j n item w) [ inl o ↦ st.items j n item o | inr none ↦ absurd none ];
      journal = st.journal;
      ports = st.ports;
      own = own_covered d.config d.clock (Cloud Everywhere d.config d.processes below) (Cloud Everywhere d.config processes' below) d.ids d.ends d.conns lines st.own covers;
    })

pub lost_carries : (d : DifSeen) (lines : List Direction) (below : Seen) (i number : ℕ) (routes : List Route) (d' : DifSeen) → IsCarrying d lines below → Loses d below i number routes d' → IsCarrying d' lines below
lost_carries d lines below i number routes d' c s =
    let new : DifSeen = record d { processes = slice_set d.processes i (without_link s.place s.link routes s.process) } in
    subst (λ (z : DifSeen). IsCarrying z lines below) (sym s.new_is) (carrying_same d new lines lines NoMore below below c (after_none d.config below) refl refl (omega arith) (end_was d.ends) (line_was lines))

pub lost_silent : (d : DifSeen) (below : Seen) (i number : ℕ) (routes : List Route) (d' : DifSeen) → Loses d below i number routes d' → IsSilent d d'
lost_silent d below i number routes d' s = silent_same d d' (ap (λ (z : DifSeen). z.ends) s.new_is) (ap (λ (z : DifSeen). z.config) s.new_is) (ap (λ (z : DifSeen). z.clock) s.new_is)

pub lost_numbered : (d : DifSeen) (below : Seen) (i number : ℕ) (routes : List Route) (d' : DifSeen) → IsNumbered d below → Loses d below i number routes d' → IsNumbered d' below
lost_numbered d below i number routes d' n s =
    let silent = lost_silent d below i number routes d' s in
    let processes' : List Process = slice_set d.processes i (without_link s.place s.link routes s.process) in
    numbered_at d d' d.clock processes' d.ends below below s.new_is silent.later.ends (ap (λ (z : DifSeen). length z.ends) s.new_is) n (none_here d processes' below below n (requeued_lost d.processes i s.place s.process s.link routes s.is_process) (after_none d.config below))

-- Flows fail for it

-- what holds of a DIF, and stays as an end fails, stays as all do
module _ (P : DifSeen → Type 0) (lines : List Direction) (node : ℕ) (fail : Fail) (one : (at : ℕ) (d d' : DifSeen) → P d → IsEnded d lines at (Failed fail) d' → P d') where
  one_stays : (at : ℕ) (d d' : DifSeen) → P d → MayFail lines node fail at d d' → P d'
  one_stays at d d' p (inl f) = one at d d' p f.1
  one_stays at d d' p (inr k) = subst P (sym k.1) p

  pub first_stay : (n : ℕ) (d d' : DifSeen) → P d → FailFirst lines node fail n d d' → P d'
  first_stay zero d d' p f = subst P (sym f) p
  first_stay (suc n) d d' p f = one_stays n f.0 d' (first_stay n d f.0 p f.1) f.2

-- it stands, and is numbered
record StandsNumbered (lines : List Direction) (below : Seen) (z : DifSeen) : Type 0 where
  standing : IsStanding z lines below
  numbered : IsNumbered z below

pub failed_stands : (d : DifSeen) (lines : List Direction) (below : Seen) (node : ℕ) (port : Port) (d' : DifSeen) → IsStanding d lines below → IsNumbered d below → FailAll lines node port d d' → IsStanding d' lines below
failed_stands d lines below node port d' st n f =
    (first_stay (StandsNumbered lines below) lines node (Below port) (λ at a b s e. record { standing = ended_stands a lines below at (Failed (Below port)) b s.standing s.numbered e; numbered = ended_numbered a lines below at (Failed (Below port)) b s.numbered e }) (length d.ends) d d' (record { standing = st; numbered = n }) f).standing

pub failed_carries : (d : DifSeen) (lines : List Direction) (below : Seen) (node : ℕ) (port : Port) (d' : DifSeen) → IsCarrying d lines below → FailAll lines node port d d' → IsCarrying d' lines below
failed_carries d lines below node port d' c f = first_stay (λ (z : DifSeen). IsCarrying z lines below) lines node (Below port) (λ at a b s e. ended_carries a lines below at (Failed (Below port)) b s e) (length d.ends) d d' c f

pub failed_numbered : (d : DifSeen) (lines : List Direction) (below : Seen) (node : ℕ) (port : Port) (d' : DifSeen) → IsNumbered d below → FailAll lines node port d d' → IsNumbered d' below
failed_numbered d lines below node port d' n f = first_stay (λ (z : DifSeen). IsNumbered z below) lines node (Below port) (λ at a b s e. ended_numbered a lines below at (Failed (Below port)) b s e) (length d.ends) d d' n f

-- silent since the start, and at the same tick
record IsSilentNow (d z : DifSeen) : Type 0 where
  silent : IsSilent d z
  clock : z.clock ≡ d.clock

pub failed_silent : (d : DifSeen) (lines : List Direction) (node : ℕ) (port : Port) (d' : DifSeen) → FailAll lines node port d d' → IsSilent d d'
failed_silent d lines node port d' f =
    let all = first_stay (IsSilentNow d) lines node (Below port) (λ at a b s e.
    let same : b.clock ≡ a.clock = ap (λ (z : DifSeen). z.clock) e.new_is in
    let was = s.clock in
    record { silent = silent_on d a b (omega (arith, was)) (omega (arith, same)) s.silent (ended_silent a lines at (Failed (Below port)) b e); clock = same ∙ was }) (length d.ends) d d' (record { silent = silent_same d d refl refl refl; clock = refl }) f in
    all.silent
