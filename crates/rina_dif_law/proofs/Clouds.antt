-- What a call does to the cloud.
use Rattle.std.proofs.Common.{◌≡◌, ℕ, ◌+◌, ◌≤◌, List, [], ◌∷◌, slice_get, Some, refl, sym, ◌∙◌, subst, arith, inl, inr, ◌⊎◌}
use Rattle.rina_base.specs.declared.number.Port.{Port}
use Rattle.rina_base.specs.declared.pdu.Pdu.{Pdu}
use Rattle.rina_iface.specs.declared.ends.End.{End}
use Rattle.rina_iface.specs.Journal.{AreKept}
use Rattle.rina_iface.specs.Seen.{Seen, end_of, promise_at}
use Rattle.rina_law.specs.declared.entry.Entry.{Entry}
use Rattle.rina_law.specs.Backed.{Covers}
use Rattle.rina_queue.specs.declared.queue.Queued.{Queued}
use Rattle.rina_dif_law.specs.Cloud.{Cloud, Everywhere, IsCome, IsMine, IsOnWay, IsPortIn, IsQueueIn, IsQueued, Scope, Waits, WholeCloud}
use Rattle.rina_data.specs.Hops.{Hop, opened}
use Rattle.rina_data.specs.Configs.{Config}
use Rattle.rina_data.specs.Process.{Process}
use Rattle.rina_dif_law.proofs.After.{IsAfter, NoMore, back}
use Rattle.rina_dif_law.proofs.Partnered.{met}

-- what waits after a call waited before for the same link, or is one of `more`
abbrev pub Requeued : (ℕ → ℕ → Queued → Type 0) → List Process → List Process → Type 0
Requeued more old new = (i n : ℕ) (item : Queued) → Waits new i n item → Waits old i n item ⊎ more i n item

abbrev pub NoItem : ℕ → ℕ → Queued → Type 0
NoItem i n item = ⊥

-- a PDU that was queued in a call
pub record IsPut (scope : Scope) (more : ℕ → ℕ → Queued → Type 0) (death : ℕ) (pdu : Pdu) : Type 0 where
  pub process : ℕ
  pub link : ℕ
  pub within : IsQueueIn scope process link
  pub item : Queued
  pub new : more process link item
  pub dies : death ≡ item.since + item.left
  pub is : item.pdu ≡ pdu

-- a PDU that was sent below in a call
pub record IsGiven (scope : Scope) (g : Config) (old : Seen) (more : Port → Entry → Type 0) (death : ℕ) (pdu : Pdu) : Type 0 where
  pub port : Port
  pub within : IsPortIn scope port
  pub entry : Entry
  pub new : more port entry
  pub promise : ℕ
  pub promised : promise_at old port ≡ Some promise
  pub hop : Hop
  pub opens : opened g.widths entry.bytes ≡ Some hop
  pub dies : death ≡ entry.tick + promise + hop.left
  pub is : hop.pdu ≡ pdu

queued_after : (scope : Scope) (more : ℕ → ℕ → Queued → Type 0) (old new : List Process) (death : ℕ) (pdu : Pdu) → Requeued more old new → IsQueued scope new death pdu → IsQueued scope old death pdu ⊎ IsPut scope more death pdu
queued_after scope more old new death pdu moved q = elim (moved q.process q.link q.item q.waits) [
  | inl w ↦ inl (record { process = q.process; link = q.link; within = q.within; item = q.item; waits = w; dies = q.dies; is = q.is })
  | inr m ↦ inr (record { process = q.process; link = q.link; within = q.within; item = q.item; new = m; dies = q.dies; is = q.is })
]

none_in : {X : Type 0} (xs : List X) (i : ℕ) (x : X) → xs ≡ [] → slice_get xs i ≡ Some x → ⊥
none_in [] i x e h = cc
none_in (y ∷ ys) i x e h = cc

on_way_after : (scope : Scope) (g : Config) (more : Port → Entry → Type 0) (old new : Seen) (death : ℕ) (pdu : Pdu) → IsAfter g more old new → IsOnWay scope g new death pdu → IsOnWay scope g old death pdu ⊎ IsGiven scope g old more death pdu
on_way_after scope g more old new death pdu after w = elim (back g more old new after w.port w.end w.here) [
  | inl b ↦
      let promised : promise_at old w.port ≡ Some w.promise = sym b.2.promise ∙ w.promised in
      elim (after.sent w.port b.0 w.end w.at w.entry b.1 w.here w.mine w.is_entry) [
        | inl o ↦ inl (record { port = w.port; within = w.within; end = b.0; here = b.1; mine = subst (IsMine g.members) b.2.app w.mine; promise = w.promise; promised = promised; at = w.at; entry = w.entry; is_entry = o; hop = w.hop; opens = w.opens; dies = w.dies; is = w.is })
        | inr m ↦ inr (record { port = w.port; within = w.within; entry = w.entry; new = m; promise = w.promise; promised = promised; hop = w.hop; opens = w.opens; dies = w.dies; is = w.is })
      ]
  | inr none ↦ absurd (none_in w.end.sent w.at w.entry ((after.fresh w.port w.end w.here none (inl w.mine)).0) w.is_entry)
]

-- a PDU of the cloud after a call was in it before with the same death, or was queued or sent in the call
pub cloud_after : (scope : Scope) (g : Config) (items : ℕ → ℕ → Queued → Type 0) (entries : Port → Entry → Type 0) (ps ps' : List Process) (old new : Seen) (death : ℕ) (pdu : Pdu) → Requeued items ps ps' → IsAfter g entries old new → Cloud scope g ps' new death pdu → Cloud scope g ps old death pdu ⊎ (IsPut scope items death pdu ⊎ IsGiven scope g old entries death pdu)
cloud_after scope g items entries ps ps' old new death pdu moved after (inl q) = elim (queued_after scope items ps ps' death pdu moved q) [
  | inl o ↦ inl (inl o)
  | inr n ↦ inr (inl n)
]
cloud_after scope g items entries ps ps' old new death pdu moved after (inr w) = elim (on_way_after scope g entries old new death pdu after w) [
  | inl o ↦ inl (inr o)
  | inr n ↦ inr (inr n)
]

pub requeued_none : (ps : List Process) → Requeued NoItem ps ps
requeued_none ps i n item w = inl w

-- nothing was queued or sent: passes, write-offs, losses, repeats and whatever else happens below
pub covers_less : (scope : Scope) (g : Config) (now : ℕ) (ps ps' : List Process) (old new : Seen) → Requeued NoItem ps ps' → IsAfter g NoMore old new → Covers now (Cloud scope g ps old) (Cloud scope g ps' new)
covers_less scope g now ps ps' old new moved after death pdu has alive = elim (cloud_after scope g NoItem NoMore ps ps' old new death pdu moved after has) [
  | inl o ↦ (death, omega arith, o)
  | inr (inl n) ↦ absurd n.new
  | inr (inr n) ↦ absurd n.new
]

-- a copy that came is covered by what was sent: of the cubes below this needs that each entry is born in time, and no
-- more
pub come_covered : (g : Config) (below : Seen) (death : ℕ) (pdu : Pdu) → AreKept below → ((port : Port) (e : End) → end_of below port ≡ Some e → IsMine g.members e.app → IsMine g.members e.peer) → IsCome g below death pdu → (older : ℕ) × (death ≤ older) × IsOnWay Everywhere g below older pdu
come_covered g below death pdu kept closed c =
    let m = met below c.port c.end c.at c.entry kept c.here c.is_entry in
    let peer = closed c.port c.end c.here c.mine in
    let time : c.entry.tick ≤ m.born.source.tick + m.promise = m.born.in_time in
    let dies : death ≡ c.entry.tick + c.hop.left = c.dies in (
      m.born.source.tick + m.promise + c.hop.left,
      omega arith,
      record {
        port = m.its_port;
        within = tt;
        end = m.other;
        here = m.here;
        mine = subst (IsMine g.members) m.named.peer peer;
        promise = m.promise;
        promised = m.its_promise;
        at = m.born.place;
        entry = m.born.source;
        is_entry = m.born.is_place.is_source.stands;
        hop = c.hop;
        opens = subst (λ (bytes : List ℕ). opened g.widths bytes ≡ Some c.hop) m.born.bytes c.opens;
        dies = refl;
        is = c.is;
      },
    )

-- so the whole cloud is covered
pub whole_covered : (g : Config) (now : ℕ) (ps : List Process) (below : Seen) → AreKept below → ((port : Port) (e : End) → end_of below port ≡ Some e → IsMine g.members e.app → IsMine g.members e.peer) → Covers now (Cloud Everywhere g ps below) (WholeCloud g ps below)
whole_covered g now ps below kept closed death pdu (inl c) alive = (death, omega arith, c)
whole_covered g now ps below kept closed death pdu (inr c) alive = (let o = come_covered g below death pdu kept closed c in (o.0, o.1, inr o.2))
