-- What of standing a call keeps whatever it does, and what is left to show.
use Rattle.std.proofs.Common.{◌≡◌, ℕ, ◌≤◌, List, [], ◌∷◌, length, slice_get, Some, sym, ◌∙◌, subst, arith, inl, inr, ◌⊎◌}
use Rattle.rina_base.specs.declared.number.Port.{Port}
use Rattle.rina_iface.specs.declared.ask.Registered.{Registered}
use Rattle.rina_iface.specs.declared.ends.End.{End}
use Rattle.rina_iface.specs.Journal.{HasPorts}
use Rattle.rina_iface.specs.Seen.{Seen, end_of}
use Rattle.rina_law.specs.declared.entry.Entry.{Entry}
use Rattle.rina_law.specs.Direction.{Direction}
use Rattle.rina_queue.specs.declared.queue.Queued.{Queued}
use Rattle.rina_ids.specs.Members.{CepIds}
use Rattle.rina_dif_law.specs.Cloud.{Cloud, Everywhere, IsMine}
use Rattle.rina_data.specs.declared.link.Link.{Link}
use Rattle.rina_data.specs.Configs.{Config}
use Rattle.rina_dif_law.specs.Dif.{DifSeen, fac_of}
use Rattle.rina_dif_law.specs.Ids.{Ids}
use Rattle.rina_data.specs.Process.{Process}
use Rattle.rina_dif_law.specs.Standing.{HasLink, IsInside, IsItem, IsJournal, IsLinked, IsOwn, IsSpelled, IsStanding}
use Rattle.rina_dif_law.proofs.After.{IsAfter, back}
use Rattle.rina_dif_law.proofs.Clouds.{Requeued}

none_in : {X : Type 0} (xs : List X) (i : ℕ) (x : X) → xs ≡ [] → slice_get xs i ≡ Some x → ⊥
none_in [] i x e h = cc
none_in (y ∷ ys) i x e h = cc

module _ (d : DifSeen) (lines : List Direction) (more : Port → Entry → Type 0) (below below' : Seen) (st : IsStanding d lines below) (after : IsAfter d.config more below below') where
  linked_kept : (name : List ℕ) (port : Port) → IsLinked below name port → IsLinked below' name port
  linked_kept name port l =
      let f = after.forth port l.end l.here in
      record { end = f.0; here = f.1; app = f.2.app ∙ l.app }

  pub inside_kept : (port : Port) (e : End) → end_of below' port ≡ Some e → IsMine d.config.members e.app ⊎ IsMine d.config.members e.peer → IsInside d.config below' port e
  inside_kept port e h mine = elim (back d.config more below below' after port e h) [
    | inl b ↦
        let mine' : IsMine d.config.members b.0.app ⊎ IsMine d.config.members b.0.peer = elim mine [
          | inl m ↦ inl (subst (IsMine d.config.members) b.2.app m)
          | inr m ↦ inr (subst (IsMine d.config.members) b.2.peer m)
        ] in
        let i = st.inside port b.0 b.1 mine' in
        record { app = subst (IsMine d.config.members) (sym b.2.app) i.app; peer = subst (IsMine d.config.members) (sym b.2.peer) i.peer; largest = i.largest; is_largest = b.2.largest ∙ i.is_largest; whole = i.whole }
    | inr none ↦ (after.fresh port e h none mine).1
  ]

  spelled_kept : ((port : Port) (x : Entry) → more port x → IsSpelled d.config x.bytes) → (port : Port) (e : End) (j : ℕ) (x : Entry) → end_of below' port ≡ Some e → IsMine d.config.members e.app → slice_get e.sent j ≡ Some x → IsSpelled d.config x.bytes
  spelled_kept news port e j x h mine is = elim (back d.config more below below' after port e h) [
    | inl b ↦ elim (after.sent port b.0 e j x b.1 h mine is) [
      | inl o ↦ st.spelled port b.0 j x b.1 (subst (IsMine d.config.members) b.2.app mine) o
      | inr n ↦ news port x n
    ]
    | inr none ↦ absurd (none_in e.sent j x ((after.fresh port e h none (inl mine)).0) is)
  ]

item_later : (g : Config) (now later : ℕ) (item : Queued) → now ≤ later → IsItem g now item → IsItem g later item
item_later g now later item le h = (let past = h.past in record { fit = h.fit; past = omega arith; left = h.left })

-- a DIF stands after a call, where its clock, its IPC processes, its journal and the CEP-ids of its members changed
pub stands_held : (d : DifSeen) (lines lines' : List Direction) (more : Port → Entry → Type 0) (items : ℕ → ℕ → Queued → Type 0) (below below' : Seen) (clock : ℕ) (processes : List Process) (ends : List End) (held : List CepIds) → IsStanding d lines below → IsAfter d.config more below below'
    → clock ≡ below'.now → d.clock ≤ clock → length processes ≡ length d.processes → Requeued items d.processes processes → ((i : ℕ) (l : Link) → HasLink processes i l → HasLink d.processes i l)
    → ((port : Port) (x : Entry) → more port x → IsSpelled d.config x.bytes) → ((i n : ℕ) (item : Queued) → items i n item → IsItem d.config clock item)
    → IsJournal clock ends → HasPorts d.config.fac (fac_of (record d { clock = clock; processes = processes; ends = ends })) → IsOwn d.config clock (Cloud Everywhere d.config processes below') held ends d.conns lines'
    → IsStanding (record d { clock = clock; processes = processes; ends = ends; ids = held }) lines' below'
stands_held d lines lines' more items below below' clock processes ends held st after is le alike moved links spelled fit journal ports own = record {
  config = st.config;
  clock = is;
  aligned = alike ∙ st.aligned;
  linked = λ i member link m h. linked_kept d lines more below below' st after member.name link.port (st.linked i member link m (links i link h));
  inside = inside_kept d lines more below below' st after;
  spelled = spelled_kept d lines more below below' st after spelled;
  items = λ i n item w. elim (moved i n item w) [
    | inl o ↦ item_later d.config d.clock clock item le (st.items i n item o)
    | inr m ↦ fit i n item m
  ];
  journal = journal;
  ports = ports;
  own = own;
}

-- where the CEP-ids did not change
pub stands_with : (d : DifSeen) (lines lines' : List Direction) (more : Port → Entry → Type 0) (items : ℕ → ℕ → Queued → Type 0) (below below' : Seen) (clock : ℕ) (processes : List Process) (ends : List End) → IsStanding d lines below → IsAfter d.config more below below'
    → clock ≡ below'.now → d.clock ≤ clock → length processes ≡ length d.processes → Requeued items d.processes processes → ((i : ℕ) (l : Link) → HasLink processes i l → HasLink d.processes i l)
    → ((port : Port) (x : Entry) → more port x → IsSpelled d.config x.bytes) → ((i n : ℕ) (item : Queued) → items i n item → IsItem d.config clock item)
    → IsJournal clock ends → HasPorts d.config.fac (fac_of (record d { clock = clock; processes = processes; ends = ends })) → IsOwn d.config clock (Cloud Everywhere d.config processes below') d.ids ends d.conns lines'
    → IsStanding (record d { clock = clock; processes = processes; ends = ends }) lines' below'
stands_with d lines lines' more items below below' clock processes ends st after is le alike moved links spelled fit journal ports own = stands_held d lines lines' more items below below' clock processes ends d.ids st after is le alike moved links spelled fit journal ports own

-- where the own flows changed, and nothing else
pub stands_own : (d : DifSeen) (lines lines' : List Direction) (below : Seen) (ends : List End) (conns : List Ids) (held : List CepIds) (waiting : List ℕ) (names : List Registered) → IsStanding d lines below → IsJournal d.clock ends → HasPorts d.config.fac (fac_of (record d { ends = ends })) → IsOwn d.config d.clock (Cloud Everywhere d.config d.processes below) held ends conns lines'
    → IsStanding (record d { ends = ends; conns = conns; ids = held; waiting = waiting; names = names }) lines' below
stands_own d lines lines' below ends conns held waiting names st journal ports own = record {
  config = st.config;
  clock = st.clock;
  aligned = st.aligned;
  linked = st.linked;
  inside = st.inside;
  spelled = st.spelled;
  items = st.items;
  journal = journal;
  ports = record { own = ports.own; apart = ports.apart; drawn = ports.drawn };
  own = own;
}
