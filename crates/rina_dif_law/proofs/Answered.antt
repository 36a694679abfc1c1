-- A DIF that stands goes on to stand as the answer comes to an asker that waits.
use Rattle.std.proofs.Common.{◌≡◌, ◌≢◌, ℕ, Bool, true, false, List, [], length, length-set, ◌++◌, slice_get, slice_set, Some, None, Option, refl, sym, ◌∙◌, ap, subst, inl, inr, ◌⊎◌}
use Rattle.std.proofs.lemmas.Bool.{cases_eq}
use Rattle.std.proofs.lemmas.Option.{none-some, same_Some}
use Rattle.rina_base.specs.declared.number.Key.{Key}
use Rattle.rina_base.specs.declared.pdu.Pdu.{Pdu}
use Rattle.rina_iface.specs.declared.ends.End.{End}
use Rattle.rina_iface.specs.declared.state.PortState.{PortState}
use Rattle.rina_iface.specs.declared.state.PortState.TheVariants.{Allocated}
use Rattle.rina_iface.specs.Journal.{HasPartner, IsPartner, IsWhole}
use Rattle.rina_iface.specs.Later.{Moves}
use Rattle.rina_iface.specs.Seen.{Seen}
use Rattle.rina_iface.proofs.Changed.{set_at, slice_get-set_other, slice_get-set_same}
use Rattle.rina_iface.proofs.Later.{end_restated, ends_set}
use Rattle.rina_law.specs.declared.entry.Entry.{Entry}
use Rattle.rina_law.specs.Constants.{Constants}
use Rattle.rina_law.specs.Direction.{Direction, Inbox}
use Rattle.rina_law.specs.Lists.{In}
use Rattle.rina_law.specs.Pieces.{Joiner}
use Rattle.rina_law.specs.Receiver.{Piece, Receiver, numbers}
use Rattle.rina_rest.specs.Flows.{Asker, Endpoint, Far, Flow, Side}
use Rattle.rina_rest.specs.Ledger.{put, told_flow}
use Rattle.rina_rest.specs.Naming.{Naming}
use Rattle.rina_rest.specs.Still.{IsUntaken}
use Rattle.rina_rest.proofs.Keeping.{tell_keeps_slots}
use Rattle.rina_data.specs.Configs.{Config, cube_by, piece_size}
use Rattle.rina_dif_law.specs.Accounted.{IsAccounted, Resends, counts_of, held_in, inbound_of, kept_by, made_by, total}
use Rattle.rina_dif_law.specs.Answering.{IsAnsweredTo, with_far_cep}
use Rattle.rina_dif_law.specs.Carried.{AreJoined, HasCome, HoldsCome, IsCarrying}
use Rattle.rina_dif_law.specs.CepIds.{AreHeld}
use Rattle.rina_dif_law.specs.Cloud.{Cloud, Everywhere}
use Rattle.rina_dif_law.specs.Counting.{held_numbers, numbers_from, times}
use Rattle.rina_dif_law.specs.Dif.{DifSeen, constants, fac_of}
use Rattle.rina_dif_law.specs.Ids.{Ids}
use Rattle.rina_dif_law.specs.Numbered.{IsAddressed, IsNumbered}
use Rattle.rina_dif_law.specs.Places.{IsEndOf, IsUp, Knows, Place, ids_from}
use Rattle.rina_dif_law.specs.Standing.{IsConn, IsOfFlow, IsOwn, IsStanding, IsUntold}
use Rattle.rina_dif_law.specs.Upward.{IsSilent}
use Rattle.rina_dif_law.proofs.Balancing.{accounted_on, moved_same}
use Rattle.rina_dif_law.proofs.Finding.{beside}
use Rattle.rina_dif_law.proofs.Finishing.{restated_silent}
use Rattle.rina_dif_law.proofs.Founding.{nothing_kept}
use Rattle.rina_dif_law.proofs.Frame.{stands_own}
use Rattle.rina_dif_law.proofs.Joined.{none_joined}
use Rattle.rina_dif_law.proofs.Journals.{IsConst, const_refl, journal_set, partner_was, ports_set, was_end}
use Rattle.rina_dif_law.proofs.Numbering.{numbered_with}
use Rattle.rina_dif_law.proofs.Own.{end_of_flow, far_end_of_flow, has_far, one_partner, partner_back}
use Rattle.rina_dif_law.proofs.OwnTold.{IsAnswered, own_told}
use Rattle.rina_dif_law.proofs.Placed.{opposite, side_same}
use Rattle.rina_dif_law.proofs.Tallies.{IsEndChanged, end_changed, inbound_at, inbound_stays, kept_elsewhere, kept_in, made_in}
use Rattle.rina_dif_law.proofs.Totals.{total_same}

-- an end that does not know the other one is an asker's, which was not told
asker_side : (s : Side) (f : Flow) → (Knows s f → ⊥) → s ≡ Asker
asker_side Asker f none = refl
asker_side Far f none = absurd (none tt)

not_true : (b : Bool) → (b ≡ true → ⊥) → b ≡ false
not_true true none = absurd (none refl)
not_true false none = refl

-- where nothing was taken nothing is held, and all that is held has come
untaken_come : (g : Config) (now : ℕ) (below : Seen) (ids : Ids) (k : Constants) (l : Direction) → IsUntaken k l → HoldsCome g now below ids l
untaken_come g now below ids k l u =
    let none : (p : Piece) → In p l.line.receiver.held → ⊥ = λ p x. subst (λ (r : Receiver). In p r.held) u.receiver x in
    record {
      joined = subst (λ (j : Joiner). AreJoined (piece_size g) (HasCome g below ids now) j) (sym (ap (λ (z : Inbox). z.joiner) u.inbox)) (none_joined (piece_size g) (HasCome g below ids now));
      held = λ p x. absurd (none p x);
      sized = λ p x. absurd (none p x);
    }

untaken_empty : (k : Constants) (l : Direction) (n : ℕ) → IsUntaken k l → times n (held_numbers l) ≡ 0
untaken_empty k l n u = ap (λ (z : Inbox). times n (numbers_from z.joiner.from z.joiner.count ++ numbers l.line.receiver.held)) u.inbox ∙ ap (λ (r : Receiver). times n (numbers r.held)) u.receiver

module _ (d : DifSeen) (lines : List Direction) (below : Seen) (st : IsStanding d lines below) (n : IsNumbered d below) (at : ℕ) (d' : DifSeen) (s : IsAnsweredTo d at d') where
  abbrev e : End
  e = s.asker

  abbrev e' : End
  e' = record e { state = Allocated }

  abbrev ids : Ids
  ids = with_far_cep s.ids s.far_ids.scep

  abbrev ends' : List End
  ends' = slice_set d.ends at e'

  abbrev conns' : List Ids
  conns' = slice_set d.conns at ids

  abbrev cloud : ℕ → Pdu → Type 0
  cloud = Cloud Everywhere d.config d.processes below

  abbrev new : DifSeen
  new = record d { ends = ends'; conns = conns' }

  const : IsConst e e'
  const = record { flow = refl; role = refl; port = refl; app = refl; peer = refl; cube = refl }

  has_partner : HasPartner d.ends e
  has_partner = record { place = s.far_at; other = s.far; stands = s.is_far.end; partner = s.partners }

  -- ---- the ledger of the flows

  abbrev x : (x : Place) × (slice_get st.own.places at ≡ Some x)
  x = beside d.ends st.own.places at e st.own.entered.places_alike s.is_conn.end

  record IsItsFlow : Type 0 where
    flow : Flow
    stands : slice_get st.own.flows x.0.flow ≡ Some flow
    side : x.0.side ≡ Asker
    end : IsEndOf flow Asker e s.ids
    far : Endpoint
    known : flow.far ≡ Some far

  its_flow : IsItsFlow
  its_flow =
      let m = st.own.entered.each at e s.ids x.0 s.is_conn x.1 in
      let side : x.0.side ≡ Asker = asker_side x.0.side m.flow (m.end.waits s.waits) in
      let far = has_far d.config d.clock cloud d.ids d.ends d.conns lines st.own at s.far_at e s.far x.0 m.flow s.is_conn.end s.is_far.end s.partners x.1 m.stands in
      record { flow = m.flow; stands = m.stands; side = side; end = subst (λ (z : Side). IsEndOf m.flow z e s.ids) side m.end; far = far.0; known = far.1 }

  abbrev flow : Flow
  flow = its_flow.flow

  abbrev comes : IsAnswered d.ends st.own.flows st.own.places at e
  comes = record { here = s.is_conn.end; waits = s.waits; x = x.0; is_x = x.1; side = its_flow.side; flow = flow; stands = its_flow.stands; far = its_flow.far; known = its_flow.known }

  untold : flow.told ≡ false
  untold = not_true flow.told (its_flow.end.waits s.waits)

  point_is : flow.asker ≡ its_flow.end.point
  point_is = same_Some flow.asker its_flow.end.point its_flow.end.is

  asker_up : flow.asker.ended ≡ None
  asker_up = ap (λ (p : Endpoint). p.ended) point_is ∙ its_flow.end.up (subst IsUp (sym s.waits) tt)

  -- the far end of the ledger is the one that answered
  far_end : IsEndOf flow Far s.far s.far_ids
  far_end =
      let m = far_end_of_flow d.config d.clock cloud d.ids d.ends d.conns lines st.own at s.far_at e s.far s.far_ids x.0 flow s.is_conn.end s.is_far s.partners x.1 its_flow.stands in
      subst (λ (z : Side). IsEndOf flow z s.far s.far_ids) (opposite_is x.0.side its_flow.side) m
    where
      opposite_is : (side : Side) → side ≡ Asker → opposite side ≡ Far
      opposite_is Asker is = refl
      opposite_is Far is = absurd (let clash : Far ≡ Asker = is in cc)

  far_point : its_flow.far ≡ far_end.point
  far_point = same_Some its_flow.far far_end.point (sym its_flow.known ∙ far_end.is)

  -- so the asker knows the ids of its connection
  ids_are : ids_from Asker flow its_flow.far e.cube ≡ ids
  ids_are =
      let own : s.ids.own ≡ flow.asker.addr = its_flow.end.own ∙ ap (λ (p : Endpoint). p.addr) (sym point_is) in
      let far : s.ids.far ≡ its_flow.far.addr = its_flow.end.far ∙ sym ((st.own.ledger.flow x.0.flow flow its_flow.stands).there its_flow.far its_flow.known) in
      let scep : s.ids.scep ≡ flow.asker.cep = its_flow.end.scep ∙ ap (λ (p : Endpoint). p.cep) (sym point_is) in
      let dcep : s.far_ids.scep ≡ its_flow.far.cep = far_end.scep ∙ ap (λ (p : Endpoint). p.cep) (sym far_point) in
      let qos : s.ids.qos ≡ e.cube = (st.own.ids at e s.ids s.is_conn).qos in
      cc

  told_own : IsOwn d.config d.clock cloud d.ids ends' conns' lines
  told_own =
      let kept : AreHeld d.config d.clock (put x.0.flow (told_flow flow) st.own.flows) d.ids = λ i member held is_member are_held.
      tell_keeps_slots d.clock st.own.flows (Naming (IsOfFlow d.config) cloud) x.0.flow flow member.addr held.1 st.own.ledger its_flow.stands asker_up untold (λ none. none-some its_flow.far (sym none ∙ its_flow.known)) (st.own.kept i member held is_member are_held) in
      subst (λ (c : Ids). IsOwn d.config d.clock cloud d.ids ends' (slice_set d.conns at c) lines) ids_are (own_told d.config d.clock cloud d.ids d.ends d.conns lines st.own at e comes kept)

  told_standing : IsStanding new lines below
  told_standing =
      let was = st.journal.whole at e s.is_conn.end in
      let whole : IsWhole d.clock e' = record { sent = was.sent; got = was.got; taken = was.taken } in
      stands_own d lines lines below ends' conns' d.ids d.waiting d.names st
      (journal_set d.ends at e e' s.is_conn.end const d.clock st.journal whole (λ is. has_partner) (λ j y h. has_partner))
      (ports_set d.ends at e e' s.is_conn.end const d.config.fac (fac_of d) (fac_of (record d { ends = ends' })) refl refl st.ports)
      told_own

  -- ---- the direction in which the asker receives

  abbrev line : (l : Direction) × (slice_get lines s.far_at ≡ Some l)
  line = beside d.ends lines s.far_at s.far st.own.lines_alike s.is_far.end

  -- nothing was taken of it
  record IsIdle : Type 0 where
    k : Constants
    untaken : IsUntaken k line.0
    got : e.got ≡ []

  idle : IsIdle
  idle =
      let y = beside d.ends st.own.places s.far_at s.far st.own.entered.places_alike s.is_far.end in
      let p = partner_back e s.far s.partners in
      let same : y.0.flow ≡ x.0.flow = st.own.entered.apart s.far_at at s.far e y.0 x.0 s.is_far.end s.is_conn.end y.1 x.1 s.partners.same_flow in
      let stands : slice_get st.own.flows y.0.flow ≡ Some flow = subst (λ (m : ℕ). slice_get st.own.flows m ≡ Some flow) (sym same) its_flow.stands in
      let m = end_of_flow d.config d.clock cloud d.ids d.ends d.conns lines st.own s.far_at s.far s.far_ids y.0 flow s.is_far y.1 stands in
      let side : y.0.side ≡ Far = side_same y.0.side Far (sym m.role ∙ far_end.role) in
      let h = st.own.flows_are s.far_at at s.far e y.0 flow its_flow.far line.0 s.is_far.end s.is_conn.end p y.1 stands its_flow.known line.1 in
      let k : Constants = constants d.config h.direction.cube (ids_from y.0.side flow its_flow.far s.far.cube) in
      let waits : IsUntold k Far flow line.0 = subst (λ (z : Side). IsUntold k z flow line.0) side h.untold in
      let untaken = waits untold in
      record { k = k; untaken = untaken; got = sym h.direction.got ∙ ap (λ (z : Inbox). z.got) untaken.inbox }

  asker_holds : (k : ℕ) → held_in (inbound_of d.ends lines e) k ≡ 0
  asker_holds k = ap (λ (o : Option Direction). held_in o k) (inbound_at d.clock d.ends st.journal s.far_at s.far e s.is_far.end (partner_back e s.far s.partners) lines line.0 line.1) ∙ untaken_empty idle.k line.0 k idle.untaken

  change : IsEndChanged d.ends ends' at e e'
  change = end_changed d.ends at e e' s.is_conn.end refl refl

  still_holds : (k : ℕ) → held_in (inbound_of ends' lines e') k ≡ 0
  still_holds k = ap (λ (o : Option Direction). held_in o k) (inbound_stays d.ends ends' at e e' lines change) ∙ asker_holds k

  -- ---- connections

  -- an end of the journal is the asker's, or was there with these ids
  conn_cases : (i : ℕ) (a : End) (c : Ids) → IsConn ends' conns' i a c → ((i ≡ at) × (a ≡ e') × (c ≡ ids)) ⊎ ((i ≢ at) × IsConn d.ends d.conns i a c)
  conn_cases i a c h = elim (set_at d.ends at i e e' a s.is_conn.end h.end) [
    | inl t ↦ elim (set_at d.conns at i s.ids ids c s.is_conn.ids_are h.ids_are) [
      | inl u ↦ inl (t.0, t.1, u.1)
      | inr o ↦ absurd (o.0 t.0)
    ]
    | inr o ↦ elim (set_at d.conns at i s.ids ids c s.is_conn.ids_are h.ids_are) [
      | inl u ↦ absurd (o.0 u.0)
      | inr p ↦ inr (o.0, record { end = o.1; ids_are = p.1 })
    ]
  ]

  told_carrying : IsCarrying d lines below → IsCarrying new lines below
  told_carrying c = record {
    entries = λ i j a g y conn got. elim (conn_cases i a g conn) [
      | inl t ↦ absurd (let none : slice_get [] j ≡ Some y = ap (λ (es : List Entry). slice_get es j) (sym idle.got) ∙ ap (λ (z : End). slice_get z.got j) (sym t.1) ∙ got in cc)
      | inr o ↦ c.entries i j a g y o.1 got
    ];
    holding = λ i from a g l conn h.
        (let o = was_end d.ends at e e' s.is_conn.end const from h.partner h.is_partner in
        elim (conn_cases i a g conn) [
          | inl t ↦
              (let back : IsPartner o.0 e = partner_was o.0 e h.partner e' o.2 const (subst (λ (z : End). IsPartner h.partner z) t.1 h.partners) in
              let same : from ≡ s.far_at = one_partner d.clock d.ends from s.far_at o.0 s.far e st.journal o.1 s.is_far.end back (partner_back e s.far s.partners) in
              let l_is : l ≡ line.0 = (let here = subst (λ (m : ℕ). slice_get lines m ≡ Some l) same h.is_line in let there = line.1 in cc) in
              subst (HoldsCome d.config d.clock below g) (sym l_is) (untaken_come d.config d.clock below g idle.k line.0 idle.untaken))
          | inr p ↦ c.holding i from a g l p.1 (record { partner = o.0; is_partner = o.1; partners = partner_was o.0 a h.partner a o.2 (const_refl a) h.partners; is_line = h.is_line })
        ]);
  }

  -- where a connection was there, there is one with its own address and CEP-id
  record IsStill (place : ℕ) (c : Ids) : Type 0 where
    ids : Ids
    stands : slice_get conns' place ≡ Some ids
    own : ids.own ≡ c.own
    scep : ids.scep ≡ c.scep
    qos : ids.qos ≡ c.qos

  still_there : (place : ℕ) (c : Ids) → slice_get d.conns place ≡ Some c → IsStill place c
  still_there place c is = elim (cases_eq place at) [
    | inl same ↦
        (let c_is : c ≡ s.ids = (let l = subst (λ (m : ℕ). slice_get d.conns m ≡ Some c) same is in let r = s.is_conn.ids_are in cc) in
        record {
          ids = ids;
          stands = subst (λ (m : ℕ). slice_get conns' m ≡ Some ids) (sym same) (slice_get-set_same d.conns at s.ids ids s.is_conn.ids_are);
          own = ap (λ (z : Ids). z.own) (sym c_is);
          scep = ap (λ (z : Ids). z.scep) (sym c_is);
          qos = ap (λ (z : Ids). z.qos) (sym c_is);
        })
    | inr ne ↦ record { ids = c; stands = slice_get-set_other d.conns at place ids ne ∙ is; own = refl; scep = refl; qos = refl }
  ]

  told_numbered : IsNumbered new below
  told_numbered =
      let set = ends_set d.clock d.clock d.ends at e e' s.is_conn.end (end_restated d.clock d.clock e Allocated moves) in
      let old = numbered_with d d.clock d.processes ends' below below n set (length-set d.ends at e') n.named in
      record {
        members = n.members;
        addressed = λ i a g conn. elim (conn_cases i a g conn) [
          | inl t ↦ rw (t.1, t.2) (its_address (n.addressed at e s.ids s.is_conn))
          | inr o ↦ n.addressed i a g o.1
        ];
        counted = old.counted;
        drawn = old.drawn;
        named = λ death pdu y. elim (n.named death pdu y) [
          | inl none ↦ inl none
          | inr of ↦ (let c = still_there of.at of.ids of.stands in inr (record { at = of.at; ids = c.ids; stands = c.stands; src = of.src ∙ sym c.own; scep = of.scep ∙ sym c.scep }))
        ];
      }
    where
      moves : Moves e.state Allocated
      moves = subst (λ (z : PortState). Moves z Allocated) (sym s.waits) tt

      its_address : IsAddressed d.config e s.ids → IsAddressed d.config e' ids
      its_address a = record { place = a.place; member = a.member; at_home = a.at_home; stands = a.stands; addr = a.addr }

  -- ---- the account

  told_made : (size addr : ℕ) (k : Key) → total (length ends') (made_in size conns' addr k ends') ≡ total (length d.ends) (made_in size d.conns addr k d.ends)
  told_made size addr k = ap (λ (m : ℕ). total m (made_in size conns' addr k ends')) (length-set d.ends at e') ∙ total_same (length d.ends) (made_in size conns' addr k ends') (made_in size d.conns addr k d.ends) (λ j low. elim (cases_eq j at) [
    | inl same ↦ subst (λ (m : ℕ). made_in size conns' addr k ends' m ≡ made_in size d.conns addr k d.ends m) (sym same)
        (ap (λ (o : Option End). made_by size addr k o (slice_get conns' at)) change.new ∙ ap (made_by size addr k (Some e')) (slice_get-set_same d.conns at s.ids ids s.is_conn.ids_are)
        ∙ sym (ap (λ (o : Option End). made_by size addr k o (slice_get d.conns at)) s.is_conn.end ∙ ap (made_by size addr k (Some e)) s.is_conn.ids_are))
    | inr ne ↦ ap (λ (o : Option End). made_by size addr k o (slice_get conns' j)) (change.others j ne) ∙ ap (made_by size addr k (slice_get d.ends j)) (slice_get-set_other d.conns at j ids ne)
  ])

  told_kept : (size addr : ℕ) (k : Key) → total (length ends') (kept_in size conns' lines addr k ends') ≡ total (length d.ends) (kept_in size d.conns lines addr k d.ends)
  told_kept size addr k = ap (λ (m : ℕ). total m (kept_in size conns' lines addr k ends')) (length-set d.ends at e') ∙ total_same (length d.ends) (kept_in size conns' lines addr k ends') (kept_in size d.conns lines addr k d.ends) (λ j low. elim (cases_eq j at) [
    | inl same ↦ subst (λ (m : ℕ). kept_in size conns' lines addr k ends' m ≡ kept_in size d.conns lines addr k d.ends m) (sym same)
        (ap (λ (o : Option End). kept_by size ends' lines addr k o (slice_get conns' at)) change.new ∙ nothing_kept size ends' lines addr k e' (slice_get conns' at) idle.got (still_holds k.seq)
        ∙ sym (ap (λ (o : Option End). kept_by size d.ends lines addr k o (slice_get d.conns at)) s.is_conn.end ∙ nothing_kept size d.ends lines addr k e (slice_get d.conns at) idle.got (asker_holds k.seq)))
    | inr ne ↦ ap (kept_by size ends' lines addr k (slice_get ends' j)) (slice_get-set_other d.conns at j ids ne) ∙ kept_elsewhere size d.conns lines lines addr k d.ends ends' at e e' change (λ i a other is. refl) j ne
  ])

  told_account : IsAccounted d lines below → IsAccounted new lines below
  told_account a =
      let size : ℕ = piece_size d.config in
      accounted_on d new lines lines below below a a.passed
      (λ i c is. elim (set_at d.conns at i s.ids ids c s.is_conn.ids_are is) [
        | inl t ↦ λ same. a.apart at s.ids s.is_conn.ids_are (ap (λ (z : Ids). z.own) (sym t.1) ∙ same ∙ ap (λ (z : Ids). z.far) t.1)
        | inr o ↦ a.apart i c o.1
      ])
      (λ i m p k is. record {
        process = p;
        is_process = record { is_member = is.is_member; is_process = is.is_process };
        resends = λ r. (let c = still_there r.place r.ids r.stands in record { place = r.place; ids = c.ids; stands = c.stands; own = c.own ∙ r.own; scep = c.scep ∙ r.scep; cube = r.cube; is_cube = ap (λ (q : ℕ). cube_by q d.config.cubes) c.qos ∙ r.is_cube; reliable = r.reliable });
        moved = moved_same m.addr k (Resends new m.addr k.scep) (counts_of d lines below m p k) (counts_of new lines below m p k) (record { taken = refl; relayed = refl; gone = refl; made = told_made size m.addr k; kept = told_kept size m.addr k });
      })

  pub told_stands : IsStanding d' lines below
  told_stands = rw s.new_is told_standing

  pub told_carries : IsCarrying d lines below → IsCarrying d' lines below
  told_carries c = rw s.new_is (told_carrying c)

  pub told_numbers : IsNumbered d' below
  told_numbers = rw s.new_is told_numbered

  pub told_accounted : IsAccounted d lines below → IsAccounted d' lines below
  told_accounted a = rw s.new_is (told_account a)

pub told_silent : (d : DifSeen) (at : ℕ) (d' : DifSeen) → IsAnsweredTo d at d' → IsSilent d d'
told_silent d at d' s = subst (IsSilent d) (sym s.new_is) (restated_silent d at s.asker Allocated (slice_set d.conns at (with_far_cep s.ids s.far_ids.scep)) d.processes d.ids s.is_conn.end (subst (λ (z : PortState). Moves z Allocated) (sym s.waits) tt))
