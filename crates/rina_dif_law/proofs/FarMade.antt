-- A DIF that stands goes on to stand as a member makes the far end of a flow that was asked for there.
use Rattle.std.proofs.Common.{◌≡◌, ◌≢◌, ℕ, ◌+◌, ◌*◌, ◌<◌, ◌&&◌, cond, eqb, List, [], ◌∷◌, ◌++◌, get_or, length, length-set, slice_get, slice_set, None, Option, Some, option_and_then, refl, sym, ◌∙◌, ap, subst, arith, inl, inr, ◌⊎◌}
use Rattle.std.specs.Prelude.{position}
use Rattle.std.proofs.lemmas.Bool.{cases_eq}
use Rattle.std.proofs.lemmas.List.Quantifiers.{position-Some}
use Rattle.std.proofs.lemmas.Option.{get_or_from_slice_get, same_Some, slice_get_within}
use Rattle.rina_base.specs.declared.number.Key.{Key}
use Rattle.rina_base.specs.declared.pdu.Pdu.{Pdu}
use Rattle.rina_cube.specs.declared.Cube.{Cube}
use Rattle.rina_cube.specs.Cubes.{delta_of}
use Rattle.rina_iface.specs.declared.ends.End.{End}
use Rattle.rina_iface.specs.declared.state.PortState.TheVariants.{Allocated}
use Rattle.rina_iface.specs.declared.state.Role.{Role}
use Rattle.rina_iface.specs.declared.state.Role.TheVariants.{Asker, Far}
use Rattle.rina_iface.specs.Journal.{At, HasPartner, HasPorts, IsPartner, IsWhole}
use Rattle.rina_iface.specs.Later.{AreFarOf, IsFarOf, IsLaterFac}
use Rattle.rina_iface.specs.Seen.{Seen}
use Rattle.rina_iface.proofs.Changed.{set_at, slice_get-set_other, slice_get-set_same}
use Rattle.rina_iface.proofs.Grown.{dated_none, still_at}
use Rattle.rina_iface.proofs.Later.{ends_more}
use Rattle.rina_law.specs.declared.entry.Entry.{Entry}
use Rattle.rina_law.specs.Direction.{Direction, start}
use Rattle.rina_ids.specs.Members.{CepIds, with_drawn}
use Rattle.rina_rest.specs.Flows.{Asker as AskerSide, Endpoint, Far as FarSide, Flow, IsFree, Side}
use Rattle.rina_rest.specs.Naming.{Naming}
use Rattle.rina_data.specs.Configs.{cube_by, piece_size}
use Rattle.rina_dif_law.specs.Accounted.{IsAccounted, Resends, counts_of, held_by, held_in, inbound_of, is_other, journal_numbers, kept_by}
use Rattle.rina_dif_law.specs.Answering.{IsFarMade, far_end_of, with_far_cep}
use Rattle.rina_dif_law.specs.Carried.{IsCarrying}
use Rattle.rina_dif_law.specs.Cloud.{Cloud, Everywhere}
use Rattle.rina_dif_law.specs.Counting.{times}
use Rattle.rina_dif_law.specs.Dif.{DifSeen, constants, fac_of}
use Rattle.rina_dif_law.specs.Ids.{Ids, flipped}
use Rattle.rina_dif_law.specs.Lifting.{ticked}
use Rattle.rina_dif_law.specs.Numbered.{IsAddressed, IsCounted, IsNumbered}
use Rattle.rina_dif_law.specs.Places.{IsEndOf, Place}
use Rattle.rina_dif_law.specs.Standing.{AreIds, IsConn, IsJournal, IsOfFlow, IsOwn, IsStanding}
use Rattle.rina_dif_law.specs.Start.{IsFresh}
use Rattle.rina_dif_law.specs.Upward.{IsSilent}
use Rattle.rina_dif_law.proofs.Accounting.{resends_on}
use Rattle.rina_dif_law.proofs.Appended.{by_one, fresh_one, kept_one, made_one, one_more, one_no_less, one_ports, still_counted, still_partner}
use Rattle.rina_dif_law.proofs.Balancing.{accounted_on, moved_same}
use Rattle.rina_dif_law.proofs.Binding.{nothing_come, test_passes}
use Rattle.rina_dif_law.proofs.Finding.{beside, cube_limits}
use Rattle.rina_dif_law.proofs.Founding.{fresh_empty, kept_longer, nothing_kept}
use Rattle.rina_dif_law.proofs.Frame.{stands_own}
use Rattle.rina_dif_law.proofs.HeldIds.{far_held, one_are_drawn, one_free}
use Rattle.rina_dif_law.proofs.Keepers.{none_got}
use Rattle.rina_dif_law.proofs.Lasts.{kept_beside, last_beside, one_at}
use Rattle.rina_dif_law.proofs.Own.{end_of_flow, partner_back}
use Rattle.rina_dif_law.proofs.OwnFar.{IsFarEnd, IsWaiting, own_far}
use Rattle.rina_dif_law.proofs.OwnMade.{IsBlank}
use Rattle.rina_dif_law.proofs.Placed.{side_same}
use Rattle.rina_dif_law.proofs.Tallies.{inbound_at, other_partner}

-- an asker's role, where it is not that of a far end
asker_role : (r : Role) → r ≢ Far → r ≡ Asker
asker_role Asker ne = refl
asker_role Far ne = absurd (ne refl)

-- the direction at the place of an end without a partner is one in which no end receives
alone_held : (ends : List End) (lines : List Direction) (at : ℕ) (e : End) (line' : Direction) (n : ℕ) → At ends at e → (HasPartner ends e → ⊥) → (j : ℕ) (a : End) → At ends j a → held_in (inbound_of ends (slice_set lines at line') a) n ≡ held_in (inbound_of ends lines a) n
alone_held ends lines at e line' n is_e alone j a is_a = go (position (is_other a) ends) refl
  where
    met : position (is_other a) ends ≡ Some at → ⊥
    met place =
        let there : get_or ends at e ≡ e = get_or_from_slice_get ends at e e is_e in
        let passes = ap (is_other a) (sym there) ∙ (position-Some (is_other a) ends at e place).1 in
        alone (record { place = j; other = a; stands = is_a; partner = partner_back a e (other_partner a e passes) })

    go : (o : Option ℕ) → position (is_other a) ends ≡ o → held_in (option_and_then (λ i. slice_get (slice_set lines at line') i) o) n ≡ held_in (option_and_then (λ i. slice_get lines i) o) n
    go None place = refl
    go (Some i) place = elim (cases_eq i at) [
      | inl same ↦ absurd (met (place ∙ ap (λ (m : ℕ). Some m) same))
      | inr ne ↦ ap (λ (o : Option Direction). held_in o n) (slice_get-set_other lines at i line' ne)
    ]

-- so what each end keeps stays the same
alone_kept : (size : ℕ) (ends : List End) (lines : List Direction) (at : ℕ) (e : End) (line' : Direction) (addr : ℕ) (k : Key) → At ends at e → (HasPartner ends e → ⊥) → (j : ℕ) (o : Option End) (i : Option Ids) → slice_get ends j ≡ o → kept_by size ends (slice_set lines at line') addr k o i ≡ kept_by size ends lines addr k o i
alone_kept size ends lines at e line' addr k is_e alone j None i is = refl
alone_kept size ends lines at e line' addr k is_e alone j (Some a) None is = refl
alone_kept size ends lines at e line' addr k is_e alone j (Some a) (Some c) is = ap (λ (n : ℕ). cond ((eqb c.own addr && eqb c.far k.src) && eqb c.dcep k.scep) (times k.seq (journal_numbers size a.got) + held_by a.state n) 0) (alone_held ends lines at e line' k.seq is_e alone j a is)

module _ (d : DifSeen) (lines : List Direction) (below : Seen) (st : IsStanding d lines below) (n : IsNumbered d below) (node at : ℕ) (d' : DifSeen) (lines' : List Direction) (s : IsFarMade d lines node at d' lines') where
  abbrev e : End
  e = s.asker

  abbrev far : End
  far = far_end_of d node e

  abbrev ids : Ids
  ids = flipped (with_far_cep s.ids s.cep)

  abbrev ends' : List End
  ends' = d.ends ++ far ∷ []

  abbrev conns' : List Ids
  conns' = d.conns ++ ids ∷ []

  abbrev held' : List CepIds
  held' = with_drawn s.place s.draws.ids s.cep d.ids

  abbrev lines'' : List Direction
  lines'' = slice_set lines at s.line ++ s.back ∷ []

  abbrev cloud : ℕ → Pdu → Type 0
  cloud = Cloud Everywhere d.config d.processes below

  abbrev waiting' : List ℕ
  waiting' = d.waiting ++ length d.ends ∷ []

  abbrev new : DifSeen
  new = record d { ends = ends'; conns = conns'; ids = held'; waiting = waiting' }

  node_is : s.member.node ≡ node
  node_is = test_passes d.config.members node s.place s.member s.at_home s.stands

  -- ---- the journal

  partners : IsPartner e far
  partners = record { same_flow = refl; other_role = λ same. (let asks = s.asks in let clash : Far ≡ Asker = same ∙ asks in cc) }

  -- an end that was there and has the name of the flow is the asker's
  its_asker : (i : ℕ) (a : End) → At d.ends i a → a.flow ≡ e.flow → (i ≡ at) × (a ≡ e)
  its_asker i a is_a same =
      let role : a.role ≡ Asker = asker_role a.role (λ far_role. s.alone (record { place = i; other = a; stands = is_a; partner = record { same_flow = same; other_role = λ r. (let asks = s.asks in let clash : Far ≡ Asker = sym far_role ∙ r ∙ asks in cc) } })) in
      let is = st.journal.distinct i at a e is_a s.is_conn.end same (role ∙ sym s.asks) in
      (is, (let l = subst (λ (k : ℕ). At d.ends k a) is is_a in let r = s.is_conn.end in cc))

  has_asker : HasPartner ends' far
  has_asker = record { place = at; other = e; stands = still_at d.ends (far ∷ []) at e s.is_conn.end; partner = partner_back e far partners }

  made_journal : IsJournal d.clock ends'
  made_journal = record {
    distinct = λ i k a b x y flow role. elim (one_at d.ends far i a x) [
      | inl o ↦ elim (one_at d.ends far k b y) [
        | inl q ↦ st.journal.distinct i k a b o q flow role
        | inr u ↦ absurd (twice i a o (flow ∙ ap (λ (z : End). z.flow) u.1) (role ∙ ap (λ (z : End). z.role) u.1))
      ]
      | inr t ↦ elim (one_at d.ends far k b y) [
        | inl q ↦ absurd (twice k b q (sym flow ∙ ap (λ (z : End). z.flow) t.1) (sym role ∙ ap (λ (z : End). z.role) t.1))
        | inr u ↦ t.0 ∙ sym u.0
      ]
    ];
    far = λ i z is role. by_one d.ends far (λ z. z.role ≡ Far → HasPartner ends' z) (λ k z h r. still_partner d.ends (far ∷ []) z (st.journal.far k z h r)) (λ r. has_asker) i z is role;
    named = λ i k a other x y p. elim (one_at d.ends far i a x) [
      | inl o ↦ elim (one_at d.ends far k other y) [
        | inl q ↦ st.journal.named i k a other o q p
        | inr u ↦ (let a_is = (its_asker i a o (sym p.same_flow ∙ ap (λ (z : End). z.flow) u.1)).1 in rw (a_is, u.1) (record { peer = refl; its_peer = refl; cube = refl }))
      ]
      | inr t ↦ elim (one_at d.ends far k other y) [
        | inl q ↦ (let b_is = (its_asker k other q (p.same_flow ∙ ap (λ (z : End). z.flow) t.1)).1 in rw (b_is, t.1) (record { peer = refl; its_peer = refl; cube = refl }))
        | inr u ↦ absurd (p.other_role (ap (λ (z : End). z.role) (u.1 ∙ sym t.1)))
      ]
    ];
    allocated = λ i z is state. by_one d.ends far (λ z. z.state ≡ Allocated → HasPartner ends' z) (λ k z h r. still_partner d.ends (far ∷ []) z (st.journal.allocated k z h r)) (λ r. has_asker) i z is state;
    met = λ i j z x is got. by_one d.ends far (λ z. slice_get z.got j ≡ Some x → HasPartner ends' z) (λ k z h g. still_partner d.ends (far ∷ []) z (st.journal.met k j z x h g)) (λ g. has_asker) i z is got;
    whole = λ i z is. by_one d.ends far (IsWhole d.clock) (λ k z h. st.journal.whole k z h) (record { sent = dated_none d.clock; got = dated_none d.clock; taken = omega arith }) i z is;
  }
    where
      twice : (i : ℕ) (a : End) → At d.ends i a → a.flow ≡ e.flow → a.role ≡ Far → ⊥
      twice i a is_a flow role = (let a_is = (its_asker i a is_a flow).1 in let asks = s.asks in let clash : Far ≡ Asker = sym role ∙ ap (λ (z : End). z.role) a_is ∙ asks in cc)

  made_ports : HasPorts d.config.fac (fac_of (record d { ends = ends' }))
  made_ports = one_ports d far node st.ports refl

  -- ---- the ledger of the flows

  abbrev x : (x : Place) × (slice_get st.own.places at ≡ Some x)
  x = beside d.ends st.own.places at e st.own.entered.places_alike s.is_conn.end

  -- the flow of the ledger
  record IsItsFlow : Type 0 where
    flow : Flow
    stands : slice_get st.own.flows x.0.flow ≡ Some flow
    side : x.0.side ≡ AskerSide
    end : IsEndOf flow AskerSide e s.ids
    none : flow.far ≡ None

  -- no far end of it is there
  no_far : (flow : Flow) → slice_get st.own.flows x.0.flow ≡ Some flow → (o : Option Endpoint) → flow.far ≡ o → flow.far ≡ None
  no_far flow stands None is = is
  no_far flow stands (Some point) is =
      let there : Place = record { flow = x.0.flow; side = FarSide } in
      let p = st.own.entered.all x.0.flow FarSide flow point stands is in
      let b = beside st.own.places d.ends p.0 there (sym st.own.entered.places_alike) p.1 in
      let c = beside d.ends d.conns p.0 b.0 st.own.alike b.1 in
      let m = end_of_flow d.config d.clock cloud d.ids d.ends d.conns lines st.own p.0 b.0 c.0 there flow (record { end = b.1; ids_are = c.1 }) p.1 stands in
      let same : b.0.flow ≡ e.flow = st.own.entered.named p.0 at b.0 e there x.0 b.1 s.is_conn.end p.1 x.1 refl in
      absurd (s.alone (record { place = p.0; other = b.0; stands = b.1; partner = record { same_flow = same; other_role = λ r. (let asks = s.asks in let role = m.role in let clash : Far ≡ Asker = sym role ∙ r ∙ asks in cc) } }))

  its_flow : IsItsFlow
  its_flow =
      let m = st.own.entered.each at e s.ids x.0 s.is_conn x.1 in
      let side : x.0.side ≡ AskerSide = side_same x.0.side AskerSide (sym m.end.role ∙ s.asks) in
      record { flow = m.flow; stands = m.stands; side = side; end = subst (λ (z : Side). IsEndOf m.flow z e s.ids) side m.end; none = no_far m.flow m.stands m.flow.far refl }

  abbrev flow : Flow
  flow = its_flow.flow

  point_is : flow.asker ≡ its_flow.end.point
  point_is = same_Some flow.asker its_flow.end.point its_flow.end.is

  young : d.clock < flow.asked + flow.rest
  young =
      let rest : flow.rest ≡ 3 * delta_of s.cube = st.own.rests at e x.0 flow s.is_conn.end x.1 its_flow.stands s.cube s.is_cube in
      let asked : e.flow.tick ≡ flow.asked = its_flow.end.asked its_flow.none in
      let before = s.young in
      omega (arith, rest, asked, before)

  no_entries : e.got ≡ []
  no_entries = none_got e.got (HasPartner d.ends e) (λ j y h. st.journal.met at j e y s.is_conn.end h) s.alone

  blank : IsBlank e
  blank = record {
    sent = its_flow.end.unsent its_flow.none;
    got = no_entries;
    taken = (let whole = (st.journal.whole at e s.is_conn.end).taken in let none : length e.got ≡ 0 = ap (λ (es : List Entry). length es) no_entries in omega (arith, whole, none));
  }

  abbrev waits : IsWaiting d.clock d.ends st.own.flows st.own.places at e
  waits = record { here = s.is_conn.end; x = x.0; is_x = x.1; side = its_flow.side; flow = flow; stands = its_flow.stands; none = its_flow.none; young = young; blank = blank }

  peer_is : flow.peer ≡ s.member.addr
  peer_is = sym its_flow.end.far ∙ sym s.asked

  its_ids : AreIds d.config e s.ids
  its_ids = st.own.ids at e s.ids s.is_conn

  is_far_end : IsFarEnd d.config d.clock st.own.flows flow e far ids s.cube
  is_far_end = record {
    is_cube = s.is_cube;
    limits = cube_limits d.config e.cube s.cube st.config s.is_cube;
    same_flow = refl;
    answers = refl;
    up = refl;
    same_cube = refl;
    blank = record { sent = refl; got = refl; taken = refl };
    own = its_flow.end.far;
    far = its_flow.end.own ∙ ap (λ (p : Endpoint). p.addr) (sym point_is);
    dcep = its_flow.end.scep ∙ ap (λ (p : Endpoint). p.cep) (sym point_is);
    qos = its_ids.qos;
    fit = record { own = its_ids.far; far = its_ids.own; scep = s.cep_fits; dcep = its_ids.scep; qos = its_ids.qos };
    free = subst (λ (a : ℕ). IsFree d.clock st.own.flows a s.cep) (sym peer_is) (one_free d.config d.clock (Naming (IsOfFlow d.config) cloud) st.own.flows d.ids s.place s.cep s.member n.members.addrs s.stands s.draws st.own.ledger st.own.kept);
  }

  -- a direction that starts is of the cube of the flow
  begun : (c : Ids) (l : Direction) → c.qos ≡ e.cube → IsFresh d c l → l ≡ ticked d.clock (start (constants d.config s.cube c))
  begun c l qos f =
      let is : f.cube ≡ s.cube = (let l = f.is_cube in let r : cube_by c.qos d.config.cubes ≡ Some s.cube = ap (λ (q : ℕ). cube_by q d.config.cubes) qos ∙ s.is_cube in cc) in
      f.is ∙ ap (λ (z : Cube). ticked d.clock (start (constants d.config z c))) is

  made_own : IsOwn d.config d.clock cloud held' ends' conns' lines''
  made_own =
      let own = own_far d.config d.clock cloud d.ids d.ends d.conns lines st.own at e waits far ids s.cube is_far_end held'
      (far_held d.config d.clock (Naming (IsOfFlow d.config) cloud) st.own.flows d.ids s.place s.cep s.member n.members.addrs s.stands s.draws st.own.ledger st.own.kept x.0.flow flow its_flow.stands its_flow.none peer_is young) in
      let there : s.line ≡ ticked d.clock (start (constants d.config s.cube (with_far_cep s.ids s.cep))) = begun (with_far_cep s.ids s.cep) s.line its_ids.qos s.fresh in
      let back : s.back ≡ ticked d.clock (start (constants d.config s.cube ids)) = begun ids s.back its_ids.qos s.fresh_back in
      subst (λ (l : Direction). IsOwn d.config d.clock cloud held' ends' conns' (slice_set lines at l ++ s.back ∷ [])) (sym there)
      (subst (λ (l : Direction). IsOwn d.config d.clock cloud held' ends' conns' (slice_set lines at (ticked d.clock (start (constants d.config s.cube (with_far_cep s.ids s.cep)))) ++ l ∷ [])) (sym back) own)

  made_standing : IsStanding new lines'' below
  made_standing = stands_own d lines lines'' below ends' conns' held' waiting' d.names st made_journal made_ports made_own

  -- ---- what came

  -- an end and its ids were there, or are those of the far end
  conn_cases : (i : ℕ) (a : End) (c : Ids) → IsConn ends' conns' i a c → IsConn d.ends d.conns i a c ⊎ ((i ≡ length d.ends) × (a ≡ far) × (c ≡ ids))
  conn_cases i a c h = elim (one_at d.ends far i a h.end) [
    | inl o ↦ inl (record { end = o; ids_are = kept_beside d.ends d.conns ids i a c st.own.alike o h.ids_are })
    | inr t ↦ inr (t.0, t.1, last_beside d.ends d.conns ids i c st.own.alike t.0 h.ids_are)
  ]

  lines_alike : length (slice_set lines at s.line) ≡ length d.ends
  lines_alike = length-set lines at s.line ∙ st.own.lines_alike

  abbrev its_line : (l : Direction) × (slice_get lines at ≡ Some l)
  its_line = beside d.ends lines at e st.own.lines_alike s.is_conn.end

  made_carrying : IsCarrying d lines below → IsCarrying new lines'' below
  made_carrying c = record {
    entries = λ i j a g y conn got. elim (conn_cases i a g conn) [
      | inl o ↦ c.entries i j a g y o got
      | inr t ↦ absurd (let none : slice_get [] j ≡ Some y = ap (λ (z : End). slice_get z.got j) (sym t.1) ∙ got in cc)
    ];
    holding = λ i from a g l conn h. elim (one_at d.ends far from h.partner h.is_partner) [
      | inl p ↦
          (let old_line = kept_beside d.ends (slice_set lines at s.line) s.back from h.partner l lines_alike p h.is_line in
          elim (set_at lines at from its_line.0 s.line l its_line.1 old_line) [
            | inl t ↦ nothing_come d below (with_far_cep s.ids s.cep) l (subst (IsFresh d (with_far_cep s.ids s.cep)) (sym t.1) s.fresh) g
            | inr o ↦ elim (conn_cases i a g conn) [
              | inl was ↦ c.holding i from a g l was (record { partner = h.partner; is_partner = p; partners = h.partners; is_line = o.1 })
              | inr t ↦ absurd (o.0 (its_asker from h.partner p (sym h.partners.same_flow ∙ ap (λ (z : End). z.flow) t.1)).0)
            ]
          ])
      | inr t ↦ nothing_come d below ids l (subst (IsFresh d ids) (sym (last_beside d.ends (slice_set lines at s.line) s.back from l lines_alike t.0 h.is_line)) s.fresh_back) g
    ];
  }

  -- ---- names

  addressed_new : (a : End) → a ≡ far → IsAddressed d.config a ids
  addressed_new a is = rw is (record { place = s.place; member = s.member; at_home = s.at_home; stands = s.stands; addr = sym s.asked })

  counted_new : IsCounted d.config ends' far
  counted_new = (let c = still_counted d.config d.ends far e (n.counted at e s.is_conn.end) in record { place = c.place; member = c.member; stands = c.stands; addr = c.addr; count = c.count })

  made_numbered : IsNumbered new below
  made_numbered = record {
    members = n.members;
    addressed = λ i a g conn. elim (conn_cases i a g conn) [
      | inl o ↦ n.addressed i a g o
      | inr t ↦ rw t.2 (addressed_new a t.1)
    ];
    counted = λ i a is. by_one d.ends far (IsCounted d.config ends') (λ k z h. still_counted d.config d.ends far z (n.counted k z h)) counted_new i a is;
    drawn = one_are_drawn d.config d.clock (Naming (IsOfFlow d.config) cloud) st.own.flows d.ids s.place s.cep s.member n.members.addrs s.stands s.draws st.own.ledger st.own.kept d.ends ends' n.drawn (λ at_node. one_no_less at_node d.ends far) (one_more s.member.node d.ends far (sym node_is));
    named = λ death pdu y. elim (n.named death pdu y) [
      | inl none ↦ inl none
      | inr of ↦ inr (record { at = of.at; ids = of.ids; stands = still_at d.conns (ids ∷ []) of.at of.ids of.stands; src = of.src; scep = of.scep })
    ];
  }

  -- ---- the account

  -- the far end receives in the direction of the asker, which starts
  line_there : slice_get lines'' at ≡ Some s.line
  line_there = still_at (slice_set lines at s.line) (s.back ∷ []) at s.line (slice_get-set_same lines at its_line.0 s.line its_line.1)

  far_holds : (k : ℕ) → held_in (inbound_of ends' lines'' far) k ≡ 0
  far_holds k = ap (λ (o : Option Direction). held_in o k) (inbound_at d.clock ends' made_journal at e far (still_at d.ends (far ∷ []) at e s.is_conn.end) partners lines'' s.line line_there) ∙ fresh_empty d (with_far_cep s.ids s.cep) s.line k s.fresh

  made_account : IsAccounted d lines below → IsAccounted new lines'' below
  made_account a =
      let size : ℕ = piece_size d.config in
      accounted_on d new lines lines'' below below a a.passed
      (λ i c is. elim (one_at d.conns ids i c is) [
        | inl o ↦ a.apart i c o
        | inr t ↦ λ same. a.apart at s.ids s.is_conn.ids_are (sym (ap (λ (z : Ids). z.own) (sym t.1) ∙ same ∙ ap (λ (z : Ids). z.far) t.1))
      ])
      (λ i m p k is. record {
        process = p;
        is_process = record { is_member = is.is_member; is_process = is.is_process };
        resends = resends_on d new m.addr k.scep refl (λ j c y. still_at d.conns (ids ∷ []) j c y);
        moved = moved_same m.addr k (Resends new m.addr k.scep) (counts_of d lines below m p k) (counts_of new lines'' below m p k) (record {
          taken = refl;
          relayed = refl;
          gone = refl;
          made = made_one size m.addr k d.ends d.conns far ids st.own.alike refl;
          kept = kept_one size m.addr k d.ends d.conns far ids st.own.alike lines lines''
              (λ j. kept_longer size d.ends (far ∷ []) (slice_set lines at s.line) (s.back ∷ []) m.addr k (slice_get d.ends j) (slice_get d.conns j) lines_alike (fresh_one d ids s.back s.fresh_back k.seq)
              ∙ alone_kept size d.ends lines at e s.line m.addr k s.is_conn.end s.alone j (slice_get d.ends j) (slice_get d.conns j) refl)
              (λ o. nothing_kept size ends' lines'' m.addr k far o refl (far_holds k.seq));
        });
      })

  pub made_stands : IsStanding d' lines' below
  made_stands = rw (s.new_is, s.lines_are) made_standing

  pub made_carries : IsCarrying d lines below → IsCarrying d' lines' below
  made_carries c = rw (s.new_is, s.lines_are) (made_carrying c)

  pub made_numbers : IsNumbered d' below
  made_numbers = rw s.new_is made_numbered

  pub made_accounted : IsAccounted d lines below → IsAccounted d' lines' below
  made_accounted a = rw (s.new_is, s.lines_are) (made_account a)

pub made_later : (d : DifSeen) (lines : List Direction) (node at : ℕ) (d' : DifSeen) (lines' : List Direction) → IsFarMade d lines node at d' lines' → IsLaterFac d.clock d'.clock (fac_of d) (fac_of d')
made_later d lines node at d' lines' s = rw s.new_is (record { ends = ends_more d.clock d.clock d.ends _; cubes = refl })

-- the far end that is made is such an end, and the others are as before
pub made_silent : (d : DifSeen) (lines : List Direction) (node at : ℕ) (d' : DifSeen) (lines' : List Direction) → IsFarMade d lines node at d' lines' → IsSilent d d'
made_silent d lines node at d' lines' s = record {
  later = made_later d lines node at d' lines' s;
  fresh = subst (AreFarOf d.ends) (sym ends_are) (λ i e is past. elim (one_at d.ends far i e is) [
    | inl old ↦ (let low = slice_get_within d.ends i e old in absurd (omega (arith, low, past)))
    | inr new ↦ subst (IsFarOf d.ends) (sym new.1) its_far
  ]);
  same = λ i e e' x y.
      let is : e' ≡ e = same_Some e' e (sym (subst (λ (es : List End). At es i e') ends_are y) ∙ still_at d.ends (far ∷ []) i e x) in
      (ap (λ (z : End). z.sent) is, ap (λ (z : End). z.taken) is);
}
  where
    far : End
    far = far_end_of d node s.asker

    ends_are : d'.ends ≡ d.ends ++ far ∷ []
    ends_are = ap (λ (z : DifSeen). z.ends) s.new_is

    its_far : IsFarOf d.ends far
    its_far = record {
      answers = record {
        place = at;
        asker = s.asker;
        stands = s.is_conn.end;
        far = refl;
        partner = record { same_flow = refl; other_role = λ same. (let asks = s.asks in let clash : Far ≡ Asker = sym same ∙ asks in cc) };
        named = record { peer = refl; its_peer = refl; cube = refl };
      };
      sent = refl;
      taken = refl;
    }
