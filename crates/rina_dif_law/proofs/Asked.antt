-- A DIF that stands goes on to stand as a member asks for a flow.
use Rattle.std.proofs.Common.{◌≡◌, ◌≢◌, ℕ, ◌+◌, ◌*◌, ◌^◌, ◌<◌, List, [], ◌∷◌, ◌++◌, length, slice_get, None, Option, Some, refl, sym, ◌∙◌, ap, subst, arith, inl, inr, ◌⊎◌}
use Rattle.std.proofs.lemmas.Bool.Decides.{eqb_tells}
use Rattle.rina_base.specs.declared.number.FlowName.{FlowName}
use Rattle.rina_base.specs.declared.number.Key.{Key}
use Rattle.rina_base.specs.declared.pdu.Pdu.{Pdu}
use Rattle.rina_cube.specs.Cubes.{IsCube}
use Rattle.rina_iface.specs.declared.ends.End.{End}
use Rattle.rina_iface.specs.declared.state.PortState.{PortState}
use Rattle.rina_iface.specs.declared.state.PortState.TheVariants.{Allocated, Pending}
use Rattle.rina_iface.specs.declared.state.Role.TheVariants.{Asker, Far}
use Rattle.rina_iface.specs.Journal.{At, HasPartner, HasPorts, IsPartner, IsWhole}
use Rattle.rina_iface.specs.Later.{IsLaterFac}
use Rattle.rina_iface.specs.Seen.{Seen}
use Rattle.rina_iface.proofs.Grown.{dated_none, still_at}
use Rattle.rina_iface.proofs.Later.{ends_more}
use Rattle.rina_law.specs.declared.entry.Entry.{Entry}
use Rattle.rina_law.specs.Direction.{Direction}
use Rattle.rina_ids.specs.Members.{CepIds, with_drawn}
use Rattle.rina_rest.specs.Naming.{Naming}
use Rattle.rina_rest.specs.Still.{rest_of}
use Rattle.rina_data.specs.Configs.{Member, piece_size}
use Rattle.rina_dif_law.specs.Accounted.{IsAccounted, Resends, counts_of, held_by, held_in, inbound_of, journal_numbers, kept_by}
use Rattle.rina_dif_law.specs.Asking.{Asking, IsAskedFor, end_asked, ids_asked}
use Rattle.rina_dif_law.specs.Carried.{IsCarrying}
use Rattle.rina_dif_law.specs.Cloud.{Cloud, Everywhere}
use Rattle.rina_dif_law.specs.Counting.{times}
use Rattle.rina_dif_law.specs.Dif.{DifSeen, constants, fac_of}
use Rattle.rina_dif_law.specs.Ids.{Ids}
use Rattle.rina_dif_law.specs.Numbered.{IsAddressed, IsCounted, IsNumbered, asked_at}
use Rattle.rina_dif_law.specs.Standing.{IsConn, IsJournal, IsOfFlow, IsOwn, IsStanding}
use Rattle.rina_dif_law.proofs.Accounting.{resends_on}
use Rattle.rina_dif_law.proofs.Appended.{by_one, fresh_one, kept_one, made_one, one_asked, one_more, one_no_less, one_ports, still_counted, still_partner}
use Rattle.rina_dif_law.proofs.Balancing.{accounted_on, moved_same}
use Rattle.rina_dif_law.proofs.Binding.{same_member, test_passes}
use Rattle.rina_dif_law.proofs.Finding.{cube_limits}
use Rattle.rina_dif_law.proofs.Founding.{either_none, kept_longer}
use Rattle.rina_dif_law.proofs.Frame.{stands_own}
use Rattle.rina_dif_law.proofs.HeldIds.{asked_held, one_are_drawn, one_free}
use Rattle.rina_dif_law.proofs.Lasts.{kept_beside, last_beside, one_at}
use Rattle.rina_dif_law.proofs.Numbering.{counts}
use Rattle.rina_dif_law.proofs.OwnAsked.{own_asked}
use Rattle.rina_dif_law.proofs.OwnMade.{some_rest}

-- an end that waits keeps nothing
waiting_kept : (size : ℕ) (ends : List End) (lines : List Direction) (addr : ℕ) (k : Key) (e : End) (o : Option Ids) → e.got ≡ [] → e.state ≡ Pending → kept_by size ends lines addr k (Some e) o ≡ 0
waiting_kept size ends lines addr k e None none waits = refl
waiting_kept size ends lines addr k e (Some c) none waits =
    let got : times k.seq (journal_numbers size e.got) ≡ 0 = ap (λ (xs : List Entry). times k.seq (journal_numbers size xs)) none in
    let by : held_by e.state (held_in (inbound_of ends lines e) k.seq) ≡ 0 = ap (λ (state : PortState). held_by state (held_in (inbound_of ends lines e) k.seq)) waits in
    either_none _ (times k.seq (journal_numbers size e.got) + held_by e.state (held_in (inbound_of ends lines e) k.seq)) (omega (arith, got, by))

module _ (d : DifSeen) (lines : List Direction) (below : Seen) (st : IsStanding d lines below) (n : IsNumbered d below) (ask : Asking) (d' : DifSeen) (lines' : List Direction) (s : IsAskedFor d lines ask d' lines') where
  abbrev asker : End
  asker = end_asked d ask s.member

  abbrev ids : Ids
  ids = ids_asked ask s.member s.cep

  abbrev ends' : List End
  ends' = d.ends ++ asker ∷ []

  abbrev conns' : List Ids
  conns' = d.conns ++ ids ∷ []

  abbrev held' : List CepIds
  held' = with_drawn s.place s.draws.ids s.cep d.ids

  abbrev cloud : ℕ → Pdu → Type 0
  cloud = Cloud Everywhere d.config d.processes below

  node_is : s.member.node ≡ ask.node
  node_is = test_passes d.config.members ask.node s.place s.member s.at_home s.stands

  -- no flow has the name that is given next
  fresh : (i : ℕ) (e : End) → At d.ends i e → e.flow ≢ asker.flow
  fresh i e is same =
      let c = n.counted i e is in
      let member_is : c.member ≡ s.member = same_member d lines below st n c.place s.place c.member s.member c.stands s.stands (c.addr ∙ ap (λ (f : FlowName). f.src) same) in
      let count' : e.flow.count < asked_at ask.node d.ends = subst (λ (z : ℕ). e.flow.count < asked_at z d.ends) (ap (λ (x : Member). x.node) member_is ∙ node_is) c.count in
      let at : e.flow.count ≡ asked_at ask.node d.ends = ap (λ (f : FlowName). f.count) same in
      omega (arith, count', at)

  old_partner : (i k : ℕ) (a b : End) → At d.ends i a → At ends' k b → b.flow ≡ a.flow → At d.ends k b
  old_partner i k a b x y same = elim (one_at d.ends asker k b y) [
    | inl o ↦ o
    | inr t ↦ absurd (fresh i a x (sym same ∙ ap (λ (e : End). e.flow) t.1))
  ]

  asked_journal : IsJournal d.clock ends'
  asked_journal = record {
    distinct = λ i k a b x y flow role. elim (one_at d.ends asker i a x) [
      | inl o ↦ st.journal.distinct i k a b o (old_partner i k a b o y (sym flow)) flow role
      | inr t ↦ elim (one_at d.ends asker k b y) [
        | inl o ↦ absurd (fresh k b o (sym flow ∙ ap (λ (e : End). e.flow) t.1))
        | inr u ↦ t.0 ∙ sym u.0
      ]
    ];
    far = λ i e is role. by_one d.ends asker (λ z. z.role ≡ Far → HasPartner ends' z) (λ k z h r. still_partner d.ends (asker ∷ []) z (st.journal.far k z h r)) (λ r. absurd (let clash : Asker ≡ Far = r in cc)) i e is role;
    named = λ i k e other x y p. elim (one_at d.ends asker i e x) [
      | inl o ↦ st.journal.named i k e other o (old_partner i k e other o y p.same_flow) p
      | inr t ↦ elim (one_at d.ends asker k other y) [
        | inl o ↦ absurd (fresh k other o (p.same_flow ∙ ap (λ (z : End). z.flow) t.1))
        | inr u ↦ absurd (p.other_role (ap (λ (z : End). z.role) (u.1 ∙ sym t.1)))
      ]
    ];
    allocated = λ i e is state. by_one d.ends asker (λ z. z.state ≡ Allocated → HasPartner ends' z) (λ k z h r. still_partner d.ends (asker ∷ []) z (st.journal.allocated k z h r)) (λ r. absurd (let clash : Pending ≡ Allocated = r in cc)) i e is state;
    met = λ i j e x is got. by_one d.ends asker (λ z. slice_get z.got j ≡ Some x → HasPartner ends' z) (λ k z h g. still_partner d.ends (asker ∷ []) z (st.journal.met k j z x h g)) (λ g. absurd (let none : slice_get [] j ≡ Some x = g in cc)) i e is got;
    whole = λ i e is. by_one d.ends asker (IsWhole d.clock) (λ k z h. st.journal.whole k z h) (record { sent = dated_none d.clock; got = dated_none d.clock; taken = omega arith }) i e is;
  }

  asked_ports : HasPorts d.config.fac (fac_of (record d { ends = ends' }))
  asked_ports = one_ports d asker ask.node st.ports refl

  -- an end and its ids were there, or are those of the asker
  conn_cases : (i : ℕ) (e : End) (c : Ids) → IsConn ends' conns' i e c → IsConn d.ends d.conns i e c ⊎ ((i ≡ length d.ends) × (e ≡ asker) × (c ≡ ids))
  conn_cases i e c x = elim (one_at d.ends asker i e x.end) [
    | inl o ↦ inl (record { end = o; ids_are = kept_beside d.ends d.conns ids i e c st.own.alike o x.ids_are })
    | inr t ↦ inr (t.0, t.1, last_beside d.ends d.conns ids i c st.own.alike t.0 x.ids_are)
  ]

  limits : IsCube s.fresh.cube
  limits = cube_limits d.config ids.qos s.fresh.cube st.config s.fresh.is_cube

  asked_own : IsOwn d.config d.clock cloud held' ends' conns' (lines ++ s.line ∷ [])
  asked_own = own_asked d.config d.clock cloud d.ids d.ends d.conns lines st.own asker ids s.line s.fresh.cube (record {
    is_cube = s.fresh.is_cube;
    limits = limits;
    fresh = fresh;
    asks = refl;
    waits = refl;
    asked = refl;
    unsent = refl;
    asker_cube = refl;
    apart = s.elsewhere;
    free = one_free d.config d.clock (Naming (IsOfFlow d.config) cloud) st.own.flows d.ids s.place s.cep s.member n.members.addrs s.stands s.draws st.own.ledger st.own.kept;
    asker_ids = record { own = n.members.fit s.place s.member s.stands; far = s.peer_fits; scep = s.cep_fits; dcep = some_width; qos = refl };
  }) held' (asked_held d.config d.clock (Naming (IsOfFlow d.config) cloud) st.own.flows d.ids s.place s.cep s.member n.members.addrs s.stands s.draws st.own.ledger st.own.kept (rest_of (constants d.config s.fresh.cube ids)) ask.peer (some_rest (constants d.config s.fresh.cube ids) limits) s.elsewhere)
    where
      some_width : 0 < 2 ^ (8 * d.config.widths.cep)
      some_width = (let fits = s.cep_fits in omega (arith, fits))

  asked_standing : IsStanding (record d { ends = ends'; conns = conns'; ids = held' }) (lines ++ s.line ∷ []) below
  asked_standing = stands_own d lines (lines ++ s.line ∷ []) below ends' conns' held' d.waiting d.names st asked_journal asked_ports asked_own

  asked_carrying : IsCarrying d lines below → IsCarrying (record d { ends = ends'; conns = conns'; ids = held' }) (lines ++ s.line ∷ []) below
  asked_carrying c = record {
    entries = λ i j e g x conn got. elim (conn_cases i e g conn) [
      | inl o ↦ c.entries i j e g x o got
      | inr t ↦ absurd (let none : slice_get [] j ≡ Some x = ap (λ (z : End). slice_get z.got j) (sym t.1) ∙ got in cc)
    ];
    holding = λ i from e g l conn h. elim (conn_cases i e g conn) [
      | inl o ↦
          let was = old_partner i from e h.partner o.end h.is_partner (sym h.partners.same_flow) in
          c.holding i from e g l o (record { partner = h.partner; is_partner = was; partners = h.partners; is_line = kept_beside d.ends lines s.line from h.partner l st.own.lines_alike was h.is_line })
      | inr t ↦ absurd (alone from h.partner e h.is_partner t.1 h.partners)
    ];
  }
    where
      alone : (k : ℕ) (a e : End) → At ends' k a → e ≡ asker → IsPartner a e → ⊥
      alone k a e x is p = elim (one_at d.ends asker k a x) [
        | inl o ↦ fresh k a o (sym p.same_flow ∙ ap (λ (z : End). z.flow) is)
        | inr u ↦ p.other_role (ap (λ (z : End). z.role) (is ∙ sym u.1))
      ]

  addressed_new : (e : End) → e ≡ asker → IsAddressed d.config e ids
  addressed_new e is = rw is (record { place = s.place; member = s.member; at_home = s.at_home; stands = s.stands; addr = refl })

  counted_new : IsCounted d.config ends' asker
  counted_new =
      let more = one_asked ask.node d.ends asker in
      let one : counts ask.node asker ≡ 1 = elim (eqb_tells ask.node ask.node) [ inl t ↦ rw t.0 refl | inr f ↦ absurd (f.1 refl) ] in
      let within : asked_at ask.node d.ends < asked_at ask.node ends' = omega (arith, more, one) in
      record { place = s.place; member = s.member; stands = s.stands; addr = refl; count = subst (λ (z : ℕ). asked_at ask.node d.ends < asked_at z ends') (sym node_is) within }

  asked_numbered : IsNumbered (record d { ends = ends'; conns = conns'; ids = held' }) below
  asked_numbered = record {
    members = n.members;
    addressed = λ i e g conn. elim (conn_cases i e g conn) [
      | inl o ↦ n.addressed i e g o
      | inr t ↦ rw t.2 (addressed_new e t.1)
    ];
    counted = λ i e is. by_one d.ends asker (IsCounted d.config ends') (λ k z h. still_counted d.config d.ends asker z (n.counted k z h)) counted_new i e is;
    drawn = one_are_drawn d.config d.clock (Naming (IsOfFlow d.config) cloud) st.own.flows d.ids s.place s.cep s.member n.members.addrs s.stands s.draws st.own.ledger st.own.kept d.ends ends' n.drawn (λ node. one_no_less node d.ends asker) (one_more s.member.node d.ends asker (sym node_is));
    named = λ death pdu x. elim (n.named death pdu x) [
      | inl none ↦ inl none
      | inr of ↦ inr (record { at = of.at; ids = of.ids; stands = still_at d.conns (ids ∷ []) of.at of.ids of.stands; src = of.src; scep = of.scep })
    ];
  }

  asked_account : IsAccounted d lines below → IsAccounted (record d { ends = ends'; conns = conns'; ids = held' }) (lines ++ s.line ∷ []) below
  asked_account a =
      let new : DifSeen = record d { ends = ends'; conns = conns'; ids = held' } in
      let size : ℕ = piece_size d.config in
      let lines'' : List Direction = lines ++ s.line ∷ [] in
      accounted_on d new lines lines'' below below a a.passed
      (λ i c at. elim (one_at d.conns ids i c at) [
        | inl o ↦ a.apart i c o
        | inr t ↦ λ same. s.elsewhere (sym (ap (λ (z : Ids). z.own) (sym t.1) ∙ same ∙ ap (λ (z : Ids). z.far) t.1))
      ])
      (λ i m p k is. record {
        process = p;
        is_process = record { is_member = is.is_member; is_process = is.is_process };
        resends = resends_on d new m.addr k.scep refl (λ n c x. still_at d.conns (ids ∷ []) n c x);
        moved = moved_same m.addr k (Resends new m.addr k.scep) (counts_of d lines below m p k) (counts_of new lines'' below m p k) (record {
          taken = refl;
          relayed = refl;
          gone = refl;
          made = made_one size m.addr k d.ends d.conns asker ids st.own.alike refl;
          kept = kept_one size m.addr k d.ends d.conns asker ids st.own.alike lines lines''
              (λ j. kept_longer size d.ends (asker ∷ []) lines (s.line ∷ []) m.addr k (slice_get d.ends j) (slice_get d.conns j) st.own.lines_alike (fresh_one d ids s.line s.fresh k.seq))
              (λ o. waiting_kept size ends' lines'' m.addr k asker o refl refl);
        });
      })

  pub asked_stands : IsStanding d' lines' below
  asked_stands = rw (s.new_is, s.lines_are) asked_standing

  pub asked_carries : IsCarrying d lines below → IsCarrying d' lines' below
  asked_carries c = rw (s.new_is, s.lines_are) (asked_carrying c)

  pub asked_numbers : IsNumbered d' below
  asked_numbers = rw s.new_is asked_numbered

  pub asked_accounted : IsAccounted d lines below → IsAccounted d' lines' below
  asked_accounted a = rw (s.new_is, s.lines_are) (asked_account a)

  pub asked_later : IsLaterFac d.clock d'.clock (fac_of d) (fac_of d')
  asked_later = rw s.new_is (record { ends = ends_more d.clock d.clock d.ends _; cubes = refl })
