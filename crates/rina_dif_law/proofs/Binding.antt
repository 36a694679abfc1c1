-- A DIF that stands goes on to stand as a fixed flow is made.
use Rattle.std.proofs.Common.{◌≡◌, ◌≢◌, ℕ, suc, ◌+◌, ◌*◌, ◌^◌, ◌<◌, ◌≤◌, List, [], ◌∷◌, ◌++◌, cond, eqb, get_or, length, slice_get, Some, refl, sym, ◌∙◌, ap, subst, arith, inl, inr, ◌⊎◌, true, ◌==◌}
use Rattle.std.proofs.lemmas.Bool.Decides.{eqb_tells}
use Rattle.std.proofs.lemmas.List.Quantifiers.{position-Some}
use Rattle.std.proofs.lemmas.List.Sums.{sum_by-append}
use Rattle.std.proofs.lemmas.Option.{get_or_from_slice_get}
use Rattle.rina_base.specs.declared.number.FlowName.{FlowName}
use Rattle.rina_base.specs.declared.pdu.Pdu.{Pdu}
use Rattle.rina_iface.specs.declared.ask.Fixed.{Fixed}
use Rattle.rina_iface.specs.declared.ask.Registered.{Registered}
use Rattle.rina_iface.specs.declared.ends.End.{End}
use Rattle.rina_iface.specs.declared.state.PortState.TheVariants.{Allocated}
use Rattle.rina_iface.specs.declared.state.Role.TheVariants.{Asker, Far}
use Rattle.rina_iface.specs.Ends.{drawn_at}
use Rattle.rina_iface.specs.Journal.{At, HasPartner, HasPorts, IsNamed, IsPartner, IsWhole}
use Rattle.rina_iface.specs.Later.{IsLaterFac}
use Rattle.rina_iface.specs.Seen.{Seen}
use Rattle.rina_iface.proofs.Fresh.{fresh_port}
use Rattle.rina_iface.proofs.Grown.{dated_none, still_at}
use Rattle.rina_iface.proofs.Later.{ends_more}
use Rattle.rina_cube.specs.declared.Cube.{Cube}
use Rattle.rina_law.specs.Direction.{Direction, start}
use Rattle.rina_dif_law.specs.Binding.{IsBound, MayDraw, asker_next, far_next, flow_next, ids_next}
use Rattle.rina_dif_law.specs.Carried.{HasCome, HoldsCome, IsCarrying}
use Rattle.rina_ids.specs.Members.{CepIds, DrawsAt}
use Rattle.rina_dif_law.specs.Cloud.{Cloud, Everywhere}
use Rattle.rina_dif_law.specs.Dif.{DifSeen, constants, fac_of}
use Rattle.rina_data.specs.Configs.{Member, cube_by, piece_size}
use Rattle.rina_dif_law.specs.Ids.{Ids, flipped}
use Rattle.rina_dif_law.specs.Numbered.{IsAddressed, IsCounted, IsNumbered, asked_at}
use Rattle.rina_dif_law.specs.Sending.{home}
use Rattle.rina_dif_law.specs.Standing.{AreIds, IsConn, IsJournal, IsOwn, IsStanding}
use Rattle.rina_dif_law.specs.Start.{IsFresh}
use Rattle.rina_dif_law.proofs.Finding.{cube_limits}
use Rattle.rina_dif_law.proofs.Frame.{stands_own}
use Rattle.rina_dif_law.proofs.HeldIds.{both_are_drawn, both_drawn, both_held, free_a, free_b}
use Rattle.rina_dif_law.proofs.Joined.{none_joined}
use Rattle.rina_dif_law.proofs.Numbering.{counts}
use Rattle.rina_dif_law.specs.Lifting.{ticked}
use Rattle.rina_dif_law.proofs.Own.{partner_back}
use Rattle.rina_dif_law.proofs.OwnMade.{own_made}
use Rattle.rina_dif_law.proofs.Pairs.{first_at, first_beside, old_beside, second_at, second_beside, two_at}
use Rattle.rina_rest.specs.Still.{rest_of}
use Rattle.rina_rest.proofs.Slots.{drawn_small}

-- ---- members and nodes

pub test_passes : (members : List Member) (node i : ℕ) (m : Member) → home node members ≡ Some i → slice_get members i ≡ Some m → m.node ≡ node
test_passes members node i m h is =
    let p = position-Some (λ (x : Member). x.node == node) members i m h in
    let at : get_or members i m ≡ m = get_or_from_slice_get members i m m is in
    let passes : eqb m.node node ≡ true = ap (λ (x : Member). eqb x.node node) (sym at) ∙ p.1 in
    elim (eqb_tells m.node node) [ inl t ↦ t.1 | inr f ↦ absurd (let clash = sym passes ∙ f.0 in cc) ]

abbrev pub here_at : ℕ → End → ℕ
here_at node e = cond (eqb e.port.node node) 1 0

drawn_more : (node : ℕ) (ends : List End) (x y : End) → drawn_at node (ends ++ x ∷ y ∷ []) ≡ drawn_at node ends + (here_at node x + here_at node y)
drawn_more node ends x y = sum_by-append (here_at node) ends (x ∷ y ∷ []) ∙ ap (λ k. drawn_at node ends + k) (omega arith)

drawn_no_less : (node : ℕ) (ends : List End) (x y : End) → drawn_at node ends ≤ drawn_at node (ends ++ x ∷ y ∷ [])
drawn_no_less node ends x y = (let is = drawn_more node ends x y in omega (arith, is))

pub one_here : (node : ℕ) (e : End) → e.port.node ≡ node → here_at node e ≡ 1
one_here node e is = elim (eqb_tells e.port.node node) [ inl t ↦ rw t.0 refl | inr f ↦ absurd (f.1 is) ]

drawn_first : (node : ℕ) (ends : List End) (x y : End) → x.port.node ≡ node → drawn_at node ends + 1 ≤ drawn_at node (ends ++ x ∷ y ∷ [])
drawn_first node ends x y is = (let more = drawn_more node ends x y in let one = one_here node x is in omega (arith, more, one))

drawn_second : (node : ℕ) (ends : List End) (x y : End) → y.port.node ≡ node → drawn_at node ends + 1 ≤ drawn_at node (ends ++ x ∷ y ∷ [])
drawn_second node ends x y is = (let more = drawn_more node ends x y in let one = one_here node y is in omega (arith, more, one))

asked_more : (node : ℕ) (ends : List End) (x y : End) → asked_at node (ends ++ x ∷ y ∷ []) ≡ asked_at node ends + (counts node x + counts node y)
asked_more node ends x y = sum_by-append (counts node) ends (x ∷ y ∷ []) ∙ ap (λ k. asked_at node ends + k) (omega arith)

asked_no_less : (node : ℕ) (ends : List End) (x y : End) → asked_at node ends ≤ asked_at node (ends ++ x ∷ y ∷ [])
asked_no_less node ends x y = (let is = asked_more node ends x y in omega (arith, is))

asked_first : (node : ℕ) (ends : List End) (x y : End) → x.port.node ≡ node → x.role ≡ Asker → asked_at node ends + 1 ≤ asked_at node (ends ++ x ∷ y ∷ [])
asked_first node ends x y is role =
    let more = asked_more node ends x y in
    let one : counts node x ≡ 1 = elim (eqb_tells x.port.node node) [ inl t ↦ rw (t.0, role) refl | inr f ↦ absurd (f.1 is) ] in
    omega (arith, more, one)

module _ (d : DifSeen) (lines : List Direction) (below : Seen) (st : IsStanding d lines below) (n : IsNumbered d below) where
  -- a member at its place
  pub same_member : (i k : ℕ) (a b : Member) → slice_get d.config.members i ≡ Some a → slice_get d.config.members k ≡ Some b → a.addr ≡ b.addr → a ≡ b
  same_member i k a b x y addr = (let place = n.members.addrs i k a b x y addr in cc)

  -- the name of the flow that a member asks for next is none that stands
  pub new_name : (node : ℕ) (member : Member) (i : ℕ) (e : End) → MayDraw d node member → At d.ends i e → e.flow ≢ flow_next d node member
  new_name node member i e m is same =
      let c = n.counted i e is in
      let member_is : c.member ≡ member = same_member c.place m.place c.member member c.stands m.stands (c.addr ∙ ap (λ (f : FlowName). f.src) same) in
      let node_is : member.node ≡ node = test_passes d.config.members node m.place member m.at_home m.stands in
      let count : e.flow.count < asked_at c.member.node d.ends = c.count in
      let count' : e.flow.count < asked_at node d.ends = subst (λ (z : ℕ). e.flow.count < asked_at z d.ends) (ap (λ (x : Member). x.node) member_is ∙ node_is) count in
      let at : e.flow.count ≡ asked_at node d.ends = ap (λ (f : FlowName). f.count) same in
      omega (arith, count', at)

-- a direction that starts holds nothing that has not come
pub nothing_come : (d : DifSeen) (below : Seen) (c : Ids) (l : Direction) → IsFresh d c l → (g : Ids) → HoldsCome d.config d.clock below g l
nothing_come d below c l is g = subst (HoldsCome d.config d.clock below g) (sym is.is) (record {
  joined = none_joined (piece_size d.config) (HasCome d.config below g d.clock);
  held = λ p x. absurd x;
  sized = λ p x. absurd x;
})

-- ---- both ends

module _ (d : DifSeen) (lines : List Direction) (below : Seen) (st : IsStanding d lines below) (n : IsNumbered d below) (fixed : Fixed) (of_a of_b : Member) (a_draws : MayDraw d fixed.a of_a) (b_draws : MayDraw d fixed.b of_b) (apart : fixed.a ≢ fixed.b) (scep dcep : ℕ) (draws : DrawsAt d.ids d.clock a_draws.place scep) (draws' : DrawsAt d.ids d.clock b_draws.place dcep) where
  abbrev asker : End
  asker = asker_next d fixed of_a

  abbrev far : End
  far = far_next d fixed of_a

  abbrev ends' : List End
  ends' = d.ends ++ asker ∷ far ∷ []

  abbrev ids : Ids
  ids = ids_next fixed of_a of_b scep dcep

  abbrev conns' : List Ids
  conns' = d.conns ++ ids ∷ flipped ids ∷ []

  fresh : (i : ℕ) (e : End) → At d.ends i e → e.flow ≢ asker.flow
  fresh i e is = new_name d lines below st n fixed.a of_a i e a_draws is

  partners : IsPartner asker far
  partners = record { same_flow = refl; other_role = λ is. cc }

  -- a partner of an end that was there was there, and a partner of a new end is the other one
  old_partner : (i k : ℕ) (a b : End) → At d.ends i a → At ends' k b → b.flow ≡ a.flow → At d.ends k b
  old_partner i k a b x y same = elim (two_at d.ends asker far k b y) [
    | inl o ↦ o
    | inr (inl t) ↦ absurd (fresh i a x (sym same ∙ ap (λ (e : End). e.flow) t.1))
    | inr (inr t) ↦ absurd (fresh i a x (sym same ∙ ap (λ (e : End). e.flow) t.1))
  ]

  has_far : HasPartner ends' asker
  has_far = record { place = suc (length d.ends); other = far; stands = second_at d.ends asker far; partner = partners }

  has_asker : HasPartner ends' far
  has_asker = record { place = length d.ends; other = asker; stands = first_at d.ends asker far; partner = partner_back asker far partners }

  has_still : (e : End) → HasPartner d.ends e → HasPartner ends' e
  has_still e h = record { place = h.place; other = h.other; stands = still_at d.ends (asker ∷ far ∷ []) h.place h.other h.stands; partner = h.partner }

  -- what holds of an old end and of both new ones holds of each
  by_end : (P : End → Type 0) → ((i : ℕ) (e : End) → At d.ends i e → P e) → P asker → P far → (i : ℕ) (e : End) → At ends' i e → P e
  by_end P old one two i e is = elim (two_at d.ends asker far i e is) [
    | inl o ↦ old i e o
    | inr (inl t) ↦ subst P (sym t.1) one
    | inr (inr t) ↦ subst P (sym t.1) two
  ]

  named_both : IsNamed asker far
  named_both = record { peer = refl; its_peer = refl; cube = refl }

  named_back : IsNamed far asker
  named_back = record { peer = refl; its_peer = refl; cube = refl }

  new_whole : (e : End) → e.sent ≡ [] → e.got ≡ [] → e.taken ≡ 0 → IsWhole d.clock e
  new_whole e sent got taken = rw (sent, got, taken) (record { sent = dated_none d.clock; got = dated_none d.clock; taken = omega arith })

  same_ends : (i k : ℕ) (a b : End) → At ends' i a → At ends' k b → a.flow ≡ b.flow → a.role ≡ b.role → i ≡ k
  same_ends i k a b x y flow role = elim (two_at d.ends asker far i a x) [
    | inl o ↦ st.journal.distinct i k a b o (old_partner i k a b o y (sym flow)) flow role
    | inr (inl s) ↦ elim (two_at d.ends asker far k b y) [
      | inl o ↦ absurd (fresh k b o (sym flow ∙ ap (λ (e : End). e.flow) s.1))
      | inr (inl t) ↦ s.0 ∙ sym t.0
      | inr (inr t) ↦ absurd (let clash : Asker ≡ Far = ap (λ (e : End). e.role) (sym s.1) ∙ role ∙ ap (λ (e : End). e.role) t.1 in cc)
    ]
    | inr (inr s) ↦ elim (two_at d.ends asker far k b y) [
      | inl o ↦ absurd (fresh k b o (sym flow ∙ ap (λ (e : End). e.flow) s.1))
      | inr (inl t) ↦ absurd (let clash : Far ≡ Asker = ap (λ (e : End). e.role) (sym s.1) ∙ role ∙ ap (λ (e : End). e.role) t.1 in cc)
      | inr (inr t) ↦ s.0 ∙ sym t.0
    ]
  ]

  named_as : (i k : ℕ) (e other : End) → At ends' i e → At ends' k other → IsPartner e other → IsNamed e other
  named_as i k e other x y p = elim (two_at d.ends asker far i e x) [
    | inl o ↦ st.journal.named i k e other o (old_partner i k e other o y p.same_flow) p
    | inr (inl s) ↦ elim (two_at d.ends asker far k other y) [
      | inl o ↦ absurd (fresh k other o (p.same_flow ∙ ap (λ (z : End). z.flow) s.1))
      | inr (inl t) ↦ absurd (p.other_role (ap (λ (z : End). z.role) (t.1 ∙ sym s.1)))
      | inr (inr t) ↦ rw (s.1, t.1) named_both
    ]
    | inr (inr s) ↦ elim (two_at d.ends asker far k other y) [
      | inl o ↦ absurd (fresh k other o (p.same_flow ∙ ap (λ (z : End). z.flow) s.1))
      | inr (inl t) ↦ rw (s.1, t.1) named_back
      | inr (inr t) ↦ absurd (p.other_role (ap (λ (z : End). z.role) (t.1 ∙ sym s.1)))
    ]
  ]

  bound_journal : IsJournal d.clock ends'
  bound_journal = record {
    distinct = same_ends;
    far = λ i e is role. by_end (λ z. z.role ≡ Far → HasPartner ends' z) (λ k z h r. has_still z (st.journal.far k z h r)) (λ r. cc) (λ r. has_asker) i e is role;
    named = named_as;
    allocated = λ i e is state. by_end (λ z. z.state ≡ Allocated → HasPartner ends' z) (λ k z h r. has_still z (st.journal.allocated k z h r)) (λ r. has_far) (λ r. has_asker) i e is state;
    met = λ i j e x is got. by_end (λ z. slice_get z.got j ≡ Some x → HasPartner ends' z) (λ k z h g. has_still z (st.journal.met k j z x h g)) (λ g. has_far) (λ g. has_asker) i e is got;
    whole = λ i e is. by_end (IsWhole d.clock) (λ k z h. st.journal.whole k z h) (new_whole asker refl refl refl) (new_whole far refl refl refl) i e is;
  }

  ports_apart : (i k : ℕ) (a b : End) → At ends' i a → At ends' k b → a.port ≡ b.port → i ≡ k
  ports_apart i k a b x y port = elim (two_at d.ends asker far i a x) [
    | inl o ↦ elim (two_at d.ends asker far k b y) [
      | inl q ↦ st.ports.apart i k a b o q port
      | inr (inl t) ↦ absurd (fresh_port d.config.fac d.config.fac fixed.a (fac_of d) i a st.ports o (port ∙ ap (λ (e : End). e.port) t.1))
      | inr (inr t) ↦ absurd (fresh_port d.config.fac d.config.fac fixed.b (fac_of d) i a st.ports o (port ∙ ap (λ (e : End). e.port) t.1))
    ]
    | inr (inl s) ↦ elim (two_at d.ends asker far k b y) [
      | inl q ↦ absurd (fresh_port d.config.fac d.config.fac fixed.a (fac_of d) k b st.ports q (sym port ∙ ap (λ (e : End). e.port) s.1))
      | inr (inl t) ↦ s.0 ∙ sym t.0
      | inr (inr t) ↦ absurd (apart (ap (λ (e : End). e.port.node) (sym s.1) ∙ ap (λ p. p.node) port ∙ ap (λ (e : End). e.port.node) t.1))
    ]
    | inr (inr s) ↦ elim (two_at d.ends asker far k b y) [
      | inl q ↦ absurd (fresh_port d.config.fac d.config.fac fixed.b (fac_of d) k b st.ports q (sym port ∙ ap (λ (e : End). e.port) s.1))
      | inr (inl t) ↦ absurd (apart (sym (ap (λ (e : End). e.port.node) (sym s.1) ∙ ap (λ p. p.node) port ∙ ap (λ (e : End). e.port.node) t.1)))
      | inr (inr t) ↦ s.0 ∙ sym t.0
    ]
  ]

  bound_ports : HasPorts d.config.fac (fac_of (record d { ends = ends' }))
  bound_ports = record {
    own = λ i e is. by_end (λ z. z.port.fac ≡ d.config.fac) (λ k z h. st.ports.own k z h) refl refl i e is;
    apart = ports_apart;
    drawn = λ i e is. by_end (λ z. z.port.n ≤ drawn_at z.port.node ends') (λ k z h. (let was = st.ports.drawn k z h in let more = drawn_no_less z.port.node d.ends asker far in omega (arith, was, more))) (drawn_first fixed.a d.ends asker far refl) (drawn_second fixed.b d.ends asker far refl) i e is;
  }

  -- the connections

  -- an end and its ids were there, or are those of one of the new ends
  conn_cases : (i : ℕ) (e : End) (c : Ids) → IsConn ends' conns' i e c → IsConn d.ends d.conns i e c ⊎ (((i ≡ length d.ends) × (e ≡ asker) × (c ≡ ids)) ⊎ ((i ≡ suc (length d.ends)) × (e ≡ far) × (c ≡ flipped ids)))
  conn_cases i e c x = elim (two_at d.ends asker far i e x.end) [
    | inl o ↦ inl (record { end = o; ids_are = old_beside d.ends d.conns ids (flipped ids) i e c st.own.alike o x.ids_are })
    | inr (inl t) ↦ inr (inl (t.0, t.1, first_beside d.ends d.conns ids (flipped ids) i c st.own.alike t.0 x.ids_are))
    | inr (inr t) ↦ inr (inr (t.0, t.1, second_beside d.ends d.conns ids (flipped ids) i c st.own.alike t.0 x.ids_are))
  ]

  -- two members have two addresses
  pub addrs_apart : of_a.addr ≡ of_b.addr → ⊥
  addrs_apart same =
      let is : of_a ≡ of_b = same_member d lines below st n a_draws.place b_draws.place of_a of_b a_draws.stands b_draws.stands same in
      let a_is = test_passes d.config.members fixed.a a_draws.place of_a a_draws.at_home a_draws.stands in
      let b_is = test_passes d.config.members fixed.b b_draws.place of_b b_draws.at_home b_draws.stands in
      apart (sym a_is ∙ ap (λ (x : Member). x.node) is ∙ b_is)

  -- what a member draws fits its field
  cep_fits : (node : ℕ) (member : Member) (may : MayDraw d node member) (cep : ℕ) → DrawsAt d.ids d.clock may.place cep → cep < 2 ^ (8 * d.config.widths.cep)
  cep_fits node member may cep drawn =
      let room = may.room in
      let ceps = n.members.ceps in
      let few : length drawn.ids.1 ≤ drawn_at member.node d.ends = n.drawn.few may.place member drawn.ids may.stands drawn.are_ids in
      let few' : length drawn.ids.1 ≤ drawn_at node d.ends = subst (λ (z : ℕ). length drawn.ids.1 ≤ drawn_at z d.ends) (test_passes d.config.members node may.place member may.at_home may.stands) few in
      let small = drawn_small drawn.ids.0 d.clock drawn.ids.1 cep drawn.least in
      omega (arith, room, ceps, few', small)

  -- the CEP-ids of the members after it
  abbrev pub held' : List CepIds
  held' = both_drawn d.config d.clock d.ids a_draws.place b_draws.place scep dcep of_a of_b n.members.addrs a_draws.stands b_draws.stands (λ is. addrs_apart (sym is)) draws draws'

  ids_fit : (e : End) → e.cube ≡ fixed.cube → AreIds d.config e ids
  ids_fit e cube =
      let small = cep_fits fixed.a of_a a_draws scep draws in
      let small' = cep_fits fixed.b of_b b_draws dcep draws' in
      record { own = n.members.fit a_draws.place of_a a_draws.stands; far = n.members.fit b_draws.place of_b b_draws.stands; scep = small; dcep = small'; qos = sym cube }

  ids_fit_back : (e : End) → e.cube ≡ fixed.cube → AreIds d.config e (flipped ids)
  ids_fit_back e cube = (let are = ids_fit e cube in record { own = are.far; far = are.own; scep = are.dcep; dcep = are.scep; qos = are.qos })

  module _ (line back : Direction) (is_fresh : IsFresh d ids line) (is_fresh_back : IsFresh d (flipped ids) back) where
    abbrev lines' : List Direction
    lines' = lines ++ line ∷ back ∷ []

    abbrev cloud : ℕ → Pdu → Type 0
    cloud = Cloud Everywhere d.config d.processes below

    one_cube : (x : Cube) → cube_by ids.qos d.config.cubes ≡ Some x → is_fresh.cube ≡ x
    one_cube x is = (let here = is_fresh.is_cube in cc)

    bound_own : IsOwn d.config d.clock cloud held' ends' conns' lines'
    bound_own = own_made d.config d.clock cloud cloud d.ids d.ends d.conns lines st.own asker far ids line back is_fresh.cube (record {
      covers = λ death pdu x alive. (death, omega arith, x);
      is_cube = is_fresh.is_cube;
      limits = cube_limits d.config ids.qos is_fresh.cube st.config is_fresh.is_cube;
      fresh = fresh;
      same_flow = refl;
      asks = refl;
      answers = refl;
      asker_up = refl;
      end_up = refl;
      asker_cube = refl;
      end_cube = refl;
      apart = λ is. addrs_apart (sym is);
      free = free_a d.config d.clock d.ids a_draws.place b_draws.place scep dcep of_a of_b n.members.addrs a_draws.stands b_draws.stands (λ is. addrs_apart (sym is)) draws draws' st.own.flows st.own.kept;
      far_free = free_b d.config d.clock d.ids a_draws.place b_draws.place scep dcep of_a of_b n.members.addrs a_draws.stands b_draws.stands (λ is. addrs_apart (sym is)) draws draws' st.own.flows st.own.kept;
      asker_blank = record { sent = refl; got = refl; taken = refl };
      end_blank = record { sent = refl; got = refl; taken = refl };
      asker_ids = ids_fit asker refl;
      end_ids = ids_fit_back far refl;
      there_is = is_fresh.is;
      back_is = is_fresh_back.is ∙ ap (λ (x : Cube). ticked d.clock (start (constants d.config x (flipped ids)))) (sym (one_cube is_fresh_back.cube is_fresh_back.is_cube));
    }) held' (both_held d.config d.clock d.ids a_draws.place b_draws.place scep dcep of_a of_b n.members.addrs a_draws.stands b_draws.stands (λ is. addrs_apart (sym is)) draws draws' st.own.flows (rest_of (constants d.config is_fresh.cube ids)) st.own.kept)

    module _ (names : List Registered) where
      abbrev d' : DifSeen
      d' = record d { ends = ends'; conns = conns'; ids = held'; names = names }

      bound_standing : IsStanding d' lines' below
      bound_standing = stands_own d lines lines' below ends' conns' held' d.waiting names st bound_journal bound_ports bound_own

      bound_carrying : IsCarrying d lines below → IsCarrying d' lines' below
      bound_carrying c = record {
        entries = λ i j e g x conn got. elim (conn_cases i e g conn) [
          | inl o ↦ c.entries i j e g x o got
          | inr (inl t) ↦ absurd (let none : slice_get [] j ≡ Some x = ap (λ (z : End). slice_get z.got j) (sym t.1) ∙ got in cc)
          | inr (inr t) ↦ absurd (let none : slice_get [] j ≡ Some x = ap (λ (z : End). slice_get z.got j) (sym t.1) ∙ got in cc)
        ];
        holding = λ i from e g l conn h. elim (conn_cases i e g conn) [
          | inl o ↦
              let was = old_partner i from e h.partner o.end h.is_partner (sym h.partners.same_flow) in
              c.holding i from e g l o (record { partner = h.partner; is_partner = was; partners = h.partners; is_line = old_beside d.ends lines line back from h.partner l st.own.lines_alike was h.is_line })
          | inr t ↦ elim (two_at d.ends asker far from h.partner h.is_partner) [
            | inl q ↦ absurd (fresh from h.partner q (sym h.partners.same_flow ∙ flow_of_new e t))
            | inr (inl q) ↦ nothing_come d below ids l (subst (IsFresh d ids) (sym (first_beside d.ends lines line back from l st.own.lines_alike q.0 h.is_line)) is_fresh) g
            | inr (inr q) ↦ nothing_come d below (flipped ids) l (subst (IsFresh d (flipped ids)) (sym (second_beside d.ends lines line back from l st.own.lines_alike q.0 h.is_line)) is_fresh_back) g
          ]
        ];
      }
        where
          flow_of_new : {A B C D : Type 0} → (e : End) → (A × (e ≡ asker) × B) ⊎ (C × (e ≡ far) × D) → e.flow ≡ asker.flow
          flow_of_new e (inl t) = ap (λ (z : End). z.flow) t.1
          flow_of_new e (inr t) = ap (λ (z : End). z.flow) t.1

      addressed_a : (e : End) → e ≡ asker → IsAddressed d.config e ids
      addressed_a e is = rw is (record { place = a_draws.place; member = of_a; at_home = a_draws.at_home; stands = a_draws.stands; addr = refl })

      addressed_b : (e : End) → e ≡ far → IsAddressed d.config e (flipped ids)
      addressed_b e is = rw is (record { place = b_draws.place; member = of_b; at_home = b_draws.at_home; stands = b_draws.stands; addr = refl })

      counted_new : (e : End) → e.flow ≡ flow_next d fixed.a of_a → IsCounted d.config ends' e
      counted_new e is =
          let node_is : of_a.node ≡ fixed.a = test_passes d.config.members fixed.a a_draws.place of_a a_draws.at_home a_draws.stands in
          let more : asked_at fixed.a d.ends + 1 ≤ asked_at fixed.a ends' = asked_first fixed.a d.ends asker far refl refl in
          let count : e.flow.count ≡ asked_at fixed.a d.ends = ap (λ (f : FlowName). f.count) is in
          let within : e.flow.count < asked_at fixed.a ends' = omega (arith, more, count) in
          record { place = a_draws.place; member = of_a; stands = a_draws.stands; addr = ap (λ (f : FlowName). f.src) (sym is); count = subst (λ (z : ℕ). e.flow.count < asked_at z ends') (sym node_is) within }

      bound_numbered : IsNumbered d' below
      bound_numbered = record {
        members = n.members;
        addressed = λ i e g conn. elim (conn_cases i e g conn) [
          | inl o ↦ n.addressed i e g o
          | inr (inl t) ↦ rw t.2 (addressed_a e t.1)
          | inr (inr t) ↦ rw t.2 (addressed_b e t.1)
        ];
        counted = λ i e is. by_end (IsCounted d.config ends') (λ k z h. still_counted z (n.counted k z h)) (counted_new asker refl) (counted_new far refl) i e is;
        drawn = both_are_drawn d.config d.clock d.ids a_draws.place b_draws.place scep dcep of_a of_b n.members.addrs a_draws.stands b_draws.stands (λ is. addrs_apart (sym is)) draws draws' d.ends ends' n.drawn (λ node. drawn_no_less node d.ends asker far) (drawn_first of_a.node d.ends asker far (sym (test_passes d.config.members fixed.a a_draws.place of_a a_draws.at_home a_draws.stands))) (drawn_second of_b.node d.ends asker far (sym (test_passes d.config.members fixed.b b_draws.place of_b b_draws.at_home b_draws.stands)));
        named = λ death pdu x. elim (n.named death pdu x) [
          | inl none ↦ inl none
          | inr of ↦ inr (record { at = of.at; ids = of.ids; stands = still_at d.conns (ids ∷ flipped ids ∷ []) of.at of.ids of.stands; src = of.src; scep = of.scep })
        ];
      }
        where
          still_counted : (e : End) → IsCounted d.config d.ends e → IsCounted d.config ends' e
          still_counted e c = (let was = c.count in let more = asked_no_less c.member.node d.ends asker far in record { place = c.place; member = c.member; stands = c.stands; addr = c.addr; count = omega (arith, was, more) })

-- ---- what a fixed flow keeps

pub bound_stands : (d : DifSeen) (lines : List Direction) (below : Seen) (fixed : Fixed) (d' : DifSeen) (lines' : List Direction) → IsStanding d lines below → IsNumbered d below → IsBound d lines fixed d' lines' → IsStanding d' lines' below
bound_stands d lines below fixed d' lines' st n s = rw (s.new_is, s.lines_are) (bound_standing d lines below st n fixed s.of_a s.of_b s.at_a s.at_b s.apart s.scep s.dcep s.draws_a s.draws_b s.line s.back s.fresh s.fresh_back _)

pub bound_carries : (d : DifSeen) (lines : List Direction) (below : Seen) (fixed : Fixed) (d' : DifSeen) (lines' : List Direction) → IsStanding d lines below → IsNumbered d below → IsCarrying d lines below → IsBound d lines fixed d' lines' → IsCarrying d' lines' below
bound_carries d lines below fixed d' lines' st n c s = rw (s.new_is, s.lines_are) (bound_carrying d lines below st n fixed s.of_a s.of_b s.at_a s.at_b s.apart s.scep s.dcep s.draws_a s.draws_b s.line s.back s.fresh s.fresh_back _ c)

pub bound_numbers : (d : DifSeen) (lines : List Direction) (below : Seen) (fixed : Fixed) (d' : DifSeen) (lines' : List Direction) → IsStanding d lines below → IsNumbered d below → IsBound d lines fixed d' lines' → IsNumbered d' below
bound_numbers d lines below fixed d' lines' st n s = rw s.new_is (bound_numbered d lines below st n fixed s.of_a s.of_b s.at_a s.at_b s.apart s.scep s.dcep s.draws_a s.draws_b s.line s.back s.fresh s.fresh_back _)

pub bound_later : (d : DifSeen) (lines : List Direction) (fixed : Fixed) (d' : DifSeen) (lines' : List Direction) → IsBound d lines fixed d' lines' → IsLaterFac d.clock d'.clock (fac_of d) (fac_of d')
bound_later d lines fixed d' lines' s = rw s.new_is (record { ends = ends_more d.clock d.clock d.ends _; cubes = refl })
