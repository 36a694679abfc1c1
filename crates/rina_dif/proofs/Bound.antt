-- A fixed flow is made.
use Rattle.std.proofs.Common.{◌≡◌, ◌∙◌, ℕ, ◌+◌, ◌*◌, ◌^◌, ◌<◌, ◌≤◌, ◌&&◌, ◌||◌, ◌==◌, not, Bool, true, false, cond, eqb, List, [], ◌∷◌, ◌++◌, length, map, slice_get, Option, Some, None, option_map, Result, Ok, Err, refl, sym, ap, subst, arith, inl, inr}
use Rattle.std.specs.Prelude.{OnOk}
use Rattle.std.specs.List.{list_any, position_or_len}
use Rattle.std.proofs.lemmas.Bool.Decides.{eqb_tells, nat_tests}
use Rattle.std.proofs.lemmas.List.Sums.{sum_by-le-sum_by}
use Rattle.std.proofs.lemmas.Bool.{eqb-true}
use Rattle.std.proofs.lemmas.List.Quantifiers.{position-Some}
use Rattle.std.proofs.lemmas.Option.{get_or_from_slice_get, same_Some, slice_get-map, slice_get_within}
use Rattle.rina_base.specs.declared.memory.Memory.{Memory as NoMemory}
use Rattle.rina_base.specs.declared.number.FlowName.{FlowName}
use Rattle.rina_base.specs.declared.number.Port.{Port}
use Rattle.rina_conn.specs.declared.form.Peer.{Peer}
use Rattle.rina_cube.specs.declared.Cube.{Cube}
use Rattle.rina_iface.specs.declared.ask.Fixed.{Fixed}
use Rattle.rina_iface.specs.declared.ends.End.{End}
use Rattle.rina_iface.specs.declared.error.AllocateError.{AllocateError}
use Rattle.rina_iface.specs.declared.error.AllocateError.TheVariants.{Memory}
use Rattle.rina_iface.specs.declared.state.PortState.TheVariants.{Allocated}
use Rattle.rina_iface.specs.declared.state.Role.TheVariants.{Asker, Far}
use Rattle.rina_iface.specs.Allocate.{new_end, next_port}
use Rattle.rina_iface.specs.Bind.{Binds, CanBind, with_name_once}
use Rattle.rina_iface.specs.Bind.{IsBound as IsBoundThere}
use Rattle.rina_iface.specs.Ends.{drawn_at}
use Rattle.rina_iface.specs.Seen.{Fac, Offer, Seen, cube_in, is_member, with_fac}
use Rattle.rina_law.specs.Direction.{Direction, start}
use Rattle.rina_pci.specs.Spelling.{IsWidth}
use Rattle.rina_data.specs.declared.settings.Member.{Member as Kept}
use Rattle.rina_data.specs.declared.settings.Settings.{Settings}
use Rattle.rina_dif_law.specs.Binding.{IsBound, asker_next, far_next, flow_next, ids_next}
use Rattle.rina_data.specs.Configs.{Config, Member, config_of, cube_by, greatest, member_of, piece_size}
use Rattle.rina_dif_law.specs.Dif.{DifSeen, constants, fac_of, offer_of}
use Rattle.rina_dif_law.specs.Ids.{Ids, flipped}
use Rattle.rina_dif_law.specs.Lifting.{ticked}
use Rattle.rina_dif_law.specs.Numbered.{AreMembers, asked_at, is_asker}
use Rattle.rina_dif_law.specs.Sending.{home}
use Rattle.rina_dif_law.specs.Standing.{IsConfig}
use Rattle.rina_dif_law.specs.Start.{IsFresh}
use Rattle.rina_dif_law.proofs.Binding.{bound_carries, bound_later, bound_numbers, bound_stands, new_name}
use Rattle.rina_data.proofs.Finding.{there}
use Rattle.rina_dif_law.proofs.Founding.{bound_accounted}
use Rattle.rina_dif_law.proofs.Keepers.{facility, offered_by}
use Rattle.rina_dif_law.proofs.Numbering.{counts}
use Rattle.rina_dif_law.proofs.Warranted.{bound_written}
use Rattle.rina_flows.specs.declared.flows.Flows.{Flows}
use Rattle.rina_flows.specs.Adding.{Adds, IsNewFlow, begun_now, turned}
use Rattle.rina_flows.specs.Tied.{conns_of, ids_by}
use Rattle.rina_dif.specs.declared.fixed_flows.NextEnd.{NextEnd}
use Rattle.rina_dif.specs.declared.dif.Dif.{Dif}
use Rattle.rina_ids.specs.Ids.{free_id}
use Rattle.rina_ids.specs.Members.{CepIds, DrawsAt, with_drawn}
use Rattle.rina_rest.proofs.Slots.{free_there}
use Rattle.rina_dif.specs.Binding.{AddsFlow, BindsAt, BindsTo, Draws, HaveDrawn, MayBind, SomeDraws, noting}
use Rattle.rina_dif.specs.Facade.{GoesOn, IsShownAs, StaysStanding, shown_as}
use Rattle.rina_dif.specs.Holding.{Holds, Stands}
use Rattle.rina_dif.specs.Shown.{seen_of}
use Rattle.rina_dif.specs.Whole.{IsDif}
use Rattle.rina_dif.proofs.Enrolled.{member_there, stay_same}
use Rattle.rina_dif.proofs.Refused.{members_there}
use Rattle.rina_dif.proofs.Causing.{bound_caused}
use Rattle.rina_dif.proofs.Facing.{same_goes_on, unchanged}

-- Numbers

power_small : (w : ℕ) → IsWidth w → 2 ^ (8 * w) ≤ 4294967296
power_small w (inl e) = rw e (omega arith)
power_small w (inr (inl e)) = rw e (omega arith)
power_small w (inr (inr e)) = rw e (omega arith)

admits_small : (g : Config) → IsConfig g → AreMembers g → g.admits < 4294967296
admits_small g config members = (let ceps = members.ceps in let small = power_small g.widths.cep config.widths.cep in omega (arith, ceps, small))

-- the number of the port that is drawn next is one
pub next_small : (d : Dif) (node n : ℕ) → IsDif d → SomeDraws d node → n ≡ drawn_at node d.flows.journal.ends → n + 1 < 4294967296
next_small d node n is draws at =
    let room = draws.1.room in
    let small = admits_small (config_of d.settings) is.stands.1.standing.config is.stands.1.numbered.members in
    omega (arith, room, small, at)

-- a flow that was asked for has a port there
abbrev here_at : ℕ → End → ℕ
here_at node e = cond (eqb e.port.node node) 1 0

one_of : (node : ℕ) (e : End) → counts node e ≤ here_at node e
one_of node e = both (eqb e.port.node node) (is_asker e.role)
  where
    both : (a b : Bool) → cond (a && b) 1 0 ≤ cond a 1 0
    both true true = omega arith
    both true false = omega arith
    both false b = omega arith

pub asked_small : (node : ℕ) (ends : List End) → asked_at node ends ≤ drawn_at node ends
asked_small node ends = sum_by-le-sum_by (counts node) (here_at node) ends (one_of node)

-- What a member draws

pub draws_at : (d : Dif) (node place n cep : ℕ) (m : Kept) → Some place ≡ home node (config_of d.settings).members → slice_get d.settings.members place ≡ Some m → n ≡ drawn_at node d.flows.journal.ends → DrawsAt d.ids d.clock place cep → Draws d node (record { place = place; addr = m.addr; port = record { fac = d.settings.fac; node = node; n = n + 1 }; cep = cep })
draws_at d node place n cep m here is at draws_id member draws =
    let place_is : draws.place ≡ place = some_same (home node (config_of d.settings).members) draws.place place draws.at_home (sym here) in
    let there : slice_get (config_of d.settings).members draws.place ≡ Some (member_of m) = ap (slice_get (config_of d.settings).members) place_is ∙ slice_get-map member_of d.settings.members place ∙ ap (option_map member_of) is in
    let same : member_of m ≡ member = member_same (slice_get (config_of d.settings).members draws.place) (member_of m) member there draws.stands in
    record { place = sym place_is; addr = ap (λ (x : Member). x.addr) same; port = ap (λ (k : ℕ). record { fac = d.settings.fac; node = node; n = k + 1 }) at; cep = draws_id }
  where
    some_same : (o : Option ℕ) (a b : ℕ) → o ≡ Some a → o ≡ Some b → a ≡ b
    some_same o a b x y = cc

    member_same : (o : Option Member) (a b : Member) → o ≡ Some a → o ≡ Some b → a ≡ b
    member_same o a b x y = cc

-- Both ends stand behind the flows

pub adds_flow : (settings : Settings) (id piece max : ℕ) (cube : Cube) (peer : Peer) (asker far : End) (old new : Flows) (r : Result (Unit {0}) NoMemory) → cube_by id settings.cubes ≡ Some cube → piece ≡ piece_size (config_of settings) → max ≡ greatest (config_of settings)
    → OnOk r (new.journal.ends ≡ old.journal.ends ++ asker ∷ far ∷ []) → OnOk r (Adds cube piece max peer asker far old new) → OnOk r (AddsFlow settings id peer asker far old new)
adds_flow settings id piece max cube peer asker far old new (Ok done) is_cube piece_is max_is ends adds =
    let g = config_of settings in
    record {
      cube = cube;
      is_cube = is_cube;
      ends = ends;
      adds = subst (λ (m : ℕ). Adds cube (piece_size g) m peer asker far old new) max_is (subst (λ (p : ℕ). Adds cube p max peer asker far old new) piece_is adds);
    }
adds_flow settings id piece max cube peer asker far old new (Err e) is_cube piece_is max_is ends adds = ends

-- The flow

-- the cube that is found has the id that was asked for
pub its_id : (id : ℕ) (cubes : List Cube) (cube : Cube) → cube_by id cubes ≡ Some cube → cube.id ≡ id
its_id id [] cube h = cc
its_id id (c ∷ cs) cube h = elim (eqb_tells c.id id) [
  | inl t ↦ (let is : Some c ≡ Some cube = rw t.0 at h in ap (λ (x : Cube). x.id) (sym (some_cube c cube is)) ∙ t.1)
  | inr f ↦ its_id id cs cube (rw f.0 at h)
]
  where
    some_cube : (a b : Cube) → Some a ≡ Some b → a ≡ b
    some_cube a b e = cc

module _ (d : Dif) (fixed : Fixed) (may : MayBind d fixed) (near other : NextEnd) (a_drew : Draws d fixed.a near) (b_drew : Draws d fixed.b other) where
  abbrev seen : DifSeen
  seen = seen_of d

  abbrev peer : Peer
  peer = record { own = near.addr; far = other.addr; scep = near.cep; dcep = other.cep }

  abbrev asker : End
  asker = asker_next seen fixed may.of_a

  abbrev far : End
  far = far_next seen fixed may.of_a

  -- the ends as they are made
  pub asker_is : (flow : FlowName) → flow ≡ record { src = near.addr; tick = d.clock; count = asked_at fixed.a d.flows.journal.ends } → new_end flow Asker near.port fixed.a_app fixed.b_app fixed.cube Allocated ≡ asker
  asker_is flow is =
      let a = a_drew may.of_a may.at_a in
      let flow_is : flow ≡ flow_next seen fixed.a may.of_a = is ∙ ap (λ (x : ℕ). record { src = x; tick = d.clock; count = asked_at fixed.a d.flows.journal.ends }) a.addr in
      (λ i. new_end (flow_is i) Asker (a.port i) fixed.a_app fixed.b_app fixed.cube Allocated)

  pub far_is : (flow : FlowName) → flow ≡ record { src = near.addr; tick = d.clock; count = asked_at fixed.a d.flows.journal.ends } → new_end flow Far other.port fixed.b_app fixed.a_app fixed.cube Allocated ≡ far
  far_is flow is =
      let a = a_drew may.of_a may.at_a in
      let b = b_drew may.of_b may.at_b in
      let flow_is : flow ≡ flow_next seen fixed.a may.of_a = is ∙ ap (λ (x : ℕ). record { src = x; tick = d.clock; count = asked_at fixed.a d.flows.journal.ends }) a.addr in
      (λ i. new_end (flow_is i) Far (b.port i) fixed.b_app fixed.a_app fixed.cube Allocated)

  -- the DIF with the flow
  abbrev with_flow : Flows → List CepIds → Dif
  with_flow flows held = record d { flows = flows; ids = held; names = with_name_once d.names fixed.b fixed.b_app }

  binds_with : (flows : Flows) (held : List CepIds) → AddsFlow d.settings fixed.cube peer asker far d.flows flows → HaveDrawn d.ids d.clock (near.place, other.place) peer held → (lines : List Direction) (below : Seen) → Holds d lines below → BindsAt d lines below fixed (near.port, other.port) (with_flow flows held)
  binds_with flows held added drew lines below h =
      let g = config_of d.settings in
      let d' = with_flow flows held in
      let a = a_drew may.of_a may.at_a in
      let b = b_drew may.of_b may.at_b in
      let id = its_id fixed.cube d.settings.cubes added.cube added.is_cube in
      let ids : Ids = ids_next fixed may.of_a may.of_b near.cep other.cep in
      let ids_is : ids_by peer added.cube.id ≡ ids = (λ i. record { own = a.addr i; far = b.addr i; scep = near.cep; dcep = other.cep; qos = id i }) in
      let draws_a : DrawsAt d.ids d.clock may.at_a.place near.cep = record { ids = drew.a.ids; are_ids = subst (λ (k : ℕ). slice_get d.ids k ≡ Some drew.a.ids) a.place drew.a.are_ids; least = drew.a.least } in
      let draws_b : DrawsAt d.ids d.clock may.at_b.place other.cep = record { ids = drew.b.ids; are_ids = subst (λ (k : ℕ). slice_get d.ids k ≡ Some drew.b.ids) b.place drew.b.are_ids; least = drew.b.least } in
      let held_is : held ≡ with_drawn may.at_b.place drew.b.ids other.cep (with_drawn may.at_a.place drew.a.ids near.cep d.ids) = drew.after_is ∙ (λ i. with_drawn (b.place i) drew.b.ids other.cep (with_drawn (a.place i) drew.a.ids near.cep d.ids)) in
      let back_is : ids_by (turned peer) added.cube.id ≡ flipped ids = ap flipped ids_is in
      let new : IsNewFlow g added.cube (piece_size g) (greatest g) d.flows.journal.ends asker far = record {
        piece_is = refl;
        max_is = refl;
        is_cube = ap (λ (x : ℕ). cube_by x g.cubes) id ∙ added.is_cube;
        fresh = λ i e is. new_name seen lines below h.standing h.numbered fixed.a may.of_a i e may.at_a is;
        same_flow = refl;
        got = refl;
        far_got = refl;
      } in
      let has = added.adds g d.clock lines h.tied new in
      let line = begun_now g d.clock added.cube peer in
      let back = begun_now g d.clock added.cube (turned peer) in
      let lines' : List Direction = lines ++ line ∷ back ∷ [] in
      let begins : (x y : Ids) → x ≡ y → y.qos ≡ fixed.cube → IsFresh seen y (ticked d.clock (start (constants g added.cube x))) = λ x y same qos. record { cube = added.cube; is_cube = ap (λ (q : ℕ). cube_by q g.cubes) qos ∙ added.is_cube; is = ap (λ (z : Ids). ticked d.clock (start (constants g added.cube z))) same } in
      let conns : conns_of flows.conns ≡ conns_of d.flows.conns ++ ids ∷ flipped ids ∷ [] = has.ids ∙ (λ i. conns_of d.flows.conns ++ ids_is i ∷ back_is i ∷ []) in
      let bound : IsBound seen lines fixed (seen_of d') lines' = record {
        apart = may.apart;
        cube = added.cube;
        is_cube = added.is_cube;
        of_a = may.of_a;
        of_b = may.of_b;
        at_a = may.at_a;
        at_b = may.at_b;
        scep = near.cep;
        dcep = other.cep;
        draws_a = draws_a;
        draws_b = draws_b;
        line = line;
        back = back;
        fresh = begins (ids_by peer added.cube.id) ids ids_is refl;
        fresh_back = begins (ids_by (turned peer) added.cube.id) (flipped ids) back_is refl;
        lines_are = refl;
        new_is = (λ i. record seen { ends = added.ends i; conns = conns i; ids = held_is i; names = with_name_once d.names fixed.b fixed.b_app });
      } in
      record {
        lines' = lines';
        bound = bound;
        a_port = a.port ∙ ap (λ (f : ℕ). next_port (fac_of seen) f fixed.a) may.fac;
        b_port = b.port ∙ ap (λ (f : ℕ). next_port (fac_of seen) f fixed.b) may.fac;
        holds = record {
          tied = has.tied;
          standing = bound_stands seen lines below fixed (seen_of d') lines' h.standing h.numbered bound;
          carrying = bound_carries seen lines below fixed (seen_of d') lines' h.standing h.numbered h.carrying bound;
          numbered = bound_numbers seen lines below fixed (seen_of d') lines' h.standing h.numbered bound;
          accounted = bound_accounted seen lines below fixed (seen_of d') lines' h.standing h.numbered h.accounted bound;
          caused = bound_caused seen lines below fixed (seen_of d') lines' h.standing bound h.caused;
          written_off = bound_written seen lines fixed (seen_of d') lines' h.written_off bound;
          housed = h.housed;
          managed = h.managed;
          enrolled = h.enrolled;
          connected = h.connected;
          flooded = h.flooded;
        };
      }

  -- whatever ends were made, where they are these
  pub binds : (x y : End) (d' : Dif) → x ≡ asker → y ≡ far → AddsFlow d.settings x.cube peer x y d.flows d'.flows → HaveDrawn d.ids d.clock (near.place, other.place) peer d'.ids → d' ≡ record d { flows = d'.flows; ids = d'.ids; names = with_name_once d.names y.port.node y.app } → (lines : List Direction) (below : Seen) → Holds d lines below → BindsTo d lines below fixed (Ok (near.port, other.port)) d'
  binds x y d' x_is y_is added drew is lines below h =
      let added' : AddsFlow d.settings fixed.cube peer asker far d.flows d'.flows = subst (λ (e : End). AddsFlow d.settings fixed.cube peer asker e d.flows d'.flows) y_is (subst (λ (e : End). AddsFlow d.settings e.cube peer e y d.flows d'.flows) x_is added) in
      let is' : d' ≡ with_flow d'.flows d'.ids = is ∙ ap (λ (e : End). record d { flows = d'.flows; ids = d'.ids; names = with_name_once d.names e.port.node e.app }) y_is in
      subst (BindsAt d lines below fixed (near.port, other.port)) (sym is') (binds_with d'.flows d'.ids added' drew lines below h)

pub binds_none : (d : Dif) (fixed : Fixed) (lines : List Direction) (below : Seen) → Holds d lines below → BindsTo d lines below fixed (Err Memory) d
binds_none d fixed lines below h = (refl, h)

-- Under the condition of every facility

any_place : (node : ℕ) (ms : List Member) → list_any (λ (k : ℕ). k == node) (map (λ (m : Member). m.node) ms) ≡ true → position_or_len (λ (m : Member). m.node == node) ms < length ms
any_place node [] h = cc
any_place node (m ∷ ms) h = go (eqb m.node node) (any_place node ms) h
  where
    go : (b : Bool) → (list_any (λ (k : ℕ). k == node) (map (λ (x : Member). x.node) ms) ≡ true → position_or_len (λ (x : Member). x.node == node) ms < length ms) → (b || list_any (λ (k : ℕ). k == node) (map (λ (x : Member). x.node) ms)) ≡ true → cond (not b) (1 + position_or_len (λ (x : Member). x.node == node) ms) 0 < length (m ∷ ms)
    go true rest e = omega arith
    go false rest e = (let r = rest e in omega (arith, r))

home_there : (node : ℕ) (ms : List Member) → position_or_len (λ (m : Member). m.node == node) ms < length ms → home node ms ≡ Some (position_or_len (λ (m : Member). m.node == node) ms)
home_there node ms lt = grind (arith, lt, nat_tests)

-- a node of the DIF has a member
has_member : (node : ℕ) (ms : List Member) → is_member (map (λ (m : Member). m.node) ms) node ≡ true → (place : ℕ) × (member : Member) × (home node ms ≡ Some place) × (slice_get ms place ≡ Some member)
has_member node ms h =
    let lt = any_place node ms h in
    let m = there ms (position_or_len (λ (x : Member). x.node == node) ms) lt in
    (position_or_len (λ (x : Member). x.node == node) ms, m.0, home_there node ms lt, m.1)

cube_there : (o : Option Cube) (c : Offer) → option_map offer_of o ≡ Some c → (cube : Cube) × (o ≡ Some cube)
cube_there None c h = cc
cube_there (Some cube) c h = (cube, refl)

fac_same : (o : Option Fac) (a b : Fac) → o ≡ Some a → o ≡ Some b → a ≡ b
fac_same o a b x y = cc

pub may_bind : (d : Dif) (fixed : Fixed) (s : Seen) → IsDif d → d.settings.fac ≡ fixed.fac → IsShownAs s fixed.fac d → CanBind s fixed → MayBind d fixed
may_bind d fixed s is fac shows can =
    let f : can.facility ≡ fac_of (seen_of d) = fac_same (slice_get s.facs fixed.fac) can.facility (fac_of (seen_of d)) can.stands shows.here in
    let ms = (config_of d.settings).members in
    let a_in : is_member d.enrolled fixed.a ≡ true = subst (λ (z : Fac). is_member z.members fixed.a ≡ true) f can.a_in in
    let b_in : is_member d.enrolled fixed.b ≡ true = subst (λ (z : Fac). is_member z.members fixed.b ≡ true) f can.b_in in
    let a = has_member fixed.a ms (sym (members_there fixed.a d.settings.members) ∙ member_there d is.stands.0 is.below is.stands.1 fixed.a a_in) in
    let b = has_member fixed.b ms (sym (members_there fixed.b d.settings.members) ∙ member_there d is.stands.0 is.below is.stands.1 fixed.b b_in) in
    let offer : cube_in (map offer_of d.settings.cubes) fixed.cube ≡ Some can.cube = subst (λ (z : Fac). cube_in z.cubes fixed.cube ≡ Some can.cube) f can.offer in
    let cube = cube_there (cube_by fixed.cube d.settings.cubes) can.cube (sym (offered_by fixed.cube d.settings.cubes) ∙ offer) in
    record {
      fac = fac;
      apart = can.apart;
      cube = cube.0;
      is_cube = cube.1;
      of_a = a.1;
      of_b = b.1;
      at_a = record { place = a.0; at_home = a.2; stands = a.3; enrolled = a_in; room = subst (λ (z : Fac). drawn_at fixed.a z.ends < z.admits) f can.a_room };
      at_b = record { place = b.0; at_home = b.2; stands = b.3; enrolled = b_in; room = subst (λ (z : Fac). drawn_at fixed.b z.ends < z.admits) f can.b_room };
    }

-- What the rank shows

bound_shown : (s : Seen) (d : Dif) (lines : List Direction) (below : Seen) (fixed : Fixed) (ports : Port × Port) (d' : Dif) → d.settings.fac ≡ fixed.fac → IsShownAs s fixed.fac d → BindsAt d lines below fixed ports d' → IsBoundThere s fixed ports.0 ports.1 (shown_as s fixed.fac d')
bound_shown s d lines below fixed ports d' fac shows b =
    let flow = flow_next (seen_of d) fixed.a b.bound.of_a in
    let bound_by : ℕ → Fac = λ f. record (fac_of (seen_of d)) {
      ends = d.flows.journal.ends ++ new_end flow Asker (next_port (fac_of (seen_of d)) f fixed.a) fixed.a_app fixed.b_app fixed.cube Allocated ∷ new_end flow Far (next_port (fac_of (seen_of d)) f fixed.b) fixed.b_app fixed.a_app fixed.cube Allocated ∷ [];
      names = with_name_once d.names fixed.b fixed.b_app;
    } in
    record {
      facility = fac_of (seen_of d);
      stands = shows.here;
      a_fresh = b.a_port;
      b_fresh = b.b_port;
      flow = flow;
      at = sym shows.clock;
      new_is = ap (λ (x : DifSeen). with_fac s fixed.fac (fac_of x)) b.bound.new_is ∙ ap (λ (f : ℕ). with_fac s fixed.fac (bound_by f)) fac;
    }

pub binds_shown : (s : Seen) (d : Dif) (fixed : Fixed) (r : Result (Port × Port) AllocateError) (d' : Dif) → IsDif d → d.settings.fac ≡ fixed.fac → IsShownAs s fixed.fac d → ((lines : List Direction) (below : Seen) → Holds d lines below → BindsTo d lines below fixed r d') → Binds s fixed r (shown_as s fixed.fac d')
binds_shown s d fixed (Ok ports) d' is fac shows does = bound_shown s d is.stands.0 is.below fixed ports d' fac shows (does is.stands.0 is.below is.stands.1)
binds_shown s d fixed (Err Memory) d' is fac shows does = unchanged s fixed.fac d d' shows ((does is.stands.0 is.below is.stands.1).0)
binds_shown s d fixed (Err e) d' is fac shows does = does is.stands.0 is.below is.stands.1

pub binds_go_on : (d : Dif) (fixed : Fixed) (r : Result (Port × Port) AllocateError) (d' : Dif) → IsDif d → ((lines : List Direction) (below : Seen) → Holds d lines below → BindsTo d lines below fixed r d') → GoesOn d d'
binds_go_on d fixed r d' is does = go r (does is.stands.0 is.below is.stands.1)
  where
    go : (r : Result (Port × Port) AllocateError) → BindsTo d is.stands.0 is.below fixed r d' → GoesOn d d'
    go (Ok ports) x = record {
      later = bound_later (seen_of d) is.stands.0 fixed (seen_of d') x.lines' x.bound;
      facility = facility (seen_of d') x.lines' is.below x.holds.standing;
      clock = ap (λ (y : DifSeen). y.clock) x.bound.new_is;
      enrolled = stay_same d.enrolled d'.enrolled (ap (λ (y : DifSeen). y.enrolled) x.bound.new_is);
    }
    go (Err Memory) x = same_goes_on d d' is x.0
    go (Err e) x = absurd x

pub binds_whole : (d : Dif) (fixed : Fixed) (r : Result (Port × Port) AllocateError) (d' : Dif) → IsDif d → d'.clock ≡ d.clock → ((lines : List Direction) (below : Seen) → Holds d lines below → BindsTo d lines below fixed r d') → IsDif d'
binds_whole d fixed r d' is clock does = record { below = is.below; stands = go r (does is.stands.0 is.below is.stands.1); clock = (let c = is.clock in omega (arith, c, clock)) }
  where
    go : (r : Result (Port × Port) AllocateError) → BindsTo d is.stands.0 is.below fixed r d' → Stands d' is.below
    go (Ok ports) x = (x.lines', x.holds)
    go (Err Memory) x = (is.stands.0, x.1)
    go (Err e) x = absurd x

pub binds_stay : (d : Dif) (fixed : Fixed) (r : Result (Port × Port) AllocateError) (d' : Dif) → ((lines : List Direction) (below : Seen) → Holds d lines below → BindsTo d lines below fixed r d') → StaysStanding d d'
binds_stay d fixed (Ok ports) d' does below st = (let x = does st.0 below st.1 in (x.lines', x.holds))
binds_stay d fixed (Err Memory) d' does below st = (let x = does st.0 below st.1 in (st.0, x.1))
binds_stay d fixed (Err e) d' does below st = absurd (does st.0 below st.1)

-- whether an allocation failed is noted
pub binds_noted : (d : Dif) (lines : List Direction) (below : Seen) (fixed : Fixed) (r : Result (Port × Port) AllocateError) (d' : Dif) (failed : Bool) → d'.failed ≡ false → (r ≡ Err Memory → failed ≡ true) → BindsTo d lines below fixed r (noting r d') → BindsTo d lines below fixed r (record d' { failed = failed })
binds_noted d lines below fixed (Ok ports) d' failed alive wants x = record { lines' = x.lines'; bound = x.bound; a_port = x.a_port; b_port = x.b_port; holds = still x.lines' x.holds }
  where
    still : (ls : List Direction) → Holds d' ls below → Holds (record d' { failed = failed }) ls below
    still ls h = record { tied = h.tied; standing = h.standing; carrying = h.carrying; numbered = h.numbered; accounted = h.accounted; caused = h.caused; written_off = h.written_off; housed = h.housed; managed = h.managed; enrolled = h.enrolled; connected = h.connected; flooded = λ same. h.flooded alive }
binds_noted d lines below fixed (Err Memory) d' failed alive wants x = subst (λ (b : Bool). BindsTo d lines below fixed (Err Memory) (record d' { failed = b })) (sym (wants refl)) x
binds_noted d lines below fixed (Err e) d' failed alive wants x = absurd x

-- the member that is found at a node stands there
pub at_its_node : (members : List Member) (node i : ℕ) (m : Member) → home node members ≡ Some i → slice_get members i ≡ Some m → m.node ≡ node
at_its_node members node i m here is =
    let p = position-Some (λ (x : Member). x.node == node) members i m here in
    eqb-true m.node node (ap (λ (x : Member). eqb x.node node) (sym (get_or_from_slice_get members i m m is)) ∙ p.1)

-- a member that may draw a port has a CEP-id that is neither in use nor at rest
pub draws_id : (d : Dif) (node place : ℕ) → IsDif d → SomeDraws d node → Some place ≡ home node (config_of d.settings).members → (ids : CepIds) × (slice_get d.ids place ≡ Some ids) × ((cep : ℕ) × (free_id ids.0 d.clock ids.1 ≡ Some cep))
draws_id d node place is draws here =
    let h = is.stands.1 in
    let may = draws.1 in
    let g = config_of d.settings in
    let place_is : may.place ≡ place = same_Some may.place place (sym may.at_home ∙ sym here) in
    let stands : slice_get g.members place ≡ Some draws.0 = subst (λ (k : ℕ). slice_get g.members k ≡ Some draws.0) place_is may.stands in
    let within = slice_get_within g.members place draws.0 stands in
    let aligned = h.numbered.drawn.aligned in
    let ids = there d.ids place (omega (arith, within, aligned)) in
    let few = h.numbered.drawn.few place draws.0 ids.0 stands ids.1 in
    let node_is : draws.0.node ≡ node = at_its_node g.members node place draws.0 (sym here) stands in
    let few' : length ids.0.1 ≤ drawn_at node d.flows.journal.ends = subst (λ (k : ℕ). length ids.0.1 ≤ drawn_at k d.flows.journal.ends) node_is few in
    let room = may.room in
    let ceps = h.numbered.members.ceps in
    let greatest = h.numbered.drawn.greatest place ids.0 ids.1 in
    (ids.0, ids.1, free_there ids.0.0 d.clock ids.0.1 (omega (arith, few', room, ceps, greatest)))
