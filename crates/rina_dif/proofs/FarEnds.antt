-- A member makes the far end of a flow whose asker's end it found.
use Rattle.std.proofs.Common.{◌≡◌, ◌≢◌, ◌∙◌, ℕ, ◌+◌, ◌*◌, ◌<◌, List, [], ◌∷◌, ◌++◌, slice_set, length, Some, option_map, refl, sym, ap, subst}
use Rattle.std.specs.Global.{Vec}
use Rattle.std.specs.Prelude.{option_and_then}
use Rattle.std.proofs.lemmas.Option.{same_Some, slice_get-map}
use Rattle.rina_base.specs.declared.number.FlowName.{FlowName}
use Rattle.rina_conn.specs.declared.form.Peer.{Peer}
use Rattle.rina_cube.specs.declared.Cube.{Cube}
use Rattle.rina_cube.specs.Cubes.{delta_of}
use Rattle.rina_alloc.specs.declared.message.FlowAsk.{FlowAsk}
use Rattle.rina_ids.specs.Ids.{free_id}
use Rattle.rina_ids.specs.Members.{CepIds, DrawsAt, with_drawn}
use Rattle.rina_iface.specs.declared.ends.End.{End}
use Rattle.rina_iface.specs.declared.state.PortState.TheVariants.{Allocated}
use Rattle.rina_iface.specs.declared.state.Role.{Role}
use Rattle.rina_iface.specs.declared.state.Role.TheVariants.{Asker, Far}
use Rattle.rina_iface.specs.Allocate.{new_end, next_port}
use Rattle.rina_iface.specs.Journal.{HasPartner}
use Rattle.rina_iface.specs.Seen.{Seen}
use Rattle.rina_law.specs.Direction.{Direction, start}
use Rattle.rina_data.specs.Configs.{Config, config_of, cube_by, greatest, member_of, piece_size}
use Rattle.rina_dif_law.specs.Answering.{IsFarMade, far_end_of, with_far_cep}
use Rattle.rina_dif_law.specs.Dif.{DifSeen, fac_of}
use Rattle.rina_dif_law.specs.Ids.{Ids, flipped}
use Rattle.rina_dif_law.specs.Lifting.{ticked}
use Rattle.rina_dif_law.specs.Standing.{IsConn}
use Rattle.rina_dif_law.specs.Start.{IsFresh}
use Rattle.rina_dif_law.proofs.Finding.{beside}
use Rattle.rina_flows.specs.declared.flows.Flows.{Flows}
use Rattle.rina_flows.specs.Adding.{HasAddedFar, IsNewFar, begun_now, turned}
use Rattle.rina_flows.specs.Tied.{conns_of, ids_by, ids_of}
use Rattle.rina_flows.proofs.Framed.{ids_at}
use Rattle.rina_dif.specs.declared.dif.Dif.{Dif}
use Rattle.rina_dif.specs.FarMaking.{AddsFarEnd, CanMakeFar}
use Rattle.rina_dif.specs.Holding.{Holds}
use Rattle.rina_dif.specs.Shown.{seen_of}
use Rattle.rina_dif.proofs.Bound.{its_id}
use Rattle.rina_dif.proofs.Enrolled.{enrolled_home_is}
use Rattle.rina_dif.proofs.FlowRows.{after, far_holds}

not_asker : (role : Role) → role ≢ Asker → role ≡ Far
not_asker Asker h = absurd (h refl)
not_asker Far h = refl

module _ (d : Dif) (lines : List Direction) (below : Seen) (h : Holds d lines below) (at place from : ℕ) (ask : FlowAsk) (can : CanMakeFar d at place from ask) (cep : ℕ) (flows : Flows) (held : List CepIds) (waiting : Vec ℕ) where
  abbrev seen : DifSeen
  seen = seen_of d

  abbrev g : Config
  g = config_of d.settings

  abbrev node : ℕ
  node = can.member.node

  abbrev peer : Peer
  peer = record { own = can.member.addr; far = from; scep = cep; dcep = ask.scep }

  abbrev end : End
  end = new_end ask.flow Far (next_port (fac_of seen) d.settings.fac node) ask.destination ask.source ask.cube Allocated

  abbrev asker : End
  asker = can.asker.end

  abbrev ids : Ids
  ids = ids_of can.asker.conn

  is_conn : IsConn seen.ends seen.conns place asker ids
  is_conn = record { end = can.asker.is_at.end_is; ids_are = ids_at d.flows.conns place can.asker.conn can.asker.is_at.conn_is }

  alone : HasPartner d.flows.journal.ends asker → ⊥
  alone p = can.asker.alone (record { place = p.place; end = p.other; stands = p.stands; is_far = not_asker p.other.role (λ e. p.partner.other_role (e ∙ sym can.asker.asks.asks)); same = p.partner.same_flow ∙ can.asker.asks.flow })

  -- the cube's id is the one of the asker's connection
  qos : ids.qos ≡ ask.cube
  qos = (h.standing.own.ids place asker ids is_conn).qos ∙ can.asker.asks.cube

  module _ (added : AddsFarEnd d.settings peer end d.flows flows) (draws : DrawsAt d.ids d.clock at cep) (held_is : held ≡ with_drawn at draws.ids cep d.ids) (waits : waiting.items ≡ d.waiting.items ++ length d.flows.journal.ends ∷ []) where
    id : added.cube.id ≡ ask.cube
    id = its_id ask.cube d.settings.cubes added.cube added.is_cube

    by_id : cube_by added.cube.id g.cubes ≡ Some added.cube
    by_id = ap (λ (x : ℕ). cube_by x g.cubes) id ∙ added.is_cube

    by_qos : (q : ℕ) → q ≡ ask.cube → cube_by q g.cubes ≡ Some added.cube
    by_qos q e = ap (λ (x : ℕ). cube_by x g.cubes) e ∙ added.is_cube

    its_cube : can.asker.conn.sending.form.cube ≡ added.cube
    its_cube =
        let line = beside d.flows.journal.ends lines place asker h.tied.lines_alike can.asker.is_at.end_is in
        let sends = h.tied.sends place can.asker.conn line.0 can.asker.is_at.conn_is line.1 in
        same_Some can.asker.conn.sending.form.cube added.cube (sym sends.cube ∙ by_qos ids.qos qos)

    same_cube : can.cube ≡ added.cube
    same_cube = same_Some can.cube added.cube (sym can.is_cube ∙ added.is_cube)

    new : IsNewFar g added.cube (piece_size g) (greatest g) peer d.flows.journal.ends d.flows.conns place end
    new = record {
      piece_is = refl;
      max_is = refl;
      is_cube = by_id;
      asker = asker;
      conn = can.asker.conn;
      is_at = can.asker.is_at;
      asks = can.asker.asks.asks;
      alone = alone;
      cube_is = its_cube;
      named = sym can.asker.leads.its_cep;
      same_flow = sym can.asker.asks.flow;
      is_far = refl;
      got = refl;
    }

    abbrev line : Direction
    line = begun_now g d.clock added.cube (turned peer)

    abbrev back : Direction
    back = begun_now g d.clock added.cube peer

    abbrev pub lines_made : List Direction
    lines_made = slice_set lines place line ++ back ∷ []

    -- the directions, by the ids of the asker
    by_cep : (a b : ℕ) → a ≡ b → ticked d.clock (start (record { cube = added.cube; piece = piece_size g; max = greatest g; cep = a })) ≡ ticked d.clock (start (record { cube = added.cube; piece = piece_size g; max = greatest g; cep = b }))
    by_cep a b e = ap (λ (c : ℕ). ticked d.clock (start (record { cube = added.cube; piece = piece_size g; max = greatest g; cep = c }))) e

    fresh : IsFresh seen (with_far_cep ids cep) line
    fresh = record { cube = added.cube; is_cube = by_qos ids.qos qos; is = by_cep ask.scep ids.scep (sym can.asker.leads.its_cep) }

    fresh_back : IsFresh seen (flipped (with_far_cep ids cep)) back
    fresh_back = record { cube = added.cube; is_cube = by_qos ids.qos qos; is = refl }

    ids_are : ids_by peer added.cube.id ≡ flipped (with_far_cep ids cep)
    ids_are =
        let own = sym can.asker.leads.asked in
        let far = sym can.asker.leads.asker in
        let theirs = sym can.asker.leads.its_cep in
        let q = id ∙ sym qos in
        λ i. record { own = own i; far = far i; scep = cep; dcep = theirs i; qos = q i }

    end_is : end ≡ far_end_of seen node asker
    end_is =
        let flow = sym can.asker.asks.flow in
        let app = sym can.asker.asks.app in
        let other = sym can.asker.asks.peer in
        let cube = sym can.asker.asks.cube in
        λ i. new_end (flow i) Far (next_port (fac_of seen) d.settings.fac node) (other i) (app i) (cube i) Allocated

    has : HasAddedFar g d.clock added.cube peer place d.flows lines flows
    has = added.adds g d.clock place lines h.standing.journal h.tied new

    pub made : IsFarMade seen lines node place (seen_of (after d flows held waiting lines below h)) lines_made
    made =
        let home = enrolled_home_is d node at can.enrolled in
        let ends = added.ends ∙ ap (λ (e : End). d.flows.journal.ends ++ e ∷ []) end_is in
        let conns = has.ids ∙ ap (λ (i : Ids). conns_of d.flows.conns ++ i ∷ []) ids_are in
        record {
          asker = asker;
          ids = ids;
          is_conn = is_conn;
          asks = can.asker.asks.asks;
          alone = alone;
          cube = added.cube;
          is_cube = ap (λ (q : ℕ). cube_by q g.cubes) can.asker.asks.cube ∙ added.is_cube;
          young = subst (λ (x : Cube). d.clock < asker.flow.tick + 3 * delta_of x) same_cube (subst (λ (f : FlowName). d.clock < f.tick + 3 * delta_of can.cube) (sym can.asker.asks.flow) can.young);
          place = at;
          at_home = home.1;
          member = member_of can.member;
          stands = slice_get-map member_of d.settings.members at ∙ ap (option_map member_of) can.stands;
          enrolled = home.0;
          asked = sym can.asker.leads.asked;
          cep = cep;
          draws = draws;
          cep_fits = can.fits cep (ap (option_and_then (λ (z : CepIds). free_id z.0 d.clock z.1)) draws.are_ids ∙ draws.least);
          line = line;
          back = back;
          fresh = fresh;
          fresh_back = fresh_back;
          lines_are = refl;
          new_is = (λ i. record seen { ends = ends i; conns = conns i; ids = held_is i; waiting = waits i });
        }

    pub made_cep : made.cep ≡ cep
    unfolding made
    made_cep = refl

    pub made_holds : Holds (after d flows held waiting lines below h) lines_made below
    made_holds = far_holds d flows held waiting lines below h node place lines_made has.tied made
