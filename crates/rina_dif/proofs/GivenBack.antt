-- The CEP-id of an end is given back as the end ends.
use Rattle.std.proofs.Common.{◌≡◌, ◌≢◌, ℕ, zero, suc, ◌==◌, [], Option, None, ◌+◌, ◌*◌, ◌<◌, ◌≤◌, List, ◌∷◌, ◌++◌, ◌⊎◌, inl, inr, length, length-set, slice_get, Some, option_map, refl, sym, ◌∙◌, ap, subst, arith}
use Rattle.std.proofs.lemmas.List.{length-map}
use Rattle.std.proofs.lemmas.List.Quantifiers.{position-Some}
use Rattle.std.proofs.lemmas.Option.{none-some, same_Some, slice_get-map, slice_get_within}
use Rattle.rina_conn.specs.declared.conn.Conn.{Conn}
use Rattle.rina_cube.specs.Cubes.{IsCube, delta_of}
use Rattle.rina_ids.specs.Ids.{IsInUse, given_back}
use Rattle.rina_ids.specs.Members.{CepIds, with_rest}
use Rattle.rina_iface.specs.declared.ends.End.{End}
use Rattle.rina_iface.specs.Seen.{Seen}
use Rattle.rina_law.specs.Direction.{Direction}
use Rattle.rina_rest.proofs.Keeping.{standing_used}
use Rattle.rina_rest.proofs.Slots.{given_back_same}
use Rattle.rina_iface.proofs.Changed.{slice_get-set_same}
use Rattle.rina_dif_law.specs.Cloud.{Cloud, Everywhere}
use Rattle.rina_dif_law.specs.Losing.{IsAllocatedAt}
use Rattle.rina_dif_law.proofs.Own.{one_up}
use Rattle.rina_data.specs.Configs.{Member, config_of, cube_by, member_of}
use Rattle.rina_data.proofs.Finding.{there}
use Rattle.rina_dif_law.specs.Ending.{GivesBack}
use Rattle.rina_dif_law.specs.Ids.{Ids}
use Rattle.rina_dif_law.specs.Places.{IsUp}
use Rattle.rina_dif_law.specs.Sending.{home}
use Rattle.rina_dif_law.specs.Standing.{IsConn}
use Rattle.rina_dif_law.proofs.Finding.{beside, cube_limits}
use Rattle.rina_data.specs.declared.process.IpcProcess.{IpcProcess}
use Rattle.rina_flows.specs.declared.flows.Flows.{Flows}
use Rattle.rina_flows.specs.Elsewhere.{ChangesAt}
use Rattle.rina_flows.specs.Tied.{conns_of, ids_of}
use Rattle.rina_dif.specs.declared.dif.Dif.{Dif}
use Rattle.rina_dif.specs.declared.release.IdRest.{IdRest}
use Rattle.rina_dif.specs.Elsewhere.{ChangesProcess}
use Rattle.rina_dif.specs.Freeing.{RestsAt}
use Rattle.rina_dif.specs.Holding.{Holds, Stands}
use Rattle.rina_dif.specs.IdRests.{AreRests, CanGive, CanGiveBack, GaveFirst, GaveOne, RestsHere}
use Rattle.rina_dif.specs.Shown.{seen_of}

module _ (d : Dif) (lines : List Direction) (below : Seen) (h : Holds d lines below) where
  -- the ids of an end's connection
  pub ids_here : (at : ℕ) (conn : Conn) → slice_get d.flows.conns at ≡ Some conn → slice_get (conns_of d.flows.conns) at ≡ Some (ids_of conn)
  ids_here at conn is = slice_get-map ids_of d.flows.conns at ∙ ap (option_map ids_of) is

  -- its cube is the end's
  pub cube_here : (at : ℕ) (end : End) (conn : Conn) → slice_get d.flows.journal.ends at ≡ Some end → slice_get d.flows.conns at ≡ Some conn → cube_by end.cube (config_of d.settings).cubes ≡ Some conn.sending.form.cube
  cube_here at end conn is_end is =
      let line = beside (seen_of d).ends lines at end h.standing.own.lines_alike is_end in
      let cube = (h.tied.sends at conn line.0 is line.1).cube in
      let qos = (h.standing.own.ids at end (ids_of conn) (record { end = is_end; ids_are = ids_here at conn is })).qos in
      subst (λ (q : ℕ). cube_by q (config_of d.settings).cubes ≡ Some conn.sending.form.cube) qos cube

  -- so long it rests
  pub rest_small : (at : ℕ) (end : End) (conn : Conn) → slice_get d.flows.journal.ends at ≡ Some end → slice_get d.flows.conns at ≡ Some conn → IsCube conn.sending.form.cube
  rest_small at end conn is_end is = cube_limits (config_of d.settings) end.cube conn.sending.form.cube h.standing.config (cube_here at end conn is_end is)

  -- the ids of a member
  pub ids_there : (i : ℕ) → i < length d.settings.members → (ids : CepIds) × (slice_get d.ids i ≡ Some ids)
  ids_there i lt = (let same = h.numbered.drawn.aligned in there d.ids i (omega (arith, lt, same, length-map d.settings.members member_of)))

  pub home_within : (node i : ℕ) → home node (config_of d.settings).members ≡ Some i → i < length d.settings.members
  home_within node i here = (let p = position-Some (λ (x : Member). x.node == node) (config_of d.settings).members i (record { addr = 0; name = []; node = 0 }) here in omega (arith, p.0, length-map d.settings.members member_of))

  pub gives_back : (i at : ℕ) (end : End) (rest : IdRest) (held : List CepIds) → slice_get d.flows.journal.ends at ≡ Some end → home end.port.node (config_of d.settings).members ≡ Some i → RestsAt d at rest → ((ids : CepIds) → slice_get d.ids i ≡ Some ids → held ≡ with_rest i ids rest.cep (d.clock + rest.ticks) d.ids) → GivesBack (seen_of d) at end held
  gives_back i at end rest held is_end here rests gave =
      let ids = ids_there i (home_within end.port.node i here) in
      record {
        ids = ids_of rests.conn;
        are_ids = ids_here at rests.conn rests.is_conn;
        cube = rests.conn.sending.form.cube;
        is_cube = cube_here at end rests.conn is_end rests.is_conn;
        place = i;
        at_home = here;
        old = ids.0;
        is_old = ids.1;
        held_is = gave ids.0 ids.1 ∙ ap (λ (n : ℕ). with_rest i ids.0 n (d.clock + rest.ticks) d.ids) rests.cep ∙ ap (λ (n : ℕ). with_rest i ids.0 rests.conn.sending.form.peer.scep (d.clock + n) d.ids) rests.ticks;
      }

  -- what stands has its id in use
  pub used_there : (i at : ℕ) (end : End) (rest : IdRest) → slice_get d.flows.journal.ends at ≡ Some end → IsUp end.state → home end.port.node (config_of d.settings).members ≡ Some i → RestsAt d at rest → (ids : CepIds) → slice_get d.ids i ≡ Some ids → IsInUse ids.1 rest.cep
  used_there i at end rest is_end up here rests ids are_ids =
      let own = h.standing.own in
      let c : Ids = ids_of rests.conn in
      let conn : IsConn (seen_of d).ends (seen_of d).conns at end c = record { end = is_end; ids_are = ids_here at rests.conn rests.is_conn } in
      let x = beside (seen_of d).ends own.places at end own.entered.places_alike is_end in
      let m = own.entered.each at end c x.0 conn x.1 in
      let a = h.numbered.addressed at end c conn in
      let place : a.place ≡ i = (let k = a.at_home in cc) in
      let member : slice_get (config_of d.settings).members i ≡ Some a.member = subst (λ (k : ℕ). slice_get (config_of d.settings).members k ≡ Some a.member) place a.stands in
      let used = standing_used d.clock own.flows a.member.addr ids.1 x.0.flow m.flow x.0.side m.end.point (own.kept i a.member ids member are_ids) m.stands m.end.is (sym m.end.own ∙ a.addr) (m.end.up up) in
      subst (λ (n : ℕ). IsInUse ids.1 n) (sym m.end.scep ∙ sym rests.cep) used

  -- ---- all ends of a node

  -- two allocated ends of one node have two CEP-ids
  apart_here : (node at k : ℕ) (a b : IdRest) → at ≢ k → IsAllocatedAt d.flows.journal.ends node at → IsAllocatedAt d.flows.journal.ends node k → RestsAt d at a → RestsAt d k b → b.cep ≢ a.cep
  apart_here node at k a b ne x y ra rb same =
      let ax : IsConn (seen_of d).ends (seen_of d).conns at x.end (ids_of ra.conn) = record { end = x.is_end; ids_are = ids_here at ra.conn ra.is_conn } in
      let bx : IsConn (seen_of d).ends (seen_of d).conns k y.end (ids_of rb.conn) = record { end = y.is_end; ids_are = ids_here k rb.conn rb.is_conn } in
      let p = h.numbered.addressed at x.end (ids_of ra.conn) ax in
      let q = h.numbered.addressed k y.end (ids_of rb.conn) bx in
      let node_is : x.end.port.node ≡ y.end.port.node = x.node_is ∙ sym y.node_is in
      let place : p.place ≡ q.place = (let i = p.at_home in let j = subst (λ (m : ℕ). home m (config_of d.settings).members ≡ Some q.place) (sym node_is) q.at_home in cc) in
      let member : p.member ≡ q.member = (let i = subst (λ (m : ℕ). slice_get (config_of d.settings).members m ≡ Some p.member) place p.stands in let j = q.stands in cc) in
      ne (one_up (config_of d.settings) d.clock (Cloud Everywhere (config_of d.settings) (seen_of d).processes below) d.ids (seen_of d).ends (seen_of d).conns lines h.standing.own at k x.end y.end (ids_of ra.conn) (ids_of rb.conn) ax bx x.allocated y.allocated
      (p.addr ∙ ap (λ (m : Member). m.addr) member ∙ sym q.addr) (sym ra.cep ∙ sym same ∙ rb.cep))

  module _ (i node : ℕ) (here : home node (config_of d.settings).members ≡ Some i) (rests : List (Option IdRest)) (are : AreRests d node (length d.flows.conns) rests) where
    -- an id of an end that comes later is in use still
    still_used : (n k : ℕ) (rest : IdRest) (held : List CepIds) (ids : CepIds) → n ≤ k → slice_get rests k ≡ Some (Some rest) → GaveFirst i d.clock rests n d.ids held → slice_get held i ≡ Some ids → IsInUse ids.1 rest.cep
    still_used zero k rest held ids le is gave are_ids =
        let r = are.each k (Some rest) is in
        used_there i k r.0.end rest r.0.is_end (subst IsUp (sym r.0.allocated) tt) (subst (λ (m : ℕ). home m (config_of d.settings).members ≡ Some i) (sym r.0.node_is) here) r.1 ids (subst (λ (hs : List CepIds). slice_get hs i ≡ Some ids) gave are_ids)
    still_used (suc n) k rest held ids le is gave are_ids = go (λ x at. still_used n k rest gave.0 x (omega (arith, le)) is gave.1 at) (λ other x o at. still_used n n other gave.0 x (omega arith) o gave.1 at) (slice_get rests n) refl gave.2
      where
        go : ((x : CepIds) → slice_get gave.0 i ≡ Some x → IsInUse x.1 rest.cep) → ((other : IdRest) (x : CepIds) → slice_get rests n ≡ Some (Some other) → slice_get gave.0 i ≡ Some x → IsInUse x.1 other.cep) → (o : Option (Option IdRest)) → slice_get rests n ≡ o → GaveOne i d.clock o gave.0 held → IsInUse ids.1 rest.cep
        go mine its None at one = mine ids (subst (λ (hs : List CepIds). slice_get hs i ≡ Some ids) one are_ids)
        go mine its (Some None) at one = mine ids (subst (λ (hs : List CepIds). slice_get hs i ≡ Some ids) one are_ids)
        go mine its (Some (Some other)) at one =
            let x = one.0 in
            let a = are.each n (Some other) at in
            let b = are.each k (Some rest) is in
            let ne : rest.cep ≢ other.cep = apart_here node n k other rest (λ e. omega (arith, le, e)) a.0 b.0 a.1 b.1 in
            let after : CepIds = (x.0, given_back x.1 other.cep (d.clock + other.ticks)) in
            let set : ids ≡ after = same_Some ids after (sym are_ids ∙ ap (λ (hs : List CepIds). slice_get hs i) one.2 ∙ slice_get-set_same gave.0 i x after one.1) in
            let kept = (given_back_same x.1 other.cep (d.clock + other.ticks) (its other x at one.1)).used rest.cep ne (mine x one.1) in
            subst (λ (z : CepIds). IsInUse z.1 rest.cep) (sym set) kept

    pub can_give_back : d.clock ≤ 10000000 → CanGiveBack d i rests
    can_give_back clock = record {
      clock = clock;
      home_there = (let lt = home_within node i here in let same = h.numbered.drawn.aligned in omega (arith, lt, same, length-map d.settings.members member_of));
      small = λ k rest is. (are.each k (Some rest) is).1.small;
      used = λ k rest held ids is gave are_ids. still_used k k rest held ids (omega arith) is gave are_ids;
    }

-- ---- the id of one end

rests_limits_of : (d : Dif) (lines : List Direction) (below : Seen) (h : Holds d lines below) (at : ℕ) (conn : Conn) → slice_get d.flows.conns at ≡ Some conn → IsCube conn.sending.form.cube
rests_limits_of d lines below h at conn is =
    let lt = slice_get_within d.flows.conns at conn is in
    let alike = h.tied.alike in
    let end = there d.flows.journal.ends at (omega (arith, lt, alike)) in
    rest_small d lines below h at end.0 conn end.1 is

pub rests_limits : (d : Dif) (below : Seen) (at : ℕ) (conn : Conn) → Stands d below → slice_get d.flows.conns at ≡ Some conn → IsCube conn.sending.form.cube
rests_limits d below at conn st is = rests_limits_of d st.0 below st.1 at conn is

pub rests_at : (d : Dif) (below : Seen) (at : ℕ) (conn : Conn) (delta : ℕ) → Stands d below → slice_get d.flows.conns at ≡ Some conn → delta ≡ delta_of conn.sending.form.cube → RestsAt d at (record { cep = conn.sending.form.peer.scep; ticks = 3 * delta })
rests_at d below at conn delta st is delta_is =
    let limits = rests_limits d below at conn st is in
    let mpl = limits.mpl in
    let r = limits.r in
    let a = limits.a in
    record {
      conn = conn;
      is_conn = is;
      cep = refl;
      ticks = ap (λ (n : ℕ). 3 * n) delta_is;
      small = omega (arith, mpl, r, a, delta_is);
    }

-- ---- one by one

pub none_rest : (d : Dif) (node : ℕ) → AreRests d node 0 []
none_rest d node = record { aligned = refl; each = λ at rest is. absurd (none-some rest is) }

pub rests_more : (d : Dif) (node at : ℕ) (rests : List (Option IdRest)) (rest : Option IdRest) → AreRests d node at rests → RestsHere d node at rest → AreRests d node (at + 1) (rests ++ rest ∷ [])
rests_more d node at rests rest are here = record {
  aligned = (let same = are.aligned in length_more rests ∙ omega (arith, same));
  each = λ k o is. elim (more_at rests k o is) [
    | inl old ↦ are.each k o old
    | inr new ↦ subst (λ (n : ℕ). RestsHere d node n o) (sym (new.0 ∙ are.aligned)) (subst (RestsHere d node at) (sym new.1) here)
  ];
}
  where
    length_more : (xs : List (Option IdRest)) → length (xs ++ rest ∷ []) ≡ length xs + 1
    length_more [] = refl
    length_more (x ∷ xs) = (let more = length_more xs in omega (arith, more))

    more_at : (xs : List (Option IdRest)) (k : ℕ) (o : Option IdRest) → slice_get (xs ++ rest ∷ []) k ≡ Some o → (slice_get xs k ≡ Some o) ⊎ ((k ≡ length xs) × (o ≡ rest))
    more_at [] zero o is = inr (refl, sym (same_Some rest o is))
    more_at [] (suc k) o is = absurd (none-some o is)
    more_at (x ∷ xs) zero o is = inl is
    more_at (x ∷ xs) (suc k) o is = elim (more_at xs k o is) [
      | inl old ↦ inl old
      | inr new ↦ inr (ap suc new.0, new.1)
    ]

-- the next one can be given back
pub can_next : (d d1 : Dif) (home at : ℕ) (rests : List (Option IdRest)) (rest : Option IdRest) → CanGiveBack d home rests → slice_get rests at ≡ Some rest → GaveFirst home d.clock rests at d.ids d1.ids → d1 ≡ record d { ids = d1.ids } → length d1.ids ≡ length d.ids → CanGive d1 home rest
can_next d d1 home at rests None can is gave whole same = tt
can_next d d1 home at rests (Some rest) can is gave whole same =
    let clock : d1.clock ≡ d.clock = ap (λ (z : Dif). z.clock) whole in
    let may = can.clock in
    let there = can.home_there in
    (omega (arith, clock, may), omega (arith, there, same), can.small at rest is, λ ids are_ids. can.used at rest d1.ids ids is gave are_ids)

pub gave_more : (home now : ℕ) (rests : List (Option IdRest)) (n : ℕ) (held between after : List CepIds) → GaveFirst home now rests n held between → GaveOne home now (slice_get rests n) between after → GaveFirst home now rests (n + 1) held after
gave_more home now rests n held between after first one =
    let next : suc n ≡ n + 1 = omega arith in
    let both : GaveFirst home now rests (suc n) held after = (between, first, one) in
    subst (λ (m : ℕ). GaveFirst home now rests m held after) next both

pub gave_same_length : (home now : ℕ) (rests : List (Option IdRest)) (n : ℕ) (held held' : List CepIds) → GaveFirst home now rests n held held' → length held' ≡ length held
gave_same_length home now rests zero held held' g = ap (λ (hs : List CepIds). length hs) g
gave_same_length home now rests (suc n) held held' g = go (slice_get rests n) g.2 ∙ gave_same_length home now rests n held g.0 g.1
  where
    go : (o : Option (Option IdRest)) → GaveOne home now o g.0 held' → length held' ≡ length g.0
    go None one = ap (λ (hs : List CepIds). length hs) one
    go (Some None) one = ap (λ (hs : List CepIds). length hs) one
    go (Some (Some rest)) one = ap (λ (hs : List CepIds). length hs) one.2 ∙ length-set g.0 home _

-- what changes of flows and IPC processes, where the ids change besides
pub leaves_as : (d d' : Dif) (Ends : ℕ → Type 0) (process : Option ℕ) (flows : Flows) (ps : List IpcProcess) → d'.flows ≡ flows → d'.processes ≡ ps → ChangesAt Ends d.flows flows → ChangesProcess process d.processes ps → ChangesAt Ends d.flows d'.flows × ChangesProcess process d.processes d'.processes
leaves_as d d' Ends process flows ps flows_are ps_are changes leaves = (subst (λ (f : Flows). ChangesAt Ends d.flows f) (sym flows_are) changes, subst (λ (qs : List IpcProcess). ChangesProcess process d.processes qs) (sym ps_are) leaves)
