-- A flow is asked for: what the member at the node draws, and that the DIF holds with the asker's end.
use Rattle.std.proofs.Common.{◌≡◌, ◌≢◌, ◌∙◌, ℕ, suc, ◌+◌, ◌-◌, ◌*◌, ◌^◌, ◌<◌, ◌==◌, Bool, true, false, cond, List, [], ◌∷◌, ◌++◌, Contains, find, get_or, length, map, slice_get, slice_set, Option, Some, None, Result, Ok, Err, OnOk, option_map, option_and_then, refl, sym, ap, subst, arith, inl, inr}
use Rattle.std.specs.Prelude.{nat_lt}
use Rattle.std.specs.Global.{Vec}
use Rattle.std.specs.Option.{is_some}
use Rattle.std.specs.Result.{is_err, is_ok}
use Rattle.std.proofs.lemmas.Bool.{eq-eqb, eqb-true, false≢true, ne_eqb}
use Rattle.std.proofs.lemmas.Bool.Decides.{eqb_tells, nat_tests}
use Rattle.std.proofs.lemmas.Option.{get_or_from_slice_get, none-some, same_Some, slice_get-map, slice_get_read, slice_get_within}
use Rattle.rina_base.specs.declared.memory.Memory.{Memory as NoMemory}
use Rattle.rina_base.specs.declared.number.FlowName.{FlowName}
use Rattle.rina_base.specs.declared.number.Port.{Port}
use Rattle.rina_alloc.specs.declared.message.FlowMessage.{FlowMessage}
use Rattle.rina_agent.specs.Counts.{spent}
use Rattle.rina_agent.specs.declared.state.AgentError.TheVariants.{CountSpent}
use Rattle.rina_conn.specs.declared.form.Peer.{Peer}
use Rattle.rina_cube.specs.declared.Cube.{Cube}
use Rattle.rina_cube.specs.declared.Want.{Want}
use Rattle.rina_cube.specs.Cubes.{fits}
use Rattle.rina_data.specs.declared.link.Route.{Route}
use Rattle.rina_data.specs.declared.process.IpcProcess.{IpcProcess}
use Rattle.rina_data.specs.declared.settings.Member.{Member as Kept}
use Rattle.rina_data.specs.Configs.{Member, config_of, cube_by, greatest, member_of, piece_size}
use Rattle.rina_data.specs.Process.{next_hop}
use Rattle.rina_data.proofs.Finding.{there}
use Rattle.rina_dir.specs.Directory.{found as found_in}
use Rattle.rina_flood.specs.Network.{with_invoke}
use Rattle.rina_flows.specs.declared.flows.Flows.{Flows}
use Rattle.rina_flows.specs.Adding.{AddsAsker, AddsFar, IsNewAsker, begun_now}
use Rattle.rina_flows.specs.Tied.{conns_of, ids_by}
use Rattle.rina_graph.specs.declared.graph.Edge.{Edge}
use Rattle.rina_ids.specs.declared.members.Draw.{Draw}
use Rattle.rina_ids.specs.Ids.{free_id}
use Rattle.rina_ids.specs.Members.{CepIds, DrawsAt, IsDrawnAt, with_drawn}
use Rattle.rina_iface.specs.declared.ask.Ask.{Ask}
use Rattle.rina_iface.specs.declared.ends.End.{End}
use Rattle.rina_iface.specs.declared.error.AllocateError.{AllocateError}
use Rattle.rina_iface.specs.declared.error.AllocateError.TheVariants as allocate
use Rattle.rina_iface.specs.declared.state.Fail.{Fail}
use Rattle.rina_iface.specs.declared.state.PortState.TheVariants.{Failed, Pending}
use Rattle.rina_iface.specs.declared.state.Role.TheVariants.{Asker}
use Rattle.rina_iface.specs.Ends.{drawn_at}
use Rattle.rina_iface.specs.Journal.{At}
use Rattle.rina_iface.specs.Seen.{Offer, Seen, offered}
use Rattle.rina_iface.proofs.Changed.{slice_get-set_same}
use Rattle.rina_iface.proofs.Grown.{pushed_at, still_at}
use Rattle.rina_law.specs.Direction.{Direction, start}
use Rattle.rina_member.specs.declared.management.Management.{Management}
use Rattle.rina_member.specs.Knowing.{all_claims, hops_of}
use Rattle.rina_member.specs.Routing.{AreRoutesOver, route_to, routes_to}
use Rattle.rina_member.proofs.Lists.{at_place, found, made_of}
use Rattle.rina_plan.specs.Kept.{AreApart}
use Rattle.rina_route.specs.declared.link.Link.{Link as Hop}
use Rattle.rina_route.specs.Routes.{hop_at}
use Rattle.rina_dif_law.specs.Asking.{Asking, IsAskedFor, end_asked, ids_asked}
use Rattle.rina_dif_law.specs.Binding.{flow_next}
use Rattle.rina_dif_law.specs.Caused.{AreCaused}
use Rattle.rina_dif_law.specs.Dif.{DifSeen, constants, offer_of}
use Rattle.rina_dif_law.specs.Ids.{Ids}
use Rattle.rina_dif_law.specs.Lifting.{ticked}
use Rattle.rina_dif_law.specs.Numbered.{IsNumbered, asked_at}
use Rattle.rina_dif_law.specs.Sending.{home}
use Rattle.rina_dif_law.specs.Standing.{IsStanding}
use Rattle.rina_dif_law.specs.Start.{IsFresh}
use Rattle.rina_dif_law.proofs.Asked.{asked_accounted, asked_carries, asked_numbers, asked_stands}
use Rattle.rina_dif_law.proofs.Binding.{same_member, test_passes}
use Rattle.rina_dif_law.proofs.Finding.{beside}
use Rattle.rina_dif_law.proofs.Giving.{power_positive}
use Rattle.rina_dif_law.proofs.Warranted.{asked_written}
use Rattle.rina_dif.specs.declared.asked_flow.AskedFlow.{AskedFlow}
use Rattle.rina_dif.specs.declared.dif.Dif.{Dif}
use Rattle.rina_dif.specs.declared.fixed_flows.NextEnd.{NextEnd}
use Rattle.rina_dif.specs.declared.waiting_asks.WaitingAsk.{WaitingAsk}
use Rattle.rina_dif.specs.Allocating.{TellsRefusal, by_address, by_count, by_ids, by_way, member_refusal, spent_ids, way}
use Rattle.rina_dif.specs.Changing.{changed_if}
use Rattle.rina_dif.specs.Elsewhere.{enrolled_home}
use Rattle.rina_dif.specs.Holding.{Holds}
use Rattle.rina_dif.specs.Posting.{posted, posts, with_message}
use Rattle.rina_dif.specs.Requesting.{AddsEnd, AsksAt, DrawsNext, HasDrawnOne, HasRequested, IsWanted, Requests, cube_wanted, end_of_ask, peer_of, request_of, with_invoke_at}
use Rattle.rina_dif.specs.Shown.{seen_of}
use Rattle.rina_dif.specs.Whole.{IsDif}
use Rattle.rina_dif.proofs.Bound.{asked_small}
use Rattle.rina_dif.proofs.Causing.{caused_here, still_failed}
use Rattle.rina_dif.proofs.Drawing.{changed_length}
use Rattle.rina_dif.proofs.Enrolled.{enrolled_home_is}
use Rattle.rina_dif.proofs.FarAdded.{IsUnspent}
use Rattle.rina_dif.proofs.FlowPosts.{drawn_holds}
use Rattle.rina_dif.proofs.Leaves.{has_process}
use Rattle.rina_dif.proofs.MessageSteps.{tell_short}
use Rattle.rina_dif.proofs.Refused.{found_by, offered_is}
use Rattle.rina_dif.proofs.Unlinked.{has_agent}

-- The cube

-- numbers that are apart, and one more before them
tail_apart : (n : ℕ) (ns : List ℕ) → AreApart (n ∷ ns) → AreApart ns
tail_apart n ns apart i j d lt within = apart (suc i) (suc j) d (omega (arith, lt)) (omega (arith, within))

head_apart : (n : ℕ) (ns : List ℕ) (k m : ℕ) → AreApart (n ∷ ns) → slice_get ns k ≡ Some m → n ≢ m
head_apart n ns k m apart is same =
    let within = slice_get_within ns k m is in
    apart 0 (suc k) n (omega arith) (omega (arith, within)) (same ∙ sym (get_or_from_slice_get ns k m n is))

-- where no two cubes have one id, each is the first one of its id
pub by_own_id : (p : Cube → Bool) (cubes : List Cube) (cube : Cube) → AreApart (map (λ (c : Cube). c.id) cubes) → find p cubes ≡ Some cube → cube_by cube.id cubes ≡ Some cube
by_own_id p [] cube apart is = absurd (none-some cube is)
by_own_id p (c ∷ cs) cube apart is = go (p c) (λ rest. by_own_id p cs cube (tail_apart c.id (map (λ (x : Cube). x.id) cs) apart) rest) is
  where
    ids : List ℕ
    ids = map (λ (x : Cube). x.id) cs

    go : (b : Bool) → (find p cs ≡ Some cube → cube_by cube.id cs ≡ Some cube) → cond b (Some c) (find p cs) ≡ Some cube → cond (c.id == cube.id) (Some c) (cube_by cube.id cs) ≡ Some cube
    go true more here =
        let same : c ≡ cube = same_Some c cube here in
        ap (λ (b : Bool). cond b (Some c) (cube_by cube.id cs)) (eq-eqb c.id cube.id (ap (λ (x : Cube). x.id) same)) ∙ ap (λ (x : Cube). Some x) same
    go false more rest =
        let has = (found p cs cube rest).0 in
        let id : slice_get ids has.0 ≡ Some cube.id = slice_get-map (λ (x : Cube). x.id) cs has.0 ∙ ap (option_map (λ (x : Cube). x.id)) (at_place cs cube has) in
        ap (λ (b : Bool). cond b (Some c) (cube_by cube.id cs)) (ne_eqb c.id cube.id (head_apart c.id ids has.0 cube.id apart id)) ∙ more rest

-- so the cube that is found by its id is the first one that meets the wish
pub wanted_is : (cubes : List Cube) (want : Want) → AreApart (map (λ (c : Cube). c.id) cubes) → cube_wanted cubes want ≡ find (fits want) cubes
wanted_is cubes want apart = ap (λ (o : Option Cube). option_and_then (λ id. cube_by id cubes) (option_map (λ (c : Cube). c.id) o)) (found_by (fits want) cubes) ∙ go (find (fits want) cubes) refl
  where
    go : (o : Option Cube) → find (fits want) cubes ≡ o → option_and_then (λ id. cube_by id cubes) (option_map (λ (c : Cube). c.id) o) ≡ o
    go None is = refl
    go (Some cube) is = by_own_id (fits want) cubes cube apart is

pub cubes_apart : (d : Dif) → IsDif d → AreApart (map (λ (c : Cube). c.id) d.settings.cubes)
cubes_apart d is = is.stands.1.connected.may.apart

-- What nothing refuses

ids_free : (o : Option ℕ) (after : Option AllocateError) → by_ids o after ≡ None → (o ≡ None) × (after ≡ None)
ids_free None after none = (refl, none)
ids_free (Some used) after none = absurd (none-some (allocate.NoIds used) (sym none))

way_free : (o : Option ℕ) (dst : ℕ) (after : Option AllocateError) → by_way o dst after ≡ None → ((link : ℕ) × (o ≡ Some link)) × (after ≡ None)
way_free None dst after none = absurd (none-some (allocate.NoRoute dst) (sym none))
way_free (Some link) dst after none = ((link, refl), none)

count_free : (last : ℕ) → by_count last ≡ None → spent 1 last ≡ None
count_free last = go (nat_lt (2 ^ 32 - 1 - last) 1)
  where
    go : (b : Bool) → cond b (Some (allocate.CountSpent 1 (2 ^ 32 - 1 - last))) None ≡ None → cond b (Some (CountSpent 1 (2 ^ 32 - 1 - last))) None ≡ None
    go true none = absurd (none-some (allocate.CountSpent 1 (2 ^ 32 - 1 - last)) (sym none))
    go false none = refl

-- the member of a place draws, another one is asked, and there is a way to it
pub record IsFree (d : Dif) (at node far : ℕ) (m : Management) : Type 0 where
  pub elsewhere : far ≢ m.agent.address
  pub room : spent_ids d at node ≡ None
  pub link : ℕ
  pub leads : way d at far ≡ Some link
  pub left : spent 1 m.agent.last_invoke ≡ None

pub free_member : (d : Dif) (at node : ℕ) (app : List ℕ) (m : Management) (far : ℕ) → found_in m.agent.items app ≡ Some far → member_refusal d at node app m ≡ None → IsFree d at node far m
free_member d at node app m far is none = elim (eqb_tells far m.agent.address) [
  | inl t ↦ absurd (none-some allocate.SameSystem (sym (sym (ap (λ (b : Bool). cond b (Some allocate.SameSystem) (behind far)) t.0) ∙ here)))
  | inr u ↦
      (let ids = ids_free (spent_ids d at node) (by_way (way d at far) far (by_count m.agent.last_invoke)) (sym (ap (λ (b : Bool). cond b (Some allocate.SameSystem) (behind far)) u.0) ∙ here) in
      let leads = way_free (way d at far) far (by_count m.agent.last_invoke) ids.1 in
      record { elsewhere = u.1; room = ids.0; link = leads.0.0; leads = leads.0.1; left = count_free m.agent.last_invoke leads.1 })
]
  where
    behind : ℕ → Option AllocateError
    behind dst = by_ids (spent_ids d at node) (by_way (way d at dst) dst (by_count m.agent.last_invoke))

    here : cond (far == m.agent.address) (Some allocate.SameSystem) (behind far) ≡ None
    here = sym (ap (λ (o : Option ℕ). by_address o m.agent.address behind) is) ∙ none

-- What it draws

-- a flow that was asked for has a port at its node
pub asked_few : (d : Dif) (at node n : ℕ) → IsUnspent d at node → n ≡ asked_at node d.flows.journal.ends → n < 4294967295
asked_few d at node n free is = (let small = asked_small node d.flows.journal.ends in let few : drawn_at node d.flows.journal.ends < 4294967295 = free.few in omega (arith, small, few, is))

-- one id is drawn, the least one
pub drawn_one : (held after : List CepIds) (now at cep : ℕ) (draw : Draw) → DrawsAt held now at cep → IsDrawnAt held now at draw after → HasDrawnOne held now at cep after
drawn_one held after now at cep draw draws drew =
    let ids : drew.draws.ids ≡ draws.ids = same_Some drew.draws.ids draws.ids (sym drew.draws.are_ids ∙ draws.are_ids) in
    let cep_is : draw.cep ≡ cep = same_Some draw.cep cep (sym drew.draws.least ∙ ap (λ (x : CepIds). free_id x.0 now x.1) ids ∙ draws.least) in
    record { draws = draws; after_is = drew.after_is ∙ (λ i. with_drawn at (ids i) (cep_is i) held) }

-- The end

pub adds_end : (d : Dif) (cube : Cube) (piece max : ℕ) (peer : Peer) (end : End) (new : Flows) (r : Result (Unit {0}) NoMemory) → piece ≡ piece_size (config_of d.settings) → max ≡ greatest (config_of d.settings)
    → OnOk r (new.journal.ends ≡ d.flows.journal.ends ++ end ∷ []) → OnOk r (AddsAsker cube piece max peer end d.flows new) → OnOk r (AddsFar cube piece max peer end d.flows new) → OnOk r (AddsEnd d cube peer end new)
adds_end d cube piece max peer end new (Ok done) piece_is max_is ends asks answers =
    let g = config_of d.settings in
    record {
      ends = ends;
      asks = subst (λ (m : ℕ). AddsAsker cube (piece_size g) m peer end d.flows new) max_is (subst (λ (p : ℕ). AddsAsker cube p max peer end d.flows new) piece_is asks);
      answers = subst (λ (m : ℕ). AddsFar cube (piece_size g) m peer end d.flows new) max_is (subst (λ (p : ℕ). AddsFar cube p max peer end d.flows new) piece_is answers);
    }
adds_end d cube piece max peer end new (Err e) piece_is max_is ends asks answers = tt

-- no flow has the name that is given next
fresh_name : (d : DifSeen) (lines : List Direction) (below : Seen) → IsStanding d lines below → IsNumbered d below → (node place : ℕ) (member : Member) → home node d.config.members ≡ Some place → slice_get d.config.members place ≡ Some member
    → (i : ℕ) (e : End) → At d.ends i e → e.flow ≢ flow_next d node member
fresh_name d lines below st n node place member at_home stands i e is same =
    let c = n.counted i e is in
    let member_is : c.member ≡ member = same_member d lines below st n c.place place c.member member c.stands stands (c.addr ∙ ap (λ (f : FlowName). f.src) same) in
    let node_is : member.node ≡ node = test_passes d.config.members node place member at_home stands in
    let count : e.flow.count < asked_at node d.ends = subst (λ (z : ℕ). e.flow.count < asked_at z d.ends) (ap (λ (x : Member). x.node) member_is ∙ node_is) c.count in
    let at : e.flow.count ≡ asked_at node d.ends = ap (λ (f : FlowName). f.count) same in
    omega (arith, count, at)

same_some : {X : Type 0} (o : Option X) (a b : X) → o ≡ Some a → o ≡ Some b → a ≡ b
same_some o a b h g = cc

pending_not : (end : End) (fail : Fail) → end.state ≡ Pending → end.state ≡ Failed fail → ⊥
pending_not end fail h g = cc

-- an end that waits has not failed
asked_caused : (d : DifSeen) (lines : List Direction) (below : Seen) (ask : Asking) (d' : DifSeen) (lines' : List Direction) → IsStanding d lines below → IsAskedFor d lines ask d' lines' → AreCaused d below → AreCaused d' below
asked_caused d lines below ask d' lines' st s c = caused_here d d' below (record {
  config = ap (λ (x : DifSeen). x.config) s.new_is;
  clock = (let same = ap (λ (x : DifSeen). x.clock) s.new_is in omega (arith, same));
  was = λ k x ids fail is is_ids failed. elim (pushed_at d.ends _ k x (ap (λ (z : DifSeen). slice_get z.ends k) (sym s.new_is) ∙ is)) [
    | inl old ↦
        (let known = beside d.ends d.conns k x st.own.alike old in
        let same : ids ≡ known.0 = same_some (slice_get d'.conns k) ids known.0 is_ids (ap (λ (z : DifSeen). slice_get z.conns k) s.new_is ∙ still_at d.conns _ k known.0 known.1) in
        still_failed d k x ids fail old (known.1 ∙ ap (λ (i : Ids). Some i) (sym same)) failed)
    | inr t ↦ absurd (pending_not x fail (ap (λ (e : End). e.state) t.1) failed)
  ];
}) c

-- The other member

first_to : (dst n : ℕ) (routes : List Route) (o : Option Route) → find (λ (r : Route). r.dst == dst) routes ≡ o → option_map (λ (r : Route). r.link) o ≡ Some n → (r : Route) × Contains routes r × (r.dst ≡ dst)
first_to dst n routes None first is = absurd (none-some n is)
first_to dst n routes (Some r) first is = (let f = found (λ (z : Route). z.dst == dst) routes r first in (r, f.0, eqb-true r.dst dst f.1))

dst_by : (b : Bool) (addr : ℕ) (o : Option ℕ) (r : Route) → cond b None (option_map (λ n. record { dst = addr; link = n }) o) ≡ Some r → addr ≡ r.dst
dst_by true addr o r is = absurd (none-some r is)
dst_by false addr None r is = absurd (none-some r is)
dst_by false addr (Some n) r is = (let made : Route = record { dst = addr; link = n } in ap (λ (z : Route). z.dst) (same_Some made r is))

-- a next hop leads to a member
to_member : (own : ℕ) (hops : List Hop) (claimed : List Edge) (members : List Kept) (routes : List Route) (dst n : ℕ) → AreRoutesOver own hops claimed members routes → next_hop dst routes ≡ Some n → (m : Kept) × Contains members m × (m.addr ≡ dst)
to_member own hops claimed members routes dst n are hop =
    let all : List Route = routes_to own are.rows members in
    let r = first_to dst n all (find (λ (r : Route). r.dst == dst) all) refl (ap (next_hop dst) (sym are.are) ∙ hop) in
    let to = made_of (route_to own are.rows) members r.0 r.1 in
    (to.0, to.1, dst_by (to.0.addr == own) to.0.addr (hop_at are.rows to.0.addr) r.0 to.2 ∙ r.2)

-- so its address fits its field
far_fits : (d : Dif) (lines : List Direction) (below : Seen) (at dst link : ℕ) → Holds d lines below → at < length d.settings.members → way d at dst ≡ Some link → dst < 2 ^ (8 * d.settings.widths.addr)
far_fits d lines below at dst link h lt leads =
    let m = there d.settings.members at lt in
    let p = has_process d below at (lines, h) lt in
    let g = has_agent d lines below at lt h in
    let one = h.managed.each at m.0 p.0 g.0 m.1 p.1 g.1 in
    let hop : next_hop dst p.0.routes ≡ Some link = sym (ap (option_and_then (λ (z : IpcProcess). next_hop dst z.routes)) p.1) ∙ leads in
    let to = to_member g.0.agent.address (hops_of g.0.agent.links) (all_claims g.0.agent.items) d.settings.members p.0.routes dst link one.routes hop in
    let fit = h.numbered.members.fit to.1.0 (member_of to.0) (slice_get-map member_of d.settings.members to.1.0 ∙ ap (option_map member_of) (at_place d.settings.members to.0 to.1)) in
    subst (λ (a : ℕ). a < 2 ^ (8 * d.settings.widths.addr)) to.2 fit

-- The DIF

module _ (d : Dif) (ask : Ask) (flow : AskedFlow) (w : IsWanted d ask flow) where
  -- with other asks and managements
  abbrev asking : Vec WaitingAsk → List Management → Dif
  asking asks ms = record d { managements = ms; asks = asks }

  abbrev wish : Asking
  wish = record { node = ask.node; app = ask.app; to = ask.to; cube = flow.cube.id; peer = flow.far }

  abbrev member : Member
  member = member_of w.draws.member

  home_is : home ask.node (config_of d.settings).members ≡ Some flow.near.place
  home_is = (enrolled_home_is d ask.node flow.near.place w.here).1

  stands : slice_get (config_of d.settings).members flow.near.place ≡ Some member
  stands = slice_get-map member_of d.settings.members flow.near.place ∙ ap (option_map member_of) w.draws.stands

  within : flow.near.place < length d.settings.members
  within = slice_get_within d.settings.members flow.near.place w.draws.member w.draws.stands

  its_end : end_of_ask flow ask ≡ end_asked (seen_of d) wish member
  its_end =
      let name : flow.flow ≡ flow_next (seen_of d) ask.node member = w.name ∙ ap (λ (a : ℕ). record { src = a; tick = d.clock; count = asked_at ask.node d.flows.journal.ends }) w.draws.addr in
      (λ i. record { flow = name i; role = Asker; port = w.draws.port i; app = ask.app; peer = ask.to; cube = flow.cube.id; sent = []; got = []; taken = 0; state = Pending })

  its_ids : ids_by (peer_of flow) flow.cube.id ≡ ids_asked wish member flow.near.cep
  its_ids = ap (λ (a : ℕ). record { own = a; far = flow.far; scep = flow.near.cep; dcep = 0; qos = flow.cube.id }) w.draws.addr

  module _ (asks : Vec WaitingAsk) (ms : List Management) (flows : Flows) (held : List CepIds) (lines : List Direction) (below : Seen) (h : Holds d lines below) where
    abbrev with_end : Dif
    with_end = record d { flows = flows; ids = held; managements = ms; asks = asks }

    by_id : cube_by flow.cube.id d.settings.cubes ≡ Some flow.cube
    by_id = by_own_id (fits ask.want) d.settings.cubes flow.cube h.connected.may.apart w.cube

    not_own : flow.far ≢ member.addr
    not_own same =
        let m = w.draws in
        let p = has_process d below flow.near.place (lines, h) within in
        let one = h.managed.each flow.near.place m.member p.0 w.management m.stands p.1 w.is_management in
        w.elsewhere (same ∙ sym one.knows.address)

    -- the asker's end stands behind the flows
    pub adds_asker : AddsEnd d flow.cube (peer_of flow) (end_of_ask flow ask) flows → HasDrawnOne d.ids d.clock flow.near.place flow.near.cep held → Holds (asking asks ms) lines below → AsksAt d lines below ask flow.near.port with_end
    adds_asker added drew h' =
        let g = config_of d.settings in
        let seen = seen_of d in
        let seen' = seen_of with_end in
        let new : IsNewAsker g flow.cube (piece_size g) (greatest g) d.flows.journal.ends (end_of_ask flow ask) = record {
          piece_is = refl;
          max_is = refl;
          is_cube = by_id;
          fresh = λ i e is. subst (λ (x : End). e.flow ≢ x.flow) (sym its_end) (fresh_name seen lines below h.standing h.numbered ask.node flow.near.place member home_is stands i e is);
          waits = refl;
          got = refl;
        } in
        let has = added.asks g d.clock lines h.tied new in
        let line = begun_now g d.clock flow.cube (peer_of flow) in
        let fresh : IsFresh seen (ids_asked wish member flow.near.cep) line = record { cube = flow.cube; is_cube = by_id; is = ap (λ (z : Ids). ticked d.clock (start (constants g flow.cube z))) its_ids } in
        let asked : IsAskedFor seen lines wish seen' (lines ++ line ∷ []) = record {
          place = flow.near.place;
          at_home = home_is;
          member = member;
          stands = stands;
          enrolled = (enrolled_home_is d ask.node flow.near.place w.here).0;
          elsewhere = not_own;
          peer_fits = far_fits d lines below flow.near.place flow.far w.link h within w.leads;
          cep = flow.near.cep;
          draws = drew.draws;
          cep_fits = w.draws.fits;
          line = line;
          fresh = fresh;
          lines_are = refl;
          new_is = (λ i. record seen { ends = (added.ends ∙ ap (λ (e : End). d.flows.journal.ends ++ e ∷ []) its_end) i; conns = (has.ids ∙ ap (λ (c : Ids). conns_of d.flows.conns ++ c ∷ []) its_ids) i; ids = drew.after_is i });
        } in
        record {
          lines' = lines ++ line ∷ [];
          cube = flow.cube;
          meets = w.cube;
          peer = flow.far;
          known = record { place = flow.near.place; here = w.here; management = w.management; is_management = w.is_management; finds = w.finds };
          asked = asked;
          port_is = w.draws.port;
          holds = record {
            tied = has.tied;
            standing = asked_stands seen lines below h.standing h.numbered wish seen' (lines ++ line ∷ []) asked;
            carrying = asked_carries seen lines below h.standing h.numbered wish seen' (lines ++ line ∷ []) asked h.carrying;
            numbered = asked_numbers seen lines below h.standing h.numbered wish seen' (lines ++ line ∷ []) asked;
            accounted = asked_accounted seen lines below h.standing h.numbered wish seen' (lines ++ line ∷ []) asked h.accounted;
            caused = asked_caused seen lines below wish seen' (lines ++ line ∷ []) h.standing asked h.caused;
            written_off = asked_written seen lines wish seen' (lines ++ line ∷ []) h.written_off asked;
            housed = h'.housed;
            managed = h'.managed;
            enrolled = h'.enrolled;
            connected = h'.connected;
            flooded = h'.flooded;
          };
        }

-- Its invoke id

-- the management of the member still has its last invoke id where a message waits
posted_last : (at : ℕ) (o : Option ℕ) (message : FlowMessage) (ms : List Management) (g m : Management) → slice_get ms at ≡ Some g → slice_get (posted at o message ms) at ≡ Some m → m.agent.last_invoke ≡ g.agent.last_invoke
posted_last at None message ms g m is is' = ap (λ (z : Management). z.agent.last_invoke) (same_Some m g (sym is' ∙ is))
posted_last at (Some link) message ms g m is is' =
    let are : posted at (Some link) message ms ≡ slice_set ms at (with_message g link message) = ap (λ (o : Option Management). changed_if o at (λ (z : Management). with_message z link message) ms) is in
    let set = slice_get-set_same ms at g (with_message g link message) is in
    ap (λ (z : Management). z.agent.last_invoke) (same_Some m (with_message g link message) (sym is' ∙ ap (λ (zs : List Management). slice_get zs at) are ∙ set))

-- so one is left
pub still_left : (d : Dif) (ask : Ask) (flow : AskedFlow) (message : FlowMessage) (m : Management) → IsWanted d ask flow → slice_get (posts d flow.near.place message d.managements) flow.near.place ≡ Some m → spent 1 m.agent.last_invoke ≡ None
still_left d ask flow message m w is = ap (spent 1) (posted_last flow.near.place (way d flow.near.place message.to) message d.managements w.management m w.is_management is) ∙ w.left

-- it is drawn
pub draws_invoke : (d : Dif) (lines : List Direction) (below : Seen) (at : ℕ) → at < length d.settings.members → ((m : Management) → slice_get d.managements at ≡ Some m → spent 1 m.agent.last_invoke ≡ None) → Holds d lines below → Holds (record d { managements = with_invoke_at at d.managements }) lines below
draws_invoke d lines below at lt left h =
    let g = has_agent d lines below at lt h in
    let tells = tell_short d below (lines, h) at g.0 g.1 in
    let new : Management = record g.0 { agent = with_invoke g.0.agent } in
    let are : with_invoke_at at d.managements ≡ slice_set d.managements at new = ap (λ (o : Option Management). changed_if o at (λ (z : Management). record z { agent = with_invoke z.agent }) d.managements) g.1 in
    subst (λ (ms : List Management). Holds (record d { managements = ms }) lines below) (sym are) (drawn_holds d lines below h at g.0 g.1 tells (left g.0 g.1))

pub asks_drawing : (d d' : Dif) (lines : List Direction) (below : Seen) (ask : Ask) (port : Port) (at : ℕ) → at < length d'.settings.members → ((m : Management) → slice_get d'.managements at ≡ Some m → spent 1 m.agent.last_invoke ≡ None) → AsksAt d lines below ask port d' → AsksAt d lines below ask port (record d' { managements = with_invoke_at at d'.managements })
asks_drawing d d' lines below ask port at lt left a = record {
  lines' = a.lines';
  cube = a.cube;
  meets = a.meets;
  peer = a.peer;
  known = a.known;
  asked = a.asked;
  port_is = a.port_is;
  holds = draws_invoke d' a.lines' below at lt left a.holds;
}

-- Other asks wait

pub asks_hold : (d : Dif) (asks : Vec WaitingAsk) (lines : List Direction) (below : Seen) → Holds d lines below → Holds (record d { asks = asks }) lines below
asks_hold d asks lines below h = record { tied = h.tied; standing = h.standing; carrying = h.carrying; numbered = h.numbered; accounted = h.accounted; caused = h.caused; written_off = h.written_off; housed = h.housed; managed = h.managed; enrolled = h.enrolled; connected = h.connected; flooded = h.flooded }

pub asks_whole : (d : Dif) (asks : Vec WaitingAsk) → IsDif d → IsDif (record d { asks = asks })
asks_whole d asks is = record { below = is.below; stands = (is.stands.0, asks_hold d asks is.stands.0 is.below is.stands.1); clock = is.clock }

-- The request waits

pub has_requested : (d : Dif) (ask : Ask) (flow : AskedFlow) (w : IsWanted d ask flow) (asks : Vec WaitingAsk) (d' : Dif) (r : Result (Unit {0}) NoMemory) (invoke n : ℕ) (message : FlowMessage) → message ≡ request_of flow ask invoke → invoke ≡ w.management.agent.last_invoke + 1 → n ≡ length d.flows.journal.ends
    → asks.items ≡ d.asks.items ++ record { member = flow.near.place; invoke = invoke; place = n } ∷ [] → OnOk r (d' ≡ record d { managements = posts d flow.near.place message d.managements; asks = asks }) → OnOk r (HasRequested d ask flow d')
has_requested d ask flow w asks d' (Ok done) invoke n message message_is invoke_is n_is pushed is =
    let asks_are : d'.asks ≡ asks = ap (λ (z : Dif). z.asks) is in
    let request : message ≡ request_of flow ask (w.management.agent.last_invoke + 1) = message_is ∙ ap (request_of flow ask) invoke_is in
    record {
      management = w.management;
      is_management = w.is_management;
      waits = ap (λ (z : Vec WaitingAsk). z.items) asks_are ∙ pushed ∙ (λ i. d.asks.items ++ record { member = flow.near.place; invoke = invoke_is i; place = n_is i } ∷ []);
      is = is ∙ (λ i. record d { managements = posts d flow.near.place (request i) d.managements; asks = sym asks_are i });
    }
has_requested d ask flow w asks d' (Err e) invoke n message message_is invoke_is n_is pushed is = tt

-- The request waits, the end stands behind the flows, and the invoke id is drawn

module _ (d : Dif) (ask : Ask) (flow : AskedFlow) (w : IsWanted d ask flow) (d2 d3 : Dif) (r : HasRequested d ask flow d2) (rest : d3 ≡ record d2 { flows = d3.flows; ids = d3.ids }) (ms : List Management) (drawn : ms ≡ with_invoke_at flow.near.place d3.managements) where
  abbrev request : FlowMessage
  request = request_of flow ask (r.management.agent.last_invoke + 1)

  abbrev waiting : List Management
  waiting = posts d flow.near.place request d.managements

  whole : d3 ≡ record d { flows = d3.flows; ids = d3.ids; managements = waiting; asks = d2.asks }
  whole = rest ∙ ap (λ (z : Dif). record z { flows = d3.flows; ids = d3.ids }) r.is

  pub asks_all : (peer : Peer) (end : End) → peer ≡ peer_of flow → end ≡ end_of_ask flow ask → AddsEnd d2 flow.cube peer end d3.flows → HasDrawnOne d2.ids d2.clock flow.near.place peer.scep d3.ids → (lines : List Direction) (below : Seen) → Holds d lines below → Holds d2 lines below → AsksAt d lines below ask flow.near.port (record d3 { managements = ms })
  asks_all peer end peer_is end_is added drew lines below h h2 =
      let there = subst (λ (z : Dif). AddsEnd z flow.cube peer end d3.flows) r.is added in
      let there' : AddsEnd d flow.cube peer end d3.flows = record { ends = there.ends; asks = there.asks; answers = there.answers } in
      let added' : AddsEnd d flow.cube (peer_of flow) (end_of_ask flow ask) d3.flows = subst (λ (p : Peer). AddsEnd d flow.cube p (end_of_ask flow ask) d3.flows) peer_is (subst (λ (e : End). AddsEnd d flow.cube peer e d3.flows) end_is there') in
      let drew' : HasDrawnOne d.ids d.clock flow.near.place flow.near.cep d3.ids = subst (λ (p : Peer). HasDrawnOne d.ids d.clock flow.near.place p.scep d3.ids) peer_is (subst (λ (z : Dif). HasDrawnOne z.ids z.clock flow.near.place peer.scep d3.ids) r.is drew) in
      let base = adds_asker d ask flow w d2.asks waiting d3.flows d3.ids lines below h added' drew' (subst (λ (z : Dif). Holds z lines below) r.is h2) in
      let within = slice_get_within d.settings.members flow.near.place w.draws.member w.draws.stands in
      let lt : flow.near.place < length d3.settings.members = subst (λ (z : Dif). flow.near.place < length z.settings.members) (sym whole) within in
      let all = asks_drawing d d3 lines below ask flow.near.port flow.near.place lt left (subst (AsksAt d lines below ask flow.near.port) (sym whole) base) in
      subst (λ (zs : List Management). AsksAt d lines below ask flow.near.port (record d3 { managements = zs })) (sym drawn) all
    where
      left : (m : Management) → slice_get d3.managements flow.near.place ≡ Some m → spent 1 m.agent.last_invoke ≡ None
      left m is = still_left d ask flow request m w (subst (λ (z : Dif). slice_get z.managements flow.near.place ≡ Some m) whole is)

  pub requests_all : Requests d ask flow.near.port (record d3 { managements = ms })
  requests_all =
      let same : r.management ≡ w.management = same_Some r.management w.management (sym r.is_management ∙ w.is_management) in
      record {
        flow = flow;
        wanted = w;
        port_is = refl;
        managed = drawn ∙ ap (λ (z : Dif). with_invoke_at flow.near.place z.managements) whole ∙ ap (λ (m : Management). with_invoke_at flow.near.place (posts d flow.near.place (request_of flow ask (m.agent.last_invoke + 1)) d.managements)) same;
        waits = ap (λ (z : Dif). z.asks.items) whole ∙ r.waits ∙ ap (λ (m : Management). d.asks.items ++ record { member = flow.near.place; invoke = m.agent.last_invoke + 1; place = length d.flows.journal.ends } ∷ []) same;
      }

  -- an invoke id is left where the request waits
  pub left_waiting : (m : Management) → slice_get d3.managements flow.near.place ≡ Some m → spent 1 m.agent.last_invoke ≡ None
  left_waiting m is = still_left d ask flow request m w (subst (λ (z : Dif). slice_get z.managements flow.near.place ≡ Some m) whole is)

-- What the member draws, as it is read

pub draws_next : (d : Dif) (at node n cep : ℕ) (m : Kept) → IsDif d → (free : IsUnspent d at node) → slice_get d.settings.members at ≡ Some m → n ≡ drawn_at node d.flows.journal.ends → free_id free.ids.0 d.clock free.ids.1 ≡ Some cep
    → DrawsNext d at node (record { place = at; addr = m.addr; port = record { fac = d.settings.fac; node = node; n = n + 1 }; cep = cep })
draws_next d at node n cep m is free is_m count least = record {
  place = refl;
  member = m;
  stands = is_m;
  addr = refl;
  port = ap (λ (k : ℕ). record { fac = d.settings.fac; node = node; n = k + 1 }) count;
  cep = record { ids = free.ids; are_ids = free.are_ids; least = least };
  fits =
      let same : free.cep ≡ cep = same_Some free.cep cep (sym free.free ∙ least) in
      let greatest = is.stands.1.numbered.drawn.greatest at free.ids free.are_ids in
      let some = power_positive (8 * d.settings.widths.cep) in
      let most = free.fits in
      omega (arith, same, greatest, some, most);
}

-- no cube meets the wish

pub no_offer : (d : Dif) (ask : Ask) (cubes : List Cube) → IsDif d → cubes ≡ d.settings.cubes → cube_wanted cubes ask.want ≡ None → offered (map offer_of d.settings.cubes) ask.want ≡ None
no_offer d ask cubes is same none =
    let first : find (fits ask.want) d.settings.cubes ≡ None = sym (wanted_is d.settings.cubes ask.want (cubes_apart d is)) ∙ sym (ap (λ (cs : List Cube). cube_wanted cs ask.want) same) ∙ none in
    offered_is ask.want d.settings.cubes ∙ ap (option_map offer_of) first

-- or one does
pub some_offer : (d : Dif) (ask : Ask) (cubes : List Cube) (cube : Cube) → IsDif d → cubes ≡ d.settings.cubes → cube_wanted cubes ask.want ≡ Some cube → find (fits ask.want) d.settings.cubes ≡ Some cube
some_offer d ask cubes cube is same wanted = sym (wanted_is d.settings.cubes ask.want (cubes_apart d is)) ∙ sym (ap (λ (cs : List Cube). cube_wanted cs ask.want) same) ∙ wanted

pub is_offered : (d : Dif) (ask : Ask) (cube : Cube) → find (fits ask.want) d.settings.cubes ≡ Some cube → is_some (offered (map offer_of d.settings.cubes) ask.want) ≡ true
is_offered d ask cube first = ap (λ (o : Option Offer). is_some o) (offered_is ask.want d.settings.cubes ∙ ap (option_map offer_of) first)

-- What an ask is for, as it is read

pub is_wanted : (d : Dif) (ask : Ask) (at n : ℕ) (near : NextEnd) (cube : Cube) (far : ℕ) (m : Management) → enrolled_home d ask.node ≡ Some at → DrawsNext d at ask.node near → n ≡ asked_at ask.node d.flows.journal.ends → find (fits ask.want) d.settings.cubes ≡ Some cube → slice_get d.managements at ≡ Some m
    → found_in m.agent.items ask.to ≡ Some far → IsFree d at ask.node far m → IsWanted d ask (record { flow = record { src = near.addr; tick = d.clock; count = n }; near = near; cube = cube; far = far })
is_wanted d ask at n near cube far m here draws count first is_m finds free =
    let place : at ≡ near.place = sym draws.place in
    record {
      here = here ∙ ap (λ (k : ℕ). Some k) place;
      draws = subst (λ (k : ℕ). DrawsNext d k ask.node near) place draws;
      name = ap (λ (k : ℕ). record { src = near.addr; tick = d.clock; count = k }) count;
      cube = first;
      management = m;
      is_management = subst (λ (k : ℕ). slice_get d.managements k ≡ Some m) place is_m;
      finds = finds;
      elsewhere = free.elsewhere;
      link = free.link;
      leads = subst (λ (k : ℕ). way d k far ≡ Some free.link) place free.leads;
      left = free.left;
    }

-- an error is told on
pub told_err : {T : Type 0} (r : Result T AllocateError) (o : Option AllocateError) (e e' : AllocateError) → r ≡ Err e → e ≡ e' → o ≡ Some e' → TellsRefusal o r
told_err r o e e' is same refusal = subst (TellsRefusal o) (sym (is ∙ ap (λ (x : AllocateError). Err x) same)) refusal

-- The invoke id that is next

pub one_left : (last : ℕ) → spent 1 last ≡ None → last + 1 < 4294967296
one_left last none = go (nat_lt (2 ^ 32 - 1 - last) 1) refl none
  where
    go : (b : Bool) → nat_lt (2 ^ 32 - 1 - last) 1 ≡ b → cond b (Some (CountSpent 1 (2 ^ 32 - 1 - last))) None ≡ None → last + 1 < 4294967296
    go true is left = absurd (none-some (CountSpent 1 (2 ^ 32 - 1 - last)) (sym left))
    go false is left = grind (arith, nat_tests, is)

pub entry_there : (ms items : List Management) (at : ℕ) (m : Management) → items ≡ ms → at < length ms → m ≡ get_or items at m → slice_get ms at ≡ Some m
entry_there ms items at m is lt value = slice_get_read ms (length ms) at m refl lt (value ∙ ap (λ (zs : List Management). get_or zs at m) is)

pub draws_at_place : (ms items : List Management) (at : ℕ) (m : Management) → items ≡ ms → slice_get ms at ≡ Some m → slice_set items at (record m { agent = with_invoke m.agent }) ≡ with_invoke_at at ms
draws_at_place ms items at m is there = ap (λ (zs : List Management). slice_set zs at (record m { agent = with_invoke m.agent })) is ∙ sym (ap (λ (o : Option Management). changed_if o at (λ (z : Management). record z { agent = with_invoke z.agent }) ms) there)

-- One ask more waits

pub pushed_items : {E : Type 0} (r : Result (Unit {0}) E) (old new : List WaitingAsk) (x : WaitingAsk) → false ≡ is_err r → new ≡ cond (is_ok r) (old ++ x ∷ []) old → new ≡ old ++ x ∷ []
pushed_items (Ok done) old new x fine is = is
pushed_items (Err e) old new x fine is = absurd (false≢true fine)

pub whenever : {T E : Type 0} (r : Result T E) (P : Type 0) → P → OnOk r P
whenever (Ok x) P holds = holds
whenever (Err e) P holds = tt

-- Where the request waits

posted_length : (at : ℕ) (o : Option ℕ) (message : FlowMessage) (ms : List Management) → length (posted at o message ms) ≡ length ms
posted_length at None message ms = refl
posted_length at (Some link) message ms = changed_length at (λ (m : Management). with_message m link message) ms

pub place_there : (d : Dif) (ask : Ask) (flow : AskedFlow) (d2 d3 : Dif) → IsDif d → IsWanted d ask flow → HasRequested d ask flow d2 → d3 ≡ record d2 { flows = d3.flows; ids = d3.ids } → flow.near.place < length d3.managements
place_there d ask flow d2 d3 is w r rest =
    let request : FlowMessage = request_of flow ask (r.management.agent.last_invoke + 1) in
    let are : d3.managements ≡ posts d flow.near.place request d.managements = ap (λ (z : Dif). z.managements) rest ∙ ap (λ (z : Dif). z.managements) r.is in
    let long : length d3.managements ≡ length d.managements = ap (λ (ms : List Management). length ms) are ∙ posted_length flow.near.place (way d flow.near.place request.to) request d.managements in
    let within = slice_get_within d.managements flow.near.place w.management w.is_management in
    omega (arith, long, within)

-- its cube is the first one of its id
pub cube_there : (d : Dif) (ask : Ask) (flow : AskedFlow) (d2 : Dif) → IsDif d → IsWanted d ask flow → HasRequested d ask flow d2 → cube_by flow.cube.id d2.settings.cubes ≡ Some flow.cube
cube_there d ask flow d2 is w r = subst (λ (z : Dif). cube_by flow.cube.id z.settings.cubes ≡ Some flow.cube) (sym r.is) (by_own_id (fits ask.want) d.settings.cubes flow.cube (cubes_apart d is) w.cube)
