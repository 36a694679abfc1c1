-- A message about a flow waits at a member, or a member draws an invoke id: the DIF holds.
use Rattle.std.proofs.Common.{◌≡◌, ◌∙◌, ℕ, zero, suc, ◌+◌, Bool, true, List, [], ◌∷◌, Contains, filter, length-set, map, slice_get, slice_set, None, Some, option_map, is_some, refl, sym, ap, subst, inl, inr}
use Rattle.std.specs.Prelude.{◌==◌, find}
use Rattle.std.proofs.lemmas.Bool.{cases_Bool, both_ways, eq-eqb}
use Rattle.std.proofs.lemmas.List.{map-set}
use Rattle.std.proofs.lemmas.Option.{none-some, same_Some, slice_get-map}
use Rattle.rina_alloc.specs.declared.message.FlowMessage.{FlowMessage}
use Rattle.rina_iface.specs.Seen.{Seen}
use Rattle.rina_iface.proofs.Changed.{set_at}
use Rattle.rina_law.specs.Direction.{Direction}
use Rattle.rina_agent.specs.declared.agent.Agent.{Agent}
use Rattle.rina_agent.specs.declared.link.Link.{Link as Managed}
use Rattle.rina_agent.specs.declared.message.ManagementMessage.TheVariants.{ToMember}
use Rattle.rina_agent.specs.declared.message.Waiting.{Waiting}
use Rattle.rina_agent.specs.Counts.{spent}
use Rattle.rina_agent.specs.Enrolments.{is_numbered}
use Rattle.rina_plan.specs.declared.dif.LinkPlan.{LinkPlan}
use Rattle.rina_data.specs.declared.link.Link.{Link}
use Rattle.rina_data.specs.declared.link.Route.{Route}
use Rattle.rina_data.specs.declared.process.IpcProcess.{IpcProcess}
use Rattle.rina_data.specs.declared.settings.Member.{Member}
use Rattle.rina_data.specs.Process.{next_hop}
use Rattle.rina_route.proofs.Lists.{cases, contains_map, contains_unmap, head, in_none, tail}
use Rattle.rina_member.specs.declared.management.Management.{Management}
use Rattle.rina_member.specs.Knowing.{AreRoutesOf, HasLiveLink, Knows}
use Rattle.rina_member.specs.Routing.{live_of}
use Rattle.rina_member.specs.Short.{IsShort, TellsShort}
use Rattle.rina_member.proofs.Knowing.{knows_live}
use Rattle.rina_member.proofs.Planned.{planned_links}
use Rattle.rina_member.proofs.TellsMore.{draws_short, posts_short}
use Rattle.rina_flood.specs.Members.{DrawsInvoke, PostsForMember}
use Rattle.rina_flood.specs.Network.{with_invoke, with_message}
use Rattle.rina_flood.proofs.Posted.{draws_run, posts_run}
use Rattle.rina_dif.specs.declared.dif.Dif.{Dif}
use Rattle.rina_dif.specs.Flooding.{AreFlooding, members_seen}
use Rattle.rina_dif.specs.Holding.{Holds}
use Rattle.rina_dif.specs.Managing.{AreManagedBy, IsManaged, agents_of}
use Rattle.rina_dif.proofs.Enrolled.{enrolled_on, states_set}

-- Its link

find_there : (number : ℕ) (links : List Managed) (l : Managed) → Contains links l → l.number ≡ number → is_some (find (is_numbered number) links) ≡ true
find_there number [] l has is = absurd (in_none l has)
find_there number (x ∷ links) l has is = elim (cases_Bool (x.number == number)) [
  | inl this ↦ rw this refl
  | inr other ↦ elim (cases x links l has) [
    | inl same ↦ absurd (both_ways (x.number == number) other (eq-eqb x.number number (ap (λ (z : Managed). z.number) same ∙ is)))
    | inr rest ↦ rw other (find_there number links l rest is)
  ]
]

kept_there : {A : Type 0} (keep : A → Bool) (xs : List A) (k : ℕ) (x : A) → slice_get xs k ≡ Some x → keep x ≡ true → Contains (filter keep xs) x
kept_there keep [] k x is good = absurd (none-some x is)
kept_there keep (y ∷ ys) zero x is good =
    let same : y ≡ x = same_Some y x is in
    let this : keep y ≡ true = ap keep same ∙ good in
    rw this (subst (λ z. Contains (y ∷ filter keep ys) z) same (head y (filter keep ys)))
kept_there keep (y ∷ ys) (suc k) x is good = elim (cases_Bool (keep y)) [
  | inl keeps ↦ rw keeps (tail y (filter keep ys) x (kept_there keep ys k x is good))
  | inr drops ↦ rw drops (kept_there keep ys k x is good)
]

-- a member has a link of the number of each live one of its IPC process
pub live_linked : (now : ℕ) (m : Member) (links : List Link) (g : Agent) (number : ℕ) → Knows now m links g → HasLiveLink links number → is_some (find (is_numbered number) g.links) ≡ true
live_linked now m links g number h live =
    let number_of : Link → ℕ = λ z. z.number in
    let among : Contains (map number_of (live_of links)) live.link.number = contains_map number_of (live_of links) live.link (kept_there (λ (z : Link). z.live) links live.place live.link live.stands live.live) in
    let r = contains_unmap (λ (z : Managed). z.number) g.links live.link.number (subst (λ (ns : List ℕ). Contains ns live.link.number) (sym h.numbers) among) in
    find_there number g.links r.0 r.1 (r.2 ∙ live.is_number)

-- so it has one of the number of each next hop
pub hop_linked : (now : ℕ) (m : Member) (links : List Link) (g : Agent) (members : List Member) (routes : List Route) (dst number : ℕ) → Knows now m links g → AreRoutesOf g members routes → next_hop dst routes ≡ Some number → is_some (find (is_numbered number) g.links) ≡ true
hop_linked now m links g members routes dst number h are hop = live_linked now m links g number h (knows_live now m links g members routes dst number h are hop)

-- What is known of the member

-- whatever waits, and whichever invoke id was drawn last
other_managed : (is_static : Bool) (members : List Member) (plans : List LinkPlan) (now : ℕ) (m : Member) (p : IpcProcess) (g : Management) (agenda : List Waiting) (invoke : ℕ) → IsManaged is_static members plans now m p g → TellsShort (record g.agent { agenda = agenda; last_invoke = invoke })
    → IsManaged is_static members plans now m p (record g { agent = record g.agent { agenda = agenda; last_invoke = invoke } })
other_managed is_static members plans now m p g agenda invoke h tells = record {
  knows = record {
    address = h.knows.address;
    fits = h.knows.fits;
    apart = h.knows.apart;
    numbers = h.knows.numbers;
    ranges = h.knows.ranges;
    own = h.knows.own;
    keys = h.knows.keys;
    past = h.knows.past;
  };
  planned = λ still. planned_links members plans m p.links g.agent (record g.agent { agenda = agenda; last_invoke = invoke }) refl (h.planned still);
  bounded = h.bounded;
  routes = record { rows = h.routes.rows; hops = h.routes.hops; are = h.routes.are };
  tells = tells;
}

-- and of all
one_managed : (is_static : Bool) (members : List Member) (plans : List LinkPlan) (now : ℕ) (ps : List IpcProcess) (ms : List Management) (i : ℕ) (g g' : Management) → slice_get ms i ≡ Some g → ((m : Member) (p : IpcProcess) → IsManaged is_static members plans now m p g → IsManaged is_static members plans now m p g')
    → AreManagedBy is_static members plans now ps ms → AreManagedBy is_static members plans now ps (slice_set ms i g')
one_managed is_static members plans now ps ms i g g' is keeps h = record {
  laid_out = h.laid_out;
  aligned = length-set ms i g' ∙ h.aligned;
  each = λ k m p x is_m is_p is_x. elim (set_at ms i k g g' x is is_x) [
    | inl t ↦ subst (λ (z : Management). IsManaged is_static members plans now m p z) (sym t.1) (keeps m p (h.each k m p g is_m is_p (ap (slice_get ms) t.0 ∙ is)))
    | inr u ↦ h.each k m p x is_m is_p u.1
  ];
}

-- The DIF

-- the management of the member at a place is another
abbrev with_management : Dif → ℕ → Management → Dif
with_management d i g = record d { managements = slice_set d.managements i g }

module _ (d : Dif) (lines : List Direction) (below : Seen) (h : Holds d lines below) (i : ℕ) (g : Management) (is : slice_get d.managements i ≡ Some g) where
  its_agent : slice_get (agents_of d.managements) i ≡ Some g.agent
  its_agent = slice_get-map (λ (z : Management). z.agent) d.managements i ∙ ap (option_map (λ (z : Management). z.agent)) is

  other_holds : (agenda : List Waiting) (invoke : ℕ) → TellsShort (record g.agent { agenda = agenda; last_invoke = invoke }) → (AreFlooding d → AreFlooding (with_management d i (record g { agent = record g.agent { agenda = agenda; last_invoke = invoke } })))
      → Holds (with_management d i (record g { agent = record g.agent { agenda = agenda; last_invoke = invoke } })) lines below
  other_holds agenda invoke tells floods =
      let g' : Management = record g { agent = record g.agent { agenda = agenda; last_invoke = invoke } } in
      record {
        tied = h.tied;
        standing = h.standing;
        carrying = h.carrying;
        numbered = h.numbered;
        accounted = h.accounted;
        caused = h.caused;
        written_off = h.written_off;
        housed = h.housed;
        managed = one_managed d.laid.is_static d.settings.members d.laid.links d.clock d.processes d.managements i g g' is (λ m p one. other_managed d.laid.is_static d.settings.members d.laid.links d.clock m p g agenda invoke one tells) h.managed;
        enrolled = enrolled_on d.laid.is_static d.settings.members d.settings.admits d.managements (slice_set d.managements i g') d.enrolled (states_set d.managements i g g' is refl) h.enrolled;
        connected = h.connected;
        flooded = λ alive. floods (h.flooded alive);
      }

  -- a short message about a flow waits behind the others for a link of the member
  pub posted_holds : TellsShort g.agent → (number : ℕ) (message : FlowMessage) → IsShort (ToMember message) → is_some (find (is_numbered number) g.agent.links) ≡ true → Holds (with_management d i (record g { agent = with_message g.agent number message })) lines below
  posted_holds tells number message short linked =
      let d' : Dif = with_management d i (record g { agent = with_message g.agent number message }) in
      other_holds (with_message g.agent number message).agenda g.agent.last_invoke (posts_short number message g.agent short tells) (λ r.
      (let event : PostsForMember (members_seen d) (members_seen d') = record {
        place = i;
        agent = g.agent;
        is_agent = its_agent;
        number = number;
        linked = linked;
        message = message;
        short = short;
        stays = record { members = refl; ends = refl };
        now = refl;
        agents = map-set (λ (z : Management). z.agent) d.managements i (record g { agent = with_message g.agent number message });
        sent = λ k. refl;
        got = λ k. refl;
      } in
      posts_run d.laid.is_static d.laid.links (members_seen d) (members_seen d') r event))

  -- the member draws an invoke id
  pub drawn_holds : TellsShort g.agent → spent 1 g.agent.last_invoke ≡ None → Holds (with_management d i (record g { agent = with_invoke g.agent })) lines below
  drawn_holds tells room =
      let d' : Dif = with_management d i (record g { agent = with_invoke g.agent }) in
      other_holds g.agent.agenda (g.agent.last_invoke + 1) (draws_short g.agent tells) (λ r.
      (let event : DrawsInvoke (members_seen d) (members_seen d') = record {
        place = i;
        agent = g.agent;
        is_agent = its_agent;
        room = room;
        stays = record { members = refl; ends = refl };
        now = refl;
        agents = map-set (λ (z : Management). z.agent) d.managements i (record g { agent = with_invoke g.agent });
        sent = λ k. refl;
        got = λ k. refl;
      } in
      draws_run d.laid.is_static d.laid.links (members_seen d) (members_seen d') r event))
