-- A member that gets a new link knows it, and is enrolled as before.
use Rattle.std.proofs.Common.{◌≡◌, ◌∙◌, ℕ, ◌<◌, Bool, true, false, List, [], ◌∷◌, ◌++◌, length, slice_get, slice_set, Option, Some, None, Ok, refl, sym, ap, subst, arith, inl, inr, length-set}
use Rattle.std.specs.List.{cons_option}
use Rattle.std.proofs.lemmas.List.{append-nil}
use Rattle.std.proofs.lemmas.List.Elements.{filter_map-append}
use Rattle.rina_base.specs.Names.{app_at}
use Rattle.rina_agent.specs.declared.agent.Agent.{Agent}
use Rattle.rina_agent.specs.declared.link.Link.{Link as Managed}
use Rattle.rina_agent.specs.declared.state.MemberState.{MemberState}
use Rattle.rina_agent.specs.declared.state.MemberState.TheVariants as states
use Rattle.rina_agent.specs.Counts.{next_of}
use Rattle.rina_agent.specs.Rows.{joined_link, joining, joining_link, joining_state}
use Rattle.rina_channel.specs.declared.channel.Attachment.{Attachment}
use Rattle.rina_data.specs.declared.link.Link.{Link}
use Rattle.rina_data.specs.declared.link.Route.{Route}
use Rattle.rina_data.specs.declared.process.IpcProcess.{IpcProcess}
use Rattle.rina_data.specs.declared.settings.Member.{Member}
use Rattle.rina_flood.specs.Network.{is_in}
use Rattle.rina_iface.proofs.Changed.{set_at}
use Rattle.rina_iface.proofs.Grown.{pushed_at}
use Rattle.rina_member.specs.declared.management.Management.{Management}
use Rattle.rina_member.specs.Knowing.{AreRoutesOf, IsPlanned, Knows, all_claims, hop_of, hops_of}
use Rattle.rina_member.specs.Managements.{claimed}
use Rattle.rina_member.specs.Routing.{AreRoutesOver}
use Rattle.rina_member.specs.Start.{node_of}
use Rattle.rina_member.proofs.Knowing.{claims_knowing, joins_knowing, knows_count}
use Rattle.rina_member.proofs.TellsMore.{claims_short, joins_short}
use Rattle.rina_newest.specs.declared.item.Item.{Item}
use Rattle.rina_plan.specs.declared.dif.LinkPlan.{LinkPlan}
use Rattle.rina_route.specs.declared.link.Link.{Link as Hop}
use Rattle.rina_dif.specs.declared.dif.Dif.{Dif}
use Rattle.rina_dif.specs.Changing.{changed_at, changed_if}
use Rattle.rina_dif.specs.Claiming.{with_claimed}
use Rattle.rina_dif.specs.Enrolling.{JoinsManaged, LinksUp, is_full, joins_on}
use Rattle.rina_dif.specs.LinkTaking.{TakesLink, link_of}
use Rattle.rina_dif.specs.NewLinks.{HasRoom, KeepsPlan}
use Rattle.rina_dif.specs.Managing.{AreBounded, AreEnrolled, AreEnrolledBy, AreManaged, AreManagedBy, IsManaged, states_of}
use Rattle.rina_dif.proofs.Enrolled.{same_enrolled}
use Rattle.rina_dif.proofs.LinkNumbers.{few_live, free_number, small_number}
use Rattle.rina_dif.proofs.Managed.{same_some}

-- The links of the plan

-- a member of a static DIF that had them has them
pub keeps_plan : (d : Dif) (i : ℕ) (link : Attachment) (change : Management → Management) → AreManaged d → ((m : Member) (p : IpcProcess) (g : Management) → IsPlanned d.settings.members d.laid.links m p.links g.agent → IsPlanned d.settings.members d.laid.links m (p.links ++ link_of link ∷ []) (change g).agent) → KeepsPlan d i link change
keeps_plan d i link change h keeps still m p g is_m is_p is_g = keeps m p g ((h.each i m p g is_m is_p is_g).planned still)

-- One member is managed otherwise, and its IPC process is another

pub managed_here : (is_static : Bool) (members : List Member) (plans : List LinkPlan) (now : ℕ) (ps : List IpcProcess) (managements : List Management) (at : ℕ) (m : Member) (p p' : IpcProcess) (g g' : Management) → AreManagedBy is_static members plans now ps managements
    → slice_get members at ≡ Some m → slice_get ps at ≡ Some p → slice_get managements at ≡ Some g → IsManaged is_static members plans now m p' g' → AreManagedBy is_static members plans now (slice_set ps at p') (slice_set managements at g')
managed_here is_static members plans now ps managements at m p p' g g' h is_m is_p is_g after = record {
  laid_out = h.laid_out;
  aligned = length-set managements at g' ∙ h.aligned;
  each = λ k x q y is_x is_q is_y. elim (set_at ps at k p p' q is_p is_q) [
    | inl t ↦ elim (set_at managements at k g g' y is_g is_y) [
      | inl s ↦
          (let member : x ≡ m = same_some members at x m (ap (slice_get members) (sym t.0) ∙ is_x) is_m in
          subst (λ (z : Member). IsManaged is_static members plans now z q y) (sym member) (subst (λ (z : IpcProcess). IsManaged is_static members plans now m z y) (sym t.1) (subst (λ (z : Management). IsManaged is_static members plans now m p' z) (sym s.1) after)))
      | inr v ↦ absurd (v.0 t.0)
    ]
    | inr u ↦ elim (set_at managements at k g g' y is_g is_y) [
      | inl s ↦ absurd (u.0 s.0)
      | inr v ↦ h.each k x q y is_x u.1 v.1
    ]
  ];
}

-- A link more

added_bounded : (links : List Link) (link : Link) → AreBounded links → link.number < 16 → AreBounded (links ++ link ∷ [])
added_bounded links link h small k l is = elim (pushed_at links link k l is) [
  | inl old ↦ h k l old
  | inr new ↦ subst (λ (x : Link). x.number < 16) (sym new.1) small
]

-- a link that is not up changes no next hop
added_hops : (ls : List Managed) (l : Managed) → hop_of l ≡ None → hops_of (ls ++ l ∷ []) ≡ hops_of ls
added_hops ls l none = filter_map-append hop_of ls (l ∷ []) ∙ ap (λ (o : Option Hop). hops_of ls ++ cons_option o []) none ∙ append-nil (hops_of ls)

same_routes : (g g' : Agent) (l : Managed) (members : List Member) (routes : List Route) → g'.address ≡ g.address → g'.items ≡ g.items → g'.links ≡ g.links ++ l ∷ [] → hop_of l ≡ None → AreRoutesOf g members routes → AreRoutesOf g' members routes
same_routes g g' l members routes address items links none h =
    let hops : hops_of g'.links ≡ hops_of g.links = ap hops_of links ∙ added_hops g.links l none in
    let Q : ℕ → List Hop → Type 0 = λ a hs. AreRoutesOver a hs (all_claims g'.items) members routes in
    let claimed : AreRoutesOver g.address (hops_of g.links) (all_claims g'.items) members routes = subst (λ (xs : List Item). AreRoutesOver g.address (hops_of g.links) (all_claims xs) members routes) (sym items) h in
    subst (λ (a : ℕ). Q a (hops_of g'.links)) (sym address) (subst (λ (hs : List Hop). Q g.address hs) (sym hops) claimed)

module _ (is_static : Bool) (members : List Member) (plans : List LinkPlan) (now : ℕ) (m : Member) (p p' : IpcProcess) (g : Management) (link : Attachment) (takes : TakesLink link p p') (room : is_full p.links ≡ false) (h : IsManaged is_static members plans now m p g) where
  fewer : length g.agent.links < 16
  fewer = (let count = knows_count now m p.links g.agent h.knows in let few = few_live p.links room in omega (arith, count, few))

  module _ (small : link.number < 16) (free : (k : ℕ) (l : Link) → slice_get p.links k ≡ Some l → l.live ≡ true → l.number ≡ link.number → ⊥) where
    bounded : AreBounded p'.links
    bounded = subst AreBounded (sym takes.links) (added_bounded p.links (link_of link) h.bounded small)

    pub joins_managed : (member : Member) → app_at member.name ≡ Ok member.name → (is_static ≡ true → IsPlanned members plans m (p.links ++ link_of link ∷ []) (joins_on g link.number member).agent) → IsManaged is_static members plans now m p' (joins_on g link.number member)
    joins_managed member named plan =
        let l : Managed = joining_link link.number (next_of g.agent.last_invoke) (node_of member) in
        let b : Agent = joining g.agent link.number member.name (node_of member) in
        record {
          knows = subst (λ (ls : List Link). Knows now m ls b) (sym takes.links) (joins_knowing now m p.links g.agent (link_of link) free refl h.knows member.name (node_of member));
          planned = λ still. subst (λ (ls : List Link). IsPlanned members plans m ls b) (sym takes.links) (plan still);
          bounded = bounded;
          routes = subst (λ (rs : List Route). AreRoutesOf b members rs) (sym takes.routes) (same_routes g.agent b l members p.routes refl refl refl refl h.routes);
          tells = joins_short link.number member.name (node_of member) g.agent named fewer h.tells;
        }

    pub claims_managed : (is_static ≡ true → IsPlanned members plans m (p.links ++ link_of link ∷ []) (with_claimed g link.number).agent) → IsManaged is_static members plans now m p' (with_claimed g link.number)
    claims_managed plan =
        let l : Managed = joined_link link.number in
        let b : Agent = claimed g.agent link.number in
        record {
          knows = subst (λ (ls : List Link). Knows now m ls b) (sym takes.links) (claims_knowing now m p.links g.agent (link_of link) free refl h.knows);
          planned = λ still. subst (λ (ls : List Link). IsPlanned members plans m ls b) (sym takes.links) (plan still);
          bounded = bounded;
          routes = subst (λ (rs : List Route). AreRoutesOf b members rs) (sym takes.routes) (same_routes g.agent b l members p.routes refl refl refl refl h.routes);
          tells = claims_short link.number g.agent fewer h.tells;
        }

-- The members of a DIF

pub joined_managed : (d : Dif) (i number : ℕ) (m member : Member) (link : Attachment) (ps : List IpcProcess) (ms : List Management) → KeepsPlan d i link (λ g. joins_on g link.number member) → AreManaged d → HasRoom d.processes i → slice_get d.settings.members i ≡ Some m → app_at member.name ≡ Ok member.name → number ≡ link.number
    → LinksUp i link d.processes ps → JoinsManaged d i number member ms → AreManagedBy d.laid.is_static d.settings.members d.laid.links d.clock ps ms
joined_managed d i number m member link ps ms plan h room is_m named number_is up joins =
    let one = h.each i m up.process joins.management is_m up.is_process joins.is_management in
    let not_full = room up.process up.is_process in
    let after = joins_managed d.laid.is_static d.settings.members d.laid.links d.clock m up.process up.after joins.management link up.takes not_full one (small_number up.process.links link.number not_full up.least) (free_number up.process.links link.number up.least) member named (λ still. plan still m up.process joins.management is_m up.is_process joins.is_management) in
    let all = managed_here d.laid.is_static d.settings.members d.laid.links d.clock d.processes d.managements i m up.process up.after joins.management (joins_on joins.management link.number member) h is_m up.is_process joins.is_management after in
    let are : ms ≡ slice_set d.managements i (joins_on joins.management link.number member) = joins.are ∙ ap (λ (n : ℕ). slice_set d.managements i (joins_on joins.management n member)) number_is in
    subst (λ (qs : List IpcProcess). AreManagedBy d.laid.is_static d.settings.members d.laid.links d.clock qs ms) (sym up.are) (subst (λ (gs : List Management). AreManagedBy d.laid.is_static d.settings.members d.laid.links d.clock (slice_set d.processes i up.after) gs) (sym are) all)

pub changed_here : (ms : List Management) (at : ℕ) (g : Management) (f : Management → Management) → slice_get ms at ≡ Some g → changed_at at f ms ≡ slice_set ms at (f g)
changed_here ms at g f is = ap (λ (o : Option Management). changed_if o at f ms) is

pub claimed_managed : (d : Dif) (i number : ℕ) (m : Member) (g : Management) (link : Attachment) (ps : List IpcProcess) (ms : List Management) → KeepsPlan d i link (λ z. with_claimed z link.number) → AreManaged d → HasRoom d.processes i → slice_get d.settings.members i ≡ Some m → slice_get d.managements i ≡ Some g → number ≡ link.number
    → LinksUp i link d.processes ps → ms ≡ changed_at i (λ x. with_claimed x number) d.managements → AreManagedBy d.laid.is_static d.settings.members d.laid.links d.clock ps ms
claimed_managed d i number m g link ps ms plan h room is_m is_g number_is up ms_are =
    let one = h.each i m up.process g is_m up.is_process is_g in
    let not_full = room up.process up.is_process in
    let after = claims_managed d.laid.is_static d.settings.members d.laid.links d.clock m up.process up.after g link up.takes not_full one (small_number up.process.links link.number not_full up.least) (free_number up.process.links link.number up.least) (λ still. plan still m up.process g is_m up.is_process is_g) in
    let all = managed_here d.laid.is_static d.settings.members d.laid.links d.clock d.processes d.managements i m up.process up.after g (with_claimed g link.number) h is_m up.is_process is_g after in
    let are : ms ≡ slice_set d.managements i (with_claimed g link.number) = ms_are ∙ changed_here d.managements i g (λ x. with_claimed x number) is_g ∙ ap (λ (n : ℕ). slice_set d.managements i (with_claimed g n)) number_is in
    subst (λ (qs : List IpcProcess). AreManagedBy d.laid.is_static d.settings.members d.laid.links d.clock qs ms) (sym up.are) (subst (λ (gs : List Management). AreManagedBy d.laid.is_static d.settings.members d.laid.links d.clock (slice_set d.processes i up.after) gs) (sym are) all)

-- Who is enrolled

-- a member that joins is as much enrolled as before
same_in : (link : ℕ) (state : MemberState) → is_in (joining_state link state) ≡ is_in state
same_in link states.Outside = refl
same_in link (states.Joining l) = refl
same_in link states.Enrolled = refl
same_in link (states.Denied rule) = refl

pub joined_enrolled : (d : Dif) (i number : ℕ) (member : Member) (ms : List Management) → AreEnrolled d → JoinsManaged d i number member ms → AreEnrolledBy d.laid.is_static d.settings.members d.settings.admits (states_of ms) d.enrolled
joined_enrolled d i number member ms h joins =
    let g = joins.management in
    let after = joins_on g number member in
    subst (λ (gs : List Management). AreEnrolledBy d.laid.is_static d.settings.members d.settings.admits (states_of gs) d.enrolled) (sym joins.are)
    (same_enrolled d i g after h joins.is_management (same_in number g.agent.state) (λ is. ap (λ (s : MemberState). joining_state number s) is))

-- and one that gets a link is so too
pub claimed_enrolled : (d : Dif) (i number : ℕ) (g : Management) (ms : List Management) → AreEnrolled d → slice_get d.managements i ≡ Some g → ms ≡ changed_at i (λ x. with_claimed x number) d.managements → AreEnrolledBy d.laid.is_static d.settings.members d.settings.admits (states_of ms) d.enrolled
claimed_enrolled d i number g ms h is ms_are =
    let are : ms ≡ slice_set d.managements i (with_claimed g number) = ms_are ∙ changed_here d.managements i g (λ x. with_claimed x number) is in
    subst (λ (gs : List Management). AreEnrolledBy d.laid.is_static d.settings.members d.settings.admits (states_of gs) d.enrolled) (sym are) (same_enrolled d i g (with_claimed g number) h is refl (λ same. same))
