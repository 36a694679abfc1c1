-- A DIF holds over a new link: as an IPC process takes its end of a flow that it asked for, and as one takes the far end of a flow that it claimed.
use Rattle.std.proofs.Common.{◌≡◌, ◌∙◌, ◌⊎◌, ℕ, Bool, true, false, cond, List, slice_get, slice_set, Some, None, Ok, Err, Option, option_map, Result, refl, ap, subst, arith, inl, inr}
use Rattle.std.proofs.lemmas.Option.{slice_get-map}
use Rattle.rina_agent.specs.declared.state.AgentError.{AgentError}
use Rattle.rina_agent.specs.Counts.{spent}
use Rattle.rina_base.specs.declared.number.Port.{Port}
use Rattle.rina_base.specs.Names.{app_at}
use Rattle.rina_channel.specs.declared.channel.Attachment.{Attachment}
use Rattle.rina_data.specs.declared.process.IpcProcess.{IpcProcess}
use Rattle.rina_data.specs.declared.settings.Member.{Member}
use Rattle.rina_data.specs.Configs.{Member as MemberSeen, config_of, member_of}
use Rattle.rina_dif_law.specs.Cloud.{IsMine}
use Rattle.rina_dif_law.specs.Standing.{IsLinked}
use Rattle.rina_iface.specs.declared.error.AllocateError.{AllocateError}
use Rattle.rina_iface.specs.Allocate.{Allocates}
use Rattle.rina_iface.specs.Journal.{AreKept}
use Rattle.rina_iface.specs.Later.{IsLater}
use Rattle.rina_iface.specs.Seen.{Seen}
use Rattle.rina_law.specs.Direction.{Direction}
use Rattle.rina_member.specs.declared.management.Management.{Management}
use Rattle.rina_member.specs.Start.{node_of}
use Rattle.rina_member.proofs.Planned.{claims_planned, joins_planned}
use Rattle.rina_dif.specs.declared.connections.Connections.{Connections}
use Rattle.rina_dif.specs.declared.dif.Dif.{Dif}
use Rattle.rina_dif.specs.declared.enrol.EnrolError.{EnrolError}
use Rattle.rina_dif.specs.declared.enrol.EnrolError.TheVariants as errors
use Rattle.rina_dif.specs.Claiming.{ClaimsFirst, MayLink, TakesClaimed, with_claimed}
use Rattle.rina_dif.specs.Enrolling.{ConnectsJoiner, ConnectsMembers, IsJoining, JoinsNot, JoinsOr, LinksUp, TakesJoined, enrol_told, first_of, full, is_full, joins_on, link_ask, marked, most_links, refused_joiner, running, spent_out}
use Rattle.rina_dif.specs.Holding.{Holds}
use Rattle.rina_dif.specs.LinkTaking.{CanTakeLink, link_of}
use Rattle.rina_dif.specs.NewLinks.{CanJoin, HasRoom, KeepsPlan}
use Rattle.rina_dif.proofs.AskedBelow.{MayTakeAsked, may_take_asked}
use Rattle.rina_dif.proofs.ClaimedBelow.{claimed_end}
use Rattle.rina_dif.proofs.LinkNumbers.{free_number, small_number}
use Rattle.rina_dif.proofs.NewHolds.{TakesAsked, claimed_holds as taken_claimed, enrolled_holds, joins_not}
use Rattle.rina_dif.proofs.NewManaged.{keeps_plan}

same_some : {X : Type 0} (o : Option X) (a b : X) → o ≡ Some a → o ≡ Some b → a ≡ b
same_some o a b h g = cc

-- as a DIF sees a member
seen_member : (d : Dif) (i : ℕ) (m : Member) → slice_get d.settings.members i ≡ Some m → slice_get (config_of d.settings).members i ≡ Some (member_of m)
seen_member d i m is = slice_get-map member_of d.settings.members i ∙ ap (λ (o : Option Member). option_map member_of o) is

-- its name is that of one
its_name : (d : Dif) (i : ℕ) (m : Member) → slice_get d.settings.members i ≡ Some m → IsMine (config_of d.settings).members m.name
its_name d i m is = record { addr = m.addr; member = record { place = i; member = member_of m; stands = seen_member d i m is; addr_is = refl; name_is = refl } }

-- the least number will do for a link, and an end of the member for its port
can_take : (d : Dif) (below : Seen) (i : ℕ) (m : Member) (link : Attachment) (ps : List IpcProcess) (up : LinksUp i link d.processes ps) → HasRoom d.processes i → slice_get d.settings.members i ≡ Some m → IsLinked below m.name link.port → CanTakeLink d below i up.process link
can_take d below i m link ps up room is linked = record {
  is_process = up.is_process;
  free = free_number up.process.links link.number up.least;
  low = small_number up.process.links link.number (room up.process up.is_process) up.least;
  linked = λ member here. (let same : member_of m ≡ member = same_some (slice_get (config_of d.settings).members i) (member_of m) member (seen_member d i m is) here in subst (λ (z : MemberSeen). IsLinked below z.name link.port) same linked);
}

-- one IPC process with room for a link
has_room : (ps : List IpcProcess) (i : ℕ) (p : IpcProcess) → slice_get ps i ≡ Some p → is_full p.links ≡ false → HasRoom ps i
has_room ps i p is room q is_q = (let same : p ≡ q = same_some (slice_get ps i) p q is is_q in subst (λ (z : IpcProcess). is_full z.links ≡ false) same room)

-- What is not refused

no_first : (a b : Option EnrolError) → first_of a b ≡ None → (a ≡ None) × (b ≡ None)
no_first None b h = (refl, h)
no_first (Some e) b h = absurd cc

not_full : (b : Bool) → cond b (Some (errors.LinksFull most_links)) None ≡ None → b ≡ false
not_full true h = absurd cc
not_full false h = refl

not_told : (o : Option AgentError) → option_map enrol_told o ≡ None → o ≡ None
not_told None h = refl
not_told (Some e) h = absurd cc

-- a joiner that is refused nothing has room for a link and an invoke id left
may_join : (p : IpcProcess) (m : Management) → refused_joiner p m ≡ None → (is_full p.links ≡ false) × (spent 1 m.agent.last_invoke ≡ None)
may_join p m h =
    let a = no_first (running m) (first_of (full p) (spent_out m)) h in
    let b = no_first (full p) (spent_out m) a.1 in
    (not_full (is_full p.links) b.0, not_told (spent 1 m.agent.last_invoke) b.1)

-- A flow that was asked for

module _ (d : Dif) (lines : List Direction) (below below' : Seen) (own : Option AllocateError) (fac i j : ℕ) (joiner member : Member) (link : Attachment) (after : Management) (d' : Dif) (kept : AreKept below) (kept' : AreKept below') (later : IsLater below below') (is_joiner : slice_get d.settings.members i ≡ Some joiner) (is_member : slice_get d.settings.members j ≡ Some member) (asked : Allocates own below (link_ask d fac joiner member) (Ok link.port) below') (joins : IsJoining d i j link after) (h : Holds d lines below) where
  may : MayTakeAsked d lines below' i j link.number joiner.name link.port
  may = may_take_asked d lines below below' (link_ask d fac joiner member) link.port i j link.number kept kept' later asked.1 (its_name d i joiner is_joiner) (its_name d j member is_member) (omega arith) h

  left : (is_full joins.process.links ≡ false) × (spent 1 joins.management.agent.last_invoke ≡ None)
  left = may_join joins.process joins.management joins.may

  room : HasRoom d.processes i
  room = has_room d.processes i joins.process joins.is_process left.0

  can_join : CanJoin d below' i j link
  can_join = record {
    plan = λ m is. keeps_plan d i link (λ g. joins_on g link.number m) h.managed (λ x p g planned. joins_planned d.settings.members d.laid.links x p.links g.agent (link_of link) m.name (node_of m) planned);
    room = room;
    counts = λ g is. (let same : joins.management ≡ g = same_some (slice_get d.managements i) joins.management g joins.is_management is in subst (λ (z : Management). spent 1 z.agent.last_invoke ≡ None) same left.1);
    name = λ m is. (let same : joins.member ≡ m = same_some (slice_get d.settings.members j) joins.member m joins.is_member is in subst (λ (z : Member). app_at z.name ≡ Ok z.name) same joins.name);
    flow = may.flow;
  }

  -- whatever members it names are these
  connects_these : (c : Connections) → ConnectsMembers d i j link c → ConnectsJoiner d.settings d.clock i j joiner member link d.connections c
  connects_these c x =
      let a : x.joiner ≡ joiner = same_some (slice_get d.settings.members i) x.joiner joiner x.is_joiner is_joiner in
      let b : x.member ≡ member = same_some (slice_get d.settings.members j) x.member member x.is_member is_member in
      subst (λ (z : Member). ConnectsJoiner d.settings d.clock i j joiner z link d.connections c) b (subst (λ (z : Member). ConnectsJoiner d.settings d.clock i j z x.member link d.connections c) a x.connects)

  takes_asked : TakesJoined d i j link after d' → TakesAsked d i j joiner member link d'
  takes_asked t =
      let same : joins.member ≡ member = same_some (slice_get d.settings.members j) joins.member member joins.is_member is_member in
      record {
        is_joiner = is_joiner;
        is_member = is_member;
        links = t.links;
        connects = connects_these d'.connections t.connects;
        joins = record {
          management = joins.management;
          is_management = joins.is_management;
          are = t.managements ∙ ap (slice_set d.managements i) (joins.after_is ∙ ap (λ (z : Member). joins_on joins.management link.number z) same);
        };
        only = t.only;
      }

  taken : TakesJoined d i j link after d' → Holds d' lines below'
  taken t =
      let e = takes_asked t in
      enrolled_holds d d' lines below' i j joiner member link e may.holds (can_take d below' i joiner link d'.processes e.links room is_joiner may.linked) can_join

  not_taken : JoinsNot d i j link d' → Holds (record d' { failed = true }) lines below'
  not_taken n =
      let p' = n.processes joins.process joins.is_process in
      let connects : (d'.connections ≡ d.connections) ⊎ ConnectsJoiner d.settings d.clock i j joiner member link d.connections d'.connections = elim n.connects [
        | inl stay ↦ inl stay
        | inr x ↦ inr (connects_these d'.connections x)
      ] in
      joins_not d d' lines below' i j joiner member link joins.process p'.0 joins.is_process p'.1 p'.2 p'.3 connects n.only may.flow may.holds

  asked_by : (result : Result (Unit {0}) EnrolError) → JoinsOr d i j link after result d' → Holds (marked result d') lines below'
  asked_by (Ok done) t = taken t
  asked_by (Err errors.Memory) n = not_taken n.1
  asked_by (Err errors.NoIpc) n = absurd cc
  asked_by (Err (errors.Enrolling link)) n = absurd cc
  asked_by (Err (errors.LinksFull max)) n = absurd cc
  asked_by (Err (errors.CountSpent need left)) n = absurd cc
  asked_by (Err (errors.Lower e)) n = absurd cc

-- the member of place i asked for a flow to that of place j, and takes it as a new link; or memory was not found then, and an allocation has failed
pub asked_holds : (d : Dif) (lines : List Direction) (below below' : Seen) (own : Option AllocateError) (fac i j : ℕ) (joiner member : Member) (link : Attachment) (after : Management) (result : Result (Unit {0}) EnrolError) (d' : Dif)
    → AreKept below → AreKept below' → IsLater below below' → slice_get d.settings.members i ≡ Some joiner → slice_get d.settings.members j ≡ Some member → Allocates own below (link_ask d fac joiner member) (Ok link.port) below'
    → IsJoining d i j link after → JoinsOr d i j link after result d' → Holds d lines below → Holds (marked result d') lines below'
asked_holds d lines below below' own fac i j joiner member link after result d' kept kept' later is_joiner is_member asked joins does h = asked_by d lines below below' own fac i j joiner member link after d' kept kept' later is_joiner is_member asked joins h result does

-- A far end that was claimed

-- the member of place i claimed the first flow that came in at its node, and takes it as a new link, of the channel that awaits it
pub claimed_holds : (d : Dif) (lines : List Direction) (below below' : Seen) (node i : ℕ) (member : Member) (port : Port) (number : ℕ) (d' : Dif)
    → AreKept below → AreKept below' → MayLink d node i member → ClaimsFirst below node member.name port below' → TakesClaimed d below' i number port d' → Holds d lines below' → Holds d' lines below'
claimed_holds d lines below below' node i member port number d' kept kept' may claims takes h =
    let link : Attachment = record { number = number; port = port } in
    let room = has_room d.processes i may.process may.is_process may.room in
    let plan : KeepsPlan d i link (λ g. with_claimed g number) = keeps_plan d i link (λ g. with_claimed g number) h.managed (λ x p g planned. claims_planned d.settings.members d.laid.links x p.links g.agent (link_of link) planned) in
    taken_claimed d d' lines below' i number port takes h (can_take d below' i member link d'.processes takes.links room may.is_member (claimed_end below claims.fac node member.name port below' claims.claimed kept)) (record { plan = plan; room = room; kept = kept' })
