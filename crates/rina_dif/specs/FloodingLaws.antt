-- What the laws of flooding say of a DIF.
use Rattle.std.specs.Prelude.{◌≡◌, ℕ, ◌⊎◌, Bool, true, false, List, [], slice_get, Some, None, Contains, MatchOption}
use Rattle.rina_agent.specs.Neighbours.{link_key, link_state}
use Rattle.rina_data.specs.declared.process.IpcProcess.{IpcProcess}
use Rattle.rina_data.specs.declared.settings.Member.{Member}
use Rattle.rina_flood.specs.Members.{IsQuietPath, IsRunOf, MembersSeen}
use Rattle.rina_flood.specs.Network.{Side, after_rows}
use Rattle.rina_iface.specs.Seen.{Seen}
use Rattle.rina_law.specs.Direction.{Direction}
use Rattle.rina_member.specs.declared.management.Management.{Management}
use Rattle.rina_member.specs.Knowing.{AreHopsOfPlan, ClaimLinks, hops_of}
use Rattle.rina_newest.specs.declared.item.Item.{Item}
use Rattle.rina_newest.specs.Newest.{IsNewest, kept_at, value_at}
use Rattle.rina_plan.specs.declared.dif.LinkPlan.{LinkPlan}
use Rattle.rina_dif.specs.declared.dif.Dif.{Dif}
use Rattle.rina_dif.specs.Flooding.{members_seen}
use Rattle.rina_dif.specs.Holding.{Holds}

-- a member of a DIF that holds, in which no allocation has failed
pub record IsMemberOf (d : Dif) (lines : List Direction) (below : Seen) (place : ℕ) (member : Member) (management : Management) : Type 0 where
  pub holds : Holds d lines below
  pub alive : d.failed ≡ false
  pub is_member : slice_get d.settings.members place ≡ Some member
  pub is_management : slice_get d.managements place ≡ Some management

-- the items that the member at an address made or was offered in a run, from the start on
abbrev pub offered_in : (is_static : Bool) (plans : List LinkPlan) (s : MembersSeen) → IsRunOf is_static plans s → ℕ → List Item
offered_in is_static plans s run address = (after_rows run.start run.rows).offered address

-- Each member keeps of each key the newest item of all that it made or was offered, and nothing where there was none
abbrev pub MembersKeepTheNewest : Type 0
MembersKeepTheNewest = (d : Dif) (lines : List Direction) (below : Seen) (place : ℕ) (member : Member) (m : Management) (key : List ℕ) (is : IsMemberOf d lines below place member m)
    → MatchOption (kept_at m.agent.items key) ((x : Item) → Contains (offered_in d.laid.is_static d.laid.links (members_seen d) (is.holds.flooded is.alive) member.addr) x → x.key ≡ key → ⊥) (IsNewest (offered_in d.laid.is_static d.laid.links (members_seen d) (is.holds.flooded is.alive) member.addr) key)

-- Where all is quiet on a walk of links, the members at its ends keep the same items, key by key; and in a static DIF, and where the walk is not
-- empty, the one keeps the link state of the other as the other's links are now
abbrev pub MembersAgree : Type 0
MembersAgree = (d : Dif) (lines : List Direction) (below : Seen) (i j : ℕ) (steps : List (ℕ × Side × ℕ)) (first last : Member) (m n : Management) → IsMemberOf d lines below i first m → IsMemberOf d lines below j last n → IsQuietPath (members_seen d) i steps j
    → ((key : List ℕ) → kept_at m.agent.items key ≡ kept_at n.agent.items key) × ((d.laid.is_static ≡ true) ⊎ (steps ≡ [] → ⊥) → value_at n.agent.items (link_key first.addr) ≡ Some (link_state None m.agent.links))

-- Where all is quiet on a walk of links, the items of the member at its one end claim, from the address of the member at the other, the
-- links that are up there, with known neighbours, and no others. In a static DIF those are the live links of its IPC process, those of the plan
-- before those that enrolments made
abbrev pub QuietMembersKnowLinks : Type 0
QuietMembersKnowLinks = (d : Dif) (lines : List Direction) (below : Seen) (i j : ℕ) (steps : List (ℕ × Side × ℕ)) (first last : Member) (m n : Management) (p : IpcProcess) → IsMemberOf d lines below i first m → IsMemberOf d lines below j last n → slice_get d.processes i ≡ Some p → IsQuietPath (members_seen d) i steps j
    → ClaimLinks n.agent.items first.addr (hops_of m.agent.links) × (d.laid.is_static ≡ true → AreHopsOfPlan d.settings.members d.laid.links first p.links (hops_of m.agent.links))
