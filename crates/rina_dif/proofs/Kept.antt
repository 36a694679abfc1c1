-- What the members of a DIF keep.
use Rattle.std.proofs.Common.{◌≡◌, ◌∙◌, ℕ, List, slice_get, Some, option_map, Contains, ap, subst}
use Rattle.std.specs.Prelude.{MatchOption}
use Rattle.std.proofs.lemmas.Option.{slice_get-map}
use Rattle.rina_agent.specs.declared.agent.Agent.{Agent}
use Rattle.rina_flood.specs.Laws.{NewestIsKept}
use Rattle.rina_flood.specs.Members.{QuietMembersAgree, QuietMembersClaim}
use Rattle.rina_member.specs.declared.management.Management.{Management}
use Rattle.rina_member.specs.Start.{start_items}
use Rattle.rina_member.proofs.Planned.{planned_hops}
use Rattle.rina_newest.specs.declared.item.Item.{Item}
use Rattle.rina_newest.specs.Newest.{IsNewest, kept_at}
use Rattle.rina_dif.specs.Flooding.{members_seen}
use Rattle.rina_dif.specs.FloodingLaws.{MembersAgree, MembersKeepTheNewest, QuietMembersKnowLinks, offered_in}
use Rattle.rina_dif.specs.Managing.{agents_of}

its_agent : (ms : List Management) (k : ℕ) (m : Management) → slice_get ms k ≡ Some m → slice_get (agents_of ms) k ≡ Some m.agent
its_agent ms k m is = slice_get-map (λ (z : Management). z.agent) ms k ∙ ap (option_map (λ (z : Management). z.agent)) is

pub members_keep : NewestIsKept → MembersKeepTheNewest
members_keep law d lines below place member m key is =
    let r = is.holds.flooded is.alive in
    let offered = offered_in d.laid.is_static d.laid.links (members_seen d) r member.addr in
    let P : Agent → Type 0 = λ a. MatchOption (kept_at a.items key) ((x : Item) → Contains offered x → x.key ≡ key → ⊥) (IsNewest offered key) in
    subst P (r.is.agents place member m.agent is.is_member (its_agent d.managements place m is.is_management)) (law r.start (start_items d.laid.is_static d.settings.members d.laid.links) r.rows member.addr key r.starts r.run)

pub members_agree : QuietMembersAgree → MembersAgree
members_agree law d lines below i j steps first last m n a b quiet =
    law d.laid.is_static d.laid.links (members_seen d) i j steps first m.agent n.agent (a.holds.flooded a.alive) quiet a.is_member (its_agent d.managements i m a.is_management) (its_agent d.managements j n b.is_management)

pub quiet_known : QuietMembersClaim → QuietMembersKnowLinks
quiet_known law d lines below i j steps first last m n p a b is_p quiet =
    let managed = a.holds.managed.each i first p m a.is_member is_p a.is_management in
    let same = law d.laid.is_static d.laid.links (members_seen d) i j steps m.agent n.agent (a.holds.flooded a.alive) quiet (its_agent d.managements i m a.is_management) (its_agent d.managements j n b.is_management) in (
      λ e from. (let one = same e in let own = managed.knows.own e from in ((λ has. own.0 (one.1 has)), (λ has. one.0 (own.1 has)))),
      λ still. planned_hops d.settings.members d.laid.links first d.clock p.links m.agent (managed.planned still) managed.knows,
    )
