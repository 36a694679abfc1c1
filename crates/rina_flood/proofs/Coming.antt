-- What comes over a link of a DIF was made by its members.
use Rattle.std.proofs.Common.{◌≡◌, ℕ, ◌<◌, ◌⊎◌, suc, Bool, true, false, Contains, inl, inr, List, [], ◌∷◌, Some, drop, length, refl, sym, ◌∙◌, ap, subst}
use Rattle.std.proofs.lemmas.Bool.{both_ways}
use Rattle.rina_enrol.specs.declared.message.LinkMessage.{LinkMessage}
use Rattle.rina_enrol.specs.declared.message.LinkMessage.TheVariants as messages
use Rattle.rina_newest.specs.declared.item.Item.{Item}
use Rattle.rina_newest.specs.Newest.{is_newer, kept_at}
use Rattle.rina_agent.specs.declared.agent.Agent.{Agent}
use Rattle.rina_agent.specs.declared.message.ManagementMessage.{ManagementMessage}
use Rattle.rina_agent.specs.declared.message.ManagementMessage.TheVariants.{ToNeighbour}
use Rattle.rina_agent.specs.Neighbours.{link_key}
use Rattle.rina_data.specs.declared.settings.Member.{Member}
use Rattle.rina_plan.specs.declared.dif.LinkPlan.{LinkPlan}
use Rattle.rina_member.specs.Handling.{item_in}
use Rattle.rina_member.specs.Managements.{IsSdu}
use Rattle.rina_member.specs.Short.{IsShort}
use Rattle.rina_member.specs.Start.{start_items}
use Rattle.rina_member.proofs.Laying.{small_address}
use Rattle.rina_member.proofs.Lists.{is_there}
use Rattle.rina_flood.specs.Coming.{WhatComes}
use Rattle.rina_flood.specs.Laws.{TellsLinks, TellsNone}
use Rattle.rina_flood.specs.Members.{AreTexts, IsRunOf, MembersSeen, first_links}
use Rattle.rina_flood.specs.Network.{carried, other}
use Rattle.rina_flood.specs.Static.{end_place}
use Rattle.rina_flood.proofs.All.{begin_holds}
use Rattle.rina_flood.proofs.Entries.{rows_leave}
use Rattle.rina_flood.proofs.Holds.{is_plain}
use Rattle.rina_flood.proofs.Members.{at_end, net, text_is, texts_first}
use Rattle.rina_flood.proofs.Places.{drop_at}
use Rattle.rina_flood.proofs.Plain.{first_plain, rows_plain, start_plain}
use Rattle.rina_flood.proofs.Settles.{Greatest}
use Rattle.rina_flood.proofs.Steps.{first_item}
use Rattle.rina_flood.proofs.Telling.{HasTold, not_newer}
use Rattle.rina_flood.proofs.Told.{telling_run}

-- a message of no enrolment brings an item, which it carries
brought : (message : LinkMessage) → is_plain (ToNeighbour message) ≡ true → (item : Item) × (item_in message ≡ Some item)
brought (messages.Connect invoke joiner member) plain = absurd (both_ways true (sym plain) refl)
brought (messages.ConnectR invoke denied) plain = absurd (both_ways true (sym plain) refl)
brought (messages.Start invoke address) plain = absurd (both_ways true (sym plain) refl)
brought (messages.StartR invoke) plain = absurd (both_ways true (sym plain) refl)
brought (messages.Item item) plain = (item, refl)
brought (messages.Stop invoke) plain = absurd (both_ways true (sym plain) refl)
brought (messages.StopR invoke) plain = absurd (both_ways true (sym plain) refl)
brought (messages.Flood item) plain = (item, refl)

one_carried : (message : LinkMessage) (x : Item) → item_in message ≡ Some x → carried (ToNeighbour message) ≡ x ∷ []
one_carried (messages.Connect invoke joiner member) x is = absurd cc
one_carried (messages.ConnectR invoke denied) x is = absurd cc
one_carried (messages.Start invoke address) x is = absurd cc
one_carried (messages.StartR invoke) x is = absurd cc
one_carried (messages.Item item) x is = (let same : item ≡ x = cc in ap (λ (y : Item). y ∷ []) same)
one_carried (messages.Stop invoke) x is = absurd cc
one_carried (messages.StopR invoke) x is = absurd cc
one_carried (messages.Flood item) x is = (let same : item ≡ x = cc in ap (λ (y : Item). y ∷ []) same)

-- a member told its links from the start, or none
has_told : (is_static : Bool) (plans : List LinkPlan) (s : MembersSeen) (r : IsRunOf is_static plans s) (m : Member) (b : Bool) → Contains s.members m → is_static ≡ b → TellsLinks r.start m.addr ⊎ TellsNone r.start m.addr
has_told is_static plans s r m true among is = inl (r.tells is m among)
has_told is_static plans s r m false among is = inr (r.tells_none is m among)

-- an item that came, of a member's own link state, is no news
own_known : (address : ℕ) (a : Agent) (made : List Item) (x : Item) → Contains made x → x.key ≡ link_key address → HasTold address a made → is_newer x.version (kept_at a.items x.key) ≡ false
own_known address a made x was k (inl t) = not_newer address a made x was k t
own_known address a made x was k (inr t) = absurd (t.unmade x was k)

pub what_comes : Greatest → WhatComes
what_comes greatest is_static plans s l d end agent message r h =
    let n = net is_static plans s r in
    let told = start_items is_static s.members plans in
    let at = at_end is_static plans s r l (other d) end agent h.at in
    let count : ℕ = length (s.got (end_place l (other d))) in
    let T : List (List ℕ) → Type 0 = λ ts. AreTexts (n.sent l d) ts in
    let first = texts_first (n.sent l d) h.text (drop (suc count) (s.sent (end_place l d))) (subst T (drop_at (s.sent (end_place l d)) count h.text h.next) (r.is.sent l d)) in
    let rest = first.1 in
    let its_bytes : IsSdu message h.text = record { in_range = h.in_range; spelled = h.spelled } in
    let is : n.sent l d ≡ ToNeighbour message ∷ rest =
    first.2 ∙ ap (λ (x : ManagementMessage). x ∷ rest) (text_is message first.0 h.text its_bytes first.3) in
    let among = is_there s.members end.member at.0 at.1 in
    let small = small_address s.members plans r.laid_out at.0 among in
    let telling = telling_run greatest r.start told r.rows at.0.addr r.starts r.run small (has_told is_static plans s r at.0 is_static among refl) (rows_leave r.rows at.0.addr r.of) in
    let address : agent.address ≡ at.0.addr = ap (λ (a : Agent). a.address) (sym at.4) ∙ telling.holds.laid.addresses at.0.addr in
    let written = r.short (end_place l d) h.text (is_there (s.sent (end_place l d)) count h.text h.next) in
    record {
      short = subst IsShort (text_is message written.message h.text its_bytes written.is_sdu) written.short;
      own = λ x is_x key.
          (let made = telling.holds.noted.sent l d x (first_item n l d (ToNeighbour message) rest is x (one_carried message x is_x) telling.holds) in
          ap (λ (a : Agent). is_newer x.version (kept_at a.items x.key)) (sym at.4) ∙ own_known at.0.addr (n.agents at.0.addr) n.made x made (key ∙ ap link_key address) telling.told);
      brings = λ still lt.
          (let plain = rows_plain r.start r.rows (length plans) (begin_holds r.start told r.starts) (record {
            made = λ k e within. (r.linked k e).0 (subst (λ (b : Bool). k < first_links b plans) (sym still) within);
            plain = λ k e within. start_plain r.start told r.starts k e;
          }) r.run in
          brought message (first_plain n l d (ToNeighbour message) rest (plain.plain l d lt) is));
    }
