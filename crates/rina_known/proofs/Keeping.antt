-- What is known in a DIF is known of its members and of its links, and what keeps that.
use Rattle.std.proofs.Common.{◌≡◌, ◌∙◌, inl, inr, List, Contains, ℕ, sym, ap, subst}
use Rattle.std.proofs.lemmas.Bool.{false≢true}
use Rattle.std.specs.Prelude.{codes, nat_eq}
use Rattle.std.specs.List.{starts_with}
use Rattle.rina_newest.specs.declared.item.Item.{Item}
use Rattle.rina_dir.specs.Directory.{key_of}
use Rattle.rina_agent.specs.declared.message.ManagementMessage.{ManagementMessage}
use Rattle.rina_agent.specs.declared.message.ManagementMessage.TheVariants.{ToMember, ToNeighbour}
use Rattle.rina_agent.specs.Neighbours.{member_key}
use Rattle.rina_flood.specs.Network.{carried}
use Rattle.rina_flood.proofs.Members.{text_is}
use Rattle.rina_route.proofs.Lists.{in_none}
use Rattle.rina_member.specs.Managements.{IsSduOf}
use Rattle.rina_member.proofs.Items.{entry_not_link}
use Rattle.rina_dif.specs.declared.dif.Dif.{Dif}
use Rattle.rina_asked.specs.Messages.{IsOnLink, IsOnWay}
use Rattle.rina_asked.proofs.Links.{NoMoreOnLinks, links_same}
use Rattle.rina_known.specs.Calls.{MoreAreKnown}
use Rattle.rina_known.specs.Entries.{AllAre, IsKnown, Name}
use Rattle.rina_known.proofs.Agents.{OwnAre}
use Rattle.rina_known.proofs.Managements.{AreGood, good_same}

-- Own items are no entries

entry_not_member : (app : List ℕ) (address : ℕ) → key_of app ≡ member_key address → ⊥
unfolding key_of
entry_not_member app address e = false≢true (ap (λ (k : List ℕ). starts_with nat_eq k (codes "/member/")) e)

pub own_known : (names : List Name) → OwnAre (IsKnown names)
own_known names x a (inl member) value entry live = absurd (entry_not_member entry.0 a (sym entry.1 ∙ member))
own_known names x a (inr link) value entry live = absurd (entry_not_link entry.0 a (sym entry.1 ∙ link))

pub more_known : MoreAreKnown
more_known names more d wider known x is value entry live = (let r = known x is value entry live in (r.0, wider r.0 r.1, r.2))

-- What is on a link was on its way

pub no_more_on : (d d' : Dif) → NoMoreOnLinks d d' → (text : List ℕ) → IsOnLink d' text → IsOnWay d text
no_more_on d d' links text on = inr (links.more text on)

pub same_way : (d d' : Dif) → d'.connections ≡ d.connections → (text : List ℕ) → IsOnLink d' text → IsOnWay d text
same_way d d' same = no_more_on d d' (links_same d d' same)

-- one text is that of one message
one_carries : (m n : ManagementMessage) (text : List ℕ) (x : Item) → IsSduOf m text → IsSduOf n text → Contains (carried m) x → Contains (carried n) x
one_carries (ToMember f) n text x is other has = absurd (in_none x has)
one_carries (ToNeighbour k) n text x is other has = subst (λ (z : ManagementMessage). Contains (carried z) x) (sym (text_is k n text is other)) has

module _ (G : Item → Type 0) (own : OwnAre G) where
  abbrev pub InMembers : Dif → Type 0
  InMembers d = AreGood G own d.managements

  abbrev pub OnLinks : Dif → Type 0
  OnLinks d = (text : List ℕ) (message : ManagementMessage) (x : Item) → IsOnLink d text → IsSduOf message text → Contains (carried message) x → G x

  pub members_known : (d : Dif) → AllAre G d → InMembers d
  members_known d known k m is = record {
    kept = λ x has. known x (inl (record { place = k; management = m; is_management = is; among = has }));
    waits = λ w has x its. known x (inr (inl (record { place = k; management = m; is_management = is; waiting = w; waits = has; carries = its })));
  }

  pub links_known : (d : Dif) → AllAre G d → OnLinks d
  links_known d known text message x on is its = known x (inr (inr (record { text = text; on_link = on; message = message; written = is; carries = its })))

  pub all_known : (d : Dif) → InMembers d → OnLinks d → AllAre G d
  all_known d members links x (inl k) = (members k.place k.management k.is_management).kept x k.among
  all_known d members links x (inr (inl w)) = (members w.place w.management w.is_management).waits w.waiting w.waits x w.carries
  all_known d members links x (inr (inr s)) = links s.text s.message x s.on_link s.written s.carries

  on_links : (d d' : Dif) → InMembers d → OnLinks d → ((text : List ℕ) → IsOnLink d' text → IsOnWay d text) → OnLinks d'
  on_links d d' members links way text message x on is its = elim (way text on) [
    | inl w ↦ (members w.place w.management w.is_management).waits w.waiting w.waits x (one_carries message w.waiting.message text x is w.written its)
    | inr l ↦ links text message x l is its
  ]

  -- what the members know goes on to be, and what is on a link then was on its way
  pub moves : (d d' : Dif) → (InMembers d → InMembers d') → ((text : List ℕ) → IsOnLink d' text → IsOnWay d text) → AllAre G d → AllAre G d'
  moves d d' keeps way known = (let members = members_known d known in all_known d' (keeps members) (on_links d d' members (links_known d known) way))

  pub stays_known : (d d' : Dif) → d'.managements ≡ d.managements → d'.connections ≡ d.connections → AllAre G d → AllAre G d'
  stays_known d d' managements connections = moves d d' (good_same G own d.managements d'.managements managements) (same_way d d' connections)
