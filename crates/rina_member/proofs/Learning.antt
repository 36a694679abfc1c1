-- What a member knows once it handled a message of a neighbour.
use Rattle.std.proofs.Common.{◌≡◌, ◌∙◌, inl, inr, ℕ, ◌^◌, ◌<◌, Bool, true, false, cond, List, ◌++◌, Some, None, Result, Contains, slice_get, slice_set, refl, sym, ap, subst}
use Rattle.std.proofs.lemmas.Bool.{true≢false}
use Rattle.rina_newest.specs.declared.item.Item.{Item}
use Rattle.rina_newest.specs.Newest.{is_newer, kept_at, taken}
use Rattle.rina_route.specs.declared.link.Link.{Link as Hop}
use Rattle.rina_enrol.specs.declared.message.LinkMessage.{LinkMessage}
use Rattle.rina_enrol.specs.declared.message.LinkMessage.TheVariants as messages
use Rattle.rina_enrol.specs.Items.{CarriesReplicated, IsReplicated}
use Rattle.rina_enrol.specs.Messages.{IsInRange}
use Rattle.rina_agent.specs.declared.agent.Agent.{Agent}
use Rattle.rina_agent.specs.declared.link.Link.{Link as Managed}
use Rattle.rina_agent.specs.declared.message.Waiting.{Waiting}
use Rattle.rina_agent.specs.declared.state.AgentError.{AgentError}
use Rattle.rina_agent.specs.declared.state.MemberState.{MemberState}
use Rattle.rina_agent.specs.declared.state.MemberState.TheVariants.{Denied, Enrolled, Joining, Outside}
use Rattle.rina_agent.specs.Agenda.{floods}
use Rattle.rina_agent.specs.Counts.{next_of, spent}
use Rattle.rina_agent.specs.Items.{made, stated}
use Rattle.rina_agent.specs.Neighbours.{link_key, member_key}
use Rattle.rina_agent.specs.Rows
use Rattle.rina_data.specs.declared.link.Link.{Link}
use Rattle.rina_data.specs.declared.settings.Member.{Member}
use Rattle.rina_member.specs.declared.management.Management.{Management}
use Rattle.rina_member.specs.Handling.{OwnIsNewest, item_in}
use Rattle.rina_member.specs.Knowing.{ClaimLinks, HaveOwnNumbers, IsItemKey, Knows, hop_of, hops_of, live_numbers, managed_numbers}
use Rattle.rina_member.specs.Managements.{Handles}
use Rattle.rina_member.specs.Short.{IsLinkInRange}
use Rattle.rina_member.proofs.ByRows.{IsHeard, KeptHeard, KeptItem, KeptStart, KeptStop, PutOr, handled_rows}
use Rattle.rina_member.proofs.Changing.{set_hops, set_numbers}
use Rattle.rina_member.proofs.Counting.{two_left}
use Rattle.rina_member.proofs.Holding.{IsHolding, made_holding, other_claims, other_keys, other_state, stated_holding, stated_own}
use Rattle.rina_member.proofs.Items.{not_link}
use Rattle.rina_member.proofs.Lists.{is_there, keeps_all}
use Rattle.rina_member.proofs.Losing.{holding_of}
use Rattle.rina_member.proofs.States.{stays_in}
use Rattle.rina_member.proofs.Tells.{key_shown}
use Rattle.rina_member.proofs.TellsEnrolled.{peer_small, set_ranged}

-- Keys

-- an item that the members of a DIF replicate has the key of one
pub replicated_key : (item : Item) → IsReplicated item → IsItemKey item.key
replicated_key item (inl state) = inl (state.address, state.small, inr state.key)
replicated_key item (inr (inl member)) = inl (member.address, member.small, inl member.key)
replicated_key item (inr (inr entry)) = inr (entry.app, entry.key ∙ sym (key_shown entry.app))

-- so has the item that a message brings, where it brings such a one
pub brings_key : (message : LinkMessage) (item : Item) → item_in message ≡ Some item → CarriesReplicated message → IsItemKey item.key
brings_key (messages.Connect invoke joiner member) item is carries = absurd cc
brings_key (messages.ConnectR invoke denied) item is carries = absurd cc
brings_key (messages.Start invoke address) item is carries = absurd cc
brings_key (messages.StartR invoke) item is carries = absurd cc
brings_key (messages.Item x) item is carries = (let same : x ≡ item = cc in subst (λ (y : Item). IsItemKey y.key) same (replicated_key x carries))
brings_key (messages.Stop invoke) item is carries = absurd cc
brings_key (messages.StopR invoke) item is carries = absurd cc
brings_key (messages.Flood x) item is carries = (let same : x ≡ item = cc in subst (λ (y : Item). IsItemKey y.key) same (replicated_key x carries))

-- A link on which a message was heard

heard_ranged : (links : List Managed) (at : ℕ) (l : Managed) (h : IsHeard links at l) → ((z : Managed) → Contains links z → IsLinkInRange z) → IsLinkInRange l
heard_ranged links at l h ranges =
    let r = ranges h.old (is_there links at h.old h.stands) in
    subst (λ (z : Managed). IsLinkInRange z) (sym h.is) (record { peer = r.peer; least = r.least; weight = r.weight })

-- it comes up, and the member makes its link state
raised_knows : (now : ℕ) (m : Member) (links : List Link) (g : Agent) (at : ℕ) (l old : Managed) (batch : List Waiting) → IsHolding m.addr now g → HaveOwnNumbers links → managed_numbers g.links ≡ live_numbers links
    → slice_get g.links at ≡ Some old → l.number ≡ old.number → IsLinkInRange l → spent 1 g.last_count ≡ None → Knows now m links (Rows.raised g now at l batch)
raised_knows now m links g at l old batch h apart numbers stands same range may =
    let g' : Agent = record g { links = slice_set g.links at l; agenda = g.agenda ++ batch } in
    let holds : IsHolding m.addr now g' = record { address = h.address; fits = h.fits; ranges = set_ranged g.links at l h.ranges range; keys = h.keys; past = h.past } in
    let after = stated_holding m.addr now g' None holds may in
    record {
      address = after.address;
      fits = after.fits;
      apart = apart;
      numbers = set_numbers g.links at old l stands same ∙ numbers;
      ranges = after.ranges;
      own = subst (λ (hs : List Hop). ClaimLinks (stated None g' now).items m.addr hs) (keeps_all (stays_in None) (hops_of g'.links) (λ h among. refl)) (stated_own m.addr now g' None holds may);
      keys = after.keys;
      past = after.past;
    }

module _ (now : ℕ) (m : Member) (links : List Link) (g : Agent) (h : Knows now m links g) where
  heard_knows : KeptHeard (Knows now m links) g
  heard_knows at l state invoke agenda heard stays = record {
    address = h.address;
    fits = h.fits;
    apart = h.apart;
    numbers = set_numbers g.links at heard.old l heard.stands (ap (λ (z : Managed). z.number) heard.is) ∙ h.numbers;
    ranges = set_ranged g.links at l h.ranges (heard_ranged g.links at l heard h.ranges);
    own = subst (λ (hs : List Hop). ClaimLinks g.items m.addr hs) (sym (set_hops g.links at heard.old l heard.stands (ap (λ (z : Managed). hop_of z) heard.is))) h.own;
    keys = h.keys;
    past = h.past;
  }

  -- START

  start_knows : (message : LinkMessage) → IsInRange message → KeptStart (Knows now m links) g now message
  start_knows message ranged at l invoke address heard is may =
      let small = (subst IsInRange is ranged).1 in
      let r = heard_ranged g.links at l heard h.ranges in
      let holds : IsHolding m.addr now (record g { last_invoke = next_of g.last_invoke }) = record { address = h.address; fits = h.fits; ranges = h.ranges; keys = h.keys; past = h.past } in
      raised_knows now m links (record g { last_invoke = next_of g.last_invoke }) at (Rows.up_link (Some address) l) heard.old (Rows.start_batch l.number invoke g.items (next_of g.last_invoke))
      holds h.apart h.numbers heard.stands (ap (λ (z : Managed). z.number) heard.is) (record { peer = small; least = r.least; weight = r.weight }) may

  -- STOP

  enter_knows : (at : ℕ) (l : Managed) (invoke : ℕ) (last : ℕ) (items : List Item) (agenda : List Waiting) → IsHeard g.links at l → IsHolding m.addr now (record g { state = Enrolled; items = items; last_count = last; agenda = agenda }) → spent 1 last ≡ None
      → Knows now m links (Rows.raised (record g { state = Enrolled; items = items; last_count = last; agenda = agenda }) now at (Rows.up_link (Rows.peer_by l.enrolment items) l) (Rows.stop_batch l.number invoke items))
  enter_knows at l invoke last items agenda heard holds may =
      let r = heard_ranged g.links at l heard h.ranges in
      raised_knows now m links (record g { state = Enrolled; items = items; last_count = last; agenda = agenda }) at (Rows.up_link (Rows.peer_by l.enrolment items) l) heard.old (Rows.stop_batch l.number invoke items)
      holds h.apart h.numbers heard.stands (ap (λ (z : Managed). z.number) heard.is) (record { peer = peer_small l.enrolment items; least = r.least; weight = r.weight }) may

  -- a member that was not enrolled made its member item
  abbrev introduced : Agent
  introduced = made None g now (member_key g.address) (Some g.node)

  joined_knows : (at : ℕ) (l : Managed) (invoke : ℕ) → IsHeard g.links at l → spent 2 g.last_count ≡ None
      → Knows now m links (Rows.raised (record introduced { state = Enrolled }) now at (Rows.up_link (Rows.peer_by l.enrolment introduced.items) l) (Rows.stop_batch l.number invoke introduced.items))
  joined_knows at l invoke heard may =
      let left = two_left g.last_count may in
      let fits = subst (λ (a : ℕ). a < 2 ^ 32) (sym h.address) h.fits in
      let made' = made_holding m.addr now g (member_key g.address) (Some g.node) (holding_of now m links g h) left.0 (inl (g.address, fits, inl refl)) (λ same. not_link g.address m.addr same) in
      enter_knows at l invoke introduced.last_count introduced.items introduced.agenda heard (record { address = made'.address; fits = made'.fits; ranges = made'.ranges; keys = made'.keys; past = made'.past }) left.1

  stop_in : (s : MemberState) (at : ℕ) (l : Managed) (invoke : ℕ) → IsHeard g.links at l → spent (Rows.need_in s) g.last_count ≡ None
      → Knows now m links (Rows.raised (record (Rows.introduced_in s g now) { state = Enrolled }) now at (Rows.up_link (Rows.peer_by l.enrolment (Rows.introduced_in s g now).items) l) (Rows.stop_batch l.number invoke (Rows.introduced_in s g now).items))
  stop_in Outside at l invoke heard may = joined_knows at l invoke heard may
  stop_in (Joining link) at l invoke heard may = joined_knows at l invoke heard may
  stop_in Enrolled at l invoke heard may = enter_knows at l invoke g.last_count g.items g.agenda heard (record { address = h.address; fits = h.fits; ranges = h.ranges; keys = h.keys; past = h.past }) may
  stop_in (Denied rule) at l invoke heard may = joined_knows at l invoke heard may

  stop_knows : KeptStop (Knows now m links) g now
  stop_knows at l invoke heard may = stop_in g.state at l invoke heard may

  -- An item

  takes : (link : ℕ) (x : Item) → IsItemKey x.key → (x.key ≡ link_key m.addr → ⊥) → Knows now m links (record g { items = taken g.items x; agenda = g.agenda ++ floods (Some link) x g.links })
  takes link x key other = record {
    address = h.address;
    fits = h.fits;
    apart = h.apart;
    numbers = h.numbers;
    ranges = h.ranges;
    own = other_claims m.addr g.items x h.keys key other (hops_of g.links) h.own;
    keys = other_keys m.addr g.items x h.keys key other;
    past = λ item is. h.past item (sym (other_state m.addr g.items x h.keys key other) ∙ is);
  }

  took_if : (newer : Bool) (link : ℕ) (x : Item) → is_newer x.version (kept_at g.items x.key) ≡ newer → IsItemKey x.key → (x.key ≡ link_key g.address → is_newer x.version (kept_at g.items x.key) ≡ false)
      → Knows now m links (cond newer (record g { items = taken g.items x; agenda = g.agenda ++ floods (Some link) x g.links }) g)
  took_if true link x is key own = takes link x key (λ same. true≢false (sym is ∙ own (same ∙ ap (λ (a : ℕ). link_key a) (sym h.address))))
  took_if false link x is key own = h

  item_knows : (link : ℕ) (message : LinkMessage) → CarriesReplicated message → OwnIsNewest g message → KeptItem (Knows now m links) g link message
  item_knows link message carries own x is = took_if (is_newer x.version (kept_at g.items x.key)) link x refl (brings_key message x is carries) (own x is)

-- a message that the members of its DIF may send
pub handles_knowing : (now number : ℕ) (m : Member) (links : List Link) (message : LinkMessage) (old new : Management) → Knows now m links old.agent → IsInRange message → CarriesReplicated message → OwnIsNewest old.agent message → Handles now number message old new → Knows now m links new.agent
handles_knowing now number m links message old new h ranged carries own handles =
    subst (λ (r : Result Agent AgentError). PutOr (Knows now m links) r) handles.handles
    (handled_rows (Knows now m links) old.agent now number message h (heard_knows now m links old.agent h) (start_knows now m links old.agent h message ranged) (stop_knows now m links old.agent h) (item_knows now m links old.agent h number message carries own))
