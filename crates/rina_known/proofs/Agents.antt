-- What a member keeps, and what waits there, after what happens to it: what was there, its own items, and what came.
use Rattle.std.proofs.Common.{◌≡◌, ◌⊎◌, inl, inr, ⊎_elim, ℕ, Bool, true, false, cond, List, [], ◌∷◌, ◌++◌, Contains, map, filter, slice_set, Option, Some, None, Result, Ok, Err, refl, sym, subst}
use Rattle.std.proofs.lemmas.List.Elements.{Contains-append_cases}
use Rattle.rina_newest.specs.declared.item.Item.{Item}
use Rattle.rina_newest.specs.Newest.{is_newer, kept_at, taken}
use Rattle.rina_enrol.specs.declared.event.EnrolDo.{EnrolDo}
use Rattle.rina_enrol.specs.declared.event.EnrolDo.TheVariants as does
use Rattle.rina_enrol.specs.declared.message.LinkMessage.{LinkMessage}
use Rattle.rina_enrol.specs.declared.message.LinkMessage.TheVariants as messages
use Rattle.rina_agent.specs.declared.agent.Agent.{Agent}
use Rattle.rina_agent.specs.declared.link.Link.{Link}
use Rattle.rina_agent.specs.declared.message.Waiting.{Waiting}
use Rattle.rina_agent.specs.declared.state.AgentError.{AgentError}
use Rattle.rina_agent.specs.declared.state.MemberState.{MemberState}
use Rattle.rina_agent.specs.declared.state.MemberState.TheVariants.{Denied, Enrolled, Joining, Outside}
use Rattle.rina_agent.specs.Agenda.{flood_on, floods, is_flooded, item_on, near, without_first}
use Rattle.rina_agent.specs.Counts.{next_of, spent, unless}
use Rattle.rina_agent.specs.Items.{made, own_item, stated}
use Rattle.rina_agent.specs.Neighbours.{link_key, link_state, member_key}
use Rattle.rina_agent.specs.Rows
use Rattle.rina_flood.specs.Network.{carried, item_in}
use Rattle.rina_route.proofs.Lists.{cases, contains_filter, contains_unmap, head, in_none}
use Rattle.rina_member.proofs.Items.{from_taken}
use Rattle.rina_member.proofs.Tells.{from_without}

-- the items of a member are such, and so are those in the messages that wait there
pub record IsGood (G : Item → Type 0) (a : Agent) : Type 0 where
  pub kept : (x : Item) → Contains a.items x → G x
  pub waits : (w : Waiting) → Contains a.agenda w → (x : Item) → Contains (carried w.message) x → G x

-- a member's own member item and link state are such
abbrev pub OwnAre : (Item → Type 0) → Type 0
OwnAre G = (x : Item) (a : ℕ) → (x.key ≡ member_key a) ⊎ (x.key ≡ link_key a) → G x

only : {A : Type 0} (x y : A) → Contains (x ∷ []) y → x ≡ y
only x y has = ⊎_elim (λ same. same) (λ none. absurd (in_none y none)) (cases x [] y has)

module _ (G : Item → Type 0) (own : OwnAre G) where
  -- Lists

  abbrev AllKept : List Item → Type 0
  AllKept items = (x : Item) → Contains items x → G x

  abbrev AllWait : List Waiting → Type 0
  AllWait ws = (w : Waiting) → Contains ws w → (x : Item) → Contains (carried w.message) x → G x

  both_wait : (a b : List Waiting) → AllWait a → AllWait b → AllWait (a ++ b)
  both_wait a b f g w has = ⊎_elim (λ front. f w front) (λ back. g w back) (Contains-append_cases a b w has)

  one_waits : (w : Waiting) → ((x : Item) → Contains (carried w.message) x → G x) → AllWait (w ∷ [])
  one_waits w good z has = subst (λ (v : Waiting). (x : Item) → Contains (carried v.message) x → G x) (only w z has) good

  plain_waits : (link : ℕ) (m : LinkMessage) → item_in m ≡ [] → AllWait (near link m ∷ [])
  plain_waits link m none = one_waits (near link m) (λ x has. absurd (in_none x (subst (λ (xs : List Item). Contains xs x) none has)))

  item_waits : (x y : Item) → G x → Contains (x ∷ []) y → G y
  item_waits x y good has = subst G (only x y has) good

  floods_wait : (out : Option ℕ) (x : Item) (links : List Link) → G x → AllWait (floods out x links)
  floods_wait out x links good w has y its =
      let r = contains_unmap (flood_on x) (filter (is_flooded out) links) w has in
      item_waits x y good (subst (λ (v : Waiting). Contains (carried v.message) y) (sym r.2) its)

  items_wait : (link : ℕ) (items : List Item) → AllKept items → AllWait (map (item_on link) items)
  items_wait link items all w has y its =
      let r = contains_unmap (item_on link) items w has in
      item_waits r.0 y (all r.0 r.1) (subst (λ (v : Waiting). Contains (carried v.message) y) (sym r.2) its)

  more_waits : (a : Agent) (ws : List Waiting) → IsGood G a → AllWait ws → AllWait (a.agenda ++ ws)
  more_waits a ws g all = both_wait a.agenda ws g.waits all

  taken_kept : (items : List Item) (x : Item) → AllKept items → G x → AllKept (taken items x)
  taken_kept items x all good y has = ⊎_elim (λ old. all y old) (λ same. subst G same good) (from_taken items x y has)

  -- Items

  pub takes_good : (a : Agent) (x : Item) → G x → IsGood G a → IsGood G (record a { items = taken a.items x })
  takes_good a x good g = record { kept = taken_kept a.items x g.kept good; waits = g.waits }

  pub made_good : (out : Option ℕ) (a : Agent) (now : ℕ) (key : List ℕ) (value : Option (List ℕ)) → G (own_item a now key value) → IsGood G a → IsGood G (made out a now key value)
  made_good out a now key value good g = record {
    kept = taken_kept a.items (own_item a now key value) g.kept good;
    waits = more_waits a (floods out (own_item a now key value) a.links) g (floods_wait out (own_item a now key value) a.links good);
  }

  stated_good : (out : Option ℕ) (a : Agent) (now : ℕ) → IsGood G a → IsGood G (stated out a now)
  stated_good out a now = made_good out a now (link_key a.address) (Some (link_state out a.links)) (own (own_item a now (link_key a.address) (Some (link_state out a.links))) a.address (inr refl))

  took_by : (b : Bool) (link : ℕ) (a : Agent) (item : Item) → G item → IsGood G a → IsGood G (cond b (record a { items = taken a.items item; agenda = a.agenda ++ floods (Some link) item a.links }) a)
  took_by true link a item good g = record { kept = taken_kept a.items item g.kept good; waits = more_waits a (floods (Some link) item a.links) g (floods_wait (Some link) item a.links good) }
  took_by false link a item good g = g

  -- Messages of an enrolment

  abbrev GoodOr : Result Agent AgentError → Type 0
  GoodOr (Ok a) = IsGood G a
  GoodOr (Err e) = Unit {0}

  unless_good : (o : Option AgentError) (a : Agent) → IsGood G a → GoodOr (unless o a)
  unless_good None a g = g
  unless_good (Some e) a g = tt

  connected_does : (a : Agent) (h : _) (d : EnrolDo) (reply : LinkMessage) → item_in reply ≡ [] → IsGood G a → IsGood G (Rows.connected_as d a h reply)
  connected_does a h does.Nothing reply none g = g
  connected_does a h (does.ConnectR denied) reply none g = record { kept = g.kept; waits = more_waits a (near h.link.number reply ∷ []) g (plain_waits h.link.number reply none) }
  connected_does a h does.Start reply none g = g
  connected_does a h does.StartR reply none g = g
  connected_does a h does.StopR reply none g = g

  connected_good : (a : Agent) (reply : LinkMessage) (o : _) → item_in reply ≡ [] → IsGood G a → IsGood G (Rows.connected_by a reply o)
  connected_good a reply None none g = g
  connected_good a reply (Some h) none g = connected_does a h h.does reply none g

  allowed_does : (a : Agent) (h : _) (d : EnrolDo) (start : LinkMessage) → item_in start ≡ [] → IsGood G a → GoodOr (Rows.allowed_as d a h start)
  allowed_does a h does.Nothing start none g = g
  allowed_does a h (does.ConnectR denied) start none g = g
  allowed_does a h does.Start start none g = unless_good (spent 1 a.last_invoke) (record a { last_invoke = next_of a.last_invoke; links = slice_set a.links h.at h.link; agenda = a.agenda ++ near h.link.number start ∷ [] }) (record { kept = g.kept; waits = more_waits a (near h.link.number start ∷ []) g (plain_waits h.link.number start none) })
  allowed_does a h does.StartR start none g = g
  allowed_does a h does.StopR start none g = g

  allowed_good : (a : Agent) (start : LinkMessage) (o : _) → item_in start ≡ [] → IsGood G a → GoodOr (Rows.allowed_by a start o)
  allowed_good a start None none g = g
  allowed_good a start (Some h) none g = allowed_does a h h.does start none g

  denied_good : (a : Agent) (link rule : ℕ) (o : _) → IsGood G a → IsGood G (Rows.denied_by a link rule o)
  denied_good a link rule None g = g
  denied_good a link rule (Some h) g = record { kept = g.kept; waits = g.waits }

  noted_good : (a : Agent) (o : _) → IsGood G a → IsGood G (Rows.noted_by a o)
  noted_good a None g = g
  noted_good a (Some h) g = record { kept = g.kept; waits = g.waits }

  raised_good : (a : Agent) (now at : ℕ) (l : Link) (batch : List Waiting) → AllWait batch → IsGood G a → IsGood G (Rows.raised a now at l batch)
  raised_good a now at l batch all g = stated_good None (record a { links = slice_set a.links at l; agenda = a.agenda ++ batch }) now (record { kept = g.kept; waits = more_waits a batch g all })

  start_wait : (link invoke : ℕ) (items : List Item) (stop : ℕ) → AllKept items → AllWait (Rows.start_batch link invoke items stop)
  start_wait link invoke items stop all =
      both_wait (near link (messages.StartR invoke) ∷ []) (map (item_on link) items ++ near link (messages.Stop stop) ∷ []) (plain_waits link (messages.StartR invoke) refl)
      (both_wait (map (item_on link) items) (near link (messages.Stop stop) ∷ []) (items_wait link items all) (plain_waits link (messages.Stop stop) refl))

  stop_wait : (link invoke : ℕ) (items : List Item) → AllKept items → AllWait (Rows.stop_batch link invoke items)
  stop_wait link invoke items all = both_wait (near link (messages.StopR invoke) ∷ []) (map (item_on link) items) (plain_waits link (messages.StopR invoke) refl) (items_wait link items all)

  started_does : (a : Agent) (now : ℕ) (h : _) (invoke address : ℕ) (d : EnrolDo) → IsGood G a → GoodOr (Rows.started_as d a now h invoke address)
  started_does a now h invoke address does.Nothing g = g
  started_does a now h invoke address (does.ConnectR denied) g = g
  started_does a now h invoke address does.Start g = g
  started_does a now h invoke address does.StartR g =
      unless_good (Rows.either (spent 1 a.last_count) (spent 1 a.last_invoke)) (Rows.started a now h invoke address)
      (raised_good (record a { last_invoke = next_of a.last_invoke }) now h.at (Rows.up_link (Some address) h.link) (Rows.start_batch h.link.number invoke a.items (next_of a.last_invoke))
      (start_wait h.link.number invoke a.items (next_of a.last_invoke) g.kept) (record { kept = g.kept; waits = g.waits }))
  started_does a now h invoke address does.StopR g = g

  started_good : (a : Agent) (now invoke address : ℕ) (o : _) → IsGood G a → GoodOr (Rows.started_by a now invoke address o)
  started_good a now invoke address None g = g
  started_good a now invoke address (Some h) g = started_does a now h invoke address h.does g

  enters_good : (a : Agent) (now : ℕ) → IsGood G a → IsGood G (made None a now (member_key a.address) (Some a.node))
  enters_good a now = made_good None a now (member_key a.address) (Some a.node) (own (own_item a now (member_key a.address) (Some a.node)) a.address (inl refl))

  introduced_good : (s : MemberState) (a : Agent) (now : ℕ) → IsGood G a → IsGood G (Rows.introduced_in s a now)
  introduced_good Outside a now g = enters_good a now g
  introduced_good (Joining link) a now g = enters_good a now g
  introduced_good Enrolled a now g = g
  introduced_good (Denied rule) a now g = enters_good a now g

  stopped_does : (a : Agent) (now : ℕ) (h : _) (invoke : ℕ) (d : EnrolDo) → IsGood G a → GoodOr (Rows.stopped_as d a now h invoke)
  stopped_does a now h invoke does.Nothing g = g
  stopped_does a now h invoke (does.ConnectR denied) g = g
  stopped_does a now h invoke does.Start g = g
  stopped_does a now h invoke does.StartR g = g
  stopped_does a now h invoke does.StopR g =
      let mid : Agent = Rows.introduced a now in
      let good : IsGood G mid = introduced_good a.state a now g in
      unless_good (spent (Rows.need_in a.state) a.last_count) (Rows.entered mid now h invoke)
      (raised_good (record mid { state = Enrolled }) now h.at (Rows.up_link (Rows.peer_by h.link.enrolment mid.items) h.link) (Rows.stop_batch h.link.number invoke mid.items)
      (stop_wait h.link.number invoke mid.items good.kept) (record { kept = good.kept; waits = good.waits }))

  stopped_good : (a : Agent) (now invoke : ℕ) (o : _) → IsGood G a → GoodOr (Rows.stopped_by a now invoke o)
  stopped_good a now invoke None g = g
  stopped_good a now invoke (Some h) g = stopped_does a now h invoke h.does g

  handled_or : (a : Agent) (now link : ℕ) (m : LinkMessage) → AllKept (item_in m) → IsGood G a → GoodOr (Rows.handled a now link m)
  handled_or a now link (messages.Connect invoke joiner member) came g = connected_good a (messages.ConnectR invoke (Rows.denial a joiner)) _ refl g
  handled_or a now link (messages.ConnectR invoke None) came g = allowed_good a (messages.Start (next_of a.last_invoke) a.address) _ refl g
  handled_or a now link (messages.ConnectR invoke (Some rule)) came g = denied_good a link rule _ g
  handled_or a now link (messages.Start invoke address) came g = started_good a now invoke address _ g
  handled_or a now link (messages.StartR invoke) came g = noted_good a _ g
  handled_or a now link (messages.Item item) came g = took_by (is_newer item.version (kept_at a.items item.key)) link a item (came item (head item [])) g
  handled_or a now link (messages.Stop invoke) came g = stopped_good a now invoke _ g
  handled_or a now link (messages.StopR invoke) came g = noted_good a _ g
  handled_or a now link (messages.Flood item) came g = took_by (is_newer item.version (kept_at a.items item.key)) link a item (came item (head item [])) g

  -- a member handled a message whose items are such
  pub handled_good : (a a' : Agent) (now link : ℕ) (m : LinkMessage) → ((x : Item) → Contains (item_in m) x → G x) → Rows.handled a now link m ≡ Ok a' → IsGood G a → IsGood G a'
  handled_good a a' now link m came is g = subst GoodOr is (handled_or a now link m came g)

  -- A link is lost, and a message sent

  dropped_good : (a : Agent) (link : ℕ) → IsGood G a → IsGood G (Rows.dropped a link)
  dropped_good a link g = record { kept = g.kept; waits = λ w has. g.waits w (contains_filter _ a.agenda w has).0 }

  lost_or : (up : Bool) (a : Agent) (now link : ℕ) → IsGood G a → GoodOr (cond up (unless (spent 1 a.last_count) (Rows.dropped (stated (Some link) a now) link)) (Ok (Rows.dropped a link)))
  lost_or true a now link g = unless_good (spent 1 a.last_count) (Rows.dropped (stated (Some link) a now) link) (dropped_good (stated (Some link) a now) link (stated_good (Some link) a now g))
  lost_or false a now link g = dropped_good a link g

  pub lost_good : (a a' : Agent) (now link : ℕ) → Rows.lost a now link ≡ Ok a' → IsGood G a → IsGood G a'
  lost_good a a' now link is g = subst GoodOr is (lost_or _ a now link g)

  pub sent_good : (a : Agent) (link : ℕ) → IsGood G a → IsGood G (record a { agenda = without_first link a.agenda })
  sent_good a link g = record { kept = g.kept; waits = λ w has. g.waits w (from_without _ a.agenda w has) }

  -- An enrolment is asked for

  pub joining_good : (a : Agent) (link : ℕ) (member node : List ℕ) → IsGood G a → IsGood G (Rows.joining a link member node)
  joining_good a link member node g = record { kept = g.kept; waits = more_waits a (near link (messages.Connect (next_of a.last_invoke) a.name member) ∷ []) g (plain_waits link (messages.Connect (next_of a.last_invoke) a.name member) refl) }
