-- What holds of a member after it handled a message of a neighbour, if each row of its agent keeps it.
use Rattle.std.proofs.Common.{◌≡◌, ℕ, List, [], ◌∷◌, ◌++◌, Option, Some, None, IsSome, Result, Ok, Err, slice_get, slice_set, refl, sym, ap, subst}
use Rattle.std.specs.Prelude.{option_and_then, option_map}
use Rattle.std.proofs.lemmas.Option.{none-some, same_Some}
use Rattle.rina_newest.specs.declared.item.Item.{Item}
use Rattle.rina_session.specs.Sessions.{Talk}
use Rattle.rina_enrol.specs.declared.event.EnrolDo.{EnrolDo}
use Rattle.rina_enrol.specs.declared.event.EnrolDo.TheVariants as does
use Rattle.rina_enrol.specs.declared.event.EnrolEvent.{EnrolEvent}
use Rattle.rina_enrol.specs.declared.event.EnrolEvent.TheVariants as events
use Rattle.rina_enrol.specs.declared.message.LinkMessage.{LinkMessage}
use Rattle.rina_enrol.specs.declared.message.LinkMessage.TheVariants as messages
use Rattle.rina_agent.specs.declared.agent.Agent.{Agent}
use Rattle.rina_agent.specs.declared.enrolment.Enrolment.{Enrolment}
use Rattle.rina_agent.specs.declared.link.Link.{Link}
use Rattle.rina_agent.specs.declared.message.Waiting.{Waiting}
use Rattle.rina_agent.specs.declared.state.AgentError.{AgentError}
use Rattle.rina_agent.specs.declared.state.MemberState.{MemberState}
use Rattle.rina_agent.specs.declared.state.MemberState.TheVariants.{Enrolled}
use Rattle.rina_agent.specs.Agenda.{near}
use Rattle.rina_agent.specs.Counts.{next_of, spent, unless}
use Rattle.rina_agent.specs.Enrolments.{exchanged, heard_as, heard_at, heard_by, heard_on, hears, place_of}
use Rattle.rina_agent.specs.Items.{took}
use Rattle.rina_agent.specs.Rows
use Rattle.rina_member.specs.Handling.{item_in}
use Rattle.rina_member.proofs.Counting.{both_left}

-- The link on which a message was heard

-- it stands at a place, an enrolment made it, and it is as before but for that
pub record IsHeard (links : List Link) (at : ℕ) (l : Link) : Type 0 where
  pub old : Link
  pub stands : slice_get links at ≡ Some old
  pub is : l ≡ record old { enrolment = l.enrolment }
  pub was_made : IsSome old.enrolment
  pub is_made : IsSome l.enrolment

talk_heard : (at : ℕ) (l : Link) (e : Enrolment) (event : EnrolEvent) (t : Option Talk) (h : _) → option_map (heard_as at l e event) t ≡ Some h → (h.at ≡ at) × (h.link ≡ record l { enrolment = h.link.enrolment }) × IsSome h.link.enrolment
talk_heard at l e event None h is = absurd (none-some h is)
talk_heard at l e event (Some t) h is = subst (λ g. (g.at ≡ at) × (g.link ≡ record l { enrolment = g.link.enrolment }) × IsSome g.link.enrolment) (same_Some (heard_as at l e event t) h is) (refl, refl, refl)

link_heard : (at : ℕ) (m : LinkMessage) (replies : List LinkMessage) (event : EnrolEvent) (l : Link) (e : Option Enrolment) (h : _) → heard_by at l m replies event e ≡ Some h → IsSome e × (h.at ≡ at) × (h.link ≡ record l { enrolment = h.link.enrolment }) × IsSome h.link.enrolment
link_heard at m replies event l None h is = absurd (none-some h is)
link_heard at m replies event l (Some e) h is = (let r = talk_heard at l e event (exchanged e.session m replies) h is in (refl, r.0, r.1, r.2))

slot_heard : (links : List Link) (at : ℕ) (m : LinkMessage) (replies : List LinkMessage) (event : EnrolEvent) (o : Option Link) (h : _) → slice_get links at ≡ o → option_and_then (heard_on at m replies event) o ≡ Some h → IsHeard links h.at h.link
slot_heard links at m replies event None h there is = absurd (none-some h is)
slot_heard links at m replies event (Some l) h there is =
    let r = link_heard at m replies event l l.enrolment h is in
    record { old = l; stands = subst (λ (k : ℕ). slice_get links k ≡ Some l) (sym r.1) there; is = r.2; was_made = r.0; is_made = r.3 }

place_heard : (links : List Link) (m : LinkMessage) (replies : List LinkMessage) (event : EnrolEvent) (place : Option ℕ) (h : _) → heard_at links m replies event place ≡ Some h → IsHeard links h.at h.link
place_heard links m replies event None h is = absurd (none-some h is)
place_heard links m replies event (Some at) h is = slot_heard links at m replies event (slice_get links at) h refl is

heard : (links : List Link) (k : ℕ) (m : LinkMessage) (replies : List LinkMessage) (event : EnrolEvent) (h : _) → hears links k m replies event ≡ Some h → IsHeard links h.at h.link
heard links k m replies event h is = place_heard links m replies event (place_of k links) h is

-- The rows

-- it holds where a link is as a message left it, whatever waits, and a member that was enrolled is so
abbrev pub KeptHeard : (Agent → Type 0) → Agent → Type 0
KeptHeard P a = (at : ℕ) (l : Link) (state : MemberState) (invoke : ℕ) (agenda : List Waiting) → IsHeard a.links at l → (a.state ≡ Enrolled → state ≡ Enrolled)
    → P (record a { state = state; last_invoke = invoke; links = slice_set a.links at l; agenda = agenda })

-- where START was handled by a member that allowed the joiner
abbrev pub KeptStart : (Agent → Type 0) → Agent → ℕ → LinkMessage → Type 0
KeptStart P a now m = (at : ℕ) (l : Link) (invoke address : ℕ) → IsHeard a.links at l → m ≡ messages.Start invoke address → spent 1 a.last_count ≡ None
    → P (Rows.raised (record a { last_invoke = next_of a.last_invoke }) now at (Rows.up_link (Some address) l) (Rows.start_batch l.number invoke a.items (next_of a.last_invoke)))

-- where STOP was handled by the end that joins
abbrev pub KeptStop : (Agent → Type 0) → Agent → ℕ → Type 0
KeptStop P a now = (at : ℕ) (l : Link) (invoke : ℕ) → IsHeard a.links at l → spent (Rows.need_in a.state) a.last_count ≡ None
    → P (Rows.raised (record (Rows.introduced a now) { state = Enrolled }) now at (Rows.up_link (Rows.peer_by l.enrolment (Rows.introduced a now).items) l) (Rows.stop_batch l.number invoke (Rows.introduced a now).items))

-- where an item came
abbrev pub KeptItem : (Agent → Type 0) → Agent → ℕ → LinkMessage → Type 0
KeptItem P a k m = (item : Item) → item_in m ≡ Some item → P (took k a item)

module _ (P : Agent → Type 0) where
  abbrev pub PutOr : Result Agent AgentError → Type 0
  PutOr (Ok g) = P g
  PutOr (Err e) = Unit {0}

  unless_put : (o : Option AgentError) (g : Agent) → (o ≡ None → P g) → PutOr (unless o g)
  unless_put None g h = h refl
  unless_put (Some e) g h = tt

  connected_does : (a : Agent) → P a → KeptHeard P a → (k : ℕ) (m : LinkMessage) (replies : List LinkMessage) (event : EnrolEvent) (h : _) → hears a.links k m replies event ≡ Some h → (d : EnrolDo) (reply : LinkMessage) → P (Rows.connected_as d a h reply)
  connected_does a same relinks k m replies event h is does.Nothing reply = same
  connected_does a same relinks k m replies event h is (does.ConnectR denied) reply =
      relinks h.at h.link a.state a.last_invoke (a.agenda ++ near h.link.number reply ∷ []) (heard a.links k m replies event h is) (λ in_it. in_it)
  connected_does a same relinks k m replies event h is does.Start reply = same
  connected_does a same relinks k m replies event h is does.StartR reply = same
  connected_does a same relinks k m replies event h is does.StopR reply = same

  connected_row : (a : Agent) → P a → KeptHeard P a → (k : ℕ) (m : LinkMessage) (replies : List LinkMessage) (event : EnrolEvent) (o : _) → hears a.links k m replies event ≡ o → (reply : LinkMessage) → P (Rows.connected_by a reply o)
  connected_row a same relinks k m replies event None is reply = same
  connected_row a same relinks k m replies event (Some h) is reply = connected_does a same relinks k m replies event h is h.does reply

  allowed_does : (a : Agent) → P a → KeptHeard P a → (k : ℕ) (m : LinkMessage) (replies : List LinkMessage) (event : EnrolEvent) (h : _) → hears a.links k m replies event ≡ Some h → (d : EnrolDo) (start : LinkMessage) → PutOr (Rows.allowed_as d a h start)
  allowed_does a same relinks k m replies event h is does.Nothing start = same
  allowed_does a same relinks k m replies event h is (does.ConnectR denied) start = same
  allowed_does a same relinks k m replies event h is does.Start start = unless_put (spent 1 a.last_invoke) _ (λ left.
      relinks h.at h.link a.state (next_of a.last_invoke) (a.agenda ++ near h.link.number start ∷ []) (heard a.links k m replies event h is) (λ in_it. in_it))
  allowed_does a same relinks k m replies event h is does.StartR start = same
  allowed_does a same relinks k m replies event h is does.StopR start = same

  allowed_row : (a : Agent) → P a → KeptHeard P a → (k : ℕ) (m : LinkMessage) (replies : List LinkMessage) (event : EnrolEvent) (o : _) → hears a.links k m replies event ≡ o → (start : LinkMessage) → PutOr (Rows.allowed_by a start o)
  allowed_row a same relinks k m replies event None is start = same
  allowed_row a same relinks k m replies event (Some h) is start = allowed_does a same relinks k m replies event h is h.does start

  denied_row : (a : Agent) → P a → KeptHeard P a → (k : ℕ) (m : LinkMessage) (replies : List LinkMessage) (event : EnrolEvent) (o : _) → hears a.links k m replies event ≡ o → (rule : ℕ) → P (Rows.denied_by a k rule o)
  denied_row a same relinks k m replies event None is rule = same
  denied_row a same relinks k m replies event (Some h) is rule =
      relinks h.at h.link (Rows.denied_state k rule a.state) a.last_invoke a.agenda (heard a.links k m replies event h is) (λ in_it. ap (λ (s : MemberState). Rows.denied_state k rule s) in_it)

  noted_row : (a : Agent) → P a → KeptHeard P a → (k : ℕ) (m : LinkMessage) (replies : List LinkMessage) (event : EnrolEvent) (o : _) → hears a.links k m replies event ≡ o → P (Rows.noted_by a o)
  noted_row a same relinks k m replies event None is = same
  noted_row a same relinks k m replies event (Some h) is = relinks h.at h.link a.state a.last_invoke a.agenda (heard a.links k m replies event h is) (λ in_it. in_it)

  started_does : (a : Agent) (now : ℕ) → P a → (k invoke address : ℕ) → KeptStart P a now (messages.Start invoke address) → (m : LinkMessage) (replies : List LinkMessage) (event : EnrolEvent) (h : _) → hears a.links k m replies event ≡ Some h → (d : EnrolDo) → PutOr (Rows.started_as d a now h invoke address)
  started_does a now same k invoke address starts m replies event h is does.Nothing = same
  started_does a now same k invoke address starts m replies event h is (does.ConnectR denied) = same
  started_does a now same k invoke address starts m replies event h is does.Start = same
  started_does a now same k invoke address starts m replies event h is does.StartR = unless_put (Rows.either (spent 1 a.last_count) (spent 1 a.last_invoke)) (Rows.started a now h invoke address) (λ left.
      starts h.at h.link invoke address (heard a.links k m replies event h is) refl (both_left (spent 1 a.last_count) (spent 1 a.last_invoke) left))
  started_does a now same k invoke address starts m replies event h is does.StopR = same

  started_row : (a : Agent) (now : ℕ) → P a → (k invoke address : ℕ) → KeptStart P a now (messages.Start invoke address) → (m : LinkMessage) (replies : List LinkMessage) (event : EnrolEvent) (o : _) → hears a.links k m replies event ≡ o → PutOr (Rows.started_by a now invoke address o)
  started_row a now same k invoke address starts m replies event None is = same
  started_row a now same k invoke address starts m replies event (Some h) is = started_does a now same k invoke address starts m replies event h is h.does

  stopped_does : (a : Agent) (now : ℕ) → P a → KeptStop P a now → (k invoke : ℕ) (m : LinkMessage) (replies : List LinkMessage) (event : EnrolEvent) (h : _) → hears a.links k m replies event ≡ Some h → (d : EnrolDo) → PutOr (Rows.stopped_as d a now h invoke)
  stopped_does a now same enters k invoke m replies event h is does.Nothing = same
  stopped_does a now same enters k invoke m replies event h is (does.ConnectR denied) = same
  stopped_does a now same enters k invoke m replies event h is does.Start = same
  stopped_does a now same enters k invoke m replies event h is does.StartR = same
  stopped_does a now same enters k invoke m replies event h is does.StopR =
      unless_put (spent (Rows.need_in a.state) a.last_count) (Rows.entered (Rows.introduced a now) now h invoke) (λ left. enters h.at h.link invoke (heard a.links k m replies event h is) left)

  stopped_row : (a : Agent) (now : ℕ) → P a → KeptStop P a now → (k invoke : ℕ) (m : LinkMessage) (replies : List LinkMessage) (event : EnrolEvent) (o : _) → hears a.links k m replies event ≡ o → PutOr (Rows.stopped_by a now invoke o)
  stopped_row a now same enters k invoke m replies event None is = same
  stopped_row a now same enters k invoke m replies event (Some h) is = stopped_does a now same enters k invoke m replies event h is h.does

  pub handled_rows : (a : Agent) (now k : ℕ) (m : LinkMessage) → P a → KeptHeard P a → KeptStart P a now m → KeptStop P a now → KeptItem P a k m → PutOr (Rows.handled a now k m)
  handled_rows a now k (messages.Connect invoke joiner member) same relinks starts enters takes =
      let reply : LinkMessage = messages.ConnectR invoke (Rows.denial a joiner) in
      connected_row a same relinks k (messages.Connect invoke joiner member) (reply ∷ []) (events.Connect (Rows.denial a joiner)) _ refl reply
  handled_rows a now k (messages.ConnectR invoke None) same relinks starts enters takes =
      let start : LinkMessage = messages.Start (next_of a.last_invoke) a.address in
      allowed_row a same relinks k (messages.ConnectR invoke None) (start ∷ []) (events.ConnectR None) _ refl start
  handled_rows a now k (messages.ConnectR invoke (Some rule)) same relinks starts enters takes = denied_row a same relinks k (messages.ConnectR invoke (Some rule)) [] (events.ConnectR (Some rule)) _ refl rule
  handled_rows a now k (messages.Start invoke address) same relinks starts enters takes =
      started_row a now same k invoke address starts (messages.Start invoke address) (messages.StartR invoke ∷ messages.Stop (next_of a.last_invoke) ∷ []) events.Start _ refl
  handled_rows a now k (messages.StartR invoke) same relinks starts enters takes = noted_row a same relinks k (messages.StartR invoke) [] events.StartR _ refl
  handled_rows a now k (messages.Item item) same relinks starts enters takes = takes item refl
  handled_rows a now k (messages.Stop invoke) same relinks starts enters takes = stopped_row a now same enters k invoke (messages.Stop invoke) (messages.StopR invoke ∷ []) events.Stop _ refl
  handled_rows a now k (messages.StopR invoke) same relinks starts enters takes = noted_row a same relinks k (messages.StopR invoke) [] events.StopR _ refl
  handled_rows a now k (messages.Flood item) same relinks starts enters takes = takes item refl
