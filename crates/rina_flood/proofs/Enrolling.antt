-- Messages of an enrolment that bring no link up, and new links.
use Rattle.std.proofs.Common.{◌≡◌, ℕ, ◌⊎◌, true, false, List, [], ◌∷◌, ◌++◌, Contains, slice_set, Option, Some, None, refl, sym, ◌∙◌, subst, inl, inr}
use Rattle.std.proofs.lemmas.Bool.{both_ways}
use Rattle.std.proofs.lemmas.List.Elements.{Contains-append_left, Contains-append_right, Contains-append_cases}
use Rattle.rina_enrol.specs.declared.event.EnrolDo.{EnrolDo}
use Rattle.rina_enrol.specs.declared.event.EnrolDo.TheVariants as does
use Rattle.rina_enrol.specs.declared.event.EnrolEvent.{EnrolEvent}
use Rattle.rina_enrol.specs.declared.message.LinkMessage.{LinkMessage}
use Rattle.rina_agent.specs.declared.agent.Agent.{Agent}
use Rattle.rina_agent.specs.declared.link.Link.{Link}
use Rattle.rina_agent.specs.declared.message.ManagementMessage.{ManagementMessage}
use Rattle.rina_agent.specs.declared.message.ManagementMessage.TheVariants.{ToNeighbour}
use Rattle.rina_agent.specs.declared.message.Waiting.{Waiting}
use Rattle.rina_agent.specs.declared.state.AgentError.{AgentError}
use Rattle.rina_agent.specs.Agenda.{near}
use Rattle.rina_agent.specs.Counts.{next_of, spent, unless}
use Rattle.rina_agent.specs.Enrolled.{done}
use Rattle.rina_agent.specs.Enrolments.{hears, place_of}
use Rattle.rina_agent.specs.Neighbours.{link_state}
use Rattle.rina_agent.specs.Rows.{connected_as, connected_by, allowed_as, allowed_by, denied_by, noted_by}
use Rattle.rina_flood.specs.Network.{EndState, Network, waiting_at, put_agent, put_offers, carried}
use Rattle.rina_flood.proofs.Calls.{AreFewer, at_place}
use Rattle.rina_flood.proofs.Heard.{IsHeard, heard_text, is_heard, placed, found_number, set_fewer}
use Rattle.rina_flood.proofs.Holds.{Holds}
use Rattle.rina_flood.proofs.Messages.{from_at, old_at, front_at}
use Rattle.rina_flood.proofs.Runs.{none_waits, IsSame, the_same, put_same, IsMoving, moving_holds, quiet_holds}

-- An agent keeps the same items, its link state would say the same, and new messages carry no item
pub record IsQuiet (a b : Agent) : Type 0 where
  pub same : IsSame a b
  pub text : link_state None b.links ≡ link_state None a.links
  pub follows : (k : EndState) (m : ManagementMessage) → Contains (waiting_at k b.agenda) m → Contains (waiting_at k a.agenda) m ⊎ (carried m ≡ [])
  pub remains : (k : EndState) (m : ManagementMessage) → Contains (waiting_at k a.agenda) m → Contains (waiting_at k b.agenda) m

pub nothing_quiet : (a : Agent) → IsQuiet a a
nothing_quiet a = record { same = the_same a; text = refl; follows = λ k m e. inl e; remains = λ k m e. e }

pub same_quiet : (a b : Agent) → IsSame a b → link_state None b.links ≡ link_state None a.links → b.agenda ≡ a.agenda → IsQuiet a b
same_quiet a b same text agenda = record {
  same = same;
  text = text;
  follows = λ k m e. (let P : List Waiting → Type 0 = λ ws. Contains (waiting_at k ws) m in inl (subst P agenda e));
  remains = λ k m e. (let P : List Waiting → Type 0 = λ ws. Contains (waiting_at k ws) m in subst P (sym agenda) e);
}

pub put_quiet : (a b : Agent) (w : Waiting) → IsSame a b → link_state None b.links ≡ link_state None a.links → b.agenda ≡ a.agenda ++ w ∷ [] → carried w.message ≡ [] → IsQuiet a b
put_quiet a b w same text agenda empty = record {
  same = same;
  text = text;
  follows = λ k m e.
      (let P : List Waiting → Type 0 = λ ws. Contains (waiting_at k ws) m in
      elim (from_at k a.agenda (w ∷ []) m (subst P agenda e)) [
        | inl old ↦ inl old
        | inr new ↦ elim (front_at k w [] m new) [
          | inl is ↦ (let Q : ManagementMessage → Type 0 = λ z. carried z ≡ [] in inr (subst Q is empty))
          | inr none ↦ absurd (none_waits k m none)
        ]
      ]);
  remains = λ k m e. (let P : List Waiting → Type 0 = λ ws. Contains (waiting_at k ws) m in subst P (sym agenda) (old_at k a.agenda (w ∷ []) m e));
}

quiet_moving : (n : Network) (i : ℕ) (b : Agent) → IsQuiet (n.agents i) b → IsMoving n (put_agent i b n.agents) n.sent
quiet_moving n i b q = record {
  same = put_same i b n.agents q.same;
  plain = false;
  follows = λ l d m e. elim (Contains-append_cases (n.sent l d) (waiting_at (n.states l d) (put_agent i b n.agents (n.ends l d)).agenda) m e) [
    | inl flies ↦ inl (Contains-append_left (n.sent l d) (waiting_at (n.states l d) (n.agents (n.ends l d)).agenda) m flies)
    | inr waits ↦ elim (at_place (λ a c. Contains (waiting_at (n.states l d) c.agenda) m → Contains (waiting_at (n.states l d) a.agenda) m ⊎ (carried m ≡ [])) i b n.agents (n.ends l d) (q.follows (n.states l d) m) (λ a w. inl w) waits) [
      | inl old ↦ inl (Contains-append_right (n.sent l d) (waiting_at (n.states l d) (n.agents (n.ends l d)).agenda) m old)
      | inr empty ↦ inr (empty, λ t. absurd (both_ways true (sym t) refl))
    ]
  ];
  remains = λ l d m up e. elim (Contains-append_cases (n.sent l d) (waiting_at (n.states l d) (n.agents (n.ends l d)).agenda) m e) [
    | inl flies ↦ inl (Contains-append_left (n.sent l d) (waiting_at (n.states l d) (put_agent i b n.agents (n.ends l d)).agenda) m flies)
    | inr waits ↦ inl (Contains-append_right (n.sent l d) (waiting_at (n.states l d) (put_agent i b n.agents (n.ends l d)).agenda) m
        (at_place (λ a c. Contains (waiting_at (n.states l d) a.agenda) m → Contains (waiting_at (n.states l d) c.agenda) m) i b n.agents (n.ends l d) (q.remains (n.states l d) m) (λ a w. w) waits))
  ];
}

pub quiet_called : (n : Network) (i : ℕ) (b : Agent) → IsQuiet (n.agents i) b → Holds n → Holds (record n { agents = put_agent i b n.agents; made = n.made ++ []; offered = put_offers i [] n.offered })
quiet_called n i b q h = quiet_holds n i b n.sent q.same h (moving_holds n (put_agent i b n.agents) n.sent (quiet_moving n i b q) h)

-- A link that heard a message
pub heard_fewer : (links : List Link) (k at : ℕ) (becomes : Link) → IsHeard links (place_of k links) at becomes → AreFewer links (slice_set links at becomes)
heard_fewer links k at becomes q =
    let p = placed k links at q.link q.here q.there in
    let P : List Link → Type 0 = λ ls. AreFewer links ls in
    subst P (sym (p.set becomes)) (set_fewer k becomes q.link links (q.number ∙ found_number k links q.link p.found) q.up p.found)

-- CONNECT
connect_as : (d : EnrolDo) (a : Agent) (k : ℕ) (m reply : LinkMessage) (replies : List LinkMessage) (event : EnrolEvent) (h : _) → hears a.links k m replies event ≡ Some h → carried (ToNeighbour reply) ≡ [] → IsQuiet a (connected_as d a h reply)
connect_as does.Nothing a k m reply replies event h is empty = nothing_quiet a
connect_as (does.ConnectR denied) a k m reply replies event h is empty =
    put_quiet a (record a { links = slice_set a.links h.at h.link; agenda = a.agenda ++ near h.link.number reply ∷ [] }) (near h.link.number reply) (record { items = refl; address = refl; count = refl; fewer = heard_fewer a.links k h.at h.link (is_heard a.links k m replies event h is) }) (heard_text a.links k h.at h.link (is_heard a.links k m replies event h is)) refl empty
connect_as does.Start a k m reply replies event h is empty = nothing_quiet a
connect_as does.StartR a k m reply replies event h is empty = nothing_quiet a
connect_as does.StopR a k m reply replies event h is empty = nothing_quiet a

pub connect_by : (a : Agent) (k : ℕ) (m reply : LinkMessage) (replies : List LinkMessage) (event : EnrolEvent) (o : _) → hears a.links k m replies event ≡ o → carried (ToNeighbour reply) ≡ [] → IsQuiet a (connected_by a reply o)
connect_by a k m reply replies event None is empty = nothing_quiet a
connect_by a k m reply replies event (Some h) is empty = connect_as h.does a k m reply replies event h is empty

-- CONNECT_R
allow_unless : (e : Option AgentError) (a b : Agent) → IsQuiet a b → IsQuiet a (done a (unless e b))
allow_unless None a b q = q
allow_unless (Some e) a b q = nothing_quiet a

allow_as : (d : EnrolDo) (a : Agent) (k : ℕ) (m start : LinkMessage) (replies : List LinkMessage) (event : EnrolEvent) (h : _) → hears a.links k m replies event ≡ Some h → carried (ToNeighbour start) ≡ [] → IsQuiet a (done a (allowed_as d a h start))
allow_as does.Nothing a k m start replies event h is empty = nothing_quiet a
allow_as (does.ConnectR denied) a k m start replies event h is empty = nothing_quiet a
allow_as does.Start a k m start replies event h is empty =
    let b = record a { last_invoke = next_of a.last_invoke; links = slice_set a.links h.at h.link; agenda = a.agenda ++ near h.link.number start ∷ [] } in
    allow_unless (spent 1 a.last_invoke) a b (put_quiet a b (near h.link.number start) (record { items = refl; address = refl; count = refl; fewer = heard_fewer a.links k h.at h.link (is_heard a.links k m replies event h is) }) (heard_text a.links k h.at h.link (is_heard a.links k m replies event h is)) refl empty)
allow_as does.StartR a k m start replies event h is empty = nothing_quiet a
allow_as does.StopR a k m start replies event h is empty = nothing_quiet a

pub allow_by : (a : Agent) (k : ℕ) (m start : LinkMessage) (replies : List LinkMessage) (event : EnrolEvent) (o : _) → hears a.links k m replies event ≡ o → carried (ToNeighbour start) ≡ [] → IsQuiet a (done a (allowed_by a start o))
allow_by a k m start replies event None is empty = nothing_quiet a
allow_by a k m start replies event (Some h) is empty = allow_as h.does a k m start replies event h is empty

pub deny_by : (a : Agent) (k link rule : ℕ) (m : LinkMessage) (replies : List LinkMessage) (event : EnrolEvent) (o : _) → hears a.links k m replies event ≡ o → IsQuiet a (denied_by a link rule o)
deny_by a k link rule m replies event None is = nothing_quiet a
deny_by a k link rule m replies event (Some h) is = same_quiet a (denied_by a link rule (Some h)) (record { items = refl; address = refl; count = refl; fewer = heard_fewer a.links k h.at h.link (is_heard a.links k m replies event h is) }) (heard_text a.links k h.at h.link (is_heard a.links k m replies event h is)) refl

-- START_R and STOP_R
pub note_by : (a : Agent) (k : ℕ) (m : LinkMessage) (replies : List LinkMessage) (event : EnrolEvent) (o : _) → hears a.links k m replies event ≡ o → IsQuiet a (noted_by a o)
note_by a k m replies event None is = nothing_quiet a
note_by a k m replies event (Some h) is = same_quiet a (noted_by a (Some h)) (record { items = refl; address = refl; count = refl; fewer = heard_fewer a.links k h.at h.link (is_heard a.links k m replies event h is) }) (heard_text a.links k h.at h.link (is_heard a.links k m replies event h is)) refl
