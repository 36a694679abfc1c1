-- An end that is not made has sent nothing, and the other end of its link is not up.
use Rattle.std.proofs.Common.{◌≡◌, ℕ, ◌⊎◌, Bool, true, false, ◌==◌, cond, List, [], ◌∷◌, ◌++◌, Contains, slice_set, Option, Some, None, Ok, refl, sym, ◌∙◌, ap, subst, inl, inr}
use Rattle.std.specs.Prelude.{find}
use Rattle.std.proofs.lemmas.Bool.{both_ways, cases_Bool, eq-eqb, eqb-true}
use Rattle.rina_enrol.specs.declared.event.EnrolDo.{EnrolDo}
use Rattle.rina_enrol.specs.declared.event.EnrolDo.TheVariants as does
use Rattle.rina_enrol.specs.declared.event.EnrolEvent.TheVariants as events
use Rattle.rina_enrol.specs.declared.message.LinkMessage.{LinkMessage}
use Rattle.rina_enrol.specs.declared.message.LinkMessage.TheVariants as messages
use Rattle.rina_newest.specs.declared.item.Item.{Item}
use Rattle.rina_newest.specs.Newest.{is_newer, kept_at, taken}
use Rattle.rina_agent.specs.declared.agent.Agent.{Agent}
use Rattle.rina_agent.specs.declared.link.Link.{Link}
use Rattle.rina_agent.specs.declared.message.ManagementMessage.{ManagementMessage}
use Rattle.rina_agent.specs.declared.message.ManagementMessage.TheVariants.{ToNeighbour, ToMember}
use Rattle.rina_agent.specs.declared.state.AgentError.{AgentError}
use Rattle.rina_agent.specs.declared.state.MemberState.{MemberState}
use Rattle.rina_agent.specs.declared.state.MemberState.TheVariants.{Outside, Joining, Enrolled, Denied}
use Rattle.rina_agent.specs.Agenda.{floods, without_first}
use Rattle.rina_agent.specs.Counts.{next_of, spent, unless}
use Rattle.rina_agent.specs.Enrolled.{done}
use Rattle.rina_agent.specs.Enrolments.{hears, is_numbered, place_of}
use Rattle.rina_agent.specs.Items.{made, stated}
use Rattle.rina_agent.specs.Rows.{denial, dropped, either, entered, handled, introduced_in, joined_link, joining, joining_link, need_in, peer_by, started, started_as, started_by, stopped_as, stopped_by, up_link, was_up}
use Rattle.rina_flood.specs.Network.{Side, other, EndState, Unmade, There, Gone, Network, is_up, link_at, with_invoke, with_message, put_agent, put_sent, put_state, put_ends, with_state, AreApart, Row, Make, Put, Draw, Take, Handle, Lose, Leave, Drop, Enrol, Claim, Know, Pass, happens, May, IsRun, after_rows}
use Rattle.rina_flood.proofs.Agendas.{lost_fewer}
use Rattle.rina_flood.proofs.All.{row_holds}
use Rattle.rina_flood.proofs.Calls.{at_place, at_state}
use Rattle.rina_flood.proofs.Enrolling.{IsQuiet, allow_by, connect_by, deny_by, note_by}
use Rattle.rina_flood.proofs.Heard.{IsHeard, found_number, is_heard, placed, set_up}
use Rattle.rina_flood.proofs.Holds.{Holds}
use Rattle.rina_flood.proofs.Known.{same_up}
use Rattle.rina_flood.proofs.NewLinks.{up_more}
use Rattle.rina_flood.proofs.Places.{nothing_in, in_first, direction_case, other_back, put_case}
use Rattle.rina_flood.proofs.States.{lost_up, made_up, new_down, other_link, by_link}

-- Which links are up after a message: those that were, and that on which it came

abbrev UpOnly : Agent → Agent → ℕ → Type 0
UpOnly a b k = (j : ℕ) → was_up (find (is_numbered j) b.links) ≡ true → (was_up (find (is_numbered j) a.links) ≡ true) ⊎ (j ≡ k)

quiet_up : (a b : Agent) (k : ℕ) → IsQuiet a b → UpOnly a b k
quiet_up a b k q j u = inl (q.same.fewer.up j u)

unless_up : (o : Option AgentError) (a b : Agent) (k : ℕ) → UpOnly a b k → UpOnly a (done a (unless o b)) k
unless_up None a b k up = up
unless_up (Some e) a b k up = λ j u. inl u

link_up : (a : Agent) (k at : ℕ) (link : Link) (peer : Option ℕ) → IsHeard a.links (place_of k a.links) at link → (b : Agent) → b.links ≡ slice_set a.links at (up_link peer link) → UpOnly a b k
link_up a k at link peer q b links j u =
    let p = placed k a.links at q.link q.here q.there in
    let P : List Link → Type 0 = λ ls. was_up (find (is_numbered j) ls) ≡ true in
    elim (cases_Bool (j == k)) [
      | inl is ↦ inr (eqb-true j k is)
      | inr isnt ↦ inl (set_up j k (up_link peer link) a.links (q.number ∙ found_number k a.links q.link p.found) (subst P (links ∙ p.set (up_link peer link)) u) (λ is. both_ways (j == k) isnt (eq-eqb j k is)))
    ]

start_as_up : (d : EnrolDo) (a : Agent) (now k : ℕ) (m : LinkMessage) (replies : List LinkMessage) (h : _) (invoke address : ℕ) → hears a.links k m replies events.Start ≡ Some h → UpOnly a (done a (started_as d a now h invoke address)) k
start_as_up does.Nothing a now k m replies h invoke address is = λ j u. inl u
start_as_up (does.ConnectR denied) a now k m replies h invoke address is = λ j u. inl u
start_as_up does.Start a now k m replies h invoke address is = λ j u. inl u
start_as_up does.StartR a now k m replies h invoke address is = unless_up (either (spent 1 a.last_count) (spent 1 a.last_invoke)) a (started a now h invoke address) k (link_up a k h.at h.link (Some address) (is_heard a.links k m replies events.Start h is) (started a now h invoke address) refl)
start_as_up does.StopR a now k m replies h invoke address is = λ j u. inl u

start_up : (a : Agent) (now k : ℕ) (m : LinkMessage) (replies : List LinkMessage) (o : _) (invoke address : ℕ) → hears a.links k m replies events.Start ≡ o → UpOnly a (done a (started_by a now invoke address o)) k
start_up a now k m replies None invoke address is = λ j u. inl u
start_up a now k m replies (Some h) invoke address is = start_as_up h.does a now k m replies h invoke address is

entered_up : (s : MemberState) (a : Agent) (now k : ℕ) (m : LinkMessage) (replies : List LinkMessage) (h : _) (invoke : ℕ) → hears a.links k m replies events.Stop ≡ Some h → UpOnly a (entered (introduced_in s a now) now h invoke) k
entered_up Outside a now k m replies h invoke is = link_up a k h.at h.link (peer_by h.link.enrolment (introduced_in Outside a now).items) (is_heard a.links k m replies events.Stop h is) (entered (introduced_in Outside a now) now h invoke) refl
entered_up (Joining link) a now k m replies h invoke is = link_up a k h.at h.link (peer_by h.link.enrolment (introduced_in (Joining link) a now).items) (is_heard a.links k m replies events.Stop h is) (entered (introduced_in (Joining link) a now) now h invoke) refl
entered_up Enrolled a now k m replies h invoke is = link_up a k h.at h.link (peer_by h.link.enrolment a.items) (is_heard a.links k m replies events.Stop h is) (entered a now h invoke) refl
entered_up (Denied rule) a now k m replies h invoke is = link_up a k h.at h.link (peer_by h.link.enrolment (introduced_in (Denied rule) a now).items) (is_heard a.links k m replies events.Stop h is) (entered (introduced_in (Denied rule) a now) now h invoke) refl

stop_as_up : (d : EnrolDo) (a : Agent) (now k : ℕ) (m : LinkMessage) (replies : List LinkMessage) (h : _) (invoke : ℕ) → hears a.links k m replies events.Stop ≡ Some h → UpOnly a (done a (stopped_as d a now h invoke)) k
stop_as_up does.Nothing a now k m replies h invoke is = λ j u. inl u
stop_as_up (does.ConnectR denied) a now k m replies h invoke is = λ j u. inl u
stop_as_up does.Start a now k m replies h invoke is = λ j u. inl u
stop_as_up does.StartR a now k m replies h invoke is = λ j u. inl u
stop_as_up does.StopR a now k m replies h invoke is = unless_up (spent (need_in a.state) a.last_count) a (entered (introduced_in a.state a now) now h invoke) k (entered_up a.state a now k m replies h invoke is)

stop_up : (a : Agent) (now k : ℕ) (m : LinkMessage) (replies : List LinkMessage) (o : _) (invoke : ℕ) → hears a.links k m replies events.Stop ≡ o → UpOnly a (done a (stopped_by a now invoke o)) k
stop_up a now k m replies None invoke is = λ j u. inl u
stop_up a now k m replies (Some h) invoke is = stop_as_up h.does a now k m replies h invoke is

took_up : (newer : Bool) (a : Agent) (link k : ℕ) (x : Item) (items : List Item) → UpOnly a (cond newer (record a { items = items; agenda = a.agenda ++ floods (Some link) x a.links }) a) k
took_up true a link k x items = λ j u. inl u
took_up false a link k x items = λ j u. inl u

handled_up : (a : Agent) (now k : ℕ) (m : LinkMessage) → UpOnly a (done a (handled a now k m)) k
handled_up a now k (messages.Connect invoke joiner member) =
    let m = messages.Connect invoke joiner member in
    let reply = messages.ConnectR invoke (denial a joiner) in
    quiet_up a _ k (connect_by a k m reply (reply ∷ []) (events.Connect (denial a joiner)) (hears a.links k m (reply ∷ []) (events.Connect (denial a joiner))) refl refl)
handled_up a now k (messages.ConnectR invoke None) =
    let m = messages.ConnectR invoke None in
    let start = messages.Start (next_of a.last_invoke) a.address in
    quiet_up a _ k (allow_by a k m start (start ∷ []) (events.ConnectR None) (hears a.links k m (start ∷ []) (events.ConnectR None)) refl refl)
handled_up a now k (messages.ConnectR invoke (Some rule)) = quiet_up a _ k (deny_by a k k rule (messages.ConnectR invoke (Some rule)) [] (events.ConnectR (Some rule)) (hears a.links k (messages.ConnectR invoke (Some rule)) [] (events.ConnectR (Some rule))) refl)
handled_up a now k (messages.Start invoke address) =
    let m = messages.Start invoke address in
    let replies = messages.StartR invoke ∷ messages.Stop (next_of a.last_invoke) ∷ [] in
    start_up a now k m replies (hears a.links k m replies events.Start) invoke address refl
handled_up a now k (messages.StartR invoke) = quiet_up a _ k (note_by a k (messages.StartR invoke) [] events.StartR (hears a.links k (messages.StartR invoke) [] events.StartR) refl)
handled_up a now k (messages.Item x) = took_up (is_newer x.version (kept_at a.items x.key)) a k k x (taken a.items x)
handled_up a now k (messages.Stop invoke) = stop_up a now k (messages.Stop invoke) (messages.StopR invoke ∷ []) (hears a.links k (messages.Stop invoke) (messages.StopR invoke ∷ []) events.Stop) invoke refl
handled_up a now k (messages.StopR invoke) = quiet_up a _ k (note_by a k (messages.StopR invoke) [] events.StopR (hears a.links k (messages.StopR invoke) [] events.StopR) refl)
handled_up a now k (messages.Flood x) = took_up (is_newer x.version (kept_at a.items x.key)) a k k x (taken a.items x)

-- Other calls bring no link up

abbrev NoneUp : Agent → Agent → Type 0
NoneUp a b = (j : ℕ) → was_up (find (is_numbered j) b.links) ≡ true → was_up (find (is_numbered j) a.links) ≡ true

made_none_up : (o : Option AgentError) (a : Agent) (now : ℕ) (key : List ℕ) (value : Option (List ℕ)) → NoneUp a (done a (unless o (made None a now key value)))
made_none_up None a now key value j u = u
made_none_up (Some e) a now key value j u = u

lost_none_up : (up : Bool) (o : Option AgentError) (a : Agent) (now k : ℕ) → AreApart a.links → NoneUp a (done a (cond up (unless o (dropped (stated (Some k) a now) k)) (Ok (dropped a k))))
lost_none_up true None a now k apart j u = (let f = lost_fewer k a.links apart in f.up j u)
lost_none_up true (Some e) a now k apart j u = u
lost_none_up false o a now k apart j u = (let f = lost_fewer k a.links apart in f.up j u)

joined_none_up : (o : Option AgentError) (a : Agent) (number : ℕ) (member node : List ℕ) → NoneUp a (done a (unless o (joining a number member node)))
joined_none_up None a number member node j u = up_more j a.links (joining_link number (next_of a.last_invoke) node) refl u
joined_none_up (Some e) a number member node j u = u

false_from : (x y : Bool) → (y ≡ true → x ≡ true) → x ≡ false → y ≡ false
false_from x true h off = absurd (both_ways x off (h refl))
false_from x false h off = refl

-- one agent is another
one_up : (agents : ℕ → Agent) (i : ℕ) (b : Agent) → NoneUp (agents i) b → (s : EndState) (j : ℕ) → was_up (link_at s (put_agent i b agents j).links) ≡ true → was_up (link_at s (agents j).links) ≡ true
one_up agents i b none s j = at_place (λ a c. was_up (link_at s c.links) ≡ true → was_up (link_at s a.links) ≡ true) i b agents j (at_state (λ o c. was_up c ≡ true → was_up o ≡ true) (agents i).links b.links none (λ e. e) s) (λ a u. u)

-- All rows

pub record IsAhead (n : Network) : Type 0 where
  pub unsent : (l : ℕ) (d : Side) → n.states l d ≡ Unmade → n.sent l d ≡ []
  pub down : (l : ℕ) (d : Side) → n.states l d ≡ Unmade → is_up n l (other d) ≡ false

there_unmade : (s : EndState) (k : ℕ) → s ≡ There k → s ≡ Unmade → ⊥
there_unmade s k a b = (let clash : There k ≡ Unmade = sym a ∙ b in absurd (cc))

at_that : (n : Network) (link : ℕ) (side : Side) (s : EndState) (l : ℕ) (d : Side) → l ≡ link → d ≡ side → n.states l d ≡ s → n.states link side ≡ s
at_that n link side s l d a b e =
    let Q : ℕ → Type 0 = λ k. n.states k d ≡ s in
    let R : Side → Type 0 = λ t. n.states link t ≡ s in
    subst R b (subst Q a e)

none_sent : (ms : List ManagementMessage) → ((m : ManagementMessage) → Contains ms m → ⊥) → ms ≡ []
none_sent [] none = refl
none_sent (m ∷ ms) none = absurd (none m (in_first m ms))

not_first : (ms rest : List ManagementMessage) (m : ManagementMessage) → ms ≡ [] → ms ≡ m ∷ rest → ⊥
not_first ms rest m a b = (let clash : [] ≡ m ∷ rest = sym a ∙ b in absurd (cc))

-- a call of a member that brings no link up, while the messages that are sent are such
called_ahead : (n : Network) (i : ℕ) (b : Agent) (made : List Item) (offered : ℕ → List Item) (sent : ℕ → Side → List ManagementMessage) → NoneUp (n.agents i) b → ((l : ℕ) (d : Side) → n.states l d ≡ Unmade → sent l d ≡ []) → IsAhead n → IsAhead (record n { agents = put_agent i b n.agents; sent = sent; made = made; offered = offered })
called_ahead n i b made offered sent none unsent s = record {
  unsent = unsent;
  down = λ l d e. false_from (is_up n l (other d)) (was_up (link_at (n.states l (other d)) (put_agent i b n.agents (n.ends l (other d))).links)) (one_up n.agents i b none (n.states l (other d)) (n.ends l (other d))) (s.down l d e);
}

taken_unsent : (n : Network) (link : ℕ) (side : Side) (number : ℕ) (ms : List ManagementMessage) → n.states link side ≡ There number → IsAhead n → (l : ℕ) (d : Side) → n.states l d ≡ Unmade → put_sent link side ms n.sent l d ≡ []
taken_unsent n link side number ms there s l d e = direction_case (λ (xs : List ManagementMessage). xs ≡ []) link side l d ms (n.sent l d) (λ a b. absurd (there_unmade (n.states link side) number there (at_that n link side Unmade l d a b e))) (λ apart. s.unsent l d e)

popped_unsent : (n : Network) (link : ℕ) (side : Side) (m : ManagementMessage) (rest : List ManagementMessage) → n.sent link side ≡ m ∷ rest → IsAhead n → (l : ℕ) (d : Side) → n.states l d ≡ Unmade → put_sent link side rest n.sent l d ≡ []
popped_unsent n link side m rest first s l d e = direction_case (λ (xs : List ManagementMessage). xs ≡ []) link side l d rest (n.sent l d) (λ a b. absurd (not_first (n.sent link side) rest m (s.unsent link side (at_that n link side Unmade l d a b e)) first)) (λ apart. s.unsent l d e)

-- a message is handled at an end: if that comes up, the other end was made
handled_down : (n : Network) (link : ℕ) (side : Side) (number : ℕ) (m : LinkMessage) (rest : List ManagementMessage) → Holds n → n.states link (other side) ≡ There number → n.sent link side ≡ ToNeighbour m ∷ rest → IsAhead n → (l : ℕ) (d : Side) → n.states l d ≡ Unmade → (s : EndState) → n.states l (other d) ≡ s
    → was_up (link_at s (put_agent (n.ends link (other side)) (done (n.agents (n.ends link (other side))) (handled (n.agents (n.ends link (other side))) n.now number m)) n.agents (n.ends l (other d))).links) ≡ true → was_up (link_at s (n.agents (n.ends l (other d))).links) ≡ true
handled_down n link side number m rest h there first a l d e Unmade is u = absurd (both_ways true (sym u) refl)
handled_down n link side number m rest h there first a l d e Gone is u = absurd (both_ways true (sym u) refl)
handled_down n link side number m rest h there first a l d e (There j) is u =
    let i = n.ends link (other side) in
    put_case (λ (c : Agent). was_up (find (is_numbered j) c.links) ≡ true → was_up (find (is_numbered j) (n.agents (n.ends l (other d))).links) ≡ true) (n.ends l (other d)) i (done (n.agents i) (handled (n.agents i) n.now number m)) (n.agents (n.ends l (other d)))
    (λ same v. elim (handled_up (n.agents i) n.now number m j v) [
      | inl old ↦ ap (λ (t : ℕ). was_up (find (is_numbered j) (n.agents t).links)) same ∙ old
      | inr new ↦
          (let on = h.laid.laid l (other d) link (other side) number same (is ∙ ap There new) there in
          let to : d ≡ side = sym (other_back d) ∙ ap other on.1 ∙ other_back side in
          absurd (not_first (n.sent link side) rest (ToNeighbour m) (a.unsent link side (at_that n link side Unmade l d on.0 to e)) first))
    ])
    (λ apart v. v) u

-- an end that is not made was not before
pub gone_unmade : (n : Network) (link : ℕ) (side : Side) (l : ℕ) (d : Side) → put_state link side Gone n.states l d ≡ Unmade → n.states l d ≡ Unmade
gone_unmade n link side l d = direction_case (λ (s : EndState). s ≡ Unmade → n.states l d ≡ Unmade) link side l d Gone (n.states l d) (λ a b e. absurd (cc)) (λ apart e. e)

pub was_unmade : (n : Network) (link : ℕ) (side : Side) (k : ℕ) (l : ℕ) (d : Side) → put_state link side (There k) n.states l d ≡ Unmade → n.states l d ≡ Unmade
was_unmade n link side k l d = direction_case (λ (s : EndState). s ≡ Unmade → n.states l d ≡ Unmade) link side l d (There k) (n.states l d) (λ a b e. absurd (cc)) (λ apart e. e)

enrolled_ahead : (n : Network) (link : ℕ) (side : Side) (k i j : ℕ) (member node : List ℕ) → May n (Enrol link side k i j member node) → IsAhead n → IsAhead (happens n (Enrol link side k i j member node))
enrolled_ahead n link side k i j member node may s = record {
  unsent = λ l d e. s.unsent l d (was_unmade n link side k l d e);
  down = λ l d e.
      (let states = put_state link side (There k) n.states in
      let ends = put_ends link side i j n.ends in
      let old : Bool = was_up (link_at (states l (other d)) (n.agents (ends l (other d))).links) in
      let off : old ≡ false = elim (by_link n link side k i j may.0 may.1 l) [
        | inl on ↦ new_down n link side k i j may.0 may.1 l (other d) on
        | inr apart ↦ false_from (is_up n l (other d)) old (λ u. other_link n link side k i j may.0 may.1 (λ t x. was_up (link_at x (n.agents t).links) ≡ true) l (other d) apart u) (s.down l d (was_unmade n link side k l d e))
      ] in
      false_from old (is_up (happens n (Enrol link side k i j member node)) l (other d)) (one_up n.agents i (done (n.agents i) (unless (spent 1 (n.agents i).last_invoke) (joining (n.agents i) k member node))) (joined_none_up (spent 1 (n.agents i).last_invoke) (n.agents i) k member node) (states l (other d)) (ends l (other d))) off);
}

claimed_ahead : (n : Network) (link : ℕ) (side : Side) (k : ℕ) → May n (Claim link side k) → IsAhead n → IsAhead (happens n (Claim link side k))
claimed_ahead n link side k may s =
    let a = n.agents (n.ends link side) in
    let b : Agent = record a { links = a.links ++ joined_link k ∷ [] } in
    record {
      unsent = λ l d e. s.unsent l d (was_unmade n link side k l d e);
      down = λ l d e. false_from (is_up n l (other d)) (is_up (happens n (Claim link side k)) l (other d))
          (λ u. made_up n link side k may.1 l (other d) (one_up n.agents (n.ends link side) b (λ j. up_more j a.links (joined_link k) refl) (put_state link side (There k) n.states l (other d)) (n.ends l (other d)) u)) (s.down l d (was_unmade n link side k l d e));
    }

row_ahead : (n : Network) (row : Row) → Holds n → May n row → IsAhead n → IsAhead (happens n row)
row_ahead n (Make i key value) h may s = called_ahead n i (done (n.agents i) (unless (spent 1 (n.agents i).last_count) (made None (n.agents i) n.now key value))) _ _ n.sent (made_none_up (spent 1 (n.agents i).last_count) (n.agents i) n.now key value) s.unsent s
row_ahead n (Put i number m) h may s = called_ahead n i (with_message (n.agents i) number m) n.made n.offered n.sent (λ j u. u) s.unsent s
row_ahead n (Draw i) h may s = called_ahead n i (with_invoke (n.agents i)) n.made n.offered n.sent (λ j u. u) s.unsent s
row_ahead n (Take link side number m) h may s = called_ahead n (n.ends link side) (record (n.agents (n.ends link side)) { agenda = without_first number (n.agents (n.ends link side)).agenda }) _ _ (put_sent link side (n.sent link side ++ m ∷ []) n.sent) (λ j u. u) (taken_unsent n link side number (n.sent link side ++ m ∷ []) may.0 s) s
row_ahead n (Handle link side number (ToNeighbour m) rest) h may s = record {
  unsent = popped_unsent n link side (ToNeighbour m) rest may.1 s;
  down = λ l d e. false_from (is_up n l (other d)) (is_up (happens n (Handle link side number (ToNeighbour m) rest)) l (other d)) (handled_down n link side number m rest h may.0 may.1 s l d e (n.states l (other d)) refl) (s.down l d e);
}
row_ahead n (Handle link side number (ToMember m) rest) h may s = record { unsent = popped_unsent n link side (ToMember m) rest may.1 s; down = s.down }
row_ahead n (Lose link side number) h may s =
    let a = n.agents (n.ends link side) in
    let up = was_up (find (is_numbered number) a.links) in
    let b = done a (cond up (unless (spent 1 a.last_count) (dropped (stated (Some number) a n.now) number)) (Ok (dropped a number))) in
    called_ahead n (n.ends link side) b _ _ n.sent (lost_none_up up (spent 1 a.last_count) a n.now number (h.laid.apart (n.ends link side))) s.unsent s
row_ahead n (Leave link side number) h may s = record {
  unsent = λ l d e. s.unsent l d (gone_unmade n link side l d e);
  down = λ l d e. false_from (is_up n l (other d)) (is_up (with_state n link side Gone) l (other d)) (lost_up n link side l (other d)) (s.down l d (gone_unmade n link side l d e));
}
row_ahead n (Drop link side left) h may s = record {
  unsent = λ l d e. direction_case (λ (xs : List ManagementMessage). xs ≡ []) link side l d left (n.sent l d)
      (λ a b. none_sent left (λ m has.
      let W : List ManagementMessage → Type 0 = λ ms. Contains ms m in
      nothing_in m (subst W (s.unsent link side (at_that n link side Unmade l d a b e)) (may.1 m has))))
      (λ apart. s.unsent l d e);
  down = s.down;
}
row_ahead n (Enrol link side k i j member node) h may s = enrolled_ahead n link side k i j member node may s
row_ahead n (Claim link side k) h may s = claimed_ahead n link side k may s
row_ahead n (Know x) h may s = record { unsent = s.unsent; down = λ l d e. same_up n x l (other d) ∙ s.down l d e }
row_ahead n Pass h may s = record { unsent = s.unsent; down = s.down }

pub rows_ahead : (n : Network) (rows : List Row) → Holds n → IsRun n rows → IsAhead n → IsAhead (after_rows n rows)
rows_ahead n [] h run s = s
rows_ahead n (row ∷ rows) h run s = rows_ahead (happens n row) rows (row_holds n row h run.0) run.1 (row_ahead n row h run.0 s)
