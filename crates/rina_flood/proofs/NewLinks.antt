-- A new link, which is not up.
use Rattle.std.proofs.Common.{◌≡◌, ℕ, ◌⊎◌, true, false, ◌==◌, List, [], ◌∷◌, ◌++◌, Contains, Option, None, ◌<◌, ◌^◌, refl, sym, ◌∙◌, ap, subst, inl, inr, arith}
use Rattle.std.specs.Prelude.{find, is_some}
use Rattle.std.proofs.lemmas.Bool.{cases_Bool, and_parts, and_from, both_ways, eqb-true, eq-eqb}
use Rattle.std.proofs.lemmas.List.{append-nil}
use Rattle.std.proofs.lemmas.List.Elements.{Contains-append_left, Contains-append_right, Contains-append_cases}
use Rattle.std.proofs.lemmas.Option.{none-some}
use Rattle.rina_enrol.specs.declared.message.LinkMessage.TheVariants as messages
use Rattle.rina_newest.specs.declared.item.Item.{Item}
use Rattle.rina_agent.specs.declared.agent.Agent.{Agent}
use Rattle.rina_agent.specs.declared.link.Link.{Link}
use Rattle.rina_agent.specs.declared.message.ManagementMessage.{ManagementMessage}
use Rattle.rina_agent.specs.declared.state.AgentError.{AgentError}
use Rattle.rina_agent.specs.Agenda.{near}
use Rattle.rina_agent.specs.Counts.{next_of, spent, unless}
use Rattle.rina_agent.specs.Enrolled.{done}
use Rattle.rina_agent.specs.Enrolments.{is_numbered}
use Rattle.rina_agent.specs.Rows.{was_up, joining, joining_link, joined_link}
use Rattle.rina_flood.specs.Network.{Side, other, EndState, Unmade, There, Gone, Network, link_at, waiting_at, put_agent, put_offers, put_state, laid, with_state, stands, is_up, has_link, unhandled, carried, on_way, AreApart, IsFree, IsNewNumber, Enrol, Claim, happens}
use Rattle.rina_flood.proofs.Calls.{same_links, at_place, at_state, knows_same, offers_from}
use Rattle.rina_flood.proofs.Enrolling.{put_quiet}
use Rattle.rina_flood.proofs.Flow.{moved_flooded}
use Rattle.rina_flood.proofs.Holds.{Holds}
use Rattle.rina_flood.proofs.Places.{nothing_in, put_case, other_back, flat_from, flat_in}
use Rattle.rina_flood.proofs.States.{ends_here, put_here, put_other, sides_apart, lay_holds, new_down, open_holds}

pub up_more : (j : ℕ) (links : List Link) (new : Link) → new.up ≡ false → was_up (find (is_numbered j) (links ++ new ∷ [])) ≡ true → was_up (find (is_numbered j) links) ≡ true
up_more j [] new down e = elim (cases_Bool (new.number == j)) [
  | inl is ↦ absurd (both_ways new.up down (rw is at e))
  | inr isnt ↦ rw isnt at e
]
up_more j (x ∷ links) new down e = elim (cases_Bool (x.number == j)) [
  | inl is ↦ rw is (rw is at e)
  | inr isnt ↦ rw isnt (up_more j links new down (rw isnt at e))
]

has_more : (j : ℕ) (links : List Link) (new : Link) → is_some (find (is_numbered j) (links ++ new ∷ [])) ≡ true → (is_some (find (is_numbered j) links) ≡ true) ⊎ (new.number ≡ j)
has_more j [] new e = elim (cases_Bool (new.number == j)) [
  | inl is ↦ inr (eqb-true new.number j is)
  | inr isnt ↦ inl (rw isnt at e)
]
has_more j (x ∷ links) new e = elim (cases_Bool (x.number == j)) [
  | inl is ↦ inl (rw is refl)
  | inr isnt ↦ elim (has_more j links new (rw isnt at e)) [ inl old ↦ inl (rw isnt old) | inr is ↦ inr is ]
]

pub none_more : (j : ℕ) (links : List Link) (new : Link) → find (is_numbered j) links ≡ None → (new.number == j) ≡ false → find (is_numbered j) (links ++ new ∷ []) ≡ None
none_more j [] new e apart = rw apart refl
none_more j (x ∷ links) new e apart = elim (cases_Bool (x.number == j)) [
  | inl is ↦ absurd (none-some x (sym (rw is at e)))
  | inr isnt ↦ rw isnt (none_more j links new (rw isnt at e) apart)
]

flip : (a b : ℕ) → (a == b) ≡ false → (b == a) ≡ false
flip a b e = elim (cases_Bool (b == a)) [
  | inl is ↦ absurd (both_ways (a == b) e (eq-eqb a b (sym (eqb-true b a is))))
  | inr isnt ↦ isnt
]

apart_more : (links : List Link) (new : Link) → AreApart links → find (is_numbered new.number) links ≡ None → AreApart (links ++ new ∷ [])
apart_more [] new apart e = (refl, tt)
apart_more (x ∷ links) new apart e = elim (cases_Bool (x.number == new.number)) [
  | inl is ↦ absurd (none-some x (sym (rw is at e)))
  | inr isnt ↦ (none_more x.number links new apart.0 (flip x.number new.number isnt), apart_more links new apart.1 (rw isnt at e))
]

-- so at each end
up_more_at : (s : EndState) (links : List Link) (new : Link) → new.up ≡ false → was_up (link_at s (links ++ new ∷ [])) ≡ true → was_up (link_at s links) ≡ true
up_more_at s links new down = at_state (λ a c. was_up c ≡ true → was_up a ≡ true) links (links ++ new ∷ []) (λ k. up_more k links new down) (λ e. e) s

has_more_at : (s : EndState) (links : List Link) (new : Link) → is_some (link_at s (links ++ new ∷ [])) ≡ true → (is_some (link_at s links) ≡ true) ⊎ (s ≡ There new.number)
has_more_at Unmade links new e = inl e
has_more_at (There k) links new e = elim (has_more k links new e) [ inl old ↦ inl old | inr is ↦ inr (ap There (sym is)) ]
has_more_at Gone links new e = inl e

module _ (n : Network) (link : ℕ) (side : Side) (at : ℕ) (is_at : n.ends link side ≡ at) (b : Agent) (new : Link) (h : Holds n) (there : n.states link side ≡ There new.number) (fresh : find (is_numbered new.number) (n.agents at).links ≡ None) (off : is_up n link (other side) ≡ false) (down : new.up ≡ false) where
  pub record IsLinked : Type 0 where
    pub items : b.items ≡ (n.agents at).items
    pub address : b.address ≡ (n.agents at).address
    pub count : b.last_count ≡ (n.agents at).last_count
    pub links : b.links ≡ (n.agents at).links ++ new ∷ []
    pub follows : (k : EndState) (m : ManagementMessage) → Contains (waiting_at k b.agenda) m → Contains (waiting_at k (n.agents at).agenda) m ⊎ (carried m ≡ [])
    pub remains : (k : EndState) (m : ManagementMessage) → Contains (waiting_at k (n.agents at).agenda) m → Contains (waiting_at k b.agenda) m

  abbrev linked : Network
  linked = record n { agents = put_agent at b n.agents; sent = n.sent }

  linked_stands : IsLinked → (l : ℕ) (d : Side) → stands linked l d ≡ true → stands n l d ≡ true
  linked_stands s l d e =
      let both = and_parts _ _ e in
      let up : is_up n l d ≡ true = at_place (λ a c. was_up (link_at (n.states l d) c.links) ≡ true → was_up (link_at (n.states l d) a.links) ≡ true) at b n.agents (n.ends l d)
      (λ u. up_more_at (n.states l d) (n.agents at).links new down (ap (λ (ls : List Link). was_up (link_at (n.states l d) ls)) (sym s.links) ∙ u)) (λ a u. u) both.0 in
      let has : has_link n l (other d) ≡ true = put_case (λ (c : Agent). is_some (link_at (n.states l (other d)) c.links) ≡ true → has_link n l (other d) ≡ true) (n.ends l (other d)) at b (n.agents (n.ends l (other d)))
      (λ is u. elim (has_more_at (n.states l (other d)) (n.agents at).links new (ap (λ (ls : List Link). is_some (link_at (n.states l (other d)) ls)) (sym s.links) ∙ u)) [
        | inl old ↦ ap (λ (j : ℕ). is_some (link_at (n.states l (other d)) (n.agents j).links)) is ∙ old
        | inr mine ↦
            (let same = h.laid.laid l (other d) link side new.number (is ∙ sym is_at) mine there in
            let P : ℕ → Type 0 = λ j. is_up n j (other side) ≡ false in
            let Q : Side → Type 0 = λ t. is_up n l (other t) ≡ false in
            let R : Side → Type 0 = λ t. is_up n l t ≡ false in
            let its : is_up n l d ≡ false = subst R (other_back d) (subst Q (sym same.1) (subst P (sym same.0) off)) in
            absurd (both_ways (is_up n l d) its up))
      ])
      (λ apart u. u) both.1 in
      and_from (is_up n l d) (has_link n l (other d)) up has

  linked_from : IsLinked → (l : ℕ) (d : Side) (y : Item) → Contains (on_way linked l d) y → Contains (on_way n l d) y
  linked_from s l d y e =
      let q = flat_from carried (unhandled linked l d) y e in
      let m = q.0 in
      elim (Contains-append_cases (n.sent l d) (waiting_at (n.states l d) (put_agent at b n.agents (n.ends l d)).agenda) m q.1) [
        | inl flies ↦ flat_in carried (unhandled n l d) m y (Contains-append_left (n.sent l d) (waiting_at (n.states l d) (n.agents (n.ends l d)).agenda) m flies) q.2
        | inr waits ↦ elim (at_place (λ a c. Contains (waiting_at (n.states l d) c.agenda) m → Contains (waiting_at (n.states l d) a.agenda) m ⊎ (carried m ≡ [])) at b n.agents (n.ends l d) (s.follows (n.states l d) m) (λ a w. inl w) waits) [
          | inl old ↦ flat_in carried (unhandled n l d) m y (Contains-append_right (n.sent l d) (waiting_at (n.states l d) (n.agents (n.ends l d)).agenda) m old) q.2
          | inr empty ↦ (let P : List Item → Type 0 = λ items. Contains items y in absurd (nothing_in y (subst P empty q.2)))
        ]
      ]

  linked_back : IsLinked → (l : ℕ) (d : Side) (y : Item) → Contains (on_way n l d) y → Contains (on_way linked l d) y
  linked_back s l d y e =
      let q = flat_from carried (unhandled n l d) y e in
      let m = q.0 in
      elim (Contains-append_cases (n.sent l d) (waiting_at (n.states l d) (n.agents (n.ends l d)).agenda) m q.1) [
        | inl flies ↦ flat_in carried (unhandled linked l d) m y (Contains-append_left (n.sent l d) (waiting_at (n.states l d) (put_agent at b n.agents (n.ends l d)).agenda) m flies) q.2
        | inr waits ↦ flat_in carried (unhandled linked l d) m y (Contains-append_right (n.sent l d) (waiting_at (n.states l d) (put_agent at b n.agents (n.ends l d)).agenda) m
            (at_place (λ a c. Contains (waiting_at (n.states l d) a.agenda) m → Contains (waiting_at (n.states l d) c.agenda) m) at b n.agents (n.ends l d) (s.remains (n.states l d) m) (λ a w. w) waits)) q.2
      ]

  linked_flat : IsLinked → Holds (record n { agents = put_agent at b n.agents; offered = put_offers at [] n.offered })
  linked_flat s =
      let same : (j : ℕ) → (put_agent at b n.agents j).items ≡ (n.agents j).items = λ j. at_place (λ a c. c.items ≡ a.items) at b n.agents j s.items (λ a. refl) in
      let g = moved_flooded n (put_agent at b n.agents) n.sent (record { items = same; opens = linked_stands s; follows = linked_from s; remains = λ l d y up e. linked_back s l d y e }) h.flooded in
      let P : List Link → Type 0 = λ ls. AreApart ls in
      record {
        laid = record {
          addresses = λ j. at_place (λ a c. c.address ≡ a.address) at b n.agents j s.address (λ a. refl) ∙ h.laid.addresses j;
          laid = h.laid.laid;
          fit = h.laid.fit;
          apart = λ j. put_case (λ (c : Agent). AreApart c.links) j at b (n.agents j)
              (λ is. subst P (sym s.links) (apart_more (n.agents at).links new (h.laid.apart at) fresh))
              (λ apart. h.laid.apart j);
        };
        flooded = record { kept = g.kept; owes = g.owes };
        noted = record {
          knows = knows_same n at b h.noted.knows s.items;
          offered = λ j y e. elim (offers_from at [] n.offered j y e) [ inl old ↦ h.noted.offered j y old | inr none ↦ absurd (nothing_in y none) ];
          sent = λ l d y e. h.noted.sent l d y (linked_from s l d y e);
          one = h.noted.one;
          past = h.noted.past;
          counted = λ y e.
              (let le = h.noted.counted y e in
              let count : (put_agent at b n.agents y.version.origin).last_count ≡ (n.agents y.version.origin).last_count = at_place (λ a c. c.last_count ≡ a.last_count) at b n.agents y.version.origin s.count (λ a. refl) in
              omega (arith, le, count));
        };
      }

  pub linked_holds : IsLinked → Holds (record n { agents = put_agent at b n.agents; made = n.made ++ []; offered = put_offers at [] n.offered })
  linked_holds s =
      let P : List Item → Type 0 = λ made. Holds (record n { agents = put_agent at b n.agents; made = made; offered = put_offers at [] n.offered }) in
      subst P (sym (append-nil n.made)) (linked_flat s)

pub enrol_holds : (n : Network) (link : ℕ) (side : Side) (number i j : ℕ) (member node : List ℕ) → Holds n → IsFree n link → IsNewNumber n i number → i < 2 ^ 32 → j < 2 ^ 32 → spent 1 (n.agents i).last_invoke ≡ None → Holds (happens n (Enrol link side number i j member node))
enrol_holds n link side number i j member node h free new near_fits far_fits may =
    let a = n.agents i in
    let b = joining a number member node in
    let on = laid n link side number i j in
    let q = put_quiet a (record a { agenda = b.agenda }) (near number (messages.Connect (next_of a.last_invoke) a.name member)) (record { items = refl; address = refl; count = refl; fewer = same_links a.links }) refl refl refl in
    let g = linked_holds on link side i (ends_here link side i j n.ends link side refl refl) b (joining_link number (next_of a.last_invoke) node) (lay_holds n link side number i j free new near_fits far_fits h) (put_here link side (There number) n.states link side refl refl) new.links (new_down n link side number i j free new link (other side) refl) refl
    (record { items = refl; address = refl; count = refl; links = refl; follows = q.follows; remains = q.remains }) in
    let P : Option AgentError → Type 0 = λ o. Holds (record on { agents = put_agent i (done a (unless o b)) n.agents; made = n.made ++ []; offered = put_offers i [] n.offered }) in
    subst P (sym may) g

pub claim_holds : (n : Network) (link : ℕ) (side : Side) (number : ℕ) → Holds n → IsNewNumber n (n.ends link side) number → is_up n link (other side) ≡ false → Holds (happens n (Claim link side number))
claim_holds n link side number h new off =
    let a = n.agents (n.ends link side) in
    let on = with_state n link side (There number) in
    let far : put_state link side (There number) n.states link (other side) ≡ n.states link (other side) = put_other link side (There number) n.states link (other side) (λ s. sides_apart side s.1) in
    linked_holds on link side (n.ends link side) refl (record a { links = a.links ++ joined_link number ∷ [] }) (joined_link number) (open_holds n link side number new h) (put_here link side (There number) n.states link side refl refl) new.links
    (ap (λ (s : EndState). was_up (link_at s (n.agents (n.ends link (other side))).links)) far ∙ off) refl
    (record { items = refl; address = refl; count = refl; links = refl; follows = λ j m e. inl e; remains = λ j m e. e })
