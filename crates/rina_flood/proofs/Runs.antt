-- The other rows: messages move, or are lost with their links.
use Rattle.std.proofs.Common.{◌≡◌, ℕ, ◌⊎◌, Bool, true, false, ◌&&◌, ◌||◌, not, cond, List, ◌∷◌, ◌++◌, Contains, Option, Some, None, Ok, refl, sym, ◌∙◌, ap, subst, inl, inr, arith, append_assoc, []}
use Rattle.std.specs.Prelude.{is_some}
use Rattle.std.proofs.lemmas.Bool.{and_parts, and_from, both_ways}
use Rattle.std.proofs.lemmas.List.{append-nil}
use Rattle.std.proofs.lemmas.Option.{none-some}
use Rattle.std.proofs.lemmas.List.Elements.{Contains-append_left, Contains-append_right, Contains-append_cases}
use Rattle.rina_alloc.specs.declared.message.FlowMessage.{FlowMessage}
use Rattle.rina_newest.specs.declared.item.Item.{Item}
use Rattle.rina_newest.specs.Newest.{taken_all}
use Rattle.rina_agent.specs.declared.agent.Agent.{Agent}
use Rattle.rina_agent.specs.declared.link.Link.{Link}
use Rattle.rina_agent.specs.declared.message.ManagementMessage.{ManagementMessage}
use Rattle.rina_agent.specs.declared.message.ManagementMessage.TheVariants.{ToMember}
use Rattle.rina_agent.specs.declared.message.Waiting.{Waiting}
use Rattle.rina_agent.specs.declared.state.AgentError.{AgentError}
use Rattle.rina_agent.specs.Agenda.{waiting_on, first_on, without_first}
use Rattle.rina_agent.specs.Counts.{spent, unless}
use Rattle.rina_agent.specs.Enrolled.{done}
use Rattle.rina_agent.specs.Items.{made, stated, own_item}
use Rattle.rina_agent.specs.Neighbours.{link_key, link_state}
use Rattle.rina_agent.specs.Rows.{was_up, dropped}
use Rattle.rina_flood.specs.Network.{Side, Near, Far, other, EndState, Unmade, There, Gone, has_lost, is_lost, Network, link_at, waiting_at, put_agent, put_offers, put_sent, stands, is_up, has_link, unhandled, carried, on_way, Take, Pass, happens, with_invoke, with_message}
use Rattle.rina_flood.proofs.Agendas.{lost_fewer, dropped_from_at, dropped_stays_at}
use Rattle.rina_flood.proofs.Calls.{AreFewer, fewer_has, fewer_up, same_links, at_itself, at_place, knows_same, offers_from}
use Rattle.rina_flood.proofs.Flow.{IsMoved, moved_flooded}
use Rattle.rina_flood.proofs.Holds.{is_plain, IsPlain, Holds}
use Rattle.rina_flood.proofs.Messages.{first_waits, others_at, front_at, from_at, old_at}
use Rattle.rina_flood.proofs.Places.{nothing_in, put_case, direction_case, flat_from, flat_in}
use Rattle.rina_flood.proofs.Rows.{own_holds}
use Rattle.rina_flood.proofs.Steps.{lost_sound, lost_own, popped_before, popped_gone}

-- An agent keeps the same items, and no more links
pub record IsSame (a c : Agent) : Type 0 where
  pub items : c.items ≡ a.items
  pub address : c.address ≡ a.address
  pub count : c.last_count ≡ a.last_count
  pub fewer : AreFewer a.links c.links

pub the_same : (a : Agent) → IsSame a a
the_same a = record { items = refl; address = refl; count = refl; fewer = same_links a.links }

module _ (n : Network) (agents : ℕ → Agent) (sent : ℕ → Side → List ManagementMessage) where
  abbrev pub moved : Network
  moved = record n { agents = agents; sent = sent }

  pub record IsMoving : Type 0 where
    pub same : (j : ℕ) → IsSame (n.agents j) (agents j)
    -- whether new messages are plain
    pub plain : Bool
    -- a new message carries no item
    pub follows : (l : ℕ) (d : Side) (m : ManagementMessage) → Contains (unhandled moved l d) m → Contains (unhandled n l d) m ⊎ ((carried m ≡ []) × (plain ≡ true → is_plain m ≡ true))
    pub remains : (l : ℕ) (d : Side) (m : ManagementMessage) → stands moved l d ≡ true → Contains (unhandled n l d) m → Contains (unhandled moved l d) m ⊎ (carried m ≡ [])

  moving_stands : IsMoving → (l : ℕ) (d : Side) → stands moved l d ≡ true → stands n l d ≡ true
  moving_stands s l d e =
      let both = and_parts _ _ e in
      let near = s.same (n.ends l d) in
      let far = s.same (n.ends l (other d)) in
      let up = fewer_up (n.agents (n.ends l d)).links (agents (n.ends l d)).links near.fewer (n.states l d) both.0 in
      let has = fewer_has (n.agents (n.ends l (other d))).links (agents (n.ends l (other d))).links far.fewer (n.states l (other d)) both.1 in
      and_from (is_up n l d) (has_link n l (other d)) up has

  moving_way : IsMoving → (l : ℕ) (d : Side) (y : Item) → Contains (on_way moved l d) y → Contains (on_way n l d) y
  moving_way s l d y e =
      let r = flat_from carried (unhandled moved l d) y e in
      let P : List Item → Type 0 = λ items. Contains items y in
      elim (s.follows l d r.0 r.1) [
        | inl old ↦ flat_in carried (unhandled n l d) r.0 y old r.2
        | inr empty ↦ absurd (nothing_in y (subst P empty.0 r.2))
      ]

  moving_back : IsMoving → (l : ℕ) (d : Side) (y : Item) → stands moved l d ≡ true → Contains (on_way n l d) y → Contains (on_way moved l d) y
  moving_back s l d y up e =
      let r = flat_from carried (unhandled n l d) y e in
      let P : List Item → Type 0 = λ items. Contains items y in
      elim (s.remains l d r.0 up r.1) [
        | inl stays ↦ flat_in carried (unhandled moved l d) r.0 y stays r.2
        | inr empty ↦ absurd (nothing_in y (subst P empty r.2))
      ]

  moving_moved : IsMoving → IsMoved n agents sent
  moving_moved s = record { items = λ j. (let c = s.same j in c.items); opens = moving_stands s; follows = moving_way s; remains = moving_back s }

  pub moving_plain : (s : IsMoving) → s.plain ≡ true → (l : ℕ) (d : Side) → IsPlain n l d → IsPlain moved l d
  moving_plain s plain l d h m e = elim (s.follows l d m e) [ inl old ↦ h m old | inr new ↦ new.1 plain ]

  pub moving_holds : IsMoving → Holds n → Holds moved
  moving_holds s h = (let g = moved_flooded n agents sent (moving_moved s) h.flooded in record {
    laid = record {
      addresses = λ i. (let c = s.same i in c.address ∙ h.laid.addresses i);
      laid = h.laid.laid;
      fit = h.laid.fit;
      apart = λ i. (let c = s.same i in c.fewer.apart (h.laid.apart i));
    };
    flooded = record { kept = g.kept; owes = g.owes };
    noted = record {
      knows = λ i. (let c = s.same i in c.items ∙ h.noted.knows i);
      offered = h.noted.offered;
      sent = λ l d y e. h.noted.sent l d y (moving_way s l d y e);
      one = h.noted.one;
      past = h.noted.past;
      counted = λ y e. (let le = h.noted.counted y e in let c = s.same y.version.origin in let same = c.count in omega (arith, le, same));
    };
  })

-- a call that makes nothing
module _ (n : Network) (i : ℕ) (b : Agent) (sent : ℕ → Side → List ManagementMessage) where
  abbrev quiet : List Item → Network
  quiet made = record n { agents = put_agent i b n.agents; sent = sent; made = made; offered = put_offers i [] n.offered }

  quiet_flat : IsSame (n.agents i) b → Holds n → Holds (record n { agents = put_agent i b n.agents; sent = sent }) → Holds (quiet n.made)
  quiet_flat same was h = record {
    laid = record { addresses = h.laid.addresses; laid = h.laid.laid; fit = h.laid.fit; apart = h.laid.apart };
    flooded = record { kept = h.flooded.kept; owes = h.flooded.owes };
    noted = record {
      knows = knows_same n i b was.noted.knows same.items;
      offered = λ j y e. elim (offers_from i [] n.offered j y e) [ inl old ↦ h.noted.offered j y old | inr none ↦ absurd (nothing_in y none) ];
      sent = h.noted.sent;
      one = h.noted.one;
      past = h.noted.past;
      counted = h.noted.counted;
    };
  }

  pub quiet_holds : IsSame (n.agents i) b → Holds n → Holds (record n { agents = put_agent i b n.agents; sent = sent }) → Holds (quiet (n.made ++ []))
  quiet_holds same was h = (let P : List Item → Type 0 = λ made. Holds (quiet made) in subst P (sym (append-nil n.made)) (quiet_flat same was h))

pub put_same : (i : ℕ) (b : Agent) (agents : ℕ → Agent) → IsSame (agents i) b → (j : ℕ) → IsSame (agents j) (put_agent i b agents j)
put_same i b agents same j = at_place (λ a c. IsSame a c) i b agents j same (λ a. the_same a)

-- A link is lost

drop_same : (n : Network) (i k : ℕ) → Holds n → IsSame (n.agents i) (dropped (n.agents i) k)
drop_same n i k h = record { items = refl; address = refl; count = refl; fewer = lost_fewer k (n.agents i).links (h.laid.apart i) }

pub drop_moving : (n : Network) (i k : ℕ) → Holds n → IsMoving n (put_agent i (dropped (n.agents i) k) n.agents) n.sent
drop_moving n i k h =
    let a = n.agents i in
    let b = dropped a k in
    record {
      same = put_same i b n.agents (drop_same n i k h);
      plain = true;
      follows = λ l d m e. elim (Contains-append_cases (n.sent l d) (waiting_at (n.states l d) (put_agent i b n.agents (n.ends l d)).agenda) m e) [
        | inl flies ↦ inl (Contains-append_left (n.sent l d) (waiting_at (n.states l d) (n.agents (n.ends l d)).agenda) m flies)
        | inr waits ↦ inl (Contains-append_right (n.sent l d) (waiting_at (n.states l d) (n.agents (n.ends l d)).agenda) m
            (at_place (λ c e. Contains (waiting_at (n.states l d) e.agenda) m → Contains (waiting_at (n.states l d) c.agenda) m) i b n.agents (n.ends l d) (λ w. dropped_from_at k (n.states l d) a.agenda m w) (λ c w. w) waits))
      ];
      remains = λ l d m up e.
          let both = and_parts _ _ up in
          elim (Contains-append_cases (n.sent l d) (waiting_at (n.states l d) (n.agents (n.ends l d)).agenda) m e) [
            | inl flies ↦ inl (Contains-append_left (n.sent l d) (waiting_at (n.states l d) (put_agent i b n.agents (n.ends l d)).agenda) m flies)
            | inr waits ↦ inl (Contains-append_right (n.sent l d) (waiting_at (n.states l d) (put_agent i b n.agents (n.ends l d)).agenda) m
                (at_place (λ c e. was_up (link_at (n.states l d) e.links) ≡ true → Contains (waiting_at (n.states l d) c.agenda) m → Contains (waiting_at (n.states l d) e.agenda) m) i b n.agents (n.ends l d)
                (λ u w. dropped_stays_at k (n.states l d) a.agenda a.links m (h.laid.apart i) u w) (λ c u w. w) both.0 waits))
          ];
    }

abbrev pub lost_to : Network → ℕ → ℕ → Bool → Option AgentError → Network
lost_to n i k up o = record n {
  agents = put_agent i (done (n.agents i) (cond up (unless o (dropped (stated (Some k) (n.agents i) n.now) k)) (Ok (dropped (n.agents i) k)))) n.agents;
  made = n.made ++ cond up (own_item (n.agents i) n.now (link_key (n.agents i).address) (Some (link_state (Some k) (n.agents i).links)) ∷ []) [];
  offered = put_offers i (cond up (own_item (n.agents i) n.now (link_key (n.agents i).address) (Some (link_state (Some k) (n.agents i).links)) ∷ []) []) n.offered;
}

pub lose_by : (n : Network) (i k : ℕ) (up : Bool) (o : Option AgentError) → Holds n → (up ≡ true → spent 1 (n.agents i).last_count ≡ None) → (up ≡ true → o ≡ None) → Holds (lost_to n i k up o)
lose_by n i k true None h may is =
    own_holds n i (dropped (stated (Some k) (n.agents i) n.now) k) n.sent (own_item (n.agents i) n.now (link_key (n.agents i).address) (Some (link_state (Some k) (n.agents i).links))) (λ j. ⊥) (lost_sound n i k h) (lost_own n i k h (may refl)) h
lose_by n i k true (Some e) h may is = absurd (none-some e (sym (is refl)))
lose_by n i k false o h may is =
    quiet_holds n i (dropped (n.agents i) k) n.sent (drop_same n i k h) h (moving_holds n (put_agent i (dropped (n.agents i) k) n.agents) n.sent (drop_moving n i k h) h)

-- A message is put on a link

pub none_waits : (k : EndState) (m : ManagementMessage) → Contains (waiting_at k []) m → ⊥
none_waits Unmade m e = nothing_in m e
none_waits (There k) m e = nothing_in m e
none_waits Gone m e = nothing_in m e

pub put_moving : (n : Network) (i number : ℕ) (m : FlowMessage) → IsMoving n (put_agent i (with_message (n.agents i) number m) n.agents) n.sent
put_moving n i number m =
    let a = n.agents i in
    let w : Waiting = record { link = number; message = ToMember m } in
    let b = with_message a number m in
    record {
      same = put_same i b n.agents (record { items = refl; address = refl; count = refl; fewer = same_links a.links });
      plain = true;
      follows = λ l d z e. elim (Contains-append_cases (n.sent l d) (waiting_at (n.states l d) (put_agent i b n.agents (n.ends l d)).agenda) z e) [
        | inl flies ↦ inl (Contains-append_left (n.sent l d) (waiting_at (n.states l d) (n.agents (n.ends l d)).agenda) z flies)
        | inr waits ↦ elim (at_place (λ c e. Contains (waiting_at (n.states l d) e.agenda) z → Contains (waiting_at (n.states l d) c.agenda) z ⊎ (ToMember m ≡ z)) i b n.agents (n.ends l d)
            (λ v. elim (from_at (n.states l d) a.agenda (w ∷ []) z v) [
              | inl old ↦ inl old
              | inr new ↦ elim (front_at (n.states l d) w [] z new) [ inl is ↦ inr is | inr none ↦ absurd (none_waits (n.states l d) z none) ]
            ])
            (λ c v. inl v) waits) [
              | inl old ↦ inl (Contains-append_right (n.sent l d) (waiting_at (n.states l d) (n.agents (n.ends l d)).agenda) z old)
              | inr is ↦ (let P : ManagementMessage → Type 0 = λ q. (carried q ≡ []) × (true ≡ true → is_plain q ≡ true) in inr (subst P is (refl, λ e. refl)))
            ]
      ];
      remains = λ l d z up e. elim (Contains-append_cases (n.sent l d) (waiting_at (n.states l d) (n.agents (n.ends l d)).agenda) z e) [
        | inl flies ↦ inl (Contains-append_left (n.sent l d) (waiting_at (n.states l d) (put_agent i b n.agents (n.ends l d)).agenda) z flies)
        | inr waits ↦ inl (Contains-append_right (n.sent l d) (waiting_at (n.states l d) (put_agent i b n.agents (n.ends l d)).agenda) z
            (at_place (λ c e. Contains (waiting_at (n.states l d) c.agenda) z → Contains (waiting_at (n.states l d) e.agenda) z) i b n.agents (n.ends l d) (λ v. old_at (n.states l d) a.agenda (w ∷ []) z v) (λ c v. v) waits))
      ];
    }

-- An invoke id is drawn: all that is seen of the member is as before

pub draw_moving : (n : Network) (i : ℕ) → IsMoving n (put_agent i (with_invoke (n.agents i)) n.agents) n.sent
draw_moving n i =
    let a = n.agents i in
    let b = with_invoke a in
    let waits : (l : ℕ) (d : Side) → waiting_at (n.states l d) (put_agent i b n.agents (n.ends l d)).agenda ≡ waiting_at (n.states l d) (n.agents (n.ends l d)).agenda = λ l d.
    at_place (λ c e. waiting_at (n.states l d) e.agenda ≡ waiting_at (n.states l d) c.agenda) i b n.agents (n.ends l d) refl (λ c. refl) in
    record {
      same = put_same i b n.agents (record { items = refl; address = refl; count = refl; fewer = same_links a.links });
      plain = true;
      follows = λ l d z e. inl (subst (λ (ms : List ManagementMessage). Contains (n.sent l d ++ ms) z) (waits l d) e);
      remains = λ l d z up e. inl (subst (λ (ms : List ManagementMessage). Contains (n.sent l d ++ ms) z) (sym (waits l d)) e);
    }

-- A message is taken from an agenda, and sent: the messages of each direction are the same

module _ (n : Network) (link : ℕ) (side : Side) (number : ℕ) (m : ManagementMessage) (h : Holds n) (there : n.states link side ≡ There number) (first : first_on number (n.agents (n.ends link side)).agenda ≡ Some (record { link = number; message = m })) where
  abbrev from : ℕ
  from = n.ends link side

  abbrev shorter : Agent
  shorter = record (n.agents from) { agenda = without_first number (n.agents from).agenda }

  abbrev longer : ℕ → Side → List ManagementMessage
  longer = put_sent link side (n.sent link side ++ m ∷ []) n.sent

  on_the_link : (n.sent link side ++ m ∷ []) ++ waiting_at (n.states link side) (put_agent from shorter n.agents from).agenda ≡ unhandled n link side
  on_the_link =
      let waits = first_waits number (n.agents from).agenda (record { link = number; message = m }) first in
      ap (λ (c : Agent). (n.sent link side ++ m ∷ []) ++ waiting_at (n.states link side) c.agenda) (at_itself from shorter n.agents)
      ∙ ap (λ (s : EndState). (n.sent link side ++ m ∷ []) ++ waiting_at s (without_first number (n.agents from).agenda)) there
      ∙ append_assoc (n.sent link side) (m ∷ []) (waiting_on number (without_first number (n.agents from).agenda))
      ∙ ap (λ (ms : List ManagementMessage). n.sent link side ++ ms) (sym waits)
      ∙ ap (λ (s : EndState). n.sent link side ++ waiting_at s (n.agents from).agenda) (sym there)

  on_others : (l : ℕ) (d : Side) → (((l ≡ link) × (d ≡ side)) → ⊥) → waiting_at (n.states l d) (put_agent from shorter n.agents (n.ends l d)).agenda ≡ waiting_at (n.states l d) (n.agents (n.ends l d)).agenda
  on_others l d apart =
      let P : Agent → Type 0 = λ c. waiting_at (n.states l d) c.agenda ≡ waiting_at (n.states l d) (n.agents (n.ends l d)).agenda in
      put_case P (n.ends l d) from shorter (n.agents (n.ends l d))
      (λ is. others_at (n.states l d) number (n.agents from).agenda (λ k. apart (h.laid.laid l d link side number is k there)) ∙ ap (λ (j : ℕ). waiting_at (n.states l d) (n.agents j).agenda) (sym is))
      (λ n. refl)

  same_unhandled : (l : ℕ) (d : Side) → longer l d ++ waiting_at (n.states l d) (put_agent from shorter n.agents (n.ends l d)).agenda ≡ unhandled n l d
  same_unhandled l d =
      let P : List ManagementMessage → Type 0 = λ s. s ++ waiting_at (n.states l d) (put_agent from shorter n.agents (n.ends l d)).agenda ≡ unhandled n l d in
      direction_case P link side l d (n.sent link side ++ m ∷ []) (n.sent l d)
      (λ a b.
      let Q : ℕ → Type 0 = λ k. (n.sent link side ++ m ∷ []) ++ waiting_at (n.states k d) (put_agent from shorter n.agents (n.ends k d)).agenda ≡ unhandled n k d in
      let R : Side → Type 0 = λ t. (n.sent link side ++ m ∷ []) ++ waiting_at (n.states link t) (put_agent from shorter n.agents (n.ends link t)).agenda ≡ unhandled n link t in
      subst Q (sym a) (subst R (sym b) on_the_link))
      (λ apart. ap (λ (ms : List ManagementMessage). n.sent l d ++ ms) (on_others l d apart))

  take_same : IsSame (n.agents from) shorter
  take_same = record { items = refl; address = refl; count = refl; fewer = same_links (n.agents from).links }

  pub take_moving : IsMoving n (put_agent from shorter n.agents) longer
  take_moving = record {
    same = put_same from shorter n.agents take_same;
    plain = true;
    follows = λ l d z e. (let P : List ManagementMessage → Type 0 = λ ms. Contains ms z in inl (subst P (same_unhandled l d) e));
    remains = λ l d z up e. (let P : List ManagementMessage → Type 0 = λ ms. Contains ms z in inl (subst P (sym (same_unhandled l d)) e));
  }

  pub take_holds : Holds (happens n (Take link side number m))
  take_holds = quiet_holds n from shorter longer take_same h (moving_holds n (put_agent from shorter n.agents) longer take_moving h)

-- Messages are lost with their link

pub up_is_some : (o : Option Link) → was_up o ≡ true → is_some o ≡ true
up_is_some None e = absurd (both_ways true (sym e) refl)
up_is_some (Some l) e = refl

both_there : (n : Network) (l : ℕ) (d : Side) → stands n l d ≡ true → (has_link n l Near && has_link n l Far) ≡ true
both_there n l Near e = (let both = and_parts _ _ e in and_from (has_link n l Near) (has_link n l Far) (up_is_some (link_at (n.states l Near) (n.agents (n.ends l Near)).links) both.0) both.1)
both_there n l Far e = (let both = and_parts _ _ e in and_from (has_link n l Near) (has_link n l Far) both.1 (up_is_some (link_at (n.states l Far) (n.agents (n.ends l Far)).links) both.0))

-- an end that has the link has not lost it
has_not_lost : (s : EndState) (links : List Link) → is_some (link_at s links) ≡ true → has_lost s links ≡ false
has_not_lost Unmade links e = refl
has_not_lost (There k) links e = ap not e
has_not_lost Gone links e = absurd (both_ways true (sym e) refl)

none_lost : (n : Network) (l : ℕ) (d : Side) → stands n l d ≡ true → (is_lost n l Near || is_lost n l Far) ≡ false
none_lost n l d up =
    let both = and_parts _ _ (both_there n l d up) in
    let near = has_not_lost (n.states l Near) (n.agents (n.ends l Near)).links both.0 in
    let far = has_not_lost (n.states l Far) (n.agents (n.ends l Far)).links both.1 in
    ap (λ (b : Bool). b || is_lost n l Far) near ∙ far

pub left_moving : (n : Network) (link : ℕ) (side : Side) (left : List ManagementMessage) → (is_lost n link Near || is_lost n link Far) ≡ true → ((m : ManagementMessage) → Contains left m → Contains (n.sent link side) m) → IsMoving n n.agents (put_sent link side left n.sent)
left_moving n link side left lost was = record {
  same = λ j. the_same (n.agents j);
  plain = true;
  follows = λ l d m e. elim (Contains-append_cases (put_sent link side left n.sent l d) (waiting_at (n.states l d) (n.agents (n.ends l d)).agenda) m e) [
    | inl flies ↦
        (let P : List ManagementMessage → Type 0 = λ s. Contains s m → Contains (n.sent l d) m in
        let old = direction_case P link side l d left (n.sent l d)
        (λ a b v. (let Q : ℕ → Type 0 = λ k. Contains (n.sent k d) m in let R : Side → Type 0 = λ t. Contains (n.sent link t) m in subst Q (sym a) (subst R (sym b) (was m v))))
        (λ apart v. v) flies in
        inl (Contains-append_left (n.sent l d) (waiting_at (n.states l d) (n.agents (n.ends l d)).agenda) m old))
    | inr waits ↦ inl (Contains-append_right (n.sent l d) (waiting_at (n.states l d) (n.agents (n.ends l d)).agenda) m waits)
  ];
  remains = λ l d m up e.
      (let P : List ManagementMessage → Type 0 = λ s. Contains (s ++ waiting_at (n.states l d) (n.agents (n.ends l d)).agenda) m in
      inl (direction_case P link side l d left (n.sent l d)
      (λ a b. (let Q : ℕ → Type 0 = λ k. (is_lost n k Near || is_lost n k Far) ≡ false in absurd (both_ways (is_lost n link Near || is_lost n link Far) (subst Q a (none_lost n l d up)) lost)))
      (λ apart. e)));
}

-- The first message of a direction is handled

pub passed_moving : (n : Network) (link : ℕ) (side : Side) (m : ManagementMessage) (rest : List ManagementMessage) → carried m ≡ [] → n.sent link side ≡ m ∷ rest → IsMoving n n.agents (put_sent link side rest n.sent)
passed_moving n link side m rest empty first = record {
  same = λ j. the_same (n.agents j);
  plain = true;
  follows = λ l d z e. elim (Contains-append_cases (put_sent link side rest n.sent l d) (waiting_at (n.states l d) (n.agents (n.ends l d)).agenda) z e) [
    | inl flies ↦ inl (Contains-append_left (n.sent l d) (waiting_at (n.states l d) (n.agents (n.ends l d)).agenda) z (popped_before n link side m rest first l d z flies))
    | inr waits ↦ inl (Contains-append_right (n.sent l d) (waiting_at (n.states l d) (n.agents (n.ends l d)).agenda) z waits)
  ];
  remains = λ l d z up e. elim (Contains-append_cases (n.sent l d) (waiting_at (n.states l d) (n.agents (n.ends l d)).agenda) z e) [
    | inl flies ↦ elim (popped_gone n link side m rest first l d z flies) [
      | inl stays ↦ inl (Contains-append_left (put_sent link side rest n.sent l d) (waiting_at (n.states l d) (n.agents (n.ends l d)).agenda) z stays)
      | inr gone ↦ (let P : ManagementMessage → Type 0 = λ q. carried q ≡ [] in inr (subst P gone.2 empty))
    ]
    | inr waits ↦ inl (Contains-append_right (put_sent link side rest n.sent l d) (waiting_at (n.states l d) (n.agents (n.ends l d)).agenda) z waits)
  ];
}

pub pass_holds : (n : Network) → Holds n → Holds (happens n Pass)
pass_holds n h = record {
  laid = record { addresses = h.laid.addresses; laid = h.laid.laid; fit = h.laid.fit; apart = h.laid.apart };
  flooded = record { kept = h.flooded.kept; owes = h.flooded.owes };
  noted = record { knows = h.noted.knows; offered = h.noted.offered; sent = h.noted.sent; one = h.noted.one; past = λ x e. (let le = h.noted.past x e in omega (arith, le)); counted = h.noted.counted };
}

-- What holds of a network holds of each that is the same, member by member
pub alike_holds : (n : Network) (agents : ℕ → Agent) (made : List Item) (offered : ℕ → List Item) → ((j : ℕ) → agents j ≡ n.agents j) → made ≡ n.made → ((j : ℕ) → offered j ≡ n.offered j) → Holds n → Holds (record n { agents = agents; made = made; offered = offered })
alike_holds n agents made offered same_agents same_made same_offered h =
    let same : (l : ℕ) (d : Side) → n.sent l d ++ waiting_at (n.states l d) (agents (n.ends l d)).agenda ≡ unhandled n l d = λ l d. ap (λ (c : Agent). n.sent l d ++ waiting_at (n.states l d) c.agenda) (same_agents (n.ends l d)) in
    let moving : IsMoving n agents n.sent = record {
      same = λ j. (let P : Agent → Type 0 = λ c. IsSame (n.agents j) c in subst P (sym (same_agents j)) (the_same (n.agents j)));
      plain = true;
      follows = λ l d m e. (let P : List ManagementMessage → Type 0 = λ ms. Contains ms m in inl (subst P (same l d) e));
      remains = λ l d m up e. (let P : List ManagementMessage → Type 0 = λ ms. Contains ms m in inl (subst P (sym (same l d)) e));
    } in
    let g = moving_holds n agents n.sent moving h in
    let was : (x : Item) → Contains made x → Contains n.made x = λ x e. (let P : List Item → Type 0 = λ items. Contains items x in subst P same_made e) in
    let now : (x : Item) → Contains n.made x → Contains made x = λ x e. (let P : List Item → Type 0 = λ items. Contains items x in subst P (sym same_made) e) in
    record {
      laid = record { addresses = g.laid.addresses; laid = g.laid.laid; fit = g.laid.fit; apart = g.laid.apart };
      flooded = record { kept = g.flooded.kept; owes = g.flooded.owes };
      noted = record {
        knows = λ i. g.noted.knows i ∙ ap (λ (items : List Item). taken_all [] items) (sym (same_offered i));
        offered = λ i x e. now x (g.noted.offered i x (let P : List Item → Type 0 = λ items. Contains items x in subst P (same_offered i) e));
        sent = λ l d x e. now x (g.noted.sent l d x e);
        one = λ x y a b k v. g.noted.one x y (was x a) (was y b) k v;
        past = λ x e. g.noted.past x (was x e);
        counted = λ x e. g.noted.counted x (was x e);
      };
    }

-- New messages of these rows are of no enrolment

pub drop_is_plain : (n : Network) (i k : ℕ) (h : Holds n) → (drop_moving n i k h).plain ≡ true
unfolding drop_moving
drop_is_plain n i k h = refl

pub put_is_plain : (n : Network) (i number : ℕ) (m : FlowMessage) → (put_moving n i number m).plain ≡ true
unfolding put_moving
put_is_plain n i number m = refl

pub draw_is_plain : (n : Network) (i : ℕ) → (draw_moving n i).plain ≡ true
unfolding draw_moving
draw_is_plain n i = refl

pub take_is_plain : (n : Network) (link : ℕ) (side : Side) (number : ℕ) (m : ManagementMessage) (h : Holds n) (there : n.states link side ≡ There number) (first : first_on number (n.agents (n.ends link side)).agenda ≡ Some (record { link = number; message = m })) → (take_moving n link side number m h there first).plain ≡ true
unfolding take_moving
take_is_plain n link side number m h there first = refl

pub left_is_plain : (n : Network) (link : ℕ) (side : Side) (left : List ManagementMessage) (lost : (is_lost n link Near || is_lost n link Far) ≡ true) (was : (m : ManagementMessage) → Contains left m → Contains (n.sent link side) m) → (left_moving n link side left lost was).plain ≡ true
unfolding left_moving
left_is_plain n link side left lost was = refl

pub passed_is_plain : (n : Network) (link : ℕ) (side : Side) (m : ManagementMessage) (rest : List ManagementMessage) (empty : carried m ≡ []) (first : n.sent link side ≡ m ∷ rest) → (passed_moving n link side m rest empty first).plain ≡ true
unfolding passed_moving
passed_is_plain n link side m rest empty first = refl
