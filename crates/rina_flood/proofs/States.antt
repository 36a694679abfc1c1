-- An end of a link is made or lost, or a link gets its two members: nothing that is owed changes.
use Rattle.std.proofs.Common.{◌≡◌, ℕ, ◌<◌, ◌^◌, ◌⊎◌, true, false, ◌==◌, List, [], ◌++◌, Contains, None, Some, refl, sym, ◌∙◌, ap, subst, inl, inr}
use Rattle.std.specs.Prelude.{find, is_some}
use Rattle.std.proofs.lemmas.Bool.{and_parts, and_from, both_ways, cases_Bool, eq-eqb, eqb-true}
use Rattle.std.proofs.lemmas.List.Elements.{Contains-append_cases, Contains-append_left}
use Rattle.rina_newest.specs.declared.item.Item.{Item}
use Rattle.rina_newest.specs.Newest.{kept_at}
use Rattle.rina_agent.specs.declared.message.ManagementMessage.{ManagementMessage}
use Rattle.rina_agent.specs.Agenda.{waiting_on}
use Rattle.rina_agent.specs.Enrolled.{IsAtLeast}
use Rattle.rina_agent.specs.Enrolments.{is_numbered}
use Rattle.rina_agent.specs.Rows.{was_up}
use Rattle.rina_flood.specs.Network.{Side, Near, Far, other, is_side, EndState, Unmade, There, Gone, Network, link_at, waiting_at, put_ends, put_state, with_state, laid, stands, is_up, has_link, unhandled, carried, on_way, AreEndsApart, IsFree, IsNewNumber}
use Rattle.rina_flood.specs.Laws.{Owes}
use Rattle.rina_flood.proofs.Holds.{Holds}
use Rattle.rina_flood.proofs.Places.{nothing_in, direction_case, direction_itself, side_itself, same_direction, flat_from, flat_in}

-- One place of a map

pub put_here : (link : ℕ) (side : Side) (s : EndState) (states : ℕ → Side → EndState) (l : ℕ) (d : Side) → l ≡ link → d ≡ side → put_state link side s states l d ≡ s
put_here link side s states l d a b = (let e = direction_itself link side l d a b in rw e refl)

pub put_other : (link : ℕ) (side : Side) (s : EndState) (states : ℕ → Side → EndState) (l : ℕ) (d : Side) → (((l ≡ link) × (d ≡ side)) → ⊥) → put_state link side s states l d ≡ states l d
put_other link side s states l d apart = direction_case (λ (x : EndState). x ≡ states l d) link side l d s (states l d) (λ a b. absurd (apart (a, b))) (λ n. refl)

pub ends_here : (link : ℕ) (side : Side) (i j : ℕ) (ends : ℕ → Side → ℕ) (l : ℕ) (d : Side) → l ≡ link → d ≡ side → put_ends link side i j ends l d ≡ i
ends_here link side i j ends l d a b =
    let P : Side → Type 0 = λ t. put_ends link side i j ends l t ≡ i in
    let e = eq-eqb l link a in
    subst P (sym b) (rw (e, side_itself side) refl)

pub ends_other : (link : ℕ) (side : Side) (i j : ℕ) (ends : ℕ → Side → ℕ) (l : ℕ) (d : Side) → (l ≡ link → ⊥) → put_ends link side i j ends l d ≡ ends l d
ends_other link side i j ends l d apart = elim (cases_Bool (l == link)) [
  | inl is ↦ absurd (apart (eqb-true l link is))
  | inr isnt ↦ rw isnt refl
]

pub there_is : (a b : ℕ) → There a ≡ There b → a ≡ b
there_is a b e = cc

pub sides_apart : (side : Side) → other side ≡ side → ⊥
sides_apart Near e = absurd (cc)
sides_apart Far e = absurd (cc)

-- The members at the ends of links, and what became of the ends, are others

module _ (n : Network) (ends : ℕ → Side → ℕ) (states : ℕ → Side → EndState) where
  abbrev pub restated : Network
  restated = record n { ends = ends; states = states }

  -- where messages are on their way, and where a direction stands, the members are the same
  pub record IsRestated : Type 0 where
    pub laid : AreEndsApart restated
    pub fit : (l : ℕ) (d : Side) → ends l d < 2 ^ 32
    pub follows : (l : ℕ) (d : Side) (m : ManagementMessage) → Contains (unhandled restated l d) m → (ends l d ≡ n.ends l d) × Contains (unhandled n l d) m
    pub opens : (l : ℕ) (d : Side) → stands restated l d ≡ true → (ends l d ≡ n.ends l d) × (ends l (other d) ≡ n.ends l (other d)) × (stands n l d ≡ true)
    pub remains : (l : ℕ) (d : Side) (m : ManagementMessage) → stands restated l d ≡ true → Contains (unhandled n l d) m → Contains (unhandled restated l d) m

  restated_way : IsRestated → (l : ℕ) (d : Side) (y : Item) → Contains (on_way restated l d) y → (ends l d ≡ n.ends l d) × Contains (on_way n l d) y
  restated_way s l d y e =
      let r = flat_from carried (unhandled restated l d) y e in
      let old = s.follows l d r.0 r.1 in
      (old.0, flat_in carried (unhandled n l d) r.0 y old.1 r.2)

  restated_owes : IsRestated → Holds n → (l : ℕ) (d : Side) → stands restated l d ≡ true → Owes restated l d
  restated_owes s h l d up key y e =
      let o = s.opens l d up in
      let old : kept_at (n.agents (n.ends l d)).items key ≡ Some y = ap (λ (i : ℕ). kept_at (n.agents i).items key) (sym o.0) ∙ e in
      elim (h.flooded.owes l d o.2 key y old) [
        | inl a ↦ (let P : ℕ → Type 0 = λ i. IsAtLeast (n.agents i).items y in inl (subst P (sym o.1) a))
        | inr c ↦
            (let r = flat_from carried (unhandled n l d) c.item c.among in
            inr (record { item = c.item; among = flat_in carried (unhandled restated l d) r.0 c.item (s.remains l d r.0 up r.1) r.2; same = c.same; least = c.least }))
      ]

  pub restated_holds : IsRestated → Holds n → Holds restated
  restated_holds s h = record {
    laid = record { addresses = h.laid.addresses; laid = s.laid; fit = s.fit; apart = h.laid.apart };
    flooded = record {
      kept = λ l d y e. (let was = restated_way s l d y e in let P : ℕ → Type 0 = λ i. IsAtLeast (n.agents i).items y in subst P (sym was.0) (h.flooded.kept l d y was.1));
      owes = restated_owes s h;
    };
    noted = record {
      knows = h.noted.knows;
      offered = h.noted.offered;
      sent = λ l d y e. (let was = restated_way s l d y e in h.noted.sent l d y was.1);
      one = h.noted.one;
      past = h.noted.past;
      counted = h.noted.counted;
    };
  }

-- An end is lost

module _ (n : Network) (link : ℕ) (side : Side) where
  abbrev lost_states : ℕ → Side → EndState
  lost_states = put_state link side Gone n.states

  was_there : (l : ℕ) (d : Side) (number : ℕ) → lost_states l d ≡ There number → n.states l d ≡ There number
  was_there l d number = direction_case (λ (s : EndState). s ≡ There number → n.states l d ≡ There number) link side l d Gone (n.states l d) (λ a b e. absurd (cc)) (λ apart e. e)

  pub lost_follows : (l : ℕ) (d : Side) (m : ManagementMessage) → Contains (n.sent l d ++ waiting_at (lost_states l d) (n.agents (n.ends l d)).agenda) m → Contains (unhandled n l d) m
  lost_follows l d m = direction_case (λ (s : EndState). Contains (n.sent l d ++ waiting_at s (n.agents (n.ends l d)).agenda) m → Contains (unhandled n l d) m) link side l d Gone (n.states l d)
      (λ a b e. elim (Contains-append_cases (n.sent l d) [] m e) [
        | inl flies ↦ Contains-append_left (n.sent l d) (waiting_at (n.states l d) (n.agents (n.ends l d)).agenda) m flies
        | inr none ↦ absurd (nothing_in m none)
      ])
      (λ apart e. e)

  pub lost_up : (l : ℕ) (d : Side) → was_up (link_at (lost_states l d) (n.agents (n.ends l d)).links) ≡ true → is_up n l d ≡ true
  lost_up l d = direction_case (λ (s : EndState). was_up (link_at s (n.agents (n.ends l d)).links) ≡ true → is_up n l d ≡ true) link side l d Gone (n.states l d) (λ a b u. absurd (both_ways true (sym u) refl)) (λ apart u. u)

  lost_has : (l : ℕ) (d : Side) → is_some (link_at (lost_states l d) (n.agents (n.ends l d)).links) ≡ true → has_link n l d ≡ true
  lost_has l d = direction_case (λ (s : EndState). is_some (link_at s (n.agents (n.ends l d)).links) ≡ true → has_link n l d ≡ true) link side l d Gone (n.states l d) (λ a b u. absurd (both_ways true (sym u) refl)) (λ apart u. u)

  lost_remains : (l : ℕ) (d : Side) (m : ManagementMessage) → was_up (link_at (lost_states l d) (n.agents (n.ends l d)).links) ≡ true → Contains (unhandled n l d) m → Contains (n.sent l d ++ waiting_at (lost_states l d) (n.agents (n.ends l d)).agenda) m
  lost_remains l d m = direction_case (λ (s : EndState). was_up (link_at s (n.agents (n.ends l d)).links) ≡ true → Contains (unhandled n l d) m → Contains (n.sent l d ++ waiting_at s (n.agents (n.ends l d)).agenda) m) link side l d Gone (n.states l d) (λ a b u e. absurd (both_ways true (sym u) refl)) (λ apart u e. e)

  pub close_holds : Holds n → Holds (with_state n link side Gone)
  close_holds h = restated_holds n n.ends lost_states (record {
    laid = λ l d k e number same p q. h.laid.laid l d k e number same (was_there l d number p) (was_there k e number q);
    fit = h.laid.fit;
    follows = λ l d m e. (refl, lost_follows l d m e);
    opens = λ l d up. (let both = and_parts _ _ up in (refl, refl, and_from (is_up n l d) (has_link n l (other d)) (lost_up l d both.0) (lost_has l (other d) both.1)));
    remains = λ l d m up e. (let both = and_parts _ _ up in lost_remains l d m both.0 e);
  }) h

-- An end is made, with a new number

module _ (n : Network) (link : ℕ) (side : Side) (number : ℕ) (new : IsNewNumber n (n.ends link side) number) where
  abbrev made_states : ℕ → Side → EndState
  made_states = put_state link side (There number) n.states

  -- what holds at this end
  at_this : (P : ℕ → Type 0) (l : ℕ) (d : Side) → l ≡ link → d ≡ side → P (n.ends link side) → P (n.ends l d)
  at_this P l d a b e =
      let Q : ℕ → Type 0 = λ k. P (n.ends k d) in
      let R : Side → Type 0 = λ t. P (n.ends link t) in
      subst Q (sym a) (subst R (sym b) e)

  no_link : (l : ℕ) (d : Side) → l ≡ link → d ≡ side → find (is_numbered number) (n.agents (n.ends l d)).links ≡ None
  no_link l d a b = at_this (λ i. find (is_numbered number) (n.agents i).links ≡ None) l d a b new.links

  made_follows : (l : ℕ) (d : Side) (m : ManagementMessage) → Contains (n.sent l d ++ waiting_at (made_states l d) (n.agents (n.ends l d)).agenda) m → Contains (unhandled n l d) m
  made_follows l d m = direction_case (λ (s : EndState). Contains (n.sent l d ++ waiting_at s (n.agents (n.ends l d)).agenda) m → Contains (unhandled n l d) m) link side l d (There number) (n.states l d)
      (λ a b e. elim (Contains-append_cases (n.sent l d) (waiting_on number (n.agents (n.ends l d)).agenda) m e) [
        | inl flies ↦ Contains-append_left (n.sent l d) (waiting_at (n.states l d) (n.agents (n.ends l d)).agenda) m flies
        | inr waits ↦ (let W : List ManagementMessage → Type 0 = λ ms. Contains ms m in absurd (nothing_in m (subst W (at_this (λ i. waiting_on number (n.agents i).agenda ≡ []) l d a b new.agenda) waits)))
      ])
      (λ apart e. e)

  pub made_up : (l : ℕ) (d : Side) → was_up (link_at (made_states l d) (n.agents (n.ends l d)).links) ≡ true → is_up n l d ≡ true
  made_up l d = direction_case (λ (s : EndState). was_up (link_at s (n.agents (n.ends l d)).links) ≡ true → is_up n l d ≡ true) link side l d (There number) (n.states l d)
      (λ a b u. (let none = no_link l d a b in absurd (both_ways true (sym (ap was_up (sym none) ∙ u)) refl)))
      (λ apart u. u)

  made_has : (l : ℕ) (d : Side) → is_some (link_at (made_states l d) (n.agents (n.ends l d)).links) ≡ true → has_link n l d ≡ true
  made_has l d = direction_case (λ (s : EndState). is_some (link_at s (n.agents (n.ends l d)).links) ≡ true → has_link n l d ≡ true) link side l d (There number) (n.states l d)
      (λ a b u. (let none = no_link l d a b in absurd (both_ways true (sym (ap is_some (sym none) ∙ u)) refl)))
      (λ apart u. u)

  made_remains : (l : ℕ) (d : Side) (m : ManagementMessage) → was_up (link_at (made_states l d) (n.agents (n.ends l d)).links) ≡ true → Contains (unhandled n l d) m → Contains (n.sent l d ++ waiting_at (made_states l d) (n.agents (n.ends l d)).agenda) m
  made_remains l d m = direction_case (λ (s : EndState). was_up (link_at s (n.agents (n.ends l d)).links) ≡ true → Contains (unhandled n l d) m → Contains (n.sent l d ++ waiting_at s (n.agents (n.ends l d)).agenda) m) link side l d (There number) (n.states l d)
      (λ a b u e. (let none = no_link l d a b in absurd (both_ways true (sym (ap was_up (sym none) ∙ u)) refl)))
      (λ apart u e. e)

  -- an end with a number is this one, or had it before
  made_place : (l : ℕ) (d : Side) (k : ℕ) → made_states l d ≡ There k → ((l ≡ link) × (d ≡ side) × (number ≡ k)) ⊎ (n.states l d ≡ There k)
  made_place l d k e = elim (same_direction link side l d) [
    | inl same ↦ inl (same.0, same.1, there_is number k (sym (put_here link side (There number) n.states l d same.0 same.1) ∙ e))
    | inr apart ↦ inr (sym (put_other link side (There number) n.states l d apart) ∙ e)
  ]

  made_laid : AreEndsApart n → AreEndsApart (with_state n link side (There number))
  made_laid h l d k e has same p q = elim (made_place l d has p) [
    | inl one ↦ elim (made_place k e has q) [
      | inl two ↦ (one.0 ∙ sym two.0, one.1 ∙ sym two.1)
      | inr old ↦ absurd (new.ends k e (sym same ∙ at_this (λ i. i ≡ n.ends link side) l d one.0 one.1 refl) (old ∙ ap There (sym one.2)))
    ]
    | inr was ↦ elim (made_place k e has q) [
      | inl two ↦ absurd (new.ends l d (same ∙ at_this (λ i. i ≡ n.ends link side) k e two.0 two.1 refl) (was ∙ ap There (sym two.2)))
      | inr old ↦ h l d k e has same was old
    ]
  ]

  pub open_holds : Holds n → Holds (with_state n link side (There number))
  open_holds h = restated_holds n n.ends made_states (record {
    laid = made_laid h.laid.laid;
    fit = h.laid.fit;
    follows = λ l d m e. (refl, made_follows l d m e);
    opens = λ l d up. (let both = and_parts _ _ up in (refl, refl, and_from (is_up n l d) (has_link n l (other d)) (made_up l d both.0) (made_has l (other d) both.1)));
    remains = λ l d m up e. (let both = and_parts _ _ up in made_remains l d m both.0 e);
  }) h

-- A free link gets its two members, and a new number at the first

module _ (n : Network) (link : ℕ) (side : Side) (number i j : ℕ) (free : IsFree n link) (new : IsNewNumber n i number) where
  abbrev new_ends : ℕ → Side → ℕ
  new_ends = put_ends link side i j n.ends

  abbrev new_states : ℕ → Side → EndState
  new_states = put_state link side (There number) n.states

  unmade : (l : ℕ) (d : Side) → l ≡ link → n.states l d ≡ Unmade
  unmade l d a = (let P : ℕ → Type 0 = λ k. n.states k d ≡ Unmade in subst P (sym a) (free d).0)

  unsent : (l : ℕ) (d : Side) → l ≡ link → n.sent l d ≡ []
  unsent l d a = (let P : ℕ → Type 0 = λ k. n.sent k d ≡ [] in subst P (sym a) (free d).1)

  -- on the link nothing waits or is up
  none_waits : (l : ℕ) (d : Side) (m : ManagementMessage) → l ≡ link → Contains (waiting_at (new_states l d) (n.agents (new_ends l d)).agenda) m → ⊥
  none_waits l d m on = direction_case (λ (s : EndState). Contains (waiting_at s (n.agents (new_ends l d)).agenda) m → ⊥) link side l d (There number) (n.states l d)
      (λ a b e.
      let W : ℕ → Type 0 = λ k. Contains (waiting_on number (n.agents k).agenda) m in
      let V : List ManagementMessage → Type 0 = λ ms. Contains ms m in
      nothing_in m (subst V new.agenda (subst W (ends_here link side i j n.ends l d a b) e)))
      (λ apart e.
      let W : EndState → Type 0 = λ s. Contains (waiting_at s (n.agents (new_ends l d)).agenda) m in
      nothing_in m (subst W (unmade l d on) e))

  pub new_down : (l : ℕ) (d : Side) → l ≡ link → was_up (link_at (new_states l d) (n.agents (new_ends l d)).links) ≡ false
  new_down l d on = direction_case (λ (s : EndState). was_up (link_at s (n.agents (new_ends l d)).links) ≡ false) link side l d (There number) (n.states l d)
      (λ a b. ap (λ (k : ℕ). was_up (find (is_numbered number) (n.agents k).links)) (ends_here link side i j n.ends l d a b) ∙ ap was_up new.links)
      (λ apart. ap (λ (s : EndState). was_up (link_at s (n.agents (new_ends l d)).links)) (unmade l d on))

  pub other_link : (P : ℕ → EndState → Type 0) (l : ℕ) (d : Side) → (l ≡ link → ⊥) → P (new_ends l d) (new_states l d) → P (n.ends l d) (n.states l d)
  other_link P l d off e =
      let Q : EndState → Type 0 = λ s. P (new_ends l d) s in
      let R : ℕ → Type 0 = λ k. P k (n.states l d) in
      subst R (ends_other link side i j n.ends l d off) (subst Q (put_other link side (There number) n.states l d (λ s. off s.0)) e)

  back_link : (P : ℕ → EndState → Type 0) (l : ℕ) (d : Side) → (l ≡ link → ⊥) → P (n.ends l d) (n.states l d) → P (new_ends l d) (new_states l d)
  back_link P l d off e =
      let Q : EndState → Type 0 = λ s. P (new_ends l d) s in
      let R : ℕ → Type 0 = λ k. P k (n.states l d) in
      subst Q (sym (put_other link side (There number) n.states l d (λ s. off s.0))) (subst R (sym (ends_other link side i j n.ends l d off)) e)

  pub by_link : (l : ℕ) → (l ≡ link) ⊎ (l ≡ link → ⊥)
  by_link l = elim (cases_Bool (l == link)) [
    | inl e ↦ inl (eqb-true l link e)
    | inr e ↦ inr (λ is. both_ways (l == link) e (eq-eqb l link is))
  ]

  new_follows : (l : ℕ) (d : Side) (m : ManagementMessage) → Contains (n.sent l d ++ waiting_at (new_states l d) (n.agents (new_ends l d)).agenda) m → (new_ends l d ≡ n.ends l d) × Contains (unhandled n l d) m
  new_follows l d m e = elim (by_link l) [
    | inl on ↦ elim (Contains-append_cases (n.sent l d) (waiting_at (new_states l d) (n.agents (new_ends l d)).agenda) m e) [
      | inl flies ↦ (let V : List ManagementMessage → Type 0 = λ ms. Contains ms m in absurd (nothing_in m (subst V (unsent l d on) flies)))
      | inr waits ↦ absurd (none_waits l d m on waits)
    ]
    | inr off ↦ (ends_other link side i j n.ends l d off, other_link (λ k s. Contains (n.sent l d ++ waiting_at s (n.agents k).agenda) m) l d off e)
  ]

  new_opens : (l : ℕ) (d : Side) → stands (laid n link side number i j) l d ≡ true → (new_ends l d ≡ n.ends l d) × (new_ends l (other d) ≡ n.ends l (other d)) × (stands n l d ≡ true)
  new_opens l d e =
      let both = and_parts _ _ e in
      elim (by_link l) [
        | inl on ↦ absurd (both_ways (was_up (link_at (new_states l d) (n.agents (new_ends l d)).links)) (new_down l d on) both.0)
        | inr off ↦ (
          ends_other link side i j n.ends l d off,
          ends_other link side i j n.ends l (other d) off,
          and_from (is_up n l d) (has_link n l (other d)) (other_link (λ k s. was_up (link_at s (n.agents k).links) ≡ true) l d off both.0) (other_link (λ k s. is_some (link_at s (n.agents k).links) ≡ true) l (other d) off both.1),
        )
      ]

  new_remains : (l : ℕ) (d : Side) (m : ManagementMessage) → stands (laid n link side number i j) l d ≡ true → Contains (unhandled n l d) m → Contains (n.sent l d ++ waiting_at (new_states l d) (n.agents (new_ends l d)).agenda) m
  new_remains l d m up e =
      let both = and_parts _ _ up in
      elim (by_link l) [
        | inl on ↦ absurd (both_ways (was_up (link_at (new_states l d) (n.agents (new_ends l d)).links)) (new_down l d on) both.0)
        | inr off ↦ back_link (λ k s. Contains (n.sent l d ++ waiting_at s (n.agents k).agenda) m) l d off e
      ]

  -- an end with a number is this one, or one of another link
  new_place : (l : ℕ) (d : Side) (k : ℕ) → new_states l d ≡ There k → ((l ≡ link) × (d ≡ side) × (number ≡ k)) ⊎ ((l ≡ link → ⊥) × (n.states l d ≡ There k))
  new_place l d k e = elim (same_direction link side l d) [
    | inl same ↦ inl (same.0, same.1, there_is number k (sym (put_here link side (There number) n.states l d same.0 same.1) ∙ e))
    | inr apart ↦
        (let old : n.states l d ≡ There k = sym (put_other link side (There number) n.states l d apart) ∙ e in
        inr (λ on. (let clash : Unmade ≡ There k = sym (unmade l d on) ∙ old in absurd (cc)), old))
  ]

  new_laid : AreEndsApart n → AreEndsApart (laid n link side number i j)
  new_laid h l d k e has same p q = elim (new_place l d has p) [
    | inl one ↦ elim (new_place k e has q) [
      | inl two ↦ (one.0 ∙ sym two.0, one.1 ∙ sym two.1)
      | inr old ↦ absurd (new.ends k e (sym (ends_other link side i j n.ends k e old.0) ∙ sym same ∙ ends_here link side i j n.ends l d one.0 one.1) (old.1 ∙ ap There (sym one.2)))
    ]
    | inr was ↦ elim (new_place k e has q) [
      | inl two ↦ absurd (new.ends l d (sym (ends_other link side i j n.ends l d was.0) ∙ same ∙ ends_here link side i j n.ends k e two.0 two.1) (was.1 ∙ ap There (sym two.2)))
      | inr old ↦ h l d k e has (sym (ends_other link side i j n.ends l d was.0) ∙ same ∙ ends_other link side i j n.ends k e old.0) was.1 old.1
    ]
  ]

  new_fit : i < 2 ^ 32 → j < 2 ^ 32 → ((l : ℕ) (d : Side) → n.ends l d < 2 ^ 32) → (l : ℕ) (d : Side) → new_ends l d < 2 ^ 32
  new_fit a b h l d = elim (cases_Bool (l == link)) [
    | inl e ↦ elim (cases_Bool (is_side side d)) [
      | inl f ↦ rw (e, f) a
      | inr f ↦ rw (e, f) b
    ]
    | inr e ↦ rw e (h l d)
  ]

  pub lay_holds : i < 2 ^ 32 → j < 2 ^ 32 → Holds n → Holds (laid n link side number i j)
  lay_holds a b h = restated_holds n new_ends new_states (record {
    laid = new_laid h.laid.laid;
    fit = new_fit a b h.laid.fit;
    follows = new_follows;
    opens = new_opens;
    remains = new_remains;
  }) h
