-- Over whole runs: what a member keeps of its own link state, and what the others keep of it once all is quiet.
use Rattle.std.proofs.Common.{◌≡◌, ℕ, ◌⊎◌, ◌<◌, ◌^◌, Bool, true, false, cond, List, ◌∷◌, ◌++◌, Contains, Option, Some, None, Ok, refl, sym, ◌∙◌, ap, subst, inl, inr, []}
use Rattle.std.specs.Prelude.{find, option_and_then, MatchOption}
use Rattle.std.proofs.lemmas.Bool.{and_parts, both_ways}
use Rattle.std.proofs.lemmas.List.{append-nil}
use Rattle.std.proofs.lemmas.List.Elements.{Contains-append_left, Contains-push_cases}
use Rattle.std.proofs.lemmas.Option.{none-some, same_Some}
use Rattle.rina_enrol.specs.declared.message.LinkMessage.{LinkMessage}
use Rattle.rina_enrol.specs.declared.message.LinkMessage.TheVariants as messages
use Rattle.rina_newest.specs.declared.item.Item.{Item}
use Rattle.rina_newest.specs.Newest.{is_below, is_newer, kept_at, taken, taken_all, IsNewest}
use Rattle.rina_agent.specs.declared.agent.Agent.{Agent}
use Rattle.rina_agent.specs.declared.link.Link.{Link}
use Rattle.rina_agent.specs.declared.message.ManagementMessage.{ManagementMessage}
use Rattle.rina_agent.specs.declared.message.ManagementMessage.TheVariants.{ToNeighbour, ToMember}
use Rattle.rina_agent.specs.declared.message.Waiting.{Waiting}
use Rattle.rina_agent.specs.declared.state.AgentError.{AgentError}
use Rattle.rina_agent.specs.Counts.{next_of, spent, unless}
use Rattle.rina_agent.specs.Enrolled.{done, Handles, Loses, Makes}
use Rattle.rina_agent.specs.Enrolments.{is_numbered}
use Rattle.rina_agent.specs.Items.{made, stated, took, own_item}
use Rattle.rina_agent.specs.Neighbours.{link_key, link_state, member_key}
use Rattle.rina_agent.specs.Rows.{was_up, dropped, joined_link, joining, joining_link}
use Rattle.rina_member.proofs.Items.{not_link}
use Rattle.rina_flood.specs.Network.{Side, Near, Far, other, EndState, Unmade, There, Gone, Network, link_at, put_agent, put_sent, carried, item_in, called, news, last_state, AreApart, Row, Make, Put, Draw, Take, Handle, Lose, Leave, Drop, Know, Pass, happens, May, IsRun, after_rows, IsStart, is_up, joins, Enrol, Claim, KnowsAll, KnowsNothing, is_enrolled}
use Rattle.rina_flood.specs.Laws.{LeavesLinkState, AllLeaveLinkState, TellsLinks, TellsNone, IsQuietWalk, QuietTellsLinks}
use Rattle.rina_flood.proofs.Calls.{at_place, at_itself}
use Rattle.rina_flood.proofs.Agendas.{lost_fewer}
use Rattle.rina_flood.proofs.Enrolling.{quiet_called}
use Rattle.rina_flood.proofs.Entering.{holds_kept, raised_states}
use Rattle.rina_flood.proofs.Holds.{Holds}
use Rattle.rina_flood.proofs.Keeping.{IsKept, with_items}
use Rattle.rina_flood.proofs.LinkStates.{state_more, state_same, state_without}
use Rattle.rina_flood.proofs.NewLinks.{up_more}
use Rattle.rina_flood.proofs.Raise.{IsRaised, raise_holds}
use Rattle.rina_flood.proofs.Places.{put_case}
use Rattle.rina_flood.proofs.All.{row_holds, begin_holds, found_key, near_keeps, popped_holds}
use Rattle.rina_flood.proofs.Settles.{Greatest, kept_made, walk_equal}
use Rattle.rina_flood.proofs.Steps.{first_item}
use Rattle.rina_flood.proofs.Telling.{Tells, ByItself, HasTold, TellsNot, same_address, made_fewer, stated_tells, told_known, told_more, told_other, told_same, told_took}

-- the item that a member makes where it loses a link that is up
abbrev lost_item : Network → ℕ → ℕ → Item
lost_item n i k = own_item (n.agents i) n.now (link_key (n.agents i).address) (Some (link_state (Some k) (n.agents i).links))

none_made : (made : List Item) (address : ℕ) (y : Item) → Contains (made ++ []) y → y.key ≡ link_key address → Contains made y
none_made made address y e key = (let P : List Item → Type 0 = λ items. Contains items y in subst P (append-nil made) e)

same_alone : (address : ℕ) (made : List Item) → ByItself address made → ByItself address (made ++ [])
same_alone address made alone y e key = alone y (none_made made address y e key) key

make_alone : (address : ℕ) (made : List Item) (x : Item) → (x.key ≡ link_key address → ⊥) → ByItself address made → ByItself address (made ++ x ∷ [])
make_alone address made x apart alone y e key = alone y (made_fewer made x address apart y e key) key

-- an item of a member's own link state is made by that member
own_alone : (n : Network) (address i : ℕ) (x : Item) → Holds n → address < 2 ^ 32 → i < 2 ^ 32 → x.key ≡ link_key (n.agents i).address → x.version.origin ≡ (n.agents i).address → ByItself address n.made → ByItself address (n.made ++ x ∷ [])
own_alone n address i x h a b is_key origin alone y e key = elim (Contains-push_cases n.made x y e) [
  | inl old ↦ alone y old key
  | inr is ↦
      (let own : link_key (n.agents i).address ≡ link_key address = sym is_key ∙ ap (λ (z : Item). z.key) is ∙ key in
      ap (λ (z : Item). z.version.origin) (sym is) ∙ origin ∙ h.laid.addresses i ∙ same_address i address b a (ap link_key (sym (h.laid.addresses i)) ∙ own))
]

-- the key of the link state of another member is another
other_key : (n : Network) (address i : ℕ) → Holds n → address < 2 ^ 32 → i < 2 ^ 32 → (address ≡ i → ⊥) → link_key (n.agents i).address ≡ link_key address → ⊥
other_key n address i h a b apart e = apart (sym (same_address i address b a (ap link_key (sym (h.laid.addresses i)) ∙ e)))

-- The agent of one member is another, and none of its link states was made
one_told : (n : Network) (address i : ℕ) (b : Agent) (made : List Item) → ((y : Item) → Contains made y → y.key ≡ link_key address → Contains n.made y) → (HasTold address (n.agents i) n.made → HasTold address b n.made) → HasTold address (n.agents address) n.made → HasTold address (put_agent i b n.agents address) made
one_told n address i b made fewer changed t = told_more address (put_agent i b n.agents address) n.made made fewer (at_place (λ c e. HasTold address c n.made → HasTold address e n.made) i b n.agents address changed (λ c t. t) t)

-- A member makes its link state, and is then as its items and links say
module _ (n : Network) (address : ℕ) (greatest : Greatest) (fits : address < 2 ^ 32) (i : ℕ) (near_fits : i < 2 ^ 32) (out : Option ℕ) (b : Agent) (h : Holds n) (alone : ByItself address n.made) (may : spent 1 (n.agents i).last_count ≡ None) where
  abbrev its_state : Item
  its_state = own_item (n.agents i) n.now (link_key (n.agents i).address) (Some (link_state out (n.agents i).links))

  made_told : b.items ≡ taken (n.agents i).items its_state → link_state None b.links ≡ link_state out (n.agents i).links → HasTold address (n.agents address) n.made → HasTold address (put_agent i b n.agents address) (n.made ++ its_state ∷ [])
  made_told items text t = put_case (λ (c : Agent). HasTold address c (n.made ++ its_state ∷ [])) address i b (n.agents address)
      (λ same.
      let Q : ℕ → Type 0 = λ j. (spent 1 (n.agents j).last_count ≡ None) → (b.items ≡ taken (n.agents j).items (own_item (n.agents j) n.now (link_key (n.agents j).address) (Some (link_state out (n.agents j).links)))) → (link_state None b.links ≡ link_state out (n.agents j).links)
      → Tells address b (n.made ++ own_item (n.agents j) n.now (link_key (n.agents j).address) (Some (link_state out (n.agents j).links)) ∷ []) in
      inl (subst Q same (λ m is says. stated_tells n address out h greatest alone m b is says) may items text))
      (λ apart. told_more address (n.agents address) n.made (n.made ++ its_state ∷ []) (made_fewer n.made its_state address (other_key n address i h fits near_fits apart)) t)

-- A link is lost

dropped_told : (address k : ℕ) (a : Agent) (made : List Item) → AreApart a.links → was_up (find (is_numbered k) a.links) ≡ false → HasTold address a made → HasTold address (dropped a k) made
dropped_told address k a made apart down t = told_same address a (dropped a k) made refl (state_same k a.links down) (let f = lost_fewer k a.links apart in f.up) t

lose_told : (n : Network) (address i k : ℕ) (up : Bool) (o : Option AgentError) → Holds n → Greatest → ByItself address n.made → address < 2 ^ 32 → i < 2 ^ 32 → (up ≡ true → spent 1 (n.agents i).last_count ≡ None) → was_up (find (is_numbered k) (n.agents i).links) ≡ up → (up ≡ true → o ≡ None)
    → HasTold address (n.agents address) n.made
    → HasTold address (put_agent i (done (n.agents i) (cond up (unless o (dropped (stated (Some k) (n.agents i) n.now) k)) (Ok (dropped (n.agents i) k)))) n.agents address) (n.made ++ cond up (lost_item n i k ∷ []) [])
lose_told n address i k true (Some e) h greatest alone a b may was is t = absurd (none-some e (sym (is refl)))
lose_told n address i k true None h greatest alone a b may was is t =
    made_told n address greatest a i b (Some k) (dropped (stated (Some k) (n.agents i) n.now) k) h alone (may refl) refl (sym (state_without k (n.agents i).links (h.laid.apart i))) t
lose_told n address i k false o h greatest alone a b may was is t =
    one_told n address i (dropped (n.agents i) k) (n.made ++ []) (none_made n.made address) (dropped_told address k (n.agents i) n.made (h.laid.apart i) was) t

lose_alone : (n : Network) (address i k : ℕ) (up : Bool) → Holds n → address < 2 ^ 32 → i < 2 ^ 32 → ByItself address n.made → ByItself address (n.made ++ cond up (lost_item n i k ∷ []) [])
lose_alone n address i k true h a b alone = own_alone n address i (lost_item n i k) h a b refl refl alone
lose_alone n address i k false h a b alone = same_alone address n.made alone

-- What holds of a network in which a member tells its links

pub record IsTelling (address : ℕ) (n : Network) : Type 0 where
  pub holds : Holds n
  pub told : HasTold address (n.agents address) n.made
  pub alone : ByItself address n.made

-- the key of a member item is that of no link state
not_state : (i address : ℕ) → member_key i ≡ link_key address → ⊥
not_state i address e = not_link i address e

module _ (address : ℕ) (greatest : Greatest) (fits : address < 2 ^ 32) where
  raised_telling : (n : Network) (i k : ℕ) (a : Agent) (batch : List Waiting) → i < 2 ^ 32 → IsRaised (n.agents i) a k batch → spent 1 (n.agents i).last_count ≡ None → IsTelling address n → IsTelling address (with_items n i (stated None a n.now) (last_state (stated None a n.now) n.now ∷ []))
  raised_telling n i k a batch near_fits r may s =
      let h = s.holds in
      let g = raise_holds n i a k batch r h in
      let up : Network = record n { agents = put_agent i a n.agents } in
      let b = stated None a n.now in
      let x = last_state b n.now in
      let mine : put_agent i a n.agents i ≡ a = at_itself i a n.agents in
      let may_still : spent 1 (put_agent i a n.agents i).last_count ≡ None = ap (λ (c : Agent). spent 1 c.last_count) mine ∙ ap (spent 1) r.count ∙ may in
      let P : Agent → Type 0 = λ c. HasTold address (n.agents address) n.made → HasTold address (put_agent i b n.agents address) (n.made ++ own_item c n.now (link_key c.address) (Some (link_state None c.links)) ∷ []) in
      let stands : P (put_agent i a n.agents i) = λ t. put_case (λ (c : Agent). HasTold address c (n.made ++ own_item (put_agent i a n.agents i) n.now (link_key (put_agent i a n.agents i).address) (Some (link_state None (put_agent i a n.agents i).links)) ∷ [])) address i b (n.agents address)
      (λ same.
      let Q : ℕ → Type 0 = λ j. Tells address b (n.made ++ own_item (put_agent i a n.agents j) n.now (link_key (put_agent i a n.agents j).address) (Some (link_state None (put_agent i a n.agents j).links)) ∷ []) in
      let is_a : put_agent i a n.agents address ≡ a = ap (λ (j : ℕ). put_agent i a n.agents j) same ∙ mine in
      let may_own : spent 1 (put_agent i a n.agents address).last_count ≡ None = ap (λ (j : ℕ). spent 1 (put_agent i a n.agents j).last_count) same ∙ may_still in
      let items : b.items ≡ taken (put_agent i a n.agents address).items (own_item (put_agent i a n.agents address) n.now (link_key (put_agent i a n.agents address).address) (Some (link_state None (put_agent i a n.agents address).links))) =
      ap (λ (c : Agent). taken c.items (own_item c n.now (link_key c.address) (Some (link_state None c.links)))) (sym is_a) in
      inl (subst Q same (stated_tells up address None g greatest s.alone may_own b items (ap (λ (c : Agent). link_state None c.links) (sym is_a)))))
      (λ apart. told_more address (n.agents address) n.made (n.made ++ own_item (put_agent i a n.agents i) n.now (link_key (put_agent i a n.agents i).address) (Some (link_state None (put_agent i a n.agents i).links)) ∷ [])
      (made_fewer n.made (own_item (put_agent i a n.agents i) n.now (link_key (put_agent i a n.agents i).address) (Some (link_state None (put_agent i a n.agents i).links))) address (other_key up address i g fits near_fits apart)) t) in
      let own : x.key ≡ link_key (n.agents i).address = ap link_key r.address in
      record {
        holds = raised_states n i a k batch r may h;
        told = subst P mine stands s.told;
        alone = own_alone n address i x h fits near_fits own r.address s.alone;
      }

  pub telling_kept : IsKept (IsTelling address)
  telling_kept = record {
    quiet = λ n i b q s. record {
      holds = quiet_called n i b q s.holds;
      told = one_told n address i b (n.made ++ []) (none_made n.made address) (told_same address (n.agents i) b n.made q.same.items q.text q.same.fewer.up) s.told;
      alone = same_alone address n.made s.alone;
    };
    introduces = λ n i near_fits may s.
        (let a = n.agents i in
        let x = own_item a n.now (member_key a.address) (Some a.node) in
        let apart : x.key ≡ link_key address → ⊥ = λ e. not_state a.address address e in
        record {
          holds = holds_kept.introduces n i near_fits may s.holds;
          told = one_told n address i (made None a n.now (member_key a.address) (Some a.node)) (n.made ++ x ∷ []) (made_fewer n.made x address apart) (told_other address a (made None a n.now (member_key a.address) (Some a.node)) n.made x refl refl apart) s.told;
          alone = make_alone address n.made x apart s.alone;
        });
    raises = raised_telling;
  }

  -- a message that carries an item is handled
  came_told : (n : Network) (link : ℕ) (side : Side) (number : ℕ) (m : ManagementMessage) (rest : List ManagementMessage) (x : Item) → IsTelling address n → n.sent link side ≡ m ∷ rest → carried m ≡ x ∷ []
      → HasTold address (put_agent (n.ends link (other side)) (took number (n.agents (n.ends link (other side))) x) n.agents address) (n.made ++ []) × ByItself address (n.made ++ [])
  came_told n link side number m rest x s first carries =
      let to = n.ends link (other side) in
      let h = s.holds in
      let was = h.noted.sent link side x (first_item n link side m rest first x carries h) in (
        one_told n address to (took number (n.agents to) x) (n.made ++ []) (none_made n.made address) (told_took address (n.agents to) number n.made x (is_newer x.version (kept_at (n.agents to).items x.key)) refl was) s.told,
        same_alone address n.made s.alone,
      )

  -- one of an enrolment
  near_told : (n : Network) (link : ℕ) (side : Side) (number : ℕ) (m : LinkMessage) (rest : List ManagementMessage) → IsTelling address n → n.sent link side ≡ ToNeighbour m ∷ rest → item_in m ≡ []
      → HasTold address ((called n (n.ends link (other side)) (Handles n.now number m)).agents address) (called n (n.ends link (other side)) (Handles n.now number m)).made × ByItself address (called n (n.ends link (other side)) (Handles n.now number m)).made
  near_told n link side number m rest s first empty =
      let h = s.holds in
      let on : Network = record n { sent = put_sent link side rest n.sent } in
      let r = near_keeps (IsTelling address) telling_kept on (n.ends link (other side)) number m empty (h.laid.fit link (other side)) (record { holds = popped_holds n link side (ToNeighbour m) rest h first empty; told = s.told; alone = s.alone }) in
      (r.told, r.alone)

  handle_told : (n : Network) (link : ℕ) (side : Side) (number : ℕ) (m : LinkMessage) (rest : List ManagementMessage) → IsTelling address n → n.sent link side ≡ ToNeighbour m ∷ rest
      → HasTold address ((called n (n.ends link (other side)) (Handles n.now number m)).agents address) (called n (n.ends link (other side)) (Handles n.now number m)).made × ByItself address (called n (n.ends link (other side)) (Handles n.now number m)).made
  handle_told n link side number (messages.Connect invoke joiner member) rest s first = near_told n link side number (messages.Connect invoke joiner member) rest s first refl
  handle_told n link side number (messages.ConnectR invoke denied) rest s first = near_told n link side number (messages.ConnectR invoke denied) rest s first refl
  handle_told n link side number (messages.Start invoke from) rest s first = near_told n link side number (messages.Start invoke from) rest s first refl
  handle_told n link side number (messages.StartR invoke) rest s first = near_told n link side number (messages.StartR invoke) rest s first refl
  handle_told n link side number (messages.Item x) rest s first = came_told n link side number (ToNeighbour (messages.Item x)) rest x s first refl
  handle_told n link side number (messages.Stop invoke) rest s first = near_told n link side number (messages.Stop invoke) rest s first refl
  handle_told n link side number (messages.StopR invoke) rest s first = near_told n link side number (messages.StopR invoke) rest s first refl
  handle_told n link side number (messages.Flood x) rest s first = came_told n link side number (ToNeighbour (messages.Flood x)) rest x s first refl

  -- a link more, which is not up
  linked_told : (n : Network) (i : ℕ) (b : Agent) (new : Link) → b.items ≡ (n.agents i).items → b.links ≡ (n.agents i).links ++ new ∷ [] → new.up ≡ false → IsTelling address n → HasTold address (put_agent i b n.agents address) (n.made ++ [])
  linked_told n i b new items links down s = one_told n address i b (n.made ++ []) (none_made n.made address) (told_same address (n.agents i) b n.made items (ap (λ (ls : List Link). link_state None ls) links ∙ state_more (n.agents i).links new down)
      (λ k u. up_more k (n.agents i).links new down (ap (λ (ls : List Link). was_up (find (is_numbered k) ls)) (sym links) ∙ u))) s.told

  make_told : (n : Network) (i : ℕ) (key : List ℕ) (value : Option (List ℕ)) → spent 1 (n.agents i).last_count ≡ None → (key ≡ link_key address → ⊥) → IsTelling address n → HasTold address ((happens n (Make i key value)).agents address) (happens n (Make i key value)).made
  make_told n i key value may apart s =
      let a = n.agents i in
      let x = own_item a n.now key value in
      let P : Option AgentError → Type 0 = λ o. HasTold address (put_agent i (done a (unless o (made None a n.now key value))) n.agents address) (n.made ++ x ∷ []) in
      subst P (sym may) (one_told n address i (made None a n.now key value) (n.made ++ x ∷ []) (made_fewer n.made x address apart) (told_other address a (made None a n.now key value) n.made x refl refl apart) s.told)

  row_told : (n : Network) (row : Row) → May n row → LeavesLinkState address row → IsTelling address n → HasTold address ((happens n row).agents address) (happens n row).made × ByItself address (happens n row).made
  row_told n (Make i key value) may leaves s = (make_told n i key value may leaves s, make_alone address n.made (own_item (n.agents i) n.now key value) leaves s.alone)
  row_told n (Put i number m) may leaves s = (one_told n address i _ n.made (λ y e key. e) (told_same address (n.agents i) _ n.made refl refl (λ k u. u)) s.told, s.alone)
  row_told n (Draw i) may leaves s = (one_told n address i _ n.made (λ y e key. e) (told_same address (n.agents i) _ n.made refl refl (λ k u. u)) s.told, s.alone)
  row_told n (Take link side number m) may leaves s = (one_told n address (n.ends link side) _ (n.made ++ []) (none_made n.made address) (told_same address (n.agents (n.ends link side)) _ n.made refl refl (λ k u. u)) s.told, same_alone address n.made s.alone)
  row_told n (Handle link side number (ToNeighbour m) rest) may leaves s = handle_told n link side number m rest s may.1
  row_told n (Handle link side number (ToMember m) rest) may leaves s = (s.told, s.alone)
  row_told n (Lose link side number) may leaves s =
      let i = n.ends link side in
      let h = s.holds in
      let near_fits = h.laid.fit link side in (
        lose_told n address i number (was_up (find (is_numbered number) (n.agents i).links)) (spent 1 (n.agents i).last_count) h greatest s.alone fits near_fits may.1 refl may.1 s.told,
        lose_alone n address i number (was_up (find (is_numbered number) (n.agents i).links)) h fits near_fits s.alone,
      )
  row_told n (Leave link side number) may leaves s = (s.told, s.alone)
  row_told n (Drop link side left) may leaves s = (s.told, s.alone)
  row_told n (Enrol link side number i j member node) may leaves s =
      let a = n.agents i in
      let b = joining a number member node in
      let P : Option AgentError → Type 0 = λ o. HasTold address (put_agent i (done a (unless o b)) n.agents address) (n.made ++ []) in
      (subst P (sym may.4) (linked_told n i b (joining_link number (next_of a.last_invoke) node) refl refl refl s), same_alone address n.made s.alone)
  row_told n (Claim link side number) may leaves s = (linked_told n (n.ends link side) _ (joined_link number) refl refl refl s, same_alone address n.made s.alone)
  row_told n (Know x) may leaves s = (told_known address (is_enrolled (n.agents address)) (n.agents address) n.made x leaves s.told, make_alone address n.made x leaves s.alone)
  row_told n Pass may leaves s = (s.told, s.alone)

  rows_tell : (n : Network) (rows : List Row) → IsRun n rows → AllLeaveLinkState address rows → IsTelling address n → IsTelling address (after_rows n rows)
  rows_tell n [] run leaves s = s
  rows_tell n (row ∷ rows) run leaves s =
      let r = row_told n row run.0 leaves.0 s in
      rows_tell (happens n row) rows run.1 leaves.1 (record { holds = row_holds n row s.holds run.0; told = r.0; alone = r.1 })

-- The start

own_item_of : (items : List Item) (key text : List ℕ) (o : Option Item) → kept_at items key ≡ o → option_and_then (λ (x : Item). x.value) o ≡ Some text → (x : Item) × (kept_at items key ≡ Some x) × (x.value ≡ Some text)
own_item_of items key text None e v = absurd (none-some text v)
own_item_of items key text (Some x) e v = (x, e, v)

greatest_of : (items : List Item) (key : List ℕ) (o : Option Item) (x : Item) → o ≡ Some x → MatchOption o ((y : Item) → Contains items y → y.key ≡ key → ⊥) (IsNewest items key) → (y : Item) → Contains items y → y.key ≡ key → is_below x.version y.version ≡ false
greatest_of items key None x e m y has k = absurd (none-some x e)
greatest_of items key (Some z) x e m y has k = (let P : Item → Type 0 = λ w. is_below w.version y.version ≡ false in subst P (same_Some z x e) (m.greatest y has k))

told_offered : (n : Network) (told : List Item) (i : ℕ) (key : List ℕ) (x y : Item) → KnowsAll n told i ⊎ KnowsNothing n i → kept_at (n.agents i).items key ≡ Some x → Contains told y → Contains (n.offered i) y
told_offered n told i key x y (inl all) e has = (let P : List Item → Type 0 = λ items. Contains items y in subst P (sym all.1) has)
told_offered n told i key x y (inr none) e has = absurd (none-some x (ap (λ (items : List Item). kept_at items key) (sym none.0) ∙ e))

start_tells : (n : Network) (told : List Item) (address : ℕ) → Greatest → IsStart n told → TellsLinks n address → Tells address (n.agents address) n.made
start_tells n told address greatest s t =
    let a = n.agents address in
    let own = own_item_of a.items (link_key address) (link_state None a.links) (kept_at a.items (link_key address)) refl t.own in
    let h = begin_holds n told s in
    let P : List Item → Type 0 = λ items. kept_at items (link_key address) ≡ Some own.0 in
    let known = subst P (h.noted.knows address) own.1 in
    record {
      item = own.0;
      kept = own.1;
      value = own.2;
      newest = λ y e k.
          (let Q : List Item → Type 0 = λ items. Contains items y in
          greatest_of (n.offered address) (link_key address) (kept_at (taken_all [] (n.offered address)) (link_key address)) own.0 known (greatest (n.offered address) (link_key address)) y (told_offered n told address (link_key address) own.0 y (s.knows address) own.1 (subst Q s.made e)) k);
    }

start_told : (n : Network) (told : List Item) (address : ℕ) → Greatest → IsStart n told → TellsLinks n address ⊎ TellsNone n address → IsTelling address n
start_told n told address greatest s (inl t) = record { holds = begin_holds n told s; told = inl (start_tells n told address greatest s t); alone = t.by_itself }
start_told n told address greatest s (inr t) = record { holds = begin_holds n told s; told = inr (record { down = t.down; unmade = t.unmade }); alone = λ y e key. absurd (t.unmade y e key) }

-- after a run a member keeps its link state as its links are, and none newer was made; or no link of it is up, and none was made
pub telling_run : Greatest → (n : Network) (told : List Item) (rows : List Row) (i : ℕ) → IsStart n told → IsRun n rows → i < 2 ^ 32 → TellsLinks n i ⊎ TellsNone n i → AllLeaveLinkState i rows → IsTelling i (after_rows n rows)
telling_run greatest n told rows i s run fits t leaves = rows_tell i greatest fits n rows run leaves (start_told n told i greatest s t)

-- a member that told from the start tells
tells_still : (n : Network) (rows : List Row) (i : ℕ) → HasTold i (n.agents i) n.made → (TellsNot i (n.agents i) n.made → ⊥) → Tells i (n.agents i) n.made
tells_still n rows i (inl t) not = t
tells_still n rows i (inr t) not = absurd (not t)

-- what was made stays made
made_stays : (n : Network) (row : Row) (x : Item) → Contains n.made x → Contains (happens n row).made x
made_stays n (Make i key value) x e = Contains-append_left n.made (news (n.agents i) (Makes n.now key value)) x e
made_stays n (Put i number m) x e = e
made_stays n (Draw i) x e = e
made_stays n (Take link side number m) x e = Contains-append_left n.made [] x e
made_stays n (Handle link side number (ToNeighbour m) rest) x e = Contains-append_left n.made (news (n.agents (n.ends link (other side))) (Handles n.now number m)) x e
made_stays n (Handle link side number (ToMember m) rest) x e = e
made_stays n (Lose link side number) x e = Contains-append_left n.made (news (n.agents (n.ends link side)) (Loses n.now number)) x e
made_stays n (Leave link side number) x e = e
made_stays n (Drop link side left) x e = e
made_stays n (Enrol link side number i j member node) x e = Contains-append_left n.made [] x e
made_stays n (Claim link side number) x e = Contains-append_left n.made [] x e
made_stays n (Know y) x e = Contains-append_left n.made (y ∷ []) x e
made_stays n Pass x e = e

all_stay : (n : Network) (rows : List Row) (x : Item) → Contains n.made x → Contains (after_rows n rows).made x
all_stay n [] x e = e
all_stay n (row ∷ rows) x e = all_stay (happens n row) rows x (made_stays n row x e)

-- a walk that is not empty goes over a link of its first member that is up
up_both : (n : Network) (l : ℕ) (d : Side) → joins n l ≡ true → is_up n l d ≡ true
up_both n l Near e = (let both = and_parts _ _ e in both.0)
up_both n l Far e = (let both = and_parts _ _ e in both.1)

none_up : (s : EndState) (links : List Link) → ((k : ℕ) → was_up (find (is_numbered k) links) ≡ false) → was_up (link_at s links) ≡ false
none_up Unmade links down = refl
none_up (There k) links down = down k
none_up Gone links down = refl

not_not : (n : Network) (i j : ℕ) (steps : List (ℕ × Side)) → (steps ≡ [] → ⊥) → IsQuietWalk n i steps j → TellsNot i (n.agents i) n.made → ⊥
not_not n i j [] some walk t = some refl
not_not n i j (step ∷ steps) some walk t =
    let off = none_up (n.states step.0 step.1) (n.agents i).links t.down in
    both_ways (is_up n step.0 step.1) (ap (λ (k : ℕ). was_up (link_at (n.states step.0 step.1) (n.agents k).links)) walk.0 ∙ off) (up_both n step.0 step.1 walk.1)

told_links : Greatest → (n : Network) (told : List Item) (rows : List Row) (i j : ℕ) (steps : List (ℕ × Side)) → IsStart n told → IsRun n rows → i < 2 ^ 32 → TellsLinks n i ⊎ (TellsNone n i × (steps ≡ [] → ⊥)) → AllLeaveLinkState i rows → IsQuietWalk (after_rows n rows) i steps j
    → Holds (after_rows n rows) × Tells i ((after_rows n rows).agents i) (after_rows n rows).made
told_links greatest n told rows i j steps s run fits (inl t) leaves walk =
    let end = telling_run greatest n told rows i s run fits (inl t) leaves in
    let own = start_tells n told i greatest s t in
    let was = kept_made greatest n (begin_holds n told s) i (link_key i) own.item own.kept in
    (end.holds, tells_still (after_rows n rows) rows i end.told (λ (not : TellsNot i ((after_rows n rows).agents i) (after_rows n rows).made). not.unmade own.item (all_stay n rows own.item was) (found_key (n.agents i).items (link_key i) own.item own.kept)))
told_links greatest n told rows i j steps s run fits (inr t) leaves walk =
    let end = telling_run greatest n told rows i s run fits (inr t.0) leaves in
    (end.holds, tells_still (after_rows n rows) rows i end.told (not_not (after_rows n rows) i j steps t.1 walk))

pub quiet_tells : Greatest → QuietTellsLinks
quiet_tells greatest n told rows i j steps s run fits t leaves walk =
    let end = told_links greatest n told rows i j steps s run fits t leaves walk in
    let tells = end.1 in
    let equal = walk_equal greatest (after_rows n rows) i j steps (link_key i) end.0 walk in
    ap (λ (o : Option Item). option_and_then (λ (x : Item). x.value) o) (sym equal ∙ tells.kept) ∙ tells.value
