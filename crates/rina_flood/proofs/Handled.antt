-- A text that came is handled, or passed over.
use Rattle.std.proofs.Common.{◌≡◌, ℕ, suc, ◌≤◌, Bool, List, ◌∷◌, Some, drop, length, slice_get, slice_set, refl, sym, ◌∙◌, ap, subst, inl, inr, arith, ◌-◌}
use Rattle.std.proofs.lemmas.List.{length_push}
use Rattle.std.proofs.lemmas.Option.{slice_get_within}
use Rattle.rina_enrol.specs.declared.message.LinkMessage.{LinkMessage}
use Rattle.rina_agent.specs.declared.message.ManagementMessage.{ManagementMessage}
use Rattle.rina_agent.specs.declared.message.ManagementMessage.TheVariants.{ToNeighbour, ToMember}
use Rattle.rina_agent.specs.Enrolled.{Handles, done}
use Rattle.rina_plan.specs.declared.dif.LinkPlan.{LinkPlan}
use Rattle.rina_member.specs.Managements.{IsSdu, IsSduOf}
use Rattle.rina_flood.specs.Network.{Side, other, Network, Handle, put_sent}
use Rattle.rina_flood.specs.Static.{end_place}
use Rattle.rina_flood.specs.Members.{Adds, AreTexts, HandlesMessage, IsRunOf, MembersSeen, PassesOver}
use Rattle.rina_flood.proofs.Places.{drop_at, direction_case, same_direction, other_back}
use Rattle.rina_flood.proofs.Static.{places_apart}
use Rattle.rina_alloc.specs.declared.message.FlowMessage.{FlowMessage}
use Rattle.rina_flood.proofs.Members.{alike_run, at_end, called_at, changed, more_rows, net, text_is, texts_first}

-- One text more counts as handled

module _ (is_static : Bool) (plans : List LinkPlan) (old : MembersSeen) (r : IsRunOf is_static plans old) (l : ℕ) (d : Side) (text : List ℕ) (next : slice_get (old.sent (end_place l d)) (length (old.got (end_place l (other d)))) ≡ Some text) (got : ℕ → List (List ℕ)) (more : Adds (end_place l (other d)) text old.got got) where
  abbrev n : Network
  n = net is_static plans old r

  abbrev place : ℕ
  place = end_place l (other d)

  abbrev count : ℕ
  count = length (old.got place)

  -- the message that is sent first in the direction is the one of the text
  first_sent : (m : ManagementMessage) × (rest : List ManagementMessage) × (n.sent l d ≡ m ∷ rest) × IsSduOf m text × AreTexts rest (drop (suc count) (old.sent (end_place l d)))
  first_sent =
      let T : List (List ℕ) → Type 0 = λ ts. AreTexts (n.sent l d) ts in
      texts_first (n.sent l d) text (drop (suc count) (old.sent (end_place l d))) (subst T (drop_at (old.sent (end_place l d)) count text next) (r.is.sent l d))

  longer : length (got place) ≡ suc count
  longer = ap (λ (ts : List (List ℕ)). length ts) more.here ∙ length_push (old.got place) text ∙ omega arith

  elsewhere : (k : ℕ) (e : Side) → ((k ≡ l) × (e ≡ d) → ⊥) → got (end_place k (other e)) ≡ old.got (end_place k (other e))
  elsewhere k e apart = more.elsewhere (end_place k (other e)) (λ same. (let is = places_apart k (other e) l (other d) same in apart (is.0, sym (other_back e) ∙ ap other is.1 ∙ other_back d)))

  fewer_got : (k : ℕ) (e : Side) → length (got (end_place k (other e))) ≤ length (old.sent (end_place k e))
  fewer_got k e = elim (same_direction l d k e) [
    | inl same ↦
        (let Q : ℕ → Type 0 = λ j. length (got (end_place j (other e))) ≤ length (old.sent (end_place j e)) in
        let R : Side → Type 0 = λ t. length (got (end_place l (other t))) ≤ length (old.sent (end_place l t)) in
        let within = slice_get_within (old.sent (end_place l d)) count text next in
        let long = longer in
        subst Q (sym same.0) (subst R (sym same.1) (omega (arith, long, within))))
    | inr apart ↦ (let Q : List (List ℕ) → Type 0 = λ ts. length ts ≤ length (old.sent (end_place k e)) in subst Q (sym (elsewhere k e apart)) (r.is.fewer k e))
  ]

  texts_got : (k : ℕ) (e : Side) → AreTexts (put_sent l d first_sent.1 n.sent k e) (drop (length (got (end_place k (other e)))) (old.sent (end_place k e)))
  texts_got k e =
      direction_case (λ (ms : List ManagementMessage). AreTexts ms (drop (length (got (end_place k (other e)))) (old.sent (end_place k e)))) l d k e first_sent.1 (n.sent k e)
      (λ a b. (let Q : ℕ → Type 0 = λ j. AreTexts first_sent.1 (drop (length (got (end_place j (other e)))) (old.sent (end_place j e))) in
      let R : Side → Type 0 = λ t. AreTexts first_sent.1 (drop (length (got (end_place l (other t)))) (old.sent (end_place l t))) in
      let U : ℕ → Type 0 = λ j. AreTexts first_sent.1 (drop j (old.sent (end_place l d))) in
      subst Q (sym a) (subst R (sym b) (subst U (sym longer) first_sent.4))))
      (λ apart. (let U : List (List ℕ) → Type 0 = λ ts. AreTexts (n.sent k e) (drop (length ts) (old.sent (end_place k e))) in
      subst U (sym (elsewhere k e apart)) (r.is.sent k e)))

-- It is that of a message of a neighbour

pub handles_run : (is_static : Bool) (plans : List LinkPlan) (old new : MembersSeen) → IsRunOf is_static plans old → HandlesMessage old new → IsRunOf is_static plans new
handles_run is_static plans old new r h =
    let n = net is_static plans old r in
    let l = h.link in
    let d = h.side in
    let at = at_end is_static plans old r l (other d) h.end h.agent h.at in
    let first = first_sent is_static plans old r l d h.text h.next new.got h.got in
    let rest = first.1 in
    let may : n.sent l d ≡ ToNeighbour h.message ∷ rest = first.2 ∙ ap (λ (x : ManagementMessage). x ∷ rest) (text_is h.message first.0 h.text h.written first.3) in
    let event : Handles n.now h.number h.message ≡ Handles old.now h.number h.message = ap (λ (t : ℕ). Handles t h.number h.message) r.is.now in
    let are = called_at n.agents (n.ends l (other d)) at.0.addr h.agent h.after (Handles n.now h.number h.message) (Handles old.now h.number h.message) at.2 at.4 event (ap (λ o. done h.agent o) h.handles) in
    let s' : MembersSeen = record old { agents = slice_set old.agents h.end.member h.after; got = new.got } in
    alike_run is_static plans s' new (more_rows is_static plans old r s' (Handle l d h.number (ToNeighbour h.message) rest) refl r.short (at.3 ∙ h.there, may) tt
    (changed is_static plans old r h.end.member at.0 h.agent h.after at.1 h.at.is_agent _ (put_sent l d rest n.sent) _ _ old.sent new.got are (fewer_got is_static plans old r l d h.text h.next new.got h.got) (texts_got is_static plans old r l d h.text h.next new.got h.got))) h.stays.members h.stays.ends h.now h.agents h.sent (λ k. refl)

-- It is passed over

-- the bytes of no message of a neighbour are those of a message about a flow
flow_is : (m : ManagementMessage) (text : List ℕ) → ((k : LinkMessage) → IsSdu k text → ⊥) → IsSduOf m text → (f : FlowMessage) × (m ≡ ToMember f)
flow_is (ToNeighbour k) text none is = absurd (none k is)
flow_is (ToMember f) text none is = (f, refl)

pub passes_run : (is_static : Bool) (plans : List LinkPlan) (old new : MembersSeen) → IsRunOf is_static plans old → PassesOver old new → IsRunOf is_static plans new
passes_run is_static plans old new r h =
    let n = net is_static plans old r in
    let l = h.link in
    let d = h.side in
    let at = at_end is_static plans old r l (other d) h.end h.agent h.at in
    let first = first_sent is_static plans old r l d h.text h.next new.got h.got in
    let rest = first.1 in
    let flow = flow_is first.0 h.text h.none first.3 in
    let may : n.sent l d ≡ ToMember flow.0 ∷ rest = first.2 ∙ ap (λ (x : ManagementMessage). x ∷ rest) flow.1 in
    alike_run is_static plans (record old { got = new.got }) new (more_rows is_static plans old r (record old { got = new.got }) (Handle l d h.number (ToMember flow.0) rest) refl r.short (at.3 ∙ h.there, may) tt (record {
      now = r.is.now;
      aligned = r.is.aligned;
      agents = r.is.agents;
      others = r.is.others;
      within = r.is.within;
      ends = r.is.ends;
      unmade = r.is.unmade;
      fewer = fewer_got is_static plans old r l d h.text h.next new.got h.got;
      sent = texts_got is_static plans old r l d h.text h.next new.got h.got;
    })) h.stays.members h.stays.ends h.now h.agents h.sent (λ k. refl)
