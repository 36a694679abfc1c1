-- What a member of a static DIF has: the live links of the plan before those that enrolments made, from the start, also once links are made and
-- lost, and while it handles messages.
use Rattle.std.proofs.Common.{◌≡◌, ◌∙◌, ⊎_elim, ℕ, ◌+◌, ◌<◌, ◌≤◌, ◌==◌, zero, suc, ltb, Bool, true, false, cond, not, List, [], ◌∷◌, ◌++◌, Option, Some, None, IsSome, is_some, Result, Ok, Contains, length, get_or, map, filter, take, drop, slice_get, slice_set, length-set, refl, sym, ap, subst, arith}
use Rattle.std.specs.Prelude.{find, option_map, position}
use Rattle.std.specs.List.{cons_option}
use Rattle.std.proofs.lemmas.Bool.{cases_Bool, eq-eqb, eqb-true, ltb-false, ltb-true, ne_eqb, true≢false}
use Rattle.std.proofs.lemmas.List.{append_assoc, append-nil, append_cancel_left, length-append, map-append, take-append-drop, take-append-le, take-set-le, take_all}
use Rattle.std.proofs.lemmas.List.Elements.{Contains-append_cases, filter-append}
use Rattle.std.proofs.lemmas.Option.{none-some, same_Some, slice_get-get_or}
use Rattle.std.proofs.Math.Seq.{take-set-lt}
use Rattle.rina_graph.specs.declared.graph.Edge.{Edge}
use Rattle.rina_route.specs.declared.link.Link.{Link as Hop}
use Rattle.rina_route.specs.Routes.{edge}
use Rattle.rina_route.proofs.Lists.{cases, contains_filter, contains_map, contains_unmap, head, in_none, tail}
use Rattle.rina_access.specs.declared.rules.Rules.{Rules}
use Rattle.rina_newest.specs.declared.item.Item.{Item}
use Rattle.rina_newest.specs.Newest.{is_newer, kept_at, taken}
use Rattle.rina_enrol.specs.declared.message.LinkMessage.{LinkMessage}
use Rattle.rina_agent.specs.declared.agent.Agent.{Agent}
use Rattle.rina_agent.specs.declared.enrolment.Enrolment.{Enrolment}
use Rattle.rina_agent.specs.declared.link.Link.{Link as Managed}
use Rattle.rina_agent.specs.declared.state.AgentError.{AgentError}
use Rattle.rina_agent.specs.declared.state.MemberState.{MemberState}
use Rattle.rina_agent.specs.declared.state.MemberState.TheVariants.{Outside, Joining, Enrolled, Denied}
use Rattle.rina_agent.specs.Agenda.{floods, without_at}
use Rattle.rina_agent.specs.Counts.{next_of, spent, unless}
use Rattle.rina_agent.specs.Enrolments.{is_numbered, place_of}
use Rattle.rina_agent.specs.Items.{stated}
use Rattle.rina_agent.specs.Rows
use Rattle.rina_agent.specs.Rows.{dropped, joined_link, joining, joining_link, lost, was_up}
use Rattle.rina_plan.specs.declared.dif.LinkPlan.{LinkPlan}
use Rattle.rina_data.specs.declared.link.Link.{Link}
use Rattle.rina_data.specs.declared.settings.Member.{Member}
use Rattle.rina_member.specs.declared.management.Management.{Management}
use Rattle.rina_member.specs.Knowing.{AreHopsOfPlan, AreNumbered, HasLiveLink, IsPlanned, Knows, hop_of, hops_of, laid_links, live_numbers, made_links, managed_numbers}
use Rattle.rina_member.specs.Managements.{Handles, claimed}
use Rattle.rina_member.specs.Routing.{edges_from, live_links, live_of, own_link, own_links}
use Rattle.rina_member.specs.Start.{managed_link, started}
use Rattle.rina_member.proofs.ByRows.{IsHeard, KeptStop, PutOr, handled_rows}
use Rattle.rina_member.proofs.Changing.{link_lives}
use Rattle.rina_member.proofs.Laying.{own_is}
use Rattle.rina_member.proofs.Lists.{at_place, both_true, is_there, keeps_all, kept, made_of, makes}
use Rattle.rina_member.proofs.Removing.{gone, hop_number, is_other, place_cases, without_is}
use Rattle.rina_member.proofs.Starting.{all_enrolled, linked_numbers}
use Rattle.rina_member.proofs.Tells.{from_without}

-- Links of different numbers

turn : (a b : ℕ) → (a == b) ≡ (b == a)
turn a b = both_true (a == b) (b == a) (λ h. eq-eqb b a (sym (eqb-true a b h))) (λ h. eq-eqb a b (sym (eqb-true b a h)))

abbrev pub Apart : List Hop → Type 0
Apart [] = Unit {0}
Apart (h ∷ hs) = ((other : Hop) → Contains hs other → h.number ≡ other.number → ⊥) × Apart hs

others_stay : (number : ℕ) (hs : List Hop) → ((other : Hop) → Contains hs other → number ≡ other.number → ⊥) → filter (is_other number) hs ≡ hs
others_stay number hs apart = keeps_all (is_other number) hs (λ other among. ap not (ne_eqb number other.number (apart other among)))

leaves_step : (number : ℕ) (h : Hop) (hs : List Hop) (b : Bool) → (b ≡ true → filter (is_other number) hs ≡ hs) → gone (is_numbered number) (map managed_link hs) ≡ map managed_link (filter (is_other number) hs)
    → cond b (map managed_link hs) (managed_link h ∷ gone (is_numbered number) (map managed_link hs)) ≡ map managed_link (cond (not b) (h ∷ filter (is_other number) hs) (filter (is_other number) hs))
leaves_step number h hs true all more = ap (λ (ls : List Hop). map managed_link ls) (sym (all refl))
leaves_step number h hs false all more = ap (λ (ls : List Managed). managed_link h ∷ ls) more

leaves : (number : ℕ) (hs : List Hop) → Apart hs → gone (is_numbered number) (map managed_link hs) ≡ map managed_link (filter (is_other number) hs)
leaves number [] apart = refl
leaves number (h ∷ hs) apart =
    ap (λ (b : Bool). cond b (map managed_link hs) (managed_link h ∷ gone (is_numbered number) (map managed_link hs))) (turn h.number number)
    ∙ leaves_step number h hs (number == h.number) (λ is. others_stay number hs (λ other among same. apart.0 other among (sym (eqb-true number h.number is) ∙ same))) (leaves number hs apart.1)

-- The live links, by the places of links

abbrev From : ℕ → List Link → Type 0
From j links = (k : ℕ) (link : Link) → slice_get links k ≡ Some link → link.number ≡ j + k

from_rest : (j : ℕ) (x : Link) (xs : List Link) → From j (x ∷ xs) → From (j + 1) xs
from_rest j x xs from k link is = (let n = from (suc k) link is in omega (arith, n))

from_first : (j : ℕ) (x : Link) (xs : List Link) → From j (x ∷ xs) → x.number ≡ j
from_first j x xs from = (let n = from zero x refl in omega (arith, n))

module _ (es : List Edge) where
  abbrev live : List Link → List Hop
  live links = own_links es (live_of links)

  same_number : (link : Link) (h : Hop) → own_link es link ≡ Some h → h.number ≡ link.number
  same_number link h is = ap (λ (x : Hop). x.number) (own_is es link h is).2

  above : (j : ℕ) (links : List Link) (h : Hop) → From j links → Contains (live links) h → j ≤ h.number
  above j links h from among =
      let r = made_of (own_link es) (live_of links) h among in
      let s = contains_filter (λ (l : Link). l.live) links r.0 r.1 in
      let n = from s.0.0 r.0 (at_place links r.0 s.0) in
      let m = same_number r.0 h r.2 in
      omega (arith, n, m)

  apart_made : (j : ℕ) (x : Link) (xs : List Link) (o : Option Hop) → x.number ≡ j → own_link es x ≡ o → From (j + 1) xs → Apart (live xs) → Apart (cons_option o (live xs))
  apart_made j x xs None number is from rest = rest
  apart_made j x xs (Some h) number is from rest = ((λ other among same. (let high = above (j + 1) xs other from among in let low = same_number x h is in omega (arith, high, low, same, number))), rest)

  apart_live : (j : ℕ) (x : Link) (xs : List Link) (b : Bool) → x.number ≡ j → From (j + 1) xs → Apart (live xs) → Apart (own_links es (cond b (x ∷ live_of xs) (live_of xs)))
  apart_live j x xs true number from rest = apart_made j x xs (own_link es x) number refl from rest
  apart_live j x xs false number from rest = rest

  apart_from : (j : ℕ) (links : List Link) → From j links → Apart (live links)
  apart_from j [] from = tt
  apart_from j (x ∷ xs) from = apart_live j x xs x.live (from_first j x xs from) (from_rest j x xs from) (apart_from (j + 1) xs (from_rest j x xs from))

  pub apart_links : (links : List Link) → AreNumbered links → Apart (live links)
  apart_links links numbered = apart_from 0 links (λ k link is. (let n = numbered k link is in omega (arith, n)))

  -- the lost link is the first of the rest
  here_made : (number : ℕ) (xs : List Hop) (o : Option Hop) → ((h : Hop) → o ≡ Some h → number ≡ h.number) → filter (is_other number) xs ≡ xs → xs ≡ filter (is_other number) (cons_option o xs)
  here_made number xs None its rest = sym rest
  here_made number xs (Some h) its rest = sym (ap (λ (b : Bool). cond (not b) (h ∷ filter (is_other number) xs) (filter (is_other number) xs)) (eq-eqb number h.number (its h refl)) ∙ rest)

  here_live : (number : ℕ) (x : Link) (xs : List Link) (b : Bool) → b ≡ true → x.number ≡ number → filter (is_other number) (live xs) ≡ live xs → live xs ≡ filter (is_other number) (own_links es (cond b (x ∷ live_of xs) (live_of xs)))
  here_live number x xs true is its rest = here_made number (live xs) (own_link es x) (λ h made. sym its ∙ sym (same_number x h made)) rest
  here_live number x xs false is its rest = absurd (true≢false (sym is))

  -- or stands behind it
  behind_made : (number : ℕ) (ys xs : List Hop) (o : Option Hop) → ((h : Hop) → o ≡ Some h → number ≡ h.number → ⊥) → ys ≡ filter (is_other number) xs → cons_option o ys ≡ filter (is_other number) (cons_option o xs)
  behind_made number ys xs None other rest = rest
  behind_made number ys xs (Some h) other rest =
      ap (λ (ls : List Hop). h ∷ ls) rest ∙ sym (ap (λ (b : Bool). cond (not b) (h ∷ filter (is_other number) xs) (filter (is_other number) xs)) (ne_eqb number h.number (other h refl)))

  behind_live : (number : ℕ) (x : Link) (ys xs : List Link) (b : Bool) → (number ≡ x.number → ⊥) → live ys ≡ filter (is_other number) (live xs)
      → own_links es (cond b (x ∷ live_of ys) (live_of ys)) ≡ filter (is_other number) (own_links es (cond b (x ∷ live_of xs) (live_of xs)))
  behind_live number x ys xs true other rest = behind_made number (live ys) (live xs) (own_link es x) (λ h made same. other (same ∙ same_number x h made)) rest
  behind_live number x ys xs false other rest = rest

  lost_from : (j : ℕ) (links : List Link) (k : ℕ) (link : Link) → From j links → slice_get links k ≡ Some link → link.live ≡ true
      → live (slice_set links k (record link { live = false })) ≡ filter (is_other link.number) (live links)
  lost_from j [] k link from is alive = absurd cc
  lost_from j (x ∷ xs) zero link from is alive =
      let same : x ≡ link = same_Some x link is in
      let first : x.number ≡ j = from_first j x xs from in
      let number : x.number ≡ link.number = ap (λ (l : Link). l.number) same in
      here_live link.number x xs x.live (ap (λ (l : Link). l.live) same ∙ alive) number
      (others_stay link.number (live xs) (λ other among equal. (let high = above (j + 1) xs other (from_rest j x xs from) among in omega (arith, high, first, number, equal))))
  lost_from j (x ∷ xs) (suc k) link from is alive =
      let first : x.number ≡ j = from_first j x xs from in
      let number : link.number ≡ j + suc k = from (suc k) link is in
      behind_live link.number x (slice_set xs k (record link { live = false })) xs x.live (λ equal. omega (arith, first, number, equal)) (lost_from (j + 1) xs k link (from_rest j x xs from) is alive)

  -- the live links once the one at a place is lost: those of other numbers
  pub lost_link : (links : List Link) (k : ℕ) (link : Link) → AreNumbered links → slice_get links k ≡ Some link → link.live ≡ true
      → live (slice_set links k (record link { live = false })) ≡ filter (is_other link.number) (live links)
  lost_link links k link numbered is alive = lost_from 0 links k link (λ i l at. (let n = numbered i l at in omega (arith, n))) is alive

pub still_numbered : (links : List Link) (k : ℕ) (link : Link) → AreNumbered links → slice_get links k ≡ Some link → AreNumbered (slice_set links k (record link { live = false }))
still_numbered links k link numbered is i l at = ⊎_elim
    (λ both. sym (ap (λ (x : Link). x.number) both.1) ∙ numbered k link is ∙ sym both.0)
    (λ old. numbered i l old)
    (place_cases links k i (record link { live = false }) l at)

-- Elements before others

-- where one of the first passes, that one is gone
front_step : {A : Type 0} (p : A → Bool) (y : A) (xs ys : List A) (b : Bool) → (b ≡ false → gone p (xs ++ ys) ≡ gone p xs ++ ys) → cond b (xs ++ ys) (y ∷ gone p (xs ++ ys)) ≡ cond b xs (y ∷ gone p xs) ++ ys
front_step p y xs ys true more = refl
front_step p y xs ys false more = ap (λ zs. y ∷ zs) (more refl)

gone_front : {A : Type 0} (p : A → Bool) (xs ys : List A) (x : A) → Contains xs x → p x ≡ true → gone p (xs ++ ys) ≡ gone p xs ++ ys
gone_front p [] ys x has passes = absurd (in_none x has)
gone_front p (y ∷ xs) ys x has passes =
    ⊎_elim
    (λ same. ap (λ (b : Bool). cond b (xs ++ ys) (y ∷ gone p (xs ++ ys))) (ap p same ∙ passes) ∙ sym (ap (λ (b : Bool). cond b xs (y ∷ gone p xs) ++ ys) (ap p same ∙ passes)))
    (λ rest. front_step p y xs ys (p y) (λ fails. gone_front p xs ys x rest passes))
    (cases y xs x has)

-- where none of them does, the first that passes behind them is
gone_behind : {A : Type 0} (p : A → Bool) (xs ys : List A) → ((x : A) → Contains xs x → p x ≡ false) → gone p (xs ++ ys) ≡ xs ++ gone p ys
gone_behind p [] ys fail = refl
gone_behind p (y ∷ xs) ys fail =
    ap (λ (b : Bool). cond b (xs ++ ys) (y ∷ gone p (xs ++ ys))) (fail y (head y xs))
    ∙ ap (λ zs. y ∷ zs) (gone_behind p xs ys (λ x has. fail x (tail y xs x has)))

from_gone : {A : Type 0} (p : A → Bool) (xs : List A) (x : A) → Contains (gone p xs) x → Contains xs x
from_gone p xs x has = from_without (position p xs) xs x (subst (λ zs. Contains zs x) (sym (without_is p xs)) has)

-- what stands at a place of the first
taken_at : {X : Type 0} (n : ℕ) (xs : List X) (k : ℕ) → k < n → slice_get (take n xs) k ≡ slice_get xs k
taken_at zero xs k less = absurd (omega (arith, less))
taken_at (suc n) [] k less = refl
taken_at (suc n) (x ∷ xs) zero less = refl
taken_at (suc n) (x ∷ xs) (suc k) less = taken_at n xs k (omega (arith, less))

from_taken : {X : Type 0} (n : ℕ) (xs : List X) (k : ℕ) (x : X) → slice_get (take n xs) k ≡ Some x → (k < n) × (slice_get xs k ≡ Some x)
from_taken zero xs k x is = absurd cc
from_taken (suc n) [] k x is = absurd cc
from_taken (suc n) (y ∷ xs) zero x is = (omega arith, is)
from_taken (suc n) (y ∷ xs) (suc k) x is = (let r = from_taken n xs k x is in (omega (arith, r.0), r.1))

-- where nothing stands behind the first, nothing does once one of them is set
pub still_laid : {X : Type 0} (n : ℕ) (xs : List X) (k : ℕ) (y : X) → drop n xs ≡ [] → drop n (slice_set xs k y) ≡ []
still_laid zero xs k y none = ap (λ zs. slice_set zs k y) none
still_laid (suc n) [] k y none = refl
still_laid (suc n) (x ∷ xs) zero y none = none
still_laid (suc n) (x ∷ xs) (suc k) y none = still_laid n xs k y none

-- Links that no enrolment made, before those that enrolments made

-- links begin with these, and enrolments made the others
record Begin (front links : List Managed) : Type 0 where
  more : List Managed
  are : links ≡ front ++ more
  made : (l : Managed) → Contains more l → IsSome l.enrolment

-- no enrolment made one of these
abbrev AreFree : List Managed → Type 0
AreFree front = (l : Managed) → Contains front l → l.enrolment ≡ None

-- a link that is set stands behind them where an enrolment made the one before
set_behind : (front more : List Managed) (at : ℕ) (old l : Managed) → AreFree front → slice_get (front ++ more) at ≡ Some old → IsSome old.enrolment → (i : ℕ) × (slice_set (front ++ more) at l ≡ front ++ slice_set more i l)
set_behind [] more at old l free stands made = (at, refl)
set_behind (z ∷ front) more zero old l free stands made =
    let none : old.enrolment ≡ None = ap (λ (x : Managed). x.enrolment) (sym (same_Some z old stands)) ∙ free z (head z front) in
    absurd (true≢false (sym made ∙ ap (λ (e : Option Enrolment). is_some e) none))
set_behind (z ∷ front) more (suc at) old l free stands made =
    let r = set_behind front more at old l (λ x has. free x (tail z front x has)) stands made in
    (r.0, ap (λ (ls : List Managed). z ∷ ls) r.1)

all_made : (more : List Managed) (i : ℕ) (l : Managed) → IsSome l.enrolment → ((x : Managed) → Contains more x → IsSome x.enrolment) → (x : Managed) → Contains (slice_set more i l) x → IsSome x.enrolment
all_made more i l made each x has =
    ⊎_elim
    (λ both. subst (λ (z : Managed). IsSome z.enrolment) both.1 made)
    (λ old. each x (is_there more has.0 x old))
    (place_cases more i has.0 l x (at_place (slice_set more i l) x has))

-- once a message was heard on a link, they begin with the same
set_begin : (front links : List Managed) (at : ℕ) (l l' : Managed) → AreFree front → Begin front links → IsHeard links at l → l'.enrolment ≡ l.enrolment → Begin front (slice_set links at l')
set_begin front links at l l' free b heard same =
    let r = set_behind front b.more at heard.old l' free (subst (λ (ls : List Managed). slice_get ls at ≡ Some heard.old) b.are heard.stands) heard.was_made in
    record {
      more = slice_set b.more r.0 l';
      are = ap (λ (ls : List Managed). slice_set ls at l') b.are ∙ r.1;
      made = all_made b.more r.0 l' (subst (λ (e : Option Enrolment). IsSome e) (sym same) heard.is_made) b.made;
    }

-- Where its links stay, it stays planned

pub planned_links : (members : List Member) (plans : List LinkPlan) (m : Member) (links : List Link) (g g' : Agent) → g'.links ≡ g.links → IsPlanned members plans m links g → IsPlanned members plans m links g'
planned_links members plans m links g g' same h = record { all = h.all; numbers = h.numbers; more = h.more; links_are = same ∙ h.links_are; made = h.made }

module _ (members : List Member) (plans : List LinkPlan) (m : Member) where
  abbrev es : List Edge
  es = edges_from members m.node plans

  -- those of the plan that are live
  abbrev first_hops : List Link → List Hop
  first_hops links = live_links members plans m (laid_links members plans m links)

  abbrev firsts : List Link → List Managed
  firsts links = map managed_link (first_hops links)

  first_free : (links : List Link) → AreFree (firsts links)
  first_free links l has = (let r = contains_unmap managed_link (first_hops links) l has in ap (λ (x : Managed). x.enrolment) (sym r.2))

  begin_of : (links : List Link) (g : Agent) → IsPlanned members plans m links g → Begin (firsts links) g.links
  begin_of links g h = record { more = h.more; are = h.links_are; made = h.made }

  planned_of : (links : List Link) (g : Agent) → length es ≤ length links → AreNumbered (laid_links members plans m links) → Begin (firsts links) g.links → IsPlanned members plans m links g
  planned_of links g all numbers b = record { all = all; numbers = numbers; more = b.more; links_are = b.are; made = b.made }

  -- From the start

  pub starts_planned : (rules : Rules) (links : List Link) → Contains members m → AreNumbered links → length es ≡ length links → IsPlanned members plans m links (started true members plans rules m links)
  unfolding started
  starts_planned rules links among numbered count =
      let laid : laid_links members plans m links ≡ links = take_all (length es) links (omega (arith, count)) in
      record {
        all = omega (arith, count);
        numbers = subst AreNumbered (sym laid) numbered;
        more = [];
        links_are =
            ap (λ (b : Bool). cond b (map managed_link (live_links members plans m links)) []) (all_enrolled members m among)
            ∙ ap (λ (ls : List Link). map managed_link (live_links members plans m ls)) (sym laid)
            ∙ sym (append-nil (firsts links));
        made = λ l has. absurd (in_none l has);
      }

  -- A new link stands behind

  more_planned : (links : List Link) (g g' : Agent) (link : Link) (l : Managed) → g'.links ≡ g.links ++ l ∷ [] → IsSome l.enrolment → IsPlanned members plans m links g → IsPlanned members plans m (links ++ link ∷ []) g'
  more_planned links g g' link l is made h =
      let laid : laid_links members plans m (links ++ link ∷ []) ≡ laid_links members plans m links = take-append-le (length es) links (link ∷ []) h.all in
      let count = length-append links (link ∷ []) in
      record {
        all = omega (arith, h.all, count);
        numbers = subst AreNumbered (sym laid) h.numbers;
        more = h.more ++ l ∷ [];
        links_are =
            is ∙ ap (λ (ls : List Managed). ls ++ l ∷ []) h.links_are ∙ append_assoc (firsts links) h.more (l ∷ [])
            ∙ ap (λ (ls : List Link). map managed_link (live_links members plans m ls) ++ (h.more ++ l ∷ [])) (sym laid);
        made = λ x has. ⊎_elim (λ old. h.made x old) (λ new. ⊎_elim (λ same. subst (λ (z : Managed). IsSome z.enrolment) same made) (λ none. absurd (in_none x none)) (cases l [] x new)) (Contains-append_cases h.more (l ∷ []) x has);
      }

  pub joins_planned : (links : List Link) (g : Agent) (link : Link) (member node : List ℕ) → IsPlanned members plans m links g → IsPlanned members plans m (links ++ link ∷ []) (joining g link.number member node)
  joins_planned links g link member node h = more_planned links g (joining g link.number member node) link (joining_link link.number (next_of g.last_invoke) node) refl refl h

  pub claims_planned : (links : List Link) (g : Agent) (link : Link) → IsPlanned members plans m links g → IsPlanned members plans m (links ++ link ∷ []) (claimed g link.number)
  claims_planned links g link h = more_planned links g (claimed g link.number) link (joined_link link.number) refl refl h

  -- Those that are up

  hops_again : (hops : List Hop) (more : List Managed) → hops_of (map managed_link hops ++ more) ≡ hops ++ hops_of more
  hops_again [] more = refl
  hops_again (h ∷ hops) more = ap (λ (hs : List Hop). h ∷ hs) (hops_again hops more)

  module _ (now : ℕ) (links : List Link) (g : Agent) (h : IsPlanned members plans m links g) (knows : Knows now m links g) where
    -- the further ones have the numbers of the live links that enrolments made
    first_numbers : managed_numbers (firsts links) ≡ live_numbers (laid_links members plans m links)
    first_numbers = linked_numbers es (live_of (laid_links members plans m links)) (λ l has.
        let old = contains_filter (λ (x : Link). x.live) (laid_links members plans m links) l has in
        let at = at_place (laid_links members plans m links) l old.0 in
        let number = h.numbers old.0.0 l at in
        let within = (from_taken (length es) links old.0.0 l at).0 in
        omega (arith, number, within))

    made_numbers : managed_numbers h.more ≡ live_numbers (made_links members plans m links)
    made_numbers =
        let laid : List Link = laid_links members plans m links in
        let others : List Link = made_links members plans m links in
        append_cancel_left (live_numbers laid) (managed_numbers h.more) (live_numbers others)
        (sym (ap (λ (ns : List ℕ). ns ++ managed_numbers h.more) first_numbers)
        ∙ sym (map-append (λ (l : Managed). l.number) (firsts links) h.more)
        ∙ sym (ap (λ (ls : List Managed). managed_numbers ls) h.links_are)
        ∙ knows.numbers
        ∙ ap (λ (ls : List Link). live_numbers ls) (sym (take-append-drop (length es) links))
        ∙ ap (λ (ls : List Link). map (λ (l : Link). l.number) ls) (filter-append (λ (l : Link). l.live) laid others)
        ∙ map-append (λ (l : Link). l.number) (live_of laid) (live_of others))

    pub planned_hops : AreHopsOfPlan members plans m links (hops_of g.links)
    planned_hops = record {
      more = hops_of h.more;
      are = ap (λ (ls : List Managed). hops_of ls) h.links_are ∙ hops_again (first_hops links) h.more;
      made = λ x has. (
          let r = made_of hop_of h.more x has in
          subst (λ (n : ℕ). HasLiveLink (made_links members plans m links) n) (sym (hop_number r.0 x r.2)) (link_lives (made_links members plans m links) h.more r.0 made_numbers r.1));
    }

  -- where no enrolment made a link, they are the live ones of the plan
  none_live : (links : List Link) (number : ℕ) → links ≡ [] → HasLiveLink links number → ⊥
  none_live links number none has = (let there : slice_get [] has.place ≡ Some has.link = ap (λ (ls : List Link). slice_get ls has.place) (sym none) ∙ has.stands in absurd cc)

  none_more : (hops : List Hop) → ((h : Hop) → Contains hops h → ⊥) → hops ≡ []
  none_more [] none = refl
  none_more (h ∷ hops) none = absurd (none h (head h hops))

  pub laid_alone : (links : List Link) (hops : List Hop) → AreHopsOfPlan members plans m links hops → made_links members plans m links ≡ [] → hops ≡ live_links members plans m links
  laid_alone links hops are none =
      let more : are.more ≡ [] = none_more are.more (λ h has. none_live (made_links members plans m links) h.number none (are.made h has)) in
      let laid : laid_links members plans m links ≡ links = sym (append-nil (laid_links members plans m links)) ∙ ap (λ (ls : List Link). laid_links members plans m links ++ ls) (sym none) ∙ take-append-drop (length es) links in
      are.are ∙ ap (λ (hs : List Hop). first_hops links ++ hs) more ∙ append-nil (first_hops links) ∙ ap (λ (ls : List Link). live_links members plans m ls) laid

-- A link is lost

same_done : (x y : Agent) → ◌≡◌ {A = Result Agent AgentError} (Ok x) (Ok y) → x ≡ y
same_done x y h = cc

unless_left : (o : Option AgentError) (g g' : Agent) → unless o g ≡ Ok g' → g'.links ≡ g.links
unless_left None g g' is = ap (λ (x : Agent). x.links) (same_done g' g (sym is))
unless_left (Some e) g g' is = absurd (cc)

left_by : (b : Bool) (o : Option AgentError) (g g' : Agent) (now number : ℕ) → cond b (unless o (dropped (stated (Some number) g now) number)) (Ok (dropped g number)) ≡ Ok g' → g'.links ≡ without_at (place_of number g.links) g.links
left_by true o g g' now number is = unless_left o (dropped (stated (Some number) g now) number) g' is
left_by false o g g' now number is = unless_left None (dropped g number) g' is

left : (now : ℕ) (g g' : Agent) (number : ℕ) → lost g now number ≡ Ok g' → g'.links ≡ gone (is_numbered number) g.links
left now g g' number was = left_by (was_up (find (is_numbered number) g.links)) (spent 1 g.last_count) g g' now number was ∙ without_is (is_numbered number) g.links

module _ (members : List Member) (plans : List LinkPlan) (now : ℕ) (m : Member) (links : List Link) (g g' : Agent) (k : ℕ) (link : Link) (knows : Knows now m links g) (h : IsPlanned members plans m links g) (stands : slice_get links k ≡ Some link) (alive : link.live ≡ true) (was : lost g now link.number ≡ Ok g') where
  abbrev edges : List Edge
  edges = edges_from members m.node plans

  abbrev laid : List Link
  laid = laid_links members plans m links

  abbrev links' : List Link
  links' = slice_set links k (record link { live = false })

  all' : length edges ≤ length links'
  all' = (let same = length-set links k (record link { live = false }) in let all = h.all in omega (arith, same, all))

  left_of : g'.links ≡ gone (is_numbered link.number) (firsts members plans m links ++ h.more)
  left_of = left now g g' link.number was ∙ ap (λ (ls : List Managed). gone (is_numbered link.number) ls) h.links_are

  -- one of the plan: the first of its number is that of the plan
  module _ (less : k < length edges) where
    here : slice_get laid k ≡ Some link
    here = taken_at (length edges) links k less ∙ stands

    number : link.number ≡ k
    number = h.numbers k link here

    its_hop : (o : Option Edge) → slice_get edges link.number ≡ o → (x : Hop) × (own_link edges link ≡ Some x)
    its_hop None is = absurd (none-some (get_or edges link.number (edge 0 0 0)) (sym is ∙ slice_get-get_or edges link.number (edge 0 0 0) (omega (arith, less, number))))
    its_hop (Some e) is = (record { number = link.number; peer = e.to; weight = e.weight }, ap (option_map (λ (x : Edge). record { number = link.number; peer = x.to; weight = x.weight })) is)

    passes : (x : Managed) × Contains (firsts members plans m links) x × (is_numbered link.number x ≡ true)
    passes =
        let hop = its_hop (slice_get edges link.number) refl in
        let among = kept (λ (l : Link). l.live) laid link (is_there laid k link here) alive in
        let has = makes (own_link edges) (live_of laid) link hop.0 among hop.1 in
        (managed_link hop.0, contains_map managed_link (first_hops members plans m links) hop.0 has, eq-eqb hop.0.number link.number (same_number edges link hop.0 hop.1))

    laid_is : laid_links members plans m links' ≡ slice_set laid k (record link { live = false })
    laid_is = take-set-lt (length edges) links k (record link { live = false }) less

    loses_laid : IsPlanned members plans m links' g'
    loses_laid = record {
      all = all';
      numbers = subst AreNumbered (sym laid_is) (still_numbered laid k link h.numbers here);
      more = h.more;
      links_are =
          left_of
          ∙ gone_front (is_numbered link.number) (firsts members plans m links) h.more passes.0 passes.1 passes.2
          ∙ ap (λ (ls : List Managed). ls ++ h.more)
          (leaves link.number (first_hops members plans m links) (apart_links edges laid h.numbers)
          ∙ ap (λ (hs : List Hop). map managed_link hs) (sym (lost_link edges laid k link h.numbers here alive))
          ∙ ap (λ (ls : List Link). map managed_link (live_links members plans m ls)) (sym laid_is));
      made = h.made;
    }

  -- one that an enrolment made: no live link of the plan has its number
  module _ (past : length edges ≤ k) where
    other : (x : Managed) → Contains (firsts members plans m links) x → is_numbered link.number x ≡ false
    other x has =
        let r = contains_unmap managed_link (first_hops members plans m links) x has in
        let s = made_of (own_link edges) (live_of laid) r.0 r.1 in
        let t = contains_filter (λ (l : Link). l.live) laid s.0 s.1 in
        let at = from_taken (length edges) links t.0.0 s.0 (at_place laid s.0 t.0) in
        ne_eqb x.number link.number (λ same.
        let place = knows.apart t.0.0 k s.0 link at.1 stands t.1 alive (sym (same_number edges s.0 r.0 s.2) ∙ ap (λ (z : Managed). z.number) r.2 ∙ same) in
        let within = at.0 in
        omega (arith, place, within, past))

    laid_stays : laid_links members plans m links' ≡ laid
    laid_stays = take-set-le (length edges) links k (record link { live = false }) past

    loses_made : IsPlanned members plans m links' g'
    loses_made = record {
      all = all';
      numbers = subst AreNumbered (sym laid_stays) h.numbers;
      more = gone (is_numbered link.number) h.more;
      links_are =
          left_of
          ∙ gone_behind (is_numbered link.number) (firsts members plans m links) h.more other
          ∙ ap (λ (ls : List Link). map managed_link (live_links members plans m ls) ++ gone (is_numbered link.number) h.more) (sym laid_stays);
      made = λ l has. h.made l (from_gone (is_numbered link.number) h.more l has);
    }

  pub loses_planned : IsPlanned members plans m links' g'
  loses_planned = ⊎_elim (λ less. loses_laid (ltb-true k (length edges) less)) (λ past. loses_made (ltb-false k (length edges) past)) (cases_Bool (ltb k (length edges)))

-- A message is handled

module _ (front : List Managed) (free : AreFree front) where
  abbrev Begins : Agent → Type 0
  Begins a = Begin front a.links

  took_begins : (newer : Bool) (k : ℕ) (a : Agent) (item : Item) → Begins a → Begins (cond newer (record a { items = taken a.items item; agenda = a.agenda ++ floods (Some k) item a.links }) a)
  took_begins true k a item b = b
  took_begins false k a item b = b

  introduced_links : (s : MemberState) (a : Agent) (now : ℕ) → (Rows.introduced_in s a now).links ≡ a.links
  introduced_links Outside a now = refl
  introduced_links (Joining link) a now = refl
  introduced_links Enrolled a now = refl
  introduced_links (Denied rule) a now = refl

  stops : (a : Agent) (now : ℕ) → Begins a → KeptStop Begins a now
  stops a now b at l invoke heard may =
      let peer : Option ℕ = Rows.peer_by l.enrolment (Rows.introduced a now).items in
      subst (λ (ls : List Managed). Begin front (slice_set ls at (Rows.up_link peer l))) (sym (introduced_links a.state a now)) (set_begin front a.links at l (Rows.up_link peer l) free b heard refl)

  handles_begins : (now k : ℕ) (message : LinkMessage) (a : Agent) → Begins a → PutOr Begins (Rows.handled a now k message)
  handles_begins now k message a b = handled_rows Begins a now k message b
      (λ at l state invoke agenda heard stays. set_begin front a.links at l l free b heard refl)
      (λ at l invoke address heard same may. set_begin front a.links at l (Rows.up_link (Some address) l) free b heard refl)
      (stops a now b)
      (λ item same. took_begins (is_newer item.version (kept_at a.items item.key)) k a item b)

pub handles_planned : (members : List Member) (plans : List LinkPlan) (m : Member) (links : List Link) (now number : ℕ) (message : LinkMessage) (old new : Management) → Handles now number message old new → IsPlanned members plans m links old.agent → IsPlanned members plans m links new.agent
handles_planned members plans m links now number message old new handles h =
    let front : List Managed = firsts members plans m links in
    planned_of members plans m links new.agent h.all h.numbers
    (subst (λ (r : Result Agent AgentError). PutOr (λ a. Begin front a.links) r) handles.handles
    (handles_begins front (first_free members plans m links) now number message old.agent (begin_of members plans m links old.agent h)))
