-- The agenda of a member after it took an item, made one, or lost a link.
use Rattle.std.proofs.Common.{◌≡◌, ℕ, ◌⊎◌, Bool, true, false, ◌==◌, List, ◌++◌, Contains, Option, Some, None, refl, sym, ◌∙◌, ap, subst, inl, inr}
use Rattle.std.specs.Prelude.{find, is_some}
use Rattle.std.proofs.lemmas.Bool.{cases_Bool, both_ways, eqb-true, eq-eqb}
use Rattle.std.proofs.lemmas.Option.{none-some}
use Rattle.rina_enrol.specs.declared.message.LinkMessage.TheVariants as messages
use Rattle.rina_newest.specs.declared.item.Item.{Item}
use Rattle.rina_agent.specs.declared.link.Link.{Link}
use Rattle.rina_agent.specs.declared.message.ManagementMessage.{ManagementMessage}
use Rattle.rina_agent.specs.declared.message.ManagementMessage.TheVariants.{ToNeighbour}
use Rattle.rina_agent.specs.declared.message.Waiting.{Waiting}
use Rattle.rina_agent.specs.Agenda.{waiting_on, floods, is_out, without_link}
use Rattle.rina_agent.specs.Enrolments.{is_numbered}
use Rattle.rina_agent.specs.Rows.{was_up}
use Rattle.rina_flood.specs.Network.{EndState, Unmade, There, Gone, link_at, waiting_at, AreApart}
use Rattle.rina_flood.proofs.Calls.{AreFewer}
use Rattle.rina_flood.proofs.Messages.{waits_from, waits_old, waits_new, floods_from, floods_has, lost_waits, spared_wait, without_number, lost_link, spared_link, apart_kept}
use Rattle.rina_flood.proofs.Places.{nothing_in}

-- Of an agenda before and after, and the links after: what is new is floods of an item, what is old stays on the links that are up, and each
-- of these but one is flooded where the item is newer
pub record AreFlooded (newer : Bool) (x : Item) (back : ℕ → Type 0) (before after : List Waiting) (links : List Link) : Type 0 where
  pub follows : (k : ℕ) (m : ManagementMessage) → Contains (waiting_on k after) m → Contains (waiting_on k before) m ⊎ (ToNeighbour (messages.Flood x) ≡ m)
  pub remains : (k : ℕ) (m : ManagementMessage) → was_up (find (is_numbered k) links) ≡ true → Contains (waiting_on k before) m → Contains (waiting_on k after) m
  pub reaches : (k : ℕ) → newer ≡ true → was_up (find (is_numbered k) links) ≡ true → back k ⊎ Contains (waiting_on k after) (ToNeighbour (messages.Flood x))

-- so at each end
pub follows_at : (newer : Bool) (x : Item) (back : ℕ → Type 0) (before after : List Waiting) (links : List Link) → AreFlooded newer x back before after links → (s : EndState) (m : ManagementMessage) → Contains (waiting_at s after) m → Contains (waiting_at s before) m ⊎ (ToNeighbour (messages.Flood x) ≡ m)
follows_at newer x back before after links f Unmade m e = inl e
follows_at newer x back before after links f (There k) m e = f.follows k m e
follows_at newer x back before after links f Gone m e = inl e

pub remains_at : (newer : Bool) (x : Item) (back : ℕ → Type 0) (before after : List Waiting) (links : List Link) → AreFlooded newer x back before after links → (s : EndState) (m : ManagementMessage) → was_up (link_at s links) ≡ true → Contains (waiting_at s before) m → Contains (waiting_at s after) m
remains_at newer x back before after links f Unmade m up e = e
remains_at newer x back before after links f (There k) m up e = f.remains k m up e
remains_at newer x back before after links f Gone m up e = e

pub reaches_at : (newer : Bool) (x : Item) (back : ℕ → Type 0) (before after : List Waiting) (links : List Link) → AreFlooded newer x back before after links → (s : EndState) → newer ≡ true → was_up (link_at s links) ≡ true → ((k : ℕ) × (s ≡ There k) × back k) ⊎ Contains (waiting_at s after) (ToNeighbour (messages.Flood x))
reaches_at newer x back before after links f Unmade n up = absurd (both_ways true (sym up) refl)
reaches_at newer x back before after links f (There k) n up = elim (f.reaches k n up) [ inl b ↦ inl (k, refl, b) | inr e ↦ inr e ]
reaches_at newer x back before after links f Gone n up = absurd (both_ways true (sym up) refl)

pub made_floods : (newer : Bool) (x : Item) (before : List Waiting) (links : List Link) → AreFlooded newer x (λ k. ⊥) before (before ++ floods None x links) links
made_floods newer x before links = record {
  follows = λ k m e. elim (waits_from k before (floods None x links) m e) [ inl old ↦ inl old | inr new ↦ inr (floods_from k None x links m new) ];
  remains = λ k m up e. waits_old k before (floods None x links) m e;
  reaches = λ k n up. inr (waits_new k before (floods None x links) (ToNeighbour (messages.Flood x)) (floods_has k None x links up refl));
}

pub took_floods : (link : ℕ) (newer : Bool) (x : Item) (before : List Waiting) (links : List Link) → AreFlooded newer x (λ k. link ≡ k) before (before ++ floods (Some link) x links) links
took_floods link newer x before links = record {
  follows = λ k m e. elim (waits_from k before (floods (Some link) x links) m e) [ inl old ↦ inl old | inr new ↦ inr (floods_from k (Some link) x links m new) ];
  remains = λ k m up e. waits_old k before (floods (Some link) x links) m e;
  reaches = λ k n up. elim (cases_Bool (link == k)) [
    | inl is ↦ inl (eqb-true link k is)
    | inr isnt ↦ inr (waits_new k before (floods (Some link) x links) (ToNeighbour (messages.Flood x)) (floods_has k (Some link) x links up isnt))
  ];
}

pub left_alone : (back : ℕ → Type 0) (x : Item) (before : List Waiting) (links : List Link) → AreFlooded false x back before before links
left_alone back x before links = record { follows = λ k m e. inl e; remains = λ k m up e. e; reaches = λ k n up. absurd (both_ways true (sym n) refl) }

up_none : (o : Option Link) → o ≡ None → was_up o ≡ true → ⊥
up_none None e up = both_ways true (sym up) refl
up_none (Some l) e up = none-some l (sym e)

-- a link that is up still is not the lost one
spared : (link k : ℕ) (links : List Link) → AreApart links → was_up (find (is_numbered k) (without_number link links)) ≡ true → k ≡ link → ⊥
spared link k links apart up is =
    let P : ℕ → Type 0 = λ j. was_up (find (is_numbered j) (without_number link links)) ≡ true in
    up_none (find (is_numbered link) (without_number link links)) (lost_link link links apart) (subst P is up)

lost_from : (link k : ℕ) (ws : List Waiting) (m : ManagementMessage) → Contains (waiting_on k (without_link link ws)) m → Contains (waiting_on k ws) m
lost_from link k ws m e = elim (cases_Bool (k == link)) [
  | inl is ↦
      (let P : ℕ → Type 0 = λ j. Contains (waiting_on j (without_link link ws)) m in
      let Q : List ManagementMessage → Type 0 = λ ms. Contains ms m in
      absurd (nothing_in m (subst Q (lost_waits link ws) (subst P (eqb-true k link is) e))))
  | inr isnt ↦
      (let Q : List ManagementMessage → Type 0 = λ ms. Contains ms m in
      subst Q (spared_wait k link ws (λ is. both_ways (k == link) isnt (eq-eqb k link is))) e)
]

spared_stays : (link k : ℕ) (ws : List Waiting) (m : ManagementMessage) → (k ≡ link → ⊥) → Contains (waiting_on k ws) m → Contains (waiting_on k (without_link link ws)) m
spared_stays link k ws m apart e = (let Q : List ManagementMessage → Type 0 = λ ms. Contains ms m in subst Q (sym (spared_wait k link ws apart)) e)

pub lost_fewer : (link : ℕ) (links : List Link) → AreApart links → AreFewer links (without_number link links)
lost_fewer link links apart = record {
  up = λ k e. ap was_up (sym (spared_link k link links (spared link k links apart e))) ∙ e;
  has = λ k e. elim (cases_Bool (k == link)) [
    | inl is ↦
        (let P : ℕ → Type 0 = λ j. is_some (find (is_numbered j) (without_number link links)) ≡ true in
        absurd (both_ways true (sym (ap is_some (sym (lost_link link links apart)) ∙ subst P (eqb-true k link is) e)) refl))
    | inr isnt ↦ ap is_some (sym (spared_link k link links (λ is. both_ways (k == link) isnt (eq-eqb k link is)))) ∙ e
  ];
  apart = λ a. apart_kept link links a;
}

not_out : (link k : ℕ) → (k ≡ link → ⊥) → is_out (Some link) k ≡ false
not_out link k apart = elim (cases_Bool (link == k)) [
  | inl is ↦ absurd (apart (sym (eqb-true link k is)))
  | inr isnt ↦ isnt
]

pub lost_floods : (link : ℕ) (newer : Bool) (x : Item) (before : List Waiting) (links : List Link) → AreApart links → AreFlooded newer x (λ k. ⊥) before (without_link link (before ++ floods (Some link) x links)) (without_number link links)
lost_floods link newer x before links apart = record {
  follows = λ k m e. elim (waits_from k before (floods (Some link) x links) m (lost_from link k (before ++ floods (Some link) x links) m e)) [ inl old ↦ inl old | inr new ↦ inr (floods_from k (Some link) x links m new) ];
  remains = λ k m up e. spared_stays link k (before ++ floods (Some link) x links) m (spared link k links apart up) (waits_old k before (floods (Some link) x links) m e);
  reaches = λ k n up.
      (let off = spared link k links apart up in
      let was : was_up (find (is_numbered k) links) ≡ true = ap was_up (sym (spared_link k link links off)) ∙ up in
      inr (spared_stays link k (before ++ floods (Some link) x links) (ToNeighbour (messages.Flood x)) off (waits_new k before (floods (Some link) x links) (ToNeighbour (messages.Flood x)) (floods_has k (Some link) x links was (not_out link k off)))));
}

-- a link is lost, and no item is made
pub dropped_from_at : (link : ℕ) (s : EndState) (ws : List Waiting) (m : ManagementMessage) → Contains (waiting_at s (without_link link ws)) m → Contains (waiting_at s ws) m
dropped_from_at link Unmade ws m e = e
dropped_from_at link (There k) ws m e = lost_from link k ws m e
dropped_from_at link Gone ws m e = e

pub dropped_stays_at : (link : ℕ) (s : EndState) (ws : List Waiting) (links : List Link) (m : ManagementMessage) → AreApart links → was_up (link_at s (without_number link links)) ≡ true → Contains (waiting_at s ws) m → Contains (waiting_at s (without_link link ws)) m
dropped_stays_at link Unmade ws links m apart up e = e
dropped_stays_at link (There k) ws links m apart up e = spared_stays link k ws m (spared link k links apart up) e
dropped_stays_at link Gone ws links m apart up e = e
