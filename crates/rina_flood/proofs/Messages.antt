-- The messages that wait for each link, after floods, after the first was taken, and after a link was lost.
use Rattle.std.proofs.Common.{◌≡◌, ℕ, ◌⊎◌, true, false, not, ◌==◌, cond, List, ◌∷◌, ◌++◌, Contains, Option, Some, None, refl, sym, ◌∙◌, ap, subst, inl, inr, []}
use Rattle.std.specs.Prelude.{find}
use Rattle.std.proofs.lemmas.Bool.{cases_Bool, and_from, eqb-true, both_ways}
use Rattle.std.proofs.lemmas.Option.{none-some, same_Some}
use Rattle.std.proofs.lemmas.List.Elements.{Contains-append_cases, Contains-append_left, Contains-append_right}
use Rattle.rina_newest.specs.declared.item.Item.{Item}
use Rattle.rina_enrol.specs.declared.message.LinkMessage.TheVariants as messages
use Rattle.rina_agent.specs.declared.link.Link.{Link}
use Rattle.rina_agent.specs.declared.message.ManagementMessage.{ManagementMessage}
use Rattle.rina_agent.specs.declared.message.ManagementMessage.TheVariants.{ToNeighbour}
use Rattle.rina_agent.specs.declared.message.Waiting.{Waiting}
use Rattle.rina_agent.specs.Agenda.{waits_on, waiting_on, first_on, floods, is_out, is_flooded, flood_on, without_at, without_first, without_link}
use Rattle.rina_agent.specs.Enrolments.{is_numbered, place_of}
use Rattle.rina_agent.specs.Rows.{was_up}
use Rattle.rina_agent.proofs.Lists.{put_waits_last}
use Rattle.rina_flood.specs.Network.{EndState, Unmade, There, Gone, waiting_at, AreApart}
use Rattle.rina_flood.proofs.Places.{nothing_in, in_cons, in_first, in_rest, without_cons}

pub waits_from : (k : ℕ) (agenda more : List Waiting) (m : ManagementMessage) → Contains (waiting_on k (agenda ++ more)) m → Contains (waiting_on k agenda) m ⊎ Contains (waiting_on k more) m
waits_from k agenda more m e =
    let P : List ManagementMessage → Type 0 = λ ms. Contains ms m in
    Contains-append_cases (waiting_on k agenda) (waiting_on k more) m (subst P (put_waits_last k agenda more) e)

pub waits_old : (k : ℕ) (agenda more : List Waiting) (m : ManagementMessage) → Contains (waiting_on k agenda) m → Contains (waiting_on k (agenda ++ more)) m
waits_old k agenda more m e =
    let P : List ManagementMessage → Type 0 = λ ms. Contains ms m in
    subst P (sym (put_waits_last k agenda more)) (Contains-append_left (waiting_on k agenda) (waiting_on k more) m e)

pub waits_new : (k : ℕ) (agenda more : List Waiting) (m : ManagementMessage) → Contains (waiting_on k more) m → Contains (waiting_on k (agenda ++ more)) m
waits_new k agenda more m e =
    let P : List ManagementMessage → Type 0 = λ ms. Contains ms m in
    subst P (sym (put_waits_last k agenda more)) (Contains-append_right (waiting_on k agenda) (waiting_on k more) m e)

-- one message in front of others
front_waits : (k : ℕ) (w : Waiting) (ws : List Waiting) → waiting_on k (w ∷ ws) ≡ cond (w.link == k) (w.message ∷ waiting_on k ws) (waiting_on k ws)
front_waits k w ws = elim (cases_Bool (w.link == k)) [ inl e ↦ rw e refl | inr e ↦ rw e refl ]

pub front_is : (k : ℕ) (w : Waiting) (ws : List Waiting) (m : ManagementMessage) → Contains (waiting_on k (w ∷ ws)) m → (w.message ≡ m) ⊎ Contains (waiting_on k ws) m
front_is k w ws m e = elim (cases_Bool (w.link == k)) [
  | inl is ↦ in_cons w.message (waiting_on k ws) m (rw is at e)
  | inr isnt ↦ inr (rw isnt at e)
]

pub rest_waits : (k : ℕ) (w : Waiting) (ws : List Waiting) (m : ManagementMessage) → Contains (waiting_on k ws) m → Contains (waiting_on k (w ∷ ws)) m
rest_waits k w ws m e = elim (cases_Bool (w.link == k)) [
  | inl is ↦ rw is (in_rest w.message (waiting_on k ws) m e)
  | inr isnt ↦ rw isnt e
]

pub first_waits_there : (k : ℕ) (w : Waiting) (ws : List Waiting) → (w.link == k) ≡ true → Contains (waiting_on k (w ∷ ws)) w.message
first_waits_there k w ws is = rw is (in_first w.message (waiting_on k ws))

-- So of the messages that wait at an end

pub from_at : (s : EndState) (agenda more : List Waiting) (m : ManagementMessage) → Contains (waiting_at s (agenda ++ more)) m → Contains (waiting_at s agenda) m ⊎ Contains (waiting_at s more) m
from_at Unmade agenda more m e = inl e
from_at (There k) agenda more m e = waits_from k agenda more m e
from_at Gone agenda more m e = inl e

pub old_at : (s : EndState) (agenda more : List Waiting) (m : ManagementMessage) → Contains (waiting_at s agenda) m → Contains (waiting_at s (agenda ++ more)) m
old_at Unmade agenda more m e = e
old_at (There k) agenda more m e = waits_old k agenda more m e
old_at Gone agenda more m e = e

pub front_at : (s : EndState) (w : Waiting) (ws : List Waiting) (m : ManagementMessage) → Contains (waiting_at s (w ∷ ws)) m → (w.message ≡ m) ⊎ Contains (waiting_at s ws) m
front_at Unmade w ws m e = inr e
front_at (There k) w ws m e = front_is k w ws m e
front_at Gone w ws m e = inr e

-- what a flood puts is its item
pub floods_from : (k : ℕ) (out : Option ℕ) (x : Item) (links : List Link) (m : ManagementMessage) → Contains (waiting_on k (floods out x links)) m → ToNeighbour (messages.Flood x) ≡ m
floods_from k out x [] m e = absurd (nothing_in m e)
floods_from k out x (l ∷ links) m e = elim (cases_Bool (is_flooded out l)) [
  | inl is ↦ elim (front_is k (flood_on x l) (floods out x links) m (rw is at e)) [
    | inl same ↦ same
    | inr rest ↦ floods_from k out x links m rest
  ]
  | inr isnt ↦ floods_from k out x links m (rw isnt at e)
]

-- a link that is up and is not left out is flooded
number_kept : (out : Option ℕ) (number k : ℕ) → number ≡ k → is_out out k ≡ false → is_out out number ≡ false
number_kept out number k is e = ap (λ (n : ℕ). is_out out n) is ∙ e

pub floods_has : (k : ℕ) (out : Option ℕ) (x : Item) (links : List Link) → was_up (find (is_numbered k) links) ≡ true → is_out out k ≡ false → Contains (waiting_on k (floods out x links)) (ToNeighbour (messages.Flood x))
floods_has k out x [] up e = absurd (both_ways true (sym up) refl)
floods_has k out x (l ∷ links) up e = elim (cases_Bool (l.number == k)) [
  | inl is ↦
      (let is_up : l.up ≡ true = rw is at up in
      let kept : not (is_out out l.number) ≡ true = ap not (number_kept out l.number k (eqb-true l.number k is) e) in
      let flooded : is_flooded out l ≡ true = and_from l.up (not (is_out out l.number)) is_up kept in
      rw flooded (first_waits_there k (flood_on x l) (floods out x links) is))
  | inr isnt ↦
      (let rest = floods_has k out x links (rw isnt at up) e in
      elim (cases_Bool (is_flooded out l)) [
        | inl flooded ↦ rw flooded (rest_waits k (flood_on x l) (floods out x links) (ToNeighbour (messages.Flood x)) rest)
        | inr not_flooded ↦ rw not_flooded rest
      ])
]

-- The first message of a link is taken

pub first_waits : (k : ℕ) (agenda : List Waiting) (w : Waiting) → first_on k agenda ≡ Some w → waiting_on k agenda ≡ w.message ∷ waiting_on k (without_first k agenda)
first_waits k [] w e = absurd (none-some w e)
first_waits k (v ∷ agenda) w e = elim (cases_Bool (v.link == k)) [
  | inl is ↦
      (let same : v ≡ w = same_Some v w (rw is at e) in
      let gone : without_first k (v ∷ agenda) ≡ agenda = without_cons (waits_on k) v agenda ∙ rw is refl in
      rw (gone, is) (ap (λ (u : Waiting). u.message ∷ waiting_on k agenda) same))
  | inr isnt ↦
      (let rest = first_waits k agenda w (rw isnt at e) in
      let kept : without_first k (v ∷ agenda) ≡ v ∷ without_first k agenda = without_cons (waits_on k) v agenda ∙ rw isnt refl in
      rw (kept, isnt) rest)
]

apart_links : (j k : ℕ) (v : Waiting) → (j ≡ k → ⊥) → (v.link == k) ≡ true → (v.link == j) ≡ false
apart_links j k v apart is = elim (cases_Bool (v.link == j)) [
  | inl too ↦ absurd (apart (sym (eqb-true v.link j too) ∙ eqb-true v.link k is))
  | inr isnt ↦ isnt
]

pub others_wait : (j k : ℕ) (agenda : List Waiting) → (j ≡ k → ⊥) → waiting_on j (without_first k agenda) ≡ waiting_on j agenda
others_wait j k [] apart = refl
others_wait j k (v ∷ agenda) apart = elim (cases_Bool (v.link == k)) [
  | inl is ↦
      (let gone : without_first k (v ∷ agenda) ≡ agenda = without_cons (waits_on k) v agenda ∙ rw is refl in
      let off = apart_links j k v apart is in
      rw (gone, off) refl)
  | inr isnt ↦
      (let kept : without_first k (v ∷ agenda) ≡ v ∷ without_first k agenda = without_cons (waits_on k) v agenda ∙ rw isnt refl in
      let rest = others_wait j k agenda apart in
      rw kept (front_waits j v (without_first k agenda) ∙ ap (λ (ms : List ManagementMessage). cond (v.link == j) (v.message ∷ ms) ms) rest ∙ sym (front_waits j v agenda)))
]

pub others_at : (s : EndState) (k : ℕ) (agenda : List Waiting) → (s ≡ There k → ⊥) → waiting_at s (without_first k agenda) ≡ waiting_at s agenda
others_at Unmade k agenda apart = refl
others_at (There j) k agenda apart = others_wait j k agenda (λ is. apart (ap There is))
others_at Gone k agenda apart = refl

-- A link is lost

pub lost_waits : (k : ℕ) (agenda : List Waiting) → waiting_on k (without_link k agenda) ≡ []
lost_waits k [] = refl
lost_waits k (v ∷ agenda) = elim (cases_Bool (v.link == k)) [
  | inl is ↦ rw is (lost_waits k agenda)
  | inr isnt ↦ rw isnt (rw isnt (lost_waits k agenda))
]

pub spared_wait : (j k : ℕ) (agenda : List Waiting) → (j ≡ k → ⊥) → waiting_on j (without_link k agenda) ≡ waiting_on j agenda
spared_wait j k [] apart = refl
spared_wait j k (v ∷ agenda) apart = elim (cases_Bool (v.link == k)) [
  | inl is ↦ (let off = apart_links j k v apart is in rw (is, off) (spared_wait j k agenda apart))
  | inr isnt ↦
      (let rest = spared_wait j k agenda apart in
      elim (cases_Bool (v.link == j)) [
        | inl mine ↦ rw (isnt, mine) (ap (λ (ms : List ManagementMessage). v.message ∷ ms) rest)
        | inr other ↦ rw (isnt, other) rest
      ])
]

-- The links of a member, without one of them

abbrev pub without_number : ℕ → List Link → List Link
without_number k links = without_at (place_of k links) links

pub gone_is : (k : ℕ) (l : Link) (links : List Link) → (l.number == k) ≡ true → without_number k (l ∷ links) ≡ links
gone_is k l links is = without_cons (is_numbered k) l links ∙ rw is refl

pub kept_is : (k : ℕ) (l : Link) (links : List Link) → (l.number == k) ≡ false → without_number k (l ∷ links) ≡ l ∷ without_number k links
kept_is k l links isnt = without_cons (is_numbered k) l links ∙ rw isnt refl

pub lost_link : (k : ℕ) (links : List Link) → AreApart links → find (is_numbered k) (without_number k links) ≡ None
lost_link k [] apart = refl
lost_link k (l ∷ links) apart = elim (cases_Bool (l.number == k)) [
  | inl is ↦
      (let gone = gone_is k l links is in
      rw gone (ap (λ (n : ℕ). find (is_numbered n) links) (sym (eqb-true l.number k is)) ∙ apart.0))
  | inr isnt ↦ (let kept = kept_is k l links isnt in rw (kept, isnt) (lost_link k links apart.1))
]

pub spared_link : (j k : ℕ) (links : List Link) → (j ≡ k → ⊥) → find (is_numbered j) (without_number k links) ≡ find (is_numbered j) links
spared_link j k [] apart = refl
spared_link j k (l ∷ links) apart = elim (cases_Bool (l.number == k)) [
  | inl is ↦
      (let gone = gone_is k l links is in
      elim (cases_Bool (l.number == j)) [
        | inl too ↦ absurd (apart (sym (eqb-true l.number j too) ∙ eqb-true l.number k is))
        | inr isnt ↦ rw (gone, isnt) refl
      ])
  | inr isnt ↦
      (let kept = kept_is k l links isnt in
      elim (cases_Bool (l.number == j)) [
        | inl mine ↦ rw (kept, mine) refl
        | inr other ↦ rw (kept, other) (spared_link j k links apart)
      ])
]

pub none_kept : (j k : ℕ) (links : List Link) → find (is_numbered j) links ≡ None → find (is_numbered j) (without_number k links) ≡ None
none_kept j k [] e = refl
none_kept j k (l ∷ links) e = elim (cases_Bool (l.number == j)) [
  | inl is ↦ absurd (none-some l (sym (rw is at e)))
  | inr isnt ↦ elim (cases_Bool (l.number == k)) [
    | inl gone ↦ (let g = gone_is k l links gone in rw g (rw isnt at e))
    | inr kept ↦ (let g = kept_is k l links kept in rw (g, isnt) (none_kept j k links (rw isnt at e)))
  ]
]

pub apart_kept : (k : ℕ) (links : List Link) → AreApart links → AreApart (without_number k links)
apart_kept k [] apart = tt
apart_kept k (l ∷ links) apart = elim (cases_Bool (l.number == k)) [
  | inl is ↦ (let P : List Link → Type 0 = λ ls. AreApart ls in subst P (sym (gone_is k l links is)) apart.1)
  | inr isnt ↦ (let P : List Link → Type 0 = λ ls. AreApart ls in subst P (sym (kept_is k l links isnt)) (none_kept l.number k links apart.0, apart_kept k links apart.1))
]
