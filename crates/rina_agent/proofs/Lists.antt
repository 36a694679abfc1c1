-- Waiting messages, link by link.
use Rattle.std.proofs.Common.{◌≡◌, ℕ, false, not, ◌&&◌, ◌==◌, List, [], ◌∷◌, ◌++◌, map, filter, slice_get, Some, refl, sym, ◌∙◌, ap, inl, inr}
use Rattle.std.specs.Prelude.{option_map}
use Rattle.std.proofs.lemmas.Bool.{cases_Bool, and_parts, not-true, ne_eqb, eqb-false}
use Rattle.std.proofs.lemmas.List.{map-append}
use Rattle.std.proofs.lemmas.List.Elements.{filter-append}
use Rattle.rina_newest.specs.declared.item.Item.{Item}
use Rattle.rina_agent.specs.declared.link.Link.{Link}
use Rattle.rina_agent.specs.declared.message.Waiting.{Waiting}
use Rattle.rina_agent.specs.Agenda.{waits_on, waiting_on, first_on, floods}

pub put_waits_last : (link : ℕ) (agenda more : List Waiting) → waiting_on link (agenda ++ more) ≡ waiting_on link agenda ++ waiting_on link more
put_waits_last link agenda more =
    ap (λ (ws : List Waiting). map (λ (w : Waiting). w.message) ws) (filter-append (waits_on link) agenda more)
    ∙ map-append (λ (w : Waiting). w.message) (filter (waits_on link) agenda) (filter (waits_on link) more)

pub lent_is_first : (link : ℕ) (agenda : List Waiting) → option_map (λ (w : Waiting). w.message) (first_on link agenda) ≡ slice_get (waiting_on link agenda) 0
lent_is_first link [] = refl
lent_is_first link (w ∷ agenda) = elim (cases_Bool (w.link == link)) [
  | inl is ↦ rw is refl
  | inr isnt ↦ rw isnt (lent_is_first link agenda)
]

apart : (out number : ℕ) → (out == number) ≡ false → (number == out) ≡ false
apart out number e = ne_eqb number out (λ same. eqb-false out number e (sym same))

pub not_back : (out : ℕ) (item : Item) (links : List Link) → waiting_on out (floods (Some out) item links) ≡ []
not_back out item [] = refl
not_back out item (l ∷ links) = elim (cases_Bool (l.up && not (out == l.number))) [
  | inl is ↦ (let other : (l.number == out) ≡ false = apart out l.number (not-true (out == l.number) ((and_parts l.up (not (out == l.number)) is).1)) in
      rw (is, other) (not_back out item links))
  | inr isnt ↦ rw isnt (not_back out item links)
]
