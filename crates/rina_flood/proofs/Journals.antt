-- The texts of a journal after one of its ends changed.
use Rattle.std.proofs.Common.{◌≡◌, ℕ, ◌+◌, ◌≤◌, ◌==◌, List, ◌∷◌, ◌++◌, Option, Some, length, slice_get, slice_set, take, refl, sym, ◌∙◌, ap, inl, inr, []}
use Rattle.std.proofs.lemmas.Bool.{cases_Bool, both_ways, eq-eqb, eqb-true}
use Rattle.std.proofs.lemmas.List.{map-append, take-append-le, take_more}
use Rattle.std.proofs.lemmas.Option.{get_or_from_slice_get, slice_get_within}
use Rattle.rina_iface.proofs.Changed.{slice_get-set_other, slice_get-set_same}
use Rattle.rina_law.specs.declared.entry.Entry.{Entry}
use Rattle.rina_iface.specs.declared.ends.End.{End}
use Rattle.rina_iface.specs.Ends.{with_got, with_passed, with_sent}
use Rattle.rina_flood.specs.Journals.{AddsNone, AddsOffered, AddsPassed, offered_by, passed_by, texts_of}
use Rattle.rina_flood.specs.Members.{Adds, AreSame}

module _ (f : Option End → List (List ℕ)) (ends : List End) (place : ℕ) (end new : End) (is : slice_get ends place ≡ Some end) where
  abbrev before : ℕ → List (List ℕ)
  before k = f (slice_get ends k)

  abbrev after : ℕ → List (List ℕ)
  after k = f (slice_get (slice_set ends place new) k)

  here : after place ≡ f (Some new)
  here = ap f (slice_get-set_same ends place end new is)

  elsewhere : (k : ℕ) → (k ≡ place → ⊥) → after k ≡ before k
  elsewhere k apart = ap f (slice_get-set_other ends place k new apart)

  same : f (Some new) ≡ f (Some end) → AreSame before after
  same stays k = elim (cases_Bool (k == place)) [
    | inl e ↦ (let at = eqb-true k place e in ap after at ∙ here ∙ stays ∙ ap f (sym is) ∙ ap before (sym at))
    | inr e ↦ elsewhere k (λ at. both_ways (k == place) e (eq-eqb k place at))
  ]

  more : (text : List ℕ) → f (Some new) ≡ f (Some end) ++ text ∷ [] → Adds place text before after
  more text adds = record { here = here ∙ adds ∙ ap (λ (o : Option End). f o ++ text ∷ []) (sym is); elsewhere = elsewhere }

pub offers_add : (ends : List End) (place : ℕ) (end : End) (entry : Entry) → slice_get ends place ≡ Some end → AddsOffered ends (slice_set ends place (with_sent end entry)) place entry.bytes
offers_add ends place end entry is = record {
  offered = more offered_by ends place end (with_sent end entry) is entry.bytes (map-append (λ (e : Entry). e.bytes) end.sent (entry ∷ []));
  passed = same passed_by ends place end (with_sent end entry) is refl;
}

pub passes_add : (ends : List End) (place : ℕ) (end : End) (entry : Entry) → slice_get ends place ≡ Some end → slice_get end.got end.taken ≡ Some entry → AddsPassed ends (slice_set ends place (with_passed end)) place entry.bytes
passes_add ends place end entry is next =
    let all : take (end.taken + 1) end.got ≡ take end.taken end.got ++ entry ∷ [] =
    take_more end.got end.taken entry (slice_get_within end.got end.taken entry next) ∙ ap (λ (e : Entry). take end.taken end.got ++ e ∷ []) (get_or_from_slice_get end.got end.taken entry entry next) in
    record {
      offered = same offered_by ends place end (with_passed end) is refl;
      passed = more passed_by ends place end (with_passed end) is entry.bytes (ap texts_of all ∙ map-append (λ (e : Entry). e.bytes) (take end.taken end.got) (entry ∷ []));
    }

pub arrivals_add_none : (ends : List End) (place : ℕ) (end : End) (entry : Entry) → slice_get ends place ≡ Some end → end.taken ≤ length end.got → AddsNone ends (slice_set ends place (with_got end entry))
arrivals_add_none ends place end entry is few = record {
  offered = same offered_by ends place end (with_got end entry) is refl;
  passed = same passed_by ends place end (with_got end entry) is (ap texts_of (take-append-le end.taken end.got (entry ∷ []) few));
}

pub others_add_none : (ends : List End) (place : ℕ) (end end' : End) → slice_get ends place ≡ Some end → end'.sent ≡ end.sent → end'.got ≡ end.got → end'.taken ≡ end.taken → AddsNone ends (slice_set ends place end')
others_add_none ends place end end' is sent got taken = record {
  offered = same offered_by ends place end end' is (ap texts_of sent);
  passed = same passed_by ends place end end' is (ap (λ (k : ℕ). texts_of (take k end'.got)) taken ∙ ap (λ (entries : List Entry). texts_of (take end.taken entries)) got);
}
