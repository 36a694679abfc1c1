-- A policy that is retired.
use Rattle.std.proofs.Common.{◌≡◌, ℕ, true, false, List, map, Option, Some, None, option_map, Result, Ok, Err, IsErr, OnOk, OnErr, ◌↔◌, refl, sym, ap, ◌∙◌, get_or, slice_get, slice_set}
use Rattle.std.specs.Str.{bytes_eq}
use Rattle.std.proofs.lemmas.List.{map-set}
use Rattle.std.proofs.lemmas.List.Quantifiers.{position-Some}
use Rattle.std.proofs.lemmas.Option.{slice_get-get_or, slice_get-map}
use Rattle.std.proofs.lemmas.Slice.Eq.{bytes_eq-Decides}
use Rattle.rina_iface.proofs.Changed.{slice_set-same}
use Rattle.rina_policy.specs.declared.count.Count.{Count}
use Rattle.rina_policy.specs.declared.shelf.NoPolicy.{NoPolicy}
use Rattle.rina_policy.specs.Slots.{Slot, place_of, put_at, retired, slot}
use Rattle.rina_words.specs.Step.{HasNames, retire_answer, retired_if}
use Rattle.rina_notes.specs.Told.{retired_told}

pub said_is : (found : Option Count) (r : Result (Unit {0}) NoPolicy) → (IsErr r ↔ (found ≡ None)) → retired_told r ≡ retire_answer found
said_is None (Ok done) h = let no : false ≡ true = h.1 refl in cc
said_is None (Err e) h = refl
said_is (Some count) (Ok done) h = refl
said_is (Some count) (Err e) h = let no : Some count ≡ None = h.0 refl in cc

pub left_is : (found : Option Count) (r : Result (Unit {0}) NoPolicy) (name : List ℕ) (old new : List Slot) → (IsErr r ↔ (found ≡ None)) → OnOk r (new ≡ retired name old) → OnErr r (new ≡ old) → new ≡ retired_if found name old
left_is None (Ok done) name old new h ok err = let no : false ≡ true = h.1 refl in cc
left_is None (Err e) name old new h ok err = err
left_is (Some count) (Ok done) name old new h ok err = ok
left_is (Some count) (Err e) name old new h ok err = let no : Some count ≡ None = h.0 refl in cc

abbrev name_in : Slot → List ℕ
name_in s = s.name

-- a slot put at the place of its name leaves the names
put_named : (name : List ℕ) (live : Option Count) (slots : List Slot) (o : Option ℕ) → place_of name slots ≡ o → map name_in (put_at o name live slots) ≡ map name_in slots
put_named name live slots None is = refl
put_named name live slots (Some k) is =
    let d : Slot = slot name live in
    let first = position-Some (λ (s : Slot). bytes_eq s.name name) slots k d is in
    let here : slice_get slots k ≡ Some (get_or slots k d) = slice_get-get_or slots k d first.0 in
    let named : (get_or slots k d).name ≡ name = (bytes_eq-Decides (get_or slots k d).name name).0 first.1 in
    let seen : slice_get (map name_in slots) k ≡ Some (get_or slots k d).name = slice_get-map name_in slots k ∙ ap (option_map name_in) here in
    map-set name_in slots k d ∙ ap (λ (n : List ℕ). slice_set (map name_in slots) k n) (sym named) ∙ slice_set-same (map name_in slots) k (get_or slots k d).name seen

names_put : (name : List ℕ) (live : Option Count) (slots : List Slot) → map name_in (put_at (place_of name slots) name live slots) ≡ map name_in slots
names_put name live slots = put_named name live slots (place_of name slots) refl

pub names_stay : (r : Result (Unit {0}) NoPolicy) (name : List ℕ) (old new : List Slot) → OnOk r (new ≡ retired name old) → OnErr r (new ≡ old) → HasNames old new
names_stay (Ok done) name old new ok err = ap (map (λ (x : Slot). x.name)) ok ∙ names_put name None old
names_stay (Err e) name old new ok err = ap (map (λ (x : Slot). x.name)) err
