-- Keys that are written byte by byte, and keys that are too long for any entry.
use Rattle.std.proofs.Common.{◌≡◌, ℕ, ◌+◌, ◌<◌, ◌≤◌, List, [], ◌∷◌, ◌++◌, Bool, true, false, length, take, set, map, codes, Option, Some, None, option_and_then, Contains, refl, sym, ap, ◌∙◌, subst, arith}
use Rattle.std.proofs.lemmas.Grind.{common_steps}
use Rattle.std.proofs.lemmas.List.Elements.{Contains-append_left, Contains-append_right, Contains-push}
use Rattle.std.proofs.lemmas.Slice.Eq.{bytes_eq-Decides}
use Rattle.rina_newest.specs.declared.item.Item.{Item}
use Rattle.rina_newest.specs.Newest.{has_key, kept_at, value_at}
use Rattle.rina_dir.specs.Directory.{key_byte, key_of, found, AreEntries}

one_more : (xs : List ℕ) (i y : ℕ) → i < length xs → take (i + 1) (set xs i y) ≡ take i xs ++ y ∷ []
one_more xs i y lt = grind (arith, common_steps, lt)

pub folder : (key : List ℕ) → 5 ≤ length key → take 5 (set (set (set (set (set key 0 47) 1 100) 2 105) 3 114) 4 47) ≡ codes "/dir/"
folder key le =
    let a : List ℕ = set key 0 47 in
    let b : List ℕ = set a 1 100 in
    let d : List ℕ = set b 2 105 in
    let e : List ℕ = set d 3 114 in
    let t1 : take 1 a ≡ 47 ∷ [] = one_more key 0 47 (omega (arith, le)) ∙ grind (arith, common_steps) in
    let t2 : take 2 b ≡ take 1 a ++ 100 ∷ [] = one_more a 1 100 (grind (arith, common_steps, le)) in
    let t3 : take 3 d ≡ take 2 b ++ 105 ∷ [] = one_more b 2 105 (grind (arith, common_steps, le)) in
    let t4 : take 4 e ≡ take 3 d ++ 114 ∷ [] = one_more d 3 114 (grind (arith, common_steps, le)) in
    let t5 : take 5 (set e 4 47) ≡ take 4 e ++ 47 ∷ [] = one_more e 4 47 (grind (arith, common_steps, le)) in
    t5 ∙ ap (λ (xs : List ℕ). xs ++ 47 ∷ []) (t4 ∙ ap (λ (xs : List ℕ). xs ++ 114 ∷ []) (t3 ∙ ap (λ (xs : List ℕ). xs ++ 105 ∷ []) (t2 ∙ ap (λ (xs : List ℕ). xs ++ 100 ∷ []) t1)))

-- ---- a key that is too long for any entry
pub split : {G : Type 0} (b : Bool) → (b ≡ true → G) → (b ≡ false → G) → G
split true pass fail = pass refl
split false pass fail = fail refl

found_among : (items : List Item) (key : List ℕ) (item : Item) → kept_at items key ≡ Some item → Contains items item × (key ≡ item.key)
found_among [] key item h = absurd (grind (arith, h))
found_among (x ∷ items) key item h =
    split (has_key key x) (λ has.
    let same : x ≡ item = grind (arith, h, has) in
    (subst (Contains (x ∷ items)) same (Contains-append_left (x ∷ []) items x (Contains-push [] x)), (bytes_eq-Decides key x.key).0 has ∙ ap (λ (i : Item). i.key) same)) (λ lacks.
    let rest = found_among items key item (grind (arith, h, lacks)) in
    (Contains-append_right (x ∷ []) items item rest.0, rest.1))

by_value : (items : List Item) (key : List ℕ) (item : Item) (value : Option (List ℕ)) → item.value ≡ value → Contains items item × (key ≡ item.key) → AreEntries items → take 5 key ≡ codes "/dir/" → 134 < length key → value ≡ None
by_value items key item None is h form folder long = refl
by_value items key item (Some v) is h form folder long =
    let short : length item.key ≤ 134 = (form item h.0 v is (subst (λ (k : List ℕ). take 5 k ≡ codes "/dir/") h.1 folder)).0 in
    absurd (omega (arith, long, ap (λ (k : List ℕ). length k) h.1, short))

no_value : (items : List Item) (key : List ℕ) (kept : Option Item) → kept_at items key ≡ kept → AreEntries items → take 5 key ≡ codes "/dir/" → 134 < length key → option_and_then (λ (item : Item). item.value) kept ≡ None
no_value items key None is form folder long = refl
no_value items key (Some item) is form folder long = by_value items key item item.value refl (found_among items key item is) form folder long

length_key : (app : List ℕ) → length (key_of app) ≡ length app + 5
unfolding key_of
length_key app = grind (arith, common_steps)

folder_key : (app : List ℕ) → take 5 (key_of app) ≡ codes "/dir/"
unfolding key_of
folder_key app = grind (arith, common_steps)

pub too_long : (items : List Item) (app : List ℕ) → AreEntries items → 129 < length app → found items app ≡ None
unfolding found
too_long items app form long =
    let none : value_at items (key_of app) ≡ None = no_value items (key_of app) (kept_at items (key_of app)) refl form (folder_key app) (omega (arith, long, length_key app)) in
    rw none refl

-- all of the name was written
pub key_done : (app key : List ℕ) (at : ℕ) → at ≡ length app → take (at + 5) key ≡ codes "/dir/" ++ map key_byte (take at app) → take (length app + 5) key ≡ key_of app
unfolding key_of
key_done app key at all h =
    let whole : take at app ≡ app = grind (arith, common_steps, all) in
    let last : take (length app + 5) key ≡ take (at + 5) key = ap (λ (n : ℕ). take (n + 5) key) (sym all) in
    last ∙ h ∙ ap (λ (xs : List ℕ). codes "/dir/" ++ map key_byte xs) whole
