-- Next hops that stay as they are: what is claimed, and the links over which PDUs may leave, are alike place by place.
use Rattle.std.proofs.Common.{◌≡◌, ◌∙◌, ℕ, ◌+◌, ◌<◌, ◌≤◌, Bool, true, false, cond, codes, nat_eq, List, [], ◌∷◌, ◌++◌, get_or, length, map, take, Option, refl, sym, ap, subst, arith}
use Rattle.std.specs.List.{cons_option, filter_map, flat_map, starts_with}
use Rattle.std.proofs.lemmas.Grind.{common_steps}
use Rattle.std.proofs.lemmas.List.{take_all, take_more}
use Rattle.std.proofs.lemmas.List.Concat.{flat_map-append, flat_map-cons}
use Rattle.std.proofs.lemmas.List.Elements.{filter_map-append}
use Rattle.std.proofs.lemmas.List.Folds.{flat_map-map}
use Rattle.rina_graph.specs.declared.graph.Edge.{Edge}
use Rattle.rina_newest.specs.declared.item.Item.{Item}
use Rattle.rina_newest.specs.Newest.{items_under}
use Rattle.rina_route.specs.Routes.{claims_of}
use Rattle.rina_agent.specs.declared.agent.Agent.{Agent}
use Rattle.rina_data.specs.declared.link.Route.{Route}
use Rattle.rina_data.specs.declared.settings.Member.{Member}
use Rattle.rina_member.specs.Knowing.{AreRoutesOf, all_claims, hops_of}
use Rattle.rina_member.specs.Routing.{AreRoutesOver}
use Rattle.rina_route.specs.declared.link.Link.{Link as Hop}

-- One item

-- of one key and value
pub same_claims : (item other : Item) → item.key ≡ other.key → item.value ≡ other.value → claims_of item ≡ claims_of other
unfolding claims_of
same_claims item other key value = rw (key, value) refl

-- what is no link state claims nothing
none_claimed : (item : Item) → starts_with nat_eq item.key (codes "/link/") ≡ false → claims_of item ≡ []
unfolding claims_of
none_claimed item is = rw is refl

-- Several

-- what another one gives comes behind
flat_more : {A B : Type 0} (f : A → List B) (xs : List A) (i : ℕ) (x : A) → i < length xs → x ≡ get_or xs i x → flat_map f (take (i + 1) xs) ≡ flat_map f (take i xs) ++ f x
flat_more f xs i x lt is =
    let one : flat_map f (x ∷ []) ≡ f x = flat_map-cons f x [] ∙ (let e : f x ++ [] ≡ f x = grind (arith, common_steps) in e) in
    ap (flat_map f) (take_more xs i x lt ∙ ap (λ z. take i xs ++ z ∷ []) (sym is)) ∙ flat_map-append f (take i xs) (x ∷ []) ∙ ap (λ es. flat_map f (take i xs) ++ es) one

pub flats_next : {A B : Type 0} (f : A → List B) (xs ys : List A) (i : ℕ) (x y : A) → i < length xs → i < length ys → x ≡ get_or xs i x → y ≡ get_or ys i y → f x ≡ f y → flat_map f (take i xs) ≡ flat_map f (take i ys) → flat_map f (take (i + 1) xs) ≡ flat_map f (take (i + 1) ys)
flats_next {B = B} f xs ys i x y lt lt' is is' same before =
    flat_more f xs i x lt is ∙ ap (λ (es : List B). es ++ f x) before ∙ ap (λ (es : List B). flat_map f (take i ys) ++ es) same ∙ sym (flat_more f ys i y lt' is')

pub made_next : {A B : Type 0} (f : A → Option B) (xs ys : List A) (i : ℕ) (x y : A) → i < length xs → i < length ys → x ≡ get_or xs i x → y ≡ get_or ys i y → f x ≡ f y → filter_map f (take i xs) ≡ filter_map f (take i ys) → filter_map f (take (i + 1) xs) ≡ filter_map f (take (i + 1) ys)
made_next {A = A} {B = B} f xs ys i x y lt lt' is is' same before =
    let more : (zs : List A) (z : A) → i < length zs → z ≡ get_or zs i z → filter_map f (take (i + 1) zs) ≡ filter_map f (take i zs) ++ cons_option (f z) [] = λ zs z few at. ap (filter_map f) (take_more zs i z few ∙ ap (λ w. take i zs ++ w ∷ []) (sym at)) ∙ filter_map-append f (take i zs) (z ∷ []) in
    more xs x lt is ∙ ap (λ (es : List B). es ++ cons_option (f x) []) before ∙ ap (λ (o : Option B). filter_map f (take i ys) ++ cons_option o []) same ∙ sym (more ys y lt' is')

-- and at the end all were looked at
pub flats_all : {A B : Type 0} (f : A → List B) (xs ys : List A) (i : ℕ) → length xs ≤ i → length ys ≤ i → flat_map f (take i xs) ≡ flat_map f (take i ys) → flat_map f xs ≡ flat_map f ys
flats_all f xs ys i le le' same = sym (ap (flat_map f) (take_all i xs le)) ∙ same ∙ ap (flat_map f) (take_all i ys le')

pub made_all : {A B : Type 0} (f : A → Option B) (xs ys : List A) (i : ℕ) → length xs ≤ i → length ys ≤ i → filter_map f (take i xs) ≡ filter_map f (take i ys) → filter_map f xs ≡ filter_map f ys
made_all f xs ys i le le' same = sym (ap (filter_map f) (take_all i xs le)) ∙ same ∙ ap (filter_map f) (take_all i ys le')

-- What all items claim the link states among them do

under_step : (x : Item) (items : List Item) (b : Bool) → starts_with nat_eq x.key (codes "/link/") ≡ b → flat_map claims_of (items_under (codes "/link/") items) ≡ flat_map claims_of items → flat_map claims_of (cond b (x ∷ items_under (codes "/link/") items) (items_under (codes "/link/") items)) ≡ flat_map claims_of (x ∷ items)
under_step x items true is rest = flat_map-cons claims_of x (items_under (codes "/link/") items) ∙ ap (λ es. claims_of x ++ es) rest ∙ sym (flat_map-cons claims_of x items)
under_step x items false is rest = rest ∙ ap (λ es. es ++ flat_map claims_of items) (sym (none_claimed x is)) ∙ sym (flat_map-cons claims_of x items)

claims_under : (items : List Item) → flat_map claims_of (items_under (codes "/link/") items) ≡ flat_map claims_of items
claims_under [] = refl
claims_under (x ∷ items) = under_step x items (starts_with nat_eq x.key (codes "/link/")) refl (claims_under items)

pub claims_same : {A : Type 0} (view : A → Item) (xs ys : List A) (items others : List Item) → map view xs ≡ items_under (codes "/link/") items → map view ys ≡ items_under (codes "/link/") others → flat_map (λ x. claims_of (view x)) xs ≡ flat_map (λ x. claims_of (view x)) ys → all_claims items ≡ all_claims others
claims_same view xs ys items others under under' same =
    sym (claims_under items) ∙ ap (flat_map claims_of) (sym under) ∙ flat_map-map claims_of view xs ∙ same ∙ sym (flat_map-map claims_of view ys) ∙ ap (flat_map claims_of) under' ∙ claims_under others

-- Next hops stay

pub routes_same : (g g' : Agent) → g.address ≡ g'.address → hops_of g.links ≡ hops_of g'.links → all_claims g.items ≡ all_claims g'.items → (members : List Member) (routes : List Route) → AreRoutesOf g members routes → AreRoutesOf g' members routes
routes_same g g' address links claims members routes h =
    subst (λ (a : ℕ). AreRoutesOver a (hops_of g'.links) (all_claims g'.items) members routes) address
    (subst (λ (hops : List Hop). AreRoutesOver g.address hops (all_claims g'.items) members routes) links
    (subst (λ (es : List Edge). AreRoutesOver g.address (hops_of g.links) es members routes) claims h))
