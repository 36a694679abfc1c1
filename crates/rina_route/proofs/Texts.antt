-- What link states claim.
use Rattle.std.proofs.Common.{◌&&◌, ◌≡◌, ◌∙◌, ℕ, ◌+◌, ◌<◌, ◌≤◌, ◌==◌, nat_lt, nat_eq, Bool, true, false, cond, List, [], ◌∷◌, ◌++◌, Option, Some, None, option_map, option_and_then, position, Contains, length, map, take, drop, get_or, codes, refl, sym, ap, arith}
use Rattle.std.specs.List.{position_or_len, before_first, after_first, slice_split, flat_map, starts_with}
use Rattle.std.proofs.lemmas.List.{take_more, take_all, drop_all, get_or-map, length-map}
use Rattle.std.proofs.lemmas.List.Concat.{flat_map-append, flat_map-cons}
use Rattle.std.proofs.lemmas.Bool.Decides.{nat_tests}
use Rattle.std.proofs.lemmas.Grind.{common_steps}
use Rattle.rina_graph.specs.declared.graph.Edge.{Edge}
use Rattle.rina_newest.specs.declared.item.Item.{Item}
use Rattle.rina_base.specs.Decimals.{decimal_of, number_of}
use Rattle.rina_newest.specs.Newest.{items_under}
use Rattle.rina_route.specs.declared.link.Link.{Link}
use Rattle.rina_route.specs.Nodes.{HaveWeights}
use Rattle.rina_route.specs.Routes.{edge, in_weights, weight_at, edge_at, claim_at, claims_by, claims_of, has_link, is_up, turned, is_claimed, counts, counted, HaveLinks}
use Rattle.rina_route.proofs.Lists.{in_none, contains_filter, contains_filter_map, contains_flat_map}

-- ---- the parts of a text
position_is : (k many at : ℕ) (b : Bool) → nat_lt at many ≡ b → Some k ≡ cond b (Some at) None → k ≡ at
position_is k many at true is h = cc
position_is k many at false is h = absurd cc

pub at_colon : (from : ℕ) (part : List ℕ) (k : ℕ) → Some k ≡ position (λ b. b == 58) part → claim_at from part ≡ edge_at from (take k part) (drop (k + 1) part)
unfolding claim_at
at_colon from part k is =
    let same : k ≡ position_or_len (λ b. b == 58) part = position_is k (length part) (position_or_len (λ b. b == 58) part) (nat_lt (position_or_len (λ b. b == 58) part) (length part)) refl is in
    rw same refl

no_weight : (from : ℕ) (to : Option ℕ) → option_and_then (λ there. option_map (λ w. edge from there w) None) to ≡ None
no_weight from None = refl
no_weight from (Some there) = refl

empty_weight : weight_at [] ≡ None
unfolding decimal_of
empty_weight = refl

past_by : (part : List ℕ) (at : ℕ) (b : Bool) → nat_lt at (length part) ≡ b → None ≡ cond b (Some at) None → length part ≤ at
past_by part at true is h = absurd cc
past_by part at false is h = grind (arith, nat_tests, is)

pub no_colon : (from : ℕ) (part : List ℕ) → None ≡ position (λ b. b == 58) part → claim_at from part ≡ None
unfolding claim_at
no_colon from part is =
    let at : ℕ = position_or_len (λ b. b == 58) part in
    let le : length part ≤ at = past_by part at (nat_lt at (length part)) refl is in
    let rest : after_first (λ b. b == 58) part ≡ [] = drop_all (at + 1) part (omega (arith, le)) in
    ap (λ t. edge_at from (before_first (λ b. b == 58) part) t) rest ∙ ap (λ w. option_and_then (λ there. option_map (λ v. edge from there v) w) (number_of (before_first (λ b. b == 58) part))) empty_weight ∙ no_weight from (number_of (before_first (λ b. b == 58) part))

-- ---- one more item
pub claims_more : {A : Type 0} (f : Item → List Edge) (view : A → Item) (xs : List A) (i : ℕ) (x : A) (old made new : List Edge) → i < length xs → x ≡ get_or xs i x → made ≡ f (view x) → new ≡ old ++ made → old ≡ flat_map f (take i (map view xs)) → new ≡ flat_map f (take (i + 1) (map view xs))
claims_more f view xs i x old made new lt read is put before =
    let more : take (i + 1) (map view xs) ≡ take i (map view xs) ++ view x ∷ [] = take_more (map view xs) i (view x) (omega (arith, lt, length-map xs view)) ∙ ap (λ y. take i (map view xs) ++ y ∷ []) (get_or-map view xs i x (view x) lt ∙ ap view (sym read)) in
    let one : flat_map f (view x ∷ []) ≡ f (view x) = flat_map-cons f (view x) [] ∙ (let e : f (view x) ++ [] ≡ f (view x) = grind (arith, common_steps) in e) in
    put ∙ ap (λ es. es ++ made) before ∙ ap (λ es. flat_map f (take i (map view xs)) ++ es) (is ∙ sym one) ∙ sym (ap (flat_map f) more ∙ flat_map-append f (take i (map view xs)) (view x ∷ []))

none_claimed : (item : Item) → starts_with nat_eq item.key (codes "/link/") ≡ false → claims_of item ≡ []
unfolding claims_of
none_claimed item is = rw is refl

under_step : (x : Item) (items : List Item) (b : Bool) → starts_with nat_eq x.key (codes "/link/") ≡ b → flat_map claims_of (items_under (codes "/link/") items) ≡ flat_map claims_of items → flat_map claims_of (cond b (x ∷ items_under (codes "/link/") items) (items_under (codes "/link/") items)) ≡ flat_map claims_of (x ∷ items)
under_step x items true is rest = flat_map-cons claims_of x (items_under (codes "/link/") items) ∙ ap (λ es. claims_of x ++ es) rest ∙ sym (flat_map-cons claims_of x items)
under_step x items false is rest = rest ∙ ap (λ es. es ++ flat_map claims_of items) (sym (none_claimed x is)) ∙ sym (flat_map-cons claims_of x items)

-- the items that are no link states claim nothing
pub claims_under : (items : List Item) → flat_map claims_of (items_under (codes "/link/") items) ≡ flat_map claims_of items
claims_under [] = refl
claims_under (x ∷ items) = under_step x items (starts_with nat_eq x.key (codes "/link/")) refl (claims_under items)

pub claims_all : {A : Type 0} (view : A → Item) (xs : List A) (i : ℕ) (items : List Item) (edges : List Edge) → length xs ≤ i → map view xs ≡ items_under (codes "/link/") items → edges ≡ flat_map claims_of (take i (map view xs)) → edges ≡ flat_map claims_of items
claims_all view xs i items edges le under before =
    before ∙ ap (flat_map claims_of) (take_all i (map view xs) (omega (arith, le, length-map xs view)) ∙ under) ∙ claims_under items

-- ---- weights, and own links
weight_some : (n v : ℕ) → in_weights n ≡ Some v → 1 ≤ v
weight_some n v h = grind (arith, common_steps, nat_tests, h)

weight_by : (o : Option ℕ) (v : ℕ) → option_and_then in_weights o ≡ Some v → 1 ≤ v
weight_by None v h = absurd cc
weight_by (Some n) v h = weight_some n v h

edge_weight : (from there : ℕ) (w : Option ℕ) (e : Edge) → ((v : ℕ) → w ≡ Some v → 1 ≤ v) → option_map (λ v. edge from there v) w ≡ Some e → 1 ≤ e.weight
edge_weight from there None e some h = absurd cc
edge_weight from there (Some v) e some h =
    let le : 1 ≤ v = some v refl in
    let same : edge from there v ≡ e = cc in
    let is : v ≡ e.weight = ap (λ (x : Edge). x.weight) same in
    omega (arith, le, is)

edge_weight_by : (from : ℕ) (to : Option ℕ) (text : List ℕ) (e : Edge) → option_and_then (λ there. option_map (λ w. edge from there w) (weight_at text)) to ≡ Some e → 1 ≤ e.weight
edge_weight_by from None text e h = absurd cc
edge_weight_by from (Some there) text e h = edge_weight from there (weight_at text) e (λ v is. weight_by (number_of text) v is) h

claim_weight : (from : ℕ) (part : List ℕ) (e : Edge) → claim_at from part ≡ Some e → 1 ≤ e.weight
unfolding claim_at
claim_weight from part e h = edge_weight_by from (number_of (before_first (λ b. b == 58) part)) (after_first (λ b. b == 58) part) e h

claims_by_weight : (from : Option ℕ) (value : Option (List ℕ)) (e : Edge) → Contains (claims_by from value) e → 1 ≤ e.weight
claims_by_weight None value e h = absurd (in_none e h)
claims_by_weight (Some from) None e h = absurd (in_none e h)
claims_by_weight (Some from) (Some text) e h =
    let r = contains_filter_map (claim_at from) (slice_split (λ b. b == 44) text) e h in
    claim_weight from r.0 e r.1

item_weight_by : (b : Bool) (from : Option ℕ) (value : Option (List ℕ)) (e : Edge) → Contains (cond b (claims_by from value) []) e → 1 ≤ e.weight
item_weight_by true from value e h = claims_by_weight from value e h
item_weight_by false from value e h = absurd (in_none e h)

item_weight : (item : Item) (e : Edge) → Contains (claims_of item) e → 1 ≤ e.weight
unfolding claims_of
item_weight item e h = item_weight_by (starts_with nat_eq item.key (codes "/link/")) (number_of (drop 6 item.key)) item.value e h

pub have_weights : (items : List Item) → HaveWeights (flat_map claims_of items)
have_weights items e among = (let r = contains_flat_map claims_of items e among in item_weight r.0 e r.1)

pub counted_weights : (own : ℕ) (links : List Link) (claimed : List Edge) → HaveWeights claimed → HaveWeights (counted own links claimed)
counted_weights own links claimed have e among = have e (contains_filter (counts own links claimed) claimed e among).0

own_up : (own : ℕ) (links : List Link) (e : Edge) → is_up own links e ≡ true → e.from ≡ own → has_link links e.to e.weight ≡ true
unfolding is_up
own_up own links e h from =
    let same : (e.from == own) ≡ true = grind (arith, nat_tests, from) in
    rw same at h

second : (a b : Bool) → (a && b) ≡ true → b ≡ true
second true b e = e
second false b e = absurd cc

own_counts : (own : ℕ) (links : List Link) (claimed : List Edge) (e : Edge) → counts own links claimed e ≡ true → e.from ≡ own → has_link links e.to e.weight ≡ true
unfolding counts
own_counts own links claimed e h from = own_up own links e (second (is_claimed claimed (turned e)) (is_up own links e) h) from

pub have_links : (own : ℕ) (links : List Link) (claimed : List Edge) → HaveLinks own links (counted own links claimed)
have_links own links claimed e among from = own_counts own links claimed e (contains_filter (counts own links claimed) claimed e among).1 from
