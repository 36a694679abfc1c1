-- Counting links, and the first DIF of which there is too much.
use Rattle.std.proofs.Common.{◌≡◌, ℕ, ◌+◌, ◌<◌, ◌≤◌, Bool, true, false, List, length, map, drop, take, get_or, Option, Some, None, refl, sym, ap, ◌∙◌, nat_lt, arith}
use Rattle.std.specs.Prelude.{IfSome}
use Rattle.std.proofs.lemmas.List.{drop_more, drop_all, take_all}
use Rattle.std.proofs.lemmas.List.FromFn.{fill_by_all, length-map-range_with_len}
use Rattle.std.specs.List.{position, range_with_len}
use Rattle.rina_plan.specs.declared.dif.LinkPlan.{LinkPlan}
use Rattle.rina_plan.specs.declared.dif.DifPlan.{DifPlan}
use Rattle.rina_plan.specs.Counts.{links_of, load_of, first_loaded, is_full, full_from}
use Rattle.rina_plan.proofs.Places.{position_map}

-- ---- loads

pub all_counted : (links : List LinkPlan) (loads : List ℕ) (wires i : ℕ) → length links ≤ i → length loads ≡ wires → ((k : ℕ) → k < wires → get_or loads k 0 ≡ load_of (take i links) k) → loads ≡ map (load_of links) (range_with_len 0 wires)
all_counted links loads wires i past size counted = fill_by_all (load_of links) loads wires 0 size (λ k within. counted k within ∙ ap (λ ls. load_of ls k) (take_all i links past))

pub first_is : (wires : ℕ) (difs : List DifPlan) (links : List LinkPlan) (loads : List ℕ) → links ≡ links_of difs → loads ≡ map (load_of links) (range_with_len 0 wires) → position (λ n. nat_lt 1 n) loads ≡ first_loaded wires difs
unfolding first_loaded
first_is wires difs links loads are is = rw (is, are) (position_map (λ n. nat_lt 1 n) (load_of (links_of difs)) (range_with_len 0 wires))

pub within_wires : (o : Option ℕ) (wires : ℕ) (links : List LinkPlan) (loads : List ℕ) → loads ≡ map (load_of links) (range_with_len 0 wires) → IfSome o (λ i. i < length loads) → IfSome o (λ i. i < wires)
within_wires None wires links loads is h = tt
within_wires (Some i) wires links loads is h = omega (arith, h, ap length is, length-map-range_with_len (load_of links) 0 wires)

-- ---- the first that is full

pub full_found : (links : List LinkPlan) (ds : List DifPlan) (i at : ℕ) (d : DifPlan) (b : Bool) (total : Option ℕ) → i < length ds → d ≡ get_or ds i d → b ≡ is_full links at d → b ≡ true → full_from links at (drop i ds) ≡ total → Some at ≡ total
unfolding full_from
full_found links ds i at d b total within is test here so_far =
    let full : is_full links at (get_or ds i d) ≡ true = ap (is_full links at) (sym is) ∙ sym test ∙ here in
    let first : full_from links at (drop i ds) ≡ Some at = rw (drop_more ds i d within, full) refl in
    sym first ∙ so_far

pub full_later : (links : List LinkPlan) (ds : List DifPlan) (i at : ℕ) (d : DifPlan) (b : Bool) (total : Option ℕ) → i < length ds → d ≡ get_or ds i d → b ≡ is_full links at d → b ≡ false → full_from links at (drop i ds) ≡ total → full_from links (at + 1) (drop (i + 1) ds) ≡ total
unfolding full_from
full_later links ds i at d b total within is test other so_far =
    let free : is_full links at (get_or ds i d) ≡ false = ap (is_full links at) (sym is) ∙ sym test ∙ other in
    let next : full_from links at (drop i ds) ≡ full_from links (at + 1) (drop (i + 1) ds) = rw (drop_more ds i d within, free) refl in
    sym next ∙ so_far

pub none_full : (links : List LinkPlan) (ds : List DifPlan) (i at : ℕ) (total : Option ℕ) → length ds ≤ i → full_from links at (drop i ds) ≡ total → None ≡ total
unfolding full_from
none_full links ds i at total past so_far =
    let last : full_from links at (drop i ds) ≡ None = rw (drop_all i ds past) refl in
    sym last ∙ so_far
