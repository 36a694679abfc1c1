-- The link state of a member claims its neighbours, and no others.
use Rattle.std.proofs.Common.{◌≡◌, ◌∙◌, ◌⊎◌, inl, inr, ⊎_elim, ℕ, ◌^◌, ◌<◌, Bool, true, false, cond, not, List, [], ◌∷◌, ◌++◌, Option, Some, None, Contains, length, map, filter, refl, sym, ap, subst, arith, append_assoc, length-append}
use Rattle.std.specs.Prelude.{◌&&◌, option_map, position, unwrap_or}
use Rattle.std.specs.List.{cons_option, filter_map, fold}
use Rattle.std.specs.Fmt.{decimal}
use Rattle.rina_graph.specs.declared.graph.Edge.{Edge}
use Rattle.rina_newest.specs.declared.item.Version.{Version}
use Rattle.rina_newest.specs.Newest.{item_of}
use Rattle.rina_route.specs.declared.link.Link.{Link as Hop}
use Rattle.rina_route.specs.Routes.{claims_of, edge}
use Rattle.rina_route.specs.Written.{IsClaim, claim_text, claims_behind, claims_text}
use Rattle.rina_route.proofs.Lists.{cases, contains_map, contains_unmap, head, in_none, tail}
use Rattle.rina_route.proofs.Written.{written_item}
use Rattle.rina_agent.specs.declared.link.Link.{Link as Managed}
use Rattle.rina_agent.specs.declared.neighbours.Neighbour.{Neighbour}
use Rattle.rina_agent.specs.Agenda.{is_out}
use Rattle.rina_agent.specs.Neighbours.{is_before, joined, link_key, link_state, neighbour, neighbour_of, neighbour_text, neighbours, with_any, with_link, with_neighbour}
use Rattle.rina_member.specs.Routing.{edge_to}
use Rattle.rina_member.specs.Start.{neighbour_link}
use Rattle.rina_member.specs.Knowing.{hop_of, hops_of}
use Rattle.rina_member.proofs.Hops.{Within}
use Rattle.rina_member.proofs.Removing.{hop}
use Rattle.rina_member.proofs.Lists.{all_of, insert_cases, insert_new, insert_old}

-- the edge to a neighbour
abbrev pub edge_by : ℕ → Neighbour → Edge
edge_by own n = edge own n.address n.weight

-- The text

behind_front : (text more : List ℕ) (es : List Edge) → claims_behind (text ++ 44 ∷ more) es ≡ text ++ 44 ∷ claims_behind more es
behind_front text more [] = refl
behind_front text more (e ∷ es) = append_assoc text (44 ∷ more) (44 ∷ claims_behind (claim_text e) es)

text_behind : (own b : ℕ) (text : List ℕ) (ns : List Neighbour) → fold joined (b ∷ text) ns ≡ claims_behind (b ∷ text) (map (edge_by own) ns)
text_behind own b text [] = refl
text_behind own b text (n ∷ ns) =
    text_behind own b (text ++ 44 ∷ neighbour_text n) ns ∙ behind_front (b ∷ text) (neighbour_text n) (map (edge_by own) ns)

first_text : (own : ℕ) (text : List ℕ) (ns : List Neighbour) → 0 < length text → fold joined text ns ≡ claims_behind text (map (edge_by own) ns)
first_text own [] ns some = absurd (omega arith)
first_text own (b ∷ text) ns some = text_behind own b text ns

some_text : (n : Neighbour) → 0 < length (neighbour_text n)
some_text n = omega (arith, length-append (decimal n.address) (58 ∷ decimal n.weight))

pub joined_text : (own : ℕ) (ns : List Neighbour) → fold joined [] ns ≡ claims_text (map (edge_by own) ns)
joined_text own [] = refl
joined_text own (n ∷ ns) = first_text own (neighbour_text n) ns (some_text n)

-- Its neighbours

abbrev place_in : List Neighbour → Neighbour → ℕ
place_in ns a = unwrap_or (position (is_before a) ns) (length ns)

rises_step : (out : Option ℕ) (ns : List Neighbour) (links : List Managed) (z : Neighbour) (o : Option Neighbour)
    → (Contains (fold (with_link out) (with_any ns o) links) z → Contains (with_any ns o) z ⊎ Contains (filter_map (neighbour_of out) links) z)
    → Contains (fold (with_link out) (with_any ns o) links) z → Contains ns z ⊎ Contains (cons_option o (filter_map (neighbour_of out) links)) z
rises_step out ns links z None more h = more h
rises_step out ns links z (Some a) more h =
    let others : List Neighbour = filter_map (neighbour_of out) links in
    ⊎_elim
    (λ one. ⊎_elim (λ same. inr (subst (λ (w : Neighbour). Contains (a ∷ others) w) same (head a others))) (λ old. inl old) (insert_cases ns (place_in ns a) a z one))
    (λ rest. inr (tail a others z rest))
    (more h)

pub rises_from : (out : Option ℕ) (ns : List Neighbour) (links : List Managed) (z : Neighbour) → Contains (fold (with_link out) ns links) z → Contains ns z ⊎ Contains (filter_map (neighbour_of out) links) z
rises_from out ns [] z h = inl h
rises_from out ns (l ∷ links) z h = rises_step out ns links z (neighbour_of out l) (λ c. rises_from out (with_any ns (neighbour_of out l)) links z c) h

goes_step : (out : Option ℕ) (ns : List Neighbour) (links : List Managed) (z : Neighbour) (o : Option Neighbour)
    → (Contains (with_any ns o) z ⊎ Contains (filter_map (neighbour_of out) links) z → Contains (fold (with_link out) (with_any ns o) links) z)
    → Contains ns z ⊎ Contains (cons_option o (filter_map (neighbour_of out) links)) z → Contains (fold (with_link out) (with_any ns o) links) z
goes_step out ns links z None more h = more h
goes_step out ns links z (Some a) more h =
    ⊎_elim
    (λ old. more (inl (insert_old ns (place_in ns a) a z old)))
    (λ rest. ⊎_elim (λ same. more (inl (subst (λ (w : Neighbour). Contains (with_neighbour ns a) w) same (insert_new ns (place_in ns a) a)))) (λ later. more (inr later)) (cases a (filter_map (neighbour_of out) links) z rest))
    h

goes_into : (out : Option ℕ) (ns : List Neighbour) (links : List Managed) (z : Neighbour) → Contains ns z ⊎ Contains (filter_map (neighbour_of out) links) z → Contains (fold (with_link out) ns links) z
goes_into out ns [] z h = ⊎_elim (λ old. old) (λ none. absurd (in_none z none)) h
goes_into out ns (l ∷ links) z h = goes_step out ns links z (neighbour_of out l) (λ c. goes_into out (with_any ns (neighbour_of out l)) links z c) h

map_within : (own : ℕ) (xs ys : List Neighbour) → ((n : Neighbour) → Contains xs n → Contains ys n) → Within (map (edge_by own) xs) (map (edge_by own) ys)
map_within own xs ys to e h =
    let r = contains_unmap (edge_by own) xs e h in
    subst (λ (f : Edge). Contains (map (edge_by own) ys) f) r.2 (contains_map (edge_by own) ys r.0 (to r.0 r.1))

-- the edges to the neighbours at the links that are up, but the one that is left out
abbrev pub edges_out : ℕ → Option ℕ → List Managed → List Edge
edges_out own out links = map (edge_by own) (filter_map (neighbour_of out) links)

risen_within : (own : ℕ) (out : Option ℕ) (links : List Managed) → Within (map (edge_by own) (neighbours out links)) (edges_out own out links)
risen_within own out links = map_within own (neighbours out links) (filter_map (neighbour_of out) links) (λ n h. ⊎_elim (λ none. absurd (in_none n none)) (λ its. its) (rises_from out [] links n h))

within_risen : (own : ℕ) (out : Option ℕ) (links : List Managed) → Within (edges_out own out links) (map (edge_by own) (neighbours out links))
within_risen own out links = map_within own (filter_map (neighbour_of out) links) (neighbours out links) (λ n h. goes_into out [] links n (inr h))

-- the item that a link state is
abbrev pub state_of : ℕ → Version → Option ℕ → List Managed → List Edge
state_of own version out links = claims_of (item_of (link_key own) version (Some (link_state out links)))

state_is : (own : ℕ) (version : Version) (out : Option ℕ) (links : List Managed) → own < 2 ^ 32 → ((e : Edge) → Contains (edges_out own out links) e → IsClaim own e) → state_of own version out links ≡ map (edge_by own) (neighbours out links)
state_is own version out links small fits =
    let written : List Edge = map (edge_by own) (neighbours out links) in
    ap (λ (text : List ℕ). claims_of (item_of (link_key own) version (Some text))) (joined_text own (neighbours out links))
    ∙ written_item own written version small (all_of (IsClaim own) written (λ e h. fits e (risen_within own out links e h)))

pub state_within : (own : ℕ) (version : Version) (out : Option ℕ) (links : List Managed) → own < 2 ^ 32 → ((e : Edge) → Contains (edges_out own out links) e → IsClaim own e) → Within (state_of own version out links) (edges_out own out links)
state_within own version out links small fits e h =
    risen_within own out links e (subst (λ (es : List Edge). Contains es e) (state_is own version out links small fits) h)

pub within_state : (own : ℕ) (version : Version) (out : Option ℕ) (links : List Managed) → own < 2 ^ 32 → ((e : Edge) → Contains (edges_out own out links) e → IsClaim own e) → Within (edges_out own out links) (state_of own version out links)
within_state own version out links small fits e h =
    subst (λ (es : List Edge). Contains es e) (sym (state_is own version out links small fits)) (within_risen own out links e h)

-- Which edges these are

-- of the links over which PDUs may leave all but the one that is left out
abbrev pub stays_in : Option ℕ → Hop → Bool
stays_in out h = not (is_out out h.number)

out_step : (own number weight : ℕ) (p : Hop → Bool) (up b : Bool) (peer : Option ℕ) (rest : List Neighbour) (hs : List Hop) → ((h : Hop) → h.number ≡ number → p h ≡ b) → map (edge_by own) rest ≡ map (edge_to own) (filter p hs)
    → map (edge_by own) (cons_option (cond (up && b) (option_map (neighbour weight) peer) None) rest) ≡ map (edge_to own) (filter p (cons_option (cond up (option_map (hop number weight) peer) None) hs))
out_step own number weight p true true None rest hs is more = more
out_step own number weight p true true (Some peer) rest hs is more =
    let h : Hop = hop number weight peer in
    ap (λ (es : List Edge). edge_to own h ∷ es) more ∙ sym (ap (λ (c : Bool). map (edge_to own) (cond c (h ∷ filter p hs) (filter p hs))) (is h refl))
out_step own number weight p true false None rest hs is more = more
out_step own number weight p true false (Some peer) rest hs is more =
    let h : Hop = hop number weight peer in
    more ∙ sym (ap (λ (c : Bool). map (edge_to own) (cond c (h ∷ filter p hs) (filter p hs))) (is h refl))
out_step own number weight p false b peer rest hs is more = more

one_out : (own : ℕ) (out : Option ℕ) (l : Managed) (rest : List Neighbour) (hs : List Hop) → map (edge_by own) rest ≡ map (edge_to own) (filter (stays_in out) hs)
    → map (edge_by own) (cons_option (neighbour_of out l) rest) ≡ map (edge_to own) (filter (stays_in out) (cons_option (hop_of l) hs))
unfolding neighbour_of
one_out own out l rest hs more = out_step own l.number l.weight (stays_in out) l.up (not (is_out out l.number)) l.peer rest hs (λ h same. ap (λ (n : ℕ). not (is_out out n)) same) more

-- a link state names the neighbours over these
pub out_edges : (own : ℕ) (out : Option ℕ) (ls : List Managed) → edges_out own out ls ≡ map (edge_to own) (filter (stays_in out) (hops_of ls))
out_edges own out [] = refl
out_edges own out (l ∷ ls) = one_out own out l (filter_map (neighbour_of out) ls) (hops_of ls) (out_edges own out ls)

one_start : (e : Edge) → neighbour_of None (neighbour_link e) ≡ Some (neighbour e.weight e.to)
unfolding neighbour_of
one_start e = refl

-- the edges from a member at the start
pub start_edges : (own : ℕ) (es : List Edge) → ((e : Edge) → Contains es e → e.from ≡ own) → edges_out own None (map neighbour_link es) ≡ es
start_edges own [] h = refl
start_edges own (e ∷ es) h =
    let others : List Neighbour = filter_map (neighbour_of None) (map neighbour_link es) in
    ap (λ (o : Option Neighbour). map (edge_by own) (cons_option o others)) (one_start e)
    ∙ ap (λ (fs : List Edge). edge own e.to e.weight ∷ fs) (start_edges own es (λ f among. h f (tail e es f among)))
    ∙ ap (λ (from : ℕ). edge from e.to e.weight ∷ es) (sym (h e (head e es)))
