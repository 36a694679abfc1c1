-- Next hops ask of the edges that are claimed only which ones they are.
use Rattle.std.proofs.Common.{◌≡◌, ◌∙◌, ℕ, Bool, true, ◌&&◌, List, [], ◌∷◌, Option, Some, None, Contains, sym, ap}
use Rattle.std.specs.List.{list_any}
use Rattle.rina_graph.specs.declared.graph.Edge.{Edge}
use Rattle.rina_graph.specs.Walks.{IsLeastWalk, IsWalk}
use Rattle.rina_route.specs.declared.link.Link.{Link as Hop}
use Rattle.rina_route.specs.Routes.{AreHops, Begins, IsHop, counted, counts, hop_at, is_claimed, is_up, same_edge, turned}
use Rattle.rina_route.proofs.Lists.{contains_any, contains_filter}
use Rattle.rina_member.proofs.Lists.{any_true, both_true, kept}

-- each edge of the one is one of the other
abbrev pub Within : List Edge → List Edge → Type 0
Within xs ys = (e : Edge) → Contains xs e → Contains ys e

any_within : (p : Edge → Bool) (xs ys : List Edge) → Within xs ys → list_any p xs ≡ true → list_any p ys ≡ true
any_within p xs ys to h = (let r = contains_any p xs h in any_true p ys r.0 (to r.0 r.1) r.2)

counts_same : (own : ℕ) (links : List Hop) (xs ys : List Edge) → Within xs ys → Within ys xs → (e : Edge) → counts own links xs e ≡ counts own links ys e
unfolding counts
counts_same own links xs ys to from e =
    ap (λ (b : Bool). b && is_up own links e) (both_true (is_claimed xs (turned e)) (is_claimed ys (turned e)) (any_within (same_edge (turned e)) xs ys to) (any_within (same_edge (turned e)) ys xs from))

pub counted_within : (own : ℕ) (links : List Hop) (xs ys : List Edge) → Within xs ys → Within ys xs → Within (counted own links xs) (counted own links ys)
counted_within own links xs ys to from e h =
    let r = contains_filter (counts own links xs) xs e h in
    kept (counts own links ys) ys e (to e r.0) (sym (counts_same own links xs ys to from e) ∙ r.1)

walk_within : (xs ys : List Edge) → Within xs ys → (a : ℕ) (walk : List Edge) (b : ℕ) → IsWalk xs a walk b → IsWalk ys a walk b
walk_within xs ys to a [] b h = h
walk_within xs ys to a (e ∷ walk) b h = (to e h.0, h.1, walk_within xs ys to e.to walk b h.2)

least_within : (xs ys : List Edge) → Within xs ys → Within ys xs → (a b : ℕ) (walk : List Edge) → IsLeastWalk xs a b walk → IsLeastWalk ys a b walk
least_within xs ys to from a b walk h = record {
  is_walk = walk_within xs ys to a walk b h.is_walk;
  least = λ other leads. h.least other (walk_within ys xs from a other b leads);
}

begins_within : (xs ys : List Edge) → Within xs ys → Within ys xs → (own dst : ℕ) (e : Edge) → Begins xs own dst e → Begins ys own dst e
begins_within xs ys to from own dst e h = (h.0, least_within xs ys to from own dst (e ∷ h.0) h.1)

hop_within : (xs ys : List Edge) → Within xs ys → Within ys xs → (links : List Hop) (own dst : ℕ) (o : Option ℕ) → IsHop xs links own dst o → IsHop ys links own dst o
hop_within xs ys to from links own dst None h = λ apart walk leads. h apart walk (walk_within ys xs from own walk dst leads)
hop_within xs ys to from links own dst (Some number) h =
    (h.0, begins_within xs ys to from own dst h.0 h.1, (λ other begun. h.2 other (begins_within ys xs from to own dst other begun)), h.3)

-- equal claims give equal next hops
pub same_hops : (own : ℕ) (links : List Hop) (xs ys : List Edge) (rows : List (ℕ × ℕ)) → Within xs ys → Within ys xs → AreHops own links xs rows → AreHops own links ys rows
same_hops own links xs ys rows to from h dst =
    hop_within (counted own links xs) (counted own links ys) (counted_within own links xs ys to from) (counted_within own links ys xs from to) links own dst (hop_at rows dst) (h dst)
