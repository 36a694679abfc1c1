-- Each link gives its neighbour and weight, and these are sorted.
use Rattle.std.proofs.Common.{◌≡◌, Ok, subst, map, rules}
use Rattle.std.specs.declared.alloc.AllocError.{AllocError}
use Rattle.std.specs.List.Sorted.{IsPermutation}
use Rattle.std.proofs.lemmas.Iterator.{items_from_collect, YieldsList-from_map, YieldsList-from_slice}
use Rattle.rina_route.specs.Keys.{ends_of}
use Rattle.rina_route.proofs.claims.all_ends.Goals as goal

pub returns : goal.returns
returns c =
    let all : c.in_ok-ends.ends.items ≡ map ends_of c.args.links.now = items_from_collect {E = AllocError} (Ok c.in_ok-ends.ends) c.in_ok-ends.ensures.ran (YieldsList-from_map _ ends_of (YieldsList-from_slice c.args.links.now (cc)) c.map.ensures.closure (λ x r q h. search rules)) in
    record {
      rise = c.sort_unstable.ensures.sorted;
      moved = subst (λ ks. IsPermutation ks c.sort_unstable.new.self.items) all c.sort_unstable.ensures.permutation;
    }
