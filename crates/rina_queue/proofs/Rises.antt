-- Queues of one link, whose ids rise.
use Rattle.std.proofs.Common.{◌≡◌, ◌∙◌, ℕ, ◌<◌, ◌==◌, Bool, true, false, cond, suc, zero, List, [], ◌∷◌, ◌++◌, ◌⊎◌, inl, inr, ⊎_elim, length, get_or, Some, slice_get, slice_set, refl, sym, ap, subst, arith}
use Rattle.std.specs.List.{list_any}
use Rattle.std.specs.List.Sorted.{IsStrictlyIncreasing}
use Rattle.std.proofs.lemmas.Option.{slice_get_read, slice_get_within, get_or_from_slice_get}
use Rattle.std.proofs.lemmas.List.Kept.{AllPairs-from_increasing}
use Rattle.std.proofs.lemmas.Bool.Decides.{nat_tests}
use Rattle.rina_queue.specs.declared.queue.Queue.{Queue}
use Rattle.rina_queue.specs.Queues.{IdsRise, has_link, no_items, no_queues}

-- a queue with the link and the id of another
abbrev IsLike : Queue → Queue → Type 0
IsLike p q = (p.link ≡ q.link) × (p.qos ≡ q.qos)

-- where one like the queue that is there is put at a place, the queues before were like those after
like_before : (xs : List Queue) (i k : ℕ) (x w q : Queue) → slice_get xs i ≡ Some x → IsLike x w → slice_get (slice_set xs i w) k ≡ Some q → (p : Queue) × (slice_get xs k ≡ Some p) × IsLike p q
like_before [] i k x w q at like e = (q, e, (refl, refl))
like_before (y ∷ ys) zero zero x w q at like e =
    let first : y ≡ x = cc in
    let last : w ≡ q = cc in
    (y, refl, (ap (λ r. r.link) first ∙ like.0 ∙ ap (λ r. r.link) last, ap (λ r. r.qos) first ∙ like.1 ∙ ap (λ r. r.qos) last))
like_before (y ∷ ys) zero (suc k) x w q at like e = (q, e, (refl, refl))
like_before (y ∷ ys) (suc i) zero x w q at like e = (q, e, (refl, refl))
like_before (y ∷ ys) (suc i) (suc k) x w q at like e = like_before ys i k x w q at like e

-- one like the queue that is there is put at a place
pub rise_put : (xs : List Queue) (i : ℕ) (x w : Queue) → IdsRise xs → i < length xs → x ≡ get_or xs i x → w.link ≡ x.link → w.qos ≡ x.qos → IdsRise (slice_set xs i w)
rise_put xs i x w rise lt read link qos j k p q before at_j at_k same =
    let at : slice_get xs i ≡ Some x = slice_get_read xs (length xs) i x refl lt read in
    let first = like_before xs i j x w p at (sym link, sym qos) at_j in
    let second = like_before xs i k x w q at (sym link, sym qos) at_k in
    let below : first.0.qos < second.0.qos = rise j k first.0 second.0 before first.1 second.1 (first.2.0 ∙ same ∙ sym second.2.0) in
    omega (arith, below, first.2.1, second.2.1)

-- what stands in two lists, one behind the other
in_either : (xs ys : List Queue) (k : ℕ) (q : Queue) → slice_get (xs ++ ys) k ≡ Some q → ((j : ℕ) × (slice_get xs j ≡ Some q)) ⊎ ((j : ℕ) × (slice_get ys j ≡ Some q))
in_either [] ys k q e = inr (k, e)
in_either (x ∷ xs) ys zero q e = inl (0, e)
in_either (x ∷ xs) ys (suc k) q e = ⊎_elim (λ h. inl (suc h.0, h.1)) (λ h. inr h) (in_either xs ys k q e)

abbrev AllOf : ℕ → List Queue → Type 0
AllOf link xs = (k : ℕ) (q : Queue) → slice_get xs k ≡ Some q → q.link ≡ link

abbrev NoneOf : ℕ → List Queue → Type 0
NoneOf link xs = (k : ℕ) (q : Queue) → slice_get xs k ≡ Some q → q.link ≡ link → ⊥

rise_append : (link : ℕ) (xs ys : List Queue) → IdsRise xs → IdsRise ys → NoneOf link xs → AllOf link ys → IdsRise (xs ++ ys)
rise_append link [] ys rise more none all j k p q before at_j at_k same = more j k p q before at_j at_k same
rise_append link (x ∷ xs) ys rise more none all zero zero p q before at_j at_k same = absurd (omega (arith, before))
rise_append link (x ∷ xs) ys rise more none all zero (suc k) p q before at_j at_k same =
    ⊎_elim
    (λ h. rise 0 (suc h.0) p q (omega arith) at_j h.1 same)
    (λ h. absurd (none 0 p at_j (same ∙ all h.0 q h.1)))
    (in_either xs ys k q at_k)
rise_append link (x ∷ xs) ys rise more none all (suc j) zero p q before at_j at_k same = absurd (omega (arith, before))
rise_append link (x ∷ xs) ys rise more none all (suc j) (suc k) p q before at_j at_k same =
    rise_append link xs ys (λ a b u v lt e f. rise (suc a) (suc b) u v (omega (arith, lt)) e f) more (λ a u e. none (suc a) u e) all j k p q (omega (arith, before)) at_j at_k same

-- the queue of a cube that was made
made_of : (cap link : ℕ) (cubes : List ℕ) (k : ℕ) (q : Queue) → slice_get (no_queues cap link cubes) k ≡ Some q → (c : ℕ) × (slice_get cubes k ≡ Some c) × IsLike (no_items cap link c) q
made_of cap link [] k q e = absurd cc
made_of cap link (c ∷ cubes) zero q e =
    let one : no_items cap link c ≡ q = cc in
    (c, refl, (ap (λ r. r.link) one, ap (λ r. r.qos) one))
made_of cap link (c ∷ cubes) (suc k) q e = made_of cap link cubes k q e

rise_made : (cap link : ℕ) (cubes : List ℕ) → IsStrictlyIncreasing cubes → IdsRise (no_queues cap link cubes)
rise_made cap link cubes rise j k p q before at_j at_k same =
    let first = made_of cap link cubes j p at_j in
    let second = made_of cap link cubes k q at_k in
    let below : get_or cubes j 0 < get_or cubes k 0 = AllPairs-from_increasing cubes rise j k 0 before (slice_get_within cubes k second.0 second.1) in
    let low : get_or cubes j 0 ≡ first.0 = get_or_from_slice_get cubes j first.0 0 first.1 in
    let high : get_or cubes k 0 ≡ second.0 = get_or_from_slice_get cubes k second.0 0 second.1 in
    omega (arith, below, low, high, first.2.1, second.2.1)

all_made : (cap link : ℕ) (cubes : List ℕ) → AllOf link (no_queues cap link cubes)
all_made cap link cubes k q e = let h = made_of cap link cubes k q e in sym h.2.0

none_by : (link : ℕ) (xs : List Queue) → list_any (λ q. q.link == link) xs ≡ false → NoneOf link xs
none_by link [] lacks k q e same = cc
none_by link (x ∷ xs) lacks zero q e same =
    let one : x ≡ q = cc in
    let is : x.link ≡ link = ap (λ r. r.link) one ∙ same in
    absurd (grind (arith, nat_tests, lacks, is))
none_by link (x ∷ xs) lacks (suc k) q e same =
    let rest : list_any (λ r. r.link == link) xs ≡ false = grind (arith, lacks) in
    none_by link xs rest k q e same

pub none_has : (link : ℕ) (xs : List Queue) → has_link link xs ≡ false → NoneOf link xs
unfolding has_link
none_has link xs lacks = none_by link xs lacks

-- the queues of a link that was not there are added, or nothing is
pub rise_added : (ok : Bool) (cap link : ℕ) (cubes : List ℕ) (old seen made new : List Queue) → IdsRise old → IsStrictlyIncreasing cubes → seen ≡ old → has_link link seen ≡ false → made ≡ no_queues cap link cubes → new ≡ cond ok (old ++ made) old → IdsRise new
rise_added true cap link cubes old seen made new rise ids same lacks is e =
    let whole : new ≡ old ++ no_queues cap link cubes = e ∙ ap (λ ms. old ++ ms) is in
    subst IdsRise (sym whole) (rise_append link old (no_queues cap link cubes) rise (rise_made cap link cubes ids) (none_has link old (ap (has_link link) (sym same) ∙ lacks)) (all_made cap link cubes))
rise_added false cap link cubes old seen made new rise ids same lacks is e = subst IdsRise (sym e) rise
