-- Queues whose PDUs are all of their cube.
use Rattle.std.proofs.Common.{◌≡◌, ◌∙◌, ℕ, ◌<◌, Bool, true, false, cond, suc, zero, List, [], ◌∷◌, ◌++◌, length, drop, get_or, Some, Result, Ok, Err, OnOk, OnErr, slice_get, slice_set, refl, sym, ap, subst, arith}
use Rattle.std.proofs.lemmas.Option.{slice_get_read}
use Rattle.std.proofs.lemmas.Bool.Decides.{nat_tests}
use Rattle.rina_queue.specs.declared.queue.Queue.{Queue}
use Rattle.rina_queue.specs.declared.queue.Queued.{Queued}
use Rattle.rina_queue.specs.Queues.{AllOfCubes, AreOfCube, is_queue, no_items, no_queues, queue_place, with_items}
use Rattle.rina_queue.proofs.Places.{first_passes}

-- PDUs of a cube
AreOf : ℕ → List Queued → Type 0
AreOf qos items = (k : ℕ) (item : Queued) → slice_get items k ≡ Some item → item.pdu.qos ≡ qos

of_push : (qos : ℕ) (items : List Queued) (item : Queued) → AreOf qos items → item.pdu.qos ≡ qos → AreOf qos (items ++ item ∷ [])
unfolding AreOf
of_push qos [] item all is zero x e = let same : item ≡ x = cc in ap (λ i. i.pdu.qos) (sym same) ∙ is
of_push qos [] item all is (suc k) x e = absurd cc
of_push qos (y ∷ ys) item all is zero x e = all 0 x e
of_push qos (y ∷ ys) item all is (suc k) x e = of_push qos ys item (λ j z f. all (suc j) z f) is k x e

of_rest : (qos : ℕ) (items : List Queued) → AreOf qos items → AreOf qos (drop 1 items)
unfolding AreOf
of_rest qos [] all k x e = absurd cc
of_rest qos (y ∷ ys) all k x e = all (suc k) x e

own_set : (xs : List Queue) (i : ℕ) (w : Queue) → AllOfCubes xs → AreOfCube w → AllOfCubes (slice_set xs i w)
own_set [] i w all is k q e = all k q e
own_set (x ∷ xs) zero w all is zero q e = let same : w ≡ q = cc in subst AreOfCube same is
own_set (x ∷ xs) zero w all is (suc k) q e = all (suc k) q e
own_set (x ∷ xs) (suc i) w all is zero q e = all zero q e
own_set (x ∷ xs) (suc i) w all is (suc k) q e = own_set xs i w (λ j p h. all (suc j) p h) is k q e

own_append : (xs ys : List Queue) → AllOfCubes xs → AllOfCubes ys → AllOfCubes (xs ++ ys)
own_append [] ys all more k q e = more k q e
own_append (x ∷ xs) ys all more zero q e = all zero q e
own_append (x ∷ xs) ys all more (suc k) q e = own_append xs ys (λ j p h. all (suc j) p h) more k q e

none_there : (j : ℕ) (item : Queued) → slice_get [] j ≡ Some item → ⊥
none_there j item e = absurd cc

own_none : (room link : ℕ) (cubes : List ℕ) → AllOfCubes (no_queues room link cubes)
own_none room link [] k q e = absurd cc
own_none room link (c ∷ cubes) zero q e =
    let same : no_items room link c ≡ q = cc in
    subst AreOfCube same (λ j item f. absurd (none_there j item f))
own_none room link (c ∷ cubes) (suc k) q e = own_none room link cubes k q e

-- the queues of a link are added, or nothing is
pub own_added : (ok : Bool) (cap link : ℕ) (cubes : List ℕ) (old made new : List Queue) → AllOfCubes old → made ≡ no_queues cap link cubes → new ≡ cond ok (old ++ made) old → AllOfCubes new
own_added true cap link cubes old made new all is e = subst AllOfCubes (sym (e ∙ ap (λ ms. old ++ ms) is)) (own_append old (no_queues cap link cubes) all (own_none cap link cubes))
own_added false cap link cubes old made new all is e = subst AllOfCubes (sym e) all

id_of : (qos link : ℕ) (q : Queue) → is_queue qos link q ≡ true → q.qos ≡ qos
unfolding is_queue
id_of qos link q is = grind (arith, nat_tests, is)

-- the queue at the place of a cube has its id
found_id : (xs seen : List Queue) (qos link i : ℕ) (x : Queue) → seen ≡ xs → Some i ≡ queue_place qos link seen → slice_get xs i ≡ Some x → x.qos ≡ qos
found_id xs seen qos link i x same place at =
    let found = first_passes (is_queue qos link) xs i (ap (queue_place qos link) (sym same) ∙ sym place) in
    let stands : slice_get xs i ≡ Some found.0 = found.1.stands in
    let one : found.0 ≡ x = cc in
    ap (λ q. q.qos) (sym one) ∙ id_of qos link found.0 found.1.passes

-- a PDU of the cube is put into its queue, or into none
pub own_pushed : {E : Type 0} (r : Result (Unit {0}) E) (xs seen : List Queue) (qos link i : ℕ) (x w : Queue) (item : Queued) → AllOfCubes xs → seen ≡ xs → Some i ≡ queue_place qos link seen → i < length xs → x ≡ get_or xs i x → item.pdu.qos ≡ qos → OnOk r (w ≡ with_items (x.ring.items ++ item ∷ []) x) → OnErr r (w ≡ x) → AllOfCubes (slice_set xs i w)
unfolding AreOf
own_pushed r xs seen qos link i x w item all same place lt read cube ok err =
    let at : slice_get xs i ≡ Some x = slice_get_read xs (length xs) i x refl lt read in
    let id : x.qos ≡ qos = found_id xs seen qos link i x same place at in
    own_set xs i w all (elim r as (λ v. OnOk v (w ≡ with_items (x.ring.items ++ item ∷ []) x) → OnErr v (w ≡ x) → AreOfCube w) [
      | Ok u ↦ λ is no. subst AreOfCube (sym is) (of_push x.qos x.ring.items item (all i x at) (cube ∙ sym id))
      | Err e ↦ λ no is. subst AreOfCube (sym is) (all i x at)
    ] ok err)

-- the first PDU of a queue is taken
pub own_taken : (xs : List Queue) (i : ℕ) (x w : Queue) → AllOfCubes xs → i < length xs → x ≡ get_or xs i x → w ≡ with_items (drop 1 x.ring.items) x → AllOfCubes (slice_set xs i w)
unfolding AreOf
own_taken xs i x w all lt read is =
    let at : slice_get xs i ≡ Some x = slice_get_read xs (length xs) i x refl lt read in
    own_set xs i w all (subst AreOfCube (sym is) (of_rest x.qos x.ring.items (all i x at)))
