-- Queues of a link that are emptied keep what holds of all queues.
use Rattle.std.proofs.Common.{◌≡◌, ◌∙◌, ℕ, ◌<◌, Bool, true, false, cond, eqb, List, [], map, Option, Some, None, option_map, slice_get, refl, sym, subst, arith}
use Rattle.std.proofs.lemmas.Option.{slice_get-map}
use Rattle.rina_queue.specs.declared.queue.Queue.{Queue}
use Rattle.rina_queue.specs.declared.queue.Queued.{Queued}
use Rattle.rina_queue.specs.Queues.{AllOfCubes, AreOfCube, HaveRoom, IdsRise, emptied, with_items}

-- a queue that was emptied, or not, is like the queue that it was
record IsLike (q q' : Queue) : Type 0 where
  link : q'.link ≡ q.link
  qos : q'.qos ≡ q.qos
  room : q'.ring.capacity ≡ q.ring.capacity
  own : AreOfCube q → AreOfCube q'

none_there : (k : ℕ) (item : Queued) → slice_get [] k ≡ Some item → ⊥
none_there k item e = absurd cc

like_if : (b : Bool) (q : Queue) → IsLike q (cond b (with_items [] q) q)
like_if true q = record { link = refl; qos = refl; room = refl; own = λ all k item e. absurd (none_there k item e) }
like_if false q = record { link = refl; qos = refl; room = refl; own = λ all. all }

like : (link : ℕ) (q : Queue) → IsLike q (emptied link q)
unfolding emptied
like link q = like_if (eqb q.link link) q

mapped : (h : Queue → Queue) (o : Option Queue) (q : Queue) → option_map h o ≡ Some q → (p : Queue) × (o ≡ Some p) × (q ≡ h p)
mapped h None q e = absurd cc
mapped h (Some p) q e = (p, refl, cc)

-- which queue it was
was : (link : ℕ) (xs : List Queue) (k : ℕ) (q : Queue) → slice_get (map (emptied link) xs) k ≡ Some q → (p : Queue) × (slice_get xs k ≡ Some p) × IsLike p q
was link xs k q e =
    let m = mapped (emptied link) (slice_get xs k) q (sym (slice_get-map (emptied link) xs k) ∙ e) in
    (m.0, m.1, subst (IsLike m.0) (sym m.2) (like link m.0))

pub room_emptied : (cap link : ℕ) (xs : List Queue) → HaveRoom cap xs → HaveRoom cap (map (emptied link) xs)
room_emptied cap link xs all k q e = (let w = was link xs k q e in w.2.room ∙ all k w.0 w.1)

pub rise_emptied : (link : ℕ) (xs : List Queue) → IdsRise xs → IdsRise (map (emptied link) xs)
rise_emptied link xs rise j k p q before at_j at_k same =
    let first = was link xs j p at_j in
    let second = was link xs k q at_k in
    let below : first.0.qos < second.0.qos = rise j k first.0 second.0 before first.1 second.1 (sym first.2.link ∙ same ∙ second.2.link) in
    omega (arith, below, first.2.qos, second.2.qos)

pub own_emptied : (link : ℕ) (xs : List Queue) → AllOfCubes xs → AllOfCubes (map (emptied link) xs)
own_emptied link xs all k q e = (let w = was link xs k q e in w.2.own (all k w.0 w.1))
