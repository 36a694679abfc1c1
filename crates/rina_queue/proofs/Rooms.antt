-- Queues that all have room for so many PDUs.
use Rattle.std.proofs.Common.{◌≡◌, ◌∙◌, ℕ, ◌<◌, Bool, true, false, cond, suc, zero, List, [], ◌∷◌, ◌++◌, length, get_or, Some, slice_get, slice_set, refl, sym, ap}
use Rattle.std.proofs.lemmas.Option.{slice_get_read}
use Rattle.rina_queue.specs.declared.queue.Queue.{Queue}
use Rattle.rina_queue.specs.Queues.{HaveRoom, no_queues}

same_room : (cap : ℕ) (w q : Queue) → w.ring.capacity ≡ cap → Some w ≡ Some q → q.ring.capacity ≡ cap
same_room cap w q is e = let s : w ≡ q = cc in sym (ap (λ r. r.ring.capacity) s) ∙ is

room_set : (cap : ℕ) (xs : List Queue) (i : ℕ) (w : Queue) → HaveRoom cap xs → w.ring.capacity ≡ cap → HaveRoom cap (slice_set xs i w)
room_set cap [] i w all is k q e = all k q e
room_set cap (x ∷ xs) zero w all is zero q e = same_room cap w q is e
room_set cap (x ∷ xs) zero w all is (suc k) q e = all (suc k) q e
room_set cap (x ∷ xs) (suc i) w all is zero q e = all zero q e
room_set cap (x ∷ xs) (suc i) w all is (suc k) q e = room_set cap xs i w (λ j p h. all (suc j) p h) is k q e

-- another queue of the same room is put at a place
pub room_put : (cap : ℕ) (xs : List Queue) (i : ℕ) (x w : Queue) → HaveRoom cap xs → i < length xs → x ≡ get_or xs i x → w.ring.capacity ≡ x.ring.capacity → HaveRoom cap (slice_set xs i w)
room_put cap xs i x w all lt read is = room_set cap xs i w all (is ∙ all i x (slice_get_read xs (length xs) i x refl lt read))

pub room_append : (cap : ℕ) (xs ys : List Queue) → HaveRoom cap xs → HaveRoom cap ys → HaveRoom cap (xs ++ ys)
room_append cap [] ys all more k q e = more k q e
room_append cap (x ∷ xs) ys all more zero q e = all zero q e
room_append cap (x ∷ xs) ys all more (suc k) q e = room_append cap xs ys (λ j p h. all (suc j) p h) more k q e

pub room_none : (cap link : ℕ) (cubes : List ℕ) → HaveRoom cap (no_queues cap link cubes)
room_none cap link [] k q e = cc
room_none cap link (c ∷ cubes) zero q e = same_room cap _ q refl e
room_none cap link (c ∷ cubes) (suc k) q e = room_none cap link cubes k q e

-- the queues of a link are added, or nothing is
pub room_added : (ok : Bool) (cap link : ℕ) (cubes : List ℕ) (old made new : List Queue) → HaveRoom cap old → made ≡ no_queues cap link cubes → new ≡ cond ok (old ++ made) old → HaveRoom cap new
room_added true cap link cubes old made new all is e k q h = room_append cap old (no_queues cap link cubes) all (room_none cap link cubes) k q (ap (λ qs. slice_get qs k) (sym (e ∙ ap (λ ms. old ++ ms) is)) ∙ h)
room_added false cap link cubes old made new all is e k q h = all k q (ap (λ qs. slice_get qs k) (sym e) ∙ h)
