-- The queues of a link that an IPC process takes while its DIF runs.
use Rattle.std.proofs.Common.{◌≡◌, ◌≢◌, ◌∙◌, ◌⊎◌, ℕ, zero, suc, ◌==◌, ◌||◌, Bool, true, cond, List, [], ◌∷◌, ◌++◌, map, slice_get, Option, Some, option_map, refl, sym, ap, subst, arith, inl, inr}
use Rattle.std.specs.Prelude.{Contains, IsSome, sum_by}
use Rattle.std.specs.List.{list_any}
use Rattle.std.proofs.lemmas.Bool.{cases_Bool, false≢true}
use Rattle.std.proofs.lemmas.Bool.Decides.{eqb_tells}
use Rattle.std.proofs.lemmas.List.{map-append}
use Rattle.std.proofs.lemmas.List.Sums.{sum_by-append, sum_by-cons}
use Rattle.std.proofs.lemmas.Option.{slice_get-map}
use Rattle.rina_base.specs.declared.number.Key.{Key}
use Rattle.rina_queue.specs.declared.queue.Queue.{Queue as Waiting}
use Rattle.rina_queue.specs.declared.queue.Queued.{Queued}
use Rattle.rina_queue.specs.Queues.{added, has_link, is_queue, no_items, no_queues, queue_place as place_there}
use Rattle.rina_queue.proofs.Places.{first_passes}
use Rattle.rina_data.specs.Configs.{Config}
use Rattle.rina_data.specs.Deciding.{plain}
use Rattle.rina_data.specs.Fitting.{IsQos}
use Rattle.rina_data.specs.Process.{Queue, queue_place}
use Rattle.rina_data.proofs.Plain.{same_place}
use Rattle.rina_dif_law.specs.Accounted.{queued_with}
use Rattle.rina_dif.specs.Holding.{AreWhole}
use Rattle.rina_dif.proofs.Bare.{map_at}
use Rattle.rina_dif.proofs.Linked.{its_link, new_one, new_there, passes_some, still_there}
use Rattle.rina_dif.proofs.Putting.{stands_there}

-- The queues of a number that has some stay, and one that has none gets them

pub added_either : (cap link : ℕ) (cubes : List ℕ) (qs : List Waiting) → ((has_link link qs ≡ true) × (added cap link cubes qs ≡ qs)) ⊎ (added cap link cubes qs ≡ qs ++ no_queues cap link cubes)
unfolding added
added_either cap link cubes qs = elim (cases_Bool (has_link link qs)) [
  | inl some ↦ inl (some, ap (λ (b : Bool). cond b qs (qs ++ no_queues cap link cubes)) some)
  | inr none ↦ inr (ap (λ (b : Bool). cond b qs (qs ++ no_queues cap link cubes)) none)
]

-- a queue of the number
record HasOne (link : ℕ) (qs : List Waiting) : Type 0 where
  place : ℕ
  queue : Waiting
  stands : slice_get qs place ≡ Some queue
  of : queue.link ≡ link

has_one : (link : ℕ) (qs : List Waiting) → has_link link qs ≡ true → HasOne link qs
unfolding has_link
has_one link [] some = absurd (false≢true some)
has_one link (q ∷ qs) some = elim (eqb_tells q.link link) [
  | inl t ↦ record { place = 0; queue = q; stands = refl; of = t.1 }
  | inr f ↦
      (let rest = has_one link qs (sym (ap (λ (b : Bool). b || list_any (λ (z : Waiting). z.link == link) qs) f.0) ∙ some) in
      record { place = suc rest.place; queue = rest.queue; stands = rest.stands; of = rest.of })
]

is_its : (qos link : ℕ) (q : Waiting) → q.link ≡ link → q.qos ≡ qos → is_queue qos link q ≡ true
unfolding is_queue
is_its qos link q same qos_is = grind arith

-- What stands in two lists, one behind the other

either_at : {X : Type 0} (xs ys : List X) (k : ℕ) (x : X) → slice_get (xs ++ ys) k ≡ Some x → (slice_get xs k ≡ Some x) ⊎ ((j : ℕ) × (slice_get ys j ≡ Some x))
either_at [] ys k x is = inr (k, is)
either_at (z ∷ xs) ys zero x is = inl is
either_at (z ∷ xs) ys (suc k) x is = either_at xs ys k x is

none_in : {X : Type 0} (at : ℕ) (x : X) → slice_get [] at ≡ Some x → ⊥
none_in at x is = absurd cc

-- Where the queues stand

-- each that was there is there
pub still_placed : (cap link : ℕ) (cubes : List ℕ) (qs : List Waiting) (qos number : ℕ) → IsSome (place_there qos number qs) → IsSome (place_there qos number (added cap link cubes qs))
still_placed cap link cubes qs qos number some = elim (added_either cap link cubes qs) [
  | inl same ↦ subst (λ (zs : List Waiting). IsSome (place_there qos number zs)) (sym same.1) some
  | inr more ↦ subst (λ (zs : List Waiting). IsSome (place_there qos number zs)) (sym more) (still_there qos number qs (no_queues cap link cubes) some)
]

-- where a number has a queue it has one for each cube, by the code's lists
abbrev Whole : Config → List Waiting → Type 0
Whole g qs = (number a b : ℕ) → IsSome (place_there a number qs) → IsQos g b → IsSome (place_there b number qs)

-- the new link has one for each cube
new_placed : (g : Config) (cap link : ℕ) (cubes : List ℕ) (qs : List Waiting) (qos : ℕ) → Whole g qs → IsQos g qos → Contains cubes qos → IsSome (place_there qos link (added cap link cubes qs))
new_placed g cap link cubes qs qos whole known has = elim (added_either cap link cubes qs) [
  | inl same ↦
      (let one = has_one link qs same.0 in
      let there : IsSome (place_there one.queue.qos link qs) = passes_some (is_queue one.queue.qos link) qs one.place one.queue one.stands (is_its one.queue.qos link one.queue one.of refl) in
      subst (λ (zs : List Waiting). IsSome (place_there qos link zs)) (sym same.1) (whole link one.queue.qos qos there known))
  | inr more ↦ subst (λ (zs : List Waiting). IsSome (place_there qos link zs)) (sym more) (new_there cap link qos cubes qs has)
]

-- a queue of another number was there
was_placed : (cap link : ℕ) (cubes : List ℕ) (qs : List Waiting) (qos number : ℕ) → number ≢ link → IsSome (place_there qos number (added cap link cubes qs)) → IsSome (place_there qos number qs)
was_placed cap link cubes qs qos number other some = elim (added_either cap link cubes qs) [
  | inl same ↦ subst (λ (zs : List Waiting). IsSome (place_there qos number zs)) same.1 some
  | inr more ↦
      (let t = stands_there qos number (qs ++ no_queues cap link cubes) (subst (λ (zs : List Waiting). IsSome (place_there qos number zs)) more some) in
      let q = first_passes (is_queue qos number) (qs ++ no_queues cap link cubes) t.place t.found in
      elim (either_at qs (no_queues cap link cubes) t.place q.0 q.1.stands) [
        | inl old ↦ passes_some (is_queue qos number) qs t.place q.0 old q.1.passes
        | inr new ↦
            let n = new_one cap link cubes new.0 q.0 new.1 in
            absurd (other (sym (its_link qos number q.0 q.1.passes) ∙ ap (λ (z : Waiting). z.link) n.1))
      ])
]

whole_added : (g : Config) (cap link : ℕ) (cubes : List ℕ) (qs : List Waiting) → ((qos : ℕ) → IsQos g qos → Contains cubes qos) → Whole g qs → Whole g (added cap link cubes qs)
whole_added g cap link cubes qs has whole number a b some known = elim (eqb_tells number link) [
  | inl t ↦ subst (λ (n : ℕ). IsSome (place_there b n (added cap link cubes qs))) (sym t.1) (new_placed g cap link cubes qs b whole known (has b known))
  | inr f ↦ still_placed cap link cubes qs b number (whole number a b (was_placed cap link cubes qs a number f.1 some) known)
]

-- As a DIF sees them

to_plain : (g : Config) (qs : List Waiting) → Whole g qs → AreWhole g (map plain qs)
to_plain g qs whole number a b some known = subst (λ (o : Option ℕ). IsSome o) (sym (same_place b number qs)) (whole number a b (subst (λ (o : Option ℕ). IsSome o) (same_place a number qs) some) known)

from_plain : (g : Config) (qs : List Waiting) → AreWhole g (map plain qs) → Whole g qs
from_plain g qs whole number a b some known = subst (λ (o : Option ℕ). IsSome o) (same_place b number qs) (whole number a b (subst (λ (o : Option ℕ). IsSome o) (sym (same_place a number qs)) some) known)

pub plain_whole : (g : Config) (cap link : ℕ) (cubes : List ℕ) (qs : List Waiting) → ((qos : ℕ) → IsQos g qos → Contains cubes qos) → AreWhole g (map plain qs) → AreWhole g (map plain (added cap link cubes qs))
plain_whole g cap link cubes qs has whole = to_plain g (added cap link cubes qs) (whole_added g cap link cubes qs has (from_plain g qs whole))

pub plain_new : (g : Config) (cap link : ℕ) (cubes : List ℕ) (qs : List Waiting) (qos : ℕ) → ((id : ℕ) → IsQos g id → Contains cubes id) → AreWhole g (map plain qs) → IsQos g qos → IsSome (queue_place qos link (map plain (added cap link cubes qs)))
plain_new g cap link cubes qs qos has whole known = subst (λ (o : Option ℕ). IsSome o) (sym (same_place qos link (added cap link cubes qs))) (new_placed g cap link cubes qs qos (from_plain g qs whole) known (has qos known))

pub plain_still : (cap link : ℕ) (cubes : List ℕ) (qs : List Waiting) (qos number : ℕ) → IsSome (queue_place qos number (map plain qs)) → IsSome (queue_place qos number (map plain (added cap link cubes qs)))
plain_still cap link cubes qs qos number some =
    let there : IsSome (place_there qos number qs) = subst (λ (o : Option ℕ). IsSome o) (same_place qos number qs) some in
    subst (λ (o : Option ℕ). IsSome o) (sym (same_place qos number (added cap link cubes qs))) (still_placed cap link cubes qs qos number there)

-- What waits in them

-- what waits waited before
pub plain_waits : (cap link : ℕ) (cubes : List ℕ) (qs : List Waiting) (place at : ℕ) (queue : Queue) (item : Queued) → slice_get (map plain (added cap link cubes qs)) place ≡ Some queue → slice_get queue.items at ≡ Some item → slice_get (map plain qs) place ≡ Some queue
plain_waits cap link cubes qs place at queue item is waits = elim (added_either cap link cubes qs) [
  | inl same ↦ ap (λ (zs : List Waiting). slice_get (map plain zs) place) (sym same.1) ∙ is
  | inr more ↦
      (let w = map_at plain (qs ++ no_queues cap link cubes) place queue (ap (λ (zs : List Waiting). slice_get (map plain zs) place) (sym more) ∙ is) in
      elim (either_at qs (no_queues cap link cubes) place w.0 w.1) [
        | inl old ↦ slice_get-map plain qs place ∙ ap (option_map plain) old ∙ ap (λ (z : Queue). Some z) w.2
        | inr new ↦
            let n = new_one cap link cubes new.0 w.0 new.1 in
            let empty : queue.items ≡ [] = ap (λ (z : Queue). z.items) (sym w.2) ∙ ap (λ (z : Waiting). z.ring.items) n.1 in
            absurd (none_in at item (ap (λ (xs : List Queued). slice_get xs at) (sym empty) ∙ waits))
      ])
]

none_counted : (k : Key) (cap link : ℕ) (cubes : List ℕ) → sum_by (queued_with k) (map plain (no_queues cap link cubes)) ≡ 0
none_counted k cap link [] = refl
none_counted k cap link (c ∷ cs) =
    let one = sum_by-cons (queued_with k) (plain (no_items cap link c)) (map plain (no_queues cap link cs)) in
    let rest = none_counted k cap link cs in
    let empty : queued_with k (plain (no_items cap link c)) ≡ 0 = refl in
    omega (arith, one, rest, empty)

-- and as often
pub plain_count : (k : Key) (cap link : ℕ) (cubes : List ℕ) (qs : List Waiting) → sum_by (queued_with k) (map plain (added cap link cubes qs)) ≡ sum_by (queued_with k) (map plain qs)
plain_count k cap link cubes qs = elim (added_either cap link cubes qs) [
  | inl same ↦ ap (λ (zs : List Waiting). sum_by (queued_with k) (map plain zs)) same.1
  | inr more ↦
      (let whole : sum_by (queued_with k) (map plain (added cap link cubes qs)) ≡ sum_by (queued_with k) (map plain qs ++ map plain (no_queues cap link cubes)) =
      ap (λ (zs : List Waiting). sum_by (queued_with k) (map plain zs)) more ∙ ap (sum_by (queued_with k)) (map-append plain qs (no_queues cap link cubes)) in
      let parts = sum_by-append (queued_with k) (map plain qs) (map plain (no_queues cap link cubes)) in
      let none = none_counted k cap link cubes in
      omega (arith, whole, parts, none))
]
