-- More PDUs at the end of a queue.
use Rattle.std.proofs.Common.{◌≡◌, ◌∙◌, ℕ, ◌+◌, ◌-◌, ◌<◌, ◌≤◌, List, [], ◌∷◌, ◌++◌, append_assoc, length, map, get_or, slice_get, slice_set, Option, Some, None, option_map, refl, sym, ap, subst, arith}
use Rattle.std.specs.Prelude.{IsSome}
use Rattle.std.proofs.lemmas.Bool.{false≢true}
use Rattle.std.proofs.lemmas.List.{append-nil, map-set, map-append, length-append, length-map}
use Rattle.std.proofs.lemmas.Option.{same_Some, slice_get-map, slice_get_read}
use Rattle.rina_base.specs.declared.pdu.Pdu.{Pdu}
use Rattle.rina_iface.proofs.Changed.{slice_get-set_same, slice_set-same}
use Rattle.rina_queue.specs.declared.queue.Queue.{Queue as Waiting}
use Rattle.rina_queue.specs.declared.queue.Queued.{Queued}
use Rattle.rina_queue.specs.declared.queues.Queues.{Queues}
use Rattle.rina_queue.specs.Queues.{Changes, is_queue, items_at, items_in, queue_place as place_there, waiting, with_items}
use Rattle.rina_queue.proofs.Places.{first_passes}
use Rattle.rina_data.specs.declared.process.IpcProcess.{IpcProcess}
use Rattle.rina_data.specs.Deciding.{plain, queue_settings}
use Rattle.rina_data.specs.Configs.{Config}
use Rattle.rina_data.specs.Process.{next_hop, queue_place}
use Rattle.rina_dif_law.specs.Sending.{queue_in, room_in}
use Rattle.rina_data.specs.Fitting.{IsQos}
use Rattle.rina_data.proofs.Plain.{same_place}
use Rattle.rina_flows.proofs.Framed.{set_twice}
use Rattle.rina_dif.specs.Holding.{IsHoused}
use Rattle.rina_dif.specs.Sending.{AreOf, HasPut, Puts, queued}
use Rattle.rina_dif.proofs.Keeping.{same_places}

-- Where a queue stands

-- the queue of a cube and link
pub record IsThere (qos link : ℕ) (qs : List Waiting) : Type 0 where
  pub place : ℕ
  pub queue : Waiting
  pub found : place_there qos link qs ≡ Some place
  pub is : slice_get qs place ≡ Some queue

some_there : (o : Option ℕ) → IsSome o → (k : ℕ) × (o ≡ Some k)
some_there None h = absurd (false≢true h)
some_there (Some k) h = (k, refl)

pub stands_there : (qos link : ℕ) (qs : List Waiting) → IsSome (place_there qos link qs) → IsThere qos link qs
stands_there qos link qs some =
    let k = some_there (place_there qos link qs) some in
    let q = first_passes (is_queue qos link) qs k.0 k.1 in
    record { place = k.0; queue = q.0; found = k.1; is = q.1.stands }

pub waiting_there : (qos link : ℕ) (qs : List Waiting) (k : ℕ) (q : Waiting) → place_there qos link qs ≡ Some k → slice_get qs k ≡ Some q → waiting qos link qs ≡ q.ring.items
waiting_there qos link qs k q found is = ap (λ (o : Option ℕ). items_at o qs) found ∙ ap items_in is

pub is_there : (g : Config) (p : IpcProcess) (dst link qos : ℕ) → IsHoused g p → next_hop dst p.routes ≡ Some link → IsQos g qos → IsSome (place_there qos link p.queues.queues.items)
is_there g p dst link qos h hop known = subst (λ (o : Option ℕ). IsSome o) (same_place qos link p.queues.queues.items) (h.queues dst link qos hop known)

-- the room of a queue, as the DIF sees it
pub room_there : (cap qos link : ℕ) (qs : List Waiting) → IsSome (place_there qos link qs) → room_in cap (queue_in (map plain qs) (queue_place qos link (map plain qs))) ≡ cap - length (waiting qos link qs)
room_there cap qos link qs some =
    let t = stands_there qos link qs some in
    let here : queue_in (map plain qs) (queue_place qos link (map plain qs)) ≡ Some (plain t.queue) =
    ap (queue_in (map plain qs)) (same_place qos link qs ∙ t.found) ∙ slice_get-map plain qs t.place ∙ ap (option_map plain) t.is in
    ap (room_in cap) here ∙ ap (λ (xs : List Queued). cap - length xs) (sym (waiting_there qos link qs t.place t.queue t.found t.is))

-- PDUs are put

with_more : List Queued → Waiting → Waiting
with_more items q = with_items (q.ring.items ++ items) q

same_set : (qos link : ℕ) (qs : List Waiting) (k : ℕ) (q : Waiting) (items : List Queued) → slice_get qs k ≡ Some q → place_there qos link (slice_set qs k (with_items items q)) ≡ place_there qos link qs
same_set qos link qs k q items is =
    sym (same_place qos link (slice_set qs k (with_items items q))) ∙ ap (queue_place qos link) (map-set plain qs k (with_items items q)) ∙ same_places qos link (map plain qs) k (plain q) items (slice_get-map plain qs k ∙ ap (option_map plain) is) ∙ same_place qos link qs

pub put_none : (qos link : ℕ) (qs : List Waiting) → IsSome (place_there qos link qs) → Changes qos link (λ (q : Waiting). with_items (q.ring.items ++ []) q) qs qs
put_none qos link qs some =
    let t = stands_there qos link qs some in
    let same : with_items (t.queue.ring.items ++ []) t.queue ≡ t.queue = ap (λ (xs : List Queued). with_items xs t.queue) (append-nil t.queue.ring.items) in
    (t.place, t.queue, sym t.found, t.is, sym (ap (λ (q : Waiting). slice_set qs t.place q) same ∙ slice_set-same qs t.place t.queue t.is))

pub put_more : (qos link : ℕ) (old mid new : List Waiting) (xs : List Queued) (x : Queued) → Changes qos link (λ (q : Waiting). with_items (q.ring.items ++ xs) q) old mid → Changes qos link (λ (q : Waiting). with_items (q.ring.items ++ x ∷ []) q) mid new → Changes qos link (λ (q : Waiting). with_items (q.ring.items ++ (xs ++ x ∷ [])) q) old new
put_more qos link old mid new xs x a b =
    let k = a.0 in
    let q = a.1 in
    let w : Waiting = with_items (q.ring.items ++ xs) q in
    let there : place_there qos link mid ≡ Some k = ap (place_there qos link) a.4 ∙ same_set qos link old k q (q.ring.items ++ xs) a.3 ∙ sym a.2 in
    let place : b.0 ≡ k = same_Some b.0 k (b.2 ∙ there) in
    let here : slice_get mid k ≡ Some w = ap (λ (qs : List Waiting). slice_get qs k) a.4 ∙ slice_get-set_same old k q w a.3 in
    let here' : slice_get mid k ≡ Some b.1 = subst (λ (n : ℕ). slice_get mid n ≡ Some b.1) place b.3 in
    let same : b.1 ≡ w = same_Some b.1 w (sym here' ∙ here) in
    let more : Waiting → Waiting = λ z. with_items (z.ring.items ++ x ∷ []) z in
    (k, q, a.2, a.3, b.4 ∙ ap (λ (n : ℕ). slice_set mid n (more b.1)) place ∙ ap (λ (z : Waiting). slice_set mid k (more z)) same ∙ ap (λ (qs : List Waiting). slice_set qs k (more w)) a.4 ∙ set_twice old k w (more w) ∙ ap (λ (items : List Queued). slice_set old k (with_items items q)) (append_assoc q.ring.items xs (x ∷ [])))

-- after so many were put the queue is still there, and has so many more
pub record IsFuller (qos link count : ℕ) (old mid : List Waiting) : Type 0 where
  pub there : IsSome (place_there qos link mid)
  pub count_is : length (waiting qos link mid) ≡ length (waiting qos link old) + count

pub fuller : (qos link : ℕ) (old mid : List Waiting) (xs : List Queued) → Changes qos link (λ (q : Waiting). with_items (q.ring.items ++ xs) q) old mid → IsFuller qos link (length xs) old mid
fuller qos link old mid xs a =
    let k = a.0 in
    let q = a.1 in
    let w : Waiting = with_items (q.ring.items ++ xs) q in
    let there : place_there qos link mid ≡ Some k = ap (place_there qos link) a.4 ∙ same_set qos link old k q (q.ring.items ++ xs) a.3 ∙ sym a.2 in
    let here : slice_get mid k ≡ Some w = ap (λ (qs : List Waiting). slice_get qs k) a.4 ∙ slice_get-set_same old k q w a.3 in
    let was = ap length (waiting_there qos link old k q (sym a.2) a.3) in
    let now = ap length (waiting_there qos link mid k w there here) in
    let sum = length-append q.ring.items xs in
    record {
      there = subst (λ (o : Option ℕ). IsSome o) (sym there) refl;
      count_is = omega (arith, was, now, sum);
    }

-- In the loop

pub at_split : {X : Type 0} → (xs : List X) (x : X) (ys : List X) → slice_get (xs ++ x ∷ ys) (length xs) ≡ Some x
at_split [] x ys = refl
at_split (z ∷ zs) x ys = at_split zs x ys

pub of_cube : (qos : ℕ) (pdus seen rest rest' : List Pdu) (pdu : Pdu) → AreOf qos pdus → seen ++ rest ≡ pdus → rest ≡ pdu ∷ rest' → pdu.qos ≡ qos
of_cube qos pdus seen rest rest' pdu all whole is =
    let here : slice_get pdus (length seen) ≡ Some pdu = ap (λ (xs : List Pdu). slice_get xs (length seen)) (sym whole ∙ ap (λ (xs : List Pdu). seen ++ xs) is) ∙ at_split seen pdu rest' in
    all (length seen) pdu here

pub put_next : (qos link left since : ℕ) (old mid new : List Waiting) (pdus : List Pdu) (pdu : Pdu) → Changes qos link (λ (q : Waiting). with_items (q.ring.items ++ queued left since pdus) q) old mid → Changes qos link (λ (q : Waiting). with_items (q.ring.items ++ record { pdu = pdu; left = left; since = since } ∷ []) q) mid new → Changes qos link (λ (q : Waiting). with_items (q.ring.items ++ queued left since (pdus ++ pdu ∷ [])) q) old new
put_next qos link left since old mid new pdus pdu a b =
    let items : queued left since (pdus ++ pdu ∷ []) ≡ queued left since pdus ++ record { pdu = pdu; left = left; since = since } ∷ [] = map-append (λ (p : Pdu). record { pdu = p; left = left; since = since }) pdus (pdu ∷ []) in
    subst (λ (xs : List Queued). Changes qos link (λ (q : Waiting). with_items (q.ring.items ++ xs) q) old new) (sym items) (put_more qos link old mid new (queued left since pdus) (record { pdu = pdu; left = left; since = since }) a b)

pub rest_of : (pdus seen rest rest' : List Pdu) (pdu : Pdu) → seen ++ rest ≡ pdus → rest ≡ pdu ∷ rest' → (seen ++ pdu ∷ []) ++ rest' ≡ pdus
rest_of pdus seen rest rest' pdu whole is = append_assoc seen (pdu ∷ []) rest' ∙ ap (λ (xs : List Pdu). seen ++ xs) (sym is) ∙ whole

-- there is room for the next
pub still_room : (qos link left since limit : ℕ) (old mid : List Waiting) (pdus seen rest rest' : List Pdu) (pdu : Pdu) → Changes qos link (λ (q : Waiting). with_items (q.ring.items ++ queued left since seen) q) old mid → seen ++ rest ≡ pdus → rest ≡ pdu ∷ rest' → length (waiting qos link old) + length pdus ≤ limit → length (waiting qos link mid) < limit
still_room qos link left since limit old mid pdus seen rest rest' pdu a whole is room =
    let more = (fuller qos link old mid (queued left since seen) a).count_is in
    let made : length (queued left since seen) ≡ length seen = length-map seen (λ (p : Pdu). record { pdu = p; left = left; since = since }) in
    let sum = length-append seen rest in
    let all = ap length whole in
    let one = ap length is in
    omega (arith, more, made, sum, all, one, room)

pub puts_one : (qos link : ℕ) (items : List Queued) (at : ℕ) (ps : List IpcProcess) (x : IpcProcess) (queues : Queues) → at < length ps → x ≡ get_or ps at x → Changes qos link (λ (q : Waiting). with_items (q.ring.items ++ items) q) x.queues.queues.items queues.queues.items → (queues.cap ≡ x.queues.cap) × (queues.cubes ≡ x.queues.cubes) → Puts qos link items at ps (slice_set ps at (record x { queues = queues }))
puts_one qos link items at ps x queues lt read put kept p is =
    let here : slice_get ps at ≡ Some x = slice_get_read ps (length ps) at x refl lt read in
    let same : x ≡ p = same_Some x p (sym here ∙ is) in
    let x' : IpcProcess = record x { queues = queues } in
    let same_settings : queue_settings x' ≡ queue_settings x = ap (λ (n : ℕ). record { cap = n; cubes = queues.cubes }) kept.0 ∙ ap (λ (ids : List ℕ). record { cap = x.queues.cap; cubes = ids }) kept.1 in
    (x', subst (λ (z : IpcProcess). HasPut qos link items z x') same (record { queues = put; kept = same_settings; links = refl; routes = refl; ledger = refl }), refl)
