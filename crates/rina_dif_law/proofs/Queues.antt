-- What a change of an IPC process does to what waits there, and to its links.
use Rattle.std.proofs.Common.{◌≡◌, ℕ, zero, suc, List, [], ◌∷◌, ◌++◌, drop, slice_get, slice_set, Some, refl, sym, ◌∙◌, ap, subst, inl, inr, ◌⊎◌}
use Rattle.rina_iface.proofs.Changed.{set_at}
use Rattle.rina_law.specs.Lists.{In}
use Rattle.rina_law.specs.Receiver.{Piece}
use Rattle.rina_queue.specs.declared.queue.Queued.{Queued}
use Rattle.rina_data.specs.declared.link.Link.{Link}
use Rattle.rina_data.specs.Process.{Process, Queue, with_put}
use Rattle.rina_dif_law.specs.Ids.{Ids, pdu_of_piece}
use Rattle.rina_dif_law.specs.Sending.{made_items}
use Rattle.rina_dif_law.specs.Standing.{HasLink}
use Rattle.rina_dif_law.proofs.Clouds.{NoItem, Requeued}

-- one of these PDUs, in a queue for this link
abbrev pub JustItems : ℕ → ℕ → List Queued → ℕ → ℕ → Queued → Type 0
JustItems i n items j m item = (j ≡ i) × (m ≡ n) × In item items

-- an IPC process whose queues stay
pub requeued_same : (ps : List Process) (i : ℕ) (p p' : Process) → slice_get ps i ≡ Some p → p'.queues ≡ p.queues → Requeued NoItem ps (slice_set ps i p')
requeued_same ps i p p' is same j n item w = inl (elim (set_at ps i j p p' w.process is w.is_process) [
  | inl t ↦
      let queues = ap (λ (z : Process). z.queues) t.1 ∙ same in
      record { process = p; is_process = subst (λ (m : ℕ). slice_get ps m ≡ Some p) (sym t.0) is; place = w.place; queue = w.queue; is_queue = subst (λ (qs : List Queue). slice_get qs w.place ≡ Some w.queue) queues w.is_queue; link = w.link; at = w.at; is_item = w.is_item }
  | inr f ↦ record { process = w.process; is_process = f.1; place = w.place; queue = w.queue; is_queue = w.is_queue; link = w.link; at = w.at; is_item = w.is_item }
])

-- one queue changes: what stands in it stood there, or is new
requeued_queue : (ps : List Process) (i k : ℕ) (p p' : Process) (q q' : Queue) (new : Queued → Type 0) → slice_get ps i ≡ Some p → slice_get p.queues k ≡ Some q → p'.queues ≡ slice_set p.queues k q' → q'.link ≡ q.link → ((at : ℕ) (item : Queued) → slice_get q'.items at ≡ Some item → ((was : ℕ) × (slice_get q.items was ≡ Some item)) ⊎ new item) → Requeued (λ j n item. (j ≡ i) × (n ≡ q.link) × new item) ps (slice_set ps i p')
requeued_queue ps i k p p' q q' new is_p is_q queues link items j n item w = elim (set_at ps i j p p' w.process is_p w.is_process) [
  | inl t ↦
      let is_p' : slice_get ps j ≡ Some p = subst (λ (m : ℕ). slice_get ps m ≡ Some p) (sym t.0) is_p in
      let there : slice_get (slice_set p.queues k q') w.place ≡ Some w.queue = subst (λ (qs : List Queue). slice_get qs w.place ≡ Some w.queue) (ap (λ (z : Process). z.queues) t.1 ∙ queues) w.is_queue in
      elim (set_at p.queues k w.place q q' w.queue is_q there) [
        | inl u ↦
            let link' : q.link ≡ n = sym link ∙ ap (λ (z : Queue). z.link) (sym u.1) ∙ w.link in
            elim (items w.at item (subst (λ (z : Queue). slice_get z.items w.at ≡ Some item) u.1 w.is_item)) [
              | inl o ↦ inl (record { process = p; is_process = is_p'; place = k; queue = q; is_queue = is_q; link = link'; at = o.0; is_item = o.1 })
              | inr m ↦ inr (t.0, sym link', m)
            ]
        | inr u ↦ inl (record { process = p; is_process = is_p'; place = w.place; queue = w.queue; is_queue = u.1; link = w.link; at = w.at; is_item = w.is_item })
      ]
  | inr f ↦ inl (record { process = w.process; is_process = f.1; place = w.place; queue = w.queue; is_queue = w.is_queue; link = w.link; at = w.at; is_item = w.is_item })
]

in_list : {X : Type 0} (xs : List X) (i : ℕ) (x : X) → slice_get xs i ≡ Some x → In x xs
in_list [] i x h = cc
in_list (y ∷ ys) zero x h = inl cc
in_list (y ∷ ys) (suc i) x h = inr (in_list ys i x h)

in_two : {X : Type 0} (xs ys : List X) (i : ℕ) (x : X) → slice_get (xs ++ ys) i ≡ Some x → ((k : ℕ) × (slice_get xs k ≡ Some x)) ⊎ In x ys
in_two [] ys i x h = inr (in_list ys i x h)
in_two (z ∷ zs) ys zero x h = inl (zero, h)
in_two (z ∷ zs) ys (suc i) x h = elim (in_two zs ys i x h) [ inl o ↦ inl (suc o.0, o.1) | inr n ↦ inr n ]

slice_get-drop : {X : Type 0} (xs : List X) (i : ℕ) (x : X) → slice_get (drop 1 xs) i ≡ Some x → slice_get xs (suc i) ≡ Some x
slice_get-drop [] i x h = cc
slice_get-drop (y ∷ ys) i x h = h

-- PDUs were put at the end of a queue
pub requeued_put : (ps : List Process) (i k : ℕ) (p : Process) (q : Queue) (items : List Queued) → slice_get ps i ≡ Some p → slice_get p.queues k ≡ Some q → Requeued (JustItems i q.link items) ps (slice_set ps i (with_put p k q items))
requeued_put ps i k p q items is_p is_q = requeued_queue ps i k p (with_put p k q items) q (record q { items = q.items ++ items }) (λ item. In item items) is_p is_q refl refl (λ at item h. in_two q.items items at item h)

-- the first PDU of a queue was taken, and the rest of the IPC process that is no queue may have changed
pub requeued_taken : (ps : List Process) (i k : ℕ) (p p' : Process) (q : Queue) → slice_get ps i ≡ Some p → slice_get p.queues k ≡ Some q → p'.queues ≡ slice_set p.queues k (record q { items = drop 1 q.items }) → Requeued NoItem ps (slice_set ps i p')
requeued_taken ps i k p p' q is_p is_q queues j n item w = elim (requeued_queue ps i k p p' q (record q { items = drop 1 q.items }) (λ item. ⊥) is_p is_q queues refl (λ at item h. inl (suc at, slice_get-drop q.items at item h)) j n item w) [
  | inl o ↦ inl o
  | inr m ↦ absurd m.2
]

-- the links of an IPC process stay
pub same_links : (ps : List Process) (i : ℕ) (p p' : Process) → slice_get ps i ≡ Some p → p'.links ≡ p.links → (j : ℕ) (l : Link) → HasLink (slice_set ps i p') j l → HasLink ps j l
same_links ps i p p' is same j l h = elim (set_at ps i j p p' h.process is h.is_process) [
  | inl t ↦
      let links = ap (λ (z : Process). z.links) t.1 ∙ same in
      record { process = p; is_process = subst (λ (m : ℕ). slice_get ps m ≡ Some p) (sym t.0) is; place = h.place; stands = subst (λ (ls : List Link). slice_get ls h.place ≡ Some l) links h.stands }
  | inr f ↦ record { process = h.process; is_process = f.1; place = h.place; stands = h.stands }
]

-- what waits of an SDU is a piece of it, made now
pub record IsMadeItem (ids : Ids) (mpl now : ℕ) (pieces : List Piece) (item : Queued) : Type 0 where
  pub piece : Piece
  pub one : In piece pieces
  pub is : item ≡ record { pdu = pdu_of_piece ids piece; left = mpl; since = now }

pub made_item : (ids : Ids) (mpl now : ℕ) (pieces : List Piece) (item : Queued) → In item (made_items ids mpl now pieces) → IsMadeItem ids mpl now pieces item
made_item ids mpl now [] item i = absurd i
made_item ids mpl now (p ∷ ps) item (inl e) = record { piece = p; one = inl refl; is = e }
made_item ids mpl now (p ∷ ps) item (inr i) = (let m = made_item ids mpl now ps item i in record { piece = m.piece; one = inr m.one; is = m.is })
