-- The PDU that was served leaves its queue.
use Rattle.std.proofs.Common.{Bor, ◌≡◌, ◌∙◌, ℕ, ◌+◌, ◌<◌, ◌≤◌, ◌==◌, Bool, true, false, cond, zero, suc, List, [], ◌∷◌, length, drop, filter, map, slice_get, slice_set, Option, Some, None, Result, Ok, Err, option_map, option_and_then, refl, sym, ap, subst, arith}
use Rattle.std.specs.Prelude.{IsNone, ◌↔◌, option_copied}
use Rattle.std.proofs.lemmas.List.{map-set}
use Rattle.std.proofs.lemmas.Option.{slice_get-map}
use Rattle.std.proofs.lemmas.Bool.Decides.{nat_tests}
use Rattle.rina_base.specs.declared.cause.Cause.{Cause}
use Rattle.rina_base.specs.declared.cause.Cause.TheVariants.{Expired, LinkDown}
use Rattle.rina_base.specs.declared.number.Key.{Key}
use Rattle.rina_base.specs.declared.number.Port.{Port}
use Rattle.rina_base.specs.Pdus.{key_of}
use Rattle.rina_iface.specs.declared.ends.End.{End}
use Rattle.rina_iface.specs.declared.error.SendError.{SendError}
use Rattle.rina_iface.specs.Ends.{end_in}
use Rattle.rina_iface.specs.Journal.{AreKept}
use Rattle.rina_iface.specs.Seen.{Fac, Offer, Seen, cube_at, cube_in, promise_at}
use Rattle.rina_iface.specs.Send.{refused}
use Rattle.rina_iface.proofs.Changed.{all_at}
use Rattle.rina_pci.specs.Life.{protected}
use Rattle.rina_pci.specs.Spelling.{spelling}
use Rattle.rina_pci.proofs.Lifetimes.{length-protected}
use Rattle.rina_pci.proofs.Pdus.{length-spelled}
use Rattle.rina_queue.specs.declared.queue.Queue.{Queue as Waiting}
use Rattle.rina_queue.specs.declared.queue.Queued.{Queued}
use Rattle.rina_queue.specs.Queues.{Changes, IsServed, head_at, waits, with_items}
use Rattle.rina_queue.proofs.Served.{served}
use Rattle.rina_data.specs.declared.link.Link.{Link}
use Rattle.rina_data.specs.declared.departure.First.{First}
use Rattle.rina_data.specs.declared.process.IpcProcess.{IpcProcess}
use Rattle.rina_data.specs.declared.step.OutStep.{OutStep}
use Rattle.rina_data.specs.declared.step.OutStep.TheVariants as out
use Rattle.rina_data.specs.declared.step.StepError.{StepError}
use Rattle.rina_data.specs.declared.step.StepError.TheVariants.{CountSpent, Memory, NoIpc, NoLink}
use Rattle.rina_data.specs.Deciding.{plain, process_of}
use Rattle.rina_data.specs.Configs.{Config}
use Rattle.rina_data.specs.Process.{IsQueue, Process, Queue, link_by, queue_place}
use Rattle.rina_data.specs.Leaving.{Asks, CanGo, Deals, Drops, IsOff, IsRoomy, IsTaken, Tries}
use Rattle.rina_data.specs.Outgoing.{Goes, IsHead, IsHeld, IsOver, charge_of, refused_below, sent_bytes}
use Rattle.rina_data.specs.Fitting.{IsFit}
use Rattle.rina_data.proofs.Finding.{found_in}
use Rattle.rina_data.proofs.Plain.{same_place}

-- the first PDU of a queue was taken
pub taken : (p : IpcProcess) (qos link : ℕ) (items : List Waiting) → Changes qos link (λ q. with_items (drop 1 q.ring.items) q) p.queues.queues.items items → IsTaken (process_of p) qos link (record { links = p.links; routes = p.routes; queues = map plain items; ledger = p.ledger })
taken p qos link items c =
    let k = c.0 in
    let q = c.1 in
    let new : Waiting = with_items (drop 1 q.ring.items) q in
    let queues : map plain items ≡ slice_set (map plain p.queues.queues.items) k (plain new) = ap (map plain) c.4 ∙ map-set plain p.queues.queues.items k new in
    record {
      place = k;
      queue = plain q;
      is_queue = record { found = same_place qos link p.queues.queues.items ∙ sym c.2; is_queue = slice_get-map plain p.queues.queues.items k ∙ ap (option_map plain) c.3 };
      new_is = ap (λ (qs : List Queue). record { links = p.links; routes = p.routes; queues = qs; ledger = p.ledger }) queues;
    }

-- No PDU waits

not_waiting : (n : ℕ) (q : Waiting) → waits n q ≡ false → q.link ≡ n → q.ring.items ≡ []
unfolding waits
not_waiting n q w is = go q.ring.items refl
  where
    go : (items : List Queued) → q.ring.items ≡ items → items ≡ []
    go [] e = refl
    go (x ∷ xs) e = absurd (
        let some : length q.ring.items ≡ suc (length xs) = ap (λ (ys : List Queued). length ys) e in
        grind (arith, nat_tests, w, is, some))

none_left : {X : Type 0} (p : X → Bool) (x : X) (xs : List X) → filter p (x ∷ xs) ≡ [] → (p x ≡ false) × (filter p xs ≡ [])
none_left p x xs e =
    elim (p x) as (λ b. cond b (x ∷ filter p xs) (filter p xs) ≡ [] → (b ≡ false) × (filter p xs ≡ [])) [
      | true ↦ λ h. absurd (some_none x (filter p xs) h)
      | false ↦ λ h. (refl, h)
    ] e
  where
    some_none : {X : Type 0} (x : X) (xs : List X) → x ∷ xs ≡ [] → ⊥
    some_none x xs h = absurd (let l : suc (length xs) ≡ 0 = ap (λ ys. length ys) h in omega (arith, l))

pub none_wait : (n : ℕ) (qs : List Waiting) → filter (waits n) qs ≡ [] → (k : ℕ) (queue : Queue) → slice_get (map plain qs) k ≡ Some queue → queue.link ≡ n → queue.items ≡ []
none_wait n [] e k queue at is = absurd (nowhere k queue at)
  where
    nowhere : (k : ℕ) (queue : Queue) → slice_get [] k ≡ Some queue → ⊥
    nowhere k queue at = absurd cc
none_wait n (q ∷ qs) e zero queue at is =
    let same : plain q ≡ queue = cc in
    ap (λ (z : Queue). z.items) (sym same) ∙ not_waiting n q (none_left (waits n) q qs e).0 (ap (λ (z : Queue). z.link) same ∙ is)
none_wait n (q ∷ qs) e (suc k) queue at is = none_wait n qs (none_left (waits n) q qs e).1 k queue at is

-- What the flow below is known for

then_some : {X Y : Type 0} (f : X → Option Y) (o : Option X) (y : Y) → option_and_then f o ≡ Some y → (x : X) × (o ≡ Some x) × (f x ≡ Some y)
then_some f None y e = absurd cc
then_some f (Some x) y e = (x, refl, e)

map_some : {X Y : Type 0} (f : X → Y) (o : Option X) (y : Y) → option_map f o ≡ Some y → (x : X) × (o ≡ Some x) × (f x ≡ y)
map_some f None y e = absurd cc
map_some f (Some x) y e = (x, refl, cc)

-- it promises something
pub promises : (s : Seen) (port : Port) (len : ℕ) → IsRoomy s port len → promise_at s port ≡ None → ⊥
promises s port len roomy none =
    let cube = map_some (λ (c : Offer). c.largest) (cube_at s port) roomy.largest roomy.is_largest in
    let there : promise_at s port ≡ Some cube.0.promise = ap (option_map (λ (c : Offer). c.promise)) cube.1 in
    absurd cc

-- and not too much
pub promise_bound : (s : Seen) (port : Port) (promise : ℕ) → AreKept s → promise_at s port ≡ Some promise → promise ≤ 2000000
promise_bound s port promise kept is =
    let cube = map_some (λ (c : Offer). c.promise) (cube_at s port) promise is in
    let fac = then_some (λ (f : Fac). option_and_then (λ (e : End). cube_in f.cubes e.cube) (end_in port f.ends)) (slice_get s.facs port.fac) cube.0 cube.1 in
    let end = then_some (λ (e : End). cube_in fac.0.cubes e.cube) (end_in port fac.0.ends) cube.0 fac.2 in
    let at = found_in (λ (c : Offer). c.id == end.0.cube) fac.0.cubes cube.0 end.2 in
    let P : Offer → Type 0 = λ c. c.promise ≤ 2000000 in
    let bound : cube.0.promise ≤ 2000000 = all_at P fac.0.cubes at.0 cube.0 (kept.promises port.fac fac.0 fac.1) at.1 in
    subst (λ (n : ℕ). n ≤ 2000000) cube.2 bound

-- The PDU that was served

same_some : {X : Type 0} (o : Option X) (a b : X) → o ≡ Some a → o ≡ Some b → a ≡ b
same_some o a b h g = cc

pub served_of : (p : IpcProcess) (n pick : ℕ) (r : Option (Bor Queued)) (item : Bor Queued) → option_copied r ≡ head_at pick (filter (waits n) p.queues.queues.items) → r ≡ Some item → IsServed p.queues.queues.items n pick item.now
served_of p n pick r item copied is = served n p.queues.queues.items pick item.now p.queues.rising p.queues.own (ap (λ (o : Option (Bor Queued)). option_copied o) (sym is) ∙ copied)

-- it stands first in the queue of its cube
pub served_head : (p : IpcProcess) (n pick : ℕ) (link : Link) (item : Queued) (place : ℕ) (queue : Queue) → link_by n p.links ≡ Some link → IsServed p.queues.queues.items n pick item → IsQueue (process_of p) item.pdu.qos n place queue → IsHead (process_of p) n link place queue item
served_head p n pick link item place queue is_link s there =
    let found : queue_place item.pdu.qos n (map plain p.queues.queues.items) ≡ Some s.place = same_place item.pdu.qos n p.queues.queues.items ∙ s.found in
    let at : s.place ≡ place = same_some (queue_place item.pdu.qos n (map plain p.queues.queues.items)) s.place place found there.found in
    let here : slice_get (map plain p.queues.queues.items) s.place ≡ Some (plain s.queue) = slice_get-map plain p.queues.queues.items s.place ∙ ap (option_map plain) s.is_queue in
    let is : plain s.queue ≡ queue = same_some (slice_get (map plain p.queues.queues.items) place) (plain s.queue) queue (subst (λ (k : ℕ). slice_get (map plain p.queues.queues.items) k ≡ Some (plain s.queue)) at here) there.is_queue in
    record {
      is_link = is_link;
      is_queue = there.is_queue;
      of_link = ap (λ (z : Queue). z.link) (sym is) ∙ s.of_link;
      first = subst (λ (z : Queue). slice_get z.items 0 ≡ Some item) is s.first;
    }

-- it may be sent
pub served_fit : (g : Config) (now : ℕ) (p : IpcProcess) (below : Seen) (n pick : ℕ) (item : Queued) → CanGo g now (process_of p) below n → IsServed p.queues.queues.items n pick item → IsFit g item.pdu
served_fit g now p below n pick item can s =
    let here : slice_get (map plain p.queues.queues.items) s.place ≡ Some (plain s.queue) = slice_get-map plain p.queues.queues.items s.place ∙ ap (option_map plain) s.is_queue in
    can.fit s.place 0 (plain s.queue) item here s.of_link s.first

-- and is not too long for the flow below
pub served_room : (g : Config) (now : ℕ) (p : IpcProcess) (below : Seen) (n pick : ℕ) (link : Link) (item : Queued) (left : ℕ) (bytes : List ℕ) → CanGo g now (process_of p) below n → link_by n p.links ≡ Some link → IsServed p.queues.queues.items n pick item → bytes ≡ protected left (spelling g.widths item.pdu) → IsRoomy below link.port (length bytes)
served_room g now p below n pick link item left bytes can is_link s is =
    let fit = served_fit g now p below n pick item can s in
    let room = can.roomy link is_link in
    let long : length bytes ≡ 4 + length (spelling g.widths item.pdu) = ap (λ (b : List ℕ). length b) is ∙ length-protected left (spelling g.widths item.pdu) in
    let size = length-spelled g.widths item.pdu can.widths fit.fits.proper in
    record { largest = room.largest; is_largest = room.is_largest; within = omega (arith, long, size, fit.size, room.within) }

-- where a PDU was lent, the queues of the link are not all empty
pub some_waits : {X P : Type 0} (r : Option X) (x : X) → (IsNone r ↔ P) → r ≡ Some x → P → ⊥
some_waits r x none is h = let gone : IsNone r = none.1 h in absurd (let e : IsNone (Some x) = subst (λ o. IsNone o) is gone in cc)

-- What a PDU that was lent leads to

abbrev pub first_of : Key → Queued → ℕ → Link → First
first_of key item n link = record { key = key; qos = item.pdu.qos; link = n; port = link.port }

-- what is known of the PDU at hand
pub record IsAtHand (p : IpcProcess) (below : Seen) (n : ℕ) (link : Link) (item : Queued) (promise : ℕ) : Type 0 where
  pub pick : ℕ
  pub is_link : link_by n p.links ≡ Some link
  pub served : IsServed p.queues.queues.items n pick item
  pub promised : promise_at below link.port ≡ Some promise

abbrev pub at_hand : (p : IpcProcess) (below : Seen) (n : ℕ) (link : Link) (promise pick : ℕ) (r : Option (Bor Queued)) (item : Bor Queued) → link_by n p.links ≡ Some link → option_copied r ≡ head_at pick (filter (waits n) p.queues.queues.items) → r ≡ Some item → promise_at below link.port ≡ Some promise → IsAtHand p below n link item.now promise
at_hand p below n link promise pick r item is_link copied is promised =
    record { pick = pick; is_link = is_link; served = served_of p n pick r item copied is; promised = promised }

-- it is written off for its age
pub goes_late : (refuses : Port → ℕ → Option SendError) (g : Config) (now : ℕ) (p : IpcProcess) (below : Seen) (n : ℕ) (link : Link) (item : Queued) (promise : ℕ) (key : Key) (left charge : ℕ) (r : Result OutStep StepError) (process' : Process) → IsAtHand p below n link item promise → key ≡ key_of item.pdu → left ≡ item.left → charge ≡ charge_of now item promise → left < charge → Drops (process_of p) (first_of key item n link) (Expired left charge) r process' → Goes refuses g now (process_of p) below n r process' below
goes_late refuses g now p below n link item promise key left charge (Ok out.Idle) process' h k l c less d = absurd d
goes_late refuses g now p below n link item promise key left charge (Ok (out.Sent other)) process' h k l c less d = absurd d
goes_late refuses g now p below n link item promise key left charge (Ok (out.Off other cause)) process' h k l c less d =
    let off = d.2 in
    let line : Goes refuses g now (process_of p) below n (Ok (out.Off key (Expired left charge))) process' below = record {
      link = link;
      place = off.place;
      queue = off.queue;
      item = item;
      head = served_head p n h.pick link item off.place off.queue h.is_link h.served off.is_queue;
      key_is = k;
      promise = promise;
      promised = h.promised;
      why = (l, c, less);
      below_is = refl;
      new_is = off.new_is;
    } in
    subst (λ (z : Key). Goes refuses g now (process_of p) below n (Ok (out.Off z cause)) process' below) (sym d.0) (subst (λ (z : Cause). Goes refuses g now (process_of p) below n (Ok (out.Off key z)) process' below) (sym d.1) line)
goes_late refuses g now p below n link item promise key left charge (Ok (out.Held why)) process' h k l c less d = absurd d
goes_late refuses g now p below n link item promise key left charge (Err Memory) process' h k l c less d = (d, refl)
goes_late refuses g now p below n link item promise key left charge (Err NoIpc) process' h k l c less d = absurd d
goes_late refuses g now p below n link item promise key left charge (Err NoLink) process' h k l c less d = absurd d
goes_late refuses g now p below n link item promise key left charge (Err (CountSpent more rest)) process' h k l c less d = absurd d

-- it is held: it was in time, and the flow below refuses it for now
pub held_back : (refuses : Port → ℕ → Option SendError) (g : Config) (now : ℕ) (p : IpcProcess) (below : Seen) (n : ℕ) (link : Link) (item : Queued) (promise : ℕ) (why : SendError) → IsAtHand p below n link item promise → charge_of now item promise ≤ item.left → refused_below refuses g now below link item promise ≡ Some why → (IsOver why → ⊥) → IsHeld refuses g now below n (process_of p) item why
held_back refuses g now p below n link item promise why h c said not_over =
    let s = h.served in
    let there : IsQueue (process_of p) item.pdu.qos n s.place (plain s.queue) = record { found = same_place item.pdu.qos n p.queues.queues.items ∙ s.found; is_queue = slice_get-map plain p.queues.queues.items s.place ∙ ap (option_map plain) s.is_queue } in
    record {
      link = link;
      place = s.place;
      queue = plain s.queue;
      head = served_head p n h.pick link item s.place (plain s.queue) h.is_link h.served there;
      promise = promise;
      promised = h.promised;
      in_time = c;
      refused = said;
      not_over = not_over;
    }

-- it is sent, or not
pub goes_tried : (refuses : Port → ℕ → Option SendError) (g : Config) (now : ℕ) (p : IpcProcess) (below : Seen) (n : ℕ) (link : Link) (item : Queued) (promise : ℕ) (key : Key) (r : Result OutStep StepError) (process' : Process) (below' : Seen) → IsAtHand p below n link item promise → key ≡ key_of item.pdu → charge_of now item promise ≤ item.left → Tries (refuses link.port (length (sent_bytes g now item promise))) (process_of p) below (first_of key item n link) (sent_bytes g now item promise) r process' below' → Goes refuses g now (process_of p) below n r process' below'
goes_tried refuses g now p below n link item promise key (Ok out.Idle) process' below' h k c d = absurd d
goes_tried refuses g now p below n link item promise key (Ok (out.Sent other)) process' below' h k c d =
    let gone = d.2 in record {
      link = link;
      place = gone.place;
      queue = gone.queue;
      item = item;
      head = served_head p n h.pick link item gone.place gone.queue h.is_link h.served gone.is_queue;
      key_is = d.0 ∙ k;
      promise = promise;
      promised = h.promised;
      in_time = c;
      num = d.1.0;
      sent = d.1.1;
      new_is = gone.new_is;
    }
goes_tried refuses g now p below n link item promise key (Ok (out.Off other cause)) process' below' h k c d =
    let off = d.3 in
    let line : Goes refuses g now (process_of p) below n (Ok (out.Off key (LinkDown link.port))) process' below' = record {
      link = link;
      place = off.place;
      queue = off.queue;
      item = item;
      head = served_head p n h.pick link item off.place off.queue h.is_link h.served off.is_queue;
      key_is = k;
      promise = promise;
      promised = h.promised;
      why = record { port_is = refl; in_time = c; error = d.2.error; refused = d.2.refused; over = d.2.over };
      below_is = d.4;
      new_is = off.new_is;
    } in
    subst (λ (z : Key). Goes refuses g now (process_of p) below n (Ok (out.Off z cause)) process' below') (sym d.0) (subst (λ (z : Cause). Goes refuses g now (process_of p) below n (Ok (out.Off key z)) process' below') (sym d.1) line)
goes_tried refuses g now p below n link item promise key (Ok (out.Held why)) process' below' h k c d =
    ((item, held_back refuses g now p below n link item promise why h c d.0 d.1), d.2, d.3)
goes_tried refuses g now p below n link item promise key (Err Memory) process' below' h k c d = d
goes_tried refuses g now p below n link item promise key (Err NoIpc) process' below' h k c d = absurd d
goes_tried refuses g now p below n link item promise key (Err NoLink) process' below' h k c d = absurd d
goes_tried refuses g now p below n link item promise key (Err (CountSpent need left)) process' below' h k c d = absurd d

-- the link at hand, as it was looked up
pub found_link : (links seen : List Link) (n : ℕ) (o : Option Link) (link : Link) → seen ≡ links → o ≡ link_by n seen → o ≡ Some link → link_by n links ≡ Some link
found_link links seen n o link same looked is = ap (link_by n) (sym same) ∙ sym looked ∙ is

-- What was asked of the shelf

-- it was asked for a PDU
abbrev pub IsAnswer : Result OutStep StepError → Type 0
IsAnswer (Ok out.Idle) = ⊥
IsAnswer (Err NoIpc) = ⊥
IsAnswer (Err NoLink) = ⊥
IsAnswer (Err (CountSpent need left)) = ⊥
IsAnswer other = Unit {0}

pub asks_for : (quiet asks : Type 0) (r : Result OutStep StepError) → IsAnswer r → asks → Asks quiet asks r
asks_for quiet asks (Ok out.Idle) h a = absurd h
asks_for quiet asks (Ok (out.Sent key)) h a = a
asks_for quiet asks (Ok (out.Off key cause)) h a = a
asks_for quiet asks (Ok (out.Held why)) h a = a
asks_for quiet asks (Err Memory) h a = a
asks_for quiet asks (Err NoIpc) h a = absurd h
asks_for quiet asks (Err NoLink) h a = absurd h
asks_for quiet asks (Err (CountSpent need left)) h a = absurd h

-- what was done is done with this PDU
pub record IsDealt (held : Queued → SendError → Type 0) (process : Process) (n : ℕ) (item : Queued) (r : Result OutStep StepError) (process' : Process) : Type 0 where
  pub answer : IsAnswer r
  pub deals : Deals held process n item r process'

pub dealt_late : (held : Queued → SendError → Type 0) (process : Process) (n : ℕ) (link : Link) (item : Queued) (key : Key) (cause : Cause) (r : Result OutStep StepError) (process' : Process) → key ≡ key_of item.pdu → Drops process (first_of key item n link) cause r process' → IsDealt held process n item r process'
dealt_late held process n link item key cause (Ok out.Idle) process' k d = absurd d
dealt_late held process n link item key cause (Ok (out.Sent other)) process' k d = absurd d
dealt_late held process n link item key cause (Ok (out.Off other why)) process' k d =
    let off = d.2 in
    record {
      answer = tt;
      deals = (d.0 ∙ k, subst (λ (z : Key). IsOff process item.pdu.qos n z why process') (sym d.0) (subst (λ (z : Cause). IsOff process item.pdu.qos n key z process') (sym d.1) off));
    }
dealt_late held process n link item key cause (Ok (out.Held why)) process' k d = absurd d
dealt_late held process n link item key cause (Err Memory) process' k d = record { answer = tt; deals = tt }
dealt_late held process n link item key cause (Err NoIpc) process' k d = absurd d
dealt_late held process n link item key cause (Err NoLink) process' k d = absurd d
dealt_late held process n link item key cause (Err (CountSpent need left)) process' k d = absurd d

pub dealt_none : (held : Queued → SendError → Type 0) (process : Process) (n : ℕ) (item : Queued) (e : StepError) (r : Result OutStep StepError) → e ≡ Memory → r ≡ Err e → IsDealt held process n item r process
dealt_none held process n item e r is err = subst (λ (v : Result OutStep StepError). IsDealt held process n item v process) (sym (err ∙ ap (λ (z : StepError). Err z) is)) (record { answer = tt; deals = tt })

pub dealt_tried : (held : Queued → SendError → Type 0) (own : Option SendError) (process : Process) (below : Seen) (n : ℕ) (link : Link) (item : Queued) (key : Key) (bytes : List ℕ) (r : Result OutStep StepError) (process' : Process) (below' : Seen) → key ≡ key_of item.pdu → ((why : SendError) → refused below link.port (length bytes) own ≡ Some why → (IsOver why → ⊥) → held item why) → Tries own process below (first_of key item n link) bytes r process' below' → IsDealt held process n item r process'
dealt_tried held own process below n link item key bytes (Ok out.Idle) process' below' k back d = absurd d
dealt_tried held own process below n link item key bytes (Ok (out.Sent other)) process' below' k back d = record { answer = tt; deals = (d.0 ∙ k, d.2) }
dealt_tried held own process below n link item key bytes (Ok (out.Off other why)) process' below' k back d =
    let off = d.3 in
    record {
      answer = tt;
      deals = (d.0 ∙ k, subst (λ (z : Key). IsOff process item.pdu.qos n z why process') (sym d.0) (subst (λ (z : Cause). IsOff process item.pdu.qos n key z process') (sym d.1) off));
    }
dealt_tried held own process below n link item key bytes (Ok (out.Held why)) process' below' k back d = record { answer = tt; deals = back why d.0 d.1 }
dealt_tried held own process below n link item key bytes (Err Memory) process' below' k back d = record { answer = tt; deals = tt }
dealt_tried held own process below n link item key bytes (Err NoIpc) process' below' k back d = absurd d
dealt_tried held own process below n link item key bytes (Err NoLink) process' below' k back d = absurd d
dealt_tried held own process below n link item key bytes (Err (CountSpent need left)) process' below' k back d = absurd d
