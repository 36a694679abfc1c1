-- No management message is due at a link.
use Rattle.std.proofs.Common.{◌≡◌, ◌≢◌, ◌∙◌, ℕ, ◌-◌, ◌<◌, ◌≤◌, Bool, true, false, leb, leb-true, leb-false, List, length, slice_get, Option, Some, None, Result, Ok, Err, refl, sym, ap, subst, arith}
use Rattle.std.specs.Prelude.{◌↔◌, IfOk, IsSome, IsTrue}
use Rattle.std.specs.Global.{Vec}
use Rattle.rina_base.specs.declared.memory.Memory.{Memory}
use Rattle.rina_conn.specs.declared.made.OfferError.{OfferError}
use Rattle.rina_conn.specs.declared.made.OfferError.TheVariants as offer
use Rattle.rina_conn.specs.Sending.{Refuses}
use Rattle.rina_iface.specs.declared.state.PortState.{PortState}
use Rattle.rina_iface.specs.declared.state.PortState.TheVariants as states
use Rattle.rina_iface.specs.Seen.{Seen}
use Rattle.rina_law.specs.Constants.{Constants}
use Rattle.rina_law.specs.Direction.{Direction, offer_refusal}
use Rattle.rina_law.specs.Pieces.{IsCut, Part, join}
use Rattle.rina_queue.specs.Queues.{queue_place, waiting}
use Rattle.rina_agent.specs.declared.message.ManagementMessage.{ManagementMessage}
use Rattle.rina_agent.specs.declared.message.ManagementMessage.TheVariants.{ToMember, ToNeighbour}
use Rattle.rina_agent.specs.declared.message.Waiting.{Waiting}
use Rattle.rina_agent.specs.Agenda.{first_on}
use Rattle.rina_member.specs.declared.management.Management.{Management}
use Rattle.rina_member.specs.Managements.{IsNextSdu, IsSduOf}
use Rattle.rina_data.specs.declared.process.IpcProcess.{IpcProcess}
use Rattle.rina_flows.specs.declared.flows.Flows.{Flows}
use Rattle.rina_flows.specs.Calls.{Offers as FlowsOffer, Tells, TellsNeed}
use Rattle.rina_flows.specs.Tied.{outward}
use Rattle.rina_dif.specs.declared.dif.Dif.{Dif}
use Rattle.rina_dif.specs.Holding.{LinksStand}
use Rattle.rina_dif.specs.Messaging.{IsAllocated, IsFirstSdu, IsMessageDue, IsOpenEnd, IsReady, OffersAt, TellsFirstSdu, TellsRoomFor, manage_config}
use Rattle.rina_dif.specs.Sending.{HasRoomFor}
use Rattle.rina_dif.proofs.OpenEnd.{one_place}

same_some : {X : Type 0} (o : Option X) (a b : X) → o ≡ Some a → o ≡ Some b → a ≡ b
same_some o a b h g = cc

-- The state of the flow below

pub allocated_is : (o : Option PortState) → IsAllocated o → o ≡ Some states.Allocated
allocated_is (Some states.Allocated) is = refl
allocated_is (Some states.Pending) is = absurd is
allocated_is (Some (states.Refused why)) is = absurd is
allocated_is (Some (states.Failed fail)) is = absurd is
allocated_is (Some states.Closed) is = absurd is
allocated_is None is = absurd is

pub is_allocated : (o : Option PortState) → o ≡ Some states.Allocated → IsAllocated o
is_allocated o is = subst IsAllocated (sym is) tt

-- The message that waits first

next_is : (d : Dif) (i number : ℕ) (m : Management) (o : Option Waiting) (sdu : Option (Vec ℕ)) → slice_get d.managements i ≡ Some m → first_on number m.agent.agenda ≡ o → IsNextSdu o sdu → TellsFirstSdu d i number sdu
next_is d i number m None None is first next = λ sdu f.
    let same = same_some (slice_get d.managements i) f.management m f.is_management is in
    let no : Some f.waiting ≡ None = sym f.first ∙ ap (λ (z : Management). first_on number z.agent.agenda) same ∙ first in
    absurd cc
next_is d i number m None (Some sdu) is first next = absurd next
next_is d i number m (Some w) None is first next = absurd next
next_is d i number m (Some w) (Some sdu) is first next = record { management = m; is_management = is; waiting = w; first = first; is_sdu = next }

pub tells_first : (d : Dif) (i number : ℕ) (m : Management) (r : Result (Option (Vec ℕ)) Memory) → slice_get d.managements i ≡ Some m → IfOk r (λ sdu. IsNextSdu (first_on number m.agent.agenda) sdu) → IfOk r (TellsFirstSdu d i number)
tells_first d i number m (Ok sdu) is next = next_is d i number m (first_on number m.agent.agenda) sdu is refl next
tells_first d i number m (Err e) is next = tt

-- a message is written one way
one_text : (m : ManagementMessage) (a b : List ℕ) → IsSduOf m a → IsSduOf m b → a ≡ b
one_text (ToNeighbour m) a b is also = is.spelled.spelled ∙ sym also.spelled.spelled
one_text (ToMember m) a b is also = is.spelled ∙ sym also.spelled

one_sdu : (d : Dif) (i number : ℕ) (a b : List ℕ) → IsFirstSdu d i number a → IsFirstSdu d i number b → a ≡ b
one_sdu d i number a b f g =
    let same = same_some (slice_get d.managements i) f.management g.management f.is_management g.is_management in
    let first : first_on number g.management.agent.agenda ≡ Some f.waiting = ap (λ (z : Management). first_on number z.agent.agenda) (sym same) ∙ f.first in
    let waits = same_some (first_on number g.management.agent.agenda) f.waiting g.waiting first g.first in
    one_text g.waiting.message a b (subst (λ (w : Waiting). IsSduOf w.message a) waits f.is_sdu) g.is_sdu

-- Room in its queue

within : (a b : ℕ) (x : Bool) → leb a b ≡ x → a ≤ b → x ≡ true
within a b true is le = refl
within a b false is le = (let gt : b < a = leb-false a b is in absurd (omega (arith, gt, le)))

pub room_told : (number need room : ℕ) (p : IpcProcess) → IsSome (queue_place 0 number p.queues.queues.items) → room ≡ p.queues.cap - length (waiting 0 number p.queues.queues.items) → length (waiting 0 number p.queues.queues.items) ≤ p.queues.cap → IsTrue (leb need room) ↔ HasRoomFor 0 number need p
room_told number need room p there is most = (
  λ told. (let le : need ≤ room = leb-true need room told in record { there = there; room = omega (arith, le, is, most) }),
  λ has. (let fits = has.room in within need room (leb need room) refl (omega (arith, is, fits))),
)

-- as many pieces as are told
parts_count : (d : Dif) (below : Seen) (links : LinksStand d below) (i place number need : ℕ) (sdu : List ℕ) (due : IsMessageDue d below links.lines i place number) → due.sdu ≡ sdu → Tells (λ k. TellsNeed (length sdu) k.sending.form.piece need) place d.connections.flows.conns → length due.parts ≡ need
parts_count d below links i place number need sdu due same told =
    let size = (links.tied.sends place due.conn due.line due.is_conn due.is_line).sender.piece in
    told due.conn due.is_conn due.parts (subst (λ (n : ℕ). IsCut n true due.parts) (sym size) due.cut.0) (ap length due.cut.1 ∙ ap length same)

pub no_room : (d : Dif) (below : Seen) (i place number : ℕ) (sdu : List ℕ) → IsOpenEnd d below i place number → IsFirstSdu d i number sdu → TellsRoomFor d i place number (length sdu) false → (links : LinksStand d below) (other : ℕ) → IsMessageDue d below links.lines i other number → ⊥
no_room d below i place number sdu open_end first t links other due =
    let at = one_place d below links i number place other open_end due.open_end in
    let here : IsMessageDue d below links.lines i place number = subst (λ (k : ℕ). IsMessageDue d below links.lines i k number) at due in
    let count = parts_count d below links i place number t.need sdu here (one_sdu d i number here.sdu sdu here.first first) t.told_need in
    let same = same_some (slice_get d.processes i) here.process t.process here.is_process t.is_process in
    let room : HasRoomFor 0 number t.need t.process = subst (λ (p : IpcProcess). HasRoomFor 0 number t.need p) same (subst (λ (n : ℕ). HasRoomFor 0 number n here.process) count here.room) in
    let no : false ≡ true = t.room.1 room in
    absurd cc

pub ready_at : (d : Dif) (below : Seen) (i place number : ℕ) (sdu : List ℕ) → IsOpenEnd d below i place number → IsFirstSdu d i number sdu → TellsRoomFor d i place number (length sdu) true → IsReady d i place number sdu
ready_at d below i place number sdu open_end first t = record { here = open_end.here; first = first; need = t.need; told_need = t.told_need; process = t.process; is_process = t.is_process; room = t.room.0 refl }

-- The connection refuses it

-- by the lengths of the SDU and of the list of its parts
refused_alike : (c : Constants) (line : Direction) (parts parts' : List Part) → length (join parts) ≡ length (join parts') → length parts ≡ length parts' → offer_refusal c line parts ≡ offer_refusal c line parts'
refused_alike c line parts parts' long count = rw (long, count) refl

refuses_none : (why : OfferError) → why ≢ offer.Memory → Refuses why None → ⊥
refuses_none offer.Memory other r = other refl
refuses_none (offer.TooLong len max) other r = absurd cc
refuses_none (offer.WindowShut need room) other r = absurd cc
refuses_none (offer.NumbersSpent until) other r = absurd cc

pub refused : (d : Dif) (below : Seen) (i place number : ℕ) (sdu : List ℕ) (why : OfferError) (flows : Flows) → IsReady d i place number sdu → IsOpenEnd d below i place number → FlowsOffer d.clock place sdu d.connections.flows (Err why) flows → why ≢ offer.Memory → (links : LinksStand d below) (other : ℕ) → IsMessageDue d below links.lines i other number → ⊥
refused d below i place number sdu why flows r open_end offers unlike links other due =
    let at = one_place d below links i number place other open_end due.open_end in
    let here : IsMessageDue d below links.lines i place number = subst (λ (k : ℕ). IsMessageDue d below links.lines i k number) at due in
    let same = one_sdu d i number here.sdu sdu here.first r.first in
    let x = (offers (manage_config d) links.lines links.tied).0 unlike here.conn here.line here.is_conn here.is_line in
    let size = (links.tied.sends place here.conn here.line here.is_conn here.is_line).sender.piece in
    let count = parts_count d below links i place number r.need sdu here same r.told_need in
    let its_count = r.told_need here.conn here.is_conn x.parts (subst (λ (n : ℕ). IsCut n true x.parts) (sym size) x.cut.0) (ap length x.cut.1) in
    let long : length (join x.parts) ≡ length (join here.parts) = ap length (x.cut.1 ∙ sym same ∙ sym here.cut.1) in
    let alike = refused_alike (outward (manage_config d) here.conn) here.line x.parts here.parts long (its_count ∙ sym count) in
    refuses_none why unlike (subst (Refuses why) (alike ∙ here.admits) x.refuses)

-- nothing changes
pub unchanged : (d : Dif) (place : ℕ) (sdu : List ℕ) (why : OfferError) (flows : Flows) (below : Seen) → LinksStand d below → FlowsOffer d.clock place sdu d.connections.flows (Err why) flows → record d { connections = record d.connections { flows = flows } } ≡ d
unchanged d place sdu why flows below links offers = ap (λ (f : Flows). record d { connections = record d.connections { flows = f } }) (offers (manage_config d) links.lines links.tied).1

pub offers_err : (d : Dif) (lines : List Direction) (below : Seen) (i number : ℕ) (r : Result Bool Memory) (e : Memory) (d' : Dif) → r ≡ Err e → d' ≡ d → OffersAt d lines below i number r d'
offers_err d lines below i number r e d' is same = subst (λ (z : Result Bool Memory). OffersAt d lines below i number z d') (sym is) same
