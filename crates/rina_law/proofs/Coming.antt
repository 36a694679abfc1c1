-- A piece that arrives keeps what holds of a direction.
use Rattle.std.proofs.Common.{◌≡◌, ℕ, ◌<◌, ◌≤◌, List, [], ◌∷◌, length, Bool, true, false, refl, sym, ◌∙◌, ap, subst, arith, inl, inr}
use Rattle.std.proofs.lemmas.Bool.{false≢true}
use Rattle.rina_cube.specs.declared.Kind.{Kind}
use Rattle.rina_cube.specs.declared.Kind.TheVariants.{Reliable}
use Rattle.rina_cube.specs.Cubes.{IsCube}
use Rattle.rina_law.specs.declared.entry.Entry.{Entry}
use Rattle.rina_law.specs.Constants.{Constants}
use Rattle.rina_law.specs.Direction.{entry, Inbox, delivered, Direction, has_room, state_from_after, after_arrival}
use Rattle.rina_law.specs.DirectionHolds.{part_at, reached, JoinHolds, GotHolds, ReachHolds, DirectionHolds}
use Rattle.rina_law.specs.Line.{InFlight, done_after, arrival_verdict, forget}
use Rattle.rina_law.specs.LineHolds.{IsOfRun}
use Rattle.rina_law.specs.Lists.{In}
use Rattle.rina_law.specs.Pieces.{Joiner, empty_joiner, joined_with, HasRoomFor}
use Rattle.rina_law.specs.Receiver.{Piece, Receiver, is_present, numbers, Verdict, Accepted, Held, Duplicate, Behind, NoState, NoRoom, absent_verdict, verdict, with_accepted, receiver_after, joined_on, joined_after, FollowersHaveRoom, AllHaveRoom}
use Rattle.rina_law.specs.Sender.{Member}
use Rattle.rina_law.proofs.Arrived.{absent_cases, never, arrive_holds, forget_holds}
use Rattle.rina_law.proofs.Arriving.{IsNew, room_accepted, accepted_new, accepted_absent}
use Rattle.rina_law.proofs.Joining.{took, delivered_next, delivered_none}
use Rattle.rina_law.proofs.Lists.{from_on-in}
use Rattle.rina_law.proofs.Walking.{Walking, Start, Ground, ready_from, shelf_from, step_taken, room_with, accepted_walk}

-- what the receiver's side keeps
pub record Arrived (c : Constants) (from now : ℕ) (run : List Member) (base since : ℕ) (sent : List Entry) (rx : Receiver) (done : List ℕ) (o : Inbox) : Type 0 where
  pub join : is_present c now rx ≡ true → JoinHolds run o.joiner
  pub got : GotHolds c run base since sent done o
  pub ticks : (i : ℕ) → i < length o.got → (rx.made ≡ true) × ((entry o.got i).tick ≤ rx.last_in)
  pub count : c.cube.kind ≡ Reliable → length o.places ≡ reached run base (length done)
  pub reach : c.cube.kind ≡ Reliable → is_present c now rx ≡ true → ReachHolds run rx.held (length done) from o

arrived_walked : (c : Constants) (from now : ℕ) (run : List Member) (base since : ℕ) (sent : List Entry) (rx : Receiver) (done : List ℕ) (o : Inbox) → rx.made ≡ true → rx.last_in ≡ now → (c.cube.kind ≡ Reliable → (q : Piece) → In q rx.held → q.part ≡ part_at run q.number) → Walking c from now run base since sent done o → Arrived c from now run base since sent rx done o
arrived_walked c from now run base since sent rx done o made last held w = record {
  join = λ b. w.join;
  got = w.got;
  ticks = λ i lt. (made, (let t = w.ticks i lt in omega arith));
  count = w.count;
  reach = λ e b. record { held_is = held e; mine = w.mine e; joined = w.joined e; waits = w.waits e };
}

got_joiner : (c : Constants) (run : List Member) (base since : ℕ) (sent : List Entry) (done : List ℕ) (o : Inbox) (j : Joiner) → GotHolds c run base since sent done o → GotHolds c run base since sent done (record o { joiner = j })
got_joiner c run base since sent done o j h = record { size = h.size; is = h.is; age = h.age; known = h.known; shape = h.shape }

-- the first step of an accepted piece, with any joiner
first_step : (c : Constants) (from now : ℕ) (run : List Member) (base since : ℕ) (sent : List Entry) (done : List ℕ) (o : Inbox) (p : Piece) (j : Joiner) → Walking c from now run base since sent done (took c now run base p.number p.part (record o { joiner = j })) →
    Walking c from now run base since sent done (delivered c now run base (joined_with p.number p.part (record { joiner = j; whole = [] })) o)
first_step c from now run base since sent done o p j w =
    let is = delivered_next c now run base p.number p.part (record { joiner = j; whole = [] }) o ∙ ap (took c now run base p.number p.part) (delivered_none c now run base j o) in
    let P : Inbox → Type 0 = λ b. Walking c from now run base since sent done b in
    subst P (sym is) w

ground_from : (c : Constants) (d : Direction) (p : InFlight Piece) (held : List Piece) → DirectionHolds c d → IsOfRun c d.line.sender p → d.line.clock ≤ p.death → (c.cube.kind ≡ Reliable → (h : ℕ) → In h (numbers held) → (h < length d.line.sender.run) × ((q : Piece) → In q held → q.part ≡ part_at d.line.sender.run q.number)) → Ground c d.line.clock d.line.sender.run d.base d.sent p.pdu.number held
ground_from c d p held h is alive shelf =
    let k = h.core in
    let death = is.in_time in
    record {
      parts = k.run;
      source = k.sent;
      young = λ n low lt. (let r = k.line.sender.rising p.pdu.number n low lt in omega arith);
      past = λ n lt. (let a = k.line.sender.firsts n lt in let b = k.line.sender.out in omega arith);
      shelf = λ e x i. (let y = shelf e x i in (y.0, shelf_from d.line.sender.run held y.1 x i));
    }

-- an accepted piece where state stands
accepted_present : (c : Constants) (d : Direction) (p : InFlight Piece) → DirectionHolds c d → IsOfRun c d.line.sender p → d.line.clock ≤ p.death → IsNew c.cube.kind p.pdu.number d.line.done → is_present c d.line.clock d.line.receiver ≡ true →
    Walking c d.state_from d.line.clock d.line.sender.run d.base d.since d.sent (with_accepted c.cube.kind (numbers d.line.receiver.held) p.pdu.number d.line.done) (delivered c d.line.clock d.line.sender.run d.base (joined_on c.cube.kind p.pdu.number d.line.receiver.held (joined_with p.pdu.number p.pdu.part (record { joiner = d.inbox.joiner; whole = [] }))) d.inbox)
    × (HasRoomFor c.cube.largest p.pdu.number p.pdu.part d.inbox.joiner × FollowersHaveRoom c.cube.largest c.cube.kind p.pdu.number d.line.receiver.held (joined_with p.pdu.number p.pdu.part (record { joiner = d.inbox.joiner; whole = [] })))
accepted_present c d p h is alive new present =
    let k = h.core in
    let rx = d.line.receiver in
    let number = λ (e : c.cube.kind ≡ Reliable). (let P : Kind → Type 0 = λ z. IsNew z p.pdu.number d.line.done in let r : p.pdu.number ≡ length d.line.done = subst P e new in r) in
    let g = ground_from c d p rx.held h is alive (λ e x i. (((k.line.gapless e).held present x i).0, (k.reach e present).held_is)) in
    let start : Start c d.state_from d.line.clock d.line.sender.run d.base d.since d.sent d.line.done d.inbox = record {
      numbers = λ n i. (k.line.done n i).within;
      join = k.join present;
      got = k.got;
      count = k.count;
      ticks = λ i lt. (let t = k.ticks i lt in let past = k.line.receiver.past in omega (arith, t.1));
      mine = λ e i low lt. (k.reach e present).mine i low lt;
    } in
    let ready = λ (e : c.cube.kind ≡ Reliable). ready_from c d.line.sender.run d.inbox.joiner p.pdu.number k.run is.within
    (λ m n_is ends. (let reach = k.reach e present in let some = reach.waits m (sym (number e) ∙ n_is) ends in (some, reach.joined some ∙ sym (number e)))) in
    let w = step_taken c d.state_from d.line.clock d.line.sender.run d.base d.since d.sent p.pdu.number rx.held d.line.done d.inbox p.pdu.number p.pdu.part g start is.within (omega arith) is.part new ready in
    let x = accepted_walk c d.state_from d.line.clock d.line.sender.run d.base d.since d.sent rx.held d.inbox d.line.done p.pdu.number (joined_with p.pdu.number p.pdu.part (record { joiner = d.inbox.joiner; whole = [] })) c.cube.kind refl g new
    (first_step c d.state_from d.line.clock d.line.sender.run d.base d.since d.sent (p.pdu.number ∷ d.line.done) d.inbox p.pdu d.inbox.joiner w) in
    (x.0, (room_with c d.line.sender.run p.pdu.number p.pdu.part d.inbox.joiner k.run is.within is.part (k.join present), x.1))

-- where none does
accepted_absent_walk : (c : Constants) (d : Direction) (p : InFlight Piece) → DirectionHolds c d → IsOfRun c d.line.sender p → d.line.clock ≤ p.death → IsNew c.cube.kind p.pdu.number d.line.done → absent_verdict c.cube.kind p.pdu.drf ≡ Accepted →
    Walking c (length d.inbox.got) d.line.clock d.line.sender.run d.base d.since d.sent (p.pdu.number ∷ d.line.done) (delivered c d.line.clock d.line.sender.run d.base (joined_with p.pdu.number p.pdu.part (record { joiner = empty_joiner; whole = [] })) d.inbox)
accepted_absent_walk c d p h is alive new v =
    let k = h.core in
    let g = ground_from c d p [] h is alive (λ e x i. absurd i) in
    let start : Start c (length d.inbox.got) d.line.clock d.line.sender.run d.base d.since d.sent d.line.done (record d.inbox { joiner = empty_joiner }) = record {
      numbers = λ n i. (k.line.done n i).within;
      join = λ s. absurd (omega arith);
      got = got_joiner c d.line.sender.run d.base d.since d.sent d.line.done d.inbox empty_joiner k.got;
      count = k.count;
      ticks = λ i lt. (let t = k.ticks i lt in let past = k.line.receiver.past in omega (arith, t.1));
      mine = λ e i low lt. absurd (omega arith);
    } in
    let begins = λ (e : c.cube.kind ≡ Reliable). (let P : Kind → Type 0 = λ z. absent_verdict z p.pdu.drf ≡ Accepted in let r : (part_at d.line.sender.run p.pdu.number).begins ≡ true = k.run.drf e p.pdu.number is.within (sym is.drf ∙ accepted_absent p.pdu.drf (subst P e v)) in r) in
    let w = step_taken c (length d.inbox.got) d.line.clock d.line.sender.run d.base d.since d.sent p.pdu.number [] d.line.done (record d.inbox { joiner = empty_joiner }) p.pdu.number p.pdu.part g start is.within (omega arith) is.part new
    (λ e b. absurd (false≢true (sym b ∙ begins e))) in
    first_step c (length d.inbox.got) d.line.clock d.line.sender.run d.base d.since d.sent (p.pdu.number ∷ d.line.done) d.inbox p.pdu empty_joiner w

-- a row that touches the state alone
arrived_touched : (c : Constants) (d : Direction) (rx : Receiver) → DirectionHolds c d → is_present c d.line.clock d.line.receiver ≡ true → rx.last_in ≡ d.line.clock → rx.made ≡ d.line.receiver.made → (c.cube.kind ≡ Reliable → (q : Piece) → In q rx.held → q.part ≡ part_at d.line.sender.run q.number) → Arrived c d.state_from d.line.clock d.line.sender.run d.base d.since d.sent rx d.line.done d.inbox
arrived_touched c d rx h present last made held =
    let k = h.core in
    record {
      join = λ b. k.join present;
      got = k.got;
      ticks = λ i lt. (let t = k.ticks i lt in let past = k.line.receiver.past in (made ∙ t.0, omega (arith, t.1)));
      count = k.count;
      reach = λ e b. (let reach = k.reach e present in record { held_is = held e; mine = reach.mine; joined = reach.joined; waits = reach.waits });
    }

arrived_same : (c : Constants) (d : Direction) → DirectionHolds c d → Arrived c d.state_from d.line.clock d.line.sender.run d.base d.since d.sent d.line.receiver d.line.done d.inbox
arrived_same c d h = (let k = h.core in record { join = k.join; got = k.got; ticks = k.ticks; count = k.count; reach = k.reach })

-- nothing is delivered
nothing_joined : (c : Constants) (d : Direction) (rx : Receiver) → Arrived c d.state_from d.line.clock d.line.sender.run d.base d.since d.sent rx d.line.done d.inbox → Arrived c d.state_from d.line.clock d.line.sender.run d.base d.since d.sent rx d.line.done (delivered c d.line.clock d.line.sender.run d.base (record { joiner = d.inbox.joiner; whole = [] }) d.inbox)
nothing_joined c d rx a =
    let P : Inbox → Type 0 = λ b. Arrived c d.state_from d.line.clock d.line.sender.run d.base d.since d.sent rx d.line.done b in
    subst P (sym (delivered_none c d.line.clock d.line.sender.run d.base d.inbox.joiner d.inbox)) a

arrived : (c : Constants) (d : Direction) (p : InFlight Piece) (room : Bool) (v : Verdict) (b : Bool) → IsCube c.cube → DirectionHolds c d → IsOfRun c d.line.sender p → d.line.clock ≤ p.death → v ≡ verdict c.cube.kind b d.line.receiver p.pdu room → is_present c d.line.clock d.line.receiver ≡ b →
    Arrived c (state_from_after v b (length d.inbox.got) d.state_from) d.line.clock d.line.sender.run d.base d.since d.sent (receiver_after v c.cube.kind b d.line.clock p.pdu d.line.receiver) (done_after v c.cube.kind b p.pdu.number d.line.receiver d.line.done) (delivered c d.line.clock d.line.sender.run d.base (joined_after v c.cube.kind b p.pdu d.line.receiver.held d.inbox.joiner) d.inbox)
arrived c d p room Accepted true cube h is alive v_is present =
    let new = accepted_new c d.line p c.cube.kind true cube h.core.line is alive refl present (room_accepted room _ (sym v_is)) in
    arrived_walked c d.state_from d.line.clock d.line.sender.run d.base d.since d.sent _ _ _ refl refl
    (λ e x i. (h.core.reach e present).held_is x (from_on-in _ x d.line.receiver.held i))
    ((accepted_present c d p h is alive new present).0)
arrived c d p room Accepted false cube h is alive v_is present =
    let v = room_accepted room _ (sym v_is) in
    let new = accepted_new c d.line p c.cube.kind false cube h.core.line is alive refl present v in
    arrived_walked c (length d.inbox.got) d.line.clock d.line.sender.run d.base d.since d.sent _ _ _ refl refl (λ e x i. absurd i) (accepted_absent_walk c d p h is alive new v)
arrived c d p room Held true cube h is alive v_is present = nothing_joined c d _ (arrived_touched c d _ h present refl refl (λ e q i. elim i [ inl y ↦ rw y is.part | inr j ↦ (h.core.reach e present).held_is q j ]))
arrived c d p room Held false cube h is alive v_is present = absurd (never _ _ v_is (absent_cases c.cube.kind room p.pdu.drf) (inl refl))
arrived c d p room Duplicate true cube h is alive v_is present = nothing_joined c d _ (arrived_touched c d _ h present refl refl (λ e. (h.core.reach e present).held_is))
arrived c d p room Duplicate false cube h is alive v_is present = absurd (never _ _ v_is (absent_cases c.cube.kind room p.pdu.drf) (inr (inl refl)))
arrived c d p room Behind true cube h is alive v_is present = nothing_joined c d _ (arrived_touched c d _ h present refl refl (λ e. (h.core.reach e present).held_is))
arrived c d p room Behind false cube h is alive v_is present = absurd (never _ _ v_is (absent_cases c.cube.kind room p.pdu.drf) (inr (inr refl)))
arrived c d p room NoState b cube h is alive v_is present = nothing_joined c d _ (arrived_same c d h)
arrived c d p room NoRoom b cube h is alive v_is present = nothing_joined c d _ (arrived_same c d h)

pub direction_arrive : (c : Constants) (d : Direction) (p : InFlight Piece) → IsCube c.cube → DirectionHolds c d → In p d.line.pieces → d.line.clock ≤ p.death →
    DirectionHolds c (after_arrival (arrival_verdict c d.line p.pdu (has_room c d)) (is_present c d.line.clock d.line.receiver) c p.pdu d)
direction_arrive c d p cube h i alive =
    let k = h.core in
    let a = arrived c d p (has_room c d) (arrival_verdict c d.line p.pdu (has_room c d)) (is_present c d.line.clock d.line.receiver) cube h (k.line.pieces p i alive) alive refl refl in
    record {
      core = record {
        line = arrive_holds c d.line p (has_room c d) cube k.line i alive;
        run = k.run;
        sent = k.sent;
        base = k.base;
        since = k.since;
        join = a.join;
        got = a.got;
        ticks = a.ticks;
        count = a.count;
        reach = a.reach;
      };
      closed = h.closed;
    }

-- each piece that the arrival gives to the joiner finds room there
room_as : (c : Constants) (d : Direction) (p : InFlight Piece) (room : Bool) (v : Verdict) (b : Bool) → IsCube c.cube → DirectionHolds c d → IsOfRun c d.line.sender p → d.line.clock ≤ p.death → v ≡ verdict c.cube.kind b d.line.receiver p.pdu room → is_present c d.line.clock d.line.receiver ≡ b → AllHaveRoom c.cube.largest v c.cube.kind b p.pdu d.line.receiver.held d.inbox.joiner
room_as c d p room Accepted true cube h is alive v_is present =
    let new = accepted_new c d.line p c.cube.kind true cube h.core.line is alive refl present (room_accepted room _ (sym v_is)) in
    (accepted_present c d p h is alive new present).1
room_as c d p room Accepted false cube h is alive v_is present = room_with c d.line.sender.run p.pdu.number p.pdu.part empty_joiner h.core.run is.within is.part (λ s. absurd (omega arith))
room_as c d p room Held b cube h is alive v_is present = tt
room_as c d p room Duplicate b cube h is alive v_is present = tt
room_as c d p room Behind b cube h is alive v_is present = tt
room_as c d p room NoState b cube h is alive v_is present = tt
room_as c d p room NoRoom b cube h is alive v_is present = tt

pub arrival_room : (c : Constants) (d : Direction) (p : InFlight Piece) → IsCube c.cube → DirectionHolds c d → In p d.line.pieces → d.line.clock ≤ p.death → AllHaveRoom c.cube.largest (arrival_verdict c d.line p.pdu (has_room c d)) c.cube.kind (is_present c d.line.clock d.line.receiver) p.pdu d.line.receiver.held d.inbox.joiner
arrival_room c d p cube h i alive = room_as c d p (has_room c d) (arrival_verdict c d.line p.pdu (has_room c d)) (is_present c d.line.clock d.line.receiver) cube h (h.core.line.pieces p i alive) alive refl refl

-- what an absent state still holds is given up
pub direction_forget : (c : Constants) (d : Direction) → DirectionHolds c d → is_present c d.line.clock d.line.receiver ≡ false → DirectionHolds c (record d { line = forget d.line; inbox = record d.inbox { joiner = empty_joiner } })
direction_forget c d h absent =
    let k = h.core in
    record {
      core = record {
        line = forget_holds c d.line k.line absent;
        run = k.run;
        sent = k.sent;
        base = k.base;
        since = k.since;
        join = λ b. absurd (false≢true (sym absent ∙ b));
        got = got_joiner c d.line.sender.run d.base d.since d.sent d.line.done d.inbox empty_joiner k.got;
        ticks = k.ticks;
        count = k.count;
        reach = λ e b. absurd (false≢true (sym absent ∙ b));
      };
      closed = h.closed;
    }
