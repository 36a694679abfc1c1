-- A line after a piece arrived, by its verdict.
use Rattle.std.proofs.Common.{◌≡◌, ℕ, ◌+◌, ◌<◌, ◌≤◌, List, ◌∷◌, length, Bool, true, false, refl, sym, ◌∙◌, ap, subst, arith, inl, inr, ◌⊎◌}
use Rattle.std.proofs.lemmas.Bool.{false≢true}
use Rattle.rina_cube.specs.declared.Kind.{Kind}
use Rattle.rina_cube.specs.declared.Kind.TheVariants.{Datagram, Loose, Reliable}
use Rattle.rina_cube.specs.Cubes.{IsCube}
use Rattle.rina_law.specs.Constants.{Constants}
use Rattle.rina_law.specs.Line.{InFlight, Line, done_after, arrival_verdict, arrive, forget}
use Rattle.rina_law.specs.LineHolds.{IsOfRun, IsGapless, LineHolds}
use Rattle.rina_law.specs.Lists.{In, highest}
use Rattle.rina_law.specs.Receiver.{Piece, Receiver, is_present, numbers, Verdict, Accepted, Held, Duplicate, Behind, NoState, NoRoom, absent_verdict, with_room, verdict, receiver_after}
use Rattle.rina_law.specs.Sender.{Sender, member}
use Rattle.rina_law.proofs.Lists.{from_on_numbers, with_held-grows, with_held-length}
use Rattle.rina_law.proofs.Arriving.{room_accepted, IsNew, accepted_new, shape_after, ticks, knows_same, done_arrive}

-- an absent state holds nothing, and knows of no duplicate

abbrev pub IsAbsentVerdict : Verdict → Type 0
IsAbsentVerdict v = (v ≡ Accepted) ⊎ ((v ≡ NoState) ⊎ (v ≡ NoRoom))

pub absent_cases : (kind : Kind) (room drf : Bool) → IsAbsentVerdict (with_room room (absent_verdict kind drf))
absent_cases Datagram true drf = inl refl
absent_cases Datagram false drf = inr (inr refl)
absent_cases Loose true drf = inl refl
absent_cases Loose false drf = inr (inr refl)
absent_cases Reliable true true = inl refl
absent_cases Reliable true false = inr (inl refl)
absent_cases Reliable false true = inr (inr refl)
absent_cases Reliable false false = inr (inl refl)

pub never : (v w : Verdict) → v ≡ w → IsAbsentVerdict w → ((v ≡ Held) ⊎ ((v ≡ Duplicate) ⊎ (v ≡ Behind))) → ⊥
never v w e (inl a) (inl b) = cc
never v w e (inl a) (inr (inl b)) = cc
never v w e (inl a) (inr (inr b)) = cc
never v w e (inr (inl a)) (inl b) = cc
never v w e (inr (inl a)) (inr (inl b)) = cc
never v w e (inr (inl a)) (inr (inr b)) = cc
never v w e (inr (inr a)) (inl b) = cc
never v w e (inr (inr a)) (inr (inl b)) = cc
never v w e (inr (inr a)) (inr (inr b)) = cc

-- a row that leaves the accepted numbers
gapless_touched : (c : Constants) (now : ℕ) (tx : Sender) (rx new : Receiver) (done : List ℕ) → rx.last_in ≤ now → new.base ≡ rx.base → new.accepted ≡ rx.accepted → new.last_in ≡ now → is_present c now rx ≡ true → ((h : ℕ) → In h (numbers new.held) → (h < length tx.run) × ((member tx.run h).first ≤ now)) → IsGapless c now tx rx done → IsGapless c now tx new done
gapless_touched c now tx rx new done past base accepted last present held g =
    let next = g.next present in
    let some = g.some present in
    let same = ap (λ (xs : List ℕ). length xs) accepted in
    record {
      next = λ b. omega arith;
      some = λ b. omega arith;
      held = λ b h i. (let x = held h i in (x.0, omega (arith, x.1)));
      drf = g.drf;
      acked = g.acked;
      right = g.right;
      window = g.window;
    }

gapless_arrive : (c : Constants) (now : ℕ) (tx : Sender) (rx : Receiver) (done : List ℕ) (p : Piece) (room : Bool) (v : Verdict) (b : Bool) → rx.last_in ≤ now → p.number < length tx.run → (member tx.run p.number).first ≤ now → v ≡ verdict Reliable b rx p room → is_present c now rx ≡ b → (v ≡ Accepted → p.number ≡ length done) → IsGapless c now tx rx done → IsGapless c now tx (receiver_after v Reliable b now p rx) (done_after v Reliable b p.number rx done)
gapless_arrive c now tx rx done p room Accepted true past within first is present new g =
    let n = new refl in
    let next = g.next present in
    let same = with_held-length (highest (numbers rx.held)) (p.number + 1) (numbers rx.held) (p.number ∷ rx.accepted) (p.number ∷ done) in
    let more = with_held-grows (highest (numbers rx.held)) (p.number + 1) (numbers rx.held) (p.number ∷ rx.accepted) in
    let grown = with_held-grows (highest (numbers rx.held)) (p.number + 1) (numbers rx.held) (p.number ∷ done) in
    record {
      next = λ b. omega arith;
      some = λ b. omega arith;
      held = λ b h i. (let x = g.held present h (from_on_numbers _ h rx.held i) in (x.0, omega (arith, x.1)));
      drf = λ k lt set. (let y = g.drf k lt set in omega arith);
      acked = (let y = g.acked in omega arith);
      right = (let y = g.right in omega arith);
      window = g.window;
    }
gapless_arrive c now tx rx done p room Accepted false past within first is present new g =
    let n = new refl in
    record {
      next = λ b. omega arith;
      some = λ b. omega arith;
      held = λ b h i. absurd i;
      drf = λ k lt set. (let y = g.drf k lt set in omega arith);
      acked = (let y = g.acked in omega arith);
      right = (let y = g.right in omega arith);
      window = g.window;
    }
gapless_arrive c now tx rx done p room Held true past within first is present new g =
    gapless_touched c now tx rx _ done past refl refl refl present
    (λ h i. elim i [ inl e ↦ rw e (within, first) | inr j ↦ (let x = g.held present h j in (x.0, omega (arith, x.1))) ]) g
gapless_arrive c now tx rx done p room Duplicate true past within first is present new g =
    gapless_touched c now tx rx _ done past refl refl refl present (λ h i. let x = g.held present h i in (x.0, omega (arith, x.1))) g
gapless_arrive c now tx rx done p room Behind true past within first is present new g =
    gapless_touched c now tx rx _ done past refl refl refl present (λ h i. let x = g.held present h i in (x.0, omega (arith, x.1))) g
gapless_arrive c now tx rx done p room Held false past within first is present new g = absurd (never _ _ is (absent_cases Reliable room p.drf) (inl refl))
gapless_arrive c now tx rx done p room Duplicate false past within first is present new g = absurd (never _ _ is (absent_cases Reliable room p.drf) (inr (inl refl)))
gapless_arrive c now tx rx done p room Behind false past within first is present new g = absurd (never _ _ is (absent_cases Reliable room p.drf) (inr (inr refl)))
gapless_arrive c now tx rx done p room NoState b past within first is present new g = g
gapless_arrive c now tx rx done p room NoRoom b past within first is present new g = g

done_grows : (kind : Kind) (v : Verdict) (b : Bool) (n : ℕ) (rx : Receiver) (done : List ℕ) → length done ≤ length (done_after v kind b n rx done)
done_grows Datagram Accepted true n rx done = omega arith
done_grows Loose Accepted true n rx done = omega arith
done_grows Reliable Accepted true n rx done = (let g = with_held-grows (highest (numbers rx.held)) (n + 1) (numbers rx.held) (n ∷ done) in omega arith)
done_grows kind Accepted false n rx done = omega arith
done_grows kind Held b n rx done = omega arith
done_grows kind Duplicate b n rx done = omega arith
done_grows kind Behind b n rx done = omega arith
done_grows kind NoState b n rx done = omega arith
done_grows kind NoRoom b n rx done = omega arith

arrive_as : (c : Constants) (line : Line) (p : InFlight Piece) (room : Bool) (v : Verdict) (b : Bool) → IsCube c.cube → LineHolds c line → IsOfRun c line.sender p → line.clock ≤ p.death → v ≡ verdict c.cube.kind b line.receiver p.pdu room → is_present c line.clock line.receiver ≡ b → LineHolds c (record line { receiver = receiver_after v c.cube.kind b line.clock p.pdu line.receiver; done = done_after v c.cube.kind b p.pdu.number line.receiver line.done })
arrive_as c line p room v b cube h is alive v_is present =
    let t = ticks v c.cube.kind b line.clock p.pdu line.receiver h.receiver.past in
    let new = λ (e : v ≡ Accepted). accepted_new c line p c.cube.kind b cube h is alive refl present (room_accepted room _ (sym v_is ∙ e)) in
    let grows = done_grows c.cube.kind v b p.pdu.number line.receiver line.done in
    let first = h.sender.firsts p.pdu.number is.within in
    let out = h.sender.out in
    record {
      sender = h.sender;
      pieces = h.pieces;
      receiver = record {
        past = t.past;
        out = λ made. elim t.same [
          | inl s ↦ (let o = h.receiver.out (sym s.1 ∙ made) in omega (arith, s.0))
          | inr s ↦ (let o = is.out in omega arith)
        ];
        empty = λ e. (let w = is.within in absurd (omega arith));
      };
      done = done_arrive c line p v b cube h is present;
      shape = shape_after c.cube.kind v b p.pdu.number line.receiver line.done new h.shape;
      gapless = λ e.
          (let P : Kind → Type 0 = λ k. IsGapless c line.clock line.sender (receiver_after v k b line.clock p.pdu line.receiver) (done_after v k b p.pdu.number line.receiver line.done) in
          let v' : v ≡ verdict Reliable b line.receiver p.pdu room = v_is ∙ ap (λ k. verdict k b line.receiver p.pdu room) e in
          let Q : Kind → Type 0 = λ k. IsNew k p.pdu.number line.done in
          subst P (sym e) (gapless_arrive c line.clock line.sender line.receiver line.done p.pdu room v b h.receiver.past is.within (omega arith) v' present (λ a. subst Q e (new a)) (h.gapless e)));
      acks = λ k i live. (let x = h.acks k i live in record { reliable = x.reliable; ack = omega (arith, x.ack); edge = omega (arith, x.edge); fits = x.fits; out = x.out });
    }

pub arrive_holds : (c : Constants) (line : Line) (p : InFlight Piece) (room : Bool) → IsCube c.cube → LineHolds c line → In p line.pieces → line.clock ≤ p.death → LineHolds c (arrive c p.pdu room line)
arrive_holds c line p room cube h i alive = arrive_as c line p room (arrival_verdict c line p.pdu room) (is_present c line.clock line.receiver) cube h (h.pieces p i alive) alive refl refl

-- held pieces of a state that is gone are given up
pub forget_holds : (c : Constants) (line : Line) → LineHolds c line → is_present c line.clock line.receiver ≡ false → LineHolds c (forget line)
forget_holds c line h absent = record {
  sender = h.sender;
  pieces = h.pieces;
  receiver = record { past = h.receiver.past; out = h.receiver.out; empty = h.receiver.empty };
  done = λ n i. (let x = h.done n i in record { within = x.within; first = x.first; made = x.made; known = elim x.known [ inl k ↦ inl (knows_same c.cube.kind line.receiver _ n refl k) | inr k ↦ inr k ] });
  shape = h.shape;
  gapless = λ e. (let g = h.gapless e in record {
    next = λ b. absurd (false≢true (sym absent ∙ b));
    some = λ b. absurd (false≢true (sym absent ∙ b));
    held = λ b. absurd (false≢true (sym absent ∙ b));
    drf = g.drf;
    acked = g.acked;
    right = g.right;
    window = g.window;
  });
  acks = h.acks;
}
