-- When state stands, and what stands of a run that goes on.
use Rattle.std.proofs.Common.{◌≡◌, ℕ, ◌+◌, ◌*◌, ◌<◌, ◌≤◌, List, length, true, false, ltb, sym, ◌∙◌, arith, inl, inr}
use Rattle.std.proofs.lemmas.Bool.{and_parts, and_cases, and_from, false_from_ne_true, false≢true, ltb-true, ltb-false, lt-ltb}
use Rattle.rina_law.specs.Constants.{Constants, delta}
use Rattle.rina_law.specs.Line.{InFlight}
use Rattle.rina_law.specs.LineHolds.{IsOfRun, ReceiverHolds, DoneHolds, AcksHold}
use Rattle.rina_law.specs.Receiver.{Piece, Receiver, is_present}
use Rattle.rina_law.specs.Sender.{Sender, Ack, member}

-- state is forgotten no earlier than 2 * delta after the last piece that counted
pub absent_after : (c : Constants) (now : ℕ) (rx : Receiver) → is_present c now rx ≡ false → rx.made ≡ true → rx.last_in + 2 * delta c ≤ now
absent_after c now rx h made = elim (and_cases rx.made (ltb now (rx.last_in + 2 * delta c)) h) [
  | inl f ↦ absurd (false≢true (sym f ∙ made))
  | inr f ↦ ltb-false now (rx.last_in + 2 * delta c) f
]

pub present_made : (c : Constants) (now : ℕ) (rx : Receiver) → is_present c now rx ≡ true → rx.made ≡ true
present_made c now rx h = (and_parts rx.made (ltb now (rx.last_in + 2 * delta c)) h).0

pub present_before_end : (c : Constants) (now : ℕ) (rx : Receiver) → is_present c now rx ≡ true → now < rx.last_in + 2 * delta c
present_before_end c now rx h = ltb-true now (rx.last_in + 2 * delta c) ((and_parts rx.made (ltb now (rx.last_in + 2 * delta c)) h).1)

-- and once it is, it is not remembered
pub present_before : (c : Constants) (now ticks : ℕ) (rx : Receiver) → is_present c (now + ticks) rx ≡ true → is_present c now rx ≡ true
present_before c now ticks rx h =
    let lt = present_before_end c (now + ticks) rx h in
    and_from rx.made (ltb now (rx.last_in + 2 * delta c)) (present_made c (now + ticks) rx h) (lt-ltb now (rx.last_in + 2 * delta c) (omega arith))

pub absent_later : (c : Constants) (now ticks : ℕ) (rx : Receiver) → is_present c now rx ≡ false → is_present c (now + ticks) rx ≡ false
absent_later c now ticks rx h = false_from_ne_true (is_present c (now + ticks) rx) (λ b. false≢true (sym h ∙ present_before c now ticks rx b))

pub absent_from : (c : Constants) (now : ℕ) (rx : Receiver) → (rx.made ≡ true → rx.last_in + 2 * delta c ≤ now) → is_present c now rx ≡ false
absent_from c now rx h = false_from_ne_true (is_present c now rx) (λ b.
    let late = h (present_made c now rx b) in
    let lt = present_before_end c now rx b in
    omega arith)

-- a run that went on: the members that it had are there with their first ticks
pub record IsLater (tx new : Sender) : Type 0 where
  pub more : length tx.run ≤ length new.run
  pub first : (n : ℕ) → n < length tx.run → (member new.run n).first ≡ (member tx.run n).first
  pub drf : (n : ℕ) → n < length tx.run → (member new.run n).drf ≡ (member tx.run n).drf
  pub part : (n : ℕ) → n < length tx.run → (member new.run n).part ≡ (member tx.run n).part
  pub out : tx.last_out ≤ new.last_out

pub piece_later : (c : Constants) (tx new : Sender) (p : InFlight Piece) → IsLater tx new → IsOfRun c tx p → IsOfRun c new p
piece_later c tx new p later h =
    let first = later.first p.pdu.number h.within in
    let more = later.more in
    let out = later.out in
    record {
      within = omega (arith, h.within);
      drf = h.drf ∙ sym (later.drf p.pdu.number h.within);
      part = h.part ∙ sym (later.part p.pdu.number h.within);
      in_time = omega (arith, h.in_time);
      out = omega (arith, h.out);
    }

pub receiver_later : (c : Constants) (now : ℕ) (tx new : Sender) (rx : Receiver) → IsLater tx new → length tx.run ≡ length new.run → ReceiverHolds c now tx rx → ReceiverHolds c now new rx
receiver_later c now tx new rx later same h = record {
  past = h.past;
  out = λ m. let o = h.out m in let out = later.out in omega arith;
  empty = λ e. h.empty (same ∙ e);
}

pub done_later : (c : Constants) (now : ℕ) (tx new : Sender) (rx : Receiver) (done : List ℕ) → IsLater tx new → DoneHolds c now tx rx done → DoneHolds c now new rx done
done_later c now tx new rx done later h n i =
    let x = h n i in
    let first = later.first n x.within in
    let more = later.more in
    record {
      within = omega (arith, x.within);
      first = omega (arith, x.first);
      made = x.made;
      known = elim x.known [ inl k ↦ inl k | inr k ↦ inr (omega arith) ];
    }

pub acks_later : (c : Constants) (now : ℕ) (tx new : Sender) (done : List ℕ) (acks : List (InFlight Ack)) → IsLater tx new → AcksHold c now tx done acks → AcksHold c now new done acks
acks_later c now tx new done acks later h k i alive =
    let x = h k i alive in
    let out = later.out in
    record { reliable = x.reliable; ack = x.ack; edge = x.edge; fits = x.fits; out = omega (arith, x.out) }
