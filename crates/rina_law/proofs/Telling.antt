-- Acknowledgements that are made and that come keep what holds of a line.
use Rattle.std.proofs.Common.{ℕ, ◌+◌, ◌≤◌, max, refl, arith, inl, inr}
use Rattle.rina_law.specs.Constants.{Constants}
use Rattle.rina_law.specs.Line.{InFlight, Line, told, acknowledge, MayAcknowledge}
use Rattle.rina_law.specs.LineHolds.{LineHolds}
use Rattle.rina_law.specs.Lists.{In}
use Rattle.rina_law.specs.Sender.{Sender, Ack}
use Rattle.rina_law.proofs.Standing.{present_made, IsLater, piece_later, receiver_later, done_later, acks_later}

pub told_later : (tx : Sender) (acked right : ℕ) → IsLater tx (record tx { acked = acked; right = right })
told_later tx acked right = record { more = omega arith; first = λ n h. refl; drf = λ n h. refl; part = λ n h. refl; out = omega arith }

pub told_holds : (c : Constants) (line : Line) (k : InFlight Ack) → LineHolds c line → In k line.acks → line.clock ≤ k.death → LineHolds c (told k.pdu line)
told_holds c line k h i alive =
    let later = told_later line.sender (max line.sender.acked (k.pdu.ack + 1)) (max line.sender.right k.pdu.right) in
    record {
      sender = record { out = h.sender.out; firsts = h.sender.firsts; rising = h.sender.rising };
      pieces = λ p j live. piece_later c line.sender _ p later (h.pieces p j live);
      receiver = receiver_later c line.clock line.sender _ line.receiver later refl h.receiver;
      done = done_later c line.clock line.sender _ line.receiver line.done later h.done;
      shape = h.shape;
      gapless = λ e. (let g = h.gapless e in let x = h.acks k i alive in record {
        next = g.next;
        some = g.some;
        held = g.held;
        drf = g.drf;
        acked = (let a = g.acked in let b = x.ack in omega arith);
        right = (let a = g.right in let b = x.edge in omega arith);
        window = (let w = g.window in omega arith);
      });
      acks = acks_later c line.clock line.sender _ line.done line.acks later h.acks;
    }

pub acknowledge_holds : (c : Constants) (line : Line) (right : ℕ) → LineHolds c line → MayAcknowledge c line right → LineHolds c (acknowledge c right line)
acknowledge_holds c line right h may = record {
  sender = h.sender;
  pieces = h.pieces;
  receiver = h.receiver;
  done = h.done;
  shape = h.shape;
  gapless = h.gapless;
  acks = λ k i alive. elim i [
    | inl is ↦ rw is
        (let g = h.gapless may.reliable in let next = g.next may.present in let some = g.some may.present in
        let edge = may.edge in let young = may.young in
        let made = present_made c line.clock line.receiver may.present in let o = h.receiver.out made in record {
          reliable = may.reliable;
          ack = omega arith;
          edge = omega arith;
          fits = may.fits;
          out = omega arith;
        })
    | inr j ↦ h.acks k j alive
  ];
}
