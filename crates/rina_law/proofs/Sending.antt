-- Time, the cloud, and pieces that are made keep what holds of a line.
use Rattle.std.proofs.Common.{suc, ◌≡◌, ℕ, ◌+◌, ◌<◌, ◌≤◌, List, [], ◌∷◌, ◌++◌, length, true, refl, sym, ◌∙◌, ap, subst, arith, inl, inr}
use Rattle.std.proofs.lemmas.Bool.{leb-true, cases_lt}
use Rattle.rina_cube.specs.declared.Kind.{Kind}
use Rattle.rina_cube.specs.declared.Kind.TheVariants.{Reliable}
use Rattle.rina_law.specs.Constants.{Constants}
use Rattle.rina_law.specs.Line.{InFlight, Line, IsCovered, put, again, HasRoom, MayResend}
use Rattle.rina_law.specs.LineHolds.{SenderHolds, IsOfRun, LineHolds}
use Rattle.rina_law.specs.Pieces.{Part}
use Rattle.rina_law.specs.Receiver.{Piece}
use Rattle.rina_law.specs.Sender.{Member, Sender, Ack, no_member, member, drf_for, member_for, resent}
use Rattle.rina_law.proofs.Lists.{length-push, old_at, new_at, resent-length, resent-first, resent-drf, resent-part}
use Rattle.rina_law.proofs.Standing.{present_before, absent_later, IsLater, piece_later, receiver_later, done_later, acks_later}

-- Time

pub time_holds : (c : Constants) (line : Line) (ticks : ℕ) → LineHolds c line → LineHolds c (record line { clock = line.clock + ticks })
time_holds c line ticks h = record {
  sender = (let out = h.sender.out in record { out = omega arith; firsts = h.sender.firsts; rising = h.sender.rising });
  pieces = λ p i alive. h.pieces p i (omega arith);
  receiver = (let past = h.receiver.past in record {
    past = omega arith;
    out = h.receiver.out;
    empty = λ e. absent_later c line.clock ticks line.receiver (h.receiver.empty e);
  });
  done = λ n i. (let x = h.done n i in record { within = x.within; first = x.first; made = x.made; known = elim x.known [ inl k ↦ inl k | inr k ↦ inr (omega arith) ] });
  shape = h.shape;
  gapless = λ e. (let g = h.gapless e in let still = present_before c line.clock ticks line.receiver in record {
    next = λ b. g.next (still b);
    some = λ b. g.some (still b);
    held = λ b. g.held (still b);
    drf = g.drf;
    acked = g.acked;
    right = g.right;
    window = g.window;
  });
  acks = λ k i alive. h.acks k i (omega arith);
}

-- A new cloud

covered_piece : (c : Constants) (tx : Sender) (p q : InFlight Piece) → p.pdu ≡ q.pdu → p.death ≤ q.death → IsOfRun c tx q → IsOfRun c tx p
covered_piece c tx p q same death x =
    let number : p.pdu.number ≡ q.pdu.number = ap (λ (z : Piece). z.number) same in
    let within = x.within in
    record {
      within = omega arith;
      drf = ap (λ (z : Piece). z.drf) same ∙ x.drf ∙ ap (λ n. (member tx.run n).drf) (sym number);
      part = ap (λ (z : Piece). z.part) same ∙ x.part ∙ ap (λ n. (member tx.run n).part) (sym number);
      in_time = (let first = ap (λ n. (member tx.run n).first) number in omega (arith, x.in_time));
      out = omega (arith, x.out);
    }

pub cloud_holds : (c : Constants) (line : Line) (pieces : List (InFlight Piece)) (acks : List (InFlight Ack)) → LineHolds c line → IsCovered line.pieces pieces → IsCovered line.acks acks → LineHolds c (record line { pieces = pieces; acks = acks })
cloud_holds c line pieces acks h covers covers_acks = record {
  sender = h.sender;
  pieces = λ p i alive.
      (let (q, j, same, death) = covers p i in
      covered_piece c line.sender p q same death (h.pieces q j (omega arith)));
  receiver = h.receiver;
  done = h.done;
  shape = h.shape;
  gapless = h.gapless;
  acks = λ k i alive.
      (let (q, j, same, death) = covers_acks k i in
      let ack : k.pdu.ack ≡ q.pdu.ack = ap (λ (z : Ack). z.ack) same in
      let right : k.pdu.right ≡ q.pdu.right = ap (λ (z : Ack). z.right) same in
      let x = h.acks q j (omega arith) in
      record { reliable = x.reliable; ack = omega (arith, x.ack); edge = omega (arith, x.edge); fits = omega (arith, x.fits); out = omega (arith, x.out) });
}

-- A piece that is made for the first time

pub put_later : (tx : Sender) (m : Member) (now : ℕ) → tx.last_out ≤ now → IsLater tx (record tx { run = tx.run ++ m ∷ []; last_out = now })
put_later tx m now out = record {
  more = (let longer = length-push tx.run m in omega arith);
  first = λ n h. ap (λ (z : Member). z.first) (old_at tx.run m no_member n h);
  drf = λ n h. ap (λ (z : Member). z.drf) (old_at tx.run m no_member n h);
  part = λ n h. ap (λ (z : Member). z.part) (old_at tx.run m no_member n h);
  out = out;
}

put_firsts : (now : ℕ) (tx : Sender) (m : Member) → m.first ≡ now → SenderHolds now tx → (n : ℕ) → n < length (tx.run ++ m ∷ []) → (member (tx.run ++ m ∷ []) n).first ≤ now
put_firsts now tx m is h n lt =
    let longer = length-push tx.run m in
    let out = h.out in
    elim (cases_lt n (length tx.run)) [
      | inl old ↦ (let e = ap (λ (z : Member). z.first) (old_at tx.run m no_member n old) in let f = h.firsts n old in omega arith)
      | inr ge ↦ (let e = ap (λ (z : Member). z.first) (new_at tx.run m no_member n (omega arith)) in omega arith)
    ]

put_sender : (now : ℕ) (tx : Sender) (m : Member) → m.first ≡ now → SenderHolds now tx → SenderHolds now (record tx { run = tx.run ++ m ∷ []; last_out = now })
put_sender now tx m is h =
    let longer = length-push tx.run m in
    let firsts = put_firsts now tx m is h in
    record {
      out = omega arith;
      firsts = firsts;
      rising = λ i k ik lt. elim (cases_lt k (length tx.run)) [
        | inl old ↦
            (let e = ap (λ (z : Member). z.first) (old_at tx.run m no_member k old) in
            let f : (member (tx.run ++ m ∷ []) i).first ≡ (member tx.run i).first = ap (λ (z : Member). z.first) (old_at tx.run m no_member i (omega arith)) in
            let r = h.rising i k ik old in omega arith)
        | inr ge ↦
            (let e = ap (λ (z : Member). z.first) (new_at tx.run m no_member k (omega arith)) in
            let f : (member (tx.run ++ m ∷ []) i).first ≤ now = firsts i (omega arith) in omega arith)
      ];
    }

drf_least : (tx : Sender) → drf_for Reliable tx ≡ true → length tx.run ≤ tx.acked
drf_least tx h = leb-true (length tx.run) tx.acked h

pub put_holds : (c : Constants) (part : Part) (line : Line) → LineHolds c line → HasRoom c line.sender 1 → LineHolds c (put c part line)
put_holds c part line h room =
    let m : Member = member_for c line.clock part line.sender in
    let out = h.sender.out in
    let later = put_later line.sender m line.clock out in
    let longer = length-push line.sender.run m in
    let new = new_at line.sender.run m no_member (length line.sender.run) refl in
    record {
      sender = put_sender line.clock line.sender m refl h.sender;
      pieces = λ p i alive. elim i [
        | inl e ↦ rw e (let first = ap (λ (z : Member). z.first) new in record {
          within = omega arith;
          drf = sym (ap (λ (z : Member). z.drf) new);
          part = sym (ap (λ (z : Member). z.part) new);
          in_time = omega arith;
          out = omega arith;
        })
        | inr j ↦ piece_later c line.sender _ p later (h.pieces p j alive)
      ];
      receiver = record {
        past = h.receiver.past;
        out = λ made. (let o = h.receiver.out made in omega arith);
        empty = λ e. absurd (omega arith);
      };
      done = done_later c line.clock line.sender _ line.receiver line.done later h.done;
      shape = h.shape;
      gapless = λ e. (let g = h.gapless e in record {
        next = g.next;
        some = g.some;
        held = λ b k i. (let x = g.held b k i in let f = later.first k x.0 in (omega (arith, x.0), omega (arith, x.1)));
        drf = λ n lt set. elim (cases_lt n (length line.sender.run)) [
          | inl old ↦ g.drf n old (sym (later.drf n old) ∙ set)
          | inr ge ↦
              (let is : n ≡ length line.sender.run = omega arith in
              let drf : drf_for c.cube.kind line.sender ≡ true = sym (ap (λ (z : Member). z.drf) (new_at line.sender.run m no_member n is)) ∙ set in
              let P : Kind → Type 0 = λ k. drf_for k line.sender ≡ true in
              let le = drf_least line.sender (subst P e drf) in
              let acked = g.acked in omega arith)
        ];
        acked = g.acked;
        right = g.right;
        window = (let w = room e in omega arith);
      });
      acks = acks_later c line.clock line.sender _ line.done line.acks later h.acks;
    }

pub room_after : (c : Constants) (part : Part) (line : Line) (k : ℕ) → HasRoom c line.sender (suc k) → HasRoom c (put c part line).sender k
room_after c part line k room e = (let w = room e in let longer = length-push line.sender.run (member_for c line.clock part line.sender) in omega arith)

pub room_one : (c : Constants) (tx : Sender) (k : ℕ) → HasRoom c tx (suc k) → HasRoom c tx 1
room_one c tx k room e = (let w = room e in omega arith)

-- A number that is sent again

pub again_later : (tx : Sender) (n now : ℕ) → tx.last_out ≤ now → IsLater tx (record tx { run = resent n now tx.run; last_out = now })
again_later tx n now out = record {
  more = (let e = resent-length n now tx.run in omega arith);
  first = λ k lt. resent-first n now tx.run k;
  drf = λ k lt. resent-drf n now tx.run k;
  part = λ k lt. resent-part n now tx.run k;
  out = out;
}

pub again_holds : (c : Constants) (line : Line) (n : ℕ) → LineHolds c line → MayResend c line n → LineHolds c (again c n line)
again_holds c line n h may =
    let out = h.sender.out in
    let same = resent-length n line.clock line.sender.run in
    let later = again_later line.sender n line.clock out in
    record {
      sender = record {
        out = omega arith;
        firsts = λ k lt. (let e = resent-first n line.clock line.sender.run k in let f = h.sender.firsts k (omega arith) in omega arith);
        rising = λ i k ik lt. (let e = resent-first n line.clock line.sender.run k in let e' = resent-first n line.clock line.sender.run i in let f = h.sender.rising i k ik (omega arith) in omega arith);
      };
      pieces = λ p i alive. elim i [
        | inl e ↦ rw e (let young = may.young in let within = may.within in let first = resent-first n line.clock line.sender.run n in record {
          within = omega arith;
          drf = sym (resent-drf n line.clock line.sender.run n);
          part = sym (resent-part n line.clock line.sender.run n);
          in_time = omega arith;
          out = omega arith;
        })
        | inr j ↦ piece_later c line.sender _ p later (h.pieces p j alive)
      ];
      receiver = receiver_later c line.clock line.sender _ line.receiver later (sym same) h.receiver;
      done = done_later c line.clock line.sender _ line.receiver line.done later h.done;
      shape = h.shape;
      gapless = λ e. (let g = h.gapless e in record {
        next = g.next;
        some = g.some;
        held = λ b k i. (let x = g.held b k i in let f = later.first k x.0 in (omega (arith, x.0), omega (arith, x.1)));
        drf = λ k lt set. (let old : k < length line.sender.run = omega arith in g.drf k old (sym (later.drf k old) ∙ set));
        acked = g.acked;
        right = g.right;
        window = (let w = g.window in omega arith);
      });
      acks = acks_later c line.clock line.sender _ line.done line.acks later h.acks;
    }
