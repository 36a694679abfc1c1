-- Where a sender begins again, nothing of its last run is left.
use Rattle.std.proofs.Common.{◌≡◌, ℕ, ◌+◌, ◌*◌, ◌≤◌, List, [], ◌∷◌, length, true, false, ◌&&◌, leb, refl, sym, ◌∙◌, subst, arith, inl, inr}
use Rattle.std.proofs.lemmas.Bool.{or_cases, and_parts, false≢true, leb-true}
use Rattle.rina_cube.specs.declared.Cube.{Cube}
use Rattle.rina_cube.specs.declared.Kind.{Kind}
use Rattle.rina_cube.specs.declared.Kind.TheVariants.{Datagram, Loose, Reliable}
use Rattle.rina_cube.specs.Cubes.{IsCube, IsTimed}
use Rattle.rina_law.specs.Constants.{Constants, delta}
use Rattle.rina_law.specs.Line.{InFlight, Line, begun}
use Rattle.rina_law.specs.LineHolds.{DoneHolds, IsShaped, LineHolds}
use Rattle.rina_law.specs.Lists.{In}
use Rattle.rina_law.specs.Receiver.{Piece, Receiver, is_present}
use Rattle.rina_law.specs.Sender.{Member, Sender, Ack, is_empty, is_idle, is_absent}
use Rattle.rina_law.proofs.Standing.{absent_from}

pub empty_length : (run : List Member) → is_empty run ≡ true → length run ≡ 0
empty_length [] e = refl
empty_length (m ∷ run) e = absurd (false≢true e)

pub shape_none : (kind : Kind) → IsShaped kind []
shape_none Datagram = tt
shape_none Loose = tt
shape_none Reliable = refl

-- a reliable cube sends again
resends : (c : Cube) → IsCube c → c.kind ≡ Reliable → 1 ≤ c.r
resends c cube e =
    let P : Kind → Type 0 = λ k. IsTimed k c in
    let x : (1 ≤ c.retry) × (c.retry ≤ c.r) = subst P e cube.times in
    let retry = x.0 in let r = x.1 in omega arith

-- nothing of the run is left: the key to beginning again at number 0
pub record IsQuiet (c : Constants) (line : Line) : Type 0 where
  pub pieces : (p : InFlight Piece) → In p line.pieces → line.clock ≤ p.death → ⊥
  pub absent : is_present c line.clock line.receiver ≡ false
  pub acks : (k : InFlight Ack) → In k line.acks → line.clock ≤ k.death → ⊥

none_done : (c : Constants) (now : ℕ) (tx : Sender) (rx : Receiver) (done : List ℕ) → DoneHolds c now tx rx done → length tx.run ≡ 0 → length done ≡ 0
none_done c now tx rx [] h e = refl
none_done c now tx rx (n ∷ done) h e = (let w = (h n (inl refl)).within in absurd (omega arith))

pub quiet_after : (c : Constants) (line : Line) → IsCube c.cube → LineHolds c line → line.sender.last_out + 3 * delta c ≤ line.clock → IsQuiet c line
quiet_after c line cube h late =
    let lives = cube.least_mpl in
    record {
      pieces = λ p i alive. (let o = (h.pieces p i alive).out in omega arith);
      absent = absent_from c line.clock line.receiver (λ made. (let o = h.receiver.out made in omega arith));
      acks = λ k i alive. (let x = h.acks k i alive in let o = x.out in let r = resends c.cube cube x.reliable in omega arith);
    }

quiet_empty : (c : Constants) (line : Line) → LineHolds c line → length line.sender.run ≡ 0 → IsQuiet c line
quiet_empty c line h none = record {
  pieces = λ p i alive. (let w = (h.pieces p i alive).within in omega arith);
  absent = h.receiver.empty none;
  acks = λ k i alive. (let a = (h.acks k i alive).ack in let z = none_done c line.clock line.sender line.receiver line.done h.done none in omega arith);
}

pub quiet_from : (c : Constants) (line : Line) → IsCube c.cube → LineHolds c line → is_absent c line.clock line.sender ≡ true → IsQuiet c line
quiet_from c line cube h absent = elim (or_cases (is_empty line.sender.run) (is_idle c.cube.kind line.sender && leb (line.sender.last_out + 3 * delta c) line.clock) absent) [
  | inl e ↦ quiet_empty c line h (empty_length line.sender.run e)
  | inr e ↦
      (let p = and_parts (is_idle c.cube.kind line.sender) (leb (line.sender.last_out + 3 * delta c) line.clock) e in
      quiet_after c line cube h (leb-true (line.sender.last_out + 3 * delta c) line.clock p.1))
]

pub fresh_holds : (c : Constants) (line : Line) → IsCube c.cube → LineHolds c line → IsQuiet c line → LineHolds c (begun true c line)
fresh_holds c line cube h quiet = record {
  sender = record { out = h.sender.out; firsts = λ n lt. absurd (omega arith); rising = λ i k ik lt. absurd (omega arith) };
  pieces = λ p i alive. absurd (quiet.pieces p i alive);
  receiver = record { past = h.receiver.past; out = h.receiver.out; empty = λ e. quiet.absent };
  done = λ n i. absurd i;
  shape = shape_none c.cube.kind;
  gapless = λ e. record {
    next = λ b. absurd (false≢true (sym quiet.absent ∙ b));
    some = λ b. absurd (false≢true (sym quiet.absent ∙ b));
    held = λ b. absurd (false≢true (sym quiet.absent ∙ b));
    drf = λ n lt. absurd (omega arith);
    acked = omega arith;
    right = (let w = cube.least_window in omega arith);
    window = omega arith;
  };
  acks = λ k i alive. absurd (quiet.acks k i alive);
}
