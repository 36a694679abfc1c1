-- A piece that comes is one that a receiver may rely on.
use Rattle.std.proofs.Common.{◌≡◌, ℕ, ◌≤◌, min, ltb, sym, ◌∙◌, ap, subst, arith, inl, inr}
use Rattle.std.proofs.lemmas.Bool.{cases_lt, le-ltb, lt-ltb}
use Rattle.rina_base.specs.declared.pdu.Pdu.{Pdu}
use Rattle.rina_dif_law.specs.Ids.{Ids}
use Rattle.rina_dtp.specs.Stands.{IsWelcome, verdict_of}
use Rattle.rina_law.specs.Constants.{Constants}
use Rattle.rina_law.specs.Direction.{Direction, has_room}
use Rattle.rina_law.specs.Line.{arrival_verdict}
use Rattle.rina_law.specs.Pdus.{piece_in}
use Rattle.rina_law.specs.Receiver.{AllHaveRoom, Piece, Verdict, is_present, verdict}
use Rattle.rina_law.proofs.Lawfulness.{welcome_from}
use Rattle.rina_flows.specs.Arriving.{IsComing}

-- the verdict by the count of SDUs that wait is the law's
pub verdict_is : (c : Constants) (line : Direction) (p : Piece) (unpassed : ℕ) → ltb unpassed c.cube.window ≡ has_room c line → verdict_of c line.line.clock unpassed line.line.receiver p ≡ arrival_verdict c line.line p (has_room c line)
verdict_is c line p unpassed room = ap (verdict c.cube.kind (is_present c line.line.clock line.line.receiver) line.line.receiver p) room

-- so many at most are told apart from a window
pub room_of_least : (waiting most window : ℕ) → window ≤ most → ltb (min waiting most) window ≡ ltb waiting window
room_of_least waiting most window le = elim (cases_lt waiting window) [
  | inl lt ↦ lt-ltb (min waiting most) window (omega arith) ∙ sym (lt-ltb waiting window lt)
  | inr ge ↦ le-ltb (min waiting most) window (omega arith) ∙ sym (le-ltb waiting window ge)
]

pub welcome : (c : Constants) (ids : Ids) (line : Direction) (pdu : Pdu) (unpassed : ℕ) → IsComing c ids line pdu → ltb unpassed c.cube.window ≡ has_room c line →
    IsWelcome c (is_present c line.line.clock line.line.receiver) line.line.receiver line.inbox.joiner (verdict_of c line.line.clock unpassed line.line.receiver (piece_in pdu)) (piece_in pdu)
welcome c ids line pdu unpassed coming room =
    let W : Piece → Type 0 = λ p. IsWelcome c (is_present c line.line.clock line.line.receiver) line.line.receiver line.inbox.joiner (verdict_of c line.line.clock unpassed line.line.receiver p) p in
    let w = welcome_from c line coming.copy coming.limits coming.holds (coming.flies, coming.alive) in
    let V : Verdict → Type 0 = λ v. AllHaveRoom c.cube.largest v c.cube.kind (is_present c line.line.clock line.line.receiver) coming.copy.pdu line.line.receiver.held line.inbox.joiner in
    let is : W coming.copy.pdu = record { body = w.body; window = w.held; room = subst V (sym (verdict_is c line coming.copy.pdu unpassed room)) w.joiner } in
    subst W coming.copy_is is
