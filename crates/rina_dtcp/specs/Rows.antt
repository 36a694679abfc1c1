-- What each call of a sender does, whatever sender of the machine it stands for.
use Rattle.std.specs.Prelude.{◌≡◌, ℕ, ◌+◌, ◌-◌, ◌^◌, ◌<◌, Bool, true, ◌||◌, List, [], ◌∷◌, drop, length, map, position, Option, Some, None, option_map, is_some}
use Rattle.rina_base.specs.declared.pdu.Pdu.{Pdu}
use Rattle.rina_cube.specs.declared.Cube.{Cube}
use Rattle.rina_cube.specs.declared.Kind.{Kind}
use Rattle.rina_cube.specs.declared.Kind.TheVariants.{Reliable}
use Rattle.rina_law.specs.Constants.{Constants}
use Rattle.rina_law.specs.Line.{opening}
use Rattle.rina_law.specs.Pieces.{Part}
use Rattle.rina_law.specs.Receiver.{Piece}
use Rattle.rina_law.specs.Sender.{Member, Sender, member, is_idle, is_absent, started, room_of, piece_for, sender_with, pieces_for, sender_with_all, again_due, given_up, sender_again, piece_again, sender_told}
use Rattle.rina_dtcp.specs.declared.sent.Sent.{Sent}
use Rattle.rina_dtcp.specs.declared.sent.GaveUp.{GaveUp}
use Rattle.rina_dtcp.specs.Senders.{Kept, num_in}
use Rattle.rina_dtcp.specs.Sents.{is_due}

-- the members that wait for an acknowledgement: on a reliable flow those from the number `acked` on
abbrev pub waiting : Kind → Sender → List Member
waiting Reliable m = drop m.acked m.run
waiting _ m = []

-- a member of a number, with the PDU that carries its piece
abbrev pub sent_of : (Piece → Pdu) → ℕ → Member → Sent
sent_of carry n m = record { first = m.first; last = m.last; pdu = carry (record { number = n; drf = m.drf; part = m.part }) }

abbrev pub sent_from : (Piece → Pdu) → ℕ → List Member → List Sent
sent_from carry n [] = []
sent_from carry n (m ∷ ms) = sent_of carry n m ∷ sent_from carry (n + 1) ms

-- what is kept stands for a sender of the machine, on a connection on which a PDU carries a piece so
pub record Stands (c : Constants) (carry : Piece → Pdu) (m : Sender) (k : Kept) : Type 0 where
  pub cube : k.cube ≡ c.cube
  pub count : k.count ≡ length m.run
  pub acked : k.acked ≡ m.acked
  pub right : k.right ≡ m.right
  pub last_out : k.last_out ≡ m.last_out
  pub unacked : k.unacked ≡ sent_from carry m.acked (waiting c.cube.kind m)

abbrev pub IsNew : Cube → Kept → Type 0
IsNew cube k = (c : Constants) (carry : Piece → Pdu) → c.cube ≡ cube → Stands c carry (opening c).sender k

-- the sender as it is when a piece is offered: one that has no state begins again
abbrev pub ready : Constants → ℕ → Sender → Sender
ready c now m = started (is_absent c now m) c m

abbrev pub TellsRoom : ℕ → Kept → ℕ → Type 0
TellsRoom now k room = (c : Constants) (carry : Piece → Pdu) (m : Sender) → Stands c carry m k → room ≡ room_of (ready c now m)

abbrev pub TellsIdle : Kept → Bool → Type 0
TellsIdle k idle = (c : Constants) (carry : Piece → Pdu) (m : Sender) → Stands c carry m k → idle ≡ is_idle c.cube.kind m

-- the PDU carries the machine's next piece, which is made of this part
abbrev pub IsNext : Constants → (Piece → Pdu) → ℕ → Sender → Part → ℕ → Pdu → Type 0
IsNext c carry now m part seq pdu = (seq ≡ length (ready c now m).run) × (pdu ≡ carry (piece_for c part (ready c now m)))

abbrev pub Notes : ℕ → ℕ → Pdu → Kept → Kept → Type 0
Notes now seq pdu old new =
    (c : Constants) (carry : Piece → Pdu) (m : Sender) (part : Part) → Stands c carry m old → IsNext c carry now m part seq pdu → Stands c carry (sender_with c now part (ready c now m)) new

-- and so for the pieces of all parts of an SDU, one after the other
abbrev pub NotesAll : ℕ → ℕ → List Pdu → Kept → Kept → Type 0
NotesAll now seq pdus old new =
    (c : Constants) (carry : Piece → Pdu) (m : Sender) (parts : List Part) → Stands c carry m old → seq ≡ length (ready c now m).run → pdus ≡ map carry (pieces_for c now parts (ready c now m)) → Stands c carry (sender_with_all c now parts (ready c now m)) new

abbrev pub IsTold : ℕ → ℕ → Kept → Kept → Type 0
IsTold ack right old new = (c : Constants) (carry : Piece → Pdu) (m : Sender) → Stands c carry m old → Stands c carry (sender_told (record { ack = ack; right = right }) m) new

abbrev pub after_again : Option ℕ → ℕ → Sender → Sender
after_again None now m = m
after_again (Some n) now m = sender_again n now m

-- the PDU of the number that is sent again now is lent, and the number is marked
abbrev pub Resends : ℕ → Kept → Option Pdu → Kept → Type 0
Resends now old lent new =
    (c : Constants) (carry : Piece → Pdu) (m : Sender) → Stands c carry m old →
    (lent ≡ option_map (λ n. carry (piece_again n m)) (again_due c now m)) × Stands c carry (after_again (again_due c now m) now m) new

-- and where none is sent again, nothing changes
pub record LendsAgain (now : ℕ) (old : Kept) (lent : Option Pdu) (new : Kept) : Type 0 where
  pub resends : Resends now old lent new
  pub there : is_some lent ≡ is_some (position (is_due old.cube now) old.unacked)
  pub idle : lent ≡ None → new ≡ old

-- whether any number is sent again now
abbrev pub TellsDue : ℕ → Kept → Bool → Type 0
TellsDue now k told = (c : Constants) (carry : Piece → Pdu) (m : Sender) → Stands c carry m k → told ≡ is_some (again_due c now m)

-- the PDU of the number that is sent again now
abbrev pub TellsAgain : ℕ → Kept → Option Pdu → Type 0
TellsAgain now k told = (c : Constants) (carry : Piece → Pdu) (m : Sender) → Stands c carry m k → told ≡ option_map (λ n. carry (piece_again n m)) (again_due c now m)

-- a number that is given up, as the PDU that carries its piece has it
abbrev pub gave_up_of : (Piece → Pdu) → ℕ → Sender → ℕ → GaveUp
gave_up_of carry now m n = record { num = num_in (carry (piece_again n m)); first = (member m.run n).first; now = now }

abbrev pub TellsGivenUp : ℕ → Kept → Option GaveUp → Type 0
TellsGivenUp now k told =
    (c : Constants) (carry : Piece → Pdu) (m : Sender) → Stands c carry m k → told ≡ option_map (gave_up_of carry now m) (given_up c now m)

-- before this tick no number is sent again or given up
pub record IsStillUntil (until : ℕ) (k : Kept) : Type 0 where
  pub again : (t : ℕ) → t < until → TellsAgain t k None
  pub given_up : (t : ℕ) → t < until → TellsGivenUp t k None

-- at this tick a number is sent again or given up, unless it is the greatest u32
abbrev pub IsDueFrom : ℕ → Kept → Type 0
IsDueFrom tick k = (c : Constants) (carry : Piece → Pdu) (m : Sender) → Stands c carry m k → tick < 2 ^ 32 - 1 → (is_some (again_due c tick m) || is_some (given_up c tick m)) ≡ true
