-- What the sending half of a connection does, in the terms of the machine's sender for which it stands.
use Rattle.std.specs.Prelude.{◌≡◌, ℕ, ◌-◌, ◌^◌, ◌<◌, ◌≤◌, Bool, true, false, List, length, map, Option, Some, None, option_map, Result, Ok, Err, if◌then◌else◌}
use Rattle.rina_base.specs.declared.pdu.Pdu.{Pdu}
use Rattle.rina_cube.specs.Cubes.{is_reliable, delta_of}
use Rattle.rina_delim.specs.declared.part.Part as delim
use Rattle.rina_delim.specs.Parts.{parts_of}
use Rattle.rina_dtcp.specs.declared.sent.GaveUp.{GaveUp}
use Rattle.rina_dtcp.specs.Rows as dtcp
use Rattle.rina_dtcp.specs.Rows.{Stands, ready}
use Rattle.rina_dtp.specs.declared.numbers.Numbers.{Numbers}
use Rattle.rina_dtp.specs.declared.numbers.NumbersSpent as numbers
use Rattle.rina_dtp.specs.Numbers.{Counts, TakesNumbers, NotesAgain}
use Rattle.rina_law.specs.Constants.{Constants}
use Rattle.rina_law.specs.Line.{opening}
use Rattle.rina_law.specs.Pieces.{Part, IsCut, join}
use Rattle.rina_law.specs.Sender as law
use Rattle.rina_law.specs.Sender.{Sender, Refusal, refusal, pieces_for, sender_with_all, sender_told, room_of, is_absent, given_up, again_due, piece_again}
use Rattle.rina_conn.specs.declared.form.Form.{Form}
use Rattle.rina_conn.specs.declared.made.Made.{Made}
use Rattle.rina_conn.specs.declared.made.OfferError.{OfferError}
use Rattle.rina_conn.specs.declared.made.OfferError.TheVariants.{Memory, TooLong, WindowShut, NumbersSpent}
use Rattle.rina_conn.specs.declared.sending.Admitted.{Admitted}
use Rattle.rina_conn.specs.declared.sending.Sending.{Sending}
use Rattle.rina_conn.specs.Carrying.{carry, parts_in, LieWithin}

-- it stands for a sender of the machine, whose pieces go to the far end
pub record IsSender (c : Constants) (m : Sender) (s : Sending) : Type 0 where
  pub cube : s.form.cube ≡ c.cube
  pub piece : s.form.piece ≡ c.piece
  pub max : s.numbers.max ≡ c.max
  pub cep : s.form.peer.scep ≡ c.cep
  pub tx : Stands c (carry s.form.peer s.form.cube.id) m s.tx
  pub numbers : Counts m s.numbers

-- the numbers that never change are those of a connection of this form
pub record IsFormOf (c : Constants) (form : Form) (max : ℕ) : Type 0 where
  pub cube : form.cube ≡ c.cube
  pub piece : form.piece ≡ c.piece
  pub cep : form.peer.scep ≡ c.cep
  pub max_is : max ≡ c.max

pub record IsNewSender (form : Form) (max : ℕ) (s : Sending) : Type 0 where
  pub form_is : s.form ≡ form
  pub stands : (c : Constants) → IsFormOf c form max → IsSender c (opening c).sender s

-- An SDU that is offered

-- the refusal that an error tells; `Memory` may come at any time
abbrev pub Refuses : OfferError → Option Refusal → Type 0
Refuses Memory r = Unit {0}
Refuses (TooLong len max) r = r ≡ Some (law.TooLong len max)
Refuses (WindowShut need room) r = r ≡ Some (law.WindowShut need room)
Refuses (NumbersSpent until) r = r ≡ Some (law.NumbersSpent until)

-- the PDUs that are made carry the pieces of all parts, and its number is that of the first
pub record IsMade (c : Constants) (now : ℕ) (parts : List Part) (m : Sender) (old : Sending) (made : Made) (new : Sending) : Type 0 where
  pub accepted : refusal c (ready c now m) parts ≡ None
  pub num : made.num ≡ record { cep = c.cep; seq = length (ready c now m).run }
  pub pdus : made.pdus ≡ map (carry old.form.peer old.form.cube.id) (pieces_for c now parts (ready c now m))
  pub form : new.form ≡ old.form
  pub stands : IsSender c (sender_with_all c now parts (ready c now m)) new

abbrev pub Answers : Constants → ℕ → List Part → Sender → Sending → Result Made OfferError → Sending → Type 0
Answers c now parts m old (Ok made) new = IsMade c now parts m old made new
Answers c now parts m old (Err e) new = Refuses e (refusal c (ready c now m) parts) × (new ≡ old)

-- the SDU is cut into parts of the size of the connection's pieces
abbrev pub IsCutOf : Constants → List ℕ → List Part → Type 0
IsCutOf c sdu parts = IsCut c.piece true parts × (join parts ≡ sdu)

abbrev pub Offers : ℕ → List ℕ → Sending → Result Made OfferError → Sending → Type 0
Offers now sdu old result new = (c : Constants) (m : Sender) → IsSender c m old → (parts : List Part) × IsCutOf c sdu parts × Answers c now parts m old result new

-- its two first tests

abbrev pub ChecksLength : ℕ → ℕ → Result (Unit {0}) OfferError → Type 0
ChecksLength len largest (Ok u) = len ≤ largest
ChecksLength len largest (Err e) = (largest < len) × (e ≡ TooLong len largest)

abbrev pub ChecksWindow : ℕ → ℕ → Sending → Result (Unit {0}) OfferError → Type 0
ChecksWindow now need s (Ok u) = (room : ℕ) × dtcp.TellsRoom now s.tx room × (is_reliable s.form.cube.kind ≡ true → need ≤ room)
ChecksWindow now need s (Err e) = (room : ℕ) × dtcp.TellsRoom now s.tx room × (is_reliable s.form.cube.kind ≡ true) × (room < need) × (e ≡ WindowShut need room)

-- the parts of an SDU of so many bytes
pub record IsPartsOf (len size : ℕ) (parts : List delim.Part) : Type 0 where
  pub are : parts ≡ parts_of len size
  pub some : 1 ≤ length parts
  pub few : length parts < 2 ^ 32
  pub within : LieWithin len parts

-- numbers are taken
abbrev pub Numbered : ℕ → ℕ → Sending → Result (ℕ × Numbers) OfferError → Type 0
Numbered now count s (Ok (first, numbers)) = (idle : Bool) × dtcp.TellsIdle s.tx idle × TakesNumbers now count idle (delta_of s.form.cube) s.numbers (Ok first) numbers
Numbered now count s (Err e) = (idle : Bool) × (why : numbers.NumbersSpent) × (numbers : Numbers) × dtcp.TellsIdle s.tx idle × TakesNumbers now count idle (delta_of s.form.cube) s.numbers (Err why) numbers × (e ≡ NumbersSpent why.until)

-- an SDU is admitted: it is not refused, and its numbers are taken
pub record IsAdmitted (c : Constants) (now : ℕ) (m : Sender) (parts : List Part) (s : Sending) (a : Admitted) : Type 0 where
  pub accepted : refusal c (ready c now m) parts ≡ None
  pub first : a.first ≡ length (ready c now m).run
  pub max : a.numbers.max ≡ s.numbers.max
  pub counts : Counts (sender_with_all c now parts (ready c now m)) a.numbers

abbrev pub Admits : ℕ → List ℕ → Sending → Result Admitted OfferError → Type 0
Admits now sdu s (Ok a) = (c : Constants) (m : Sender) → IsSender c m s → IsAdmitted c now m (parts_in s.form.piece sdu) s a
Admits now sdu s (Err e) = (c : Constants) (m : Sender) → IsSender c m s → Refuses e (refusal c (ready c now m) (parts_in s.form.piece sdu))

-- An acknowledgement that comes, and what is told

abbrev pub IsToldBy : ℕ → ℕ → Sending → Sending → Type 0
IsToldBy ack right old new = (c : Constants) (m : Sender) → IsSender c m old → IsSender c (sender_told (record { ack = ack; right = right }) m) new

-- how many numbers may still be sent first; without acknowledgements the greatest number there is
abbrev pub TellsRoom : ℕ → Sending → ℕ → Type 0
TellsRoom now s room = (c : Constants) (m : Sender) → IsSender c m s → room ≡ (if is_reliable c.cube.kind then room_of (ready c now m) else 2 ^ 32 - 1)

-- the next number, where the sender has state
abbrev pub TellsNext : ℕ → Sending → Option ℕ → Type 0
TellsNext now s next = (c : Constants) (m : Sender) → IsSender c m s → next ≡ (if is_absent c now m then None else Some (length m.run))

-- the number that is given up
abbrev pub TellsGivenUp : ℕ → Sending → Option GaveUp → Type 0
TellsGivenUp now s told = (c : Constants) (m : Sender) → IsSender c m s → told ≡ option_map (dtcp.gave_up_of (carry s.form.peer s.form.cube.id) now m) (given_up c now m)

-- A number that is sent again

-- the PDU of it
abbrev pub TellsAgain : ℕ → Sending → Option Pdu → Type 0
TellsAgain now s told = (c : Constants) (m : Sender) → IsSender c m s → told ≡ option_map (λ n. carry s.form.peer s.form.cube.id (piece_again n m)) (again_due c now m)

-- the numbers are noted as made again, or as before
abbrev pub NotesIf : Bool → ℕ → Numbers → Numbers → Type 0
NotesIf true now old new = NotesAgain now old new
NotesIf false now old new = new ≡ old

pub record SendsAgain (now : ℕ) (old new : Sending) : Type 0 where
  pub form : new.form ≡ old.form
  pub max : new.numbers.max ≡ old.numbers.max
  pub stands : (c : Constants) (m : Sender) → IsSender c m old → IsSender c (dtcp.after_again (again_due c now m) now m) new

pub record IsResent (now : ℕ) (old : Sending) (lent : Option Pdu) (new : Sending) : Type 0 where
  pub told : TellsAgain now old lent
  pub sends : SendsAgain now old new
  pub idle : lent ≡ None → new ≡ old
