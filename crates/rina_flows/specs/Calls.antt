-- What each call of the flows does, for the directions to which they are tied.
use Rattle.std.specs.Prelude.{◌≡◌, ◌≢◌, ℕ, ◌-◌, ◌^◌, ◌<◌, min, ◌⊎◌, true, List, [], ◌∷◌, ◌++◌, length, slice_get, slice_set, Option, None, Some, Result, Ok, Err}
use Rattle.rina_conn.specs.declared.conn.Conn.{Conn}
use Rattle.rina_conn.specs.declared.form.Form.{Form}
use Rattle.rina_conn.specs.declared.made.Made.{Made}
use Rattle.rina_conn.specs.declared.made.OfferError.{OfferError}
use Rattle.rina_conn.specs.declared.made.OfferError.TheVariants.{Memory}
use Rattle.rina_base.specs.declared.pdu.Pdu.{Pdu}
use Rattle.rina_conn.specs.Conns.{Passes}
use Rattle.rina_conn.specs.Sending as send
use Rattle.rina_conn.specs.Standing.{PassesFirst}
use Rattle.rina_ids.specs.Members.{CepIds}
use Rattle.rina_dif_law.specs.Cloud.{Cloud, Everywhere}
use Rattle.rina_data.specs.Configs.{Config, piece_size}
use Rattle.rina_data.specs.Process.{Process}
use Rattle.rina_dif_law.specs.Ids.{Ids, IsFrom, flipped}
use Rattle.rina_dif_law.specs.Standing.{IsJournal, IsOwn}
use Rattle.rina_iface.specs.declared.ends.End.{End}
use Rattle.rina_iface.specs.declared.state.PortState.TheVariants.{Allocated}
use Rattle.rina_iface.specs.Seen.{Seen}
use Rattle.rina_law.specs.declared.entry.Entry.{Entry}
use Rattle.rina_law.specs.Direction.{Direction, offer_refusal}
use Rattle.rina_law.specs.Pieces.{Part, IsCut, join}
use Rattle.rina_flows.specs.declared.flows.Flows.{Flows}
use Rattle.rina_flows.specs.Rows.{OffersAt, PassedAt, TakesAt, ToldAt}
use Rattle.rina_flows.specs.Tied.{IsAt, IsTied, IsUsed, conns_of, ids_of, outward}

-- the connection at a place changes so, and no other does
abbrev pub Becomes : (Conn → Conn → Type 0) → ℕ → List Conn → List Conn → Type 0
Becomes R at old new = (k : Conn) → slice_get old at ≡ Some k → (k' : Conn) × R k k' × (new ≡ slice_set old at k')

-- flows that are tied to directions
abbrev pub AreTied : Config → ℕ → Flows → List Direction → Type 0
AreTied g now flows lines = IsTied g now flows.journal.ends flows.conns lines

-- the call changes nothing of the names of the connections
abbrev pub SameIds : Flows → Flows → Type 0
SameIds old new = conns_of new.conns ≡ conns_of old.conns

-- the CEP-id of the far end is known, and all else of the connection is as before
pub record IsToldPeer (dcep : ℕ) (old new : Conn) : Type 0 where
  pub peer : new.sending.form.peer ≡ record old.sending.form.peer { dcep = dcep }
  pub cube : new.sending.form.cube ≡ old.sending.form.cube
  pub piece : new.sending.form.piece ≡ old.sending.form.piece
  pub numbers : new.sending.numbers ≡ old.sending.numbers
  pub tx : new.sending.tx ≡ old.sending.tx
  pub rx : new.rx ≡ old.rx
  pub plan : new.plan ≡ old.plan
  pub waiting : new.waiting ≡ old.waiting

-- Sending

-- an SDU is offered to a connection
pub record IsOffer (now : ℕ) (sdu : List ℕ) (result : Result Made OfferError) (old new : Conn) : Type 0 where
  pub offers : send.Offers now sdu old.sending result new.sending
  pub rx : new.rx ≡ old.rx
  pub plan : new.plan ≡ old.plan
  pub waiting : new.waiting ≡ old.waiting

-- by one connection, which notes it behind what its end sent, or by none where memory was not found
abbrev pub Offered : ℕ → ℕ → List ℕ → List Conn → List Entry → Result Made OfferError → List Conn → List Entry → Type 0
Offered now at sdu old sent (Ok made) new sent' = Becomes (IsOffer now sdu (Ok made)) at old new × (sent' ≡ sent ++ record { tick = now; num = made.num; bytes = sdu } ∷ [])
Offered now at sdu old sent (Err why) new sent' = (((why ≡ Memory) × (new ≡ old)) ⊎ Becomes (IsOffer now sdu (Err why)) at old new) × (sent' ≡ sent)

-- an SDU is cut into these parts
abbrev pub AreParts : Config → List ℕ → List Part → Type 0
AreParts g sdu parts = IsCut (piece_size g) true parts × (join parts ≡ sdu)

-- it is accepted, and the flows stay tied
pub record Accepts (g : Config) (now at : ℕ) (sdu : List ℕ) (old : Flows) (lines : List Direction) (made : Made) (new : Flows) : Type 0 where
  pub parts : List Part
  pub cut : AreParts g sdu parts
  pub lines' : List Direction
  pub offers : OffersAt g old.journal.ends (conns_of old.conns) lines at parts made.num made.pdus new.journal.ends lines'
  pub tied : AreTied g now new lines'
  pub ids : SameIds old new

-- it is refused by the sender
pub record IsRefused (g : Config) (sdu : List ℕ) (conn : Conn) (line : Direction) (why : OfferError) : Type 0 where
  pub parts : List Part
  pub cut : AreParts g sdu parts
  pub refuses : send.Refuses why (offer_refusal (outward g conn) line parts)

-- memory may be missing at any time
abbrev pub Refuses : Config → ℕ → List ℕ → List Conn → List Direction → OfferError → Type 0
Refuses g at sdu conns lines why = why ≢ Memory → (conn : Conn) (line : Direction) → slice_get conns at ≡ Some conn → slice_get lines at ≡ Some line → IsRefused g sdu conn line why

abbrev pub Offers : ℕ → ℕ → List ℕ → Flows → Result Made OfferError → Flows → Type 0
Offers now at sdu old (Ok made) new = (g : Config) (lines : List Direction) → AreTied g now old lines → IsUsed old.journal.ends at → Accepts g now at sdu old lines made new
Offers now at sdu old (Err why) new = (g : Config) (lines : List Direction) → AreTied g now old lines → Refuses g at sdu old.conns lines why × (new ≡ old)

-- so many pieces has an SDU of that length that is cut at this size
abbrev pub TellsNeed : ℕ → ℕ → ℕ → Type 0
TellsNeed len size need = (parts : List Part) → IsCut size true parts → length (join parts) ≡ len → length parts ≡ need

-- what is told of the connection at a place
abbrev pub Tells : (Conn → Type 0) → ℕ → List Conn → Type 0
Tells P at conns = (k : Conn) → slice_get conns at ≡ Some k → P k

-- Passing

-- the number with which the SDU begins that an end passes next, and how many pieces it has, each up to the greatest u32
abbrev pub TellsNext : End → Form → ℕ × ℕ → Type 0
TellsNext end form told = (x : Entry) → slice_get end.got end.taken ≡ Some x → (told.0 ≡ min x.num.seq (2 ^ 32 - 1)) × TellsNeed (min (length x.bytes) (2 ^ 32 - 1)) form.piece told.1

pub record IsPass (now : ℕ) (old new : Conn) : Type 0 where
  pub marks : Passes now old new
  pub receives : PassesFirst now old new
  pub sending : new.sending ≡ old.sending
  pub rx : new.rx ≡ old.rx

-- the oldest SDU of the end at a place is passed, and the flows stay tied
pub record IsPassed (g : Config) (now at : ℕ) (old : Flows) (lines : List Direction) (new : Flows) : Type 0 where
  pub lines' : List Direction
  pub passed : PassedAt g old.journal.ends (conns_of old.conns) lines at new.journal.ends lines'
  pub tied : AreTied g now new lines'
  pub ids : SameIds old new

abbrev pub PassesOne : ℕ → ℕ → Flows → Flows → Type 0
PassesOne now at old new =
    (g : Config) (lines : List Direction) (processes : List Process) (below : Seen) (held : List CepIds) → IsJournal now old.journal.ends → IsOwn g now (Cloud Everywhere g processes below) held old.journal.ends (conns_of old.conns) lines → AreTied g now old lines → IsPassed g now at old lines new

-- An acknowledgement

pub record IsTold (pdu : Pdu) (old new : Conn) : Type 0 where
  pub told : send.IsToldBy pdu.ack pdu.right old.sending new.sending
  pub form : new.sending.form ≡ old.sending.form
  pub rx : new.rx ≡ old.rx
  pub plan : new.plan ≡ old.plan
  pub waiting : new.waiting ≡ old.waiting

-- it comes to the connection at a place, and the flows stay tied
pub record IsToldAt (g : Config) (now at : ℕ) (pdu : Pdu) (old : Flows) (lines : List Direction) (new : Flows) : Type 0 where
  pub lines' : List Direction
  pub told : ToldAt lines at pdu lines'
  pub tied : AreTied g now new lines'
  pub ids : SameIds old new

abbrev pub TellsOne : ℕ → Pdu → Flows → Flows → Type 0
TellsOne at pdu old new = (g : Config) (now : ℕ) (lines : List Direction) → AreTied g now old lines → IsUsed old.journal.ends at → IsToldAt g now at pdu old lines new

-- Who takes a PDU

-- the end and the connection at a place take the PDU: the end is allocated, and the far end sent it
pub record Takes (end : End) (conn : Conn) (pdu : Pdu) : Type 0 where
  pub allocated : end.state ≡ Allocated
  pub names : IsFrom (flipped (ids_of conn)) pdu

-- those at a place
pub record TakesHere (ends : List End) (conns : List Conn) (at : ℕ) (pdu : Pdu) : Type 0 where
  pub end : End
  pub conn : Conn
  pub is_at : IsAt ends conns at end conn
  pub takes : Takes end conn pdu

abbrev pub TakenBy : List End → List Ids → Pdu → Option ℕ → Type 0
TakenBy ends ids pdu None = (at : ℕ) (end : End) (its_ids : Ids) → TakesAt ends ids pdu at end its_ids → ⊥
TakenBy ends ids pdu (Some at) = (end : End) × (its_ids : Ids) × TakesAt ends ids pdu at end its_ids

-- none at a place before n takes it
abbrev pub NoneBefore : ℕ → List End → List Conn → Pdu → Type 0
NoneBefore n ends conns pdu = (at : ℕ) → at < n → TakesHere ends conns at pdu → ⊥
