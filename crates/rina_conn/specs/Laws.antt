-- How a layer above keeps what the receiving half of a connection stands for, and when numbers are spent.
use Rattle.std.specs.Prelude.{◌≡◌, ℕ, ◌+◌, ◌*◌, ◌≤◌, true, false, List, length, Err}
use Rattle.rina_dtcp.specs.Plans.{without}
use Rattle.rina_dtp.specs.Lending.{fetched}
use Rattle.rina_law.specs.Constants.{Constants, delta}
use Rattle.rina_law.specs.Direction.{Direction, start, Forget, after_ack, happens}
use Rattle.rina_law.specs.Pieces.{Part}
use Rattle.rina_law.specs.Receiver.{is_present}
use Rattle.rina_law.specs.Sender.{Sender, is_absent}
use Rattle.rina_conn.specs.declared.conn.Conn.{Conn}
use Rattle.rina_conn.specs.declared.form.Peer.{Peer}
use Rattle.rina_conn.specs.declared.made.OfferError.TheVariants.{NumbersSpent}
use Rattle.rina_conn.specs.declared.sending.Sending.{Sending}
use Rattle.rina_conn.specs.Conns.{IsNewConn, StandsStill, notes_next}
use Rattle.rina_conn.specs.Sending.{IsSender, IsCutOf, Offers}
use Rattle.rina_conn.specs.Standing.{IsReceiver}

-- a new connection receives what a new direction does
abbrev pub NewReceives : Type 0
NewReceives = (c : Constants) (peer : Peer) (k : Conn) → IsNewConn c.cube c.piece c.max peer k → IsReceiver c (start c) k

-- when an SDU is fetched
abbrev pub FetchedReceives : Type 0
FetchedReceives = (c : Constants) (d : Direction) (k : Conn) → IsReceiver c d k → IsReceiver c d (record (notes_next k) { rx = record k.rx { join = fetched k.rx.join } })

-- when a piece is taken that was given up
abbrev pub StillReceives : Type 0
StillReceives = (c : Constants) (d : Direction) (old new : Conn) → StandsStill d.line.clock old new → IsReceiver c d old → IsReceiver c d new

-- when time goes on
abbrev pub LaterReceives : Type 0
LaterReceives = (c : Constants) (d : Direction) (later : ℕ) (k : Conn) → IsReceiver c d k → d.line.clock ≤ later → IsReceiver c (record d { line = record d.line { clock = later } }) k

-- when an absent state gives up what it held
abbrev pub ForgottenReceives : Type 0
ForgottenReceives = (c : Constants) (d : Direction) (k : Conn) → IsReceiver c d k → is_present c d.line.clock d.line.receiver ≡ false → IsReceiver c (happens c d Forget) k

-- when an acknowledgement is made
abbrev pub AcknowledgedReceives : Type 0
AcknowledgedReceives = (c : Constants) (d : Direction) (k : Conn) → IsReceiver c d k → IsReceiver c (after_ack true c d) (record k { plan = without k.plan })

-- when its other half sends, of which the form and the greatest number stay
abbrev pub SendingReceives : Type 0
SendingReceives = (c : Constants) (d : Direction) (k : Conn) (sending : Sending) → sending.form ≡ k.sending.form → sending.numbers.max ≡ k.sending.numbers.max → IsReceiver c d k → IsReceiver c d (record k { sending = sending })

-- an SDU of no more pieces than there are numbers is refused for want of them only while the sender has state, and until
-- that ends
abbrev pub SpentHasState : Type 0
SpentHasState = (c : Constants) (m : Sender) (now until : ℕ) (sdu : List ℕ) (old new : Sending) → Offers now sdu old (Err (NumbersSpent until)) new → IsSender c m old → ((parts : List Part) → IsCutOf c sdu parts → length parts ≤ c.max + 1) →
    (is_absent c now m ≡ false) × (until ≡ m.last_out + 3 * delta c)
