-- What the calls of flows are where the flows are the management connections of links.
use Rattle.std.specs.Prelude.{◌≡◌, ℕ, ◌-◌, List, map, slice_get, Option, Some, Ok}
use Rattle.rina_account.specs.declared.ledger.Off.{Off}
use Rattle.rina_base.specs.declared.cause.Cause.{Cause}
use Rattle.rina_conn.specs.declared.made.Made.{Made}
use Rattle.rina_base.specs.declared.pdu.Pdu.{Pdu}
use Rattle.rina_base.specs.declared.pdu.PduKind.TheVariants.{Piece as APiece}
use Rattle.rina_cube.specs.declared.Cube.{Cube}
use Rattle.rina_iface.specs.declared.ends.End.{End}
use Rattle.rina_iface.specs.declared.state.PortState.TheVariants.{Allocated}
use Rattle.rina_iface.specs.Journal.{At}
use Rattle.rina_iface.specs.Seen.{Seen}
use Rattle.rina_law.specs.Direction.{Direction, right_of}
use Rattle.rina_law.specs.Receiver.{next_of}
use Rattle.rina_law.specs.Sender.{piece_again}
use Rattle.rina_data.specs.Configs.{Config}
use Rattle.rina_data.specs.Process.{Process}
use Rattle.rina_dif_law.specs.Ids.{Ids, pdu_of_ack, pdu_of_piece}
use Rattle.rina_flows.specs.declared.due.Item.TheVariants.{Ack, Again}
use Rattle.rina_flows.specs.declared.flows.Flows.{Flows}
use Rattle.rina_flows.specs.Calls.{Accepts, AreTied, IsPassed as PassesOf, PassesOne, SameIds}
use Rattle.rina_flows.specs.Delivering.{ArrivesIn, HasComeIn}
use Rattle.rina_flows.specs.Laws.{waiting_now}
use Rattle.rina_flows.specs.Rows.{TakesAt}
use Rattle.rina_flows.specs.Tied.{conns_of, ids_of, inward}
use Rattle.rina_flows.specs.Timely.{HasAcknowledged, HasSentAgain, IsDue}
use Rattle.rina_channel.specs.declared.channel.Channel.{Channel}
use Rattle.rina_channel.specs.Changes.{IsAwaited, IsPutOn, PostsOn}
use Rattle.rina_channel.specs.Channels.{seen_of}
use Rattle.rina_channel.specs.Names.{link_config, unnamed}
use Rattle.rina_channel.specs.Rows.{IsAcknowledgedOn, IsOfferedOn, IsResentOn}
use Rattle.rina_channel.specs.Standing.{IsStanding}

-- a call that keeps the names of the connections changes the ends alone
abbrev pub CallsChangeEnds : Type 0
CallsChangeEnds = (g : Config) (manage : Cube) (now : ℕ) (channels : List Channel) (old new : Flows) → SameIds old new → seen_of g manage now channels new ≡ record (seen_of g manage now channels old) { ends = new.journal.ends }

-- a piece that is awaited arrives at its connection by the call for a piece
abbrev pub CallsForPiecesArrive : Type 0
CallsForPiecesArrive = (g : Config) (manage : Cube) (now : ℕ) (channels : List Channel) (lines : List Direction) (processes : List Process) (below : Seen) (old new : Flows) (at : ℕ) (end : End) (its_ids : Ids) (pdu : Pdu) (ledger ledger' : List Off) (cause : Option Cause) →
    IsStanding (seen_of g manage now channels old) lines processes below → AreTied (link_config g manage) now old lines → IsAwaited (seen_of g manage now channels old) processes below pdu → pdu.kind ≡ APiece → TakesAt old.journal.ends (conns_of old.conns) pdu at end its_ids → ArrivesIn now at pdu old ledger (Ok cause) new ledger' → HasComeIn (link_config g manage) now at pdu old ledger lines cause new ledger'

-- a message is passed by the call that passes an SDU
abbrev pub CallsThatPassDo : Type 0
CallsThatPassDo = (g : Config) (manage : Cube) (now : ℕ) (channels : List Channel) (lines : List Direction) (processes : List Process) (below : Seen) (old new : Flows) (at : ℕ) →
    IsStanding (seen_of g manage now channels old) lines processes below → AreTied (link_config g manage) now old lines → PassesOne now at old new → PassesOf (link_config g manage) now at old lines new

-- a message is offered once its pieces wait
abbrev pub CallsThatOfferDo : Type 0
CallsThatOfferDo = (g : Config) (manage : Cube) (now : ℕ) (channels : List Channel) (lines : List Direction) (processes processes' : List Process) (old new : Flows) (k : ℕ) (channel : Channel) (sdu : List ℕ) (made : Made) (a : Accepts (link_config g manage) now k sdu old lines made new) →
    slice_get channels k ≡ Some channel → a.offers.end.state ≡ Allocated → IsPutOn g.cap processes channel (waiting_now a.offers.cube.mpl now (map unnamed made.pdus)) processes' → IsOfferedOn (seen_of g manage now channels old) lines processes k a.parts made.num (seen_of g manage now channels new) a.lines' processes'

-- an acknowledgement that was due is made once it was posted
abbrev pub CallsThatAcknowledgeDo : Type 0
CallsThatAcknowledgeDo = (g : Config) (manage : Cube) (now : ℕ) (channels : List Channel) (lines : List Direction) (processes processes' : List Process) (below : Seen) (old new : Flows) (k : ℕ) (channel : Channel) (end : End) (cause : Option Cause) →
    IsStanding (seen_of g manage now channels old) lines processes below → AreTied (link_config g manage) now old lines → slice_get channels k ≡ Some channel → At old.journal.ends k end → end.state ≡ Allocated → IsDue Ack (link_config g manage) now old lines k → (h : HasAcknowledged (link_config g manage) now k end old lines new) →
    PostsOn g.cap now h.conn.sending.form.cube.mpl processes channel (unnamed (pdu_of_ack (ids_of h.conn) (record { ack = next_of h.line.line.receiver - 1; right = right_of (inward (link_config g manage) h.conn) h.line }))) cause processes' → IsAcknowledgedOn (seen_of g manage now channels old) lines processes k cause h.lines' processes'

-- and so is a number that was due sent again
abbrev pub CallsThatSendAgainDo : Type 0
CallsThatSendAgainDo = (g : Config) (manage : Cube) (now : ℕ) (channels : List Channel) (lines : List Direction) (processes processes' : List Process) (old new : Flows) (k : ℕ) (channel : Channel) (end : End) (cause : Option Cause) (due : IsDue Again (link_config g manage) now old lines k) →
    AreTied (link_config g manage) now old lines → slice_get channels k ≡ Some channel → At old.journal.ends k end → end.state ≡ Allocated → (h : HasSentAgain (link_config g manage) now k old lines new) →
    PostsOn g.cap now h.conn.sending.form.cube.mpl processes channel (unnamed (pdu_of_piece (ids_of h.conn) (piece_again due.number h.line.line.sender))) cause processes' → IsResentOn (seen_of g manage now channels old) lines processes k cause h.lines' processes'
