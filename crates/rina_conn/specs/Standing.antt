-- The receiving half of a connection, and the direction of the machine for which it stands.
use Rattle.std.specs.Prelude.{◌≡◌, ℕ, ◌-◌, ◌*◌, ◌<◌, ◌≤◌, max, List, [], ◌++◌, length, map, drop}
use Rattle.rina_base.specs.declared.pdu.Pdu.{Pdu}
use Rattle.rina_dtcp.specs.Plans.{IsPlanOf}
use Rattle.rina_dtp.specs.Stands as dtp
use Rattle.rina_dtp.specs.Stands.{IsFetched, IsWelcome, verdict_of}
use Rattle.rina_law.specs.declared.entry.Entry.{Entry}
use Rattle.rina_law.specs.Constants.{Constants}
use Rattle.rina_law.specs.Direction.{Direction, Pass, has_room, after_arrival, happens}
use Rattle.rina_law.specs.Line.{arrival_verdict}
use Rattle.rina_law.specs.Pdus.{piece_in}
use Rattle.rina_law.specs.Pieces.{Sdu}
use Rattle.rina_law.specs.Receiver.{is_present}
use Rattle.rina_conn.specs.declared.conn.Conn.{Conn}
use Rattle.rina_conn.specs.Conns.{HasNoLast}
use Rattle.rina_conn.specs.Waiting.{Waits}

-- the numbers with which the SDUs begin that the present state made whole and that are not passed
abbrev pub open_numbers : Direction → List ℕ
open_numbers d = map (λ (e : Entry). e.num.seq) (drop (max d.passed d.state_from) d.inbox.got)

abbrev pub first_numbers : List Sdu → List ℕ
first_numbers whole = map (λ (s : Sdu). s.first) whole

-- they are those that are noted, and those of the SDUs that are still to be fetched
pub record AreWaiting (c : Constants) (d : Direction) (whole : List Sdu) (w : Waits) : Type 0 where
  pub room : w.room ≡ 2 * c.cube.window
  pub earlier : w.earlier ≡ d.state_from - d.passed
  pub firsts : w.firsts ++ first_numbers whole ≡ open_numbers d
  pub within : max d.passed d.state_from ≤ length d.inbox.got
  pub few : length (open_numbers d) < 2 * c.cube.window

-- it stands for what a direction receives, at the clock of that direction
pub record IsReceiver (c : Constants) (d : Direction) (k : Conn) : Type 0 where
  pub cube : k.sending.form.cube ≡ c.cube
  pub max : k.sending.numbers.max ≡ c.max
  pub rx : dtp.Stands c d.line.clock d.line.receiver d.inbox.joiner k.rx
  pub last : HasNoLast d.line.receiver
  pub plan : IsPlanOf c d.mark k.plan
  pub waiting : AreWaiting c d k.rx.join.whole k.waiting

-- a piece that comes is the machine's arrival
abbrev pub Arrives : ℕ → Pdu → ℕ → Conn → Conn → Type 0
Arrives now pdu unpassed old new =
    (c : Constants) (d : Direction) → d.line.clock ≡ now → unpassed ≡ length d.inbox.got - d.passed → IsReceiver c d old → IsFetched now old.rx → IsWelcome c (is_present c now d.line.receiver) d.line.receiver d.inbox.joiner (verdict_of c now unpassed d.line.receiver (piece_in pdu)) (piece_in pdu) →
    IsReceiver c (after_arrival (arrival_verdict c d.line (piece_in pdu) (has_room c d)) (is_present c d.line.clock d.line.receiver) c (piece_in pdu) d) new

-- an SDU that is passed is the machine's passing
abbrev pub PassesFirst : ℕ → Conn → Conn → Type 0
PassesFirst now old new = (c : Constants) (d : Direction) → d.line.clock ≡ now → d.passed < length d.inbox.got → IsReceiver c d old → old.rx.join.whole ≡ [] → IsReceiver c (happens c d Pass) new
