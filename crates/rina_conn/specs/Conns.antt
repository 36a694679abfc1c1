-- A connection: a sender and a receiver of the machine, the mark of the next acknowledgement, and pieces that are given up.
use Rattle.std.specs.Prelude.{◌≡◌, ◌≢◌, ℕ, ◌*◌, Bool, true, false, not, ◌&&◌, if◌then◌else◌, [], Option, None}
use Rattle.rina_base.specs.declared.cause.Cause.TheVariants as cause
use Rattle.rina_base.specs.declared.pdu.Pdu.{Pdu}
use Rattle.rina_cube.specs.declared.Cube.{Cube}
use Rattle.rina_cube.specs.Cubes.{delta_of}
use Rattle.rina_dtcp.specs.Plans.{Plan, IsPlanOf, TellsNote}
use Rattle.rina_dtp.specs.declared.verdict.Verdict.{Verdict}
use Rattle.rina_dtp.specs.declared.verdict.Verdict.TheVariants.{Accept, Hold, Off}
use Rattle.rina_dtp.specs.Fetching.{StandsAsBefore}
use Rattle.rina_dtp.specs.Joins.{first_number}
use Rattle.rina_dtp.specs.Observed.{IsNew}
use Rattle.rina_dtp.specs.Receiving.{present_at, drops}
use Rattle.rina_dtp.specs.Stands.{Stands, IsFetched, IsWelcome, verdict_of}
use Rattle.rina_law.specs.Constants.{Constants}
use Rattle.rina_law.specs.Pdus.{piece_in}
use Rattle.rina_law.specs.Pieces.{Joiner}
use Rattle.rina_law.specs.Receiver.{Receiver, is_present, mark_after, mark_passed}
use Rattle.rina_conn.specs.declared.conn.Conn.{Conn}
use Rattle.rina_conn.specs.declared.form.Peer.{Peer}
use Rattle.rina_conn.specs.Sending.{IsNewSender}
use Rattle.rina_conn.specs.Waiting.{Waits, with_whole, begun}

-- nothing was sent or received, and no acknowledgement is planned
pub record IsNewConn (cube : Cube) (piece max : ℕ) (peer : Peer) (k : Conn) : Type 0 where
  pub cube_is : k.sending.form.cube ≡ cube
  pub piece_is : k.sending.form.piece ≡ piece
  pub peer_is : k.sending.form.peer ≡ peer
  pub sends : IsNewSender k.sending.form max k.sending
  pub receives : IsNew cube piece k.rx
  pub plan_is : k.plan ≡ record { a = cube.a; delta = delta_of cube; mark = None }
  pub none_waits : k.waiting ≡ record { room = 2 * cube.window; earlier = 0; firsts = [] }

-- a piece that was accepted, also where its SDU is broken, held, or a duplicate needs an acknowledgement
abbrev pub marks : Verdict → Bool
marks (Accept whole) = true
marks Hold = true
marks (Off (cause.Duplicate num)) = true
marks (Off (cause.Broken missing)) = true
marks (Off _) = false

abbrev pub PassesOn : ℕ → Option ℕ → Bool → Plan → Plan → Type 0
PassesOn now last_in true old new = TellsNote now last_in old new
PassesOn now last_in false old new = new ≡ old

-- a receiver that never had state had no last piece
abbrev pub HasNoLast : Receiver → Type 0
HasNoLast m = m.made ≡ false → m.last_in ≡ 0

-- the mark after a piece is the machine's
abbrev pub Marks : ℕ → Pdu → ℕ → Conn → Verdict → Conn → Type 0
Marks now pdu unpassed old result new =
    (c : Constants) (m : Receiver) (j : Joiner) (mark : Option ℕ) → Stands c now m j old.rx → IsFetched now old.rx → IsWelcome c (is_present c now m) m j (verdict_of c now unpassed m (piece_in pdu)) (piece_in pdu) → HasNoLast m → IsPlanOf c mark old.plan →
    IsPlanOf c (mark_after (verdict_of c now unpassed m (piece_in pdu)) c now m mark) new.plan

-- and so is the mark after an SDU was passed
abbrev pub Passes : ℕ → Conn → Conn → Type 0
Passes now old new = (c : Constants) (m : Receiver) (j : Joiner) (mark : Option ℕ) → Stands c now m j old.rx → HasNoLast m → IsPlanOf c mark old.plan → IsPlanOf c (mark_passed c now m mark) new.plan

-- The pieces that are given up

-- no state stands, and pieces of one are left
abbrev pub IsGone : ℕ → Conn → Bool → Type 0
IsGone now k true = (present_at now k.rx ≡ false) × (drops now k.rx ≢ [])
IsGone now k false = (present_at now k.rx ≡ false) → drops now k.rx ≡ []

-- all but what is given up is as before
pub record StandsStill (now : ℕ) (old new : Conn) : Type 0 where
  pub sending : new.sending ≡ old.sending
  pub plan : new.plan ≡ old.plan
  pub receiver : StandsAsBefore now old.rx new.rx
  pub waiting : new.waiting ≡ old.waiting
  pub whole : new.rx.join.whole ≡ old.rx.join.whole

-- The SDUs that wait to be passed

-- the first of those that are to be fetched is noted
abbrev pub notes_next : Conn → Conn
notes_next k = record k { waiting = with_whole (first_number k.rx.join.whole) k.waiting }

-- a piece that was accepted where no state stood begins one
abbrev pub is_accepted : Verdict → Bool
is_accepted (Accept whole) = true
is_accepted (Off (cause.Broken missing)) = true
is_accepted _ = false

abbrev pub waits_after : Bool → Verdict → ℕ → Waits → Waits
waits_after present told unpassed w = if not present && is_accepted told then begun unpassed w else w
