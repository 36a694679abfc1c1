-- What a clock step does for a connection.
use Rattle.std.specs.Prelude.{◌≡◌, ◌≢◌, ℕ, ◌-◌, Bool, true, false, ◌&&◌, [], slice_get, Option, Some, None, if◌then◌else◌, ⊤}
use Rattle.std.specs.Borrow.{follows_so, MutBor, Fml}
use mathlib.Core.Option.{none}
use Rattle.rina_cube.specs.Cubes.{is_reliable}
use Rattle.rina_dtcp.specs.Plans.{is_young, without}
use Rattle.rina_dtp.specs.Observed.{from_kept}
use Rattle.rina_law.specs.Constants.{Constants}
use Rattle.rina_law.specs.Direction.{Direction, has_come, is_ack_due, right_of}
use Rattle.rina_law.specs.Receiver.{next_of}
use Rattle.rina_law.specs.Sender.{Ack}
use Rattle.rina_conn.specs.declared.conn.Conn.{Conn}
use Rattle.rina_conn.specs.declared.conn.ConnDue.{ConnDue}
use Rattle.rina_conn.specs.declared.conn.DueAck.{DueAck}
use Rattle.rina_conn.specs.declared.conn.ConnDue.TheVariants as due
use Rattle.rina_conn.specs.Conns.{IsGone}
use Rattle.rina_conn.specs.Sending.{TellsGivenUp, TellsAgain, SendsAgain}
use Rattle.rina_conn.specs.Standing.{IsReceiver}
use Rattle.rina_conn.specs.contracts.conn.Conn as conn

abbrev pub first_of : Option ℕ → ℕ → ℕ
first_of (Some n) otherwise = n
first_of None otherwise = otherwise

-- What is kept of an acknowledgement

-- on a reliable flow its mark has come, and `delta` has not gone by since the last piece that counted
abbrev pub plan_is_due : ℕ → Conn → Bool
plan_is_due now k = is_reliable k.sending.form.cube.kind && (k.rx.made && (has_come k.plan.mark now && is_young now k.rx.last_in k.plan.delta))

-- the first number that the application has still to take: of an SDU that waits, else of what the joiner holds, else the next one
abbrev pub first_open : ℕ → Conn → ℕ
first_open next k = first_of (slice_get k.waiting.firsts 0) (first_of (from_kept k.rx.join.joining.held) next)

-- the acknowledgement that the machine makes now
abbrev pub ack_due : Constants → Direction → Option Ack
ack_due c d = if is_ack_due c d then Some (record { ack = next_of d.line.receiver - 1; right = right_of c d }) else None

-- as it is told
abbrev pub ack_of : DueAck → Ack
ack_of due = record { ack = due.ack; right = due.right }

abbrev pub TellsAck : ℕ → Conn → Option Ack → Type 0
TellsAck now k told = (c : Constants) (d : Direction) → d.line.clock ≡ now → IsReceiver c d k → k.rx.join.whole ≡ [] → told ≡ ack_due c d

-- Which answers each item has

abbrev pub AnswersGone : ℕ → Conn → ConnDue → Type 0
AnswersGone now k due.Gone = IsGone now k true
AnswersGone now k due.Idle = IsGone now k false
AnswersGone now k _ = ⊥

abbrev pub AnswersGaveUp : ℕ → Conn → ConnDue → Type 0
AnswersGaveUp now k (due.GaveUp told) = TellsGivenUp now k.sending (Some told)
AnswersGaveUp now k due.Idle = TellsGivenUp now k.sending None
AnswersGaveUp now k _ = ⊥

abbrev pub AnswersAck : ℕ → Conn → ConnDue → Type 0
AnswersAck now k (due.Ack ack right) = TellsAck now k (Some (record { ack = ack; right = right }))
AnswersAck now k due.Idle = TellsAck now k None
AnswersAck now k _ = ⊥

abbrev pub AnswersAgain : ℕ → Conn → ConnDue → Type 0
AnswersAgain now k (due.Again pdu) = TellsAgain now k.sending (Some pdu.now)
AnswersAgain now k due.Idle = TellsAgain now k.sending None
AnswersAgain now k _ = ⊥

-- 3: pieces that an ended state held; 4: a number that is given up; 6: an acknowledgement; 7: a number that is sent again
pub record IsClockDue (now item : ℕ) (k : Conn) (answer : ConnDue) : Type 0 where
  pub gone : item ≡ 3 → AnswersGone now k answer
  pub gave_up : item ≡ 4 → AnswersGaveUp now k answer
  pub ack : item ≡ 6 → AnswersAck now k answer
  pub again : item ≡ 7 → AnswersAgain now k answer
  pub other : item ≢ 3 → item ≢ 4 → item ≢ 6 → item ≢ 7 → answer ≡ due.Idle

-- What the connection is after it

abbrev pub IsAfter : ℕ → Conn → ConnDue → Conn → Type 0
IsAfter now old due.Idle new = new ≡ old
IsAfter now old due.Gone new = new ≡ old
IsAfter now old (due.GaveUp told) new = new ≡ old
IsAfter now old (due.Ack ack right) new = new ≡ record old { plan = without old.plan }
IsAfter now old (due.Again pdu) new = (new ≡ record old { sending = new.sending }) × SendsAgain now old.sending new.sending

-- once the PDU that it lent is given back
abbrev pub LendsDue : ℕ → MutBor Conn → ConnDue → Fml
LendsDue now k answer = follows_so conn.the_row conn.the_row k.ghost_name none (λ _ _. ⊤) (λ last. IsAfter now k.now answer last)
