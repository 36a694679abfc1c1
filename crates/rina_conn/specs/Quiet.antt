-- Until when nothing is due at a connection.
use Rattle.std.specs.Prelude.{◌≡◌, ℕ, ◌-◌, ◌^◌, ◌<◌, ◌⊎◌, true, false, ◌&&◌, ◌||◌, [], None, is_some}
use Rattle.rina_cube.specs.Cubes.{is_reliable}
use Rattle.rina_dtp.specs.Observed.{KeepsFrom}
use Rattle.rina_dtp.specs.Receiving.{kept_numbers, present_at}
use Rattle.rina_law.specs.Constants.{Constants}
use Rattle.rina_law.specs.Direction.{has_come}
use Rattle.rina_law.specs.Sender.{Sender, again_due, given_up}
use Rattle.rina_conn.specs.declared.conn.Conn.{Conn}
use Rattle.rina_conn.specs.declared.sending.Sending.{Sending}
use Rattle.rina_conn.specs.Clock.{TellsAck, plan_is_due}
use Rattle.rina_conn.specs.Sending.{IsSender, TellsAgain, TellsGivenUp}

-- before this tick no number is sent again or given up
pub record SendsNoneUntil (until : ℕ) (s : Sending) : Type 0 where
  pub again : (t : ℕ) → t < until → TellsAgain t s None
  pub given_up : (t : ℕ) → t < until → TellsGivenUp t s None

-- at this tick one is, unless it is the greatest u32
abbrev pub SendsFrom : ℕ → Sending → Type 0
SendsFrom tick s = (c : Constants) (m : Sender) → IsSender c m s → tick < 2 ^ 32 - 1 → (is_some (again_due c tick m) || is_some (given_up c tick m)) ≡ true

-- before this tick no acknowledgement is due, even if state stands
abbrev pub PlansNoneUntil : ℕ → Conn → Type 0
PlansNoneUntil until k = (t : ℕ) → t < until → plan_is_due t k ≡ false

-- at this tick the mark of one has come, unless it is the greatest u32
abbrev pub PlansFrom : ℕ → Conn → Type 0
PlansFrom tick k = tick < 2 ^ 32 - 1 → (is_reliable k.sending.form.cube.kind && has_come k.plan.mark tick) ≡ true

-- nothing is due at the connection at this tick: no number is given up or sent again, no acknowledgement is made, and no
-- piece is kept of a state that has ended
pub record IsIdleAt (t : ℕ) (k : Conn) : Type 0 where
  pub given_up : TellsGivenUp t k.sending None
  pub again : TellsAgain t k.sending None
  pub ack : TellsAck t k None
  pub kept : present_at t k.rx ≡ false → kept_numbers k.rx ≡ []

-- nothing is due at the connection before this tick, unless it is closed
abbrev pub IsQuietUntil : ℕ → Conn → Type 0
IsQuietUntil until k = k.rx.closed ≡ false → (t : ℕ) → t < until → IsIdleAt t k

-- at this tick a number is given up or sent again, the mark of an acknowledgement has come, or pieces are kept of a state
-- that has ended; or it is the greatest u32
abbrev pub IsDueFrom : ℕ → Conn → Type 0
IsDueFrom tick k = SendsFrom tick k.sending ⊎ (PlansFrom tick k ⊎ KeepsFrom tick k.rx)
