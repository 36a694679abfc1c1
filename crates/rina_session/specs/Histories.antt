-- What a session is, by the messages that were sent and got.
use Rattle.std.specs.Prelude.{◌≡◌, ℕ, Bool, true, false, not, ◌&&◌, ◌==◌, List, [], ◌∷◌, ◌++◌, Option, Some, None, Result, Ok, if◌then◌else◌}
use Rattle.std.specs.List.{list_any}
use Rattle.rina_cdap.specs.declared.message.Message.{Message}
use Rattle.rina_cdap.specs.Messages.{is_response}
use Rattle.rina_session.specs.declared.session.State.TheVariants.{Idle}
use Rattle.rina_session.specs.declared.session.SessionError.{SessionError}
use Rattle.rina_session.specs.Sessions.{Talk, sent, got}

-- a message that was sent or got
pub record Step : Type 0 where
  pub is_sent : Bool
  pub message : Message

-- the session after one message more, or its refusal
abbrev pub stepped : Talk → Bool → Message → Result Talk SessionError
stepped t is_sent m = if is_sent then sent t m else got t m

-- what a new session is after messages that it let through, the newest first
abbrev pub IsAfter : List Step → Talk → Type 0
IsAfter [] t = t ≡ record { state = Idle; waiting = [] }
IsAfter (s ∷ before) t = (u : Talk) × IsAfter before u × (stepped u s.is_sent s.message ≡ Ok t)

-- one of the messages passes the first test, and no newer one passes the second
pub record Since (p q : Step → Bool) (steps : List Step) : Type 0 where
  pub newer : List Step
  pub one : Step
  pub older : List Step
  pub parts : steps ≡ newer ++ one ∷ older
  pub passes : p one ≡ true
  pub none : list_any q newer ≡ false

-- the newest message passes a test
pub record IsNewest (p : Step → Bool) (steps : List Step) : Type 0 where
  pub one : Step
  pub older : List Step
  pub parts : steps ≡ one ∷ older
  pub passes : p one ≡ true

abbrev pub is_zero : Option ℕ → Bool
is_zero None = false
is_zero (Some n) = n == 0

-- connect was sent, or was got
abbrev pub calls : Step → Bool
calls s = s.is_sent && (s.message.operation == 0)

abbrev pub is_call : Step → Bool
is_call s = not s.is_sent && (s.message.operation == 0)

-- a response to connect with result 0, and a release, either way
abbrev pub opens : Step → Bool
opens s = (s.message.operation == 1) && is_zero s.message.result

abbrev pub closes : Step → Bool
closes s = s.message.operation == 2

-- a request with this id was sent, which asks for a response
abbrev pub asks : ℕ → Step → Bool
asks id s = s.is_sent && not (is_response s.message.operation) && (s.message.invoke == id) && not (id == 0)

-- a response with this id was got
abbrev pub answers : ℕ → Step → Bool
answers id s = not s.is_sent && is_response s.message.operation && (s.message.invoke == id)
