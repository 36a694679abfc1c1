-- What a session lets through, and what it is afterwards.
use Rattle.std.specs.Prelude.{◌≡◌, ℕ, Bool, true, false, not, ◌||◌, ◌&&◌, ◌==◌, nat_eq, List, Option, Some, None, Result, Ok, Err, if◌then◌else◌}
use Rattle.std.specs.List.{list_any}
use Rattle.indexmap.specs.IndexSet.{insert_key, remove_key}
use Rattle.rina_cdap.specs.declared.message.Message.{Message}
use Rattle.rina_cdap.specs.Messages.{is_response}
use Rattle.rina_session.specs.declared.session.State.{State}
use Rattle.rina_session.specs.declared.session.State.TheVariants.{Idle, Calling, Called, Connected}
use Rattle.rina_session.specs.declared.session.SessionError.{SessionError}
use Rattle.rina_session.specs.declared.session.SessionError.TheVariants.{Memory, WrongState, UnknownInvoke}

-- a session
pub record Talk : Type 0 where
  pub state : State
  pub waiting : List ℕ  -- the ids of the requests that were sent and wait, the oldest first

abbrev pub is_idle : State → Bool
is_idle Idle = true
is_idle _ = false

abbrev pub is_calling : State → Bool
is_calling Calling = true
is_calling _ = false

abbrev pub is_called : State → Bool
is_called Called = true
is_called _ = false

abbrev pub is_connected : State → Bool
is_connected Connected = true
is_connected _ = false

-- connect (0) where nothing is between the two, its response (1) where it was got, all others within a connection
unfoldable pub may_send : State → ℕ → Bool
may_send state op = if op == 0 then is_idle state else (if op == 1 then is_called state else is_connected state)

-- connect where nothing is between the two, its response where it was sent, all others within a connection
unfoldable pub may_get : State → ℕ → Bool
may_get state op = if op == 0 then is_idle state else (if op == 1 then is_calling state else is_connected state)

-- a connection is made by a response with result 0
abbrev pub answered : Option ℕ → State
answered None = Idle
answered (Some n) = if n == 0 then Connected else Idle

-- the state after a message, where connect leads to another one
unfoldable pub state_after : State → State → ℕ → Option ℕ → State
state_after calls state op outcome = if op == 0 then calls else (if op == 1 then answered outcome else (if op == 2 then Idle else state))

-- the ids that wait after a message was sent: that of a request, where it asks for a response, waits as well
unfoldable pub sent_waiting : List ℕ → ℕ → ℕ → List ℕ
sent_waiting ids op id = if is_response op || (id == 0) then ids else insert_key nat_eq ids id

-- the ids that wait after a message was got: that of a response waits no more
unfoldable pub got_waiting : List ℕ → ℕ → ℕ → List ℕ
got_waiting ids op id = if is_response op then remove_key (nat_eq id) ids else ids

-- a response other than connect's whose request does not wait
unfoldable pub is_unknown : List ℕ → ℕ → ℕ → Bool
is_unknown ids op id = (is_response op && not (op == 1)) && not (list_any (nat_eq id) ids)

-- the session after a message was sent, or its refusal
unfoldable pub sent : Talk → Message → Result Talk SessionError
sent t m =
    if may_send t.state m.operation
    then Ok (record { state = state_after Calling t.state m.operation m.result; waiting = sent_waiting t.waiting m.operation m.invoke })
    else Err (WrongState t.state)

-- the session after a message was got, or its refusal
unfoldable pub got : Talk → Message → Result Talk SessionError
got t m =
    if may_get t.state m.operation
    then (if is_unknown t.waiting m.operation m.invoke then Err (UnknownInvoke m.invoke)
    else Ok (record { state = state_after Called t.state m.operation m.result; waiting = got_waiting t.waiting m.operation m.invoke }))
    else Err (WrongState t.state)

-- a call did what is told of it; after a refusal, and where memory ran out, the session is as before
abbrev pub Steps : Result (Unit {0}) SessionError → Talk → Talk → Result Talk SessionError → Type 0
Steps (Ok _) old new told = told ≡ Ok new
Steps (Err Memory) old new told = new ≡ old
Steps (Err (WrongState state)) old new told = (told ≡ Err (WrongState state)) × (new ≡ old)
Steps (Err (UnknownInvoke id)) old new told = (told ≡ Err (UnknownInvoke id)) × (new ≡ old)
