-- Runs that show what is not promised of deletes.
use Rattle.std.specs.Prelude.{◌≡◌, ℕ, ◌+◌, true, List, [], ◌∷◌, ◌++◌, Some, None}
use Rattle.rina_alloc.specs.declared.answer.FlowAnswer.TheVariants as answers
use Rattle.rina_alloc.specs.declared.event.Pair.{Pair}
use Rattle.rina_alloc.specs.declared.event.AskEvent.TheVariants as events
use Rattle.rina_alloc.specs.declared.message.FlowAsk.{FlowAsk}
use Rattle.rina_rest.specs.Flows.{Endpoint, Flow, Four}
use Rattle.rina_rest.specs.Ledger.{asked_flow, made, told_flow, ended_asker, ended_far}
use Rattle.rina_asks.specs.Allocation.{FarSide, Request, nothing, IsAt, AskRow, Wait, Rules, Allocate, Accept, Bind, GiveBack, TimeOut, FreeAsker, FreeFar, CloseFar, Drop, new_request, asker_heard, far_heard, new_far_side, with_far_side, heard, happened, May, IsRun, after}
use Rattle.rina_asks.specs.Laws.{Closes}

-- The IPC process with address 1 asks the one with address 2 for a flow of cube 3 from application `a` to application `b`.
-- The asker draws the CEP-id 7 for it, and the far end 5. Ids rest for 6 ticks

abbrev pub six : ℕ → ℕ
six cube = 6

abbrev pub ask_at : ℕ → ℕ → FlowAsk
ask_at tick count = record { flow = record { src = 1; tick = tick; count = count }; cube = 3; scep = 7; destination = 98 ∷ []; source = 97 ∷ [] }

abbrev pub flow_at : ℕ → Flow
flow_at now = asked_flow now 6 2 1 7

abbrev pub end_of_2 : Endpoint
end_of_2 = record { addr = 2; cep = 5; ended = None }

abbrev pub far_side_at : ℕ → ℕ → FarSide
far_side_at tick count = new_far_side 1 (ask_at tick count) 5

-- the request as it was sent, once the far end is made, and once it is bound
abbrev pub asking_at : ℕ → ℕ → Request
asking_at tick count = new_request (count + 1) (ask_at tick count)

abbrev pub accepted_at : ℕ → ℕ → Request
accepted_at tick count = with_far_side (asking_at tick count) (far_side_at tick count)

abbrev pub bound_at : ℕ → ℕ → Request
bound_at tick count = asker_heard (accepted_at tick count) (heard (answers.Yes 5 7))

abbrev pub made_at : ℕ → Flow
made_at now = made (flow_at now) 5

abbrev pub told_at : ℕ → Flow
told_at now = told_flow (made_at now)

-- both applications are registered and allowed as they must be
abbrev pub open_rules : AskRow
open_rules = Rules (record { addr = 2; app = 98 ∷ [] } ∷ []) (record { addr = 2; app = 97 ∷ [] } ∷ [])

-- the i-th flow is asked for, and bound at both ends. The message is the newest one
abbrev pub allocated : ℕ → ℕ → List AskRow
allocated i now = Allocate 2 1 (i + 1) (ask_at now i) ∷ Accept 0 i (flow_at now) (asking_at now i) 2 1 (i + 1) (ask_at now i) 5 ∷ Bind 0 i (made_at now) (accepted_at now i) 1 2 (i + 1) 5 7 ∷ []

-- the two CEP-ids, as the asker and as the far end has them
abbrev pub asker_pair : Pair
asker_pair = record { far = 5; own = 7 }

abbrev pub far_pair : Pair
far_pair = record { far = 7; own = 5 }

-- A delete that closes an end of another flow

-- After these rows a delete that was made for flow 0 comes to the far end of flow 1, which was bound at both ends, and closes
-- it. The asker's end of flow 1 stands after that, bound as it was, and no message is on its way that would tell it
pub record ClosesAnother (rows : List AskRow) (row : AskRow) (g : Flow) (b : Request) (far : Endpoint) (e : FarSide) (four : Four) : Type 0 where
  pub run : IsRun (nothing six) rows
  pub may : May (after (nothing six) rows) row
  pub closes : Closes row 0 1 four
  pub at : IsAt (after (nothing six) rows) 1 g b
  pub known : g.far ≡ Some far
  pub far_stands : far.ended ≡ None
  pub far_bound : e.asked.bound ≡ Some far_pair
  pub closed : IsAt (happened (after (nothing six) rows) row) 1 (ended_far 6 g far) (far_heard b e events.Delete)
  pub asker_stands : g.asker.ended ≡ None
  pub asker_bound : b.asking.bound ≡ Some asker_pair
  pub untold : (happened (after (nothing six) rows) row).messages ≡ []

-- Both ends of flow 0 are freed at tick 0. The delete of the asker stays on its way, and that of the far end is lost. At tick 6
-- both ids have rested, and flow 1 draws them again

abbrev pub freed_0 : Request
freed_0 = asker_heard (bound_at 0 0) events.Ended

abbrev pub old_delete_rows : List AskRow
old_delete_rows = open_rules ∷ allocated 0 0 ++ (FreeAsker 0 (told_at 0) (bound_at 0 0) asker_pair ∷ FreeFar 0 (ended_asker 0 (told_at 0)) freed_0 end_of_2 (far_side_at 0 0) far_pair ∷ Drop 0 ∷ Wait 6 ∷ allocated 1 6)

abbrev pub close_by_old_delete : AskRow
close_by_old_delete = CloseFar 0 0 1 (told_at 6) (bound_at 6 1) end_of_2 (far_side_at 6 1) 2 1 5 7

abbrev pub OldDeleteClosesAnother : Type 0
OldDeleteClosesAnother = ClosesAnother old_delete_rows close_by_old_delete (told_at 6) (bound_at 6 1) end_of_2 (far_side_at 6 1) (record { src = 1; scep = 7; dst = 2; dcep = 5 })

-- No delete need be old for it. The asker of flow 0 runs out of time and its far end is freed, both at tick 0, and the answer
-- stays on its way. Flow 1 draws both ids again at tick 6. Then the old answer comes, a delete goes back for it, and
-- that comes at the same tick

abbrev pub timed_out_0 : Request
timed_out_0 = asker_heard (accepted_at 0 0) (events.Clock true)

abbrev pub left_0 : Request
left_0 = far_heard timed_out_0 (far_side_at 0 0) events.Ended

abbrev pub over_0 : Flow
over_0 = ended_far 0 (ended_asker 0 (made_at 0)) end_of_2

abbrev pub old_answer_rows : List AskRow
old_answer_rows = open_rules ∷ Allocate 2 1 1 (ask_at 0 0) ∷ Accept 0 0 (flow_at 0) (asking_at 0 0) 2 1 1 (ask_at 0 0) 5 ∷ TimeOut 0 (made_at 0) (accepted_at 0 0) ∷ FreeFar 0 (ended_asker 0 (made_at 0)) timed_out_0 end_of_2 (far_side_at 0 0) far_pair ∷ Drop 0 ∷ Wait 6 ∷
    allocated 1 6 ++ (GiveBack 0 0 over_0 left_0 1 2 1 5 7 ∷ [])

abbrev pub OldAnswerClosesAnother : Type 0
OldAnswerClosesAnother = ClosesAnother old_answer_rows close_by_old_delete (told_at 6) (bound_at 6 1) end_of_2 (far_side_at 6 1) (record { src = 1; scep = 7; dst = 2; dcep = 5 })

-- A delete that comes before the answer of its own flow finds an asker that waits, and nothing to close. Then the answer binds
-- the asker: its far end has ended, and nothing is on its way that would tell it

abbrev pub far_freed : Request
far_freed = far_heard (accepted_at 0 0) (far_side_at 0 0) events.Ended

abbrev pub early_delete_rows : List AskRow
early_delete_rows = open_rules ∷ Allocate 2 1 1 (ask_at 0 0) ∷ Accept 0 0 (flow_at 0) (asking_at 0 0) 2 1 1 (ask_at 0 0) 5 ∷ FreeFar 0 (made_at 0) (accepted_at 0 0) end_of_2 (far_side_at 0 0) far_pair ∷ Drop 0 ∷ Bind 0 0 (ended_far 0 (made_at 0) end_of_2) far_freed 1 2 1 5 7 ∷ []

pub record IsBoundToNone (rows : List AskRow) (f : Flow) (a : Request) (pair : Pair) : Type 0 where
  pub run : IsRun (nothing six) rows
  pub at : IsAt (after (nothing six) rows) 0 f a
  pub bound : a.asking.bound ≡ Some pair
  pub far : Endpoint
  pub known : f.far ≡ Some far
  pub t : ℕ
  pub ended : far.ended ≡ Some t
  pub quiet : (after (nothing six) rows).messages ≡ []

abbrev pub EarlyDeleteIsLost : Type 0
EarlyDeleteIsLost = IsBoundToNone early_delete_rows (told_flow (ended_far 0 (made_at 0) end_of_2)) (asker_heard far_freed (heard (answers.Yes 5 7))) asker_pair
