-- A clock step keeps the asks that wait, but for the one that is given up.
use Rattle.std.proofs.Common.{◌≡◌, ◌∙◌, ℕ, List, Some, None, Result, Ok, Err, refl, sym, ap, subst}
use Rattle.rina_iface.specs.Seen.{Seen}
use Rattle.rina_law.specs.Direction.{Direction}
use Rattle.rina_data.specs.declared.step.ClockStep.{ClockStep}
use Rattle.rina_data.specs.declared.step.ClockStep.TheVariants as step
use Rattle.rina_data.specs.declared.step.StepError.{StepError}
use Rattle.rina_data.specs.declared.step.StepError.TheVariants as why
use Rattle.rina_flows.specs.declared.due.Item.{Item}
use Rattle.rina_dif.specs.declared.dif.Dif.{Dif}
use Rattle.rina_dif.specs.Clocking.{StepsFlowHere, item_of}
use Rattle.rina_dif.specs.WaitingAsks.{KeepsStep}

never_told : (item : Item) → None ≡ Some item → ⊥
never_told item e = absurd cc

-- what a link does gives up no ask
pub told_keeps : (done : ClockStep) (item : Item) (d : Dif) (node : ℕ) (d' : Dif) → item_of done ≡ Some item → d'.asks ≡ d.asks → KeepsStep (Ok done) d node d'
told_keeps step.Idle item d node d' told same = same
told_keeps (step.Gone cep) item d node d' told same = same
told_keeps (step.GaveUp num) item d node d' told same = same
told_keeps (step.Ack cep) item d node d' told same = same
told_keeps (step.Again num) item d node d' told same = same
told_keeps (step.LinkLost link) item d node d' told same = same
told_keeps (step.LinkNew link) item d node d' told same = same
told_keeps (step.Timeout port) item d node d' told same = absurd (never_told item told)
told_keeps (step.Message link) item d node d' told same = same

-- nor does what a flow does
pub flow_keeps : (d : Dif) (lines : List Direction) (below : Seen) (node : ℕ) (r : Result ClockStep StepError) (d' : Dif) → StepsFlowHere d lines below node r d' → d'.asks ≡ d.asks → KeepsStep r d node d'
flow_keeps d lines below node (Ok step.Idle) d' s same = same
flow_keeps d lines below node (Ok (step.Gone cep)) d' s same = same
flow_keeps d lines below node (Ok (step.GaveUp num)) d' s same = same
flow_keeps d lines below node (Ok (step.Ack cep)) d' s same = same
flow_keeps d lines below node (Ok (step.Again num)) d' s same = same
flow_keeps d lines below node (Ok (step.LinkLost link)) d' s same = same
flow_keeps d lines below node (Ok (step.LinkNew link)) d' s same = same
flow_keeps d lines below node (Ok (step.Timeout port)) d' s same = absurd s.does
flow_keeps d lines below node (Ok (step.Message link)) d' s same = same
flow_keeps d lines below node (Err why.Memory) d' s same = same
flow_keeps d lines below node (Err why.NoIpc) d' s same = absurd s
flow_keeps d lines below node (Err why.NoLink) d' s same = absurd s
flow_keeps d lines below node (Err (why.CountSpent need left)) d' s same = absurd s

-- an allocation failed
pub none_keeps : (d : Dif) (node : ℕ) (r : Result ClockStep StepError) (e : StepError) (d' : Dif) → e ≡ why.Memory → r ≡ Err e → d'.asks ≡ d.asks → KeepsStep r d node d'
none_keeps d node r e d' is err same = subst (λ (v : Result ClockStep StepError). KeepsStep v d node d') (sym (err ∙ ap (λ (z : StepError). Err z) is)) same

refused_keeps : (d : Dif) (node : ℕ) (e : StepError) → KeepsStep (Err e) d node d
refused_keeps d node why.Memory = refl
refused_keeps d node why.NoIpc = refl
refused_keeps d node why.NoLink = refl
refused_keeps d node (why.CountSpent need left) = refl

-- it is refused, and nothing changed
pub same_keeps : (d : Dif) (node : ℕ) (r : Result ClockStep StepError) (e : StepError) → r ≡ Err e → KeepsStep r d node d
same_keeps d node r e err = subst (λ (v : Result ClockStep StepError). KeepsStep v d node d) (sym err) (refused_keeps d node e)
