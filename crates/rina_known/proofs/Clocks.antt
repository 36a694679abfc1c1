-- What is due is done: a member that loses a link makes its link state alone.
use Rattle.std.proofs.Common.{◌≡◌, inl, inr, ℕ, List, Option, Some, None, Result, Ok, Err, refl, sym, subst}
use Rattle.rina_newest.specs.declared.item.Item.{Item}
use Rattle.rina_agent.specs.declared.agent.Agent.{Agent}
use Rattle.rina_data.specs.declared.step.ClockStep.{ClockStep}
use Rattle.rina_data.specs.declared.step.ClockStep.TheVariants as step
use Rattle.rina_data.specs.declared.step.StepError.{StepError}
use Rattle.rina_data.specs.declared.step.StepError.TheVariants as errors
use Rattle.rina_iface.specs.Seen.{Seen}
use Rattle.rina_member.specs.declared.management.Management.{Management}
use Rattle.rina_member.specs.Managements.{claimed, with_agent, with_sent, without_flows}
use Rattle.rina_dif.specs.declared.dif.Dif.{Dif}
use Rattle.rina_dif.specs.Changing.{LosesManaged, ended_with}
use Rattle.rina_dif.specs.Elsewhere.{home_of}
use Rattle.rina_dif.specs.FlowEnds.{ManagesStep}
use Rattle.rina_asked.specs.Calls.{ClockKeeps}
use Rattle.rina_asked.proofs.Clocks.{clock_way}
use Rattle.rina_asked.proofs.Keeps.{stays}
use Rattle.rina_asked.proofs.Waiting.{without_agent}
use Rattle.rina_known.specs.Entries.{AllAre}
use Rattle.rina_known.proofs.Agents.{IsGood, OwnAre, lost_good, sent_good}
use Rattle.rina_known.proofs.Calls.{all_good, gives_up_good}
use Rattle.rina_known.proofs.Keeping.{moves}
use Rattle.rina_known.proofs.Managements.{good_changed, good_same, good_set}

module _ (G : Item → Type 0) (own : OwnAre G) where
  same : (d : Dif) (new : List Management) → new ≡ d.managements → all_good G own d.managements → all_good G own new
  same d new = good_same G own d.managements new

  lost_managed : (d : Dif) (below : Seen) (at node number : ℕ) (new : List Management) → LosesManaged d below at node number new → all_good G own d.managements → all_good G own new
  lost_managed d below at node number new l good =
      let ceps = ended_with l.last node d.flows in
      subst (all_good G own) (sym l.are) (good_set G own d.managements at l.management (without_flows l.after ceps) l.is_management (λ g.
      subst (λ (a : Agent). IsGood G a) (sym (without_agent l.after ceps)) (lost_good G own l.management.agent l.after.agent d.clock number l.loses.loses g)) good)

  gave_up : (d : Dif) (below : Seen) (at node : ℕ) (new : List Management) (num : _) → ManagesStep (Ok (step.GaveUp num)) (Some at) d below node new → all_good G own d.managements → all_good G own new
  gave_up d below at node new num (inl g) = gives_up_good G own d at g.1.place new g.1.gives
  gave_up d below at node new num (inr none) = same d new none.1

  claims_good : (m : Management) (number : ℕ) → IsGood G m.agent → IsGood G (claimed m.agent number)
  claims_good m number g = record { kept = g.kept; waits = g.waits }

  step_good : (result : Result ClockStep StepError) (o : Option ℕ) (d : Dif) (below : Seen) (node : ℕ) (new : List Management) → (result ≡ Err errors.Memory → ⊥) → ManagesStep result o d below node new → all_good G own d.managements → all_good G own new
  step_good (Ok (step.LinkLost number)) (Some at) d below node new some m good = lost_managed d below at node number new m good
  step_good (Ok (step.LinkNew number)) (Some at) d below node new some m good = subst (all_good G own) (sym m) (good_changed G own at (λ x. with_agent x (claimed x.agent number)) d.managements (λ x g. claims_good x number g) good)
  step_good (Ok (step.GaveUp num)) (Some at) d below node new some m good = gave_up d below at node new num m good
  step_good (Ok (step.Message number)) (Some at) d below node new some m good = subst (all_good G own) (sym m) (good_changed G own at (λ x. with_sent x number) d.managements (λ x g. sent_good G own x.agent number g) good)
  step_good (Ok step.Idle) (Some at) d below node new some m good = same d new m good
  step_good (Ok (step.Gone cep)) (Some at) d below node new some m good = same d new m good
  step_good (Ok (step.Ack cep)) (Some at) d below node new some m good = same d new m good
  step_good (Ok (step.Again num)) (Some at) d below node new some m good = same d new m good
  step_good (Ok (step.Timeout port)) (Some at) d below node new some m good = same d new m good
  step_good (Err errors.Memory) (Some at) d below node new some m good = absurd (some refl)
  step_good (Err (errors.CountSpent need left)) (Some at) d below node new some m good = same d new m good
  step_good (Err errors.NoIpc) (Some at) d below node new some m good = same d new m good
  step_good (Err errors.NoLink) (Some at) d below node new some m good = same d new m good
  step_good (Ok (step.LinkLost number)) None d below node new some m good = same d new m good
  step_good (Ok (step.LinkNew number)) None d below node new some m good = same d new m good
  step_good (Ok (step.GaveUp num)) None d below node new some m good = same d new m good
  step_good (Ok (step.Message number)) None d below node new some m good = same d new m good
  step_good (Ok step.Idle) None d below node new some m good = same d new m good
  step_good (Ok (step.Gone cep)) None d below node new some m good = same d new m good
  step_good (Ok (step.Ack cep)) None d below node new some m good = same d new m good
  step_good (Ok (step.Again num)) None d below node new some m good = same d new m good
  step_good (Ok (step.Timeout port)) None d below node new some m good = same d new m good
  step_good (Err errors.Memory) None d below node new some m good = absurd (some refl)
  step_good (Err (errors.CountSpent need left)) None d below node new some m good = same d new m good
  step_good (Err errors.NoIpc) None d below node new some m good = same d new m good
  step_good (Err errors.NoLink) None d below node new some m good = same d new m good

  pub clock_keeps : ClockKeeps (AllAre G)
  clock_keeps d d' below below' node result st does ok goes notes = stays (AllAre G) d d' result (Err errors.Memory) notes (λ some.
      (let c = does st.0 st.1 in
      moves G own d d' (step_good result (home_of d node) d below node d'.managements some c.managed) (clock_way d st.0 below node result d' c.lines' below' st.1 some ok c.does)))
