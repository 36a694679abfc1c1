-- Single steps of a DIF, as a line does them.
use Rattle.std.proofs.Common.{◌≡◌, ◌≢◌, ℕ, true, List, Option, Some, Result, Ok, Err, IfOk, OnErr, refl, subst, inr}
use Rattle.rina_base.specs.declared.memory.Memory.{Memory}
use Rattle.rina_data.specs.declared.step.InStep.{InStep}
use Rattle.rina_data.specs.declared.step.OutStep.{OutStep}
use Rattle.rina_data.specs.declared.step.StepError.{StepError}
use Rattle.rina_data.specs.declared.step.StepError.TheVariants.{Memory as NoMemory}
use Rattle.rina_dif.specs.declared.cdap.CdapCallError.{CdapCallError}
use Rattle.rina_dif.specs.declared.cdap.CdapCallError.TheVariants as calls
use Rattle.rina_policy.specs.declared.policy.Head.{Head}
use Rattle.rina_policy.specs.Slots.{Slot}
use Rattle.rina_report.specs.declared.answer.Answer.{Answer}
use Rattle.rina_report.specs.declared.answer.Answer.TheVariants as answers
use Rattle.rina_stack.specs.declared.plan.Plan.{Plan}
use Rattle.rina_tower.specs.declared.tower.Tower.{Tower}
use Rattle.rina_tower.specs.Cdap.{AsksAt}
use Rattle.rina_tower.specs.Rounds.{Anything}
use Rattle.rina_tower.specs.Steps.{InSteps, OutSteps}
use Rattle.rina_tower.proofs.Answering.{any_place}
use Rattle.rina_notes.specs.declared.site.Site.{Site}
use Rattle.rina_notes.specs.Copying.{copies_in, copies_out}
use Rattle.rina_words.specs.declared.run.Run.{Run}
use Rattle.rina_words.specs.Step.{CallsCdap, CallsIn, CallsOut, link_of, stage}
use Rattle.rina_words.specs.Wanting.{WantsToLetOut, WantsToTakeIn}
use Rattle.rina_notes.specs.StepTold.{cdap_told, in_told, out_told, step_told}
use Rattle.rina_notes.specs.Told.{answer_told}

abbrev moved : Run → Tower → Run
moved w t = record { tower = t; labels = w.labels }

-- a step that takes from a link
pub calls_in : (plan : Plan) (link n : ℕ) (w : Run) (site : Site) (result : Result InStep StepError) (t : Tower) (r : Result (Option Answer) Memory) → n ≡ link_of link → result ≢ Err NoMemory → InSteps site.rank site.fac site.node n result w.tower t → IfOk r (λ says. says ≡ answer_told (in_told plan site.rank) step_told result) → IfOk r (λ says. CallsIn plan link w site says (moved w t))
calls_in plan link n w site result t (Err e) is memory does told = tt
calls_in plan link n w site result t (Ok says) is memory does told = record { result = result; memory = memory; does = subst (λ (k : ℕ). InSteps site.rank site.fac site.node k result w.tower t) is does; labels = refl; told = told }

-- where telling it wants memory
pub wants_in : (plan : Plan) (link n : ℕ) (w : Run) (site : Site) (step : InStep) (t : Tower) (r : Result (Option Answer) Memory) → n ≡ link_of link → InSteps site.rank site.fac site.node n (Ok step) w.tower t → OnErr r (copies_in plan site.rank step ≡ true) → OnErr r (WantsToTakeIn plan link w (moved w t) site)
wants_in plan link n w site step t (Ok says) is does copied = tt
wants_in plan link n w site step t (Err e) is does copied = inr (step, subst (λ (k : ℕ). InSteps site.rank site.fac site.node k (Ok step) w.tower t) is does, copied)

-- a step that gives to a link
pub calls_out : (may : List ℕ → ℕ → List Head → ℕ → Type 0) (plan : Plan) (link n : ℕ) (w : Run) (slots slots' : List Slot) (site : Site) (result : Result OutStep StepError) (t : Tower) (r : Result (Option Answer) Memory) → n ≡ link_of link → result ≢ Err NoMemory → OutSteps may slots slots' site.rank site.fac site.node n result w.tower t → IfOk r (λ says. says ≡ answer_told (out_told plan site.rank) step_told result) → IfOk r (λ says. CallsOut plan link (stage w slots) site says (stage (moved w t) slots'))
calls_out may plan link n w slots slots' site result t (Err e) is memory does told = tt
calls_out may plan link n w slots slots' site result t (Ok says) is memory does told = record { result = result; memory = memory; does = subst (λ (k : ℕ). OutSteps Anything slots slots' site.rank site.fac site.node k result w.tower t) is (any_place may slots slots' site.rank site.fac site.node n result w.tower t does); labels = refl; told = told }

pub wants_out : (may : List ℕ → ℕ → List Head → ℕ → Type 0) (plan : Plan) (link n : ℕ) (w : Run) (slots slots' : List Slot) (site : Site) (step : OutStep) (t : Tower) (r : Result (Option Answer) Memory) → n ≡ link_of link → OutSteps may slots slots' site.rank site.fac site.node n (Ok step) w.tower t → OnErr r (copies_out plan site.rank step ≡ true) → OnErr r (WantsToLetOut plan link (stage w slots) (stage (moved w t) slots') site)
wants_out may plan link n w slots slots' site step t (Ok says) is does copied = tt
wants_out may plan link n w slots slots' site step t (Err e) is does copied = inr (step, subst (λ (k : ℕ). OutSteps Anything slots slots' site.rank site.fac site.node k (Ok step) w.tower t) is (any_place may slots slots' site.rank site.fac site.node n (Ok step) w.tower t does), copied)

-- bytes for an IPC process
pub calls_cdap : (bytes : List ℕ) (w : Run) (site : Site) (result : Result (List ℕ) CdapCallError) (t : Tower) (r : Result (Option Answer) Memory) → result ≢ Err calls.Memory → AsksAt site.rank site.fac site.node bytes result w.tower t → IfOk r (λ says. says ≡ answer_told (λ answer. Some (answers.Cdap answer)) cdap_told result) → IfOk r (λ says. CallsCdap bytes w site says (moved w t))
calls_cdap bytes w site result t (Err e) memory does told = tt
calls_cdap bytes w site result t (Ok says) memory does told = record { result = result; memory = memory; does = does; labels = refl; told = told }
