-- An allocated end of a flow has a CEP-id above 0, which is that of management.
use Rattle.std.proofs.Common.{◌≡◌, ◌≢◌, ◌∙◌, ℕ, List, slice_get, Option, Some, None, Result, Ok, Err, sym, subst, arith}
use Rattle.std.proofs.lemmas.Option.{slice_get_within}
use Rattle.rina_ids.specs.Ids.{IsInUse}
use Rattle.rina_iface.specs.declared.ends.End.{End}
use Rattle.rina_iface.specs.declared.state.PortState.{PortState}
use Rattle.rina_iface.specs.declared.state.PortState.TheVariants.{Allocated}
use Rattle.rina_iface.specs.Journal.{At}
use Rattle.rina_iface.specs.Seen.{Seen}
use Rattle.rina_law.specs.Direction.{Direction}
use Rattle.rina_rest.specs.Drawn.{IsKept}
use Rattle.rina_data.specs.declared.step.ClockStep.{ClockStep}
use Rattle.rina_data.specs.declared.step.ClockStep.TheVariants as step
use Rattle.rina_data.specs.declared.step.StepError.{StepError}
use Rattle.rina_data.proofs.Finding.{there}
use Rattle.rina_dif_law.specs.Ids.{Ids}
use Rattle.rina_dif_law.specs.Places.{IsUp}
use Rattle.rina_dif_law.specs.Standing.{IsConn}
use Rattle.rina_flows.specs.Tied.{conns_of}
use Rattle.rina_dif.specs.declared.dif.Dif.{Dif}
use Rattle.rina_dif.specs.Clocking.{StepsFlowHere}
use Rattle.rina_dif.specs.Holding.{Holds}
use Rattle.rina_dif.specs.Shown.{seen_of}

-- its id is in use at its IPC process, which draws ids from 1 on
pub flow_cep : (d : Dif) (lines : List Direction) (below : Seen) (at cep : ℕ) (e : End) (c : Ids) → Holds d lines below → At d.flows.journal.ends at e → slice_get (conns_of d.flows.conns) at ≡ Some c → e.state ≡ Allocated → cep ≡ c.scep → cep ≢ 0
flow_cep d lines below at cep e c h is_end are_ids allocated cep_is = λ zero.
    let own = h.standing.own in
    let conn : IsConn (seen_of d).ends (seen_of d).conns at e c = record { end = is_end; ids_are = are_ids } in
    let place = there own.places at (let alike = own.entered.places_alike in let within = slice_get_within (seen_of d).ends at e is_end in omega (arith, alike, within)) in
    let entered = own.entered.each at e c place.0 conn place.1 in
    let home = h.numbered.addressed at e c conn in
    let its = there (seen_of d).ids home.place (let aligned = h.numbered.drawn.aligned in let within = slice_get_within (seen_of d).config.members home.place home.member home.stands in omega (arith, aligned, within)) in
    let kept = own.kept home.place home.member its.0 home.stands its.1 place.0.flow entered.flow place.0.side entered.end.point entered.stands entered.end.is (sym entered.end.own ∙ home.addr) in
    let stands : entered.end.point.ended ≡ None = entered.end.up (subst (λ (z : PortState). IsUp z) (sym allocated) tt) in
    let used : IsInUse its.0.1 entered.end.point.cep = subst (λ (o : Option ℕ). IsKept entered.flow.rest (seen_of d).clock its.0.1 entered.end.point.cep o) stands kept in
    let some = used.0 in
    let is = entered.end.scep in
    omega (arith, some, zero, cep_is, is)

-- a step does not tell that a management connection gave a number up
abbrev pub TellsFlow : Result ClockStep StepError → Type 0
TellsFlow (Ok (step.GaveUp num)) = num.cep ≢ 0
TellsFlow result = Unit {0}

-- a step that serves the flows tells no such thing
pub tells_flow : (d : Dif) (lines : List Direction) (below : Seen) (node : ℕ) (r : Result ClockStep StepError) (d' : Dif) → Holds d lines below → StepsFlowHere d lines below node r d' → TellsFlow r
tells_flow d lines below node (Ok (step.GaveUp num)) d' h s = (let f = s.does.turn.first in flow_cep d lines below s.does.at num.cep f.due.here.end f.ids h f.due.here.is_end f.are_ids f.due.here.allocated f.cep_is)
tells_flow d lines below node (Ok step.Idle) d' h s = tt
tells_flow d lines below node (Ok (step.Gone cep)) d' h s = tt
tells_flow d lines below node (Ok (step.Ack cep)) d' h s = tt
tells_flow d lines below node (Ok (step.Again num)) d' h s = tt
tells_flow d lines below node (Ok (step.LinkLost link)) d' h s = tt
tells_flow d lines below node (Ok (step.LinkNew link)) d' h s = tt
tells_flow d lines below node (Ok (step.Timeout port)) d' h s = tt
tells_flow d lines below node (Ok (step.Message link)) d' h s = tt
tells_flow d lines below node (Err e) d' h s = tt

-- nor does one without memory
pub tells_err : (r : Result ClockStep StepError) (e : StepError) → r ≡ Err e → TellsFlow r
tells_err r e is = subst TellsFlow (sym is) tt
