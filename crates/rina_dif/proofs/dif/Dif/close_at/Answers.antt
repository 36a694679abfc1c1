use Rattle.std.proofs.Common.{◌≡◌, ◌∙◌, ℕ, Err, Ok, Option, Result, refl, subst, sym}
use Rattle.std.proofs.lemmas.Result.{err_from_is_err_and}
use Rattle.rina_base.specs.declared.memory.Memory.{Memory}
use Rattle.rina_iface.specs.declared.state.PortState.TheVariants.{Closed}
use Rattle.rina_flows.specs.Delivering.{StopsIn}
use Rattle.rina_flows.specs.Elsewhere.{ChangesAt}
use Rattle.rina_member.specs.Managements.{with_objects}
use Rattle.rina_member.specs.Objects.{removed}
use Rattle.rina_dif.specs.declared.dif.Dif.{Dif}
use Rattle.rina_dif.specs.Elsewhere.{ChangesProcess, WhenOk}
use Rattle.rina_dif.specs.Freeing.{FreesHere}
use Rattle.rina_dif.proofs.Elsewhere.{ledger_leaves, stopped_when}
use Rattle.rina_dif.proofs.Freed.{closed_used, closes_at, never_homeless}
use Rattle.rina_dif.proofs.Showing.{ends_flow, frees_shown, objects_agents}
use Rattle.rina_dif.proofs.dif.Dif.close_at.Goals as goal

pub unreachable-requires : goal.unreachable-requires
unreachable-requires c = never_homeless c.args.self.now c.args.at c.args.node c.requires.valid c.requires.at c.requires.end (sym c.place_at_node.ensures.place ∙ c.in_default.is)

pub returns-in_err-stop-clause-does : goal.returns-in_err-stop-clause-does
returns-in_err-stop-clause-does c = λ lines below h.
    let d = c.args.self.now in
    let d' : Dif = record d { processes = c.stop.new.self; flows = c.stop.new.flows } in
    let err = err_from_is_err_and c.from_residual-in_err-stop.result c.from_residual-in_err-stop.ensures.1 in
    subst (λ (v : Result (Unit {0}) Memory). FreesHere d lines below c.args.at v d') (sym err.1) (closes_at d c.in-Some.home c.args.at c.args.node (Err _) c.stop.new.flows c.stop.new.self c.requires.at c.in-Some.ensures.within c.requires.end (sym c.place_at_node.ensures.place ∙ c.in-Some.is) c.in_err-stop.ensures.stops c.rest_at-rest.result d.ids c.rest_at-rest.ensures refl lines below h)

pub returns-in_err-stop-clause-leaves : goal.returns-in_err-stop-clause-leaves
returns-in_err-stop-clause-leaves c =
    let d = c.args.self.now in
    let valid = c.requires.valid in
    let home = c.in-Some.home in
    let s = c.stop in
    let here = sym c.place_at_node.ensures.place ∙ c.in-Some.is in
    let err = err_from_is_err_and c.from_residual-in_err-stop.result c.from_residual-in_err-stop.ensures.1 in (
      subst (λ (v : Result (Unit {0}) Memory). ChangesAt (λ i. WhenOk v (i ≡ c.args.at)) d.flows s.new.flows) (sym err.1) (stopped_when d valid.below c.args.at Closed home (Err _) s.new.flows s.new.self valid.stands c.in-Some.ensures.within c.in_err-stop.ensures.stops c.in_err-stop.ensures.leaves),
      subst (λ (o : Option ℕ). ChangesProcess o d.processes s.new.self) (sym here) (ledger_leaves (λ f l f' l'. StopsIn d.clock c.args.at Closed f l s.result f' l') d valid.below home s.new.flows s.new.self valid.stands c.in-Some.ensures.within s.ensures.stops),
    )

pub returns-clause-does : goal.returns-clause-does
returns-clause-does c = λ lines below h.
    let d = c.args.self.now in
    let d' : Dif = record d { processes = c.stop.new.self; flows = c.stop.new.flows; ids = c.give_back.new.self } in
    frees_shown d d' lines below c.args.at (Ok tt) c.remove.new.self (objects_agents c.in-Some.home (λ m. with_objects m (removed m.objects c.as_slice.result.now)) d.managements c.remove.new.self (λ m. refl) c.remove.ensures)
    (closes_at d c.in-Some.home c.args.at c.args.node (Ok tt) c.stop.new.flows c.stop.new.self c.requires.at c.in-Some.ensures.within c.requires.end (sym c.place_at_node.ensures.place ∙ c.in-Some.is) c.in_ok-stop.ensures.stops c.rest_at-rest.result c.give_back.new.self c.rest_at-rest.ensures c.give_back.ensures lines below h)

pub returns-clause-manages : goal.returns-clause-manages
returns-clause-manages c =
    let d = c.args.self.now in (
      c.in-Some.home,
      sym c.place_at_node.ensures.place ∙ c.in-Some.is,
      ends_flow d c.in-Some.home c.args.at c.as_slice.result.now c.remove.new.self (λ k is. c.as_slice.ensures ∙ c.in_ok-name.ensures k is) c.remove.ensures,
    )

pub returns-clause-leaves : goal.returns-clause-leaves
returns-clause-leaves c =
    let d = c.args.self.now in
    let valid = c.requires.valid in
    let home = c.in-Some.home in
    let s = c.stop in
    let here = sym c.place_at_node.ensures.place ∙ c.in-Some.is in (
      stopped_when d valid.below c.args.at Closed home (Ok tt) s.new.flows s.new.self valid.stands c.in-Some.ensures.within c.in_ok-stop.ensures.stops c.in_ok-stop.ensures.leaves,
      subst (λ (o : Option ℕ). ChangesProcess o d.processes s.new.self) (sym here) (ledger_leaves (λ f l f' l'. StopsIn d.clock c.args.at Closed f l s.result f' l') d valid.below home s.new.flows s.new.self valid.stands c.in-Some.ensures.within s.ensures.stops),
    )

pub give_back-requires-clause-used : goal.give_back-requires-clause-used
give_back-requires-clause-used c =
    let d = c.args.self.now in
    let valid = c.requires.valid in
    let home_is = sym c.place_at_node.ensures.place ∙ c.in-Some.is in
    closed_used d c.in-Some.home c.args.at c.args.node c.rest_at-rest.result valid c.requires.at c.requires.end home_is c.rest_at-rest.ensures
