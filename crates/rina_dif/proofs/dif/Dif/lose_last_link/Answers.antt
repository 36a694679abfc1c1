use Rattle.std.proofs.Common.{◌≡◌, ◌∙◌, List, length, slice_get, Option, Ok, Some, ap, refl, slice_set, subst, sym}
use Rattle.std.proofs.lemmas.Result.{err_from_is_err_and}
use Rattle.rina_agent.specs.declared.agent.Agent.{Agent}
use Rattle.rina_member.specs.Knowing.{AreRoutesOf}
use Rattle.rina_member.specs.declared.management.Management.{Management}
use Rattle.rina_base.specs.declared.memory.Memory.{Memory}
use Rattle.rina_iface.specs.declared.state.Fail.TheVariants.{Below}
use Rattle.rina_iface.specs.declared.state.PortState.TheVariants.{Failed}
use Rattle.rina_dif.specs.declared.processes.LinkLoss.{LinkLoss}
use Rattle.rina_dif.specs.Changing.{allocated_at}
use Rattle.rina_dif.specs.declared.dif.Dif.{Dif}
use Rattle.rina_dif.specs.declared.release.IdRest.{IdRest}
use Rattle.rina_dif.specs.IdRests.{GaveFirst}
use Rattle.rina_dif.specs.Unlinking.{LosesAs}
use Rattle.rina_dif.proofs.GivenBack.{can_give_back, leaves_as}
use Rattle.rina_dif.proofs.Managed.{ended_agent}
use Rattle.rina_dif.proofs.Unlinked.{has_agent, lost_conn, lost_end, lost_within, on_err}
use Rattle.rina_dif.proofs.Cutting.{last_loses, last_same, last_stays}
use Rattle.rina_dif.proofs.Elsewhere.{allocated_of, last_failed_leaves, last_leaves}
use Rattle.rina_dif.proofs.dif.Dif.lose_last_link.Goals as goal

pub lose_last_link-requires-clause-place : goal.lose_last_link-requires-clause-place
lose_last_link-requires-clause-place c = lost_within c.args.self.now c.requires.stands.0 c.args.at c.args.loss.lost c.requires.stands.2

pub lose_last_link-requires-clause-end : goal.lose_last_link-requires-clause-end
lose_last_link-requires-clause-end c = lost_end c.args.self.now c.args.at c.args.loss.lost c.args.end c.requires.stands c.requires.at c.requires.end

pub lose_last_link-requires-clause-conn : goal.lose_last_link-requires-clause-conn
lose_last_link-requires-clause-conn c = lost_conn c.args.self.now c.args.at c.args.loss.lost c.args.end c.requires.stands c.requires.at c.requires.end

pub returns-in_err-lose_last_link-clause-does : goal.returns-in_err-lose_last_link-clause-does
returns-in_err-lose_last_link-clause-does c = λ lines below h finds left.
    let err = err_from_is_err_and c.from_residual-in_err-lose_last_link.result c.from_residual-in_err-lose_last_link.ensures.1 in
    last_stays c.args.self.now c.args.at c.args.node c.args.loss.lost c.from_residual-in_err-lose_last_link.result c.lose_last_link.new.links c.lose_last_link.new.flows c.lose_last_link.new.self c.requires.at c.in_err-lose_last_link.ensures.loses err.0 err.1 lines below h

pub returns-in_err-lose_last_link-clause-leaves : goal.returns-in_err-lose_last_link-clause-leaves
returns-in_err-lose_last_link-clause-leaves c =
    let d = c.args.self.now in
    let l = c.lose_last_link in
    last_failed_leaves d c.requires.stands.0 c.from_residual-in_err-lose_last_link.result c.args.at l.new.links l.new.flows l.new.self c.requires.stands.1 c.requires.at c.in_err-lose_last_link.ensures.loses

pub give_back_all-requires : goal.give_back_all-requires
give_back_all-requires c =
    let d = c.args.self.now in
    let st = c.requires.stands in
    let can = can_give_back d st.1.0 st.0 st.1.1 c.args.at c.args.node c.requires.home c.in_ok-rests.rests.items c.in_ok-rests.ensures c.requires.clock in
    record {
      clock = can.clock;
      home_there = can.home_there;
      small = λ k rest is. can.small k rest (subst (λ (rs : List (Option IdRest)). slice_get rs k ≡ Some (Some rest)) c.as_slice.ensures.value is);
      used = λ k rest held ids is gave are_ids. can.used k rest held ids (subst (λ (rs : List (Option IdRest)). slice_get rs k ≡ Some (Some rest)) c.as_slice.ensures.value is) (subst (λ (rs : List (Option IdRest)). GaveFirst c.args.at d.clock rs k d.ids held) c.as_slice.ensures.value gave) are_ids;
    }

pub returns-clause-does : goal.returns-clause-does
returns-clause-does c = λ lines below h finds left.
    let d = c.args.self.now in
    let l = c.lose_last_link in
    let all = c.give_back_all.new.self in
    let whole = c.give_back_all.ensures.whole in
    let loss : LinkLoss = record { place = c.args.loss.lost.place; routes = c.in_ok-routes.routes; end = c.args.end; now = d.clock } in
    let same : c.end_flows.new.management.agent ≡ c.args.loss.after.agent = ap (λ (m : Management). m.agent) c.in_ok-end_flows.ensures ∙ ended_agent c.args.loss.after (allocated_at c.args.node d.flows) in
    let managements : c.set.new.self ≡ slice_set d.managements c.args.at c.end_flows.new.management = c.set.ensures ∙ ap (λ (z : Dif). slice_set z.managements c.args.at c.end_flows.new.management) whole in
    subst (λ (z : Dif). LosesAs d lines below c.args.at c.args.node c.args.loss.lost.number (Ok tt) (record z { managements = c.set.new.self })) (sym whole)
    (subst (λ (gs : List Management). LosesAs d lines below c.args.at c.args.node c.args.loss.lost.number (Ok tt) (record d { connections = record d.connections { flows = l.new.links }; flows = l.new.flows; ids = all.ids; processes = l.new.self; managements = gs })) (sym managements)
    (last_loses d c.args.at c.args.node c.args.loss.lost c.args.port loss c.end_flows.new.management l.new.links l.new.flows l.new.self refl refl c.requires.at c.requires.home (λ g is. (c.requires.after g is).loses ∙ ap Ok (sym same)) (subst (λ (a : Agent). AreRoutesOf a d.settings.members c.in_ok-routes.routes) (sym same) c.in_ok-routes.ensures) c.requires.end c.in_ok-lose_last_link.ensures.loses c.in_ok-rests.rests.items all.ids c.in_ok-rests.ensures (subst (λ (rs : List (Option IdRest)). GaveFirst c.args.at d.clock rs (length rs) d.ids all.ids) c.as_slice.ensures.value c.give_back_all.ensures.given) lines below h finds left))

pub returns-clause-leaves : goal.returns-clause-leaves
returns-clause-leaves c =
    let d = c.args.self.now in
    let l = c.lose_last_link in
    let whole = c.give_back_all.ensures.whole in
    let loss : LinkLoss = record { place = c.args.loss.lost.place; routes = c.in_ok-routes.routes; end = c.args.end; now = d.clock } in
    leaves_as d c.give_back_all.new.self _ _ l.new.flows l.new.self (ap (λ (z : Dif). z.flows) whole) (ap (λ (z : Dif). z.processes) whole)
    (allocated_of {T = Unit {0}} {E = Memory} (Ok tt) d l.new.flows c.args.node c.args.at c.requires.home c.in_ok-lose_last_link.ensures.leaves)
    (last_leaves d c.requires.stands.0 c.args.node (Failed (Below c.args.port)) loss (Ok tt) c.args.at l.new.links l.new.flows l.new.self c.requires.stands.1 c.requires.at c.in_ok-lose_last_link.ensures.loses)

pub returns-clause-manages : goal.returns-clause-manages
returns-clause-manages c = λ below found left.
    let d = c.args.self.now in
    let m = has_agent d c.requires.stands.1.0 c.requires.stands.0 c.args.at c.requires.at c.requires.stands.1.1 in
    record {
      lost = c.args.loss.lost;
      found = found;
      number_is = refl;
      last = Some c.args.port;
      left = left;
      management = m.0;
      is_management = m.1;
      after = c.args.loss.after;
      loses = c.requires.after m.0 m.1;
      are = c.set.ensures ∙ ap (λ (z : Dif). slice_set z.managements c.args.at c.end_flows.new.management) c.give_back_all.ensures.whole ∙ ap (slice_set d.managements c.args.at) c.in_ok-end_flows.ensures;
    }

pub returns-in_err-lose_last_link-clause-stays : goal.returns-in_err-lose_last_link-clause-stays
returns-in_err-lose_last_link-clause-stays c = on_err c.from_residual-in_err-lose_last_link.result _ (last_same c.args.self.now c.requires.stands.0 c.args.at c.lose_last_link.new.links c.lose_last_link.new.flows c.lose_last_link.new.self c.requires.stands.1 c.requires.at c.in_err-lose_last_link.ensures.loses)
