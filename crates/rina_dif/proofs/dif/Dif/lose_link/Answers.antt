use Rattle.std.proofs.Common.{List, None, Ok, refl, subst, sym}
use Rattle.std.proofs.lemmas.Result.{err_from_is_err_and}
use Rattle.rina_member.specs.declared.management.Management.{Management}
use Rattle.rina_dif.specs.declared.processes.LinkLoss.{LinkLoss}
use Rattle.rina_dif.specs.Unlinking.{LosesAs}
use Rattle.rina_dif.proofs.Unlinked.{has_agent, link_loses, link_same, link_stays, lost_conn, lost_end, lost_within, on_err}
use Rattle.rina_dif.proofs.Elsewhere.{loses_leave}
use Rattle.rina_dif.proofs.dif.Dif.lose_link.Goals as goal

pub lose_link-requires-clause-place : goal.lose_link-requires-clause-place
lose_link-requires-clause-place c = lost_within c.args.self.now c.requires.stands.0 c.args.at c.args.loss.lost c.requires.stands.2

pub lose_link-requires-clause-end : goal.lose_link-requires-clause-end
lose_link-requires-clause-end c = lost_end c.args.self.now c.args.at c.args.loss.lost c.args.end c.requires.stands c.requires.at c.requires.end

pub lose_link-requires-clause-conn : goal.lose_link-requires-clause-conn
lose_link-requires-clause-conn c = lost_conn c.args.self.now c.args.at c.args.loss.lost c.args.end c.requires.stands c.requires.at c.requires.end

pub returns-in_err-lose_link-clause-does : goal.returns-in_err-lose_link-clause-does
returns-in_err-lose_link-clause-does c = λ node lines below h finds left.
    let err = err_from_is_err_and c.from_residual-in_err-lose_link.result c.from_residual-in_err-lose_link.ensures.1 in
    link_stays c.args.self.now c.args.at c.args.loss.lost c.from_residual-in_err-lose_link.result c.lose_link.new.links c.lose_link.new.self c.requires.at c.in_err-lose_link.ensures err.0 err.1 node lines below h

pub returns-in_err-lose_link-clause-leaves : goal.returns-in_err-lose_link-clause-leaves
returns-in_err-lose_link-clause-leaves c =
    let d = c.args.self.now in
    let loss : LinkLoss = record { place = c.args.loss.lost.place; routes = c.in_ok-routes.routes; end = c.args.end; now = d.clock } in
    loses_leave d c.requires.stands.0 loss c.lose_link.result c.args.at c.lose_link.new.links c.lose_link.new.self c.requires.stands.1 c.requires.at c.lose_link.ensures

pub returns-clause-does : goal.returns-clause-does
returns-clause-does c = λ node lines below h finds left.
    let d = c.args.self.now in
    let loss : LinkLoss = record { place = c.args.loss.lost.place; routes = c.in_ok-routes.routes; end = c.args.end; now = d.clock } in
    subst (λ (gs : List Management). LosesAs d lines below c.args.at node c.args.loss.lost.number (Ok tt) (record d { connections = record d.connections { flows = c.lose_link.new.links }; processes = c.lose_link.new.self; managements = gs })) (sym c.set.ensures)
    (link_loses d c.args.at c.args.loss.lost loss c.args.loss.after c.lose_link.new.links c.lose_link.new.self refl refl c.requires.at (λ g is. (c.requires.after g is).loses) c.in_ok-routes.ensures c.requires.end c.in_ok-lose_link.ensures node lines below h finds left)

pub returns-clause-leaves : goal.returns-clause-leaves
returns-clause-leaves c =
    let d = c.args.self.now in
    let loss : LinkLoss = record { place = c.args.loss.lost.place; routes = c.in_ok-routes.routes; end = c.args.end; now = d.clock } in
    loses_leave d c.requires.stands.0 loss (Ok tt) c.args.at c.lose_link.new.links c.lose_link.new.self c.requires.stands.1 c.requires.at c.in_ok-lose_link.ensures

pub returns-clause-manages : goal.returns-clause-manages
returns-clause-manages c = λ node below found left.
    let d = c.args.self.now in
    let m = has_agent d c.requires.stands.1.0 c.requires.stands.0 c.args.at c.requires.at c.requires.stands.1.1 in
    record {
      lost = c.args.loss.lost;
      found = found;
      number_is = refl;
      last = None;
      left = left;
      management = m.0;
      is_management = m.1;
      after = c.args.loss.after;
      loses = c.requires.after m.0 m.1;
      are = c.set.ensures;
    }

pub returns-in_err-lose_link-clause-stays : goal.returns-in_err-lose_link-clause-stays
returns-in_err-lose_link-clause-stays c = on_err c.from_residual-in_err-lose_link.result _ (link_same c.args.self.now c.requires.stands.0 c.args.at c.lose_link.new.links c.lose_link.new.self c.requires.stands.1 c.requires.at c.in_err-lose_link.ensures)
