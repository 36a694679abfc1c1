use Rattle.std.proofs.Common.{◌≡◌, ℕ, List, Option, Some, sym, ap, subst}
use Rattle.rina_flows.specs.Alarms.{IsRung, times_of}
use Rattle.rina_flows.proofs.Alarmed.{rung}
use Rattle.rina_flows.proofs.alarms.Alarms.due.Goals as goal

pub returns : goal.returns
returns c =
    let was : times_of c.self.inside.timers ≡ c.in-Some.timers = ap times_of c.in-Some.is in
    let rang = rung c.args.now c.in_ok-id.id c.in-Some.timers c.any_due.new.self c.in_ok-id.ensures.due c.place_of-at.ensures.few c.in_ok-id.ensures.cleared in
    let rang' : IsRung (Some c.place_of-at.result) c.in-Some.timers c.any_due.new.self = subst (λ n. IsRung (Some n) c.in-Some.timers c.any_due.new.self) (sym c.place_of-at.ensures.place) rang in
    rw (← c.self.view_is) (subst (λ (ts : List (Option ℕ)). IsRung (Some c.place_of-at.result) ts c.any_due.new.self) (sym was) rang')
