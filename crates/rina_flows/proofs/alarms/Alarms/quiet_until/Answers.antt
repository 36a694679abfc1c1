use Rattle.std.proofs.Common.{◌≡◌, ℕ, ◌-◌, ◌≤◌, [], List, Option, length, sym, ap, subst, arith}
use Rattle.rina_flows.specs.Alarms.{tick_at, times_of}
use Rattle.rina_flows.proofs.Alarmed.{none_least, unset_past}
use Rattle.rina_flows.proofs.alarms.Alarms.quiet_until.Goals as goal
use Rattle.rina_flows.proofs.alarms.Alarms.quiet_until.Goals.{in-Some, in-None}

pub returns-clause-least : goal.returns-clause-least
returns-clause-least c = λ at. rw (← c.self.view_is) (elim c.match-self.branch [
  | in-Some w ↦
      let was : times_of c.self.inside.timers ≡ w.in-Some.timers = ap times_of w.in-Some.is in
      let until = w.quiet_until.result in
      let is = w.result-is in
      let least = none_least w.in-Some.timers until w.quiet_until.ensures.none (omega arith) at in
      let least' : until ≤ tick_at (times_of c.self.inside.timers) at = subst (λ (ts : List (Option ℕ)). until ≤ tick_at ts at) (sym was) least in
      omega (arith, is, least')
  | in-None w ↦
      let was : times_of c.self.inside.timers ≡ [] = ap times_of w.in-None.is in
      let none = ap length was in
      let past = unset_past (times_of c.self.inside.timers) at (omega (arith, none)) in
      let is = w.result-is in
      omega (arith, is, past)
])
