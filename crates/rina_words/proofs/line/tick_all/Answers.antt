use Rattle.std.proofs.Common.{◌≡◌, ◌∙◌, ◌+◌, ◌-◌, refl, subst, arith}
use Rattle.rina_notes.specs.Look.{Leads}
use Rattle.rina_words.specs.Step.{Ticks, stage}
use Rattle.rina_words.proofs.Idle.{passes_now, ticks_on_over}
use Rattle.rina_words.proofs.Leading.{ticks_none}
use Rattle.rina_words.proofs.line.tick_all.Goals as goal

pub ticks-init : goal.ticks-init
ticks-init g c =
    let start = stage c.args.run.now (g.P.Picks.slots c.args.shelf.now) in
    let none : 0 ≡ c.args.count - c.args.count = omega arith in
    record {
      tower = c.requires.tower;
      within = omega arith;
      clock = refl;
      ticks = subst (λ n. Leads (λ ns. Ticks c.args.line.now.plan.now c.args.line.now.number n start ns start) c.args.trace.now c.args.trace.now) none (ticks_none c.args.line.now.plan.now c.args.line.now.number start c.args.trace.now);
      names = refl;
    }

pub ticks-preserved : goal.ticks-preserved
ticks-preserved g c =
    let plan = c.args.line.now.plan.now in
    let once = c.in_ok-tick_once.ensures in
    let passed = c.pass_idle_ticks-left.ensures in
    let more = c.pass_idle_ticks-left.result in
    let mid = c.tick_once.new.run in
    let slots = g.P.Picks.slots c.tick_once.new.shelf in
    let test = c.ticks-test.true in
    let clock = c.ticks.invariant.clock in
    let within = c.ticks.invariant.within in
    let most = passed.most in
    let one = once.clock in
    let left = c.ticks.left in
    let all : c.args.count - left + 1 + more ≡ c.args.count - (left - 1 - more) = omega (arith, within, test, most) in
    let now = passes_now plan.rounds more mid.tower c.pass_idle_ticks-left.new.tower passed.passes in
    record {
      tower = passed.tower;
      within = omega (arith, within, most);
      clock = omega (arith, clock, one, now, most, test);
      ticks = subst (λ n. Leads (λ ns. Ticks plan c.args.line.now.number n (stage c.args.run.now (g.P.Picks.slots c.args.shelf.now)) ns (stage (record mid { tower = c.pass_idle_ticks-left.new.tower }) slots)) c.args.trace.now c.tick_once.new.trace) all (ticks_on_over plan c.args.line.now.number (c.args.count - c.ticks.left) more slots _ _ mid c.pass_idle_ticks-left.new.tower _ _ _ c.ticks.invariant.ticks once.does once.tower (omega (arith, clock, one, test)) passed.passes);
      names = once.names ∙ c.ticks.invariant.names;
    }
