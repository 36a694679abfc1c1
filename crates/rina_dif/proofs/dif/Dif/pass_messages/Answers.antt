use Rattle.std.proofs.Common.{◌≡◌, ap, arith, refl, subst, sym}
use Rattle.rina_dif.specs.declared.dif.Dif.{Dif}
use Rattle.rina_dif.specs.Holding.{LinksStand}
use Rattle.rina_dif.proofs.Passing.{more_waits, next_passed, none_passed, passes_done, passing_within, with_links}
use Rattle.rina_dif.proofs.dif.Dif.pass_messages.Goals as goal

pub turns-init : goal.turns-init
turns-init c = record { passed = none_passed c.args.self.now c.args.place; only = refl }

pub pass-requires-clause-end : goal.pass-requires-clause-end
pass-requires-clause-end c = (passing_within c.args.self.now c.args.place c.turns.counter c.turns.self.connections.flows c.requires.stands c.turns.invariant.passed c.requires.place).0

pub pass-requires-clause-conn : goal.pass-requires-clause-conn
pass-requires-clause-conn c = (passing_within c.args.self.now c.args.place c.turns.counter c.turns.self.connections.flows c.requires.stands c.turns.invariant.passed c.requires.place).1

pub pass-requires-clause-waits : goal.pass-requires-clause-waits
pass-requires-clause-waits c = more_waits c.args.self.now c.args.place c.turns.counter c.count_waiting-count.result c.turns.self.connections.flows c.requires.stands c.turns.invariant.passed c.requires.place c.count_waiting-count.ensures c.turns-test.true

pub turns-preserved : goal.turns-preserved
turns-preserved c = record {
  passed = next_passed c.args.self.now c.args.place c.turns.counter c.turns.self.connections.flows c.pass.new.self c.turns.invariant.passed c.pass.ensures.passes;
  only = ap (λ (d : Dif). with_links d c.pass.new.self) c.turns.invariant.only;
}

pub returns-clause-passes : goal.returns-clause-passes
returns-clause-passes c = λ below links.
    let all : c.turns.counter ≡ c.count_waiting-count.result = omega (arith, c.turns-test.false, c.turns.auto.counter-end) in
    (passes_done c.args.self.now c.args.place c.turns.counter c.count_waiting-count.result c.turns.self.connections.flows c.turns.invariant.passed c.requires.place c.count_waiting-count.ensures all below links).0

pub returns-clause-stand : goal.returns-clause-stand
returns-clause-stand c = λ below links.
    let all : c.turns.counter ≡ c.count_waiting-count.result = omega (arith, c.turns-test.false, c.turns.auto.counter-end) in
    subst (λ (d : Dif). LinksStand d below) (sym c.turns.invariant.only)
    (passes_done c.args.self.now c.args.place c.turns.counter c.count_waiting-count.result c.turns.self.connections.flows c.turns.invariant.passed c.requires.place c.count_waiting-count.ensures all below links).1
