use Rattle.std.proofs.Common.{◌∙◌, Err}
use Rattle.rina_iface.specs.declared.error.AllocateError.TheVariants.{Memory}
use Rattle.rina_dif.proofs.Bound.{binds_go_on, binds_none, binds_noted, binds_shown, binds_stay, binds_whole}
use Rattle.rina_dif.proofs.Entered.{none_far}
use Rattle.rina_dif.proofs.dif.Dif.bind.Goals as goal

pub returns-then-self-clause-shown : goal.returns-then-self-clause-shown
returns-then-self-clause-shown c = λ s shows. binds_shown s c.args.self.now c.args.fixed.now (Err Memory) c.args.self.now c.requires.valid c.requires.may.fac shows (binds_none c.args.self.now c.args.fixed.now)

pub returns-then-self-clause-goes_on : goal.returns-then-self-clause-goes_on
returns-then-self-clause-goes_on c = binds_go_on c.args.self.now c.args.fixed.now (Err Memory) c.args.self.now c.requires.valid (binds_none c.args.self.now c.args.fixed.now)

pub returns-clause-valid : goal.returns-clause-valid
returns-clause-valid c =
    let d' = c.bind_flow-result.new.self in
    binds_whole c.args.self.now c.args.fixed.now c.bind_flow-result.result (record d' { failed = c.wants_memory-self.result }) c.requires.valid c.bind_flow-result.ensures.same.1 (λ lines below h. binds_noted c.args.self.now lines below c.args.fixed.now c.bind_flow-result.result d' c.wants_memory-self.result (c.bind_flow-result.ensures.same.2 ∙ c.if-self.false) c.wants_memory-self.ensures.1 (c.bind_flow-result.ensures.does lines below h))

pub returns-clause-shown : goal.returns-clause-shown
returns-clause-shown c = λ s shows.
    let d' = c.bind_flow-result.new.self in
    binds_shown s c.args.self.now c.args.fixed.now c.bind_flow-result.result (record d' { failed = c.wants_memory-self.result }) c.requires.valid c.requires.may.fac shows (λ lines below h. binds_noted c.args.self.now lines below c.args.fixed.now c.bind_flow-result.result d' c.wants_memory-self.result (c.bind_flow-result.ensures.same.2 ∙ c.if-self.false) c.wants_memory-self.ensures.1 (c.bind_flow-result.ensures.does lines below h))

pub returns-clause-goes_on : goal.returns-clause-goes_on
returns-clause-goes_on c =
    let d' = c.bind_flow-result.new.self in
    binds_go_on c.args.self.now c.args.fixed.now c.bind_flow-result.result (record d' { failed = c.wants_memory-self.result }) c.requires.valid (λ lines below h. binds_noted c.args.self.now lines below c.args.fixed.now c.bind_flow-result.result d' c.wants_memory-self.result (c.bind_flow-result.ensures.same.2 ∙ c.if-self.false) c.wants_memory-self.ensures.1 (c.bind_flow-result.ensures.does lines below h))

pub returns-clause-does : goal.returns-clause-does
returns-clause-does c = λ lines below h. binds_noted c.args.self.now lines below c.args.fixed.now c.bind_flow-result.result c.bind_flow-result.new.self c.wants_memory-self.result (c.bind_flow-result.ensures.same.2 ∙ c.if-self.false) c.wants_memory-self.ensures.1 (c.bind_flow-result.ensures.does lines below h)

pub returns-then-self-clause-stands : goal.returns-then-self-clause-stands
returns-then-self-clause-stands c = λ below st. st

pub returns-clause-stands : goal.returns-clause-stands
returns-clause-stands c =
    let d' = c.bind_flow-result.new.self in
    binds_stay c.args.self.now c.args.fixed.now c.bind_flow-result.result (record d' { failed = c.wants_memory-self.result }) (λ lines below h. binds_noted c.args.self.now lines below c.args.fixed.now c.bind_flow-result.result d' c.wants_memory-self.result (c.bind_flow-result.ensures.same.2 ∙ c.if-self.false) c.wants_memory-self.ensures.1 (c.bind_flow-result.ensures.does lines below h))

pub returns-then-self-clause-manages : goal.returns-then-self-clause-manages
returns-then-self-clause-manages c = none_far c.args.self.now c.args.fixed.now
