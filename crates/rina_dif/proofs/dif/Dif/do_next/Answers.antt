use Rattle.std.proofs.Common.{subst, Some, inl}
use Rattle.std.proofs.lemmas.Result.{err_from_is_err_and}
use Rattle.rina_flows.specs.declared.due.Item.{Item}
use Rattle.rina_dif.specs.Clocking.{IsTurn}
use Rattle.rina_dif.proofs.Clocked.{does_ack, does_again, does_give_up, does_gone, gave_up_managed, never_kept, never_silent, none_due, same_holds, steps_err, told_managed, turn_home}
use Rattle.rina_flows.specs.declared.due.Item.TheVariants.{Ack, Gone}
use Rattle.rina_dif.proofs.Elsewhere.{again_of, clock_failed, clocked_alone, gives_up_of, none_changed, turn_of}
use Rattle.rina_dif.proofs.FlowIds.{flow_cep}
use Rattle.rina_dif.proofs.dif.Dif.do_next.Goals as goal

pub returns-in_default-clause-does : goal.returns-in_default-clause-does
returns-in_default-clause-does c = λ lines below h. none_due c.args.self.now lines below c.args.node (c.in_default.ensures lines below h) h

pub forget_at-requires-clause-here : goal.forget_at-requires-clause-here
forget_at-requires-clause-here c = turn_home _ c.args.self.now c.requires.stands.1.0 c.args.node c.args.at _ _ c.requires.home (c.in-Some.ensures c.requires.stands.1.0 c.requires.stands.0 c.requires.stands.1.1)

pub returns-in_err-forget_at-in-Gone-clause-does : goal.returns-in_err-forget_at-in-Gone-clause-does
returns-in_err-forget_at-in-Gone-clause-does c = λ lines below h.
    let err = err_from_is_err_and c.from_residual.result c.from_residual.ensures.1 in
    steps_err c.args.self.now lines below c.args.node c.from_residual.result err.0 c.forget_at.new.self err.2 err.1 (same_holds c.args.self.now lines below c.forget_at.new.self (c.in_err-forget_at-in-Gone.ensures.does lines below h) h)

pub give_up_at-requires-clause-here : goal.give_up_at-requires-clause-here
give_up_at-requires-clause-here c = turn_home _ c.args.self.now c.requires.stands.1.0 c.args.node c.args.at _ _ c.requires.home (c.in-Some.ensures c.requires.stands.1.0 c.requires.stands.0 c.requires.stands.1.1)

pub returns-in_err-num-in-GiveUp-clause-does : goal.returns-in_err-num-in-GiveUp-clause-does
returns-in_err-num-in-GiveUp-clause-does c = λ lines below h.
    let err = err_from_is_err_and c.from_residual-in_err-num-in-GiveUp.result c.from_residual-in_err-num-in-GiveUp.ensures.1 in
    steps_err c.args.self.now lines below c.args.node c.from_residual-in_err-num-in-GiveUp.result err.0 c.give_up_at.new.self err.2 err.1 (c.in_err-num-in-GiveUp.ensures.does lines below h)

pub unreachable-requires : goal.unreachable-requires
unreachable-requires c =
    let lines = c.requires.stands.1.0 in
    let below = c.requires.stands.0 in
    let h = c.requires.stands.1.1 in
    let turn = subst (λ (i : Item). IsTurn i c.args.self.now lines c.args.node c.in-Some.field-0.turn.place c.in-Some.field-0.turn.cep) c.in-GiveUp.is (c.in-Some.ensures lines below h) in
    never_kept c.args.self.now lines below c.args.node c.in-Some.field-0.turn.place c.in-Some.field-0.turn.cep c.give_up_at.new.self turn (rw c.in-None.is at (c.in_ok-num-in-GiveUp.ensures.does lines below h))

pub acknowledge_at-requires-clause-here : goal.acknowledge_at-requires-clause-here
acknowledge_at-requires-clause-here c = turn_home _ c.args.self.now c.requires.stands.1.0 c.args.node c.args.at _ _ c.requires.home (c.in-Some.ensures c.requires.stands.1.0 c.requires.stands.0 c.requires.stands.1.1)

pub returns-in_err-acknowledge_at-in-Ack-clause-does : goal.returns-in_err-acknowledge_at-in-Ack-clause-does
returns-in_err-acknowledge_at-in-Ack-clause-does c = λ lines below h.
    let err = err_from_is_err_and c.from_residual-in_err-acknowledge_at-in-Ack.result c.from_residual-in_err-acknowledge_at-in-Ack.ensures.1 in
    steps_err c.args.self.now lines below c.args.node c.from_residual-in_err-acknowledge_at-in-Ack.result err.0 c.acknowledge_at.new.self err.2 err.1 (c.in_err-acknowledge_at-in-Ack.ensures.does lines below h)

pub again_at-requires-clause-here : goal.again_at-requires-clause-here
again_at-requires-clause-here c = turn_home _ c.args.self.now c.requires.stands.1.0 c.args.node c.args.at _ _ c.requires.home (c.in-Some.ensures c.requires.stands.1.0 c.requires.stands.0 c.requires.stands.1.1)

pub returns-in_err-num-in-Again-clause-does : goal.returns-in_err-num-in-Again-clause-does
returns-in_err-num-in-Again-clause-does c = λ lines below h.
    let err = err_from_is_err_and c.from_residual-in_err-num-in-Again.result c.from_residual-in_err-num-in-Again.ensures.1 in
    steps_err c.args.self.now lines below c.args.node c.from_residual-in_err-num-in-Again.result err.0 c.again_at.new.self err.2 err.1 (c.in_err-num-in-Again.ensures.does lines below h)

pub unreachable-requires-in-None-2 : goal.unreachable-requires-in-None-2
unreachable-requires-in-None-2 c =
    let lines = c.requires.stands.1.0 in
    let below = c.requires.stands.0 in
    let h = c.requires.stands.1.1 in
    let turn = subst (λ (i : Item). IsTurn i c.args.self.now lines c.args.node c.in-Some.field-0.turn.place c.in-Some.field-0.turn.cep) c.in-Again.is (c.in-Some.ensures lines below h) in
    never_silent c.args.self.now lines below c.args.node c.in-Some.field-0.turn.place c.in-Some.field-0.turn.cep c.again_at.new.self turn (rw c.in-None-2.is at (c.in_ok-num-in-Again.ensures.does lines below h))

pub returns-in_ok-forget_at-in-Gone-clause-does : goal.returns-in_ok-forget_at-in-Gone-clause-does
returns-in_ok-forget_at-in-Gone-clause-does c = λ lines below h.
    does_gone c.args.self.now lines below c.args.node c.in-Some.field-0.turn.place c.in-Some.field-0.turn.cep c.in_ok-forget_at-in-Gone.field-0 c.forget_at.new.self (subst (λ (i : Item). IsTurn i c.args.self.now lines c.args.node c.in-Some.field-0.turn.place c.in-Some.field-0.turn.cep) c.in-Gone.is (c.in-Some.ensures lines below h)) (c.in_ok-forget_at-in-Gone.ensures.does lines below h)

pub returns-in-Some-2-clause-does : goal.returns-in-Some-2-clause-does
returns-in-Some-2-clause-does c = λ lines below h.
    does_give_up c.args.self.now lines below c.args.node c.in-Some.field-0.turn.place c.in-Some.field-0.turn.cep c.in-Some-2.num c.give_up_at.new.self (subst (λ (i : Item). IsTurn i c.args.self.now lines c.args.node c.in-Some.field-0.turn.place c.in-Some.field-0.turn.cep) c.in-GiveUp.is (c.in-Some.ensures lines below h)) (rw c.in-Some-2.is at (c.in_ok-num-in-GiveUp.ensures.does lines below h))

pub returns-in_ok-acknowledge_at-in-Ack-clause-does : goal.returns-in_ok-acknowledge_at-in-Ack-clause-does
returns-in_ok-acknowledge_at-in-Ack-clause-does c = λ lines below h.
    does_ack c.args.self.now lines below c.args.node c.in-Some.field-0.turn.place c.in-Some.field-0.turn.cep c.in_ok-acknowledge_at-in-Ack.field-0 c.acknowledge_at.new.self (subst (λ (i : Item). IsTurn i c.args.self.now lines c.args.node c.in-Some.field-0.turn.place c.in-Some.field-0.turn.cep) c.in-Ack.is (c.in-Some.ensures lines below h)) (c.in_ok-acknowledge_at-in-Ack.ensures.does lines below h)

pub returns-in-Some-3-clause-does : goal.returns-in-Some-3-clause-does
returns-in-Some-3-clause-does c = λ lines below h.
    does_again c.args.self.now lines below c.args.node c.in-Some.field-0.turn.place c.in-Some.field-0.turn.cep c.in-Some-3.num c.again_at.new.self (subst (λ (i : Item). IsTurn i c.args.self.now lines c.args.node c.in-Some.field-0.turn.place c.in-Some.field-0.turn.cep) c.in-Again.is (c.in-Some.ensures lines below h)) (rw c.in-Some-3.is at (c.in_ok-num-in-Again.ensures.does lines below h))

pub returns-in_err-forget_at-in-Gone-clause-leaves : goal.returns-in_err-forget_at-in-Gone-clause-leaves
returns-in_err-forget_at-in-Gone-clause-leaves c =
    let err = err_from_is_err_and c.from_residual.result c.from_residual.ensures.1 in
    clock_failed c.from_residual.result err.0 c.args.self.now c.forget_at.new.self (Some c.args.at) err.1 (none_changed (Some c.args.at) c.args.self.now c.forget_at.new.self (c.in_err-forget_at-in-Gone.ensures.does c.requires.stands.1.0 c.requires.stands.0 c.requires.stands.1.1))

pub returns-in_err-num-in-GiveUp-clause-leaves : goal.returns-in_err-num-in-GiveUp-clause-leaves
returns-in_err-num-in-GiveUp-clause-leaves c =
    let err = err_from_is_err_and c.from_residual-in_err-num-in-GiveUp.result c.from_residual-in_err-num-in-GiveUp.ensures.1 in
    clock_failed c.from_residual-in_err-num-in-GiveUp.result err.0 c.args.self.now c.give_up_at.new.self (Some c.args.at) err.1 c.in_err-num-in-GiveUp.ensures.leaves

pub returns-in_err-acknowledge_at-in-Ack-clause-leaves : goal.returns-in_err-acknowledge_at-in-Ack-clause-leaves
returns-in_err-acknowledge_at-in-Ack-clause-leaves c =
    let err = err_from_is_err_and c.from_residual-in_err-acknowledge_at-in-Ack.result c.from_residual-in_err-acknowledge_at-in-Ack.ensures.1 in
    clock_failed c.from_residual-in_err-acknowledge_at-in-Ack.result err.0 c.args.self.now c.acknowledge_at.new.self (Some c.args.at) err.1 (c.in_err-acknowledge_at-in-Ack.ensures.leaves)

pub returns-in_err-num-in-Again-clause-leaves : goal.returns-in_err-num-in-Again-clause-leaves
returns-in_err-num-in-Again-clause-leaves c =
    let err = err_from_is_err_and c.from_residual-in_err-num-in-Again.result c.from_residual-in_err-num-in-Again.ensures.1 in
    clock_failed c.from_residual-in_err-num-in-Again.result err.0 c.args.self.now c.again_at.new.self (Some c.args.at) err.1 (c.in_err-num-in-Again.ensures.leaves)

pub returns-in_ok-forget_at-in-Gone-clause-leaves : goal.returns-in_ok-forget_at-in-Gone-clause-leaves
returns-in_ok-forget_at-in-Gone-clause-leaves c =
    let d = c.args.self.now in
    let turn = c.in-Some.field-0.turn in
    let is = subst (λ (i : Item). IsTurn i d c.requires.stands.1.0 c.args.node turn.place turn.cep) c.in-Gone.is (c.in-Some.ensures c.requires.stands.1.0 c.requires.stands.0 c.requires.stands.1.1) in
    clocked_alone d c.forget_at.new.self c.args.at turn.cep turn.place (turn_of Gone d c.requires.stands.1.0 c.args.node c.args.at turn.place turn.cep c.requires.home is) c.in_ok-forget_at-in-Gone.ensures.leaves

pub returns-in-Some-2-clause-leaves : goal.returns-in-Some-2-clause-leaves
returns-in-Some-2-clause-leaves c =
    let d = c.args.self.now in
    let lines = c.requires.stands.1.0 in
    let below = c.requires.stands.0 in
    let turn = c.in-Some.field-0.turn in
    let here = turn_home _ d lines c.args.node c.args.at _ _ c.requires.home (c.in-Some.ensures lines below c.requires.stands.1.1) in
    clocked_alone d c.give_up_at.new.self c.args.at c.in-Some-2.num.cep turn.place (gives_up_of d lines below c.args.at turn.place c.in-Some-2.num c.give_up_at.new.self here (rw c.in-Some-2.is at (c.in_ok-num-in-GiveUp.ensures.does lines below c.requires.stands.1.1))) c.in_ok-num-in-GiveUp.ensures.leaves

pub returns-in_ok-acknowledge_at-in-Ack-clause-leaves : goal.returns-in_ok-acknowledge_at-in-Ack-clause-leaves
returns-in_ok-acknowledge_at-in-Ack-clause-leaves c =
    let d = c.args.self.now in
    let turn = c.in-Some.field-0.turn in
    let is = subst (λ (i : Item). IsTurn i d c.requires.stands.1.0 c.args.node turn.place turn.cep) c.in-Ack.is (c.in-Some.ensures c.requires.stands.1.0 c.requires.stands.0 c.requires.stands.1.1) in
    clocked_alone d c.acknowledge_at.new.self c.args.at turn.cep turn.place (turn_of Ack d c.requires.stands.1.0 c.args.node c.args.at turn.place turn.cep c.requires.home is) c.in_ok-acknowledge_at-in-Ack.ensures.leaves

pub returns-in-Some-3-clause-leaves : goal.returns-in-Some-3-clause-leaves
returns-in-Some-3-clause-leaves c =
    let d = c.args.self.now in
    let lines = c.requires.stands.1.0 in
    let below = c.requires.stands.0 in
    let turn = c.in-Some.field-0.turn in
    let here = turn_home _ d lines c.args.node c.args.at _ _ c.requires.home (c.in-Some.ensures lines below c.requires.stands.1.1) in
    clocked_alone d c.again_at.new.self c.args.at c.in-Some-3.num.cep turn.place (again_of d lines below c.args.at turn.place c.in-Some-3.num c.again_at.new.self here (rw c.in-Some-3.is at (c.in_ok-num-in-Again.ensures.does lines below c.requires.stands.1.1))) c.in_ok-num-in-Again.ensures.leaves

pub returns-in-Some-2-clause-manages : goal.returns-in-Some-2-clause-manages
returns-in-Some-2-clause-manages c = λ _seen.
    let d = c.args.self.now in
    let st = c.requires.stands in
    let turn = c.in-Some.field-0.turn in
    let here = turn_home _ d st.1.0 c.args.node c.args.at _ _ c.requires.home (c.in-Some.ensures st.1.0 st.0 st.1.1) in
    let gave = rw c.in-Some-2.is at (c.in_ok-num-in-GiveUp.ensures.does st.1.0 st.0 st.1.1) in
    let ends = rw c.in-Some-2.is at c.in_ok-num-in-GiveUp.ensures.manages in
    inl (flow_cep d st.1.0 st.0 turn.place c.in-Some-2.num.cep here.end gave.given_up.ids st.1.1 here.is_end gave.given_up.ids_are here.allocated gave.cep, gave_up_managed d st.1.0 st.0 c.args.at turn.place c.in-Some-2.num c.give_up_at.new.self c.give_up_at.new.self.managements here gave ends)

pub returns-in_err-num-in-GiveUp-clause-manages : goal.returns-in_err-num-in-GiveUp-clause-manages
returns-in_err-num-in-GiveUp-clause-manages c = λ seen.
    let d = c.args.self.now in
    let st = c.requires.stands in
    let turn = c.in-Some.field-0.turn in
    let here = turn_home _ d st.1.0 c.args.node c.args.at _ _ c.requires.home (c.in-Some.ensures st.1.0 st.0 st.1.1) in
    let err = err_from_is_err_and c.from_residual-in_err-num-in-GiveUp.result c.from_residual-in_err-num-in-GiveUp.ensures.1 in
    told_managed d seen c.args.at turn.place c.args.node c.from_residual-in_err-num-in-GiveUp.result err.0 c.give_up_at.new.self.managements here c.in_err-num-in-GiveUp.ensures.manages err.2 err.1
