use Rattle.std.proofs.Common.{◌≡◌, None, Option, Some, Result, Err, Ok, refl, subst, sym}
use Rattle.std.specs.Prelude.{OnErr}
use Rattle.std.proofs.lemmas.Result.{err_from_is_err_and}
use Rattle.rina_base.specs.declared.memory.Memory.{Memory}
use Rattle.rina_base.specs.declared.number.Num.{Num}
use Rattle.rina_flows.specs.Timely.{GivesUpIn}
use Rattle.rina_member.specs.Managements.{with_objects}
use Rattle.rina_member.specs.Objects.{removed}
use Rattle.rina_dif.specs.declared.dif.Dif.{Dif}
use Rattle.rina_dif.specs.Elsewhere.{ChangesOnly, WhenOk}
use Rattle.rina_dif.specs.Timely.{GivesUpAs}
use Rattle.rina_dif_law.specs.Places.{IsUp}
use Rattle.rina_dif.proofs.GivenBack.{used_there}
use Rattle.rina_dif.proofs.Elsewhere.{ledger_leaves, none_changed}
use Rattle.rina_dif.proofs.Lapsed.{conn_there, end_there, gives_up, gives_up_not, process_there}
use Rattle.rina_dif.proofs.Showing.{gives_up_shown, objects_agents}
use Rattle.rina_dif.proofs.dif.Dif.fail_at.Goals as goal

pub name_of_flow-requires : goal.name_of_flow-requires
name_of_flow-requires c = conn_there c.args.self.now c.requires.stands.0 c.args.at c.args.place c.requires.stands.1 c.requires.here

pub give_up-requires-clause-at : goal.give_up-requires-clause-at
give_up-requires-clause-at c = process_there c.args.self.now c.requires.stands.0 c.args.at c.requires.stands.1 c.requires.at

pub give_up-requires-clause-end : goal.give_up-requires-clause-end
give_up-requires-clause-end c = end_there c.args.self.now c.args.at c.args.place c.requires.here

pub give_up-requires-clause-conn : goal.give_up-requires-clause-conn
give_up-requires-clause-conn c = conn_there c.args.self.now c.requires.stands.0 c.args.at c.args.place c.requires.stands.1 c.requires.here

pub returns-in_err-num-clause-does : goal.returns-in_err-num-clause-does
returns-in_err-num-clause-does c = λ lines below h.
    let d = c.args.self.now in
    let d' : Dif = record d { processes = c.give_up.new.self; flows = c.give_up.new.flows } in
    let err = err_from_is_err_and c.from_residual-in_err-num.result c.from_residual-in_err-num.ensures.1 in
    subst (λ (v : Result (Option Num) Memory). GivesUpAs d lines below c.args.place v d') (sym err.1) (gives_up d c.args.at c.args.place (Err _) c.give_up.new.flows c.give_up.new.self c.requires.at c.requires.here c.in_err-num.ensures.gives_up c.rest_at-rest.result d.ids c.rest_at-rest.ensures refl lines below h)

pub returns-in_err-num-clause-err : goal.returns-in_err-num-clause-err
returns-in_err-num-clause-err c =
    let d = c.args.self.now in
    let d' : Dif = record d { processes = c.give_up.new.self; flows = c.give_up.new.flows } in
    let err = err_from_is_err_and c.from_residual-in_err-num.result c.from_residual-in_err-num.ensures.1 in
    subst (λ (v : Result (Option Num) Memory). OnErr v (d' ≡ d)) (sym err.1) (gives_up_not d c.requires.stands.0 c.args.at c.args.place _ c.give_up.new.flows c.give_up.new.self c.requires.stands.1 c.requires.at c.in_err-num.ensures.gives_up)

pub returns-in_err-num-clause-leaves : goal.returns-in_err-num-clause-leaves
returns-in_err-num-clause-leaves c =
    let d = c.args.self.now in
    let d' : Dif = record d { processes = c.give_up.new.self; flows = c.give_up.new.flows } in
    let err = err_from_is_err_and c.from_residual-in_err-num.result c.from_residual-in_err-num.ensures.1 in
    subst (λ (v : Result (Option Num) Memory). ChangesOnly (λ i. WhenOk v (i ≡ c.args.place)) (Some c.args.at) d d') (sym err.1) (none_changed (Some c.args.at) d d' (gives_up_not d c.requires.stands.0 c.args.at c.args.place _ c.give_up.new.flows c.give_up.new.self c.requires.stands.1 c.requires.at c.in_err-num.ensures.gives_up))

pub returns-in-Some-clause-does : goal.returns-in-Some-clause-does
returns-in-Some-clause-does c = λ lines below h.
    let d = c.args.self.now in
    let d' : Dif = record d { processes = c.give_up.new.self; flows = c.give_up.new.flows; ids = c.give_back.new.self } in
    let gave = gives_up d c.args.at c.args.place (Ok (Some c.in-Some.num)) c.give_up.new.flows c.give_up.new.self c.requires.at c.requires.here (rw c.in-Some.is at c.in_ok-num.ensures.gives_up) c.rest_at-rest.result c.give_back.new.self c.rest_at-rest.ensures c.give_back.ensures lines below h in
    gives_up_shown d d' lines below c.args.place c.in-Some.num c.remove.new.self (objects_agents c.args.at (λ m. with_objects m (removed m.objects c.as_slice.result.now)) d.managements c.remove.new.self (λ m. refl) c.remove.ensures) gave

pub returns-in-Some-clause-leaves : goal.returns-in-Some-clause-leaves
returns-in-Some-clause-leaves c = (c.give_up.ensures.leaves, ledger_leaves (λ f l f' l'. GivesUpIn c.args.self.now.clock c.args.place f l c.give_up.result f' l') c.args.self.now c.requires.stands.0 c.args.at c.give_up.new.flows c.give_up.new.self c.requires.stands.1 c.requires.at c.give_up.ensures.gives_up)

pub returns-clause-does : goal.returns-clause-does
returns-clause-does c = λ lines below h.
    let d = c.args.self.now in
    gives_up d c.args.at c.args.place (Ok None) c.give_up.new.flows c.give_up.new.self c.requires.at c.requires.here (rw c.in-None.is at c.in_ok-num.ensures.gives_up) c.rest_at-rest.result d.ids c.rest_at-rest.ensures refl lines below h

pub returns-clause-leaves : goal.returns-clause-leaves
returns-clause-leaves c = (c.give_up.ensures.leaves, ledger_leaves (λ f l f' l'. GivesUpIn c.args.self.now.clock c.args.place f l c.give_up.result f' l') c.args.self.now c.requires.stands.0 c.args.at c.give_up.new.flows c.give_up.new.self c.requires.stands.1 c.requires.at c.give_up.ensures.gives_up)

pub give_back-requires-clause-used : goal.give_back-requires-clause-used
give_back-requires-clause-used c =
    let st = c.requires.stands in
    let here = c.requires.here in
    used_there c.args.self.now st.1.0 st.0 st.1.1 c.args.at c.args.place here.end c.rest_at-rest.result here.is_end (subst IsUp (sym here.allocated) tt) here.at_home c.rest_at-rest.ensures
