use Rattle.std.proofs.Common.{◌∙◌, ◌-◌, ◌^◌, ◌<◌, arith, [], ◌∷◌, ◌++◌, Err, Ok, ap, refl, subst, sym, Some}
use Rattle.std.proofs.lemmas.Option.{none-some, same_Some, slice_get_within}
use Rattle.std.proofs.lemmas.Result.{err_from_is_err_and}
use Rattle.rina_data.specs.declared.settings.Member.{Member}
use Rattle.rina_iface.specs.Ends.{drawn_at}
use Rattle.rina_dif.specs.declared.dif.Dif.{Dif}
use Rattle.rina_dif.proofs.FarAdded.{unspent}
use Rattle.rina_dif.proofs.FarMakes.{kept_makes, kept_shown, kept_undrawn, kept_unshown, kept_waiting, makes_far, makes_valid}
use Rattle.rina_dif.proofs.FlowWalk.{leaves_added, leaves_none, leaves_same}
use Rattle.rina_dif.proofs.dif.Dif.make_far.Goals as goal

pub far_end-requires-clause-room : goal.far_end-requires-clause-room
far_end-requires-clause-room c = λ m is.
    let d = c.args.self.now in
    let can = c.requires.can in
    let lt = slice_get_within d.settings.members c.args.at can.member can.stands in
    subst (λ (z : Member). drawn_at z.node d.flows.journal.ends < 2 ^ 32 - 1) (same_Some can.member m (sym can.stands ∙ is)) (unspent d c.requires.valid c.args.at can.member.node lt can.room).few

pub unreachable-requires : goal.unreachable-requires
unreachable-requires c =
    let d = c.args.self.now in
    let can = c.requires.can in
    let u = unspent d c.requires.valid c.args.at can.member.node (slice_get_within d.settings.members c.args.at can.member can.stands) can.room in
    none-some u.cep (sym c.in_default.is ∙ c.free.ensures u.ids u.are_ids ∙ u.free)

pub address_at-requires : goal.address_at-requires
address_at-requires c = slice_get_within c.args.self.now.settings.members c.args.at c.requires.can.member c.requires.can.stands

pub show_flow-requires : goal.show_flow-requires
show_flow-requires c =
    let lt = slice_get_within c.args.self.now.settings.members c.args.at c.requires.can.member c.requires.can.stands in
    let many = c.requires.valid.stands.1.managed.aligned in
    omega (arith, lt, many)

pub draw_far-requires-clause-draws : goal.draw_far-requires-clause-draws
draw_far-requires-clause-draws c =
    let d = c.args.self.now in
    let can = c.requires.can in
    let u = unspent d c.requires.valid c.args.at can.member.node (slice_get_within d.settings.members c.args.at can.member can.stands) can.room in
    record { ids = u.ids; are_ids = u.are_ids; least = sym (c.free.ensures u.ids u.are_ids) ∙ c.in-Some.is }

pub returns-in_err-reserve-clause-does : goal.returns-in_err-reserve-clause-does
returns-in_err-reserve-clause-does c = λ lines below h.
    let d = c.args.self.now in
    let err = err_from_is_err_and c.from_residual-in_err-reserve.result c.from_residual-in_err-reserve.ensures.1 in
    kept_makes d (record d { waiting = c.reserve.new.self }) lines below c.args.at c.args.place _ err.0 err.1 (kept_waiting d c.reserve.new.self lines below c.reserve.ensures.items h)

pub returns-in_err-reserve-clause-valid : goal.returns-in_err-reserve-clause-valid
returns-in_err-reserve-clause-valid c =
    let d = c.args.self.now in
    makes_valid d (record d { waiting = c.reserve.new.self }) c.args.at c.args.place (Err _) c.requires.valid (λ lines below h. kept_waiting d c.reserve.new.self lines below c.reserve.ensures.items h) refl

pub returns-in_err-show_flow-clause-does : goal.returns-in_err-show_flow-clause-does
returns-in_err-show_flow-clause-does c = λ lines below h.
    let d = c.args.self.now in
    let err = err_from_is_err_and c.from_residual-in_err-show_flow.result c.from_residual-in_err-show_flow.ensures.1 in
    let same = c.in_err-show_flow.ensures.err in
    let d' : Dif = record d { waiting = c.reserve.new.self; managements = c.show_flow.new.self } in
    kept_makes d d' lines below c.args.at c.args.place _ err.0 err.1 (kept_unshown d c.reserve.new.self c.show_flow.new.self lines below c.reserve.ensures.items same h)

pub returns-in_err-show_flow-clause-valid : goal.returns-in_err-show_flow-clause-valid
returns-in_err-show_flow-clause-valid c =
    let d = c.args.self.now in
    let same = c.in_err-show_flow.ensures.err in
    makes_valid d (record d { waiting = c.reserve.new.self; managements = c.show_flow.new.self }) c.args.at c.args.place (Err _) c.requires.valid (λ lines below h. kept_unshown d c.reserve.new.self c.show_flow.new.self lines below c.reserve.ensures.items same h) refl

pub returns-in_err-draw_far-clause-does : goal.returns-in_err-draw_far-clause-does
returns-in_err-draw_far-clause-does c = λ lines below h.
    let d = c.args.self.now in
    let err = err_from_is_err_and c.from_residual-in_err-draw_far.result c.from_residual-in_err-draw_far.ensures.1 in
    let d1 : Dif = record d { waiting = c.reserve.new.self; managements = c.show_flow.new.self } in
    kept_makes d c.draw_far.new.self lines below c.args.at c.args.place _ err.0 err.1 (kept_undrawn d d1 c.draw_far.new.self lines below c.in_err-draw_far.ensures.err (kept_shown d c.reserve.new.self c.args.at c.in-Some.cep c.show_flow.new.self lines below c.reserve.ensures.items c.in_ok-show_flow.ensures.ok h))

pub returns-in_err-draw_far-clause-valid : goal.returns-in_err-draw_far-clause-valid
returns-in_err-draw_far-clause-valid c =
    let d = c.args.self.now in
    let d1 : Dif = record d { waiting = c.reserve.new.self; managements = c.show_flow.new.self } in
    makes_valid d c.draw_far.new.self c.args.at c.args.place (Err _) c.requires.valid
    (λ lines below h. kept_undrawn d d1 c.draw_far.new.self lines below c.in_err-draw_far.ensures.err (kept_shown d c.reserve.new.self c.args.at c.in-Some.cep c.show_flow.new.self lines below c.reserve.ensures.items c.in_ok-show_flow.ensures.ok h))
    (ap (λ (z : Dif). z.clock) c.in_err-draw_far.ensures.err)

pub returns-clause-does : goal.returns-clause-does
returns-clause-does c = λ lines below h.
    let d = c.args.self.now in
    let can = c.requires.can in
    let had = ap (λ (z : Dif). z.waiting.items) c.in_ok-draw_far.ensures.ok.whole ∙ c.reserve.ensures.items in
    let behind = c.len-behind.ensures.value in
    let waits = c.push_reserved.ensures.items ∙ (λ i. had i ++ behind i ∷ []) in
    makes_far d c.args.at c.args.place c.args.from c.args.ask.now can c.in-Some.cep c.address_at.result c.in_ok-end.end c.reserve.new.self c.push_reserved.new.self c.show_flow.new.self c.draw_far.new.self (c.address_at.ensures can.member can.stands) (c.in_ok-end.ensures can.member can.stands) waits c.in_ok-show_flow.ensures.ok c.in_ok-draw_far.ensures.ok lines below h

pub returns-clause-valid : goal.returns-clause-valid
returns-clause-valid c =
    let d = c.args.self.now in
    let can = c.requires.can in
    let had = ap (λ (z : Dif). z.waiting.items) c.in_ok-draw_far.ensures.ok.whole ∙ c.reserve.ensures.items in
    let behind = c.len-behind.ensures.value in
    let waits = c.push_reserved.ensures.items ∙ (λ i. had i ++ behind i ∷ []) in
    makes_valid d (record c.draw_far.new.self { waiting = c.push_reserved.new.self }) c.args.at c.args.place (Ok tt) c.requires.valid
    (λ lines below h. makes_far d c.args.at c.args.place c.args.from c.args.ask.now can c.in-Some.cep c.address_at.result c.in_ok-end.end c.reserve.new.self c.push_reserved.new.self c.show_flow.new.self c.draw_far.new.self (c.address_at.ensures can.member can.stands) (c.in_ok-end.ensures can.member can.stands) waits c.in_ok-show_flow.ensures.ok c.in_ok-draw_far.ensures.ok lines below h)
    (ap (λ (z : Dif). z.clock) c.in_ok-draw_far.ensures.ok.whole)

pub returns-in_err-end-clause-leaves : goal.returns-in_err-end-clause-leaves
returns-in_err-end-clause-leaves c = leaves_none (Some c.args.at) c.args.self.now

pub returns-in_err-reserve-clause-leaves : goal.returns-in_err-reserve-clause-leaves
returns-in_err-reserve-clause-leaves c = leaves_same (Some c.args.at) c.args.self.now (record c.args.self.now { waiting = c.reserve.new.self }) refl refl

pub returns-in_err-show_flow-clause-leaves : goal.returns-in_err-show_flow-clause-leaves
returns-in_err-show_flow-clause-leaves c = leaves_same (Some c.args.at) c.args.self.now (record c.args.self.now { waiting = c.reserve.new.self; managements = c.show_flow.new.self }) refl refl

pub returns-in_err-draw_far-clause-leaves : goal.returns-in_err-draw_far-clause-leaves
returns-in_err-draw_far-clause-leaves c = leaves_same (Some c.args.at) c.args.self.now c.draw_far.new.self (ap (λ (z : Dif). z.flows) c.in_err-draw_far.ensures.err) (ap (λ (z : Dif). z.processes) c.in_err-draw_far.ensures.err)

pub returns-clause-leaves : goal.returns-clause-leaves
returns-clause-leaves c =
    let drawn = c.in_ok-draw_far.ensures.ok in
    leaves_added (Some c.args.at) c.args.self.now (record c.draw_far.new.self { waiting = c.push_reserved.new.self }) c.in_ok-end.end c.requires.valid drawn.adds.ends drawn.adds.keeps (ap (λ (z : Dif). z.processes) drawn.whole)
