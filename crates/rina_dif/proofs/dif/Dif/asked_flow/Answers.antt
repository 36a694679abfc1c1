use Rattle.std.proofs.Common.{◌≡◌, ◌∙◌, Some, arith, ap, sym}
use Rattle.std.proofs.lemmas.Result.{err_from_is_err_and}
use Rattle.rina_dif_law.specs.Dif.{fac_of}
use Rattle.rina_dif_law.specs.Numbered.{asked_at}
use Rattle.rina_iface.specs.Allocate.{refused_in}
use Rattle.rina_dif.specs.Allocating.{allocate_refusal}
use Rattle.rina_dif.specs.Elsewhere.{enrolled_home}
use Rattle.rina_dif.specs.Shown.{seen_of}
use Rattle.rina_dif.proofs.FarAdded.{unspent}
use Rattle.rina_dif.proofs.Refusing.{by_member, no_cube, no_member}
use Rattle.rina_dif.proofs.Requested.{asked_few, free_member, is_offered, is_wanted, no_offer, some_offer, told_err}
use Rattle.rina_dif.proofs.Unlinked.{has_agent}
use Rattle.rina_dif.proofs.dif.Dif.asked_flow.Goals as goal

pub returns-in_default-clause-refuses : goal.returns-in_default-clause-refuses
returns-in_default-clause-refuses c =
    let d = c.args.self.now in
    no_member d c.args.ask.now (allocate_refusal d c.args.ask.now) c.requires (sym c.enrolled_place.ensures.place ∙ c.in_default.is)

pub returns-in_default-cube_for-clause-refuses : goal.returns-in_default-cube_for-clause-refuses
returns-in_default-cube_for-clause-refuses c =
    let d = c.args.self.now in
    let ask = c.args.ask.now in
    no_cube d ask (allocate_refusal d ask) c.in-Some.at (sym c.enrolled_place.ensures.place ∙ c.in-Some.is) (no_offer d ask c.as_slice.result.now c.requires c.as_slice.ensures (sym c.cube_for.ensures ∙ c.in_default-cube_for.is))

pub returns-in_err-far-clause-refuses : goal.returns-in_err-far-clause-refuses
returns-in_err-far-clause-refuses c =
    let d = c.args.self.now in
    let ask = c.args.ask.now in
    let here : enrolled_home d ask.node ≡ Some c.in-Some.at = sym c.enrolled_place.ensures.place ∙ c.in-Some.is in
    let m = has_agent d c.requires.stands.0 c.requires.below c.in-Some.at c.in-Some.ensures.within c.requires.stands.1 in
    let first = some_offer d ask c.as_slice.result.now c.in-Some-cube_for.cube c.requires c.as_slice.ensures (sym c.cube_for.ensures ∙ c.in-Some-cube_for.is) in
    let err = err_from_is_err_and c.from_residual.result c.from_residual.ensures.1 in
    told_err c.from_residual.result (refused_in (Some (fac_of (seen_of d))) ask (allocate_refusal d ask)) err.0 c.in_err-far.field-0.0 err.1 err.2 (by_member d ask c.in-Some.at m.0 here (is_offered d ask c.in-Some-cube_for.cube first) m.1 ∙ c.in_err-far.ensures.refuses m.0 m.1)

pub next_end-near-requires-clause-room : goal.next_end-near-requires-clause-room
next_end-near-requires-clause-room c =
    let d = c.args.self.now in
    let ask = c.args.ask.now in
    let m = has_agent d c.requires.stands.0 c.requires.below c.in-Some.at c.in-Some.ensures.within c.requires.stands.1 in
    (free_member d c.in-Some.at ask.node ask.to m.0 c.in_ok-far.far (c.in_ok-far.ensures.finds m.0 m.1) (c.in_ok-far.ensures.refuses m.0 m.1)).room

pub overflow_cast-flow : goal.overflow_cast-flow
overflow_cast-flow c =
    let d = c.args.self.now in
    let ask = c.args.ask.now in
    let m = has_agent d c.requires.stands.0 c.requires.below c.in-Some.at c.in-Some.ensures.within c.requires.stands.1 in
    let free = free_member d c.in-Some.at ask.node ask.to m.0 c.in_ok-far.far (c.in_ok-far.ensures.finds m.0 m.1) (c.in_ok-far.ensures.refuses m.0 m.1) in
    let few = asked_few d c.in-Some.at ask.node c.asked.result (unspent d c.requires c.in-Some.at ask.node c.in-Some.ensures.within free.room) (c.asked.ensures ∙ ap (asked_at ask.node) c.as_slice-2.ensures) in
    omega (arith, few)

pub returns-clause-refuses : goal.returns-clause-refuses
returns-clause-refuses c =
    let d = c.args.self.now in
    let ask = c.args.ask.now in
    let here : enrolled_home d ask.node ≡ Some c.in-Some.at = sym c.enrolled_place.ensures.place ∙ c.in-Some.is in
    let m = has_agent d c.requires.stands.0 c.requires.below c.in-Some.at c.in-Some.ensures.within c.requires.stands.1 in
    let first = some_offer d ask c.as_slice.result.now c.in-Some-cube_for.cube c.requires c.as_slice.ensures (sym c.cube_for.ensures ∙ c.in-Some-cube_for.is) in
    by_member d ask c.in-Some.at m.0 here (is_offered d ask c.in-Some-cube_for.cube first) m.1 ∙ c.in_ok-far.ensures.refuses m.0 m.1

pub returns-clause-wanted : goal.returns-clause-wanted
returns-clause-wanted c =
    let d = c.args.self.now in
    let ask = c.args.ask.now in
    let here : enrolled_home d ask.node ≡ Some c.in-Some.at = sym c.enrolled_place.ensures.place ∙ c.in-Some.is in
    let m = has_agent d c.requires.stands.0 c.requires.below c.in-Some.at c.in-Some.ensures.within c.requires.stands.1 in
    let first = some_offer d ask c.as_slice.result.now c.in-Some-cube_for.cube c.requires c.as_slice.ensures (sym c.cube_for.ensures ∙ c.in-Some-cube_for.is) in
    let finds = c.in_ok-far.ensures.finds m.0 m.1 in
    let free = free_member d c.in-Some.at ask.node ask.to m.0 c.in_ok-far.far finds (c.in_ok-far.ensures.refuses m.0 m.1) in
    is_wanted d ask c.in-Some.at c.asked.result c.next_end-near.result c.in-Some-cube_for.cube c.in_ok-far.far m.0 here c.next_end-near.ensures (c.asked.ensures ∙ ap (asked_at ask.node) c.as_slice-2.ensures) first m.1 finds free
