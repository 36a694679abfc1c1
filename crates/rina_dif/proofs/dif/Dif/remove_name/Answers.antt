use Rattle.std.proofs.Common.{◌≡◌, ◌∙◌, List, Some, None, Result, Err, ap, refl, sym, subst}
use Rattle.std.proofs.lemmas.Result.{err_from_is_err_and}
use Rattle.rina_iface.specs.declared.ask.Registered.{Registered}
use Rattle.rina_iface.specs.declared.error.UnregisterError.{UnregisterError}
use Rattle.rina_iface.specs.declared.error.UnregisterError.TheVariants as unregister
use Rattle.rina_iface.specs.Unregister.{Unregisters, name_place}
use Rattle.rina_dif.specs.Elsewhere.{enrolled_home}
use Rattle.rina_dif.specs.Facade.{shown_as}
use Rattle.rina_dif.specs.Registering.{unregister_refusal}
use Rattle.rina_dif.proofs.Facing.{same_goes_on}
use Rattle.rina_dif.proofs.Naming.{refused_absent, unregister_off}
use Rattle.rina_dif.proofs.Refused.{unregisters}
use Rattle.rina_dif.proofs.Registered.{HasUnregistered, name_dropped, name_removed, with_names}
use Rattle.rina_dif.proofs.Unlinked.{has_agent}
use Rattle.rina_dif.proofs.dif.Dif.remove_name.Goals as goal

pub returns-in_default-clause-shown : goal.returns-in_default-clause-shown
returns-in_default-clause-shown c = λ s n h.
    let d = c.args.self.now in
    let own = unregister_refusal d c.args.node in
    let none : name_place d.names c.args.node c.args.app.now ≡ None = ap (λ (xs : List Registered). name_place xs c.args.node c.args.app.now) (sym c.as_slice.ensures) ∙ sym c.name_place.ensures.at ∙ c.in_default.is in
    unregisters own s n d c.args.node c.args.app.now unregister.NotThere (refused_absent d c.args.node c.args.app.now own none) h

pub returns-in_default-clause-goes_on : goal.returns-in_default-clause-goes_on
returns-in_default-clause-goes_on c = same_goes_on c.args.self.now c.args.self.now c.requires refl

-- where no enrolled member stands on the node
has_dropped : (c : goal.After-remove_at) → HasUnregistered c.args.self.now c.args.node c.args.app.now (with_names c.args.self.now c.remove_at.new.names c.args.self.now.managements)
has_dropped c =
    let d = c.args.self.now in
    let there : name_place d.names c.args.node c.args.app.now ≡ Some c.in-Some.place = ap (λ (xs : List Registered). name_place xs c.args.node c.args.app.now) (sym c.as_slice.ensures) ∙ sym c.name_place.ensures.at ∙ c.in-Some.is in
    let none : enrolled_home d c.args.node ≡ None = sym c.enrolled_place.ensures.place ∙ c.in_default-enrolled_place.is in
    name_dropped d c.args.node c.in-Some.place c.args.app.now c.remove_at.new.names c.requires there none c.remove_at.ensures

pub returns-in_default-enrolled_place-clause-valid : goal.returns-in_default-enrolled_place-clause-valid
returns-in_default-enrolled_place-clause-valid c = (has_dropped c).valid

pub returns-in_default-enrolled_place-clause-shown : goal.returns-in_default-enrolled_place-clause-shown
returns-in_default-enrolled_place-clause-shown c = (has_dropped c).shown

pub returns-in_default-enrolled_place-clause-goes_on : goal.returns-in_default-enrolled_place-clause-goes_on
returns-in_default-enrolled_place-clause-goes_on c = (has_dropped c).goes_on

pub returns-in_default-enrolled_place-clause-stands : goal.returns-in_default-enrolled_place-clause-stands
returns-in_default-enrolled_place-clause-stands c = (has_dropped c).stands

pub returns-in_err-after-clause-shown : goal.returns-in_err-after-clause-shown
returns-in_err-after-clause-shown c = λ s n h.
    let d = c.args.self.now in
    let is = c.requires in
    let there : name_place d.names c.args.node c.args.app.now ≡ Some c.in-Some.place = ap (λ (xs : List Registered). name_place xs c.args.node c.args.app.now) (sym c.as_slice.ensures) ∙ sym c.name_place.ensures.at ∙ c.in-Some.is in
    let here : enrolled_home d c.args.node ≡ Some c.in-Some-enrolled_place.at = sym c.enrolled_place.ensures.place ∙ c.in-Some-enrolled_place.is in
    let g = has_agent d is.stands.0 is.below c.in-Some-enrolled_place.at c.in-Some-enrolled_place.ensures.within is.stands.1 in
    let err = err_from_is_err_and c.from_residual.result c.from_residual.ensures.1 in
    subst (λ (z : Result (Unit {0}) UnregisterError). Unregisters (unregister_refusal d c.args.node) s n c.args.node c.args.app.now z (shown_as s n d)) (sym (err.1 ∙ ap (λ (x : UnregisterError). Err x) err.2))
    (unregister_off s n d c.args.node c.in-Some-enrolled_place.at c.in-Some.place c.args.app.now g.0 _ there here g.1 (c.in_err-after.ensures g.0 g.1) h)

pub returns-in_err-after-clause-goes_on : goal.returns-in_err-after-clause-goes_on
returns-in_err-after-clause-goes_on c = same_goes_on c.args.self.now c.args.self.now c.requires refl

-- what is done
has_unregistered : (c : goal.After-remove_at-2) → HasUnregistered c.args.self.now c.args.node c.args.app.now (with_names c.args.self.now c.remove_at-2.new.names c.set.new.self)
has_unregistered c =
    let d = c.args.self.now in
    let there : name_place d.names c.args.node c.args.app.now ≡ Some c.in-Some.place = ap (λ (xs : List Registered). name_place xs c.args.node c.args.app.now) (sym c.as_slice.ensures) ∙ sym c.name_place.ensures.at ∙ c.in-Some.is in
    let here : enrolled_home d c.args.node ≡ Some c.in-Some-enrolled_place.at = sym c.enrolled_place.ensures.place ∙ c.in-Some-enrolled_place.is in
    name_removed d c.args.node c.in-Some-enrolled_place.at c.in-Some.place c.args.app.now c.in_ok-after.after c.remove_at-2.new.names c.set.new.self c.requires there here c.in-Some-enrolled_place.ensures.within c.is_formed.ensures c.in_ok-after.ensures c.remove_at-2.ensures c.set.ensures

pub returns-clause-valid : goal.returns-clause-valid
returns-clause-valid c = (has_unregistered c).valid

pub returns-clause-shown : goal.returns-clause-shown
returns-clause-shown c = (has_unregistered c).shown

pub returns-clause-manages : goal.returns-clause-manages
returns-clause-manages c = (has_unregistered c).manages

pub returns-clause-goes_on : goal.returns-clause-goes_on
returns-clause-goes_on c = (has_unregistered c).goes_on

pub returns-clause-stands : goal.returns-clause-stands
returns-clause-stands c = (has_unregistered c).stands
