use Rattle.std.proofs.Common.{◌≡◌, ◌∙◌, ◌++◌, ◌∷◌, ℕ, List, [], Some, None, Result, Err, true, false, ap, refl, sym, subst}
use Rattle.std.proofs.lemmas.Result.{err_from_is_err_and}
use Rattle.rina_iface.specs.declared.ask.Registered.{Registered}
use Rattle.rina_iface.specs.declared.error.RegisterError.{RegisterError}
use Rattle.rina_iface.specs.declared.error.RegisterError.TheVariants as register
use Rattle.rina_iface.specs.Register.{Registers, with_name}
use Rattle.rina_iface.specs.Seen.{is_registered}
use Rattle.rina_dif.specs.Elsewhere.{enrolled_home}
use Rattle.rina_dif.specs.Facade.{StaysStanding, shown_as}
use Rattle.rina_dif.specs.Registering.{register_refusal}
use Rattle.rina_dif.specs.Shown.{seen_of}
use Rattle.rina_dif.proofs.Facing.{same_goes_on}
use Rattle.rina_dif.proofs.Naming.{refused_named, refused_nowhere, register_off, register_wants}
use Rattle.rina_dif.proofs.Refused.{registers}
use Rattle.rina_dif.proofs.Registered.{HasRegistered, name_added, with_names}
use Rattle.rina_dif.proofs.Unlinked.{has_agent}
use Rattle.rina_dif.proofs.dif.Dif.add_name.Goals as goal

pub returns-then-is_registered-clause-shown : goal.returns-then-is_registered-clause-shown
returns-then-is_registered-clause-shown c = λ s n h.
    let d = c.args.self.now in
    let own = register_refusal d c.args.node in
    let named : is_registered d.names c.args.node c.args.app.now ≡ true = ap (λ (xs : List Registered). is_registered xs c.args.node c.args.app.now) (sym c.as_slice.ensures) ∙ sym c.is_registered.ensures ∙ c.if-is_registered.true in
    registers own s n d c.args.node c.args.app.now register.Already (refused_named d c.args.node c.args.app.now own named) h

pub returns-then-is_registered-clause-goes_on : goal.returns-then-is_registered-clause-goes_on
returns-then-is_registered-clause-goes_on c = same_goes_on c.args.self.now c.args.self.now c.requires refl

pub returns-in_default-clause-shown : goal.returns-in_default-clause-shown
returns-in_default-clause-shown c = λ s n h.
    let d = c.args.self.now in
    let own = register_refusal d c.args.node in
    let new : is_registered d.names c.args.node c.args.app.now ≡ false = ap (λ (xs : List Registered). is_registered xs c.args.node c.args.app.now) (sym c.as_slice.ensures) ∙ sym c.is_registered.ensures ∙ c.if-is_registered.false in
    let none : enrolled_home d c.args.node ≡ None = sym c.enrolled_place.ensures.place ∙ c.in_default.is in
    registers own s n d c.args.node c.args.app.now register.NoMember (refused_nowhere d c.args.node c.args.app.now own c.requires new none) h

pub returns-in_default-clause-goes_on : goal.returns-in_default-clause-goes_on
returns-in_default-clause-goes_on c = same_goes_on c.args.self.now c.args.self.now c.requires refl

pub returns-in_err-after-clause-shown : goal.returns-in_err-after-clause-shown
returns-in_err-after-clause-shown c = λ s n h.
    let d = c.args.self.now in
    let is = c.requires in
    let new : is_registered d.names c.args.node c.args.app.now ≡ false = ap (λ (xs : List Registered). is_registered xs c.args.node c.args.app.now) (sym c.as_slice.ensures) ∙ sym c.is_registered.ensures ∙ c.if-is_registered.false in
    let here : enrolled_home d c.args.node ≡ Some c.in-Some.at = sym c.enrolled_place.ensures.place ∙ c.in-Some.is in
    let g = has_agent d is.stands.0 is.below c.in-Some.at c.in-Some.ensures.within is.stands.1 in
    let err = err_from_is_err_and c.from_residual.result c.from_residual.ensures.1 in
    subst (λ (z : Result (Unit {0}) RegisterError). Registers (register_refusal d c.args.node) s n c.args.node c.args.app.now z (shown_as s n d)) (sym (err.1 ∙ ap (λ (x : RegisterError). Err x) err.2))
    (register_off s n d c.args.node c.in-Some.at c.args.app.now g.0 _ new here g.1 (c.in_err-after.ensures g.0 g.1) h)

pub returns-in_err-after-clause-goes_on : goal.returns-in_err-after-clause-goes_on
returns-in_err-after-clause-goes_on c = same_goes_on c.args.self.now c.args.self.now c.requires refl

pub returns-in_err-app-clause-shown : goal.returns-in_err-app-clause-shown
returns-in_err-app-clause-shown c = λ s n h.
    let d = c.args.self.now in
    let err = err_from_is_err_and c.from_residual-in_err-app.result c.from_residual-in_err-app.ensures.1 in
    register_wants (register_refusal d c.args.node) s n d d c.args.node c.args.app.now c.from_residual-in_err-app.result err.0 err.1 err.2 refl h

pub returns-in_err-app-clause-goes_on : goal.returns-in_err-app-clause-goes_on
returns-in_err-app-clause-goes_on c = same_goes_on c.args.self.now c.args.self.now c.requires refl

pub returns-in_err-push-clause-shown : goal.returns-in_err-push-clause-shown
returns-in_err-push-clause-shown c = λ s n h.
    let d = c.args.self.now in
    let err = err_from_is_err_and c.from_residual-in_err-push.result c.from_residual-in_err-push.ensures.1 in
    let same = ap (λ (xs : List Registered). seen_of (record d { names = xs })) c.in_err-push.ensures.err in
    register_wants (register_refusal d c.args.node) s n d (record d { names = c.push.new.self }) c.args.node c.args.app.now c.from_residual-in_err-push.result err.0 err.1 err.2 same h

pub returns-in_err-push-clause-goes_on : goal.returns-in_err-push-clause-goes_on
returns-in_err-push-clause-goes_on c =
    let d = c.args.self.now in
    same_goes_on d (record d { names = c.push.new.self }) c.requires (ap (λ (xs : List Registered). seen_of (record d { names = xs })) c.in_err-push.ensures.err)

pub returns-in_err-push-clause-stands : goal.returns-in_err-push-clause-stands
returns-in_err-push-clause-stands c =
    let d = c.args.self.now in
    subst (λ (xs : List Registered). StaysStanding d (record d { names = xs })) (sym c.in_err-push.ensures.err) (λ below st. st)

-- what is done
has_registered : (c : goal.After-set) → HasRegistered c.args.self.now c.args.node c.args.app.now (with_names c.args.self.now c.push.new.self c.set.new.self)
has_registered c =
    let d = c.args.self.now in
    let new : is_registered d.names c.args.node c.args.app.now ≡ false = ap (λ (xs : List Registered). is_registered xs c.args.node c.args.app.now) (sym c.as_slice.ensures) ∙ sym c.is_registered.ensures ∙ c.if-is_registered.false in
    let here : enrolled_home d c.args.node ≡ Some c.in-Some.at = sym c.enrolled_place.ensures.place ∙ c.in-Some.is in
    let one : List ℕ → Registered = λ app. record { node = c.args.node; app = app } in
    let named : c.push.new.self ≡ with_name d.names c.args.node c.args.app.now = c.in_ok-push.ensures.ok ∙ ap (λ (app : List ℕ). d.names ++ one app ∷ []) c.in_ok-app.ensures in
    name_added d c.args.node c.in-Some.at c.args.app.now c.in_ok-after.after c.push.new.self c.set.new.self c.requires new here c.in-Some.ensures.within c.is_formed.ensures c.in_ok-after.ensures named c.set.ensures

pub returns-clause-valid : goal.returns-clause-valid
returns-clause-valid c = (has_registered c).valid

pub returns-clause-shown : goal.returns-clause-shown
returns-clause-shown c = (has_registered c).shown

pub returns-clause-manages : goal.returns-clause-manages
returns-clause-manages c = (has_registered c).manages

pub returns-clause-goes_on : goal.returns-clause-goes_on
returns-clause-goes_on c = (has_registered c).goes_on

pub returns-clause-stands : goal.returns-clause-stands
returns-clause-stands c = (has_registered c).stands
