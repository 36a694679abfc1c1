use Rattle.std.proofs.Common.{◌∙◌, sym, true, Ok, Err, ap, refl}
use Rattle.rina_iface.specs.declared.error.FreeError.TheVariants.{Memory, NoPort}
use Rattle.rina_dif.specs.declared.dif.Dif.{Dif}
use Rattle.rina_dif.proofs.Freed.{fails_for, freed_goes_on, freed_shown, freed_stays, freed_whole, frees_for, nowhere_for, wants_for}
use Rattle.rina_dif.proofs.Elsewhere.{at_port, done_at, failed_at}
use Rattle.rina_dif.proofs.dif.Dif.free.Goals as goal

pub returns-then-self-clause-does : goal.returns-then-self-clause-does
returns-then-self-clause-does c = wants_for c.args.self.now c.args.port

pub returns-then-self-clause-shown : goal.returns-then-self-clause-shown
returns-then-self-clause-shown c = λ s h. freed_shown s c.args.self.now c.args.port (Err Memory) c.args.self.now c.requires (wants_for c.args.self.now c.args.port) h

pub returns-then-self-clause-goes_on : goal.returns-then-self-clause-goes_on
returns-then-self-clause-goes_on c = freed_goes_on c.args.self.now c.args.port (Err Memory) c.args.self.now c.requires (wants_for c.args.self.now c.args.port) refl

pub returns-in_default-clause-does : goal.returns-in_default-clause-does
returns-in_default-clause-does c = nowhere_for c.args.self.now c.args.port (sym c.place.ensures.at ∙ c.in_default.is)

pub returns-in_default-clause-shown : goal.returns-in_default-clause-shown
returns-in_default-clause-shown c = λ s h. freed_shown s c.args.self.now c.args.port (Err NoPort) c.args.self.now c.requires (nowhere_for c.args.self.now c.args.port (sym c.place.ensures.at ∙ c.in_default.is)) h

pub returns-in_default-clause-goes_on : goal.returns-in_default-clause-goes_on
returns-in_default-clause-goes_on c = freed_goes_on c.args.self.now c.args.port (Err NoPort) c.args.self.now c.requires (nowhere_for c.args.self.now c.args.port (sym c.place.ensures.at ∙ c.in_default.is)) refl

pub returns-then-is_err-clause-does : goal.returns-then-is_err-clause-does
returns-then-is_err-clause-does c = fails_for c.args.self.now c.args.port c.in-Some.at c.free_at.result c.free_at.new.self (sym c.is_err.ensures.value ∙ c.if-is_err.true) c.free_at.ensures.does

pub returns-then-is_err-clause-valid : goal.returns-then-is_err-clause-valid
returns-then-is_err-clause-valid c = freed_whole c.args.self.now c.args.port (Err Memory) (record c.free_at.new.self { failed = true }) c.requires (fails_for c.args.self.now c.args.port c.in-Some.at c.free_at.result c.free_at.new.self (sym c.is_err.ensures.value ∙ c.if-is_err.true) c.free_at.ensures.does)

pub returns-then-is_err-clause-shown : goal.returns-then-is_err-clause-shown
returns-then-is_err-clause-shown c = λ s h. freed_shown s c.args.self.now c.args.port (Err Memory) (record c.free_at.new.self { failed = true }) c.requires (fails_for c.args.self.now c.args.port c.in-Some.at c.free_at.result c.free_at.new.self (sym c.is_err.ensures.value ∙ c.if-is_err.true) c.free_at.ensures.does) h

pub returns-then-is_err-clause-goes_on : goal.returns-then-is_err-clause-goes_on
returns-then-is_err-clause-goes_on c = freed_goes_on c.args.self.now c.args.port (Err Memory) (record c.free_at.new.self { failed = true }) c.requires (fails_for c.args.self.now c.args.port c.in-Some.at c.free_at.result c.free_at.new.self (sym c.is_err.ensures.value ∙ c.if-is_err.true) c.free_at.ensures.does) (ap (λ (z : Dif). z.enrolled) c.free_at.ensures.whole)

pub returns-then-is_err-clause-stands : goal.returns-then-is_err-clause-stands
returns-then-is_err-clause-stands c = freed_stays c.args.self.now c.args.port (Err Memory) (record c.free_at.new.self { failed = true }) (fails_for c.args.self.now c.args.port c.in-Some.at c.free_at.result c.free_at.new.self (sym c.is_err.ensures.value ∙ c.if-is_err.true) c.free_at.ensures.does)

pub returns-clause-does : goal.returns-clause-does
returns-clause-does c = frees_for c.args.self.now c.args.port c.in-Some.at c.free_at.result c.free_at.new.self (sym c.place.ensures.at ∙ c.in-Some.is) (sym c.is_err.ensures.value ∙ c.if-is_err.false) c.free_at.ensures.does

pub returns-clause-valid : goal.returns-clause-valid
returns-clause-valid c = freed_whole c.args.self.now c.args.port (Ok tt) c.free_at.new.self c.requires (frees_for c.args.self.now c.args.port c.in-Some.at c.free_at.result c.free_at.new.self (sym c.place.ensures.at ∙ c.in-Some.is) (sym c.is_err.ensures.value ∙ c.if-is_err.false) c.free_at.ensures.does)

pub returns-clause-shown : goal.returns-clause-shown
returns-clause-shown c = λ s h. freed_shown s c.args.self.now c.args.port (Ok tt) c.free_at.new.self c.requires (frees_for c.args.self.now c.args.port c.in-Some.at c.free_at.result c.free_at.new.self (sym c.place.ensures.at ∙ c.in-Some.is) (sym c.is_err.ensures.value ∙ c.if-is_err.false) c.free_at.ensures.does) h

pub returns-clause-goes_on : goal.returns-clause-goes_on
returns-clause-goes_on c = freed_goes_on c.args.self.now c.args.port (Ok tt) c.free_at.new.self c.requires (frees_for c.args.self.now c.args.port c.in-Some.at c.free_at.result c.free_at.new.self (sym c.place.ensures.at ∙ c.in-Some.is) (sym c.is_err.ensures.value ∙ c.if-is_err.false) c.free_at.ensures.does) (ap (λ (z : Dif). z.enrolled) c.free_at.ensures.whole)

pub returns-clause-stands : goal.returns-clause-stands
returns-clause-stands c = freed_stays c.args.self.now c.args.port (Ok tt) c.free_at.new.self (frees_for c.args.self.now c.args.port c.in-Some.at c.free_at.result c.free_at.new.self (sym c.place.ensures.at ∙ c.in-Some.is) (sym c.is_err.ensures.value ∙ c.if-is_err.false) c.free_at.ensures.does)

pub returns-then-is_err-clause-leaves : goal.returns-then-is_err-clause-leaves
returns-then-is_err-clause-leaves c =
    let d' = record c.free_at.new.self { failed = true } in
    failed_at c.free_at.result c.args.self.now d' c.args.port (sym c.is_err.ensures.value ∙ c.if-is_err.true) (at_port c.free_at.result c.args.self.now d' c.args.port c.in-Some.at (sym c.place.ensures.at ∙ c.in-Some.is) c.free_at.ensures.leaves)

pub returns-clause-leaves : goal.returns-clause-leaves
returns-clause-leaves c =
    done_at c.free_at.result c.args.self.now c.free_at.new.self c.args.port (at_port c.free_at.result c.args.self.now c.free_at.new.self c.args.port c.in-Some.at (sym c.place.ensures.at ∙ c.in-Some.is) c.free_at.ensures.leaves)
