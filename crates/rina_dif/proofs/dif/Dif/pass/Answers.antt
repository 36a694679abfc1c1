use Rattle.std.proofs.Common.{rules, ◌≡◌, ◌∙◌, None, sym}
use Rattle.rina_iface.specs.Ends.{place_in}
use Rattle.rina_dif.proofs.Facing.{passed_goes_on, passed_shown, passed_stays, passed_whole, waits_somewhere, waits_there}
use Rattle.rina_dif.proofs.Elsewhere.{passed_port}
use Rattle.rina_dif.proofs.dif.Dif.pass.Goals as goal

pub unreachable-requires : goal.unreachable-requires
unreachable-requires c =
    let none : place_in c.args.port c.args.self.now.flows.journal.ends ≡ None = search rules in
    waits_somewhere c.args.self.now c.args.port none c.requires.waits

pub pass_at-requires-clause-stands : goal.pass_at-requires-clause-stands
pass_at-requires-clause-stands c = (c.requires.valid.below, c.requires.valid.stands)

pub pass_at-requires-clause-waits : goal.pass_at-requires-clause-waits
pass_at-requires-clause-waits c = λ e is. waits_there c.args.self.now c.args.port c.in-Some.at e (sym c.place.ensures.at ∙ c.in-Some.is) c.requires.waits is

pub returns-clause-valid : goal.returns-clause-valid
returns-clause-valid c = passed_whole c.args.self.now c.in-Some.at c.pass_at.new.self c.requires.valid c.pass_at.ensures.does

pub returns-clause-does : goal.returns-clause-does
returns-clause-does c = λ lines below h. record { at = c.in-Some.at; place = sym c.place.ensures.at ∙ c.in-Some.is; passes = c.pass_at.ensures.does lines below h }

pub returns-clause-shown : goal.returns-clause-shown
returns-clause-shown c = λ s shows. passed_shown s c.args.self.now c.args.port c.in-Some.at c.pass_at.new.self c.requires.valid (sym c.place.ensures.at ∙ c.in-Some.is) c.pass_at.ensures.does shows

pub returns-clause-goes_on : goal.returns-clause-goes_on
returns-clause-goes_on c = passed_goes_on c.args.self.now c.in-Some.at c.pass_at.new.self c.requires.valid c.pass_at.ensures.does

pub returns-clause-stands : goal.returns-clause-stands
returns-clause-stands c = passed_stays c.args.self.now c.in-Some.at c.pass_at.new.self c.pass_at.ensures.does

pub returns-clause-leaves : goal.returns-clause-leaves
returns-clause-leaves c = passed_port c.args.self.now c.pass_at.new.self c.args.port c.in-Some.at (sym c.place.ensures.at ∙ c.in-Some.is) c.pass_at.ensures.leaves c.pass_at.ensures.whole
