use Rattle.std.proofs.Common.{◌≡◌, ◌∙◌, ℕ, Ok, Option, Some, ap, subst, sym}
use Rattle.std.proofs.lemmas.Option.{same_Some, slice_get_within}
use Rattle.rina_iface.specs.declared.ends.End.{End}
use Rattle.rina_data.proofs.Finding.{there}
use Rattle.rina_dif.specs.Elsewhere.{ChangesOnly, WhenOk, home_of}
use Rattle.rina_dif.proofs.DeletesIn.{closes_none, closes_up, up_home, up_there}
use Rattle.rina_dif.proofs.Elsewhere.{only_more, when_in}
use Rattle.rina_dif.proofs.FlowWalk.{leaves_none, leaves_one}
use Rattle.rina_dif.proofs.dif.Dif.take_delete.Goals as goal

pub close_at-requires-clause-at : goal.close_at-requires-clause-at
close_at-requires-clause-at c = slice_get_within c.args.self.now.flows.journal.ends c.in-Some.place c.in-Some-get.end.now c.in-Some-get.ensures

pub close_at-requires-clause-end : goal.close_at-requires-clause-end
close_at-requires-clause-end c = up_there c.args.self.now c.address_at-own.result c.args.from c.args.dcep c.args.scep c.in-Some.place c.in-Some.ensures c.in-Some-get.end.now c.in-Some-get.ensures

pub returns-in_default-clause-does : goal.returns-in_default-clause-does
returns-in_default-clause-does c = λ lines below h. closes_none c.args.self.now lines below c.args.at c.address_at-own.result c.args.from c.args.dcep c.args.scep (Ok tt) c.address_at-own.ensures c.in_default.ensures

pub returns-clause-does : goal.returns-clause-does
returns-clause-does c = λ lines below h. closes_up c.args.self.now c.address_at-own.result c.args.from c.args.dcep c.args.scep c.in-Some.place c.in-Some.ensures c.in-Some-get.end.now c.in-Some-get.ensures c.close_at.new.self lines below c.args.at c.close_at.result c.address_at-own.ensures (c.close_at.ensures.does lines below h) c.close_at.ensures.manages

pub returns-in_default-clause-leaves : goal.returns-in_default-clause-leaves
returns-in_default-clause-leaves c = leaves_none (Some c.args.at) c.args.self.now

pub returns-clause-leaves : goal.returns-clause-leaves
returns-clause-leaves c =
    let d = c.args.self.now in
    let valid = c.requires.valid in
    let m = there d.settings.members c.args.at c.requires.at in
    let up = c.in-Some.ensures.is_up in
    let at_home = up_home d valid.stands.0 valid.below c.args.at c.address_at-own.result c.args.from c.args.dcep c.args.scep c.in-Some.place m.0 valid.stands.1 m.1 (c.address_at-own.ensures m.0 m.1) up in
    let same : up.end ≡ c.in-Some-get.end.now = same_Some up.end c.in-Some-get.end.now (sym up.is_at.end_is ∙ c.in-Some-get.ensures) in
    let here = ap (λ (e : End). home_of d e.port.node) (sym same) ∙ at_home in
    let closes = subst (λ (o : Option ℕ). ChangesOnly (λ i. WhenOk c.close_at.result (i ≡ c.in-Some.place)) o d c.close_at.new.self) here c.close_at.ensures.leaves in
    leaves_one (Some c.args.at) d c.close_at.new.self c.in-Some.place up.end up.is_at.end_is at_home
    (only_more (λ i. WhenOk c.close_at.result (i ≡ c.in-Some.place)) (λ i. i ≡ c.in-Some.place) (Some c.args.at) d c.close_at.new.self (λ i. when_in c.close_at.result (i ≡ c.in-Some.place)) closes)
