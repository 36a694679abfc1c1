use Rattle.std.proofs.Common.{List, ap, refl, subst}
use Rattle.std.proofs.lemmas.Option.{slice_get_within}
use Rattle.rina_channel.specs.declared.channel.Channel.{Channel}
use Rattle.rina_data.specs.declared.link.Link.{Link}
use Rattle.rina_dif.specs.Enrolling.{IsLeastNumber}
use Rattle.rina_dif.proofs.GivenUp.{on_err}
use Rattle.rina_dif.proofs.TakenLinks.{takes_claimed}
use Rattle.rina_dif.proofs.Unlinked.{keeps_links}
use Rattle.rina_dif.proofs.dif.Dif.take_claimed.Goals as goal

pub returns-in_err-take_link-clause-err : goal.returns-in_err-take_link-clause-err
returns-in_err-take_link-clause-err c = λ lines below h.
    let p = c.in-Some-Some-Some.process.now in
    let x = c.in_err-take_link.ensures.err p c.in-Some-Some-Some.ensures in
    on_err c.from_residual-in_err-take_link.result _ (keeps_links c.args.self.now lines below c.args.at p x.0 c.take_link.new.self c.in-Some-Some-Some.ensures x.1 x.2 x.3 h)

pub set-requires : goal.set-requires
set-requires c = slice_get_within c.args.self.now.connections.channels c.args.place c.in-Some-Some-Some.channel.now c.in-Some-Some-Some.ensures''

pub returns-clause-does : goal.returns-clause-does
returns-clause-does c = λ below w.
    takes_claimed c.args.self.now c.args.at c.args.place c.least_number-number.result c.args.port c.in-Some-Some-Some.process.now c.in-Some-Some-Some.management.now c.in-Some-Some-Some.channel.now c.in_ok-after.after _ c.in-Some-Some-Some.ensures c.in-Some-Some-Some.ensures' c.in-Some-Some-Some.ensures''
    (subst (λ (links : List Link). IsLeastNumber links c.least_number-number.result) c.as_slice.ensures c.least_number-number.ensures) c.in_ok-after.ensures c.in_ok-take_link.ensures.ok (ap (λ (cs : List Channel). record c.args.self.now.connections { channels = cs }) c.set.ensures) c.set-2.ensures refl below w
