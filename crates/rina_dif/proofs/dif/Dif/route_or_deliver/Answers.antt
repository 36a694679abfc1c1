use Rattle.std.proofs.Common.{Ok, Err, refl}
use Rattle.std.proofs.lemmas.Result.{err_from_is_err_and}
use Rattle.rina_base.specs.Pdus.{key_of}
use Rattle.rina_data.specs.Hops.{hop_of}
use Rattle.rina_dif.proofs.Owning.{comes_on, decided_own, its_addr, settles_on}
use Rattle.rina_dif.proofs.Settling.{decided_err, decided_off, decided_relayed, settles_err, will_route}
use Rattle.rina_dif.specs.Holding.{Stands}
use Rattle.rina_dif.proofs.Elsewhere.{after_deciding, decides_leave}
use Rattle.rina_dif.proofs.dif.Dif.route_or_deliver.Goals as goal

pub route_or_deliver-requires-clause-routed : goal.route_or_deliver-requires-clause-routed
route_or_deliver-requires-clause-routed c =
    let d = c.args.self.now in
    let at = c.args.at in
    let since = c.args.came.now.since in
    let hop = hop_of c.args.came.now.hop in
    will_route d since hop at c.requires.comes

pub returns-in_err-route_or_deliver-clause-does : goal.returns-in_err-route_or_deliver-clause-does
returns-in_err-route_or_deliver-clause-does c =
    let d = c.args.self.now in
    let at = c.args.at in
    let since = c.args.came.now.since in
    let hop = hop_of c.args.came.now.hop in
    let err = err_from_is_err_and c.from_residual.result c.from_residual.ensures.1 in
    let e = c.in_err-route_or_deliver.field-0.0 in
    settles_err d at since hop e err.0 c.from_residual.result _ (decided_err d c.in-Some.member.now.addr at since hop e c.route_or_deliver.new.self c.requires.at c.in_err-route_or_deliver.ensures) err.1

pub deliver_here-requires-clause-comes : goal.deliver_here-requires-clause-comes
deliver_here-requires-clause-comes c =
    let d = c.args.self.now in
    let at = c.args.at in
    let since = c.args.came.now.since in
    let hop = hop_of c.args.came.now.hop in
    let m = c.in-Some.member.now in
    let me = decided_own d m.addr at since hop c.route_or_deliver.new.self c.requires.comes c.requires.at (its_addr d at m c.in-Some.ensures) (rw c.in-Here.is at c.in_ok-route_or_deliver.ensures) in
    comes_on d at since hop c.route_or_deliver.new.self me c.requires.comes

pub deliver_here-requires-clause-own : goal.deliver_here-requires-clause-own
deliver_here-requires-clause-own c =
    let d = c.args.self.now in
    let at = c.args.at in
    let since = c.args.came.now.since in
    let hop = hop_of c.args.came.now.hop in
    let m = c.in-Some.member.now in
    (decided_own d m.addr at since hop c.route_or_deliver.new.self c.requires.comes c.requires.at (its_addr d at m c.in-Some.ensures) (rw c.in-Here.is at c.in_ok-route_or_deliver.ensures)).own

pub returns-in-Relayed-clause-does : goal.returns-in-Relayed-clause-does
returns-in-Relayed-clause-does c =
    let d = c.args.self.now in
    let at = c.args.at in
    let since = c.args.came.now.since in
    let hop = hop_of c.args.came.now.hop in
    let m = c.in-Some.member.now in
    decided_relayed d m.addr at since hop c.route_or_deliver.new.self c.requires.at c.requires.flow (its_addr d at m c.in-Some.ensures) (rw c.in-Relayed.is at c.in_ok-route_or_deliver.ensures)

pub returns-in-Off-clause-does : goal.returns-in-Off-clause-does
returns-in-Off-clause-does c =
    let d = c.args.self.now in
    let at = c.args.at in
    let since = c.args.came.now.since in
    let hop = hop_of c.args.came.now.hop in
    let m = c.in-Some.member.now in
    decided_off d m.addr at since hop c.in-Off.cause c.route_or_deliver.new.self c.requires.at c.requires.flow (its_addr d at m c.in-Some.ensures) (rw c.in-Off.is at c.in_ok-route_or_deliver.ensures)

pub returns-in-Here-clause-does : goal.returns-in-Here-clause-does
returns-in-Here-clause-does c =
    let d = c.args.self.now in
    let at = c.args.at in
    let since = c.args.came.now.since in
    let hop = hop_of c.args.came.now.hop in
    let m = c.in-Some.member.now in
    let me = decided_own d m.addr at since hop c.route_or_deliver.new.self c.requires.comes c.requires.at (its_addr d at m c.in-Some.ensures) (rw c.in-Here.is at c.in_ok-route_or_deliver.ensures) in
    settles_on d at since hop c.route_or_deliver.new.self c.deliver_here.result c.deliver_here.new.self me c.deliver_here.ensures.does

pub returns-in_err-route_or_deliver-clause-leaves : goal.returns-in_err-route_or_deliver-clause-leaves
returns-in_err-route_or_deliver-clause-leaves c =
    let d = c.args.self.now in
    let st : Stands d c.requires.comes.1 = (c.requires.comes.0, c.requires.comes.2) in
    ((λ i other. refl, λ i other. refl), decides_leave d c.requires.comes.1 c.in-Some.member.now.addr c.args.came.now.since (hop_of c.args.came.now.hop) (Err c.in_err-route_or_deliver.field-0.0) c.args.at c.route_or_deliver.new.self st c.requires.at c.in_err-route_or_deliver.ensures)

pub returns-in-Relayed-clause-leaves : goal.returns-in-Relayed-clause-leaves
returns-in-Relayed-clause-leaves c =
    let d = c.args.self.now in
    let st : Stands d c.requires.comes.1 = (c.requires.comes.0, c.requires.comes.2) in
    ((λ i other. refl, λ i other. refl), decides_leave d c.requires.comes.1 c.in-Some.member.now.addr c.args.came.now.since (hop_of c.args.came.now.hop) (Ok c.in_ok-route_or_deliver.field-0) c.args.at c.route_or_deliver.new.self st c.requires.at c.in_ok-route_or_deliver.ensures)

pub returns-in-Off-clause-leaves : goal.returns-in-Off-clause-leaves
returns-in-Off-clause-leaves c =
    let d = c.args.self.now in
    let st : Stands d c.requires.comes.1 = (c.requires.comes.0, c.requires.comes.2) in
    ((λ i other. refl, λ i other. refl), decides_leave d c.requires.comes.1 c.in-Some.member.now.addr c.args.came.now.since (hop_of c.args.came.now.hop) (Ok c.in_ok-route_or_deliver.field-0) c.args.at c.route_or_deliver.new.self st c.requires.at c.in_ok-route_or_deliver.ensures)

pub returns-in-Here-clause-leaves : goal.returns-in-Here-clause-leaves
returns-in-Here-clause-leaves c =
    let d = c.args.self.now in
    let st : Stands d c.requires.comes.1 = (c.requires.comes.0, c.requires.comes.2) in
    let hop = hop_of c.args.came.now.hop in
    after_deciding c.deliver_here.result d c.route_or_deliver.new.self c.deliver_here.new.self c.args.at (key_of hop.pdu) (decides_leave d c.requires.comes.1 c.in-Some.member.now.addr c.args.came.now.since hop (Ok c.in_ok-route_or_deliver.field-0) c.args.at c.route_or_deliver.new.self st c.requires.at c.in_ok-route_or_deliver.ensures) c.deliver_here.ensures.leaves
