use Rattle.std.proofs.Common.{◌≡◌, Some}
use Rattle.rina_dif.specs.Elsewhere.{WhenOk}
use Rattle.rina_dif.proofs.FlowEnds.{fails_managed, fails_told, give_up_told, none_given, told_home, told_leaves_at}
use Rattle.rina_dif.proofs.Lapsed.{conn_there}
use Rattle.rina_dif.proofs.dif.Dif.give_up_at.Goals as goal

pub is_due-requires : goal.is_due-requires
is_due-requires c = conn_there c.args.self.now c.requires.stands.0 c.args.at c.args.place c.requires.stands.1 c.requires.here

pub send_delete-requires-clause-valid : goal.send_delete-requires-clause-valid
send_delete-requires-clause-valid c = record { below = c.requires.stands.0; stands = c.requires.stands.1; clock = c.requires.clock }

pub fail_at-requires-clause-stands : goal.fail_at-requires-clause-stands
fail_at-requires-clause-stands c = (let st = c.requires.stands in (st.0, (st.1.0, c.send_delete.ensures.holds st.1.0 st.0 st.1.1)))

pub fail_at-requires-clause-here : goal.fail_at-requires-clause-here
fail_at-requires-clause-here c = told_home c.args.self.now c.send_delete.new.self c.args.at c.args.place _ c.in_ok-send_delete.ensures.ok c.requires.here

pub returns-then-not-is_due-clause-does : goal.returns-then-not-is_due-clause-does
returns-then-not-is_due-clause-does c = none_given c.args.self.now c.args.at c.args.place c.is_due.result c.requires.here c.is_due.ensures c.if-not-is_due.true

pub peer_of-peer-requires : goal.peer_of-peer-requires
peer_of-peer-requires c = conn_there c.args.self.now c.requires.stands.0 c.args.at c.args.place c.requires.stands.1 c.requires.here

pub returns-clause-does : goal.returns-clause-does
returns-clause-does c = λ lines below h.
    let due = give_up_told c.args.self.now c.args.at c.args.place c.is_due.result c.requires.here c.is_due.ensures c.if-not-is_due.false lines below h in
    fails_told c.args.self.now c.send_delete.new.self _ lines below c.args.place c.fail_at.result c.fail_at.new.self c.in_ok-send_delete.ensures.ok due (c.fail_at.ensures.does lines below (c.send_delete.ensures.holds lines below h))

pub returns-clause-manages : goal.returns-clause-manages
returns-clause-manages c =
    let d = c.args.self.now in
    let st = c.requires.stands in
    let within = conn_there d st.0 c.args.at c.args.place st.1 c.requires.here in
    let due = give_up_told d c.args.at c.args.place c.is_due.result c.requires.here c.is_due.ensures c.if-not-is_due.false st.1.0 st.0 st.1.1 in
    let does = fails_told d c.send_delete.new.self _ st.1.0 st.0 c.args.place c.fail_at.result c.fail_at.new.self c.in_ok-send_delete.ensures.ok due (c.fail_at.ensures.does st.1.0 st.0 (c.send_delete.ensures.holds st.1.0 st.0 st.1.1)) in
    fails_managed d c.send_delete.new.self st.1.0 st.0 c.args.at c.args.place c.peer_of-peer.result c.fail_at.result c.fail_at.new.self.managements c.fail_at.new.self within c.peer_of-peer.ensures c.in_ok-send_delete.ensures.ok due does c.fail_at.ensures.manages

pub returns-clause-leaves : goal.returns-clause-leaves
returns-clause-leaves c = told_leaves_at c.args.self.now c.send_delete.new.self c.fail_at.new.self (λ i. WhenOk c.fail_at.result (i ≡ c.args.place)) (Some c.args.at) _ c.in_ok-send_delete.ensures.ok c.fail_at.ensures.leaves
