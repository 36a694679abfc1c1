use Rattle.std.proofs.Common.{◌≡◌, ◌∙◌, ap, sym}
use Rattle.rina_dif.specs.declared.dif.Dif.{Dif}
use Rattle.rina_dif.specs.Elsewhere.{WhenOk}
use Rattle.rina_dif.proofs.FlowEnds.{conns_within, freed_managed, freed_told, told_dif, told_ends, told_leaves, told_within}
use Rattle.rina_dif.proofs.Freed.{never_homeless}
use Rattle.rina_dif.proofs.dif.Dif.give_up_flow.Goals as goal

pub unreachable-requires : goal.unreachable-requires
unreachable-requires c = never_homeless c.args.self.now c.args.at c.args.node c.requires.valid c.requires.at c.requires.end (sym c.place_at_node.ensures.place ∙ c.in_default.is)

pub peer_of-peer-requires : goal.peer_of-peer-requires
peer_of-peer-requires c = conns_within c.args.self.now c.args.at c.requires.valid c.requires.at

pub close_at-requires-clause-valid : goal.close_at-requires-clause-valid
close_at-requires-clause-valid c = told_dif c.args.self.now c.send_delete.new.self c.requires.valid c.send_delete.ensures.holds (ap (λ (z : Dif). z.clock) c.in_ok-send_delete.ensures.ok)

pub close_at-requires-clause-at : goal.close_at-requires-clause-at
close_at-requires-clause-at c = told_within c.args.self.now c.send_delete.new.self c.args.at _ c.in_ok-send_delete.ensures.ok c.requires.at

pub close_at-requires-clause-end : goal.close_at-requires-clause-end
close_at-requires-clause-end c = told_ends c.args.self.now c.send_delete.new.self c.args.at c.args.node _ c.in_ok-send_delete.ensures.ok c.requires.end

pub returns-clause-does : goal.returns-clause-does
returns-clause-does c = λ lines below h. freed_told c.args.self.now c.send_delete.new.self _ lines below c.args.at c.close_at.result c.close_at.new.self c.in_ok-send_delete.ensures.ok (c.close_at.ensures.does lines below (c.send_delete.ensures.holds lines below h))

pub returns-clause-manages : goal.returns-clause-manages
returns-clause-manages c = freed_managed c.args.self.now c.send_delete.new.self c.in-Some.home c.args.at c.args.node c.peer_of-peer.result c.close_at.result c.close_at.new.self.managements c.requires.valid c.requires.at c.requires.end (sym c.place_at_node.ensures.place ∙ c.in-Some.is) c.peer_of-peer.ensures c.in_ok-send_delete.ensures.ok c.close_at.ensures.manages

pub returns-clause-leaves : goal.returns-clause-leaves
returns-clause-leaves c = told_leaves c.args.self.now c.send_delete.new.self c.close_at.new.self (λ i. WhenOk c.close_at.result (i ≡ c.args.at)) c.args.node _ c.in_ok-send_delete.ensures.ok c.close_at.ensures.leaves
