use Rattle.std.proofs.Common.{◌∙◌, ap, sym}
use Rattle.rina_dif.specs.Elsewhere.{home_of}
use Rattle.rina_dif.proofs.Freed.{never_homeless_end}
use Rattle.rina_dif.proofs.TurnedDown.{withdrawn_leaves, withdrawn_with}
use Rattle.rina_dif.proofs.dif.Dif.withdraw_at.Goals as goal

pub unreachable-requires : goal.unreachable-requires
unreachable-requires c = never_homeless_end c.args.self.now c.args.at c.args.node c.requires.valid c.requires.at (λ e is. (c.requires.end e is).1) (sym c.place_at_node.ensures.place ∙ c.in_default.is)

pub refuse_at-requires-clause-end : goal.refuse_at-requires-clause-end
refuse_at-requires-clause-end c = λ e is. (let end = c.requires.end e is in (end.0, ap (home_of c.args.self.now) end.1 ∙ sym c.place_at_node.ensures.place ∙ c.in-Some.is))

pub returns-clause-does : goal.returns-clause-does
returns-clause-does c = λ lines below h.
    let t = c.refuse_at.ensures.does lines below h in
    withdrawn_with c.args.self.now c.refuse_at.new.self c.remove_ask.new.self lines below c.args.at c.remove_ask.new.self.asks c.remove_ask.ensures.whole t.0 t.1

pub returns-clause-leaves : goal.returns-clause-leaves
returns-clause-leaves c = withdrawn_leaves c.args.self.now c.refuse_at.new.self c.remove_ask.new.self c.in-Some.home c.args.at c.args.node c.remove_ask.new.self.asks (sym c.place_at_node.ensures.place ∙ c.in-Some.is) c.remove_ask.ensures.whole c.refuse_at.ensures.leaves
