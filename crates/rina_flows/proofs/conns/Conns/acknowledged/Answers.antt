use Rattle.std.proofs.Common.{◌<◌, length, subst, sym}
use Rattle.rina_flows.specs.Timely.{IsAcknowledged}
use Rattle.rina_flows.proofs.Offered.{become_one}
use Rattle.rina_flows.proofs.Watched.{changed}
use Rattle.rina_flows.proofs.conns.Conns.acknowledged.Goals as goal

pub returns : goal.returns
returns c = rw (← c.self.view_is) (become_one IsAcknowledged c.self.inside.items.items c.args.at c.index_mut-conn.result.now c.acknowledged.new.self c.index_mut-conn.ensures.value c.acknowledged.ensures)

pub invariant_of-self : goal.invariant_of-self
invariant_of-self c =
    let conns = c.self.inside.items.items in
    let there = subst (λ xs. c.args.at < length xs) (sym c.self.view_is) c.requires in
    changed c.args.at c.quiet_until-quiet.result conns c.self.inside.watch c.note.new.self c.acknowledged.new.self there c.self.invariant c.note.ensures c.quiet_until-quiet.ensures.before

pub note-requires : goal.note-requires
note-requires c = c.self.invariant.room c.args.at (subst (λ xs. c.args.at < length xs) (sym c.self.view_is) c.requires)
