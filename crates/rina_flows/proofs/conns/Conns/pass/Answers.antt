use Rattle.std.proofs.Common.{◌<◌, length, subst, sym}
use Rattle.rina_flows.specs.Calls.{IsPass}
use Rattle.rina_flows.proofs.Offered.{become_one}
use Rattle.rina_flows.proofs.Watched.{changed}
use Rattle.rina_flows.proofs.conns.Conns.pass.Goals as goal

pub returns : goal.returns
returns c = rw (← c.self.view_is) (become_one (IsPass c.args.now) c.self.inside.items.items c.args.at c.index_mut-conn.result.now c.passed.new.self c.index_mut-conn.ensures.value (record { marks = c.passed.ensures.marks; receives = c.passed.ensures.receives; sending = c.passed.ensures.same.1; rx = c.passed.ensures.same.0 }))

pub invariant_of-self : goal.invariant_of-self
invariant_of-self c =
    let conns = c.self.inside.items.items in
    let there = subst (λ xs. c.args.at < length xs) (sym c.self.view_is) c.requires in
    changed c.args.at c.quiet_until-quiet.result conns c.self.inside.watch c.note.new.self c.passed.new.self there c.self.invariant c.note.ensures c.quiet_until-quiet.ensures.before

pub note-requires : goal.note-requires
note-requires c = c.self.invariant.room c.args.at (subst (λ xs. c.args.at < length xs) (sym c.self.view_is) c.requires)
