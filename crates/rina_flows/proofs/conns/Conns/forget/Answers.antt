use Rattle.std.proofs.Common.{◌<◌, length, refl, subst, sym}
use Rattle.std.specs.Vec.{vec_capacity}
use Rattle.rina_flows.specs.Delivering.{GivesUpAll}
use Rattle.rina_flows.proofs.Offered.{become_one}
use Rattle.rina_flows.proofs.Watched.{changed}
use Rattle.rina_flows.proofs.conns.Conns.forget.Goals as goal

pub returns : goal.returns
returns c = rw (← c.self.view_is) (become_one (GivesUpAll c.args.now (λ r. r) c.args.lines.now.items (vec_capacity c.args.lines.now) c.write_off.new.lines.items) c.self.inside.items.items c.args.at c.index_mut-conn.result.now (record c.index_mut-conn.result.now { rx = c.write_off.new.rx }) c.index_mut-conn.ensures.value (record { writes = c.write_off.ensures.writes; new_is = refl }))

pub invariant_of-self : goal.invariant_of-self
invariant_of-self c =
    let conns = c.self.inside.items.items in
    let there = subst (λ xs. c.args.at < length xs) (sym c.self.view_is) c.requires in
    changed c.args.at c.quiet_until-quiet.result conns c.self.inside.watch c.note.new.self (record c.index_mut-conn.result.now { rx = c.write_off.new.rx }) there c.self.invariant c.note.ensures c.quiet_until-quiet.ensures.before

pub note-requires : goal.note-requires
note-requires c = c.self.invariant.room c.args.at (subst (λ xs. c.args.at < length xs) (sym c.self.view_is) c.requires)
