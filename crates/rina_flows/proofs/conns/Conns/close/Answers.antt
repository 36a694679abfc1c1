use Rattle.std.proofs.Common.{◌<◌, length, refl, subst, sym}
use Rattle.std.specs.Vec.{vec_capacity}
use Rattle.rina_dtp.specs.Receiving.{Receiving}
use Rattle.rina_flows.specs.Delivering.{GivesUpAll, WritesOff, closed}
use Rattle.rina_flows.proofs.Offered.{become_one, conn_same}
use Rattle.rina_flows.proofs.Watched.{changed}
use Rattle.rina_flows.proofs.conns.Conns.close.Goals as goal

pub returns-clause-becomes : goal.returns-clause-becomes
returns-clause-becomes c =
    let old = c.index_mut-conn.result.now in
    let new = record c.close.new.self { rx = c.write_off.new.rx } in
    let W : Receiving → Type 0 = λ r. WritesOff c.args.now r c.args.lines.now.items (vec_capacity c.args.lines.now) c.write_off.new.rx c.write_off.new.lines.items in
    rw (← c.self.view_is) (become_one (GivesUpAll c.args.now closed c.args.lines.now.items (vec_capacity c.args.lines.now) c.write_off.new.lines.items) c.self.inside.items.items c.args.at old new c.index_mut-conn.ensures.value (record { writes = subst W c.close.ensures.closed c.write_off.ensures.writes; new_is = conn_same (record old { rx = c.write_off.new.rx }) new c.close.ensures.same.0 refl c.close.ensures.same.1 c.close.ensures.same.2 }))

pub invariant_of-self : goal.invariant_of-self
invariant_of-self c =
    let conns = c.self.inside.items.items in
    let there = subst (λ xs. c.args.at < length xs) (sym c.self.view_is) c.requires in
    changed c.args.at c.quiet_until-quiet.result conns c.self.inside.watch c.note.new.self (record c.close.new.self { rx = c.write_off.new.rx }) there c.self.invariant c.note.ensures c.quiet_until-quiet.ensures.before

pub note-requires : goal.note-requires
note-requires c = c.self.invariant.room c.args.at (subst (λ xs. c.args.at < length xs) (sym c.self.view_is) c.requires)
