use Rattle.std.proofs.Common.{◌<◌, length, subst, sym}
use Rattle.std.specs.Vec.{vec_capacity}
use Rattle.rina_base.specs.Pdus.{pdu_of}
use Rattle.rina_flows.specs.Delivering.{Receives}
use Rattle.rina_flows.proofs.Offered.{become_one}
use Rattle.rina_flows.proofs.Watched.{changed}
use Rattle.rina_flows.proofs.conns.Conns.receive.Goals as goal

pub returns-clause-becomes : goal.returns-clause-becomes
returns-clause-becomes c = rw (← c.self.view_is) (become_one (λ old new. Receives c.args.now (pdu_of c.args.pdu.now) c.args.unpassed old c.args.bodies.items c.args.notes.now.got.items (vec_capacity c.args.notes.now.got) c.args.notes.now.lines.items (vec_capacity c.args.notes.now.lines) c.receive-verdict.result new c.receive-verdict.new.notes.got.items c.receive-verdict.new.notes.lines.items) c.self.inside.items.items c.args.at c.index_mut-conn.result.now c.receive-verdict.new.conn c.index_mut-conn.ensures.value c.receive-verdict.ensures.receives)

pub invariant_of-self : goal.invariant_of-self
invariant_of-self c =
    let conns = c.self.inside.items.items in
    let there = subst (λ xs. c.args.at < length xs) (sym c.self.view_is) c.requires.at in
    changed c.args.at c.quiet_until-quiet.result conns c.self.inside.watch c.note.new.self c.receive-verdict.new.conn there c.self.invariant c.note.ensures c.quiet_until-quiet.ensures.before

pub note-requires : goal.note-requires
note-requires c = c.self.invariant.room c.args.at (subst (λ xs. c.args.at < length xs) (sym c.self.view_is) c.requires.at)
