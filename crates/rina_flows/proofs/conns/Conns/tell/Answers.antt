use Rattle.std.proofs.Common.{◌<◌, length, subst, sym, refl}
use Rattle.rina_flows.specs.Calls.{IsToldPeer}
use Rattle.rina_flows.proofs.Offered.{become_one}
use Rattle.rina_flows.proofs.Watched.{changed}
use Rattle.rina_flows.proofs.conns.Conns.tell.Goals as goal

pub returns : goal.returns
returns c = rw (← c.self.view_is) (become_one (IsToldPeer c.args.dcep) c.self.inside.items.items c.args.at c.index_mut-conn.result.now _ c.index_mut-conn.ensures.value (record { peer = refl; cube = refl; piece = refl; numbers = refl; tx = refl; rx = refl; plan = refl; waiting = refl }))

pub invariant_of-self : goal.invariant_of-self
invariant_of-self c =
    let there = subst (λ xs. c.args.at < length xs) (sym c.self.view_is) c.requires.at in
    changed c.args.at c.quiet_until-quiet.result c.self.inside.items.items c.self.inside.watch c.note.new.self _ there c.self.invariant c.note.ensures c.quiet_until-quiet.ensures.before

pub note-requires : goal.note-requires
note-requires c = c.self.invariant.room c.args.at (subst (λ xs. c.args.at < length xs) (sym c.self.view_is) c.requires.at)
