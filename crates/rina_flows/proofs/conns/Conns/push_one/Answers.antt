use Rattle.std.proofs.Common.{◌≡◌, List, length, sym, subst, arith}
use Rattle.rina_conn.specs.declared.conn.Conn.{Conn}
use Rattle.rina_flows.specs.Quiet.{AreTimed}
use Rattle.rina_flows.specs.Watching.{Notes}
use Rattle.rina_flows.proofs.Watched.{one_added, still_timed}
use Rattle.rina_flows.proofs.conns.Conns.push_one.Goals as goal

pub invariant_of-self-in_err-reserve-2 : goal.invariant_of-self-in_err-reserve-2
invariant_of-self-in_err-reserve-2 c = still_timed c.self.inside.items.items c.reserve.new.self.items c.self.inside.watch c.reserve-2.new.self c.reserve.ensures.items c.reserve-2.ensures.places c.reserve-2.ensures.until c.reserve-2.ensures.ticks c.reserve-2.ensures.keeps c.self.invariant

pub note-requires : goal.note-requires
note-requires c = c.in_ok-reserve-2.ensures.ok c.len-at.result (omega arith)

pub invariant_of-self-2 : goal.invariant_of-self-2
invariant_of-self-2 c =
    let conns = c.reserve.new.self.items in
    let timed = still_timed c.self.inside.items.items conns c.self.inside.watch c.reserve-2.new.self c.reserve.ensures.items c.reserve-2.ensures.places c.reserve-2.ensures.until c.reserve-2.ensures.ticks c.reserve-2.ensures.keeps c.self.invariant in
    let count = c.len-at.ensures in
    let at : c.len-at.result ≡ length conns = omega (arith, count) in
    let one = subst (λ n. Notes n c.quiet_until.result c.reserve-2.new.self c.note.new.self) at c.note.ensures in
    subst (λ (ks : List Conn). AreTimed c.note.new.self.places.items c.note.new.self.until c.note.new.self.alarms ks) (sym c.push_reserved.ensures.items) (one_added c.quiet_until.result conns c.reserve-2.new.self c.note.new.self c.args.conn timed (λ i lt. c.in_ok-reserve-2.ensures.ok i (omega (arith, lt, at))) one c.quiet_until.ensures.before)
