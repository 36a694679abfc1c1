use Rattle.std.proofs.Common.{◌≡◌, ◌+◌, List, [], ◌∷◌, ◌++◌, length, append_assoc, refl, sym, ◌∙◌, ap, subst, arith}
use Rattle.rina_conn.specs.declared.conn.Conn.{Conn}
use Rattle.rina_flows.specs.Quiet.{AreTimed}
use Rattle.rina_flows.specs.Watching.{Notes}
use Rattle.rina_flows.proofs.Alarmed.{has_still}
use Rattle.rina_flows.proofs.Watched.{both_added, still_timed}
use Rattle.rina_flows.proofs.conns.Conns.push_both.Goals as goal

pub invariant_of-self : goal.invariant_of-self
invariant_of-self c = still_timed c.self.inside.items.items c.reserve.new.self.items c.self.inside.watch c.self.inside.watch c.reserve.ensures.items refl refl (λ i. refl) (omega arith) c.self.invariant

pub invariant_of-self-in_err-add : goal.invariant_of-self-in_err-add
invariant_of-self-in_err-add c = still_timed c.self.inside.items.items c.reserve.new.self.items c.self.inside.watch c.self.inside.watch c.reserve.ensures.items refl refl (λ i. refl) (omega arith) c.self.invariant

pub invariant_of-self-in_err-add-2 : goal.invariant_of-self-in_err-add-2
invariant_of-self-in_err-add-2 c = still_timed c.self.inside.items.items c.reserve.new.self.items c.self.inside.watch c.self.inside.watch c.reserve.ensures.items refl refl (λ i. refl) (omega arith) c.self.invariant

pub invariant_of-self-in_err-reserve-2 : goal.invariant_of-self-in_err-reserve-2
invariant_of-self-in_err-reserve-2 c = still_timed c.self.inside.items.items c.reserve.new.self.items c.self.inside.watch c.reserve-2.new.self c.reserve.ensures.items c.reserve-2.ensures.places c.reserve-2.ensures.until c.reserve-2.ensures.ticks c.reserve-2.ensures.keeps c.self.invariant

pub note-requires : goal.note-requires
note-requires c = c.in_ok-reserve-2.ensures.ok c.len-at.result (omega arith)

pub note-requires-2 : goal.note-requires-2
note-requires-2 c = has_still c.reserve-2.new.self.alarms c.note.new.self.alarms (c.len-at.result + 1) c.note.ensures.long (c.in_ok-reserve-2.ensures.ok (c.len-at.result + 1) (omega arith))

pub invariant_of-self-2 : goal.invariant_of-self-2
invariant_of-self-2 c =
    let conns = c.reserve.new.self.items in
    let timed = still_timed c.self.inside.items.items conns c.self.inside.watch c.reserve-2.new.self c.reserve.ensures.items c.reserve-2.ensures.places c.reserve-2.ensures.until c.reserve-2.ensures.ticks c.reserve-2.ensures.keeps c.self.invariant in
    let count = c.len-at.ensures in
    let at : c.len-at.result ≡ length conns = omega (arith, count) in
    let one = subst (λ n. Notes n c.quiet_until.result c.reserve-2.new.self c.note.new.self) at c.note.ensures in
    let two = subst (λ n. Notes (n + 1) c.quiet_until-2.result c.note.new.self c.note-2.new.self) at c.note-2.ensures in
    let all : c.push_reserved-2.new.self.items ≡ conns ++ c.args.first ∷ c.args.second ∷ [] = c.push_reserved-2.ensures.items ∙ ap (λ (xs : List Conn). xs ++ c.args.second ∷ []) c.push_reserved.ensures.items ∙ append_assoc conns (c.args.first ∷ []) (c.args.second ∷ []) in
    subst (λ (ks : List Conn). AreTimed c.note-2.new.self.places.items c.note-2.new.self.until c.note-2.new.self.alarms ks) (sym all) (both_added c.quiet_until.result c.quiet_until-2.result conns c.reserve-2.new.self c.note.new.self c.note-2.new.self c.args.first c.args.second timed (λ i lt. c.in_ok-reserve-2.ensures.ok i (omega (arith, lt, at))) one two c.quiet_until.ensures.before c.quiet_until-2.ensures.before)
