use Rattle.std.proofs.Common.{◌∙◌, arith, sym}
use Rattle.std.specs.Vec.{vec_capacity}
use Rattle.rina_flows.proofs.Halted.{all_stopped, none_stops, one_stops}
use Rattle.rina_flows.proofs.flows.Flows.stop_all.Goals as goal
use Rattle.rina_flows.proofs.flows.Flows.stop_all.Goals.{else-is_here, then-is_here}

pub loop-at-preserved : goal.loop-at-preserved
loop-at-preserved c =
    let n = c.loop-at.at in
    let old = c.args.self.now in
    let l0 = c.args.lines.now in
    let mid = c.loop-at.self in
    let l = c.loop-at.lines in
    let e = c.in-Some.end.now in
    let before = c.loop-at-test.true in
    let count = c.len-at-end.ensures in
    elim c.if-is_here.branch [
      | then-is_here w ↦ rw (w.self-is, w.lines-is) (one_stops c.args.now c.args.node c.args.state n old mid l0.items l.items w.close.new.lines.items (vec_capacity l0) (vec_capacity l) (vec_capacity w.close.new.lines) e w.set_state.new.self w.close.new.self c.loop-at.invariant (omega (arith, before, count)) c.in-Some.ensures (sym c.is_here.ensures ∙ w.if-is_here.true) w.close.ensures.capacity w.close.ensures.becomes (w.set_state.ensures e c.in-Some.ensures))
      | else-is_here w ↦ rw (w.self-is, w.lines-is) (none_stops c.args.now c.args.node c.args.state n old mid l0.items l.items (vec_capacity l0) (vec_capacity l) e c.loop-at.invariant c.in-Some.ensures (sym c.is_here.ensures ∙ w.if-is_here.false))
    ]

pub returns-clause-stops : goal.returns-clause-stops
returns-clause-stops c =
    let count = c.len-at-end.ensures in
    let after = c.loop-at-test.false in
    let alike = c.requires in
    let end = c.loop-at.auto.at-end in
    all_stopped c.args.now c.args.node c.args.state c.loop-at.at c.args.self.now c.loop-at.self c.args.lines.now.items c.loop-at.lines.items (vec_capacity c.args.lines.now) (vec_capacity c.loop-at.lines) (omega (arith, count, after, alike, end)) c.loop-at.invariant

pub returns-clause-leaves : goal.returns-clause-leaves
returns-clause-leaves c = c.loop-at.invariant.others
