use Rattle.std.proofs.Common.{◌+◌, List, subst, sym, take}
use Rattle.rina_base.specs.declared.number.Port.{Port}
use Rattle.rina_dif.specs.Laying.{AreLaid}
use Rattle.rina_dif.proofs.Wiring.{its_turn, turn_bound, turn_done, turn_laid, turn_rest}
use Rattle.rina_dif.proofs.construction.lay_links.Goals as goal

pub returns-in_err-pair-clause-laid : goal.returns-in_err-pair-clause-laid
returns-in_err-pair-clause-laid g c =
    let seen = g.F.Facility.seen in
    let plan = c.args.plan.now in
    let d = c.args.dif.now in
    let s = c.args.settings.now in
    let i = c.loop-link.link-index in
    let held = c.loop-link.invariant in
    let turn = its_turn plan d c.as_slice-link-items.result.now i c.in_ok-fixed.fixed _ c.as_slice-link-items.ensures c.loop-link-test.true c.in_ok-fixed.ensures in
    turn_laid plan d s i c.in_ok-fixed.fixed (seen c.args.below.now) (seen c.loop-link.below) (seen c.lay_link.new.below) turn c.requires.plan c.requires.settings (g.met.F.Facility.kept c.loop-link.below held.valid) (g.met.F.Facility.kept c.lay_link.new.below c.lay_link.ensures.valid) held.laid held.rest c.requires.takes c.lay_link.ensures.may

pub returns-in_err-push-clause-laid : goal.returns-in_err-push-clause-laid
returns-in_err-push-clause-laid g c =
    let seen = g.F.Facility.seen in
    let plan = c.args.plan.now in
    let d = c.args.dif.now in
    let s = c.args.settings.now in
    let i = c.loop-link.link-index in
    let held = c.loop-link.invariant in
    let turn = its_turn plan d c.as_slice-link-items.result.now i c.in_ok-fixed.fixed _ c.as_slice-link-items.ensures c.loop-link-test.true c.in_ok-fixed.ensures in
    turn_laid plan d s i c.in_ok-fixed.fixed (seen c.args.below.now) (seen c.loop-link.below) (seen c.lay_link.new.below) turn c.requires.plan c.requires.settings (g.met.F.Facility.kept c.loop-link.below held.valid) (g.met.F.Facility.kept c.lay_link.new.below c.lay_link.ensures.valid) held.laid held.rest c.requires.takes c.lay_link.ensures.may

pub returns-in_err-push-clause-below : goal.returns-in_err-push-clause-below
returns-in_err-push-clause-below g c = g.met.F.Facility.same_trans c.args.below.now c.loop-link.below c.lay_link.new.below c.loop-link.invariant.same c.lay_link.ensures.below

pub loop-link-preserved : goal.loop-link-preserved
loop-link-preserved g c =
    let seen = g.F.Facility.seen in
    let plan = c.args.plan.now in
    let d = c.args.dif.now in
    let s = c.args.settings.now in
    let i = c.loop-link.link-index in
    let held = c.loop-link.invariant in
    let valid = c.lay_link.ensures.valid in
    let kept = g.met.F.Facility.kept c.lay_link.new.below valid in
    let lays = c.in_ok-pair.ensures.ok in
    let pair = c.in_ok-pair.pair in
    let turn = its_turn plan d c.as_slice-link-items.result.now i c.in_ok-fixed.fixed _ c.as_slice-link-items.ensures c.loop-link-test.true c.in_ok-fixed.ensures in
    record {
      valid = valid;
      same = g.met.F.Facility.same_trans c.args.below.now c.loop-link.below c.lay_link.new.below held.same c.lay_link.ensures.below;
      laid = turn_laid plan d s i c.in_ok-fixed.fixed (seen c.args.below.now) (seen c.loop-link.below) (seen c.lay_link.new.below) turn c.requires.plan c.requires.settings (g.met.F.Facility.kept c.loop-link.below held.valid) kept held.laid held.rest c.requires.takes c.lay_link.ensures.may;
      rest = turn_rest plan d s i c.in_ok-fixed.fixed (seen c.loop-link.below) (seen c.lay_link.new.below) pair c.loop-link.processes c.lay_link.new.processes turn held.rest lays;
      done = subst (λ (ps : List (Port × Port)). AreLaid plan d s (take (i + 1) d.links) (seen c.args.below.now) (seen c.lay_link.new.below) ps c.lay_link.new.processes) (sym c.in_ok-push.ensures.ok) (turn_done plan d s i c.in_ok-fixed.fixed (seen c.args.below.now) (seen c.loop-link.below) (seen c.lay_link.new.below) pair c.loop-link.ports c.loop-link.processes c.lay_link.new.processes turn c.requires.plan c.requires.settings (g.met.F.Facility.kept c.loop-link.below held.valid) kept held.rest held.done lays);
      whole = turn_bound g.F.Facility.does_bind plan d i c.in_ok-fixed.fixed c.args.below.now c.loop-link.below c.lay_link.new.below turn held.whole c.in_ok-pair.ensures.whole;
    }
