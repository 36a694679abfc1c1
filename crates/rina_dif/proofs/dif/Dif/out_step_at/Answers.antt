use Rattle.rina_dif.proofs.Leaves.{dif_outs, has_process, leaves_hold, will_go}
use Rattle.rina_dif.proofs.Elsewhere.{by_process}
use Rattle.rina_dif.proofs.dif.Dif.out_step_at.Goals as goal

pub out_step-requires-clause-can : goal.out_step-requires-clause-can
out_step-requires-clause-can g c = will_go c.args.self.now (g.F.Facility.seen c.args.below.now) c.args.at c.args.link c.requires.stands

pub returns-clause-does : goal.returns-clause-does
returns-clause-does g c = dif_outs (g.F.Facility.refuses_send c.args.below.now) c.args.self.now (g.F.Facility.seen c.args.below.now) c.args.at c.args.link c.out_step.result c.out_step.new.self (g.F.Facility.seen c.out_step.new.below) c.requires.stands c.requires.at c.out_step.ensures.does

pub returns-clause-keeps : goal.returns-clause-keeps
returns-clause-keeps g c = leaves_hold (g.F.Facility.refuses_send c.args.below.now) c.args.self.now (g.F.Facility.seen c.args.below.now) c.args.at c.args.link c.out_step.result c.out_step.new.self (g.F.Facility.seen c.out_step.new.below) (g.met.F.Facility.kept c.args.below.now c.requires.valid) (g.met.F.Facility.kept c.out_step.new.below c.out_step.ensures.valid) c.requires.at c.out_step.ensures.does

pub returns-clause-leaves : goal.returns-clause-leaves
returns-clause-leaves g c =
    let d = c.args.self.now in
    let p = has_process d (g.F.Facility.seen c.args.below.now) c.args.at c.requires.stands c.requires.at in
    let x = c.out_step.ensures.does p.0 p.1 in
    by_process d.processes c.out_step.new.self c.args.at p.0 x.0 p.1 x.2 x.3
